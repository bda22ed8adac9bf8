use Rattle.std.proofs.Common.{◌≡◌, ℕ, Bool, List, is_ok, Ok, Err, IsTrue, ◌↔◌, Result}
use Rattle.std.proofs.lemmas.Bool.{both_ways}
use Rattle.message.specs.declared.literal.LiteralFault.{LiteralFault}
use Rattle.message.specs.declared.weight.Weight.{Weight}
use Rattle.message.specs.Literals.{Reads}
use Rattle.message.specs.Weights.{weight, weight_literal}
use Rattle.passes.specs.Ranges.{SignedNumber}
use Rattle.passes.proofs.ranges.is_in_range.Goals as goal

signed_decides : (s : List ℕ) (r : Result Weight LiteralFault) (b : Bool) → b ≡ is_ok r → Reads weight_literal s r → IsTrue b ↔ SignedNumber s
signed_decides s (Ok w) b e h = (λ _. (w.value, w.fits, h), λ _. e)
signed_decides s (Err fault) b e h = (λ t. absurd (both_ways b e t), λ n. absurd (h.0 (weight n.0 n.1) n.2))

pub returns-in-Addend : goal.returns-in-Addend
returns-in-Addend c = rw c.in-Addend.is (signed_decides c.args.bytes.now c.read.result c.is_ok.result c.is_ok.ensures.value c.read.ensures)
