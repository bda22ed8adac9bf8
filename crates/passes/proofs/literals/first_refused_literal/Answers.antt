use Rattle.std.proofs.Common.{List, ℕ}
use Rattle.grammar.specs.Grammar.{Part}
use Rattle.grammar.specs.Parts.{bytes}
use Rattle.passes.specs.Messages.{MessageFor}
use Rattle.passes.proofs.Firsts.{part_passed}
use Rattle.passes.proofs.literals.first_refused_literal.Goals as goal

abbrev Unwritten : {M : Type 0} → (M → List ℕ) → Part → Type 0
Unwritten literal p = MessageFor literal p.purpose (bytes p) → ⊥

pub loop-token-preserved : goal.loop-token-preserved
loop-token-preserved g c = part_passed (Unwritten g.M.Literal.literal) (λ q. q tt) c.args.parts.now c.loop-token.token _ c.loop-token-test.true c.loop-token.invariant (λ q. q c.in_default.ensures)
