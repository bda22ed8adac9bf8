use Rattle.std.proofs.Common.{rules, None, [], ◌∷◌, ap, ◌∙◌, take, drop, length, ◌-◌, ◌-◌, List, ℕ}
use Rattle.std.proofs.lemmas.Bool.Decides.{Decides-eqb}
use Rattle.std.proofs.lemmas.Slice.{first_rest}
use Rattle.std.proofs.lemmas.Slice.Eq.{strip_prefix_is}
use Rattle.message.specs.Numerals.{LeadsNumber}
use Rattle.message.proofs.Weighing.{plus_longest, plus_found}
use Rattle.message.proofs.weight_kind.WeightLiteral.lead.Goals as goal

pub returns-in-None : goal.returns-in-None
returns-in-None c =
    let l : LeadsNumber c.args.s.now 2147483647 c.leading_number-length.result = rw c.unsigned_abs.ensures.value at c.leading_number-length.ensures in
    let bare = strip_prefix_is Decides-eqb c.args.s.now (45 ∷ []) None c.in-None.ensures.cases in
    let t : List ℕ = take (length c.args.s.now - 1) (drop 1 c.args.s.now) in
    record {
      longest = plus_longest c.args.s.now c.leading_number-length.result l (λ h e. bare t (first_rest c.args.s.now 0 h ∙ ap (λ b. b ∷ t) e));
      found = plus_found _ c.leading_number-length.result.value c.map.result l.found (λ n w le h. search rules) c.map.ensures.cases;
    }
