use Rattle.std.proofs.Common.{rules, tests}
use Rattle.std.proofs.lemmas.Iterator.{IsFirst-from_position, YieldsList-from_slice}
use Rattle.grammar.specs.declared.part.Part as code
use Rattle.grammar.specs.Grammar.{Part}
use Rattle.grammar.specs.Parts.{told, bytes}
use Rattle.passes.specs.Ranges.{Ranged}
use Rattle.passes.proofs.Firsts.{position_first}
use Rattle.passes.proofs.ranges.first_out_of_range.Goals as goal

abbrev Unranged : Part → Type 0
Unranged p = Ranged p.purpose (bytes p) → ⊥

pub returns : goal.returns
returns c =
    let Yes : code.Part → Type 0 = λ p. Unranged (told p) in
    let No : code.Part → Type 0 = λ p. Unranged (told p) → ⊥ in
    position_first Unranged (λ h. h tt) c.args.parts.now c.position.result
    (IsFirst-from_position _ _ c.position.result Yes No c.position.ensures.ran (YieldsList-from_slice c.args.parts.now cc) (λ x q k. search (rules, tests)) (λ x q k. search (rules, tests)))
