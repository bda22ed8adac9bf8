use Rattle.grammar.specs.Parts.{parts_of}
use Rattle.passes.specs.Ranges.{AllRanged}
use Rattle.passes.specs.Names.{Misnamed}
use Rattle.passes.specs.Declarations.{Knows}
use Rattle.passes.proofs.Firsts.{Passed}
use Rattle.passes.proofs.names.first_misnamed.Given as goal

abbrev pub invariant-loop-i : goal.invariant-loop-i
invariant-loop-i l = AllRanged (parts_of l.parts) → Knows (parts_of l.parts) l.i l.seen × Passed (Misnamed (parts_of l.parts)) l.i
