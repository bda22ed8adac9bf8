use Rattle.grammar.specs.Parts.{parts_of}
use Rattle.passes.specs.Ranges.{AllRanged}
use Rattle.passes.specs.Declarations.{Knows}
use Rattle.passes.proofs.names.all_declared.Given as goal

abbrev pub invariant-loop-part : goal.invariant-loop-part
invariant-loop-part l = AllRanged (parts_of l.parts) → Knows (parts_of l.parts) l.part-index l.declared
