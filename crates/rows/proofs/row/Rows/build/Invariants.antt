use Rattle.std.specs.Prelude.{take}
use Rattle.grammar.specs.Parts.{parts_of}
use Rattle.rows.specs.Tables.{table}
use Rattle.rows.proofs.Building.{SoFar}
use Rattle.rows.proofs.row.Rows.build.Given as goal

abbrev pub invariant-loop-part : goal.invariant-loop-part
invariant-loop-part g l = SoFar g.M.Literal.literal (parts_of (take l.part-index l.parts)) (table l.rows)
