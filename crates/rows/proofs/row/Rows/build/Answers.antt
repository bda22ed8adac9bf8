use Rattle.std.proofs.Common.{ap, subst}
use Rattle.std.proofs.lemmas.List.{take_all}
use Rattle.grammar.specs.Parts.{parts_of}
use Rattle.rows.specs.Tables.{table}
use Rattle.rows.proofs.Building.{SoFar, so_far_more, so_far_all, told_more}
use Rattle.rows.proofs.row.Rows.build.Goals as goal

pub loop-part-preserved : goal.loop-part-preserved
loop-part-preserved g c =
    so_far_more g.M.Literal.literal _ _ _ _ _ (told_more c.args.parts.now c.loop-part.part-index _ c.loop-part-test.true) c.in_ok-add_part.ensures c.loop-part.invariant

pub returns : goal.returns
returns g c =
    let all = ap parts_of (take_all c.loop-part.part-index c.args.parts.now c.loop-part-test.false) in
    so_far_all g.M.Literal.literal g.met.M.Literal.one (parts_of c.args.parts.now) c.loop-part.rows
    (subst (λ ps. SoFar g.M.Literal.literal ps (table c.loop-part.rows)) all c.loop-part.invariant)
