use Rattle.passes.proofs.Declaring.{knows_next}
use Rattle.passes.proofs.names.all_declared.Goals as goal

pub loop-part-preserved : goal.loop-part-preserved
loop-part-preserved c fair = knows_next c.args.parts.now c.loop-part.part-index _ c.loop-part-test.true fair c.loop-part.declared c.declare.new.self c.declare.result c.declare.ensures (c.loop-part.invariant fair)
