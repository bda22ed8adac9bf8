use Rattle.replay.proofs.Stamping.{stamp_law}
use Rattle.replay.proofs.laws.starts_and_steps_stamp.Goals as goal

pub returns : goal.returns
returns g c = stamp_law _
