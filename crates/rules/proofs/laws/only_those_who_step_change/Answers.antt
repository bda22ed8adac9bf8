use Rattle.rules.proofs.Framing.{frame_law}
use Rattle.rules.proofs.laws.only_those_who_step_change.Goals as goal

pub returns : goal.returns
returns g c = frame_law _
