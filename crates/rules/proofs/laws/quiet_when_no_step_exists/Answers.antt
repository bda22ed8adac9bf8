use Rattle.rules.proofs.Quiet.{quiet_law}
use Rattle.rules.proofs.laws.quiet_when_no_step_exists.Goals as goal

pub returns : goal.returns
returns g c = quiet_law _
