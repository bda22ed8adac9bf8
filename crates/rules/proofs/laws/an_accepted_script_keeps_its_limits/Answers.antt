use Rattle.rules.proofs.Limiting.{limits_law}
use Rattle.rules.proofs.laws.an_accepted_script_keeps_its_limits.Goals as goal

pub returns : goal.returns
returns g c = limits_law _
