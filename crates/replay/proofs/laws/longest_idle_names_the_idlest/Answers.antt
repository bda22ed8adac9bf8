use Rattle.replay.proofs.Idlest.{longest_idle_law}
use Rattle.replay.proofs.laws.longest_idle_names_the_idlest.Goals as goal

pub returns : goal.returns
returns g c = longest_idle_law _
