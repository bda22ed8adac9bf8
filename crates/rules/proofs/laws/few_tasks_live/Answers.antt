use Rattle.rules.proofs.Live.{live_law}
use Rattle.rules.proofs.laws.few_tasks_live.Goals as goal

pub returns : goal.returns
returns g c = live_law _
