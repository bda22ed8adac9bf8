use Rattle.rules.proofs.Dues.{soonest_law}
use Rattle.rules.proofs.laws.the_soonest_due_time_is_the_smallest.Goals as goal

pub returns : goal.returns
returns g c = soonest_law _
