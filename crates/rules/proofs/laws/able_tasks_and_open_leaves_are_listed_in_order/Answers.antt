use Rattle.rules.proofs.Listing.{listed_law}
use Rattle.rules.proofs.laws.able_tasks_and_open_leaves_are_listed_in_order.Goals as goal

pub returns : goal.returns
returns g c = listed_law _
