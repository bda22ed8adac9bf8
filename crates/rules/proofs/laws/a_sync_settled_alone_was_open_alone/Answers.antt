use Rattle.rules.proofs.Settlements.{ones_settle}
use Rattle.rules.proofs.laws.a_sync_settled_alone_was_open_alone.Goals as goal

pub returns : goal.returns
returns g c = ones_settle _
