use Rattle.rules.proofs.Once.{settled_once}
use Rattle.rules.proofs.laws.no_sync_is_settled_twice.Goals as goal

pub returns : goal.returns
returns g c = settled_once _
