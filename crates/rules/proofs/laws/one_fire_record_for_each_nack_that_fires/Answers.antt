use Rattle.rules.proofs.Fires.{fire_law}
use Rattle.rules.proofs.laws.one_fire_record_for_each_nack_that_fires.Goals as goal

pub returns : goal.returns
returns g c = fire_law _
