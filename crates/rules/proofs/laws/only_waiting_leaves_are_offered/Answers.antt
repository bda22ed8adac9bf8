use Rattle.rules.proofs.Offering.{offers_law}
use Rattle.rules.proofs.laws.only_waiting_leaves_are_offered.Goals as goal

pub returns : goal.returns
returns g c = offers_law _
