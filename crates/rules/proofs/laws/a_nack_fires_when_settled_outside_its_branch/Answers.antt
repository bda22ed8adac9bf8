use Rattle.rules.proofs.Nacked.{nack_law, void_law}
use Rattle.rules.proofs.laws.a_nack_fires_when_settled_outside_its_branch.Goals as goal

pub returns : goal.returns
returns g c = record { made = nack_law _; void = void_law _ }
