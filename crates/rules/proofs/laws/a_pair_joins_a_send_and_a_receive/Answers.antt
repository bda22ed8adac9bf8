use Rattle.rules.proofs.Settlements.{pairs_join}
use Rattle.rules.proofs.laws.a_pair_joins_a_send_and_a_receive.Goals as goal

pub returns : goal.returns
returns g c = pairs_join _
