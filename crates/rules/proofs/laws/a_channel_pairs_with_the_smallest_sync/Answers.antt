use Rattle.rules.proofs.DeliveredKinds.{channel_law}
use Rattle.rules.proofs.laws.a_channel_pairs_with_the_smallest_sync.Goals as goal

pub returns : goal.returns
returns c = channel_law
