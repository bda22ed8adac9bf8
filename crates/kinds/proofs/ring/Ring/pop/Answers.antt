use Rattle.kinds.proofs.Messages.{ring_pop}
use Rattle.kinds.proofs.ring.Ring.pop.Goals as goal

pub returns : goal.returns
returns c = ring_pop c.args.self.now.first c.args.self.now.count c.requires
