use Rattle.kinds.proofs.Messages.{messages_push}
use Rattle.kinds.proofs.ring.Ring.push.Goals as goal

pub returns : goal.returns
returns g c = λ d. messages_push d c.args.cells.now c.args.self.now.first c.args.self.now.count c.args.message c.requires.room c.requires.cells
