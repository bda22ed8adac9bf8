use Rattle.std.proofs.Common.{Some, sym, ap, ◌∙◌, arith}
use Rattle.std.proofs.lemmas.List.{get_or_read}
use Rattle.kinds.proofs.Messages.{messages_oldest}
use Rattle.kinds.proofs.ring.Ring.front.Goals as goal

pub returns : goal.returns
returns g c = λ d.
    let r = c.args.self in
    let cells = c.args.cells.now in
    let x = c.index-cells-self in
    let read = get_or_read cells r.first x.result (omega arith) x.is d in
    ap Some read ∙ sym (messages_oldest d cells r.first r.count r.inside c.requires.some)
