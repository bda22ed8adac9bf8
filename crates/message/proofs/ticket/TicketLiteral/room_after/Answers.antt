use Rattle.std.proofs.Common.{subst}
use Rattle.message.specs.declared.joined.Joined.{Joined}
use Rattle.message.specs.declared.weight.Weight.{Weight}
use Rattle.message.specs.Pages.{RoomAfter}
use Rattle.message.specs.Joins.{joined}
use Rattle.message.specs.Weights.{weight_literal}
use Rattle.message.proofs.ticket.TicketLiteral.room_after.Goals as goal

pub returns : goal.returns
returns c =
    let P : Joined Weight Weight → Type 0 = λ j. RoomAfter (joined weight_literal 47 weight_literal j) c.args.room c.room_after.result in
    subst P c.from.ensures (c.room_after.ensures 47)
