-- A ticket's literal tells which ticket it is, and is plain and short.
use Rattle.std.specs.Prelude.{◌≡◌, ◌≤◌, ◌∷◌, length, ◌≢◌}
use Rattle.std.proofs.Common.{ap, arith, length-append}
use Rattle.message.specs.declared.weight.Weight.{Weight}
use Rattle.message.specs.declared.ticket.Ticket.{Ticket}
use Rattle.message.specs.declared.joined.Joined.{Joined}
use Rattle.message.specs.Weights.{weight_literal}
use Rattle.message.specs.Tickets.{ticket_parts, ticket_literal}
use Rattle.message.specs.Literals.{Plain, longest_literal}
use Rattle.message.specs.Joins.{Free}
use Rattle.message.specs.Plains.{signed_all, signed_plain, signed_short, plain_mark, free_from_all}
use Rattle.message.specs.Joining.{joined_one, joined_plain}
use Rattle.message.specs.Weighing.{weight_one}

pub weight_free : (w : Weight) → Free 47 (weight_literal w)
weight_free w = free_from_all 47 (weight_literal w) (signed_all (λ x. x ≢ 47) (λ e. omega arith) (λ d lo hi e. omega arith) w.value w.fits)

abbrev pub ticket : Joined Weight Weight → Ticket
ticket j = record { gross = j.left; tare = j.right }

pub ticket_one : (a b : Ticket) → ticket_literal a ≡ ticket_literal b → a ≡ b
ticket_one a b e = ap ticket (joined_one weight_literal 47 weight_literal weight_free weight_one weight_one (ticket_parts a) (ticket_parts b) e)

pub ticket_plain : (t : Ticket) → Plain (ticket_literal t)
ticket_plain t =
    joined_plain (weight_literal t.gross) 47 (weight_literal t.tare)
    (signed_plain t.gross.value t.gross.fits) (plain_mark 47 (omega arith) (omega arith)) (signed_plain t.tare.value t.tare.fits)

pub ticket_short : (t : Ticket) → length (ticket_literal t) ≤ longest_literal
ticket_short t =
    omega (arith, length-append (weight_literal t.gross) (47 ∷ weight_literal t.tare), signed_short t.gross.value t.gross.fits, signed_short t.tare.value t.tare.fits)
