-- A ticket: a gross weight and a tare, written with a slash between them.
use Rattle.std.specs.Prelude.{ℕ, List, ◌∷◌, ◌++◌, ℤ, ◌-ℤ◌}
use Rattle.message.specs.declared.kind.Sign.{Sign}
use Rattle.message.specs.declared.joined.Joined.{Joined}
use Rattle.message.specs.declared.weight.Weight.{Weight}
use Rattle.message.specs.declared.ticket.Ticket.{Ticket}
use Rattle.message.specs.Signs.{sign_of}
use Rattle.message.specs.Weights.{weight_blank, weight_literal, weight_plus}

abbrev pub ticket_blank : Ticket
ticket_blank = record { gross = weight_blank; tare = weight_blank }

abbrev pub ticket_parts : Ticket → Joined Weight Weight
ticket_parts t = record { left = t.gross; right = t.tare }

abbrev pub ticket_literal : Ticket → List ℕ
ticket_literal t = weight_literal t.gross ++ (47 ∷ weight_literal t.tare)

-- a number is added to the tare
abbrev pub ticket_plus : Ticket → ℤ → Ticket
ticket_plus t k = record { gross = t.gross; tare = weight_plus t.tare k }

-- the sign of the exact net weight
abbrev pub ticket_sign : Ticket → Sign
ticket_sign t = sign_of (t.gross.value -ℤ t.tare.value)
