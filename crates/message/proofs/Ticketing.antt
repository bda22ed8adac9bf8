-- How far bytes agree with both parts is how far they agree with the ticket.
use Rattle.std.proofs.Common.{◌≡◌, ℕ, List, take, Some, None, Option, ap, ◌∙◌}
use Rattle.std.specs.Option.{MatchOption, IsSomeAnd}
use Rattle.message.specs.declared.literal.Lead.{Lead}
use Rattle.message.specs.declared.joined.Joined.{Joined}
use Rattle.message.specs.declared.weight.Weight.{Weight}
use Rattle.message.specs.declared.ticket.Ticket.{Ticket}
use Rattle.message.specs.Literals.{Longest, Found, Leads}
use Rattle.message.specs.Joins.{joined}
use Rattle.message.specs.Weights.{weight_literal}
use Rattle.message.specs.Tickets.{ticket_parts, ticket_literal}
use Rattle.message.specs.Ticketing.{ticket}

as_longest : (s : List ℕ) (k : ℕ) → Longest (joined weight_literal 47 weight_literal) s k → Longest ticket_literal s k
as_longest s k l = record {
  within = l.within;
  begins = (ticket l.begins.0, l.begins.1, l.begins.2);
  most = λ j le w. l.most j le (ticket_parts w.0, w.1, w.2);
}

as_found : {F : Joined Weight Weight → Ticket → Type 0} (s : List ℕ) (o : Option (Joined Weight Weight)) (r : Option Ticket) → Found (joined weight_literal 47 weight_literal) s o
    → ((j : Joined Weight Weight) (t : Ticket) → F j t → j ≡ ticket_parts t) → MatchOption o (r ≡ None) (λ j. IsSomeAnd r (F j)) → Found ticket_literal s r
as_found s (Some j) (Some t) found made m = found ∙ ap (joined weight_literal 47 weight_literal) (made j t m)
as_found s (Some j) None found made m = absurd m
as_found s None r found made m = rw m (λ t e. found (ticket_parts t) e)

pub as_ticket : {F : Joined Weight Weight → Ticket → Type 0} (s : List ℕ) (l : Lead (Joined Weight Weight)) (r : Option Ticket) → Leads (joined weight_literal 47 weight_literal) s l
    → ((j : Joined Weight Weight) (t : Ticket) → F j t → j ≡ ticket_parts t) → MatchOption l.value (r ≡ None) (λ j. IsSomeAnd r (F j)) → Leads ticket_literal s (record { length = l.length; value = r })
as_ticket s l r h made m = record { longest = as_longest s l.length h.longest; found = as_found (take l.length s) l.value r h.found made m }
