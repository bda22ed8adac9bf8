-- The five delivered kinds.
use Rattle.std.specs.Prelude.{ℕ, Bool, true, false, cond, not, ◌&&◌, ◌||◌, List, [], ◌∷◌, filter, ◌==◌, nat_le, nat_lt}
use Rattle.grammar.specs.declared.words.PortKind.TheVariants.{Channel, Mailbox, Ivar, Mvar}
use Rattle.rules.specs.declared.kind.BaseKind.{BaseKind}
use Rattle.rules.specs.declared.kind.BaseKind.TheVariants.{Port, Timeout}
use Rattle.rules.specs.declared.offer.Side.{Side}
use Rattle.rules.specs.declared.offer.Side.TheVariants.{Give, Take}
use Rattle.rules.specs.declared.offer.Offer.{Offer}
use Rattle.rules.specs.declared.offer.Reply.{Reply}
use Rattle.rules.specs.declared.offer.Reply.TheVariants.{Closed, Alone, With}
use Rattle.rules.specs.Kinds.{Kind, other}

abbrev pub is_side : Side → Side → Bool
is_side Give Give = true
is_side Give Take = false
is_side Take Give = false
is_side Take Take = true

abbrev pub same_offer : Offer → Offer → Bool
same_offer o q = o.sync == q.sync && (o.leaf == q.leaf && (o.port == q.port && (is_side o.side q.side && o.due == q.due)))

abbrev pub among : Offer → List Offer → Bool
among o [] = false
among o (q ∷ qs) = same_offer o q || among o qs

-- An offer that does not wait is closed.
abbrev pub if_waits : Offer → List Offer → Reply → Reply
if_waits o os r = cond (among o os) r Closed

-- a possible partner
abbrev pub fits : Offer → Offer → Bool
fits o q = not (q.sync == o.sync) && (q.port == o.port && is_side q.side (other o.side))

-- the smaller sync number, then the smaller leaf number
abbrev pub sooner : Offer → Offer → Bool
sooner o q = nat_lt o.sync q.sync || (o.sync == q.sync && nat_lt o.leaf q.leaf)

abbrev pub soonest_of : Offer → List Offer → Offer
soonest_of q [] = q
soonest_of q (r ∷ rs) = soonest_of (cond (sooner r q) r q) rs

abbrev pub with_soonest : List Offer → Reply
with_soonest [] = Closed
with_soonest (q ∷ qs) = With (soonest_of q qs).sync (soonest_of q qs).leaf

abbrev pub alone_if : Bool → Reply
alone_if true = Alone
alone_if false = Closed

-- alone, for a give if there is room, for a take if there is something
abbrev pub by_side : Side → Bool → Bool → Reply
by_side Give room some = alone_if room
by_side Take room some = alone_if some

-- Never alone; of the possible partners, the one with the smallest sync number, then leaf.
abbrev pub channel : Kind
channel = record { poll = λ os h k o. if_waits o os (with_soonest (filter (fits o) os)); holds = false; keeps = false }

-- A give alone below the limit; a take alone when something is held, which is then lost.
abbrev pub mailbox : ℕ → Kind
mailbox limit = record { poll = λ os h k o. if_waits o os (by_side o.side (nat_lt (h o.port) limit) (nat_lt 0 (h o.port))); holds = true; keeps = false }

-- A give alone while empty, a take alone while full; a take keeps the message or loses it.
abbrev pub variable : Bool → Kind
variable keeps = record { poll = λ os h k o. if_waits o os (by_side o.side (h o.port == 0) (nat_lt 0 (h o.port))); holds = true; keeps = keeps }

abbrev pub ivar : Kind
ivar = variable true

abbrev pub mvar : Kind
mvar = variable false

-- A take, alone when the clock is at or past its due time.
abbrev pub timeout : Kind
timeout = record { poll = λ os h k o. if_waits o os (by_side o.side false (nat_le o.due k)); holds = false; keeps = false }

-- the delivered kinds, where a mailbox may hold `limit` messages
abbrev pub delivered : ℕ → BaseKind → Kind
delivered limit (Port Channel) = channel
delivered limit (Port Mailbox) = mailbox limit
delivered limit (Port Ivar) = ivar
delivered limit (Port Mvar) = mvar
delivered limit Timeout = timeout
