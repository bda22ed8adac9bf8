-- Which leaves are open, and which tasks are able.
use Rattle.std.specs.Prelude.{◌≡◌, ℕ, suc, ◌+◌, ◌≤◌, Bool, true, false, cond, ◌≢◌, List, [], ◌∷◌, ◌++◌, length, Some, None, filter, Option, ◌==◌, nat_le}
use mathlib.Core.List.{Memᴰ}
use Rattle.std.specs.List.{slice_get}
use Rattle.message.specs.declared.kind.Sign.{Sign}
use Rattle.grammar.specs.declared.words.PortKind.{PortKind}
use Rattle.grammar.specs.declared.words.PortKind.TheVariants.{Channel, Mailbox, Ivar, Mvar}
use Rattle.grammar.specs.Grammar as g
use Rattle.rows.specs.Scripts.{Instr}
use Rattle.rows.specs.Rows.{port_kind, find_body, bodies}
use Rattle.rules.specs.declared.kind.BaseKind.{BaseKind}
use Rattle.rules.specs.declared.kind.BaseKind.TheVariants.{Port, Timeout}
use Rattle.rules.specs.declared.nack.Nack.{Nack}
use Rattle.rules.specs.declared.nack.Nack.TheVariants.{Pending, Fired, Void}
use Rattle.rules.specs.declared.offer.Side.TheVariants.{Give, Take}
use Rattle.rules.specs.declared.offer.Offer.{Offer}
use Rattle.rules.specs.declared.offer.Reply.{Reply}
use Rattle.rules.specs.declared.offer.Reply.TheVariants.{Closed, Alone, With}
use Rattle.rules.specs.Kinds.{Kind, Meaning, polled}
use Rattle.rules.specs.States.{Setting, Base, always, send, recv, due, nack, Leaf, Wait, running, waiting, Task, State}
use Rattle.rules.specs.Evaluation.{nacks}

-- No more tasks may live at once.
abbrev pub most_tasks : ℕ
most_tasks = 64

-- what a task's place says

abbrev pub or_none : {X : Type 0} → Option (List X) → List X
or_none None = []
or_none (Some xs) = xs

-- the instruction at a task's place, or none past the last
abbrev pub instr_at : {M : Type 0} → Setting M → Task M → Option (Instr M)
instr_at w t = slice_get (or_none (find_body (bodies w.script) t.body)) t.place

abbrev pub sign_at : {M : Type 0} → Setting M → Task M → Sign
sign_at w t = w.messages.sign t.register

-- how many tasks an instruction would start
abbrev pub would_start : {M : Type 0} → Sign → Option (Instr M) → ℕ
would_start s None = 0
would_start s (Some g.emit) = 0
would_start s (Some g.again) = 0
would_start s (Some (g.spawn b)) = 1
would_start s (Some (g.sync e)) = length (nacks s e)

-- the offers of leaves

-- an offer, and the kind that it is made at
pub record Placed : Type 0 where
  pub kind : BaseKind
  pub offer : Offer

abbrev pub at_port : Option PortKind → Offer → Option Placed
at_port None o = None
at_port (Some k) o = Some (record { kind = Port k; offer = o })

-- what the leaf `i` of the sync `y` offers, if it is a send, a recv or a timeout
abbrev pub placed : {M : Type 0} → Setting M → ℕ → ℕ → Base M → Option Placed
placed w y i (always m) = None
placed w y i nack = None
placed w y i (send p) = at_port (port_kind w.script.ports p) (record { sync = y; leaf = i; port = p; side = Give; due = 0 })
placed w y i (recv p) = at_port (port_kind w.script.ports p) (record { sync = y; leaf = i; port = p; side = Take; due = 0 })
placed w y i (due d) = Some (record { kind = Timeout; offer = record { sync = y; leaf = i; port = 0; side = Take; due = d } })

abbrev pub rank : BaseKind → ℕ
rank (Port Channel) = 0
rank (Port Mailbox) = 1
rank (Port Ivar) = 2
rank (Port Mvar) = 3
rank Timeout = 4

abbrev pub is_kind : BaseKind → BaseKind → Bool
is_kind c d = rank c == rank d

abbrev pub offer_in : BaseKind → Option Placed → List Offer
offer_in c None = []
offer_in c (Some q) = cond (is_kind q.kind c) (q.offer ∷ []) []

-- the offers at the kind `c` of the sync `y`, its leaves numbered from `i`
abbrev pub offers_in : {M : Type 0} → Setting M → BaseKind → ℕ → ℕ → List (Leaf M) → List Offer
offers_in w c y i [] = []
offers_in w c y i (l ∷ ls) = offer_in c (placed w y i l.base) ++ offers_in w c y (suc i) ls

-- open leaves

abbrev pub poll_at : {M : Type 0} → Setting M → State M → Option Placed → Reply
poll_at w s None = Closed
poll_at w s (Some q) = polled (w.kinds q.kind) (s.means q.kind) q.offer

abbrev pub nack_reply : Nack → Reply
nack_reply Fired = Alone
nack_reply Void = Closed
nack_reply (Pending y b) = Closed

-- how the leaf `i` of a task's sync `y` stands: closed, open by itself, or open with a partner
abbrev pub reply : {M : Type 0} → Setting M → State M → Task M → ℕ → ℕ → Base M → Reply
reply w s t y i (always m) = Alone
reply w s t y i nack = nack_reply t.nack
reply w s t y i (send p) = poll_at w s (placed w y i (send p))
reply w s t y i (recv p) = poll_at w s (placed w y i (recv p))
reply w s t y i (due d) = poll_at w s (placed w y i (due d))

-- a live task waits in the sync `y`, and `l` is its leaf `i`
pub record Stands {M : Type 0} (s : State M) (t : Task M) (y i : ℕ) (l : Leaf M) : Type 0 where
  pub live : Memᴰ t s.tasks
  pub all : List (Leaf M)
  pub waits : t.wait ≡ waiting y all
  pub here : slice_get all i ≡ Some l

pub record Open {M : Type 0} (w : Setting M) (s : State M) (t : Task M) (y i : ℕ) (l : Leaf M) : Type 0 where
  pub stands : Stands s t y i l
  pub is_open : reply w s t y i l.base ≢ Closed

-- a live task does not wait, and what its instruction would start leaves at most so many live
pub record Ready {M : Type 0} (w : Setting M) (s : State M) (t : Task M) : Type 0 where
  pub live : Memᴰ t s.tasks
  pub runs : t.wait ≡ running
  pub room : length s.tasks + would_start (sign_at w t) (instr_at w t) ≤ most_tasks

pub data Able {M : Type 0} (w : Setting M) (s : State M) (t : Task M) : Type 0 where
  by_place : Ready w s t → Able w s t
  by_leaf : (y i : ℕ) (l : Leaf M) → Open w s t y i l → Able w s t

-- The same as lists, as a policy is shown them.

abbrev pub opens : Reply → Bool
opens Closed = false
opens Alone = true
opens (With z j) = true

-- the numbers of the open leaves, rising; those given are numbered from `i`
abbrev pub open_leaves : {M : Type 0} → Setting M → State M → Task M → ℕ → ℕ → List (Leaf M) → List ℕ
open_leaves w s t y i [] = []
open_leaves w s t y i (l ∷ ls) = cond (opens (reply w s t y i l.base)) (i ∷ open_leaves w s t y (suc i) ls) (open_leaves w s t y (suc i) ls)

abbrev pub some_in : {X : Type 0} → List X → Bool
some_in [] = false
some_in (x ∷ xs) = true

abbrev pub able_when : {M : Type 0} → Setting M → State M → Task M → Wait M → Bool
able_when w s t running = nat_le (length s.tasks + would_start (sign_at w t) (instr_at w t)) most_tasks
able_when w s t (waiting y ls) = some_in (open_leaves w s t y 0 ls)

-- the able tasks, by rising number
abbrev pub able_tasks : {M : Type 0} → Setting M → State M → List (Task M)
able_tasks w s = filter (λ t. able_when w s t t.wait) s.tasks

-- The soonest due time of the offers that are closed

abbrev pub sooner_of : ℕ → Option ℕ → Option ℕ
sooner_of d None = Some d
sooner_of d (Some e) = Some (cond (nat_le d e) d e)

abbrev pub soonest_closed : {X : Type 0} → Kind → Meaning X → List Offer → Option ℕ
soonest_closed K μ [] = None
soonest_closed K μ (o ∷ os) = cond (opens (polled K μ o)) (soonest_closed K μ os) (sooner_of o.due (soonest_closed K μ os))
