-- What holds of every run, whatever the script, the messages and the base event kinds.
use Rattle.std.specs.Prelude.{◌≡◌, ℕ, suc, ◌+◌, ◌<◌, ◌≤◌, true, false, ◌≢◌, ◌⊎◌, ◌↔◌, List, [], ◌∷◌, ◌++◌, map, length, Some, None, filter, nat_eq}
use mathlib.Core.List.{Memᴰ}
use Rattle.std.specs.List.{range_with_len, AllByRecursion}
use Rattle.rows.specs.Rows.{port_kind}
use Rattle.rows.specs.Scripts as script
use Rattle.trace.specs.declared.record.Event.{Event}
use Rattle.trace.specs.declared.record.Event.TheVariants as line
use Rattle.trace.specs.declared.record.Record.{Record}
use Rattle.grammar.specs.Grammar as g
use Rattle.grammar.specs.declared.words.PortKind.{PortKind}
use Rattle.grammar.specs.declared.words.PortKind.TheVariants.{Channel, Mailbox, Ivar, Mvar}
use Rattle.rules.specs.declared.kind.BaseKind.{BaseKind}
use Rattle.rules.specs.declared.kind.BaseKind.TheVariants.{Port, Timeout}
use Rattle.rules.specs.declared.nack.Nack.TheVariants.{Fired}
use Rattle.rules.specs.declared.offer.Side.TheVariants.{Give, Take}
use Rattle.rules.specs.declared.offer.Offer.{Offer}
use Rattle.rules.specs.declared.offer.Reply.TheVariants.{Closed, Alone, With}
use Rattle.rules.specs.Kinds.{Kind, Meaning, Lawful, Partner, polled, oldest, accepts}
use Rattle.rules.specs.Delivered.{channel, delivered}
use Rattle.rules.specs.States.{Setting, Base, always, send, recv, due, nack, Leaf, running, waiting, Task, State}
use Rattle.rules.specs.Limits.{Limited}
use Rattle.rules.specs.Branches.{branches}
use Rattle.rules.specs.Able.{instr_at, sign_at, Stands, Open, Able, able_tasks, open_leaves, offers_in, reply, soonest_closed, most_tasks}
use Rattle.rules.specs.Settling.{acted, or_blank}
use Rattle.rules.specs.Steps.{Move, runs, settles, Step, ends, emits, returns, spawns, syncs, settles_one, settles_pair}
use Rattle.rules.specs.Runs.{posting, post_reply, Act, steps, posts, clocks, Run}

-- every kind of the setting keeps the laws, where a port may hold `limit` messages
abbrev pub LawfulKinds : {M : Type 0} → ℕ → Setting M → Type 0
LawfulKinds limit w = (c : BaseKind) → Lawful limit (w.kinds c)

abbrev pub happenings : {M : Type 0} → List (Record M) → List (Event M)
happenings tr = map (λ r. r.event) tr

-- Settling

-- the syncs that a record settles
abbrev pub settled_by : {M : Type 0} → Event M → List ℕ
settled_by (line.Start t b f y) = []
settled_by (line.Step t p m) = []
settled_by (line.Emit t p m) = []
settled_by (line.Sync t y n) = []
settled_by (line.One t y i m) = y ∷ []
settled_by (line.Pair g y i z j m) = y ∷ (z ∷ [])
settled_by (line.Fire t y) = []
settled_by (line.End t) = []
settled_by (line.Post p m) = []
settled_by line.Clock = []

-- what each of the records has, in order
abbrev pub each_of : {M X : Type 0} → (Event M → List X) → List (Event M) → List X
each_of f [] = []
each_of f (r ∷ rs) = f r ++ each_of f rs

abbrev pub settled_in : {M : Type 0} → List (Event M) → List ℕ
settled_in rs = each_of settled_by rs

abbrev pub Distinct : List ℕ → Type 0
Distinct [] = Unit {0}
Distinct (x ∷ xs) = (Memᴰ x xs → ⊥) × Distinct xs

-- No sync number is settled twice.
abbrev pub SettledOnce : Type 0 → Type 0
SettledOnce M = (limit : ℕ) (w : Setting M) → LawfulKinds limit w → (tr : List (Record M)) (s : State M) → Run w tr s
    → Distinct (settled_in (happenings tr))

-- what a task is after its sync is settled at a leaf, with a result
pub record WentOn {M : Type 0} (w : Setting M) (t : Task M) (l : Leaf M) (m : M) (s' : State M) : Type 0 where
  pub task : Task M
  pub live : Memᴰ task s'.tasks
  pub number : task.number ≡ t.number
  pub body : task.body ≡ t.body
  pub place : task.place ≡ suc t.place
  pub register : task.register ≡ acted w.messages l.wraps m
  pub runs : task.wait ≡ running

-- The pair joins one waiting send and one waiting receive of two tasks on one port; the taker's result is the giver's register, which the record shows, and the giver's is blank.
pub record Joins {M : Type 0} (w : Setting M) (s s' : State M) (n y i z j : ℕ) (m : M) : Type 0 where
  pub giver : Task M
  pub taker : Task M
  pub its_number : giver.number ≡ n
  pub two : giver.number ≢ taker.number
  pub two_syncs : y ≢ z
  pub port : ℕ
  pub gives_at : Leaf M
  pub takes_at : Leaf M
  pub gives : Stands s giver y i gives_at
  pub takes : Stands s taker z j takes_at
  pub a_send : gives_at.base ≡ send port
  pub a_recv : takes_at.base ≡ recv port
  pub message : m ≡ giver.register
  pub giver_after : WentOn w giver gives_at w.messages.blank s'
  pub taker_after : WentOn w taker takes_at giver.register s'

abbrev pub PairsJoin : Type 0 → Type 0
PairsJoin M = (limit : ℕ) (w : Setting M) → LawfulKinds limit w → (tr : List (Record M)) (s s' : State M) → Run w tr s → (rs : List (Event M)) → Act w s rs s'
    → (n y i z j : ℕ) (m : M) → Memᴰ (line.Pair n y i z j m) rs → Joins w s s' n y i z j m

-- what a leaf settled alone shows, and its result: a literal; what its port holds longest, or blank where nothing is held; and for a give the message given, with a blank result
pub data AloneGives {M : Type 0} (w : Setting M) (s : State M) (t : Task M) (b : Base M) (shows is : M) : Type 0 where
  of_always : (m : M) → b ≡ always m → shows ≡ m → is ≡ m → AloneGives w s t b shows is
  of_nack : b ≡ nack → t.nack ≡ Fired → shows ≡ w.messages.blank → is ≡ w.messages.blank → AloneGives w s t b shows is
  of_send : (p : ℕ) → b ≡ send p → shows ≡ t.register → is ≡ w.messages.blank → AloneGives w s t b shows is
  of_recv : (p : ℕ) (k : PortKind) → b ≡ recv p → port_kind w.script.ports p ≡ Some k → shows ≡ is → is ≡ or_blank w (oldest ((s.means (Port k)).held p)) → AloneGives w s t b shows is
  of_timeout : (d : ℕ) → b ≡ due d → shows ≡ w.messages.blank → is ≡ w.messages.blank → AloneGives w s t b shows is

-- The sync was that of a waiting task, settled at a leaf open alone.
pub record SettlesAlone {M : Type 0} (w : Setting M) (s s' : State M) (n y i : ℕ) (m : M) : Type 0 where
  pub task : Task M
  pub its_number : task.number ≡ n
  pub leaf : Leaf M
  pub stands : Stands s task y i leaf
  pub is_alone : reply w s task y i leaf.base ≡ Alone
  pub result : M
  pub gives : AloneGives w s task leaf.base m result
  pub after : WentOn w task leaf result s'

abbrev pub OnesSettle : Type 0 → Type 0
OnesSettle M = (w : Setting M) (tr : List (Record M)) (s s' : State M) → Run w tr s → (rs : List (Event M)) → Act w s rs s'
    → (n y i : ℕ) (m : M) → Memᴰ (line.One n y i m) rs → SettlesAlone w s s' n y i m

-- The offers that wait are just those of the leaves of the tasks that wait, a sync's in the order of its leaves; so no enrolment was refused, and what was settled was withdrawn.
pub record Offered {M : Type 0} (w : Setting M) (s : State M) (c : BaseKind) : Type 0 where
  pub waits : (t : Task M) (y : ℕ) (ls : List (Leaf M)) → Memᴰ t s.tasks → t.wait ≡ waiting y ls
      → filter (λ o. nat_eq o.sync y) (s.means c).offers ≡ offers_in w c y 0 ls
  pub owned : (o : Offer) → Memᴰ o (s.means c).offers
      → (t : Task M) × (ls : List (Leaf M)) × Memᴰ t s.tasks × (t.wait ≡ waiting o.sync ls)

abbrev pub OffersLaw : Type 0 → Type 0
OffersLaw M = (w : Setting M) → Limited w.script → (tr : List (Record M)) (s : State M) → Run w tr s
    → (c : BaseKind) → Offered w s c

-- There is always room to enrol a post; so with the delivered kinds a post is possible at a mailbox exactly while it holds fewer than its limit.
pub record PostTold {M : Type 0} (w : Setting M) (s : State M) (p : ℕ) : Type 0 where
  pub room : accepts (s.means (Port Mailbox)).offers (posting p) ≡ true
  pub possible : (limit : ℕ) → w.kinds ≡ delivered limit → (post_reply w s p ≡ Alone) ↔ (length ((s.means (Port Mailbox)).held p) < limit)

abbrev pub PostsLaw : Type 0 → Type 0
PostsLaw M = (w : Setting M) → Limited w.script → (tr : List (Record M)) (s : State M) → Run w tr s → (p : ℕ) → PostTold w s p

-- Steps

-- each is smaller than all after it
abbrev pub Rising : List ℕ → Type 0
Rising [] = Unit {0}
Rising (x ∷ xs) = AllByRecursion (λ y. x < y) xs × Rising xs

abbrev pub of_move : Move → ℕ
of_move (runs n) = n
of_move (settles n i) = n

pub record HasStep {M : Type 0} (w : Setting M) (s : State M) (v : Move) : Type 0 where
  pub records : List (Event M)
  pub next : State M
  pub steps : Step w s v records next

-- The rules allow a step to exactly the able tasks.
abbrev pub StepsOfAble : Type 0 → Type 0
StepsOfAble M = (limit : ℕ) (w : Setting M) → LawfulKinds limit w → (tr : List (Record M)) (s : State M) → Run w tr s → (n : ℕ)
    → ((t : Task M) × Able w s t × (t.number ≡ n)) ↔ ((v : Move) × HasStep w s v × (of_move v ≡ n))

-- The list of able tasks has just the able tasks.
abbrev pub ListedAble : Type 0 → Type 0
ListedAble M = (w : Setting M) (s : State M) (t : Task M) → Memᴰ t (able_tasks w s) ↔ Able w s t

-- The able tasks stand by rising number; and of a task that waits, just the open leaves are listed, rising.
pub record Listed {M : Type 0} (w : Setting M) (s : State M) : Type 0 where
  pub tasks_rise : Rising (map (λ t. t.number) (able_tasks w s))
  pub leaves : (t : Task M) (y : ℕ) (ls : List (Leaf M)) → Memᴰ t s.tasks → t.wait ≡ waiting y ls
      → (i : ℕ) → Memᴰ i (open_leaves w s t y 0 ls) ↔ ((l : Leaf M) × Open w s t y i l)
  pub leaves_rise : (t : Task M) (y : ℕ) (ls : List (Leaf M)) → Rising (open_leaves w s t y 0 ls)

abbrev pub ListedLaw : Type 0 → Type 0
ListedLaw M = (w : Setting M) (tr : List (Record M)) (s : State M) → Run w tr s → Listed w s

-- A run is quiet exactly when no step exists.
abbrev pub QuietLaw : Type 0 → Type 0
QuietLaw M = (limit : ℕ) (w : Setting M) → LawfulKinds limit w → (tr : List (Record M)) (s : State M) → Run w tr s
    → (able_tasks w s ≡ []) ↔ ((v : Move) → HasStep w s v → ⊥)

-- A task that runs has a step exactly when it is able, and none at a leaf; a task that waits has a step at a leaf exactly when the leaf is open, and no other.
abbrev pub MovesLaw : Type 0 → Type 0
MovesLaw M = (limit : ℕ) (w : Setting M) → LawfulKinds limit w → (tr : List (Record M)) (s : State M) → Run w tr s
    → (t : Task M) → Memᴰ t s.tasks
    → ((t.wait ≡ running) → (HasStep w s (runs t.number) ↔ Able w s t) × ((i : ℕ) → HasStep w s (settles t.number i) → ⊥))
    × ((y : ℕ) (ls : List (Leaf M)) → t.wait ≡ waiting y ls → ((i : ℕ) → HasStep w s (settles t.number i) ↔ Memᴰ i (open_leaves w s t y 0 ls)) × (HasStep w s (runs t.number) → ⊥))

-- A task that runs has a step exactly where all that then live are at most 64: one that ends, emits or returns always, one that spawns below 64, and one that syncs where the tasks of its with-nacks find room.
pub record Roomed {M : Type 0} (w : Setting M) (s : State M) (t : Task M) : Type 0 where
  pub ends : instr_at w t ≡ None → HasStep w s (runs t.number)
  pub emits : instr_at w t ≡ Some g.emit → HasStep w s (runs t.number)
  pub returns : instr_at w t ≡ Some g.again → HasStep w s (runs t.number)
  pub spawns : (b : ℕ) → instr_at w t ≡ Some (g.spawn b) → HasStep w s (runs t.number) ↔ (length s.tasks < 64)
  pub syncs : (e : script.Event M) → instr_at w t ≡ Some (g.sync e) → HasStep w s (runs t.number) ↔ (length s.tasks + length (branches (sign_at w t) 0 e) ≤ 64)

abbrev pub RoomLaw : Type 0 → Type 0
RoomLaw M = (limit : ℕ) (w : Setting M) → LawfulKinds limit w → (tr : List (Record M)) (s : State M) → Run w tr s
    → (t : Task M) → Memᴰ t s.tasks → t.wait ≡ running → Roomed w s t

-- the tasks that take a step: the one that was named, and a partner
abbrev pub steppers : {M : Type 0} {w : Setting M} {s : State M} {v : Move} {rs : List (Event M)} {s' : State M} → Step w s v rs s' → List ℕ
steppers (ends t r d c f e) = t.number ∷ []
steppers (emits t r d c f e) = t.number ∷ []
steppers (returns t r d c f e) = t.number ∷ []
steppers (spawns t b r d c f e) = t.number ∷ []
steppers (syncs t ev r d c bs g ls h y i f e) = t.number ∷ []
steppers (settles_one t y i l a d c σs g f e) = t.number ∷ []
steppers (settles_pair g r y i z j p l m a b c d q σs h f e) = g.number ∷ (r.number ∷ [])

abbrev pub act_steppers : {M : Type 0} {w : Setting M} {s : State M} {rs : List (Event M)} {s' : State M} → Act w s rs s' → List ℕ
act_steppers (steps v a) = steppers a
act_steppers (posts p m a b c d) = []
act_steppers (clocks c a b d e) = []

-- all but the nack is the same
pub record Unmoved {M : Type 0} (t t' : Task M) : Type 0 where
  pub number : t'.number ≡ t.number
  pub body : t'.body ≡ t.body
  pub place : t'.place ≡ t.place
  pub register : t'.register ≡ t.register
  pub wait : t'.wait ≡ t.wait

-- A task that takes no step stays as it is, but for its nack; a task that lives afterwards lived before, or was started from the body that its start record shows, with a blank register.
pub record Framed {M : Type 0} (w : Setting M) (s : State M) (rs : List (Event M)) (s' : State M) (a : Act w s rs s') : Type 0 where
  pub others : (t : Task M) → Memᴰ t s.tasks → (Memᴰ t.number (act_steppers a) → ⊥)
      → (t' : Task M) × Memᴰ t' s'.tasks × Unmoved t t'
  pub lived : (t' : Task M) → Memᴰ t' s'.tasks
      → ((t : Task M) × Memᴰ t s.tasks × (t.number ≡ t'.number) × (t.body ≡ t'.body))
      ⊎ ((f y : ℕ) × Memᴰ (line.Start t'.number t'.body f y) rs × (t'.place ≡ 0) × (t'.register ≡ w.messages.blank) × (t'.wait ≡ running))

abbrev pub FrameLaw : Type 0 → Type 0
FrameLaw M = (w : Setting M) (tr : List (Record M)) (s : State M) → Run w tr s → (rs : List (Event M)) (s' : State M) (a : Act w s rs s') → Framed w s rs s' a

-- Numbers

-- none is larger than any after it
abbrev pub NeverFalling : List ℕ → Type 0
NeverFalling [] = Unit {0}
NeverFalling (x ∷ xs) = AllByRecursion (λ y. x ≤ y) xs × NeverFalling xs

-- the task that a record starts, and the sync that one begins
abbrev pub starts_of : {M : Type 0} → Event M → List ℕ
starts_of (line.Start t b f y) = t ∷ []
starts_of (line.Step t p m) = []
starts_of (line.Emit t p m) = []
starts_of (line.Sync t y n) = []
starts_of (line.One t y i m) = []
starts_of (line.Pair g y i z j m) = []
starts_of (line.Fire t y) = []
starts_of (line.End t) = []
starts_of (line.Post p m) = []
starts_of line.Clock = []

abbrev pub syncs_of : {M : Type 0} → Event M → List ℕ
syncs_of (line.Start t b f y) = []
syncs_of (line.Step t p m) = []
syncs_of (line.Emit t p m) = []
syncs_of (line.Sync t y n) = y ∷ []
syncs_of (line.One t y i m) = []
syncs_of (line.Pair g y i z j m) = []
syncs_of (line.Fire t y) = []
syncs_of (line.End t) = []
syncs_of (line.Post p m) = []
syncs_of line.Clock = []

-- Records, tasks and syncs are numbered from 1, each by the next number; the live tasks stand by rising number; the clock does not go back, and each kind was told it.
pub record Counted {M : Type 0} (tr : List (Record M)) (s : State M) : Type 0 where
  pub records : map (λ r. r.seq) tr ≡ range_with_len 1 (length tr)
  pub tasks : each_of starts_of (happenings tr) ≡ range_with_len 1 s.last_task
  pub syncs : each_of syncs_of (happenings tr) ≡ range_with_len 1 s.last_sync
  pub live : Rising (map (λ t. t.number) s.tasks)
  pub started : AllByRecursion (λ t. (1 ≤ t.number) × (t.number ≤ s.last_task)) s.tasks
  pub times : NeverFalling (map (λ r. r.ms) tr)
  pub past : AllByRecursion (λ r. r.ms ≤ s.clock) tr
  pub clock : s.clock < 4294967296
  pub told : (c : BaseKind) → (s.means c).clock ≡ s.clock

abbrev pub NumbersLaw : Type 0 → Type 0
NumbersLaw M = (w : Setting M) (tr : List (Record M)) (s : State M) → Run w tr s → Counted tr s

-- At most so many tasks live.
abbrev pub LiveLaw : Type 0 → Type 0
LiveLaw M = (w : Setting M) (tr : List (Record M)) (s : State M) → Run w tr s → length s.tasks ≤ most_tasks

-- The delivered kinds

abbrev pub DeliveredLawful : Type 0
DeliveredLawful = (limit : ℕ) → 1 ≤ limit → (c : BaseKind) → Lawful limit (delivered limit c)

-- A channel's offer that waits is open exactly when it has a possible partner, and then with the one that has the smallest sync number, then leaf; never alone.
pub record ChannelLaw : Type 0 where
  pub never_alone : (os : List Offer) (h : ℕ → ℕ) (k : ℕ) (o : Offer) → channel.poll os h k o ≢ Alone
  pub with_some : (os : List Offer) (h : ℕ → ℕ) (k : ℕ) (o : Offer) (s l : ℕ) → Memᴰ o os → Partner os o s l → channel.poll os h k o ≢ Closed
  pub with_least : (os : List Offer) (h : ℕ → ℕ) (k : ℕ) (o : Offer) (s l s' l' : ℕ) → channel.poll os h k o ≡ With s l → Partner os o s' l' → (s < s') ⊎ ((s ≡ s') × (l ≤ l'))

-- A kind that holds messages and never pairs: a give is open below `room`, a take where something is held.
pub record HolderReplies (K : Kind) (room : ℕ) : Type 0 where
  pub holds : K.holds ≡ true
  pub give : (os : List Offer) (h : ℕ → ℕ) (k : ℕ) (o : Offer) → Memᴰ o os → o.side ≡ Give → (K.poll os h k o ≡ Alone) ↔ (h o.port < room)
  pub take : (os : List Offer) (h : ℕ → ℕ) (k : ℕ) (o : Offer) → Memᴰ o os → o.side ≡ Take → (K.poll os h k o ≡ Alone) ↔ (0 < h o.port)
  pub never_pairs : (os : List Offer) (h : ℕ → ℕ) (k : ℕ) (o : Offer) (s l : ℕ) → K.poll os h k o ≢ With s l

-- What the others reply: mailboxes and MVars lose what is taken, IVars keep it; a timeout is open at its due time and after.
pub record DeliveredReplies : Type 0 where
  pub mailboxes : (limit : ℕ) → HolderReplies (delivered limit (Port Mailbox)) limit × ((delivered limit (Port Mailbox)).keeps ≡ false)
  pub ivars : (limit : ℕ) → HolderReplies (delivered limit (Port Ivar)) 1 × ((delivered limit (Port Ivar)).keeps ≡ true)
  pub mvars : (limit : ℕ) → HolderReplies (delivered limit (Port Mvar)) 1 × ((delivered limit (Port Mvar)).keeps ≡ false)
  pub timeouts : (limit : ℕ) (os : List Offer) (h : ℕ → ℕ) (k : ℕ) (o : Offer) → Memᴰ o os → o.side ≡ Take → ((delivered limit Timeout).poll os h k o ≡ Alone) ↔ (o.due ≤ k)
  pub channels : (limit : ℕ) → delivered limit (Port Channel) ≡ channel

-- The soonest due time is that of some closed offer, and no closed offer is due sooner; there is none exactly when no offer is closed.
pub record SoonestLaw (X : Type 0) : Type 0 where
  pub some : (K : Kind) (μ : Meaning X) (os : List Offer) (d : ℕ) → soonest_closed K μ os ≡ Some d
      → ((o : Offer) × Memᴰ o os × (polled K μ o ≡ Closed) × (o.due ≡ d)) × ((o : Offer) → Memᴰ o os → polled K μ o ≡ Closed → d ≤ o.due)
  pub none : (K : Kind) (μ : Meaning X) (os : List Offer) → (soonest_closed K μ os ≡ None) ↔ ((o : Offer) → Memᴰ o os → polled K μ o ≢ Closed)
