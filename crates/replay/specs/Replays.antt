-- The replay of a list of calls.
use Rattle.std.specs.Prelude.{◌≡◌, ℕ, ◌+◌, ◌*◌, ◌^◌, ◌<◌, ◌≢◌, List, [], ◌∷◌, ◌++◌, length, Some, Option}
use Rattle.std.specs.List.{slice_get}
use Rattle.message.specs.Literals.{Longest}
use Rattle.grammar.specs.declared.words.PortKind.TheVariants.{Mailbox}
use Rattle.rows.specs.Rows.{port_kind}
use Rattle.script.specs.declared.fault.MessageFault.TheVariants.{InScript, InPost}
use Rattle.trace.specs.declared.record.Event.{Event}
use Rattle.trace.specs.declared.record.Event.TheVariants as line
use Rattle.trace.specs.declared.record.Record.{Record}
use Rattle.trace.specs.Lines as lines
use Rattle.rules.specs.declared.kind.BaseKind.TheVariants.{Timeout}
use Rattle.rules.specs.declared.offer.Reply.TheVariants.{Alone}
use Rattle.rules.specs.States.{Setting, Leaf, running, waiting, Task, State}
use Rattle.rules.specs.Limits.{most_ports, most_held}
use Rattle.rules.specs.Able.{most_tasks, open_leaves, able_tasks, soonest_closed}
use Rattle.rules.specs.Steps.{Move, runs, settles, Step}
use Rattle.rules.specs.Runs.{begun, post_reply, posted, clocked, numbered}
use Rattle.replay.specs.declared.fault.RunFault.TheVariants.{FewCells, ShortPage, LongTrace, NotMailbox, NoRoom, ClockBack, Quiet}
use Rattle.replay.specs.declared.fault.CallFault.{CallFault}
use Rattle.replay.specs.declared.fault.CallFault.TheVariants.{Message, Run}
use Rattle.replay.specs.Faults.{call_number}
use Rattle.replay.specs.Policies.{Naming, Policy}
use Rattle.replay.specs.Stamps.{candidates}

-- A call, by its arguments; of cells and page only the length.
pub data Call : Type 0 where
  post : (cells page port : ℕ) (literal : List ℕ) → Call
  clock : (page ms : ℕ) → Call
  turn : (cells page : ℕ) → Call
  look : Call

-- the number of bytes written; or why the call was sent away; or the number of able tasks and the soonest due time
pub data Answer : Type 0 where
  wrote : ℕ → Answer
  sent_away : CallFault → Answer
  seen : ℕ → Option ℕ → Answer

-- what the replay holds: the records so far, the state, and the policy's state
pub record Replay (M P : Type 0) : Type 0 where
  pub trace : List (Record M)
  pub state : State M
  pub policy : P

abbrev pub begin_replay : {M P : Type 0} → Setting M → P → Replay M P
begin_replay w p = record { trace = numbered 0 0 (line.Start 1 0 0 0 ∷ []); state = begun w; policy = p }

-- a register for each task, and every port's messages: 576
abbrev pub fewest_cells : ℕ
fewest_cells = most_tasks + most_ports * most_held

abbrev pub shortest_page : ℕ
shortest_page = 2048

-- past this last record number nothing more is written
abbrev pub last_start : ℕ
last_start = 999999900

-- the state that each refusal of a call describes
abbrev pub Describes : {M P : Type 0} → Setting M → Replay M P → Call → CallFault → Type 0
Describes w ρ (post cells page p bs) (Run FewCells) = cells < fewest_cells
Describes w ρ (post cells page p bs) (Run ShortPage) = page < shortest_page
Describes w ρ (post cells page p bs) (Run LongTrace) = last_start < length ρ.trace
Describes w ρ (post cells page p bs) (Run NotMailbox) = port_kind w.script.ports p ≢ Some Mailbox
Describes {M} w ρ (post cells page p bs) (Message (InPost f)) = ((m : M) → bs ≢ w.messages.literal m) × Longest w.messages.literal bs f.at
Describes w ρ (post cells page p bs) (Message (InScript i f)) = ⊥
Describes w ρ (post cells page p bs) (Run NoRoom) = post_reply w ρ.state p ≢ Alone
Describes w ρ (post cells page p bs) (Run ClockBack) = ⊥
Describes w ρ (post cells page p bs) (Run Quiet) = ⊥
Describes w ρ (clock page k) (Run ShortPage) = page < shortest_page
Describes w ρ (clock page k) (Run LongTrace) = last_start < length ρ.trace
Describes w ρ (clock page k) (Run ClockBack) = k < ρ.state.clock
Describes w ρ (clock page k) (Run FewCells) = ⊥
Describes w ρ (clock page k) (Run NotMailbox) = ⊥
Describes w ρ (clock page k) (Run NoRoom) = ⊥
Describes w ρ (clock page k) (Run Quiet) = ⊥
Describes w ρ (clock page k) (Message f) = ⊥
Describes w ρ (turn cells page) (Run FewCells) = cells < fewest_cells
Describes w ρ (turn cells page) (Run ShortPage) = page < shortest_page
Describes w ρ (turn cells page) (Run LongTrace) = last_start < length ρ.trace
Describes w ρ (turn cells page) (Run Quiet) = able_tasks w ρ.state ≡ []
Describes w ρ (turn cells page) (Run NotMailbox) = ⊥
Describes w ρ (turn cells page) (Run NoRoom) = ⊥
Describes w ρ (turn cells page) (Run ClockBack) = ⊥
Describes w ρ (turn cells page) (Message f) = ⊥
Describes w ρ look f = ⊥

-- The refusals are tried in rising order.
pub record Refuses {M P : Type 0} (w : Setting M) (ρ : Replay M P) (c : Call) (f : CallFault) : Type 0 where
  pub describes : Describes w ρ c f
  pub first : (e : CallFault) → call_number e < call_number f → Describes w ρ c e → ⊥

abbrev pub Accepts : {M P : Type 0} → Setting M → Replay M P → Call → Type 0
Accepts w ρ c = (f : CallFault) → Describes w ρ c f → ⊥

-- The move that the policy names: a task, and then, if it waits, a leaf.

abbrev pub named_task : {M P : Type 0} → Setting M → Policy P → Replay M P → Naming P
named_task w k ρ = k.name_task ρ.policy (candidates ρ.trace (able_tasks w ρ.state))

pub data Names {M P : Type 0} (w : Setting M) (k : Policy P) (ρ : Replay M P) (v : Move) (p' : P) : Type 0 where
  names_running : (t : Task M) → slice_get (able_tasks w ρ.state) (named_task w k ρ).place ≡ Some t → t.wait ≡ running
      → v ≡ runs t.number
      → p' ≡ (named_task w k ρ).next
      → Names w k ρ v p'
  names_waiting : (t : Task M) → slice_get (able_tasks w ρ.state) (named_task w k ρ).place ≡ Some t
      → (y : ℕ) (ls : List (Leaf M)) → t.wait ≡ waiting y ls
      → (is : List ℕ) → is ≡ open_leaves w ρ.state t y 0 ls
      → (n : Naming P) → n ≡ k.name_leaf (named_task w k ρ).next is
      → (i : ℕ) → slice_get is n.place ≡ Some i
      → v ≡ settles t.number i
      → p' ≡ n.next
      → Names w k ρ v p'

-- The lines of records

abbrev pub lines_of : {M : Type 0} → Setting M → List (Record M) → List ℕ
lines_of w [] = []
lines_of w (r ∷ rs) = lines.line w.messages.literal r ++ lines_of w rs

abbrev pub trace_bytes : {M : Type 0} → Setting M → List (Record M) → List ℕ
trace_bytes w tr = lines.header ++ lines_of w tr

abbrev pub new_records : {M P : Type 0} → Replay M P → List (Event M) → State M → List (Record M)
new_records ρ rs s' = numbered (length ρ.trace) s'.clock rs

abbrev pub went_on : {M P : Type 0} → Replay M P → List (Event M) → State M → P → Replay M P
went_on ρ rs s' p' = record { trace = ρ.trace ++ new_records ρ rs s'; state = s'; policy = p' }

abbrev pub wrote_lines : {M P : Type 0} → Setting M → Replay M P → List (Event M) → State M → Answer
wrote_lines w ρ rs s' = wrote (length (lines_of w (new_records ρ rs s')))

-- Look: the number of able tasks, and the soonest due time of the timeouts that wait and are not open
abbrev pub seen_now : {M : Type 0} → Setting M → State M → Answer
seen_now w s = seen (length (able_tasks w s)) (soonest_closed (w.kinds Timeout) (s.means Timeout) (s.means Timeout).offers)

-- One call: its answer, and the replay after it. A refused call and a look change nothing.
pub data Serves {M P : Type 0} (w : Setting M) (k : Policy P) (ρ : Replay M P) (c : Call) (a : Answer) (ρ' : Replay M P) : Type 0 where
  refuses : (f : CallFault) → Refuses w ρ c f → a ≡ sent_away f → ρ' ≡ ρ → Serves w k ρ c a ρ'
  posts : (cells page p : ℕ) (bs : List ℕ) → c ≡ post cells page p bs → Accepts w ρ c
      → (m : M) → bs ≡ w.messages.literal m
      → a ≡ wrote_lines w ρ (line.Post p m ∷ []) (posted w p m ρ.state)
      → ρ' ≡ went_on ρ (line.Post p m ∷ []) (posted w p m ρ.state) ρ.policy
      → Serves w k ρ c a ρ'
  clocks : (page ms : ℕ) → c ≡ clock page ms → Accepts w ρ c → ms < 2 ^ 32
      → a ≡ wrote_lines w ρ (line.Clock ∷ []) (clocked ms ρ.state)
      → ρ' ≡ went_on ρ (line.Clock ∷ []) (clocked ms ρ.state) ρ.policy
      → Serves w k ρ c a ρ'
  turns : (cells page : ℕ) → c ≡ turn cells page → Accepts w ρ c
      → (v : Move) (p' : P) → Names w k ρ v p'
      → (rs : List (Event M)) (s' : State M) → Step w ρ.state v rs s'
      → a ≡ wrote_lines w ρ rs s'
      → ρ' ≡ went_on ρ rs s' p'
      → Serves w k ρ c a ρ'
  looks : c ≡ look → a ≡ seen_now w ρ.state → ρ' ≡ ρ → Serves w k ρ c a ρ'

-- a list of calls, from one replay to another, with their answers in order
abbrev pub Replays : {M P : Type 0} → Setting M → Policy P → Replay M P → List Call → List Answer → Replay M P → Type 0
Replays w k ρ [] [] ρ' = ρ' ≡ ρ
Replays w k ρ [] (a ∷ answers) ρ' = ⊥
Replays w k ρ (c ∷ calls) [] ρ' = ⊥
Replays {M} {P} w k ρ (c ∷ calls) (a ∷ answers) ρ' = (ρ₁ : Replay M P) × Serves w k ρ c a ρ₁ × Replays w k ρ₁ calls answers ρ'
