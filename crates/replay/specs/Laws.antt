-- What holds of every replay, whatever the calls, the policy, the script, the messages and the base event kinds.
use Rattle.std.specs.Prelude.{◌≡◌, ℕ, suc, ◌+◌, ◌^◌, ◌<◌, ◌≤◌, ◌⊎◌, ◌↔◌, List, ◌++◌, length, Some, Option, Result}
use mathlib.Core.List.{Memᴰ}
use Rattle.std.specs.List.{slice_get, AllByRecursion}
use Rattle.message.specs.declared.literal.LiteralFault.{LiteralFault}
use Rattle.message.specs.Literals.{Reads, longest_literal}
use Rattle.rows.specs.Scripts.{Within}
use Rattle.trace.specs.declared.record.Event.{Event}
use Rattle.trace.specs.declared.record.Event.TheVariants as line
use Rattle.trace.specs.declared.record.Record.{Record}
use Rattle.trace.specs.Lines.{Proper}
use Rattle.rules.specs.Limits.{Limited}
use Rattle.rules.specs.States.{Setting, State}
use Rattle.rules.specs.Steps.{Move}
use Rattle.rules.specs.Runs.{Act, Run, numbered}
use Rattle.rules.specs.Laws.{LawfulKinds, HasStep, act_steppers}
use Rattle.rules.specs.Nacks.{FireTold}
use Rattle.replay.specs.declared.candidate.Candidate.{Candidate}
use Rattle.replay.specs.Policies.{Policy, Inside, idlest, longest_idle}
use Rattle.replay.specs.Stamps.{stamp}
use Rattle.replay.specs.Replays.{Call, post, clock, turn, look, Answer, wrote, sent_away, seen, Replay, begin_replay, shortest_page, Serves, Replays}

-- Every trace of a replay is a run of the rules.
abbrev pub ReplayRuns : Type 0 → Type 0 → Type 0
ReplayRuns M P = (w : Setting M) (k : Policy P) (p : P) (calls : List Call) (answers : List Answer) (ρ : Replay M P)
    → Replays w k (begin_replay w p) calls answers ρ → Run w ρ.trace ρ.state

-- Calls have one replay, where each message has a literal of its own.
abbrev pub ReplayDetermined : Type 0 → Type 0 → Type 0
ReplayDetermined M P = (w : Setting M) → ((a b : M) → w.messages.literal a ≡ w.messages.literal b → a ≡ b)
    → (k : Policy P) (p : P) (calls : List Call) (as₁ as₂ : List Answer) (ρ₁ ρ₂ : Replay M P)
    → Replays w k (begin_replay w p) calls as₁ ρ₁ → Replays w k (begin_replay w p) calls as₂ ρ₂
    → (as₁ ≡ as₂) × (ρ₁ ≡ ρ₂)

-- a clock of 32 unsigned bits
abbrev pub Fits : Call → Type 0
Fits (clock page ms) = ms < 2 ^ 32
Fits (post cells page port literal) = Unit {0}
Fits (turn cells page) = Unit {0}
Fits look = Unit {0}

-- Every list of calls has a replay, where the kinds and the policy keep their laws and every literal can be read or refused.
abbrev pub ReplayAnswers : Type 0 → Type 0 → Type 0
ReplayAnswers M P = (limit : ℕ) (w : Setting M) → LawfulKinds limit w
    → ((bs : List ℕ) → (r : Result M LiteralFault) × Reads w.messages.literal bs r)
    → (k : Policy P) → Inside k → (p : P) (calls : List Call) → AllByRecursion Fits calls
    → (answers : List Answer) × (ρ : Replay M P) × Replays w k (begin_replay w p) calls answers ρ

-- One call, from a replay whose trace is a run: it changes nothing, or does one thing that the rules allow and writes its records, among them the fire records that are due and no others; and a look reports quiet exactly when no step exists.
pub record Served {M P : Type 0} (w : Setting M) (ρ : Replay M P) (r : Run w ρ.trace ρ.state) (a : Answer) (ρ' : Replay M P) : Type 0 where
  pub acts : (ρ' ≡ ρ) ⊎ ((rs : List (Event M)) × (x : Act w ρ.state rs ρ'.state) × (ρ'.trace ≡ ρ.trace ++ numbered (length ρ.trace) ρ'.state.clock rs) × FireTold r x)
  pub quiet : (n : ℕ) (d : Option ℕ) → a ≡ seen n d → (n ≡ 0) ↔ ((v : Move) → HasStep w ρ.state v → ⊥)

abbrev pub ServeLaw : Type 0 → Type 0 → Type 0
ServeLaw M P = (limit : ℕ) (w : Setting M) → LawfulKinds limit w → (k : Policy P) (ρ : Replay M P) (r : Run w ρ.trace ρ.state) (c : Call) (a : Answer) (ρ' : Replay M P)
    → Serves w k ρ c a ρ' → Served w ρ r a ρ'

-- Every record of a replay is read back from its line, where the script keeps its ranges and limits.
abbrev pub ReadableLaw : Type 0 → Type 0 → Type 0
ReadableLaw M P = (w : Setting M) → Within w.script → Limited w.script
    → (k : Policy P) (p : P) (calls : List Call) (answers : List Answer) (ρ : Replay M P)
    → Replays w k (begin_replay w p) calls answers ρ → AllByRecursion Proper ρ.trace

abbrev pub FitsPage : Answer → Type 0
FitsPage (wrote n) = n ≤ shortest_page
FitsPage (sent_away f) = Unit {0}
FitsPage (seen n d) = Unit {0}

-- What a call writes has room in the shortest page that is accepted, where literals are short.
abbrev pub PageLaw : Type 0 → Type 0 → Type 0
PageLaw M P = (w : Setting M) → Within w.script → Limited w.script
    → ((m : M) → length (w.messages.literal m) ≤ longest_literal)
    → (k : Policy P) (p : P) (calls : List Call) (answers : List Answer) (ρ : Replay M P)
    → Replays w k (begin_replay w p) calls answers ρ → AllByRecursion FitsPage answers

-- Stamps

-- A step stamps the tasks that take it with its first record, a start stamps the task that starts with its own, and no other record stamps anyone.
pub record Stamped {M : Type 0} (w : Setting M) (tr : List (Record M)) (s : State M) (rs : List (Event M)) (s' : State M) (a : Act w s rs s') : Type 0 where
  pub stepped : (n : ℕ) → Memᴰ n (act_steppers a) → stamp (tr ++ numbered (length tr) s'.clock rs) n ≡ suc (length tr)
  pub started : (n b f y i : ℕ) → slice_get rs i ≡ Some (line.Start n b f y) → stamp (tr ++ numbered (length tr) s'.clock rs) n ≡ suc (length tr + i)
  pub others : (n : ℕ) → (Memᴰ n (act_steppers a) → ⊥) → ((b f y : ℕ) → Memᴰ (line.Start n b f y) rs → ⊥)
      → stamp (tr ++ numbered (length tr) s'.clock rs) n ≡ stamp tr n

abbrev pub StampLaw : Type 0 → Type 0
StampLaw M = (limit : ℕ) (w : Setting M) → LawfulKinds limit w → (tr : List (Record M)) (s : State M) → Run w tr s → (rs : List (Event M)) (s' : State M) (a : Act w s rs s') → Stamped w tr s rs s' a

-- Longest idle names the task with the smallest stamp, then the smallest number, and the first leaf.
pub record LongestIdleLaw (P : Type 0) : Type 0 where
  pub inside : Inside (longest_idle {P = P})
  pub first_leaf : (p : P) (is : List ℕ) → (longest_idle.name_leaf p is).place ≡ 0
  pub idlest_is_named : (cs : List Candidate) (c d : Candidate) → slice_get cs (idlest cs) ≡ Some c → Memᴰ d cs
      → (c.stamp < d.stamp) ⊎ ((c.stamp ≡ d.stamp) × (c.task ≤ d.task))
