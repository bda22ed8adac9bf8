-- Which traces are runs.
use Rattle.std.specs.Prelude.{◌≡◌, ℕ, suc, ◌^◌, ◌<◌, ◌≤◌, List, [], ◌∷◌, ◌++◌, length, Some}
use Rattle.grammar.specs.declared.words.PortKind.TheVariants.{Mailbox}
use Rattle.rows.specs.Rows.{port_kind}
use Rattle.trace.specs.declared.record.Event.{Event}
use Rattle.trace.specs.declared.record.Event.TheVariants as line
use Rattle.trace.specs.declared.record.Record.{Record}
use Rattle.rules.specs.declared.kind.BaseKind.TheVariants.{Port}
use Rattle.rules.specs.declared.nack.Nack.TheVariants.{Void}
use Rattle.rules.specs.declared.offer.Side.TheVariants.{Give}
use Rattle.rules.specs.declared.offer.Offer.{Offer}
use Rattle.rules.specs.declared.offer.Reply.{Reply}
use Rattle.rules.specs.declared.offer.Reply.TheVariants.{Alone}
use Rattle.rules.specs.Kinds.{Meaning, fresh, enrolled, withdrawn, told, polled, committed}
use Rattle.rules.specs.States.{Setting, State}
use Rattle.rules.specs.Settling.{means_with}
use Rattle.rules.specs.Steps.{started, Move, Step}

abbrev pub begun : {M : Type 0} → Setting M → State M
begun w = record { clock = 0; means = λ c. fresh; tasks = started w 1 0 Void ∷ []; last_task = 1; last_sync = 0 }

-- A post is a give with sync and leaf number 0, enrolled, committed and withdrawn.

abbrev pub posting : ℕ → Offer
posting p = record { sync = 0; leaf = 0; port = p; side = Give; due = 0 }

-- how the mailboxes reply to it
abbrev pub post_reply : {M : Type 0} → Setting M → State M → ℕ → Reply
post_reply w s p = polled (w.kinds (Port Mailbox)) (enrolled (posting p) (s.means (Port Mailbox))) (posting p)

abbrev pub with_post : {M : Type 0} → Setting M → ℕ → M → Meaning M → Meaning M
with_post w p m μ = withdrawn 0 (committed (w.kinds (Port Mailbox)) (posting p) m (enrolled (posting p) μ))

abbrev pub posted : {M : Type 0} → Setting M → ℕ → M → State M → State M
posted w p m s = record { clock = s.clock; means = means_with (Port Mailbox) (with_post w p m) s.means; tasks = s.tasks; last_task = s.last_task; last_sync = s.last_sync }

abbrev pub clocked : {M : Type 0} → ℕ → State M → State M
clocked k s = record { clock = k; means = λ c. told k (s.means c); tasks = s.tasks; last_task = s.last_task; last_sync = s.last_sync }

-- what may come next: a step, a post at a declared mailbox where a give is open alone, or a clock that does not go back
pub data Act {M : Type 0} (w : Setting M) (s : State M) (rs : List (Event M)) (s' : State M) : Type 0 where
  steps : (v : Move) → Step w s v rs s' → Act w s rs s'
  posts : (p : ℕ) (m : M) → port_kind w.script.ports p ≡ Some Mailbox → post_reply w s p ≡ Alone
      → rs ≡ line.Post p m ∷ []
      → s' ≡ posted w p m s
      → Act w s rs s'
  clocks : (k : ℕ) → s.clock ≤ k → k < 2 ^ 32
      → rs ≡ line.Clock ∷ []
      → s' ≡ clocked k s
      → Act w s rs s'

-- records numbered after `n`, at the clock `k`
abbrev pub numbered : {M : Type 0} → ℕ → ℕ → List (Event M) → List (Record M)
numbered n k [] = []
numbered n k (r ∷ rs) = record { seq = suc n; ms = k; event = r } ∷ numbered (suc n) k rs

-- the trace is a run that ends in the state
pub data Run {M : Type 0} (w : Setting M) : List (Record M) → State M → Type 0 where
  begins : {tr : List (Record M)} {s : State M} → tr ≡ numbered 0 0 (line.Start 1 0 0 0 ∷ []) → s ≡ begun w → Run w tr s
  goes_on : {tr tr' : List (Record M)} {s s' : State M} (rs : List (Event M)) → Run w tr s → Act w s rs s'
      → tr' ≡ tr ++ numbered (length tr) s'.clock rs → Run w tr' s'
