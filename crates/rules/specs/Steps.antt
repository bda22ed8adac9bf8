-- The steps that the rules allow, as a relation from a state to a state with the records that it makes.
use Rattle.std.specs.Prelude.{◌≡◌, ℕ, suc, ◌+◌, not, ◌⊎◌, List, [], ◌∷◌, ◌++◌, length, Some, None, filter, ◌==◌}
use Rattle.grammar.specs.Grammar as g
use Rattle.rows.specs.Scripts as script
use Rattle.trace.specs.declared.record.Event.{Event}
use Rattle.trace.specs.declared.record.Event.TheVariants as line
use Rattle.rules.specs.declared.nack.Nack.{Nack}
use Rattle.rules.specs.declared.nack.Nack.TheVariants.{Pending, Void}
use Rattle.rules.specs.declared.offer.Reply.TheVariants.{Alone, With}
use Rattle.rules.specs.Kinds.{enrolled_each}
use Rattle.rules.specs.States.{Setting, send, recv, Leaf, running, waiting, Task, State}
use Rattle.rules.specs.Evaluation.{nacks, leaves}
use Rattle.rules.specs.Able.{instr_at, sign_at, placed, offers_in, reply, Stands, Ready}
use Rattle.rules.specs.Settling.{put, settled, result, shown, commit_at, Settlement, fires, after_settling}

abbrev pub moved : {M : Type 0} → Task M → ℕ → Task M
moved t p = record { number = t.number; body = t.body; place = p; register = t.register; wait = running; nack = t.nack }

abbrev pub waits_at : {M : Type 0} → Task M → ℕ → List (Leaf M) → Task M
waits_at t y ls = record { number = t.number; body = t.body; place = t.place; register = t.register; wait = waiting y ls; nack = t.nack }

abbrev pub started : {M : Type 0} → Setting M → ℕ → ℕ → Nack → Task M
started w n b k = record { number = n; body = b; place = 0; register = w.messages.blank; wait = running; nack = k }

-- the tasks that the with-nacks of the sync `y` start, and their records: the tasks numbered from `n`, the with-nacks from `b`
abbrev pub nack_tasks : {M : Type 0} → Setting M → ℕ → ℕ → ℕ → List ℕ → List (Task M)
nack_tasks w y n b [] = []
nack_tasks w y n b (c ∷ cs) = started w n c (Pending y b) ∷ nack_tasks w y (suc n) (suc b) cs

abbrev pub nack_starts : {M : Type 0} → ℕ → ℕ → ℕ → List ℕ → List (Event M)
nack_starts t y n [] = []
nack_starts t y n (c ∷ cs) = line.Start n c t y ∷ nack_starts t y (suc n) cs

abbrev pub with_tasks : {M : Type 0} → State M → List (Task M) → State M
with_tasks s ts = record { clock = s.clock; means = s.means; tasks = ts; last_task = s.last_task; last_sync = s.last_sync }

-- whose step, and for a task that waits, at which leaf
pub data Move : Type 0 where
  runs : (task : ℕ) → Move
  settles : (task leaf : ℕ) → Move

pub data Step {M : Type 0} (w : Setting M) (s : State M) (v : Move) (rs : List (Event M)) (s' : State M) : Type 0 where
  ends : (t : Task M) → Ready w s t → v ≡ runs t.number → instr_at w t ≡ None
      → rs ≡ line.End t.number ∷ []
      → s' ≡ with_tasks s (filter (λ u. not (u.number == t.number)) s.tasks)
      → Step w s v rs s'
  emits : (t : Task M) → Ready w s t → v ≡ runs t.number → instr_at w t ≡ Some g.emit
      → rs ≡ line.Emit t.number t.place t.register ∷ []
      → s' ≡ with_tasks s (put (moved t (suc t.place)) s.tasks)
      → Step w s v rs s'
  returns : (t : Task M) → Ready w s t → v ≡ runs t.number → instr_at w t ≡ Some g.again
      → rs ≡ line.Step t.number t.place t.register ∷ []
      → s' ≡ with_tasks s (put (moved t 0) s.tasks)
      → Step w s v rs s'
  spawns : (t : Task M) (b : ℕ) → Ready w s t → v ≡ runs t.number → instr_at w t ≡ Some (g.spawn b)
      → rs ≡ line.Step t.number t.place t.register ∷ (line.Start (suc s.last_task) b t.number 0 ∷ [])
      → s' ≡ record { clock = s.clock; means = s.means; tasks = put (moved t (suc t.place)) s.tasks ++ (started w (suc s.last_task) b Void ∷ []); last_task = suc s.last_task; last_sync = s.last_sync }
      → Step w s v rs s'
  -- the next sync number; the bodies of the with-nacks; the leaves, which wait
  syncs : (t : Task M) (e : script.Event M) → Ready w s t → v ≡ runs t.number → instr_at w t ≡ Some (g.sync e)
      → (bs : List ℕ) → bs ≡ nacks (sign_at w t) e
      → (ls : List (Leaf M)) → ls ≡ leaves (sign_at w t) s.clock 0 e
      → (y : ℕ) → y ≡ suc s.last_sync
      → rs ≡ line.Sync t.number y (length ls) ∷ nack_starts t.number y (suc s.last_task) bs
      → s' ≡ record { clock = s.clock; means = λ c. enrolled_each (offers_in w c y 0 ls) (s.means c); tasks = put (waits_at t y ls) s.tasks ++ nack_tasks w y (suc s.last_task) 0 bs; last_task = s.last_task + length bs; last_sync = y }
      → Step w s v rs s'
  settles_one : (t : Task M) (y i : ℕ) (l : Leaf M) → Stands s t y i l → v ≡ settles t.number i
      → reply w s t y i l.base ≡ Alone
      → (σs : List Settlement) → σs ≡ record { sync = y; above = l.above } ∷ []
      → rs ≡ line.One t.number y i (shown w s t y i l.base) ∷ fires σs s.tasks
      → s' ≡ after_settling s σs (commit_at w (placed w y i l.base) t.register s.means) (put (settled w t l (result w s y i l.base)) s.tasks)
      → Step w s v rs s'
  -- the leaf `i` of the giver's sync `y` and the leaf `j` of the taker's sync `z`; either may be the one that was polled
  settles_pair : (g r : Task M) (y i z j p : ℕ) (l k : Leaf M)
      → Stands s g y i l → l.base ≡ send p
      → Stands s r z j k → k.base ≡ recv p
      → ((reply w s g y i l.base ≡ With z j) × (v ≡ settles g.number i)) ⊎ ((reply w s r z j k.base ≡ With y i) × (v ≡ settles r.number j))
      → (σs : List Settlement) → σs ≡ record { sync = y; above = l.above } ∷ (record { sync = z; above = k.above } ∷ [])
      → rs ≡ line.Pair g.number y i z j g.register ∷ fires σs s.tasks
      → s' ≡ after_settling s σs s.means (put (settled w r k g.register) (put (settled w g l w.messages.blank) s.tasks))
      → Step w s v rs s'
