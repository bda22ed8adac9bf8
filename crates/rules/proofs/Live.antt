-- At most so many tasks live.
use Rattle.std.proofs.Common.{◌≡◌, ℕ, suc, ◌+◌, ◌≤◌, not, eqb, List, [], ◌∷◌, length, Some, Option, refl, ap, arith}
use Rattle.std.proofs.lemmas.List.{length-map, length-append}
use Rattle.std.proofs.lemmas.List.Filters.{length-filter_both}
use Rattle.grammar.specs.Grammar as g
use Rattle.rows.specs.Scripts.{Instr}
use Rattle.trace.specs.declared.record.Event.{Event}
use Rattle.rules.specs.States.{Setting, Task, State}
use Rattle.rules.specs.Able.{instr_at, sign_at, would_start, most_tasks, Ready}
use Rattle.rules.specs.Steps.{nack_tasks, Move, Step, ends, emits, returns, spawns, syncs, settles_one, settles_pair}
use Rattle.rules.specs.Runs.{steps, posts, clocks, begins, goes_on}
use Rattle.rules.specs.Laws.{LiveLaw}

-- what a step that starts tasks has room for

length_nack_tasks : {M : Type 0} (w : Setting M) (y n b : ℕ) (cs : List ℕ) → length (nack_tasks w y n b cs) ≡ length cs
length_nack_tasks w y n b [] = refl
length_nack_tasks w y n b (c ∷ cs) = ap suc (length_nack_tasks w y (suc n) (suc b) cs)

room_for : {M : Type 0} (w : Setting M) (s : State M) (t : Task M) (x : Option (Instr M)) → Ready w s t → instr_at w t ≡ x → length s.tasks + would_start (sign_at w t) x ≤ most_tasks
room_for w s t x r e = rw e at r.room

-- a step, and a run

few_at : {M : Type 0} (s' s : State M) → s' ≡ s → length s.tasks ≤ most_tasks → length s'.tasks ≤ most_tasks
few_at s' s e h = rw e h

few_step : {M : Type 0} (w : Setting M) (s : State M) (v : Move) (rs : List (Event M)) (s' : State M) → length s.tasks ≤ most_tasks → Step w s v rs s' → length s'.tasks ≤ most_tasks
few_step w s v rs s' h (ends t r _ _ _ e) = few_at s' _ e (omega (arith, length-filter_both (λ u. eqb u.number t.number) (λ u. not (eqb u.number t.number)) (λ _. refl) s.tasks))
few_step w s v rs s' h (emits t r _ _ _ e) = few_at s' _ e (rw length-map h)
few_step w s v rs s' h (returns t r _ _ _ e) = few_at s' _ e (rw length-map h)
few_step w s v rs s' h (spawns t b r _ i _ e) = few_at s' _ e (simp (length-append, length-map) (room_for w s t (Some (g.spawn b)) r i))
few_step w s v rs s' h (syncs t x r _ i bs f ls _ y _ _ e) = let k = room_for w s t (Some (g.sync x)) r i in let c = ap length f in few_at s' _ e (simp (length-append, length-map, length_nack_tasks) (omega arith))
few_step w s v rs s' h (settles_one t y i l a _ _ σs _ _ e) = few_at s' _ e (simp length-map h)
few_step w s v rs s' h (settles_pair g r y i z j p l k a _ b _ _ σs _ _ e) = few_at s' _ e (simp length-map h)

pub live_law : (M : Type 0) → LiveLaw M
live_law M w tr s (begins _ e) = few_at s _ e (omega arith)
live_law M w tr s (goes_on {s = s₀} rs r (steps v a) _) = few_step w s₀ v rs s (live_law M w _ s₀ r) a
live_law M w tr s (goes_on {s = s₀} rs r (posts p m _ _ _ e) _) = few_at s _ e (live_law M w _ s₀ r)
live_law M w tr s (goes_on {s = s₀} rs r (clocks k _ _ _ e) _) = few_at s _ e (live_law M w _ s₀ r)
