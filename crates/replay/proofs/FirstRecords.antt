-- The records of an act: what the first does to syncs and stamps, and what those after it are.
use Rattle.std.proofs.Common.{◌≡◌, ℕ, suc, ◌<◌, ◌≤◌, Bool, true, false, ◌||◌, eqb, ◌⊎◌, List, [], ◌∷◌, ◌++◌, map, filter, sym, refl, ap, ◌∙◌, inl, inr, arith}
use mathlib.Core.List.Memᴰ
use mathlib.Core.List.{Memᴰ}
use mathlib.Core.Bool.{or-false}
use Rattle.std.specs.List.{AllByRecursion}
use Rattle.std.proofs.lemmas.Bool.{both_ways, or_cases, or_left, or_right, eqb-true, eq-eqb}
use Rattle.trace.specs.declared.record.Event.{Event}
use Rattle.trace.specs.declared.record.Event.TheVariants as line
use Rattle.trace.specs.declared.record.Record.{Record}
use Rattle.rules.specs.States.{Setting, Leaf, running, waiting, Task, State}
use Rattle.rules.specs.Settling.{put, Settlement, told_of, fires}
use Rattle.rules.specs.Steps.{waits_at, nack_starts, Move, Step, ends, emits, returns, spawns, syncs, settles_one, settles_pair}
use Rattle.rules.specs.Runs.{Act, steps, posts, clocks}
use Rattle.rules.specs.Laws.{starts_of, steppers, act_steppers}
use Rattle.rules.proofs.Members.{mem_kept}
use Rattle.rules.proofs.Tasks.{Tidy, Fresh, PutOrThere, not_both, mem_put, fresh_one, fresh_nacks}
use Rattle.rules.proofs.Records.{all_fires}
use Rattle.replay.specs.Stamps.{begins_sync, synced_by, stamps}

-- The records after the first are fires, and starts of rising numbers above `n`.
pub data StartsAfter {M : Type 0} : ℕ → List (Event M) → Type 0 where
  none : {n : ℕ} → StartsAfter n []
  fire : {n t y : ℕ} {rs : List (Event M)} → StartsAfter n rs → StartsAfter n (line.Fire t y ∷ rs)
  start : {n m b f y : ℕ} {rs : List (Event M)} → n < m → StartsAfter m rs → StartsAfter n (line.Start m b f y ∷ rs)

abbrev IsFire : {M : Type 0} → Event M → Type 0
IsFire r = (t : ℕ) × (y : ℕ) × (r ≡ line.Fire t y)

fires_after : {M : Type 0} (n : ℕ) (rs : List (Event M)) → AllByRecursion IsFire rs → StartsAfter n rs
fires_after n [] h = none
fires_after n (r ∷ rs) h = rw h.0.2 (fire (fires_after n rs h.1))

nacks_after : {M : Type 0} (t y n : ℕ) (bs : List ℕ) → StartsAfter {M = M} n (nack_starts t y (suc n) bs)
nacks_after t y n [] = none
nacks_after t y n (b ∷ bs) = start (omega arith) (nacks_after t y (suc n) bs)

-- the task numbered `n` waits in the sync `y`
abbrev pub WaitsIn : {M : Type 0} → List (Task M) → ℕ → ℕ → Type 0
WaitsIn {M} ts n y = (t : Task M) × Memᴰ t ts × (t.number ≡ n) × (ls : List (Leaf M)) × (t.wait ≡ waiting y ls)

-- Those of the tasks `us` that wait did so among `ts`.
abbrev Waited : {M : Type 0} → List (Task M) → List (Task M) → Type 0
Waited ts us = (n y : ℕ) → WaitsIn us n y → WaitsIn ts n y

module _ {M : Type 0} (ts : List (Task M)) where
  waited_kept : (p : Task M → Bool) → Waited ts (filter p ts)
  waited_kept p n y (t, m, same, ls, e) = (t, (mem_kept p t ts m).0, same, ls, e)

  waited_put : (t : Task M) → t.wait ≡ running → Waited ts (put t ts)
  waited_put t r n y (u, m, same, ls, e) = go (mem_put t u ts m)
    where
      go : PutOrThere t ts u → WaitsIn ts n y
      go (inl p) = absurd (not_both t.wait y ls r (ap (λ (v : Task M). v.wait) (sym p) ∙ e))
      go (inr p) = (u, p.0, same, ls, e)

  waited_told : (σs : List Settlement) → Waited ts (map (told_of σs) ts)
  waited_told σs n y (u, m, same, ls, e) =
      let p = Memᴰ.of_map (told_of σs) ts m in
      (p.0, p.1, ap (λ (v : Task M). v.number) p.2 ∙ same, ls, ap (λ (v : Task M). v.wait) p.2 ∙ e)

  waited_more : (us : List (Task M)) (k k' : ℕ) → Fresh us k k' → Waited ts (ts ++ us)
  waited_more us k k' f n y (u, m, same, ls, e) = go (Memᴰ.append_cases ts m)
    where
      go : Memᴰ u ts ⊎ Memᴰ u us → WaitsIn ts n y
      go (inl p) = (u, p, same, ls, e)
      go (inr p) = absurd (not_both u.wait y ls (f.running u p) e)

-- the record begins a sync that is new in the state, for one task
pub record BeginsNew {M : Type 0} (s : State M) (r : Event M) (n y : ℕ) : Type 0 where
  pub new : s.last_sync < y
  pub for : (m : ℕ) → begins_sync m y r ≡ eqb n m

-- What an act does to the syncs, by its first record: those that it begins are new, and a task that waits afterwards did so before or begins its sync.
pub record SyncsTold {M : Type 0} (s : State M) (r : Event M) (s' : State M) : Type 0 where
  pub grows : s.last_sync ≤ s'.last_sync
  pub new : (n y : ℕ) → begins_sync n y r ≡ true → (s.last_sync < y) × (y ≤ s'.last_sync)
  pub waits : (n y : ℕ) → WaitsIn s'.tasks n y → WaitsIn s.tasks n y ⊎ BeginsNew s r n y

-- of an act that begins no sync
no_sync : {M : Type 0} {s s' : State M} {r : Event M} → ((n y : ℕ) → begins_sync n y r ≡ false) → s'.last_sync ≡ s.last_sync → Waited s.tasks s'.tasks → SyncsTold s r s'
no_sync f e h = record { grows = omega arith; new = λ n y t. absurd (both_ways _ (f n y) t); waits = λ n y k. inl (h n y k) }

-- of one that begins the next
next_sync : {M : Type 0} (s s' : State M) (t : Task M) (k : ℕ) (ls : List (Leaf M)) → s'.last_sync ≡ suc s.last_sync
    → Waited (put (waits_at t s'.last_sync ls) s.tasks) s'.tasks → SyncsTold s (line.Sync t.number s'.last_sync k) s'
next_sync {M} s s' t k ls e h = record { grows = omega arith; new = λ n y b. (grind arith, grind arith); waits = λ n y a. go n y (h n y a) }
  where
    go : (n y : ℕ) → WaitsIn (put (waits_at t s'.last_sync ls) s.tasks) n y → WaitsIn s.tasks n y ⊎ BeginsNew s (line.Sync t.number s'.last_sync k) n y
    go n y (u, m, same, ks, f) = elim (mem_put (waits_at t s'.last_sync ls) u s.tasks m) [
      | inl p ↦ inr (record { new = grind arith; for = λ m. grind arith })
      | inr p ↦ inl (u, p.0, same, ks, f)
    ]

-- each task that waits began its sync, and no other task did
abbrev pub Owners : {M : Type 0} → List (Record M) → State M → Type 0
Owners tr s = (n y : ℕ) → WaitsIn s.tasks n y → (m : ℕ) → synced_by tr m y ≡ eqb n m

abbrev pub among : ℕ → List ℕ → Bool
among n [] = false
among n (m ∷ ms) = eqb m n || among n ms

pub among_mem : (n : ℕ) (ns : List ℕ) → Memᴰ n ns → among n ns ≡ true
among_mem n [] k = absurd (Memᴰ.not-nil k)
among_mem n (m ∷ ms) (Memᴰ.head e) = or_left _ _ (eq-eqb m n (sym e))
among_mem n (m ∷ ms) (Memᴰ.tail k) = or_right _ _ (among_mem n ms k)

pub mem_among : (n : ℕ) (ns : List ℕ) → among n ns ≡ true → Memᴰ n ns
mem_among n [] e = absurd (both_ways false refl e)
mem_among n (m ∷ ms) e = elim (or_cases (eqb m n) (among n ms) e) [
  | inl f ↦ Memᴰ.head (sym (eqb-true m n f))
  | inr f ↦ Memᴰ.tail (mem_among n ms f)
]

-- the records of an act that the tasks `ns` take
pub record RecordsTold {M : Type 0} (s : State M) (rs : List (Event M)) (s' : State M) (ns : List ℕ) : Type 0 where
  pub first : Event M
  pub rest : List (Event M)
  pub are : rs ≡ first ∷ rest
  pub after : StartsAfter s.last_task rest
  pub no_start : starts_of first ≡ []
  pub stamped : (tr : List (Record M)) → Owners tr s → (n : ℕ) → stamps tr n first ≡ among n ns
  pub known : AllByRecursion (λ n. n ≤ s.last_task) ns
  pub syncs : SyncsTold s first s'

module _ {M : Type 0} (w : Setting M) (s : State M) (h : Tidy s.tasks s.last_task s.last_sync) where
  -- where no task takes it
  told_none : {rs : List (Event M)} {s' : State M} {r : Event M} → rs ≡ r ∷ [] → starts_of r ≡ [] → ((tr : List (Record M)) (n : ℕ) → stamps tr n r ≡ false)
      → SyncsTold s r s' → RecordsTold s rs s' []
  told_none e f g c = record { first = _; rest = _; are = e; after = none; no_start = f; stamped = λ tr o. g tr; known = tt; syncs = c }

  -- where one does
  told_one : {rs : List (Event M)} {s' : State M} {r : Event M} {rest : List (Event M)} (t : Task M) → Memᴰ t s.tasks → rs ≡ r ∷ rest → StartsAfter s.last_task rest
      → starts_of r ≡ [] → ((tr : List (Record M)) (n : ℕ) → stamps tr n r ≡ eqb t.number n) → SyncsTold s r s' → RecordsTold s rs s' (t.number ∷ [])
  told_one t m e a f g c = record { first = _; rest = _; are = e; after = a; no_start = f; stamped = λ tr o n. g tr n ∙ sym (or-false _); known = (h.low t m, tt); syncs = c }

  fired : (σs : List Settlement) → StartsAfter s.last_task (fires σs s.tasks)
  fired σs = fires_after _ _ (all_fires IsFire (λ t y. (t, y, refl)) σs s.tasks)

  told_step : (v : Move) (rs : List (Event M)) (s' : State M) (a : Step w s v rs s') → RecordsTold s rs s' (steppers a)
  told_step v rs s' (ends t r _ _ f e) = told_one t r.live f none refl (λ tr n. refl) (rw e (no_sync (λ n y. refl) refl (waited_kept _ _)))
  told_step v rs s' (emits t r _ _ f e) = told_one t r.live f none refl (λ tr n. refl) (rw e (no_sync (λ n y. refl) refl (waited_put _ _ refl)))
  told_step v rs s' (returns t r _ _ f e) = told_one t r.live f none refl (λ tr n. refl) (rw e (no_sync (λ n y. refl) refl (waited_put _ _ refl)))
  told_step v rs s' (spawns t b r _ _ f e) = told_one t r.live f (start (omega arith) none) refl (λ tr n. refl)
      (rw e (no_sync (λ n y. refl) refl (λ n y k. waited_put _ _ refl n y (waited_more _ _ _ _ (fresh_one _ s.last_task refl refl) n y k))))
  told_step v rs s' (syncs t x r _ _ bs _ ls _ y i f e) = told_one t r.live f (nacks_after _ y s.last_task bs) refl (λ tr n. refl)
      (rw e (next_sync s _ t _ ls i (waited_more _ _ _ _ (fresh_nacks w y s.last_task 0 bs))))
  told_step v rs s' (settles_one t y i l a _ _ σs _ f e) = told_one t a.live f (fired σs) refl (λ tr n. refl)
      (rw e (no_sync (λ n y. refl) refl (λ n y k. waited_put _ _ refl n y (waited_told _ σs n y k))))
  told_step v rs s' (settles_pair g r y i z j p l k a _ b _ _ σs _ f e) = record {
    first = _;
    rest = _;
    are = f;
    after = fired σs;
    no_start = refl;
    stamped = λ tr o n. ap (λ x. eqb g.number n || x) (o r.number z (r, b.live, refl, b.all, b.waits) n ∙ sym (or-false _));
    known = (h.low g a.live, (h.low r b.live, tt));
    syncs = rw e (no_sync (λ n y. refl) refl (λ n y k. waited_put _ _ refl n y (waited_put _ _ refl n y (waited_told _ σs n y k))));
  }

  pub told_act : (rs : List (Event M)) (s' : State M) (a : Act w s rs s') → RecordsTold s rs s' (act_steppers a)
  told_act rs s' (steps v a) = told_step v rs s' a
  told_act rs s' (posts p m _ _ f e) = told_none f refl (λ tr n. refl) (rw e (no_sync (λ n y. refl) refl (λ n y k. k)))
  told_act rs s' (clocks c _ _ f e) = told_none f refl (λ tr n. refl) (rw e (no_sync (λ n y. refl) refl (λ n y k. k)))
