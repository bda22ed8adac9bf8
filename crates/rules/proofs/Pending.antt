-- Few nacks are pending with one sync; so an act makes few records.
use Rattle.std.proofs.Common.{◌≡◌, ℕ, suc, ◌+◌, ◌*◌, ◌<◌, ◌≤◌, Bool, true, false, cond, eqb, ◌≢◌, List, [], ◌∷◌, ◌++◌, map, length, Some, filter, sym, refl, ap, ◌∙◌, inl, inr, le_trans, arith}
use mathlib.Core.List.{Memᴰ}
use Rattle.std.proofs.lemmas.List.{length-append}
use Rattle.std.proofs.lemmas.Bool.{cond_both, cases_eq, eqb-true, ne_eqb, cond-false}
use Rattle.message.specs.declared.kind.Sign.{Sign}
use Rattle.grammar.specs.Grammar as g
use Rattle.rows.specs.Scripts as script
use Rattle.trace.specs.declared.record.Event.{Event}
use Rattle.trace.specs.declared.record.Record.{Record}
use Rattle.rules.specs.declared.nack.Nack.{Nack}
use Rattle.rules.specs.declared.nack.Nack.TheVariants.{Pending, Fired, Void}
use Rattle.rules.specs.States.{Setting, Task, State}
use Rattle.rules.specs.Evaluation.{is_sign, nacks, nacks_each}
use Rattle.rules.specs.Limits.{most_nacks, nacks_written, nacks_written_each, Limited}
use Rattle.rules.specs.Able.{instr_at}
use Rattle.rules.specs.Settling.{put, Settlement, in_branch, pending_after, nack_after, told_of, fire_if, fire_of, fires}
use Rattle.rules.specs.Steps.{moved, nack_tasks, nack_starts, Move, Step, ends, emits, returns, spawns, syncs, settles_one, settles_pair}
use Rattle.rules.specs.Runs.{Act, steps, posts, clocks, Run, begins, goes_on}
use Rattle.rules.proofs.Tasks.{Tidy, PutOrThere, mem_put}
use Rattle.rules.proofs.Sound.{sound_run}
use Rattle.rules.proofs.Leaves.{instr_limited}

-- evaluation makes no more with-nacks than are written

mutual
  nacks_few : {M : Type 0} (s : Sign) (e : script.Event M) → length (nacks s e) ≤ nacks_written e
  nacks_few s g.never = omega arith
  nacks_few s g.nack = omega arith
  nacks_few s (g.always m) = omega arith
  nacks_few s (g.send p) = omega arith
  nacks_few s (g.recv p) = omega arith
  nacks_few s (g.timeout d) = omega arith
  nacks_few s (g.choose es) = nacks_each_few s es
  nacks_few s (g.wrap e a) = nacks_few s e
  nacks_few s (g.guard t e f) = let a = nacks_few s e in let b = nacks_few s f in
      cond_both (is_sign s t) (nacks s e) (nacks s f) (λ bs. length bs ≤ nacks_written e + nacks_written f) (λ _. omega arith) (λ _. omega arith)
  nacks_few s (g.with_nack b e) = let a = nacks_few s e in omega arith

  nacks_each_few : {M : Type 0} (s : Sign) (es : script.Events M) → length (nacks_each s es) ≤ nacks_written_each es
  nacks_each_few s g.none = omega arith
  nacks_each_few s (g.more e es) = let a = nacks_few s e in let b = nacks_each_few s es in rw length-append (omega arith)

sync_nacks_few : {M : Type 0} (w : Setting M) → Limited w.script → (t : Task M) (e : script.Event M) → instr_at w t ≡ Some (g.sync e) → (s : Sign) → length (nacks s e) ≤ most_nacks
sync_nacks_few w h t e at s = let a = nacks_few s e in let b = instr_limited w h t (g.sync e) at in omega arith

-- how many nacks of tasks are pending with the sync `y`

abbrev pends : ℕ → Nack → ℕ
pends y Fired = 0
pends y Void = 0
pends y (Pending z b) = cond (eqb z y) 1 0

abbrev pending : {M : Type 0} → ℕ → List (Task M) → ℕ
pending y [] = 0
pending y (t ∷ ts) = pends y t.nack + pending y ts

pending_append : {M : Type 0} (y : ℕ) (ts us : List (Task M)) → pending y (ts ++ us) ≡ pending y ts + pending y us
pending_append y [] us = omega arith
pending_append y (t ∷ ts) us = let r = pending_append y ts us in omega arith

pending_kept : {M : Type 0} (y : ℕ) (p : Task M → Bool) (ts : List (Task M)) → pending y (filter p ts) ≤ pending y ts
pending_kept y p [] = omega arith
pending_kept {M} y p (t ∷ ts) = let r = pending_kept y p ts in
    cond_both (p t) (t ∷ filter p ts) (filter p ts) (λ (us : List (Task M)). pending y us ≤ pends y t.nack + pending y ts) (λ _. omega arith) (λ _. omega arith)

-- no task with the number of the one that is put has another nack
abbrev SameNack : {M : Type 0} → Task M → List (Task M) → Type 0
SameNack {M} t us = (u : Task M) → Memᴰ u us → u.number ≡ t.number → u.nack ≡ t.nack

pending_put : {M : Type 0} (y : ℕ) (t : Task M) (us : List (Task M)) → SameNack t us → pending y (put t us) ≡ pending y us
pending_put y t [] f = refl
pending_put {M} y t (u ∷ us) f =
    let r = pending_put y t us (λ v m. f v (Memᴰ.tail m)) in
    let same : (cond (eqb u.number t.number) t u).nack ≡ u.nack =
    cond_both (eqb u.number t.number) t u (λ (v : Task M). v.nack ≡ u.nack) (λ e. sym (f u (Memᴰ.head refl) (eqb-true _ _ e))) (λ _. refl) in
    λ i. pends y (same i) + r i

-- a nack that was told of settlements is pending with none that it was not pending with

pends_settled : (y : ℕ) (σs : List Settlement) (z b : ℕ) → pends y (pending_after σs z b) ≤ pends y (Pending z b)
pends_settled y [] z b = omega arith
pends_settled y (σ ∷ σs) z b = cond_both (eqb z σ.sync) (cond (in_branch b σ.above) Void Fired) (pending_after σs z b) (λ k. pends y k ≤ pends y (Pending z b))
    (λ _. cond_both (in_branch b σ.above) Void Fired (λ k. pends y k ≤ pends y (Pending z b)) (λ _. omega arith) (λ _. omega arith))
    (λ _. pends_settled y σs z b)

pends_told : (y : ℕ) (σs : List Settlement) (k : Nack) → pends y (nack_after σs k) ≤ pends y k
pends_told y σs Fired = omega arith
pends_told y σs Void = omega arith
pends_told y σs (Pending z b) = pends_settled y σs z b

pending_told : {M : Type 0} (y : ℕ) (σs : List Settlement) (ts : List (Task M)) → pending y (map (told_of σs) ts) ≤ pending y ts
pending_told y σs [] = omega arith
pending_told y σs (t ∷ ts) = let a = pends_told y σs t.nack in let r = pending_told y σs ts in omega arith

-- the tasks of a sync's with-nacks

pending_new : {M : Type 0} (w : Setting M) (x y n b : ℕ) (cs : List ℕ) → pending x (nack_tasks w y n b cs) ≤ length cs
pending_new w x y n b [] = omega arith
pending_new w x y n b (c ∷ cs) = let r = pending_new w x y (suc n) (suc b) cs in
    cond_both (eqb y x) 1 0 (λ k. k + pending x (nack_tasks w y (suc n) (suc b) cs) ≤ suc (length cs)) (λ _. omega arith) (λ _. omega arith)

pending_others : {M : Type 0} (w : Setting M) (x y n b : ℕ) (cs : List ℕ) → y ≢ x → pending x (nack_tasks w y n b cs) ≡ 0
pending_others w x y n b [] d = refl
pending_others w x y n b (c ∷ cs) d = let r = pending_others w x y (suc n) (suc b) cs d in let z : ◌≡◌ {A = ℕ} (cond (eqb y x) 1 0) 0 = cond-false (eqb y x) 1 0 (ne_eqb y x d) in omega arith

-- where the tasks are tidy, one put in place of another has its nack
module _ {M : Type 0} (ts : List (Task M)) (n y : ℕ) (h : Tidy ts n y) (t t' : Task M) (m : Memᴰ t ts) (number : t'.number ≡ t.number) (nack : t'.nack ≡ t.nack) where
  same_nack : SameNack t' ts
  same_nack u k e = ap (λ (v : Task M). v.nack) (h.numbers u t k m (e ∙ number)) ∙ sym nack

  same_nack_put : (u' : Task M) → SameNack u' ts → SameNack u' (put t' ts)
  same_nack_put u' f v k e = go (mem_put t' v ts k)
    where
      go : PutOrThere t' ts v → v.nack ≡ u'.nack
      go (inl p) = ap (λ (x : Task M). x.nack) p ∙ nack ∙ f t m (sym number ∙ ap (λ (x : Task M). x.number) (sym p) ∙ e)
      go (inr p) = f v p.0 e

-- few are pending with any sync, and none with one that has not begun
record FewPending {M : Type 0} (s : State M) : Type 0 where
  pub few : (y : ℕ) → pending y s.tasks ≤ most_nacks
  pub none : (y : ℕ) → s.last_sync < y → pending y s.tasks ≡ 0

module _ {M : Type 0} (w : Setting M) (lim : Limited w.script) (s : State M) (h : FewPending s) (tidy : Tidy s.tasks s.last_task s.last_sync) where
  -- no sync begins
  still_few : (s' : State M) → s'.last_sync ≡ s.last_sync → ((y : ℕ) → pending y s'.tasks ≤ pending y s.tasks) → FewPending s'
  still_few s' e f = record { few = λ y. omega (arith, f y, h.few y); none = λ y l. omega (arith, f y, h.none y (omega arith)) }

  put_few : (t t' : Task M) → Memᴰ t s.tasks → t'.number ≡ t.number → t'.nack ≡ t.nack → (y : ℕ) → pending y (put t' s.tasks) ≤ pending y s.tasks
  put_few t t' m e f y = omega (arith, pending_put y t' s.tasks (same_nack _ _ _ tidy t t' m e f))

  put_two_few : (t u t' u' : Task M) → Memᴰ t s.tasks → Memᴰ u s.tasks → t'.number ≡ t.number → u'.number ≡ u.number → t'.nack ≡ t.nack → u'.nack ≡ u.nack
      → (y : ℕ) → pending y (put u' (put t' s.tasks)) ≤ pending y s.tasks
  put_two_few t u t' u' mt mu et eu kt ku y =
      let a = put_few t t' mt et kt y in
      omega (arith, pending_put y u' (put t' s.tasks) (same_nack_put _ _ _ tidy t t' mt et kt u' (same_nack _ _ _ tidy u u' mu eu ku)))

  -- a sync begins
  begun_few : (t t' : Task M) → Memᴰ t s.tasks → t'.number ≡ t.number → t'.nack ≡ t.nack → (y n : ℕ) (bs : List ℕ) → y ≡ suc s.last_sync → length bs ≤ most_nacks
      → (s' : State M) → s'.last_sync ≡ y → s'.tasks ≡ put t' s.tasks ++ nack_tasks w y n 0 bs → FewPending s'
  begun_few t t' m e f y n bs next short s' last are = record { few = few; none = none }
    where
      counted : (x : ℕ) → pending x s'.tasks ≤ pending x s.tasks + pending x (nack_tasks w y n 0 bs)
      counted x = rw are (omega (arith, pending_append x (put t' s.tasks) (nack_tasks w y n 0 bs), put_few t t' m e f x))

      few : (x : ℕ) → pending x s'.tasks ≤ most_nacks
      few x = elim (cases_eq y x) [
        | inl p ↦ omega (arith, counted x, h.none x (omega arith), pending_new w x y n 0 bs)
        | inr d ↦ omega (arith, counted x, h.few x, pending_others w x y n 0 bs d)
      ]

      none : (x : ℕ) → s'.last_sync < x → pending x s'.tasks ≡ 0
      none x l = omega (arith, counted x, h.none x (omega arith), pending_others w x y n 0 bs (omega arith))

  pending_step : (v : Move) (rs : List (Event M)) (s' : State M) → Step w s v rs s' → FewPending s'
  pending_step v rs s' (ends t r _ _ _ e) = rw e (still_few _ refl (λ y. pending_kept y _ s.tasks))
  pending_step v rs s' (emits t r _ _ _ e) = rw e (still_few _ refl (put_few t _ r.live refl refl))
  pending_step v rs s' (returns t r _ _ _ e) = rw e (still_few _ refl (put_few t _ r.live refl refl))
  pending_step v rs s' (spawns t b r _ _ _ e) = rw e (still_few _ refl (λ y. let a = put_few t (moved t (suc t.place)) r.live refl refl y in rw pending_append (omega arith)))
  pending_step v rs s' (syncs t x r _ i bs f ls _ y next _ e) = rw e (begun_few t _ r.live refl refl y _ bs next (rw f (sync_nacks_few w lim t x i _)) _ refl refl)
  pending_step v rs s' (settles_one t y i l a _ _ σs _ _ e) = rw e (still_few _ refl (λ x. le_trans (pending_told x σs _) (put_few t _ a.live refl refl x)))
  pending_step v rs s' (settles_pair t u y i z j p l k a _ b _ _ σs _ _ e) = rw e (still_few _ refl (λ x. le_trans (pending_told x σs _) (put_two_few t u _ _ a.live b.live refl refl refl refl x)))

  pending_act : (rs : List (Event M)) (s' : State M) → Act w s rs s' → FewPending s'
  pending_act rs s' (steps v a) = pending_step v rs s' a
  pending_act rs s' (posts p m _ _ _ e) = rw e (still_few _ refl (λ y. omega arith))
  pending_act rs s' (clocks k _ _ _ e) = rw e (still_few _ refl (λ y. omega arith))

pending_run : {M : Type 0} (w : Setting M) → Limited w.script → (tr : List (Record M)) (s : State M) → Run w tr s → FewPending s
pending_run w lim tr s (begins _ e) = rw e (record { few = λ y. omega arith; none = λ y l. refl })
pending_run w lim tr s (goes_on {tr = tr₀} {s = s₀} rs r a _) = pending_act w lim s₀ (pending_run w lim tr₀ s₀ r) (sound_run w tr₀ s₀ r).tidy rs s a

-- the fire records of settlements are at most those nacks that were pending with their syncs

fire_if_few : (M : Type 0) (n y : ℕ) (now inside : Bool) (k : Nack) → length (fire_if {M = M} n y (cond now (cond inside Void Fired) k)) ≤ cond now 1 0 + length (fire_if {M = M} n y k)
fire_if_few M n y true true k = omega arith
fire_if_few M n y true false k = omega arith
fire_if_few M n y false inside k = omega arith

fire_of_few : (M : Type 0) (σ : Settlement) (σs : List Settlement) (n : ℕ) (k : Nack) → length (fire_of {M = M} (σ ∷ σs) n k) ≤ pends σ.sync k + length (fire_of {M = M} σs n k)
fire_of_few M σ σs n Fired = omega arith
fire_of_few M σ σs n Void = omega arith
fire_of_few M σ σs n (Pending y b) = fire_if_few M n y (eqb y σ.sync) (in_branch b σ.above) (pending_after σs y b)

one_more_few : {M : Type 0} (σ : Settlement) (σs : List Settlement) (ts : List (Task M)) → length (fires (σ ∷ σs) ts) ≤ pending σ.sync ts + length (fires σs ts)
one_more_few σ σs [] = omega arith
one_more_few {M} σ σs (t ∷ ts) =
    let a = fire_of_few M σ σs t.number t.nack in let r = one_more_few σ σs ts in
    simp length-append (omega arith)

fire_of_none : (M : Type 0) (n : ℕ) (k : Nack) → fire_of {M = M} [] n k ≡ []
fire_of_none M n Fired = refl
fire_of_none M n Void = refl
fire_of_none M n (Pending y b) = refl

fires_nothing : {M : Type 0} (ts : List (Task M)) → fires [] ts ≡ []
fires_nothing [] = refl
fires_nothing {M} (t ∷ ts) = λ i. fire_of_none M t.number t.nack i ++ fires_nothing ts i

fires_few : {M : Type 0} (ts : List (Task M)) → ((y : ℕ) → pending y ts ≤ most_nacks) → (σs : List Settlement) → length (fires σs ts) ≤ most_nacks * length σs
fires_few ts h [] = omega (arith, ap length (fires_nothing ts))
fires_few ts h (σ ∷ σs) = omega (arith, one_more_few σ σs ts, h σ.sync, fires_few ts h σs)

-- the most records that an act makes: a pair, and a fire for each with-nack of its two syncs
abbrev pub most_records : ℕ
most_records = 1 + most_nacks * 2

length_starts : (M : Type 0) (t y n : ℕ) (bs : List ℕ) → length (nack_starts {M = M} t y n bs) ≡ length bs
length_starts M t y n [] = refl
length_starts M t y n (b ∷ bs) = ap suc (length_starts M t y (suc n) bs)

module _ {M : Type 0} (w : Setting M) (lim : Limited w.script) (tr : List (Record M)) (s : State M) (r : Run w tr s) where
  settled_few : (x : Event M) (rs : List (Event M)) (σs : List Settlement) → length σs ≤ 2 → rs ≡ x ∷ fires σs s.tasks → length rs ≤ most_records
  settled_few x rs σs two e = omega (arith, ap length e, fires_few s.tasks (pending_run w lim tr s r).few σs)

  pub records_few : (rs : List (Event M)) (s' : State M) → Act w s rs s' → length rs ≤ most_records
  records_few rs s' (steps v (ends t _ _ _ f _)) = omega (arith, ap length f)
  records_few rs s' (steps v (emits t _ _ _ f _)) = omega (arith, ap length f)
  records_few rs s' (steps v (returns t _ _ _ f _)) = omega (arith, ap length f)
  records_few rs s' (steps v (spawns t b _ _ _ f _)) = omega (arith, ap length f)
  records_few rs s' (steps v (syncs t x _ _ i bs b ls _ y _ f _)) =
      let short : length bs ≤ most_nacks = rw b (sync_nacks_few w lim t x i _) in
      omega (arith, ap length f, length_starts M t.number y (suc s.last_task) bs)
  records_few rs s' (steps v (settles_one t y i l _ _ _ σs d f _)) = settled_few _ rs σs (omega (arith, ap length d)) f
  records_few rs s' (steps v (settles_pair t u y i z j p l k _ _ _ _ _ σs d f _)) = settled_few _ rs σs (omega (arith, ap length d)) f
  records_few rs s' (posts p m _ _ f _) = omega (arith, ap length f)
  records_few rs s' (clocks k _ _ f _) = omega (arith, ap length f)
