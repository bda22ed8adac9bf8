-- In every run the live tasks stand by rising number.
use Rattle.std.proofs.Common.{◌≡◌, ℕ, suc, ◌<◌, ◌≤◌, Bool, cond, eqb, List, [], ◌∷◌, ◌++◌, map, filter, sym, refl, ap, ◌∙◌, subst, arith}
use mathlib.Core.List.{map-append}
use Rattle.std.specs.List.{AllByRecursion}
use Rattle.std.proofs.ByRecursion.{All-weaker, All-append, All-map}
use Rattle.std.proofs.lemmas.Bool.{cond_both, eqb-true}
use Rattle.trace.specs.declared.record.Event.{Event}
use Rattle.trace.specs.declared.record.Record.{Record}
use Rattle.rules.specs.declared.nack.Nack.TheVariants.{Void}
use Rattle.rules.specs.States.{Setting, Task, State}
use Rattle.rules.specs.Settling.{put, Settlement, told_of}
use Rattle.rules.specs.Steps.{started, nack_tasks, Move, Step, ends, emits, returns, spawns, syncs, settles_one, settles_pair}
use Rattle.rules.specs.Runs.{Act, steps, posts, clocks, Run, begins, goes_on}
use Rattle.rules.specs.Laws.{Rising}
use Rattle.rules.proofs.Members.{all_by_mem}
use Rattle.rules.proofs.Tasks.{Tidy, Fresh, fresh_one, fresh_nacks}
use Rattle.rules.proofs.Sound.{Sound, sound_run}

abbrev numbers : {M : Type 0} → List (Task M) → List ℕ
numbers ts = map (λ t. t.number) ts

-- what keeps every number

put_numbers : {M : Type 0} (t : Task M) (us : List (Task M)) → numbers (put t us) ≡ numbers us
put_numbers t [] = refl
put_numbers {M} t (u ∷ us) = λ i. one i ∷ put_numbers t us i
  where
    one : (cond (eqb u.number t.number) t u).number ≡ u.number
    one = cond_both (eqb u.number t.number) t u (λ (v : Task M). v.number ≡ u.number) (λ e. sym (eqb-true u.number t.number e)) (λ e. refl)

told_numbers : {M : Type 0} (σs : List Settlement) (us : List (Task M)) → numbers (map (told_of σs) us) ≡ numbers us
told_numbers σs [] = refl
told_numbers σs (u ∷ us) = ap (λ ns. u.number ∷ ns) (told_numbers σs us)

-- what leaves tasks out

all_kept : {X : Type 0} (P : ℕ → Type 0) (f : X → ℕ) (p : X → Bool) (xs : List X) → AllByRecursion P (map f xs) → AllByRecursion P (map f (filter p xs))
all_kept P f p [] h = tt
all_kept {X} P f p (x ∷ xs) h = cond_both (p x) (x ∷ filter p xs) (filter p xs) (λ (l : List X). AllByRecursion P (map f l)) (λ _. (h.0, all_kept P f p xs h.1)) (λ _. all_kept P f p xs h.1)

pub rising_kept : {X : Type 0} (f : X → ℕ) (p : X → Bool) (xs : List X) → Rising (map f xs) → Rising (map f (filter p xs))
rising_kept f p [] h = tt
rising_kept {X} f p (x ∷ xs) h = cond_both (p x) (x ∷ filter p xs) (filter p xs) (λ (l : List X). Rising (map f l)) (λ _. (all_kept (λ n. f x < n) f p xs h.0, rising_kept f p xs h.1)) (λ _. rising_kept f p xs h.1)

-- what starts tasks

rising_append : (n : ℕ) (xs ys : List ℕ) → AllByRecursion (λ x. x ≤ n) xs → AllByRecursion (λ y. n < y) ys → Rising xs → Rising ys → Rising (xs ++ ys)
rising_append n [] ys a b p q = q
rising_append n (x ∷ xs) ys a b p q = let le = a.0 in
    (All-append (λ y. x < y) xs ys p.0 (All-weaker (λ y. n < y) (λ y. x < y) (λ y lt. omega arith) ys b), rising_append n xs ys a.1 b p.1 q)

rising_more : {M : Type 0} (t : Task M) (ts us : List (Task M)) (n n' y : ℕ) → Tidy ts n y → Fresh us n n' → Rising (numbers ts) → Rising (numbers us) → Rising (numbers (put t ts ++ us))
rising_more {M} t ts us n n' y h f p q = subst Rising (sym (map-append (λ (u : Task M). u.number) (put t ts) us ∙ ap (λ ns. ns ++ numbers us) (put_numbers t ts)))
    (rising_append n (numbers ts) (numbers us)
    (All-map (λ k. k ≤ n) (λ (u : Task M). u.number) ts (all_by_mem (λ u. u.number ≤ n) ts h.low))
    (All-map (λ k. n < k) (λ (u : Task M). u.number) us (all_by_mem (λ u. n < u.number) us (λ u m. (f.range u m).0)))
    p q)

rising_nacks : {M : Type 0} (w : Setting M) (y n b : ℕ) (cs : List ℕ) → Rising (numbers (nack_tasks w y (suc n) b cs))
rising_nacks w y n b [] = tt
rising_nacks {M} w y n b (c ∷ cs) = let us = nack_tasks w y (suc (suc n)) (suc b) cs in (
  All-map (λ k. suc n < k) (λ (t : Task M). t.number) us (all_by_mem (λ t. suc n < t.number) us (λ t m. ((fresh_nacks w y (suc n) (suc b) cs).range t m).0)),
  rising_nacks w y (suc n) (suc b) cs,
)

-- the steps

abbrev InOrder : {M : Type 0} → State M → Type 0
InOrder s = Rising (numbers s.tasks)

rising_step : {M : Type 0} (w : Setting M) (s : State M) (v : Move) (rs : List (Event M)) (s' : State M) → Sound w s → InOrder s → Step w s v rs s' → InOrder s'
rising_step {M} w s v rs s' h p (ends t r _ _ _ e) = subst InOrder (sym e) (rising_kept (λ (u : Task M). u.number) _ s.tasks p)
rising_step w s v rs s' h p (emits t r _ _ _ e) = subst InOrder (sym e) (subst Rising (sym (put_numbers _ s.tasks)) p)
rising_step w s v rs s' h p (returns t r _ _ _ e) = subst InOrder (sym e) (subst Rising (sym (put_numbers _ s.tasks)) p)
rising_step w s v rs s' h p (spawns t b r _ _ _ e) = subst InOrder (sym e) (rising_more _ s.tasks _ _ _ _ h.tidy (fresh_one (started w (suc s.last_task) b Void) s.last_task refl refl) p (tt, tt))
rising_step w s v rs s' h p (syncs t x r _ _ bs _ ls _ y _ _ e) = subst InOrder (sym e) (rising_more _ s.tasks _ _ _ _ h.tidy (fresh_nacks w y s.last_task 0 bs) p (rising_nacks w y s.last_task 0 bs))
rising_step w s v rs s' h p (settles_one t y i l a _ _ σs _ _ e) = subst InOrder (sym e) (subst Rising (sym (told_numbers σs _ ∙ put_numbers _ s.tasks)) p)
rising_step w s v rs s' h p (settles_pair g r y i z j q l k a _ b _ _ σs _ _ e) = subst InOrder (sym e) (subst Rising (sym (told_numbers σs _ ∙ put_numbers _ _ ∙ put_numbers _ s.tasks)) p)

rising_act : {M : Type 0} (w : Setting M) (s : State M) (rs : List (Event M)) (s' : State M) → Sound w s → InOrder s → Act w s rs s' → InOrder s'
rising_act w s rs s' h p (steps v a) = rising_step w s v rs s' h p a
rising_act w s rs s' h p (posts q m _ _ _ e) = subst InOrder (sym e) p
rising_act w s rs s' h p (clocks k _ _ _ e) = subst InOrder (sym e) p

pub rising_run : {M : Type 0} (w : Setting M) (tr : List (Record M)) (s : State M) → Run w tr s → Rising (map (λ t. t.number) s.tasks)
rising_run w tr s (begins _ e) = subst InOrder (sym e) (tt, tt)
rising_run w tr s (goes_on {s = s₀} rs r a _) = rising_act w s₀ rs s (sound_run w _ s₀ r) (rising_run w _ s₀ r) a
