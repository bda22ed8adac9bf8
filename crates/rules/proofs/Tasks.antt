-- The live tasks are tidy: their numbers differ, and so do the syncs that they wait in.
use Rattle.std.proofs.Common.{◌≡◌, ℕ, suc, ◌+◌, ◌<◌, ◌≤◌, Bool, true, false, cond, eqb, ◌≢◌, ◌⊎◌, List, [], ◌∷◌, ◌++◌, map, length, filter, sym, refl, ap, ◌∙◌, subst, inl, inr, arith}
use mathlib.Core.List.Memᴰ
use mathlib.Core.List.{Memᴰ}
use Rattle.std.proofs.lemmas.Bool.{cases_eq, eqb-false, eq-eqb, ne_eqb, cond-true, cond-false}
use Rattle.rules.specs.declared.nack.Nack.TheVariants.{Pending}
use Rattle.rules.specs.States.{Setting, Leaf, Wait, running, waiting, Task}
use Rattle.rules.specs.Settling.{put, Settlement, told_of}
use Rattle.rules.specs.Steps.{started, nack_tasks}
use Rattle.rules.proofs.Members.{mem_kept}

-- tasks numbered up to `n`, waiting in syncs numbered up to `y`
pub record Tidy {M : Type 0} (ts : List (Task M)) (n y : ℕ) : Type 0 where
  pub numbers : (t u : Task M) → Memᴰ t ts → Memᴰ u ts → t.number ≡ u.number → t ≡ u
  pub low : (t : Task M) → Memᴰ t ts → t.number ≤ n
  pub syncs : (t u : Task M) (x : ℕ) (ls ks : List (Leaf M)) → Memᴰ t ts → Memᴰ u ts → t.wait ≡ waiting x ls → u.wait ≡ waiting x ks → t ≡ u
  pub early : (t : Task M) (x : ℕ) (ls : List (Leaf M)) → Memᴰ t ts → t.wait ≡ waiting x ls → (1 ≤ x) × (x ≤ y)

pub not_both : {M : Type 0} (v : Wait M) (x : ℕ) (ls : List (Leaf M)) → v ≡ running → v ≡ waiting x ls → ⊥
not_both v x ls e f = let z : ◌≡◌ {A = ℕ} 0 1 = cc in omega arith

-- where one task is put in place of the one that has its number

-- the task put, or one that was there and has another number
abbrev pub PutOrThere : {M : Type 0} → Task M → List (Task M) → Task M → Type 0
PutOrThere t us v = (v ≡ t) ⊎ (Memᴰ v us × (v.number ≢ t.number))

pub mem_put : {M : Type 0} (t v : Task M) (us : List (Task M)) → Memᴰ v (put t us) → PutOrThere t us v
mem_put {M} t v us m = let r = Memᴰ.of_map (λ (u : Task M). cond (eqb u.number t.number) t u) us m in go r.0 r.1 (eqb r.0.number t.number) refl (sym r.2)
  where
    go : (x : Task M) → Memᴰ x us → (b : Bool) → eqb x.number t.number ≡ b → v ≡ cond b t x → PutOrThere t us v
    go x n true e f = inl f
    go x n false e f = inr (Memᴰ.cast f n, λ h. eqb-false x.number t.number e (ap (λ (u : Task M). u.number) (sym f) ∙ h))

pub put_mem : {M : Type 0} (t u : Task M) (us : List (Task M)) → Memᴰ u us → u.number ≢ t.number → Memᴰ u (put t us)
put_mem t u us m n = Memᴰ.cast (sym (cond-false (eqb u.number t.number) t u (ne_eqb u.number t.number n))) (Memᴰ.map (λ u. cond (eqb u.number t.number) t u) m)

pub put_self : {M : Type 0} (t u : Task M) (us : List (Task M)) → Memᴰ u us → u.number ≡ t.number → Memᴰ t (put t us)
put_self t u us m n = Memᴰ.cast (sym (cond-true (eqb u.number t.number) t u (eq-eqb u.number t.number n))) (Memᴰ.map (λ u. cond (eqb u.number t.number) t u) m)

-- every task of `us` comes from one of `ts`, by the relation `R`
abbrev pub From : {M : Type 0} → (Task M → Task M → Type 0) → List (Task M) → List (Task M) → Type 0
From {M} R ts us = (t : Task M) → Memᴰ t us → (u : Task M) × Memᴰ u ts × R u t

pub from_put : {M : Type 0} (R : Task M → Task M → Type 0) (ts us : List (Task M)) (t₀ t : Task M) → Memᴰ t₀ ts → R t₀ t → From R ts us → From R ts (put t us)
from_put {M} R ts us t₀ t m r k v n = go (mem_put t v us n)
  where
    go : PutOrThere t us v → (u : Task M) × Memᴰ u ts × R u v
    go (inl p) = (t₀, m, subst (R t₀) (sym p) r)
    go (inr p) = k v p.0

module _ {M : Type 0} (t₀ t : Task M) (ts : List (Task M)) (n y : ℕ) (h : Tidy ts n y) (m₀ : Memᴰ t₀ ts) (same : t.number ≡ t₀.number) where
  put_numbers : (a b : Task M) → PutOrThere t ts a → PutOrThere t ts b → a.number ≡ b.number → a ≡ b
  put_numbers a b (inl p) (inl q) e = p ∙ sym q
  put_numbers a b (inl p) (inr q) e = absurd (q.1 (sym e ∙ ap (λ (u : Task M). u.number) p))
  put_numbers a b (inr p) (inl q) e = absurd (p.1 (e ∙ ap (λ (u : Task M). u.number) q))
  put_numbers a b (inr p) (inr q) e = h.numbers a b p.0 q.0 e

  put_low : (a : Task M) → PutOrThere t ts a → a.number ≤ n
  put_low a (inl p) = let e : a.number ≡ t₀.number = ap (λ (u : Task M). u.number) p ∙ same in subst (λ k. k ≤ n) (sym e) (h.low t₀ m₀)
  put_low a (inr p) = h.low a p.0

  runs_syncs : t.wait ≡ running → (a b : Task M) (x : ℕ) (ls ks : List (Leaf M)) → PutOrThere t ts a → PutOrThere t ts b → a.wait ≡ waiting x ls → b.wait ≡ waiting x ks → a ≡ b
  runs_syncs r a b x ls ks (inl p) q e f = absurd (not_both t.wait x ls r (ap (λ (u : Task M). u.wait) (sym p) ∙ e))
  runs_syncs r a b x ls ks (inr p) (inl q) e f = absurd (not_both t.wait x ks r (ap (λ (u : Task M). u.wait) (sym q) ∙ f))
  runs_syncs r a b x ls ks (inr p) (inr q) e f = h.syncs a b x ls ks p.0 q.0 e f

  runs_early : t.wait ≡ running → (a : Task M) (x : ℕ) (ls : List (Leaf M)) → PutOrThere t ts a → a.wait ≡ waiting x ls → (1 ≤ x) × (x ≤ y)
  runs_early r a x ls (inl p) e = absurd (not_both t.wait x ls r (ap (λ (u : Task M). u.wait) (sym p) ∙ e))
  runs_early r a x ls (inr p) e = h.early a x ls p.0 e

  pub tidy_runs : t.wait ≡ running → Tidy (put t ts) n y
  tidy_runs r = record {
    numbers = λ a b p q. put_numbers a b (mem_put t a ts p) (mem_put t b ts q);
    low = λ a p. put_low a (mem_put t a ts p);
    syncs = λ a b x ls ks p q. runs_syncs r a b x ls ks (mem_put t a ts p) (mem_put t b ts q);
    early = λ a x ls p. runs_early r a x ls (mem_put t a ts p);
  }

  waits_syncs : (zs : List (Leaf M)) → t.wait ≡ waiting (suc y) zs → (a b : Task M) (x : ℕ) (ls ks : List (Leaf M)) → PutOrThere t ts a → PutOrThere t ts b → a.wait ≡ waiting x ls → b.wait ≡ waiting x ks → a ≡ b
  waits_syncs zs r a b x ls ks (inl p) (inl q) e f = p ∙ sym q
  waits_syncs zs r a b x ls ks (inl p) (inr q) e f = let k = h.early b x ks q.0 f in let j : x ≡ suc y = (let g = ap (λ (u : Task M). u.wait) p in cc) in absurd (omega arith)
  waits_syncs zs r a b x ls ks (inr p) (inl q) e f = let k = h.early a x ls p.0 e in let j : x ≡ suc y = (let g = ap (λ (u : Task M). u.wait) q in cc) in absurd (omega arith)
  waits_syncs zs r a b x ls ks (inr p) (inr q) e f = h.syncs a b x ls ks p.0 q.0 e f

  waits_early : (zs : List (Leaf M)) → t.wait ≡ waiting (suc y) zs → (a : Task M) (x : ℕ) (ls : List (Leaf M)) → PutOrThere t ts a → a.wait ≡ waiting x ls → (1 ≤ x) × (x ≤ suc y)
  waits_early zs r a x ls (inl p) e = let j : x ≡ suc y = (let g = ap (λ (u : Task M). u.wait) p in cc) in omega arith
  waits_early zs r a x ls (inr p) e = let k = h.early a x ls p.0 e in omega arith

  pub tidy_waits : (zs : List (Leaf M)) → t.wait ≡ waiting (suc y) zs → Tidy (put t ts) n (suc y)
  tidy_waits zs r = record {
    numbers = λ a b p q. put_numbers a b (mem_put t a ts p) (mem_put t b ts q);
    low = λ a p. put_low a (mem_put t a ts p);
    syncs = λ a b x ls ks p q. waits_syncs zs r a b x ls ks (mem_put t a ts p) (mem_put t b ts q);
    early = λ a x ls p. waits_early zs r a x ls (mem_put t a ts p);
  }

-- two that run are put
pub tidy_two : {M : Type 0} (ts : List (Task M)) (n y : ℕ) → Tidy ts n y → (t u t' u' : Task M) → Memᴰ t ts → Memᴰ u ts → t'.number ≡ t.number → u'.number ≡ u.number → t'.wait ≡ running → u'.wait ≡ running
    → Tidy (put u' (put t' ts)) n y
tidy_two {M} ts n y h t u t' u' mt mu et eu wt wu = go (cases_eq u.number t'.number)
  where
    k : Tidy (put t' ts) n y
    k = tidy_runs t t' ts n y h mt et wt

    go : (u.number ≡ t'.number) ⊎ (u.number ≢ t'.number) → Tidy (put u' (put t' ts)) n y
    go (inl e) = tidy_runs t' u' (put t' ts) n y k (put_self t' t ts mt (sym et)) (eu ∙ e) wu
    go (inr d) = tidy_runs u u' (put t' ts) n y k (put_mem t' u ts mu d) eu wu

-- where some tasks are left out

pub tidy_kept : {M : Type 0} (p : Task M → Bool) (ts : List (Task M)) (n y : ℕ) → Tidy ts n y → Tidy (filter p ts) n y
tidy_kept p ts n y h = record {
  numbers = λ a b m k. h.numbers a b (mem_kept p a ts m).0 (mem_kept p b ts k).0;
  low = λ a m. h.low a (mem_kept p a ts m).0;
  syncs = λ a b x ls ks m k. h.syncs a b x ls ks (mem_kept p a ts m).0 (mem_kept p b ts k).0;
  early = λ a x ls m. h.early a x ls (mem_kept p a ts m).0;
}

-- where nacks change

pub tidy_told : {M : Type 0} (σs : List Settlement) (ts : List (Task M)) (n y : ℕ) → Tidy ts n y → Tidy (map (told_of σs) ts) n y
tidy_told {M} σs ts n y h = record { numbers = nums; low = lows; syncs = syns; early = earl }
  where
    nums : (a b : Task M) → Memᴰ a (map (told_of σs) ts) → Memᴰ b (map (told_of σs) ts) → a.number ≡ b.number → a ≡ b
    nums a b m k e = let p = Memᴰ.of_map (told_of σs) ts m in let q = Memᴰ.of_map (told_of σs) ts k in
        sym p.2 ∙ ap (told_of σs) (h.numbers p.0 q.0 p.1 q.1 (ap (λ (u : Task M). u.number) p.2 ∙ e ∙ sym (ap (λ (u : Task M). u.number) q.2))) ∙ q.2

    lows : (a : Task M) → Memᴰ a (map (told_of σs) ts) → a.number ≤ n
    lows a m = let p = Memᴰ.of_map (told_of σs) ts m in subst (λ k. k ≤ n) (ap (λ (u : Task M). u.number) p.2) (h.low p.0 p.1)

    syns : (a b : Task M) (x : ℕ) (ls ks : List (Leaf M)) → Memᴰ a (map (told_of σs) ts) → Memᴰ b (map (told_of σs) ts) → a.wait ≡ waiting x ls → b.wait ≡ waiting x ks → a ≡ b
    syns a b x ls ks m k e f = let p = Memᴰ.of_map (told_of σs) ts m in let q = Memᴰ.of_map (told_of σs) ts k in
        sym p.2 ∙ ap (told_of σs) (h.syncs p.0 q.0 x ls ks p.1 q.1 (ap (λ (u : Task M). u.wait) p.2 ∙ e) (ap (λ (u : Task M). u.wait) q.2 ∙ f)) ∙ q.2

    earl : (a : Task M) (x : ℕ) (ls : List (Leaf M)) → Memᴰ a (map (told_of σs) ts) → a.wait ≡ waiting x ls → (1 ≤ x) × (x ≤ y)
    earl a x ls m e = let p = Memᴰ.of_map (told_of σs) ts m in h.early p.0 x ls p.1 (ap (λ (u : Task M). u.wait) p.2 ∙ e)

-- where tasks are started

-- running tasks numbered after `n`, up to `n'`
pub record Fresh {M : Type 0} (us : List (Task M)) (n n' : ℕ) : Type 0 where
  pub numbers : (t u : Task M) → Memᴰ t us → Memᴰ u us → t.number ≡ u.number → t ≡ u
  pub range : (t : Task M) → Memᴰ t us → (n < t.number) × (t.number ≤ n')
  pub running : (t : Task M) → Memᴰ t us → t.wait ≡ running

module _ {M : Type 0} (ts us : List (Task M)) (n n' y : ℕ) (le : n ≤ n') (h : Tidy ts n y) (f : Fresh us n n') where
  both_numbers : (a b : Task M) → Memᴰ a ts ⊎ Memᴰ a us → Memᴰ b ts ⊎ Memᴰ b us → a.number ≡ b.number → a ≡ b
  both_numbers a b (inl p) (inl q) e = h.numbers a b p q e
  both_numbers a b (inl p) (inr q) e = let k = h.low a p in let j = f.range b q in absurd (omega arith)
  both_numbers a b (inr p) (inl q) e = let k = h.low b q in let j = f.range a p in absurd (omega arith)
  both_numbers a b (inr p) (inr q) e = f.numbers a b p q e

  both_low : (a : Task M) → Memᴰ a ts ⊎ Memᴰ a us → a.number ≤ n'
  both_low a (inl p) = let k = h.low a p in omega arith
  both_low a (inr p) = (f.range a p).1

  both_syncs : (a b : Task M) (x : ℕ) (ls ks : List (Leaf M)) → Memᴰ a ts ⊎ Memᴰ a us → Memᴰ b ts ⊎ Memᴰ b us → a.wait ≡ waiting x ls → b.wait ≡ waiting x ks → a ≡ b
  both_syncs a b x ls ks (inl p) (inl q) d e = h.syncs a b x ls ks p q d e
  both_syncs a b x ls ks (inl p) (inr q) d e = absurd (not_both b.wait x ks (f.running b q) e)
  both_syncs a b x ls ks (inr p) q d e = absurd (not_both a.wait x ls (f.running a p) d)

  both_early : (a : Task M) (x : ℕ) (ls : List (Leaf M)) → Memᴰ a ts ⊎ Memᴰ a us → a.wait ≡ waiting x ls → (1 ≤ x) × (x ≤ y)
  both_early a x ls (inl p) d = h.early a x ls p d
  both_early a x ls (inr p) d = absurd (not_both a.wait x ls (f.running a p) d)

  pub tidy_more : Tidy (ts ++ us) n' y
  tidy_more = record {
    numbers = λ a b p q. both_numbers a b (Memᴰ.append_cases ts p) (Memᴰ.append_cases ts q);
    low = λ a p. both_low a (Memᴰ.append_cases ts p);
    syncs = λ a b x ls ks p q. both_syncs a b x ls ks (Memᴰ.append_cases ts p) (Memᴰ.append_cases ts q);
    early = λ a x ls p. both_early a x ls (Memᴰ.append_cases ts p);
  }

pub fresh_none : {M : Type 0} (n : ℕ) → Fresh {M = M} [] n n
fresh_none n = record { numbers = λ a c m k e. absurd (Memᴰ.not-nil m); range = λ a m. absurd (Memᴰ.not-nil m); running = λ a m. absurd (Memᴰ.not-nil m) }

-- one more in front
fresh_more : {M : Type 0} (t : Task M) (us : List (Task M)) (n n' : ℕ) → t.number ≡ suc n → t.wait ≡ running → suc n ≤ n' → Fresh us (suc n) n' → Fresh (t ∷ us) n n'
fresh_more {M} t us n n' e r le f = record { numbers = nums; range = rang; running = runn }
  where
    rang : (a : Task M) → Memᴰ a (t ∷ us) → (n < a.number) × (a.number ≤ n')
    rang a (Memᴰ.head p) = let k : a.number ≡ suc n = ap (λ (u : Task M). u.number) p ∙ e in (omega arith, omega arith)
    rang a (Memᴰ.tail m) = let k = f.range a m in (omega arith, k.1)

    runn : (a : Task M) → Memᴰ a (t ∷ us) → a.wait ≡ running
    runn a (Memᴰ.head p) = ap (λ (u : Task M). u.wait) p ∙ r
    runn a (Memᴰ.tail m) = f.running a m

    nums : (a b : Task M) → Memᴰ a (t ∷ us) → Memᴰ b (t ∷ us) → a.number ≡ b.number → a ≡ b
    nums a b (Memᴰ.head p) (Memᴰ.head q) d = p ∙ sym q
    nums a b (Memᴰ.head p) (Memᴰ.tail q) d = let k : a.number ≡ suc n = ap (λ (u : Task M). u.number) p ∙ e in let j = f.range b q in absurd (omega arith)
    nums a b (Memᴰ.tail p) (Memᴰ.head q) d = let k : b.number ≡ suc n = ap (λ (u : Task M). u.number) q ∙ e in let j = f.range a p in absurd (omega arith)
    nums a b (Memᴰ.tail p) (Memᴰ.tail q) d = f.numbers a b p q d

pub fresh_one : {M : Type 0} (t : Task M) (n : ℕ) → t.number ≡ suc n → t.wait ≡ running → Fresh (t ∷ []) n (suc n)
fresh_one t n e r = fresh_more t [] n (suc n) e r (omega arith) (fresh_none (suc n))

pub fresh_nacks : {M : Type 0} (w : Setting M) (y n b : ℕ) (cs : List ℕ) → Fresh (nack_tasks w y (suc n) b cs) n (n + length cs)
fresh_nacks {M} w y n b [] = subst (λ k. Fresh {M = M} [] n k) (omega arith) (fresh_none n)
fresh_nacks {M} w y n b (c ∷ cs) = fresh_more (started w (suc n) c (Pending y b)) (nack_tasks w y (suc (suc n)) (suc b) cs) n (n + length (c ∷ cs)) refl refl (omega arith)
    (subst (λ k. Fresh (nack_tasks w y (suc (suc n)) (suc b) cs) (suc n) k) (omega arith) (fresh_nacks w y (suc n) (suc b) cs))
