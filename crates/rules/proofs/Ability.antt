-- The list of able tasks has just the able tasks, and the list of open leaves just the open leaves.
use Rattle.std.proofs.Common.{◌≡◌, ℕ, zero, suc, ◌+◌, Bool, true, false, cond, ◌≢◌, List, [], ◌∷◌, Some, sym, refl, ap, ◌∙◌, subst, arith}
use mathlib.Core.List.Memᴰ
use mathlib.Core.List.{Memᴰ}
use Rattle.std.specs.List.{slice_get}
use Rattle.std.proofs.lemmas.Bool.{le-leb, leb-true, both_ways, cond_both}
use Rattle.rules.specs.declared.offer.Reply.{Reply}
use Rattle.rules.specs.declared.offer.Reply.TheVariants.{Closed}
use Rattle.rules.specs.States.{Setting, Leaf, Wait, running, waiting, Task, State}
use Rattle.rules.specs.Able.{reply, Open, Able, by_place, by_leaf, opens, open_leaves, some_in, able_when}
use Rattle.rules.specs.Laws.{ListedAble}
use Rattle.rules.proofs.Members.{kept_mem, mem_kept}

-- the numbers of the open leaves

opens_true : (r : Reply) → r ≢ Closed → opens r ≡ true
opens_true r n = grind arith

pub opens_open : (r : Reply) → opens r ≡ true → r ≢ Closed
opens_open r e n = grind arith

-- a leaf of these, numbered from `i`, has the number `n` and is open
record Found {M : Type 0} (w : Setting M) (s : State M) (t : Task M) (y i : ℕ) (ls : List (Leaf M)) (n : ℕ) : Type 0 where
  pub back : ℕ
  pub there : n ≡ i + back
  pub leaf : Leaf M
  pub here : slice_get ls back ≡ Some leaf
  pub is_open : reply w s t y n leaf.base ≢ Closed

module _ {M : Type 0} (w : Setting M) (s : State M) (t : Task M) (y : ℕ) where
  listed_open : (i : ℕ) (ls : List (Leaf M)) (n : ℕ) → Memᴰ n (open_leaves w s t y i ls) → Found w s t y i ls n
  listed_open i [] n m = absurd (Memᴰ.not-nil m)
  listed_open i (l ∷ ls) n m = go (opens (reply w s t y i l.base)) refl (listed_open (suc i) ls n) m
    where
      later : Found w s t y (suc i) ls n → Found w s t y i (l ∷ ls) n
      later f = record { back = suc f.back; there = omega (arith, f.there); leaf = f.leaf; here = f.here; is_open = f.is_open }

      go : (b : Bool) → opens (reply w s t y i l.base) ≡ b → (Memᴰ n (open_leaves w s t y (suc i) ls) → Found w s t y (suc i) ls n)
          → Memᴰ n (cond b (i ∷ open_leaves w s t y (suc i) ls) (open_leaves w s t y (suc i) ls)) → Found w s t y i (l ∷ ls) n
      go true e f (Memᴰ.head k) = record { back = 0; there = omega arith; leaf = l; here = refl; is_open = rw k (opens_open _ e) }
      go true e f (Memᴰ.tail k) = later (f k)
      go false e f k = later (f k)

  open_listed : (i : ℕ) (ls : List (Leaf M)) (n : ℕ) → Found w s t y i ls n → Memᴰ n (open_leaves w s t y i ls)
  open_listed i ls n f = go i ls f.back f.there f.here
    where
      go : (i : ℕ) (ls : List (Leaf M)) (j : ℕ) → n ≡ i + j → slice_get ls j ≡ Some f.leaf → Memᴰ n (open_leaves w s t y i ls)
      go i [] j e h = absurd (grind arith)
      go i (k ∷ ks) zero e h =
          let same : f.leaf ≡ k = cc in let here : n ≡ i = omega arith in
          subst (λ b. Memᴰ n (cond b (i ∷ open_leaves w s t y (suc i) ks) (open_leaves w s t y (suc i) ks))) (sym (opens_true _ (rw (same, here) at f.is_open))) (Memᴰ.head here)
      go i (k ∷ ks) (suc j) e h = cond_both (opens (reply w s t y i k.base)) _ _ (Memᴰ n) (λ _. Memᴰ.tail (go (suc i) ks j (omega arith) h)) (λ _. go (suc i) ks j (omega arith) h)

  pub listed_leaf : (ls : List (Leaf M)) (n : ℕ) → Memᴰ t s.tasks → t.wait ≡ waiting y ls → Memᴰ n (open_leaves w s t y 0 ls) → (l : Leaf M) × Open w s t y n l
  listed_leaf ls n m e k = let f = listed_open 0 ls n k in let there : n ≡ f.back = omega (arith, f.there) in
      (f.leaf, record { stands = record { live = m; all = ls; waits = e; here = ap (slice_get ls) there ∙ f.here }; is_open = f.is_open })

  pub leaf_listed : (ls : List (Leaf M)) (n : ℕ) → t.wait ≡ waiting y ls → (x : ℕ) (l : Leaf M) → Open w s t x n l → Memᴰ n (open_leaves w s t y 0 ls)
  leaf_listed ls n e x l o = let f = o.stands.waits in let same : x ≡ y = cc in let all : o.stands.all ≡ ls = cc in
      open_listed 0 ls n (record { back = n; there = omega arith; leaf = l; here = rw all at o.stands.here; is_open = rw same at o.is_open })

-- the able tasks

some_mem : {X : Type 0} (x : X) (xs : List X) → Memᴰ x xs → some_in xs ≡ true
some_mem x [] m = absurd (Memᴰ.not-nil m)
some_mem x (y ∷ ys) m = refl

first_mem : {X : Type 0} (xs : List X) → some_in xs ≡ true → (x : X) × Memᴰ x xs
first_mem [] e = absurd (both_ways false refl e)
first_mem (x ∷ xs) e = (x, Memᴰ.head refl)

able_live : {M : Type 0} (w : Setting M) (s : State M) (t : Task M) → Able w s t → Memᴰ t s.tasks
able_live w s t (by_place r) = r.live
able_live w s t (by_leaf y i l o) = o.stands.live

able_tested : {M : Type 0} (w : Setting M) (s : State M) (t : Task M) → Able w s t → able_when w s t t.wait ≡ true
able_tested w s t (by_place r) = rw r.runs (le-leb _ _ r.room)
able_tested w s t (by_leaf y i l o) = rw o.stands.waits (some_mem i _ (leaf_listed w s t y o.stands.all i o.stands.waits y l o))

tested_able : {M : Type 0} (w : Setting M) (s : State M) (t : Task M) → Memᴰ t s.tasks → (v : Wait M) → t.wait ≡ v → able_when w s t v ≡ true → Able w s t
tested_able w s t m running e f = by_place (record { live = m; runs = e; room = leb-true _ _ f })
tested_able w s t m (waiting y ls) e f = let n = first_mem _ f in let o = listed_leaf w s t y ls n.0 m e n.1 in by_leaf y n.0 o.0 o.1

pub listed_able : (M : Type 0) → ListedAble M
listed_able M w s t = (
  (λ m. let r = mem_kept (λ u. able_when w s u u.wait) t s.tasks m in tested_able w s t r.0 t.wait refl r.1),
  λ a. kept_mem (λ u. able_when w s u u.wait) t s.tasks (able_live w s t a) (able_tested w s t a),
)
