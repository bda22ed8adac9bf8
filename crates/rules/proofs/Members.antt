-- Membership in a filter, and `All` by membership; for a map, `mathlib.Core.List` has `Memᴰ·map` and `Memᴰ·of-map`.
use Rattle.std.proofs.Common.{◌≡◌, Bool, true, false, cond, ◌⊎◌, List, [], ◌∷◌, filter, sym, refl, ap, ◌∙◌, subst, inl, inr}
use mathlib.Core.List.Memᴰ
use mathlib.Core.List.{Memᴰ}
use Rattle.std.specs.List.{AllByRecursion}
use Rattle.std.proofs.lemmas.Bool.{both_ways}

kept_here : {X : Type 0} (b : Bool) (x y : X) (zs : List X) → x ≡ y → b ≡ true → Memᴰ x (cond b (y ∷ zs) zs)
kept_here true x y zs f e = Memᴰ.head f
kept_here false x y zs f e = absurd (both_ways false refl e)

kept_there : {X : Type 0} (b : Bool) (x y : X) (zs : List X) → Memᴰ x zs → Memᴰ x (cond b (y ∷ zs) zs)
kept_there true x y zs m = Memᴰ.tail m
kept_there false x y zs m = m

pub kept_mem : {X : Type 0} (p : X → Bool) (x : X) (xs : List X) → Memᴰ x xs → p x ≡ true → Memᴰ x (filter p xs)
kept_mem p x [] m e = absurd (Memᴰ.not-nil m)
kept_mem p x (y ∷ ys) (Memᴰ.head f) e = kept_here (p y) x y (filter p ys) f (ap p (sym f) ∙ e)
kept_mem p x (y ∷ ys) (Memᴰ.tail m) e = kept_there (p y) x y (filter p ys) (kept_mem p x ys m e)

kept_cases : {X : Type 0} (b : Bool) (x y : X) (zs : List X) → Memᴰ x (cond b (y ∷ zs) zs) → ((x ≡ y) × (b ≡ true)) ⊎ Memᴰ x zs
kept_cases true x y zs (Memᴰ.head f) = inl (f, refl)
kept_cases true x y zs (Memᴰ.tail m) = inr m
kept_cases false x y zs m = inr m

pub mem_kept : {X : Type 0} (p : X → Bool) (x : X) (xs : List X) → Memᴰ x (filter p xs) → Memᴰ x xs × (p x ≡ true)
mem_kept p x [] m = absurd (Memᴰ.not-nil m)
mem_kept {X} p x (y ∷ ys) m = go (mem_kept p x ys) (kept_cases (p y) x y (filter p ys) m)
  where
    go : (Memᴰ x (filter p ys) → Memᴰ x ys × (p x ≡ true)) → ((x ≡ y) × (p y ≡ true)) ⊎ Memᴰ x (filter p ys) → Memᴰ x (y ∷ ys) × (p x ≡ true)
    go r (inl q) = (Memᴰ.head q.0, ap p q.0 ∙ q.1)
    go r (inr n) = (Memᴰ.tail (r n).0, (r n).1)

pub all_by_mem : {X : Type 0} (P : X → Type 0) (xs : List X) → ((x : X) → Memᴰ x xs → P x) → AllByRecursion P xs
all_by_mem P [] f = tt
all_by_mem P (x ∷ xs) f = (f x (Memᴰ.head refl), all_by_mem P xs (λ y m. f y (Memᴰ.tail m)))

pub mem_all : {X : Type 0} (P : X → Type 0) (x : X) (xs : List X) → AllByRecursion P xs → Memᴰ x xs → P x
mem_all P x [] h m = absurd (Memᴰ.not-nil m)
mem_all P x (y ∷ ys) h (Memᴰ.head e) = subst P (sym e) h.0
mem_all P x (y ∷ ys) h (Memᴰ.tail m) = mem_all P x ys h.1 m
