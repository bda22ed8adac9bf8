-- What stands at a place of a list.
use Rattle.std.proofs.Common.{◌≡◌, ℕ, zero, suc, ◌<◌, List, [], ◌∷◌, length, Some, refl, inl, inr, arith}
use mathlib.Core.List.{Memᴰ}
use Rattle.std.specs.List.{slice_get}
use Rattle.std.proofs.lemmas.Option.{slice_get_past as nth_past}
use Rattle.std.proofs.lemmas.Bool.{cases_lt}

pub there_inside : {X : Type 0} (xs : List X) (i : ℕ) (x : X) → slice_get xs i ≡ Some x → i < length xs
there_inside xs i x e = elim (cases_lt i (length xs)) [
  | inl h ↦ h
  | inr h ↦ absurd (let past = nth_past xs i h in let z : ◌≡◌ {A = ℕ} 0 1 = cc in omega arith)
]

unfoldable pub inside_there : {X : Type 0} (xs : List X) (i : ℕ) → i < length xs → (x : X) × (slice_get xs i ≡ Some x)
inside_there [] i h = absurd (omega arith)
inside_there (x ∷ xs) zero h = (x, refl)
inside_there (x ∷ xs) (suc i) h = inside_there xs i (omega arith)

pub there_listed : {X : Type 0} (xs : List X) (i : ℕ) (x : X) → slice_get xs i ≡ Some x → Memᴰ x xs
there_listed [] i x e = absurd (let z : ◌≡◌ {A = ℕ} 0 1 = cc in omega arith)
there_listed (y ∷ ys) zero x e = Memᴰ.head (cc)
there_listed (y ∷ ys) (suc i) x e = Memᴰ.tail (there_listed ys i x e)
