-- Literals of two parts: the laws of the parts are laws of the whole.
use Rattle.std.specs.Prelude.{◌≡◌, ℕ, List, [], ◌∷◌, ◌++◌, drop, slice_index, refl}
use Rattle.std.proofs.Common.{sym, ap, ap₂, arith, length-append}
use Rattle.std.proofs.ByRecursion.{All-append}
use Rattle.message.specs.declared.joined.Joined.{Joined}
use Rattle.message.specs.Literals.{Plain, PlainByte}
use Rattle.message.specs.Joins.{joined, Free}

-- a list is cut in one way at a byte that neither front has
pub cut_once : (a c : List ℕ) (b : ℕ) (t u : List ℕ) → Free b a → Free b c → a ++ (b ∷ t) ≡ c ++ (b ∷ u) → (a ≡ c) × (t ≡ u)
cut_once [] [] b t u h k e = (refl, ap (drop 1) e)
cut_once [] (y ∷ c) b t u h k e = absurd (k [] c (ap (λ v. v ∷ c) (sym (ap (λ l. slice_index l 0) e))))
cut_once (x ∷ a) [] b t u h k e = absurd (h [] a (ap (λ v. v ∷ a) (ap (λ l. slice_index l 0) e)))
cut_once (x ∷ a) (y ∷ c) b t u h k e =
    let p = cut_once a c b t u (λ r v q. h (x ∷ r) v (ap (λ l. x ∷ l) q)) (λ r v q. k (y ∷ r) v (ap (λ l. y ∷ l) q)) (ap (drop 1) e) in
    (ap₂ (λ v w. v ∷ w) (ap (λ l. slice_index l 0) e) p.0, p.1)

pub joined_one : {A B : Type 0} (one : A → List ℕ) (b : ℕ) (two : B → List ℕ) → ((x : A) → Free b (one x))
    → ((x y : A) → one x ≡ one y → x ≡ y) → ((x y : B) → two x ≡ two y → x ≡ y)
    → (i j : Joined A B) → joined one b two i ≡ joined one b two j → i ≡ j
joined_one one b two free left right i j e =
    let p = cut_once (one i.left) (one j.left) b (two i.right) (two j.right) (free i.left) (free j.left) e in
    λ k. record { left = left i.left j.left p.0 k; right = right i.right j.right p.1 k }

pub joined_plain : (xs : List ℕ) (b : ℕ) (ys : List ℕ) → Plain xs → PlainByte b → Plain ys → Plain (xs ++ (b ∷ ys))
joined_plain xs b ys h p k = record {
  some = omega (arith, h.some, length-append xs (b ∷ ys));
  bytes = All-append PlainByte xs (b ∷ ys) h.bytes (p, k.bytes);
}
