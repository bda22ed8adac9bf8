-- Literals of two parts with a byte between them.
use Rattle.std.specs.Prelude.{ℕ, List, ◌∷◌, ◌++◌, ◌≢◌}
use Rattle.message.specs.declared.joined.Joined.{Joined}

abbrev pub joined : {A B : Type 0} → (A → List ℕ) → ℕ → (B → List ℕ) → Joined A B → List ℕ
joined one separator two j = one j.left ++ (separator ∷ two j.right)

-- the byte is not in the list
abbrev pub Free : ℕ → List ℕ → Type 0
Free b xs = (before after : List ℕ) → xs ≢ before ++ (b ∷ after)
