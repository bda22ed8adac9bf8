-- Where in a text something holds.
use Rattle.std.specs.Prelude.{ℕ, ◌≤◌, Some, None, Option}

-- the smallest place at which P holds
abbrev pub First : (ℕ → Type 0) → ℕ → Type 0
First P i = P i × ((j : ℕ) → P j → i ≤ j)

abbrev pub Nowhere : (ℕ → Type 0) → Type 0
Nowhere P = (i : ℕ) → P i → ⊥

-- the smallest place, if there is any
abbrev pub Smallest : (ℕ → Type 0) → Option ℕ → Type 0
Smallest P (Some i) = First P i
Smallest P None = Nowhere P
