-- Policies: what one is, what every policy shows, and longest idle.
use Rattle.std.specs.Prelude.{ℕ, suc, ◌<◌, Bool, cond, ◌&&◌, ◌||◌, List, [], ◌∷◌, length, ◌==◌, nat_lt}
use Rattle.replay.specs.declared.candidate.Candidate.{Candidate}

-- the place in the list that a policy names, and its next state
pub record Naming (P : Type 0) : Type 0 where
  pub place : ℕ
  pub next : P

-- Its reply and its next state depend on its state and the list alone: the able tasks, by rising number and with stamps; then, for a task that waits, its open leaves, rising.
pub record Policy (P : Type 0) : Type 0 where
  pub name_task : P → List Candidate → Naming P
  pub name_leaf : P → List ℕ → Naming P

-- what every policy shows: its place is inside every list that is not empty
pub record Inside {P : Type 0} (k : Policy P) : Type 0 where
  pub task : (p : P) (c : Candidate) (cs : List Candidate) → (k.name_task p (c ∷ cs)).place < length (c ∷ cs)
  pub leaf : (p : P) (i : ℕ) (is : List ℕ) → (k.name_leaf p (i ∷ is)).place < length (i ∷ is)

-- Longest idle: the smallest stamp, then the smallest number; and the first leaf. It has one state.

abbrev pub idler : Candidate → Candidate → Bool
idler c d = nat_lt c.stamp d.stamp || (c.stamp == d.stamp && nat_lt c.task d.task)

-- the place of the idlest of `c`, which stands at `i`, and of those given, which stand from `j` on
abbrev pub idlest_after : ℕ → Candidate → ℕ → List Candidate → ℕ
idlest_after i c j [] = i
idlest_after i c j (d ∷ ds) = cond (idler d c) (idlest_after j d (suc j) ds) (idlest_after i c (suc j) ds)

abbrev pub idlest : List Candidate → ℕ
idlest [] = 0
idlest (c ∷ cs) = idlest_after 0 c 1 cs

abbrev pub longest_idle : {P : Type 0} → Policy P
longest_idle = record {
  name_task = λ p cs. record { place = idlest cs; next = p };
  name_leaf = λ p is. record { place = 0; next = p };
}
