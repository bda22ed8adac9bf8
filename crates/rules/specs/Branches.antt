-- The branch of each with-nack: which leaves lie in it.
use Rattle.std.specs.Prelude.{◌≡◌, ℕ, ◌+◌, ◌<◌, ◌≤◌, true, cond, ◌≢◌, ◌↔◌, List, [], ◌∷◌, ◌++◌, map, length, Some}
use Rattle.std.specs.List.{slice_get}
use Rattle.message.specs.declared.kind.Sign.{Sign}
use Rattle.grammar.specs.Grammar as g
use Rattle.rows.specs.Scripts.{Event, Events}
use Rattle.rules.specs.States.{Leaf}
use Rattle.rules.specs.Evaluation.{is_sign, nacks, leaves}
use Rattle.rules.specs.Settling.{in_branch}

-- a with-nack: the body that it starts, and the leaves in it, `count` of them from the one numbered `from` on
pub record Branch : Type 0 where
  pub body : ℕ
  pub from : ℕ
  pub count : ℕ

-- how many leaves are left of an event
abbrev mutual
  pub left : {M : Type 0} → Sign → Event M → ℕ
  left s g.never = 0
  left s g.nack = 1
  left s (g.always m) = 1
  left s (g.send p) = 1
  left s (g.recv p) = 1
  left s (g.timeout d) = 1
  left s (g.choose es) = left_each s es
  left s (g.wrap e a) = left s e
  left s (g.guard t e f) = cond (is_sign s t) (left s e) (left s f)
  left s (g.with_nack b e) = left s e

  pub left_each : {M : Type 0} → Sign → Events M → ℕ
  left_each s g.none = 0
  left_each s (g.more e es) = left s e + left_each s es

-- the with-nacks of an event in the order of evaluation, its leaves numbered from `i`
abbrev mutual
  pub branches : {M : Type 0} → Sign → ℕ → Event M → List Branch
  branches s i g.never = []
  branches s i g.nack = []
  branches s i (g.always m) = []
  branches s i (g.send p) = []
  branches s i (g.recv p) = []
  branches s i (g.timeout d) = []
  branches s i (g.choose es) = branches_each s i es
  branches s i (g.wrap e a) = branches s i e
  branches s i (g.guard t e f) = cond (is_sign s t) (branches s i e) (branches s i f)
  branches s i (g.with_nack b e) = record { body = b; from = i; count = left s e } ∷ branches s i e

  pub branches_each : {M : Type 0} → Sign → ℕ → Events M → List Branch
  branches_each s i g.none = []
  branches_each s i (g.more e es) = branches s i e ++ branches_each s (i + left s e) es

-- The with-nacks start their bodies in order, and the leaves that lie in a with-nack, as settling sees it, are just those written in it; a guard is its first arm where the register has the sign, and else its second.
pub record BranchLaw (M : Type 0) : Type 0 where
  pub bodies : (s : Sign) (e : Event M) → nacks s e ≡ map (λ b. b.body) (branches s 0 e)
  pub count : (s : Sign) (k : ℕ) (e : Event M) → length (leaves s k 0 e) ≡ left s e
  pub inside : (s : Sign) (k : ℕ) (e : Event M) (n i : ℕ) (b : Branch) (l : Leaf M) → slice_get (branches s 0 e) n ≡ Some b → slice_get (leaves s k 0 e) i ≡ Some l
      → (in_branch n l.above ≡ true) ↔ ((b.from ≤ i) × (i < b.from + b.count))
  pub first_arm : (s : Sign) (k n : ℕ) (e f : Event M) → (leaves s k n (g.guard s e f) ≡ leaves s k n e) × (nacks s (g.guard s e f) ≡ nacks s e)
  pub second_arm : (s t : Sign) (k n : ℕ) (e f : Event M) → s ≢ t → (leaves s k n (g.guard t e f) ≡ leaves s k n f) × (nacks s (g.guard t e f) ≡ nacks s f)
