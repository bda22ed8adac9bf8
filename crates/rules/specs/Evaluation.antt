-- The evaluation of an event, from left to right, to the bodies that its with-nacks start and to its leaves.
use Rattle.std.specs.Prelude.{ℕ, suc, ◌+◌, Bool, true, false, cond, List, [], ◌∷◌, ◌++◌, map, length}
use Rattle.message.specs.declared.kind.Sign.{Sign}
use Rattle.message.specs.declared.kind.Sign.TheVariants.{Neg, Zero, Pos}
use Rattle.grammar.specs.Grammar as g
use Rattle.rows.specs.Scripts.{Action, Event, Events}
use Rattle.rules.specs.States.{Base, always, send, recv, due, nack, Leaf}

abbrev pub is_sign : Sign → Sign → Bool
is_sign Neg Neg = true
is_sign Neg Zero = false
is_sign Neg Pos = false
is_sign Zero Neg = false
is_sign Zero Zero = true
is_sign Zero Pos = false
is_sign Pos Neg = false
is_sign Pos Zero = false
is_sign Pos Pos = true

-- the bodies that the with-nacks start, in order, where the register has the sign `s`
abbrev mutual
  pub nacks : {M : Type 0} → Sign → Event M → List ℕ
  nacks s g.never = []
  nacks s g.nack = []
  nacks s (g.always m) = []
  nacks s (g.send p) = []
  nacks s (g.recv p) = []
  nacks s (g.timeout d) = []
  nacks s (g.choose es) = nacks_each s es
  nacks s (g.wrap e a) = nacks s e
  nacks s (g.guard t e f) = cond (is_sign s t) (nacks s e) (nacks s f)
  nacks s (g.with_nack b e) = b ∷ nacks s e

  pub nacks_each : {M : Type 0} → Sign → Events M → List ℕ
  nacks_each s g.none = []
  nacks_each s (g.more e es) = nacks s e ++ nacks_each s es

abbrev pub bare : {M : Type 0} → Base M → List (Leaf M)
bare b = record { base = b; wraps = []; above = [] } ∷ []

abbrev pub wrapped : {M : Type 0} → Action M → Leaf M → Leaf M
wrapped a l = record { base = l.base; wraps = l.wraps ++ (a ∷ []); above = l.above }

abbrev pub under : {M : Type 0} → ℕ → Leaf M → Leaf M
under n l = record { base = l.base; wraps = l.wraps; above = n ∷ l.above }

-- the leaves, where the register has the sign `s`, the clock is `k`, and the with-nacks of this event are numbered from `n`
abbrev mutual
  pub leaves : {M : Type 0} → Sign → ℕ → ℕ → Event M → List (Leaf M)
  leaves s k n g.never = []
  leaves s k n g.nack = bare nack
  leaves s k n (g.always m) = bare (always m)
  leaves s k n (g.send p) = bare (send p)
  leaves s k n (g.recv p) = bare (recv p)
  leaves s k n (g.timeout d) = bare (due (k + d))
  leaves s k n (g.choose es) = leaves_each s k n es
  leaves s k n (g.wrap e a) = map (wrapped a) (leaves s k n e)
  leaves s k n (g.guard t e f) = cond (is_sign s t) (leaves s k n e) (leaves s k n f)
  leaves s k n (g.with_nack b e) = map (under n) (leaves s k (suc n) e)

  pub leaves_each : {M : Type 0} → Sign → ℕ → ℕ → Events M → List (Leaf M)
  leaves_each s k n g.none = []
  leaves_each s k n (g.more e es) = leaves s k n e ++ leaves_each s k (n + length (nacks s e)) es
