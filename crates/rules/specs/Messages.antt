-- What the rules ask of a message kind.
use Rattle.std.specs.Prelude.{ℕ, List, ℤ}
use Rattle.message.specs.declared.kind.Sign.{Sign}

pub record Messages (M : Type 0) : Type 0 where
  pub blank : M
  pub plus : M → ℤ → M
  pub sign : M → Sign
  pub literal : M → List ℕ
