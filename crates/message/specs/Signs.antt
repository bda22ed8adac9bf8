-- The sign of a number.
use Rattle.std.specs.Prelude.{zero, suc, ℤ, pos, negsuc}
use Rattle.message.specs.declared.kind.Sign.{Sign}
use Rattle.message.specs.declared.kind.Sign.TheVariants.{Neg, Zero, Pos}

abbrev pub sign_of : ℤ → Sign
sign_of (pos zero) = Zero
sign_of (pos (suc n)) = Pos
sign_of (negsuc n) = Neg
