-- What the parts of the scan say of a byte and of a run.
use Rattle.std.specs.Prelude.{◌≡◌, ℕ, Bool, true, false, List}
use Rattle.tokens.specs.declared.token.Class.{Class}
use Rattle.tokens.specs.declared.token.Class.TheVariants.{Separator, Open, Close, Run}
use Rattle.tokens.specs.declared.token.Token.{Token}
use Rattle.tokens.specs.Tokens as t
use Rattle.tokens.specs.Tokens.{atom, at, parts, opens, closes, runs, class}
use Rattle.tokens.specs.Reading.{placed, Classified}

-- what a class of the code stands for
abbrev pub meant : Class → t.Class
meant Separator = parts
meant Open = opens
meant Close = closes
meant Run = runs

abbrev pub is_runs : t.Class → Bool
is_runs parts = false
is_runs opens = false
is_runs closes = false
is_runs runs = true

abbrev pub in_run : ℕ → Bool
in_run b = is_runs (class b)

-- the token of a run that stands at i
pub record TokenOfRun (i : ℕ) (bytes : List ℕ) (k : Token) : Type 0 where
  pub stands : placed k ≡ at i (atom bytes)
  pub classified : t.Run bytes → Classified k
