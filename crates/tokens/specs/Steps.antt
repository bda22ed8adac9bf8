-- What a step over a text does.
use Rattle.std.specs.Prelude.{◌≡◌, ℕ, ◌-◌, ◌<◌, List, [], ◌∷◌, length, Option, Some, None}
use Rattle.tokens.specs.declared.token.Token.{Token}
use Rattle.tokens.specs.Tokens.{Placed, tokens_from}
use Rattle.tokens.specs.Reading.{placed, Classified}

-- the tokens of what is left of a text
abbrev pub ahead : (text rest : List ℕ) → List Placed
ahead text rest = tokens_from (length text - length rest) rest

-- the first of them is taken, and less is left; or there is none, and nothing is left
abbrev pub Scanned : (text rest after : List ℕ) → Option Token → Type 0
Scanned text rest after (Some k) = (ahead text rest ≡ placed k ∷ ahead text after) × Classified k × (length after < length rest)
Scanned text rest after None = (ahead text rest ≡ []) × (after ≡ [])
