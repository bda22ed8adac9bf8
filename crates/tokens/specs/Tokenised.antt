-- What the code finds in a text.
use Rattle.std.specs.Prelude.{◌≡◌, ℕ, List, [], map}
use Rattle.std.specs.List.{AllByRecursion}
use Rattle.tokens.specs.declared.token.Token.{Token}
use Rattle.tokens.specs.declared.token.Token.TheVariants.{Open, Close, Integer, Word}
use Rattle.tokens.specs.Tokens.{tokens}
use Rattle.tokens.specs.Reading.{placed, Classified}

-- these are the tokens of the text, each integer and word told apart
pub record Tokenised (text : List ℕ) (ks : List Token) : Type 0 where
  pub tokens_are : map placed ks ≡ tokens text
  pub classified : AllByRecursion Classified ks

-- the bytes of an integer or a word, none for a bracket
abbrev pub token_bytes : Token → List ℕ
token_bytes (Open i) = []
token_bytes (Close i) = []
token_bytes (Integer i text) = text.now
token_bytes (Word i text) = text.now
