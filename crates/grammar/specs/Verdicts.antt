-- What the reading of a script's tokens says of them.
use Rattle.std.specs.Prelude.{◌≡◌, ℕ, List, map, Ok, Err, vec_items, Result, Vec}
use Rattle.std.specs.declared.alloc.Global.{Global}
use Rattle.tokens.specs.declared.token.Token.{Token}
use Rattle.tokens.specs.Tokens.{lexemes}
use Rattle.tokens.specs.Reading.{lexeme}
use Rattle.tokens.specs.Tokenised.{Tokenised}
use Rattle.grammar.specs.declared.part.Part.{Part}
use Rattle.grammar.specs.declared.form.FormFault.{FormFault}
use Rattle.grammar.specs.declared.form.FormFault.TheVariants.{Misfit, Memory}
use Rattle.grammar.specs.declared.form.ParseFault.{ParseFault}
use Rattle.grammar.specs.declared.form.ParseFault.TheVariants as parse
use Rattle.grammar.specs.Forms.{Uses, MisfitAt}
use Rattle.grammar.specs.Forms.{Misfit as IsMisfit}

-- the tokens in order, each with its use in the script that they are
pub record AreParts (tokens : List Token) (ps : List Part) : Type 0 where
  pub uses : Uses (map lexeme tokens) (map (λ p. p.purpose) ps)
  pub tokens_are : map (λ p. p.token) ps ≡ tokens

abbrev pub FormVerdict : List Token → Result (Vec Part Global) FormFault → Type 0
FormVerdict tokens (Ok v) = AreParts tokens (vec_items v)
FormVerdict tokens (Err (Misfit k)) = MisfitAt (map lexeme tokens) k
FormVerdict tokens (Err Memory) = Unit {0}

-- the parts are the text's tokens and what they are there for; or the place where no script goes on
abbrev pub ParseVerdict : List ℕ → Result (Vec Part Global) ParseFault → Type 0
ParseVerdict text (Ok v) = Tokenised text (map (λ p. p.token) (vec_items v)) × Uses (lexemes text) (map (λ p. p.purpose) (vec_items v))
ParseVerdict text (Err (parse.Misfit at)) = IsMisfit text at
ParseVerdict text (Err parse.Memory) = Unit {0}
