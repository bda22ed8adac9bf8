-- What a token of the code stands for.
use Rattle.tokens.specs.declared.token.Token.{Token}
use Rattle.tokens.specs.declared.token.Token.TheVariants.{Open, Close, Integer, Word}
use Rattle.tokens.specs.Tokens as t
use Rattle.tokens.specs.Tokens.{Placed, at, Lexeme, opening, closing, atom, Run}

abbrev pub placed : Token → Placed
placed (Open i) = at i opening
placed (Close i) = at i closing
placed (Integer i text) = at i (atom text.now)
placed (Word i text) = at i (atom text.now)

abbrev pub lexeme : Token → Lexeme
lexeme k = t.lexeme (placed k)

-- a run is an integer or a word as its bytes are
abbrev pub Classified : Token → Type 0
Classified (Open i) = Unit {0}
Classified (Close i) = Unit {0}
Classified (Integer i text) = Run text.now × t.Integer text.now
Classified (Word i text) = Run text.now × (t.Integer text.now → ⊥)
