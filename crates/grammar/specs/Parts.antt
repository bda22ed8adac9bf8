-- The parts of a script in the code.
use Rattle.std.specs.Prelude.{ℕ, List, [], map}
use Rattle.tokens.specs.Tokens.{Lexeme, opening, closing, atom}
use Rattle.tokens.specs.Reading.{lexeme}
use Rattle.grammar.specs.declared.part.Part as code
use Rattle.grammar.specs.Grammar.{Part, part}

abbrev pub told : code.Part → Part
told p = part p.purpose (lexeme p.token)

abbrev pub parts_of : List code.Part → List Part
parts_of ps = map told ps

abbrev pub bytes_in : Lexeme → List ℕ
bytes_in opening = []
bytes_in closing = []
bytes_in (atom bs) = bs

-- those of an integer or a word, none for a bracket
abbrev pub bytes : Part → List ℕ
bytes p = bytes_in p.lexeme
