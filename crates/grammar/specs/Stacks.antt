-- The machine's step as the code makes it: the stack's top is the last of its items.
use Rattle.std.specs.Prelude.{◌≡◌, Bool, true, false, List, [], ◌∷◌, reverse, Some, None, Option, ◌≢◌}
use Rattle.grammar.specs.declared.words.Use.{Use}
use Rattle.grammar.specs.declared.words.Use.TheVariants as purpose
use Rattle.grammar.specs.declared.items.Item.{Item}
use Rattle.grammar.specs.declared.items.Item.TheVariants.{Top, Bodies, Instrs, Events, Event, Action, Head, Number, Literal, Test, Shut}
use Rattle.grammar.specs.declared.items.Reading.{Reading}
use Rattle.tokens.specs.declared.token.Token.{Token}
use Rattle.tokens.specs.declared.token.Token.TheVariants as token
use Rattle.tokens.specs.Reading.{lexeme}
use Rattle.grammar.specs.Machine.{Read, step}

abbrev pub reading : Reading → Read
reading r = (r.purpose, reverse r.next.now)

abbrev pub shown : Option Reading → Option Read
shown None = None
shown (Some r) = Some (reading r)

-- a number is an integer; what else a use asks of a token, its place in the grammar does
abbrev pub suits_word : Use → Bool
suits_word (purpose.Number u) = false
suits_word (purpose.Bracket u) = true
suits_word (purpose.Head k) = true
suits_word (purpose.Test t) = true
suits_word (purpose.Literal u) = true

abbrev pub suits : Use → Token → Bool
suits u (token.Open i) = true
suits u (token.Close i) = true
suits u (token.Integer i text) = true
suits u (token.Word i text) = suits_word u

-- no step is made with the token
abbrev pub Refused : List Item → Token → Type 0
Refused before t = (u : Use) (s : List Item) → step (reverse before) (lexeme t) ≡ Some (u, s) → suits u t ≢ true

abbrev pub Stepped : List Item → Token → Option Use → List Item → Type 0
Stepped before t (Some u) later = (step (reverse before) (lexeme t) ≡ Some (u, reverse later)) × (suits u t ≡ true)
Stepped before t None later = Refused before t

-- all has been read where only bodies may follow
abbrev pub is_bodies : Item → Bool
is_bodies Bodies = true
is_bodies Top = false
is_bodies Instrs = false
is_bodies Events = false
is_bodies (Event u) = false
is_bodies Action = false
is_bodies (Head r) = false
is_bodies (Number u) = false
is_bodies (Literal u) = false
is_bodies Test = false
is_bodies (Shut u) = false

abbrev pub ended : List Item → Bool
ended [] = false
ended (i ∷ []) = is_bodies i
ended (i ∷ j ∷ s) = false
