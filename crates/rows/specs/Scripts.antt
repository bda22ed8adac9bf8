-- Scripts over messages: numbers as numbers, literals as messages.
use Rattle.std.specs.Prelude.{◌≡◌, ℕ, ◌<◌, ◌≤◌, List, ℤ, decimal}
use Rattle.std.specs.Int.Signed.{mag}
use Rattle.std.specs.Fmt.{signed_decimal}
use Rattle.std.specs.List.{AllByRecursion}
use Rattle.tokens.specs.Tokens.{lexemes}
use Rattle.grammar.specs.Grammar as g
use Rattle.grammar.specs.Grammar.{Spelling, part_lexemes}
use Rattle.passes.specs.Ranges.{last_port, last_body, longest_delay}

abbrev pub Action : Type 0 → Type 0
Action M = g.Action ℤ M

abbrev pub Event : Type 0 → Type 0
Event M = g.Event ℕ ℤ M

abbrev pub Events : Type 0 → Type 0
Events M = g.Events ℕ ℤ M

abbrev pub Instr : Type 0 → Type 0
Instr M = g.Instr ℕ ℤ M

abbrev pub Body : Type 0 → Type 0
Body M = g.Body ℕ ℤ M

abbrev pub Script : Type 0 → Type 0
Script M = g.Script ℕ ℤ M

abbrev pub spelling : {M : Type 0} → (M → List ℕ) → Spelling ℕ ℤ M
spelling literal = record { number = decimal; addend = signed_decimal; literal = literal }

-- every number is within its range

abbrev pub ActionWithin : {M : Type 0} → Action M → Type 0
ActionWithin (g.set l) = Unit {0}
ActionWithin (g.add k) = mag k < 2147483648

abbrev mutual
  pub EventWithin : {M : Type 0} → Event M → Type 0
  EventWithin g.never = Unit {0}
  EventWithin g.nack = Unit {0}
  EventWithin (g.always l) = Unit {0}
  EventWithin (g.send p) = p ≤ last_port
  EventWithin (g.recv p) = p ≤ last_port
  EventWithin (g.timeout d) = d ≤ longest_delay
  EventWithin (g.choose es) = EventsWithin es
  EventWithin (g.wrap e a) = EventWithin e × ActionWithin a
  EventWithin (g.guard t e f) = EventWithin e × EventWithin f
  EventWithin (g.with_nack b e) = (b ≤ last_body) × EventWithin e

  pub EventsWithin : {M : Type 0} → Events M → Type 0
  EventsWithin g.none = Unit {0}
  EventsWithin (g.more e es) = EventWithin e × EventsWithin es

abbrev pub InstrWithin : {M : Type 0} → Instr M → Type 0
InstrWithin (g.sync e) = EventWithin e
InstrWithin (g.spawn b) = b ≤ last_body
InstrWithin g.emit = Unit {0}
InstrWithin g.again = Unit {0}

abbrev pub BodyWithin : {M : Type 0} → Body M → Type 0
BodyWithin b = (b.number ≤ last_body) × AllByRecursion InstrWithin b.instrs

pub record Within {M : Type 0} (s : Script M) : Type 0 where
  pub ports : AllByRecursion (λ p. p.number ≤ last_port) s.ports
  pub first : BodyWithin s.first
  pub others : AllByRecursion BodyWithin s.others

-- the script that a text is, for a message kind: its tokens are just the script's
pub record ScriptOf {M : Type 0} (literal : M → List ℕ) (text : List ℕ) (s : Script M) : Type 0 where
  pub within : Within s
  pub written : part_lexemes (g.script (spelling literal) s) ≡ lexemes text

-- a text is one script at most
abbrev pub OneScript : {M : Type 0} → (M → List ℕ) → Type 0
OneScript {M} literal = (text : List ℕ) (s t : Script M) → ScriptOf literal text s → ScriptOf literal text t → s ≡ t
