-- What the pass over the literals answers.
use Rattle.std.specs.Prelude.{ℕ, List, Some, None, Ok, Err, Option, Result}
use Rattle.message.specs.declared.literal.LiteralFault.{LiteralFault}
use Rattle.message.specs.Literals.{Longest}
use Rattle.tokens.specs.Places.{First, Nowhere}
use Rattle.grammar.specs.Grammar.{Part}
use Rattle.passes.specs.declared.literals.RefusedLiteral.{RefusedLiteral}
use Rattle.grammar.specs.Parts.{bytes}
use Rattle.passes.specs.Parts.{nth}
use Rattle.passes.specs.Messages.{MessageFor, NoMessage}

-- a token is checked by itself
abbrev pub Admits : {M : Type 0} → (M → List ℕ) → Part → Result (Unit {0}) LiteralFault → Type 0
Admits literal p (Ok x) = MessageFor literal p.purpose (bytes p)
Admits literal p (Err fault) = (MessageFor literal p.purpose (bytes p) → ⊥) × Longest literal (bytes p) fault.at

-- the first literal that is no message's, with the length of its longest front that begins one
abbrev pub Refuses : {M : Type 0} → (M → List ℕ) → List Part → Option RefusedLiteral → Type 0
Refuses literal ps (Some x) = First (NoMessage literal ps) x.token × Longest literal (bytes (nth ps x.token)) x.fault.at
Refuses literal ps None = Nowhere (NoMessage literal ps)
