-- What each stage of a check answers, as the first place in the text at which its rule is broken.
use Rattle.std.specs.Prelude.{◌≡◌, ℕ, ◌<◌, ◌⊎◌, List, map, length, Some, None, Ok, Err, IsOk, IsErrAnd, Option, Result}
use Rattle.tokens.specs.Places.{First, Nowhere}
use Rattle.tokens.specs.Tokens.{tokens, lexemes, place_of}
use Rattle.tokens.specs.Tokenised.{Tokenised}
use Rattle.grammar.specs.declared.part.Part.{Part}
use Rattle.grammar.specs.Forms.{Uses}
use Rattle.grammar.specs.Forms.{Misfit as IsMisfit}
use Rattle.message.specs.declared.literal.LiteralFault.{LiteralFault}
use Rattle.script.specs.declared.fault.Fault.{Fault}
use Rattle.script.specs.declared.fault.Fault.TheVariants.{Form, Memory}
use Rattle.script.specs.declared.fault.FormFault.TheVariants.{Misfit}
use Rattle.script.specs.declared.fault.MessageFault.{MessageFault}
use Rattle.script.specs.declared.fault.MessageFault.TheVariants.{InScript}
use Rattle.script.specs.Faults.{fault_number, fault_place}
use Rattle.script.specs.Refusals.{Rule, rule_number, Broken, RefusedLiteral}

-- no rule with a number below n is broken
abbrev pub KeptBelow : {M : Type 0} → (M → List ℕ) → List ℕ → ℕ → Type 0
KeptBelow literal text n = (r : Rule) → rule_number r < n → Nowhere (Broken literal r text)

-- the fault is that the rule is broken, at the smallest place where it is
pub record Breaks {M : Type 0} (literal : M → List ℕ) (text : List ℕ) (rule : Rule) (f : Fault) : Type 0 where
  pub number : rule_number rule ≡ fault_number f
  pub place : First (Broken literal rule text) (fault_place f)

-- the parts are the text's tokens, and what they are there for
pub record Formed (text : List ℕ) (ps : List Part) : Type 0 where
  pub tokens : Tokenised text (map (λ p. p.token) ps)
  pub uses : Uses (lexemes text) (map (λ p. p.purpose) ps)

-- a stage whose fault is made of a place
abbrev pub Stage : {T F : Type 0} → (ℕ → F) → (ℕ → Type 0) → Result T F → Type 0
Stage make P (Ok x) = Nowhere P
Stage make P (Err f) = (at : ℕ) × (f ≡ make at) × First P at

-- the fault that the place of the part that was found makes, where one was found
pub record FaultAt {T E : Type 0} (makes : ℕ → E → Type 0) (text : List ℕ) (found : Option ℕ) (r : Result T E) : Type 0 where
  pub none : found ≡ None → IsOk r
  pub some : (k : ℕ) → found ≡ Some k → IsErrAnd r (makes (place_of (tokens text) (length text) k))

-- the last stage, whose fault carries a literal's own
abbrev pub LiteralStage : {M T : Type 0} → (M → List ℕ) → List ℕ → (ℕ → Type 0) → Result T MessageFault → Type 0
LiteralStage literal text P (Ok x) = Nowhere P
LiteralStage literal text P (Err f) = (at : ℕ) × (inner : LiteralFault) × (f ≡ InScript at inner) × First P at × RefusedLiteral literal text at inner

-- why a text has not the form of a script; want of memory is no fault of the text
abbrev pub Unformed : List ℕ → Fault → Type 0
Unformed text f = (f ≡ Memory) ⊎ ((at : ℕ) × (f ≡ Form (Misfit at)) × First (IsMisfit text) at)
