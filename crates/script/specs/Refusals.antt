-- The eight rules of a script, each as a proposition about the text alone, and the verdict on a text.
use Rattle.std.specs.Prelude.{◌≡◌, ℕ, ◌<◌, List, length, Ok, Err, Result}
use Rattle.message.specs.declared.literal.LiteralFault.{LiteralFault}
use Rattle.message.specs.Literals.{Longest}
use Rattle.tokens.specs.Places.{First, Nowhere}
use Rattle.tokens.specs.Text.{IsTooLong, IsForeignByte, IsTooDeep}
use Rattle.tokens.specs.Tokens.{tokens, lexemes, place_of}
use Rattle.grammar.specs.declared.words.Use.{Use}
use Rattle.grammar.specs.Grammar.{Part}
use Rattle.grammar.specs.Forms.{Misfit, Uses, with_uses}
use Rattle.grammar.specs.Parts.{bytes}
use Rattle.passes.specs.Parts.{nth}
use Rattle.passes.specs.Ranges.{IsOutOfRange}
use Rattle.passes.specs.Names.{Misnamed}
use Rattle.passes.specs.Limits.{IsOverLimit}
use Rattle.passes.specs.Messages.{NoMessage}
use Rattle.script.specs.declared.fault.Fault.{Fault}
use Rattle.script.specs.declared.fault.Fault.TheVariants as fault
use Rattle.script.specs.declared.fault.MessageFault.TheVariants as message
use Rattle.script.specs.Faults.{fault_number, fault_place}

-- P holds of the k-th token of the script that the text is, and i is its place; past the last token, the text's length
pub record IsInScript (P : List Part → ℕ → Type 0) (text : List ℕ) (i : ℕ) : Type 0 where
  pub uses : List Use
  pub used : Uses (lexemes text) uses
  pub token : ℕ
  pub holds : P (with_uses uses (lexemes text)) token
  pub place : i ≡ place_of (tokens text) (length text) token

-- the rules, in the order in which they are tried
pub data Rule : Type 0 where
  too_long foreign_byte too_deep misfit out_of_range misnamed over_limit no_message : Rule

abbrev pub rule_number : Rule → ℕ
rule_number too_long = 1
rule_number foreign_byte = 2
rule_number too_deep = 3
rule_number misfit = 4
rule_number out_of_range = 5
rule_number misnamed = 6
rule_number over_limit = 7
rule_number no_message = 8

-- the text breaks the rule at the place
abbrev pub Broken : {M : Type 0} → (M → List ℕ) → Rule → (text : List ℕ) (i : ℕ) → Type 0
Broken literal too_long text i = IsTooLong text i
Broken literal foreign_byte text i = IsForeignByte text i
Broken literal too_deep text i = IsTooDeep text i
Broken literal misfit text i = Misfit text i
Broken literal out_of_range text i = IsInScript IsOutOfRange text i
Broken literal misnamed text i = IsInScript Misnamed text i
Broken literal over_limit text i = IsInScript IsOverLimit text i
Broken literal no_message text i = IsInScript (NoMessage literal) text i

-- the fault is the first rule that is broken anywhere, at the smallest place where it is
pub record Refused {M : Type 0} (literal : M → List ℕ) (text : List ℕ) (f : Fault) : Type 0 where
  pub rule : Rule
  pub number : rule_number rule ≡ fault_number f
  pub place : First (Broken literal rule text) (fault_place f)
  pub before : (r : Rule) → rule_number r < rule_number rule → Nowhere (Broken literal r text)

-- a refused literal's own fault
pub record RefusedLiteral {M : Type 0} (literal : M → List ℕ) (text : List ℕ) (at : ℕ) (f : LiteralFault) : Type 0 where
  pub uses : List Use
  pub used : Uses (lexemes text) uses
  pub token : ℕ
  pub place : at ≡ place_of (tokens text) (length text) token
  pub longest : Longest literal (bytes (nth (with_uses uses (lexemes text)) token)) f.at

-- what check answers
abbrev pub Verdict : {M T : Type 0} → (M → List ℕ) → List ℕ → Result T Fault → Type 0
Verdict literal text (Ok x) = (r : Rule) → Nowhere (Broken literal r text)
Verdict literal text (Err (fault.Text f)) = Refused literal text (fault.Text f)
Verdict literal text (Err (fault.Form f)) = Refused literal text (fault.Form f)
Verdict literal text (Err (fault.Names f)) = Refused literal text (fault.Names f)
Verdict literal text (Err (fault.Message (message.InScript at f))) = Refused literal text (fault.Message (message.InScript at f)) × RefusedLiteral literal text at f
Verdict literal text (Err (fault.Message (message.InPost f))) = ⊥
Verdict literal text (Err fault.Memory) = Unit {0}
