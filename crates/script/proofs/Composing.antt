-- From what each pass finds among the tokens to what holds of the text.
use Rattle.std.proofs.Common.{◌≡◌, ℕ, zero, suc, ◌+◌, ◌<◌, ◌≤◌, List, [], ◌∷◌, ◌++◌, map, length, get_or, take, drop, Some, None, Ok, Err, Option, Result, sym, refl, ap, ◌∙◌, subst, inl, inr, append_assoc, arith}
use Rattle.std.proofs.lemmas.List.{take-append-drop, take-take, append-nil}
use Rattle.std.proofs.lemmas.Bool.{cases_lt, false≢true}
use Rattle.tokens.specs.Places.{First, Nowhere, Smallest}
use Rattle.tokens.specs.Tokens.{Lexeme, Placed, tokens, lexemes, place, place_of}
use Rattle.tokens.specs.declared.token.Token.{Token}
use Rattle.tokens.specs.Reading.{placed, lexeme}
use Rattle.tokens.specs.Tokenised.{Tokenised}
use Rattle.tokens.proofs.Rising.{places_ordered}
use Rattle.grammar.specs.declared.words.Use.{Use}
use Rattle.grammar.specs.Grammar.{Part, IsScript, Viable}
use Rattle.grammar.specs.Forms.{MisfitAt, Misfit, Uses, with_uses}
use Rattle.grammar.specs.declared.part.Part as code
use Rattle.grammar.specs.Parts.{parts_of, bytes}
use Rattle.grammar.proofs.Determined.{uses_determined}
use Rattle.grammar.proofs.Parts.{told_together}
use Rattle.grammar.proofs.Parsing.{tokens_lexemes}
use Rattle.passes.specs.Parts.{nth}
use Rattle.message.specs.declared.literal.LiteralFault.{LiteralFault}
use Rattle.message.specs.Literals.{Longest}
use Rattle.grammar.specs.declared.form.ParseFault.{ParseFault}
use Rattle.grammar.specs.declared.form.ParseFault.TheVariants as parse
use Rattle.grammar.specs.Verdicts.{AreParts, ParseVerdict}
use Rattle.script.specs.declared.fault.Fault.{Fault}
use Rattle.script.specs.Faults.{as_fault}
use Rattle.script.specs.Refusals.{Rule, too_long, foreign_byte, too_deep, misfit, out_of_range, misnamed, over_limit, no_message, rule_number, Broken, IsInScript, Refused, RefusedLiteral}
use Rattle.script.specs.Stages.{KeptBelow, Breaks, Formed, FaultAt, Stage, Unformed}

abbrev purposes : List code.Part → List Use
purposes ps = map (λ p. p.purpose) ps

abbrev the_tokens : List code.Part → List Token
the_tokens ps = map (λ p. p.token) ps

-- Rules by number.

abbrev rule_at : ℕ → Rule
rule_at zero = too_long
rule_at (suc zero) = too_long
rule_at (suc (suc zero)) = foreign_byte
rule_at (suc (suc (suc zero))) = too_deep
rule_at (suc (suc (suc (suc zero)))) = misfit
rule_at (suc (suc (suc (suc (suc zero))))) = out_of_range
rule_at (suc (suc (suc (suc (suc (suc zero)))))) = misnamed
rule_at (suc (suc (suc (suc (suc (suc (suc zero))))))) = over_limit
rule_at (suc (suc (suc (suc (suc (suc (suc (suc n)))))))) = no_message

rule_back : (r : Rule) → rule_at (rule_number r) ≡ r
rule_back too_long = refl
rule_back foreign_byte = refl
rule_back too_deep = refl
rule_back misfit = refl
rule_back out_of_range = refl
rule_back misnamed = refl
rule_back over_limit = refl
rule_back no_message = refl

same_rule : (r q : Rule) → rule_number r ≡ rule_number q → r ≡ q
same_rule r q e = sym (rule_back r) ∙ ap rule_at e ∙ rule_back q

-- one rule more is kept
pub kept_more : {M : Type 0} (literal : M → List ℕ) (text : List ℕ) (q : Rule) → KeptBelow literal text (rule_number q) → Nowhere (Broken literal q text) → KeptBelow literal text (rule_number q + 1)
kept_more literal text q before here r lt = elim (cases_lt (rule_number r) (rule_number q)) [
  | inl less ↦ before r less
  | inr more ↦ let e : q ≡ r = same_rule q r (omega arith) in let P : Rule → Type 0 = λ x. Nowhere (Broken literal x text) in subst P e here
]

pub kept_none : {M : Type 0} (literal : M → List ℕ) (text : List ℕ) → KeptBelow literal text 1
kept_none literal text too_long lt = absurd (omega arith)
kept_none literal text foreign_byte lt = absurd (omega arith)
kept_none literal text too_deep lt = absurd (omega arith)
kept_none literal text misfit lt = absurd (omega arith)
kept_none literal text out_of_range lt = absurd (omega arith)
kept_none literal text misnamed lt = absurd (omega arith)
kept_none literal text over_limit lt = absurd (omega arith)
kept_none literal text no_message lt = absurd (omega arith)

pub kept_all : {M : Type 0} (literal : M → List ℕ) (text : List ℕ) → KeptBelow literal text 9 → (r : Rule) → Nowhere (Broken literal r text)
kept_all literal text h too_long = h too_long (omega arith)
kept_all literal text h foreign_byte = h foreign_byte (omega arith)
kept_all literal text h too_deep = h too_deep (omega arith)
kept_all literal text h misfit = h misfit (omega arith)
kept_all literal text h out_of_range = h out_of_range (omega arith)
kept_all literal text h misnamed = h misnamed (omega arith)
kept_all literal text h over_limit = h over_limit (omega arith)
kept_all literal text h no_message = h no_message (omega arith)

pub refused_by : {M : Type 0} (literal : M → List ℕ) (text : List ℕ) (q : Rule) (f : Fault) → KeptBelow literal text (rule_number q) → Breaks literal text q f → Refused literal text f
refused_by literal text q f before b = record { rule = q; number = b.number; place = b.place; before = before }

-- Fronts of tokens that begin a script.

viable_front : (a b : List Lexeme) → Viable (a ++ b) → Viable a
viable_front a b v = record { rest = b ++ v.rest; whole = subst IsScript (append_assoc a b v.rest) v.whole }

viable_all : (ls : List Lexeme) → IsScript ls → Viable ls
viable_all ls s = record { rest = []; whole = subst IsScript (sym (append-nil ls)) s }

viable_take : (ls : List Lexeme) (j k : ℕ) → j ≤ k → Viable (take k ls) → Viable (take j ls)
viable_take ls j k le v =
    let e : take j ls ++ drop j (take k ls) ≡ take k ls = rw (← take-take j k ls le) (take-append-drop j (take k ls)) in
    viable_front (take j ls) (drop j (take k ls)) (subst Viable (sym e) v)

viable_part : (ls : List Lexeme) (k : ℕ) → IsScript ls → Viable (take k ls)
viable_part ls k s = viable_front (take k ls) (drop k ls) (subst Viable (sym (take-append-drop k ls)) (viable_all ls s))

not_before : (ls : List Lexeme) (j k : ℕ) → MisfitAt ls j → MisfitAt ls k → j < k → ⊥
not_before ls j k m n lt = m.here (omega (arith, n.within)) (viable_take ls (j + 1) k (omega arith) n.before)

pub misfit_first : (text : List ℕ) (k : ℕ) → MisfitAt (lexemes text) k → First (Misfit text) (place_of (tokens text) (length text) k)
misfit_first text k m = (
  (k, m, refl),
  λ i (j, n, e). elim (cases_lt j k) [
    | inl lt ↦ absurd (not_before (lexemes text) j k n m lt)
    | inr ge ↦ omega (arith, e, places_ordered text k j ge)
  ],
)

pub no_misfit : (text : List ℕ) → IsScript (lexemes text) → Nowhere (Misfit text)
no_misfit text s i (k, m, e) = elim (cases_lt k (length (lexemes text))) [
  | inl lt ↦ m.here lt (viable_part (lexemes text) (k + 1) s)
  | inr ge ↦ m.missing (omega (arith, m.within)) s
]

-- Uses of tokens.

-- what is first among the tokens is first in the text
pub first_in_script : (text : List ℕ) (us : List Use) → Uses (lexemes text) us → (P : List Part → ℕ → Type 0) (k : ℕ) → First (P (with_uses us (lexemes text))) k → First (IsInScript P text) (place_of (tokens text) (length text) k)
first_in_script text us u P k f = (
  record { uses = us; used = u; token = k; holds = f.0; place = refl },
  λ i w.
      let e : w.uses ≡ us = uses_determined (lexemes text) w.uses us w.used u in
      let Q : List Use → Type 0 = λ vs. P (with_uses vs (lexemes text)) w.token in
      omega (arith, w.place, places_ordered text k w.token (f.1 w.token (subst Q e w.holds))),
)

pub nowhere_in_script : (text : List ℕ) (us : List Use) → Uses (lexemes text) us → (P : List Part → ℕ → Type 0) → Nowhere (P (with_uses us (lexemes text))) → Nowhere (IsInScript P text)
nowhere_in_script text us u P none i w =
    let e : w.uses ≡ us = uses_determined (lexemes text) w.uses us w.used u in
    let Q : List Use → Type 0 = λ vs. P (with_uses vs (lexemes text)) w.token in
    none w.token (subst Q e w.holds)

-- The code's tokens and parts.

-- the place of the k-th of them, or the text's length past the last
pub place_at : {X : Type 0} (of : X → Placed) (xs : List X) (end k r : ℕ) → ((d : X) → k < length xs → r ≡ place (of (get_or xs k d))) → (length xs ≤ k → r ≡ end) → r ≡ place_of (map of xs) end k
place_at of [] end k r here past = past (omega arith)
place_at of (x ∷ xs) end zero r here past = here x (omega arith)
place_at of (x ∷ xs) end (suc k) r here past = place_at of xs end k r (λ d lt. here d (omega arith)) (λ le. past (omega arith))

parts_placed : (ps : List code.Part) → map (λ p. placed p.token) ps ≡ map placed (the_tokens ps)
parts_placed [] = refl
parts_placed (p ∷ ps) = ap (λ l. placed p.token ∷ l) (parts_placed ps)

pub part_place : (text : List ℕ) (ps qs : List code.Part) → Formed text ps → qs ≡ ps → (k r : ℕ) → r ≡ place_of (map (λ p. placed p.token) qs) (length text) k → r ≡ place_of (tokens text) (length text) k
part_place text ps qs f same k r e = e ∙ ap (λ ts. place_of ts (length text) k) (ap (map (λ p. placed p.token)) same ∙ parts_placed ps ∙ f.tokens.tokens_are)

pub parts_are : (text : List ℕ) (ps : List code.Part) → Formed text ps → parts_of ps ≡ with_uses (purposes ps) (lexemes text)
parts_are text ps f = sym (told_together ps) ∙ ap (with_uses (purposes ps)) (tokens_lexemes text (the_tokens ps) f.tokens)

-- What is first among the parts is first in the text, at its place.

module _ (text : List ℕ) (ps qs : List code.Part) (f : Formed text ps) (same : qs ≡ ps) (P : List Part → ℕ → Type 0) where
  pub stage_first : (k at : ℕ) → at ≡ place_of (tokens text) (length text) k → First (P (parts_of qs)) k → First (IsInScript P text) at
  stage_first k at e first =
      let Q : List Part → Type 0 = λ ts. First (P ts) k in
      let R : ℕ → Type 0 = λ i. First (IsInScript P text) i in
      subst R (sym e) (first_in_script text (purposes ps) f.uses P k (subst Q (ap parts_of same ∙ parts_are text ps f) first))

  pub stage_nowhere : Nowhere (P (parts_of qs)) → Nowhere (IsInScript P text)
  stage_nowhere none =
      let Q : List Part → Type 0 = λ ts. Nowhere (P ts) in
      nowhere_in_script text (purposes ps) f.uses P (subst Q (ap parts_of same ∙ parts_are text ps f) none)

  pub nowhere_back : Nowhere (IsInScript P text) → Nowhere (P (parts_of qs))
  nowhere_back none k h =
      let Q : List Part → Type 0 = λ ts. P ts k in
      none (place_of (tokens text) (length text) k)
      (record { uses = purposes ps; used = f.uses; token = k; holds = subst Q (ap parts_of same ∙ parts_are text ps f) h; place = refl })

-- a stage whose fault is made of the place of the part that was found
pub stage_of : {F : Type 0} (make : ℕ → F) (makes : ℕ → F → Type 0) (text : List ℕ) (ps qs : List code.Part) → Formed text ps → qs ≡ ps
    → (P : List Part → ℕ → Type 0) (found : Option ℕ) (r : Result (Unit {0}) F) → Smallest (P (parts_of qs)) found → FaultAt makes text found r → ((at : ℕ) (e : F) → makes at e → e ≡ make at) → Stage make (IsInScript P text) r
stage_of make makes text ps qs f same P None (Ok x) none at just = stage_nowhere text ps qs f same P none
stage_of make makes text ps qs f same P None (Err e) none at just = absurd (false≢true (at.none refl))
stage_of make makes text ps qs f same P (Some k) (Ok x) first at just = absurd (at.some k refl)
stage_of make makes text ps qs f same P (Some k) (Err e) first at just =
    (place_of (tokens text) (length text) k, just _ e (at.some k refl), stage_first text ps qs f same P k _ refl first)

pub stage_literal : {M : Type 0} (literal : M → List ℕ) (text : List ℕ) (ps qs : List code.Part) → Formed text ps → qs ≡ ps → (k at : ℕ) (fault : LiteralFault) → at ≡ place_of (tokens text) (length text) k
    → Longest literal (bytes (nth (parts_of qs) k)) fault.at → RefusedLiteral literal text at fault
stage_literal literal text ps qs f same k at fault e longest =
    let Q : List Part → Type 0 = λ ts. Longest literal (bytes (nth ts k)) fault.at in
    record { uses = purposes ps; used = f.uses; token = k; place = e; longest = subst Q (ap parts_of same ∙ parts_are text ps f) longest }

-- what is no script is refused where no script goes on, which is the first place
pub unformed : (text : List ℕ) (fault : ParseFault) → ParseVerdict text (Err fault) → Unformed text (as_fault fault)
unformed text (parse.Misfit at) m = inr (at, refl, subst (First (Misfit text)) (sym m.2) (misfit_first text m.0 m.1))
unformed text parse.Memory m = inl refl

-- The form of a text's tokens, where its parts are made of them, is that of the text.

-- tokens of the text in their parts
pub formed : (text : List ℕ) (ks qs : List Token) (ps : List code.Part) → Tokenised text ks → qs ≡ ks → AreParts qs ps → Formed text ps
formed text ks qs ps t same a =
    let P : List Lexeme → Type 0 = λ ls. Uses ls (purposes ps) in
    record { tokens = subst (Tokenised text) (sym (a.tokens_are ∙ same)) t; uses = subst P (ap (map lexeme) same ∙ tokens_lexemes text ks t) a.uses }

-- where no script goes on is the text's first such place
pub form_first : (text : List ℕ) (ks ps qs : List Token) → Tokenised text ks → ps ≡ ks → qs ≡ ks → (k at : ℕ) → at ≡ place_of (map placed ps) (length text) k → MisfitAt (map lexeme qs) k → First (Misfit text) at
form_first text ks ps qs t pk qk k at e m =
    let same : at ≡ place_of (tokens text) (length text) k = e ∙ ap (λ ts. place_of ts (length text) k) (ap (map placed) pk ∙ t.tokens_are) in
    let Q : List Lexeme → Type 0 = λ ls. MisfitAt ls k in
    let R : ℕ → Type 0 = λ i. First (Misfit text) i in
    subst R (sym same) (misfit_first text k (subst Q (ap (map lexeme) qk ∙ tokens_lexemes text ks t) m))
