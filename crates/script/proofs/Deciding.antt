-- The verdict on a text, from what each stage answers.
use Rattle.std.proofs.Common.{◌≡◌, ℕ, ◌⊎◌, List, [], ◌∷◌, ◌++◌, map, length, Err, vec_items, codes, decimal, sym, refl, ap, ◌∙◌, subst, inl, inr, arith, length-append}
use Rattle.std.specs.Fmt.{digits}
use Rattle.message.specs.declared.literal.LiteralFault.{LiteralFault}
use Rattle.tokens.specs.declared.text.TextFault.{TextFault}
use Rattle.tokens.specs.declared.text.TextFault.TheVariants.{TooLong, ForeignByte, TooDeep}
use Rattle.tokens.specs.Places.{First, Nowhere}
use Rattle.tokens.specs.Text.{IsTooLong, IsForeignByte, IsTooDeep}
use Rattle.tokens.specs.TextFaults.{TextVerdict}
use Rattle.tokens.specs.Tokens.{opening, closing, atom, lexemes}
use Rattle.grammar.specs.declared.words.Use.{Use}
use Rattle.grammar.specs.declared.part.Part.{Part}
use Rattle.grammar.specs.Parts.{parts_of}
use Rattle.grammar.specs.Grammar as g
use Rattle.grammar.specs.Forms.{Misfit, Uses, with_uses}
use Rattle.grammar.proofs.Determined.{uses_make_script}
use Rattle.grammar.proofs.Parts.{lexemes_of}
use Rattle.passes.specs.Ranges.{IsOutOfRange}
use Rattle.passes.specs.Names.{Misnamed}
use Rattle.passes.specs.Limits.{IsOverLimit}
use Rattle.passes.specs.Messages.{NoMessage}
use Rattle.rows.specs.Scripts.{ScriptOf}
use Rattle.rows.specs.Rows.{empty_script}
use Rattle.rows.specs.Build.{Builds}
use Rattle.std.proofs.lemmas.List.{length-map}
use Rattle.script.specs.declared.fault.Fault.{Fault}
use Rattle.script.specs.declared.fault.Fault.TheVariants.{Text, Form, Names, Message, Memory}
use Rattle.script.specs.declared.fault.FormFault.{FormFault}
use Rattle.script.specs.declared.fault.FormFault.TheVariants as form
use Rattle.script.specs.declared.fault.NamesFault.{NamesFault}
use Rattle.script.specs.declared.fault.NamesFault.TheVariants as names
use Rattle.script.specs.declared.fault.MessageFault.{MessageFault}
use Rattle.script.specs.declared.fault.MessageFault.TheVariants as message
use Rattle.script.specs.Refusals.{too_long, foreign_byte, too_deep, misfit, out_of_range, misnamed, over_limit, no_message, IsInScript, Refused, RefusedLiteral, Verdict}
use Rattle.script.specs.declared.checked.Checked.{Checked}
use Rattle.script.specs.Checks.{or_new, Means}
use Rattle.script.specs.Stages.{KeptBelow, Formed}
use Rattle.script.proofs.Composing.{kept_more, kept_none, refused_by, no_misfit, nowhere_back, parts_are}

-- The text.

pub text_refused : {M : Type 0} (literal : M → List ℕ) (text : List ℕ) (f : TextFault) → TextVerdict {T = Unit {0}} text (Err f) → Refused literal text (Text f)
text_refused literal text TooLong v = refused_by literal text too_long (Text TooLong) (kept_none literal text) (record { number = refl; place = v })
text_refused literal text (ForeignByte at) v = refused_by literal text foreign_byte (Text (ForeignByte at)) (kept_more literal text too_long (kept_none literal text) v.0) (record { number = refl; place = v.1 })
text_refused literal text (TooDeep at) v = refused_by literal text too_deep (Text (TooDeep at)) (kept_more literal text foreign_byte (kept_more literal text too_long (kept_none literal text) v.0) v.1) (record { number = refl; place = v.2 })

pub text_kept : {M : Type 0} (literal : M → List ℕ) (text : List ℕ) → Nowhere (IsTooLong text) × Nowhere (IsForeignByte text) × Nowhere (IsTooDeep text) → KeptBelow literal text 4
text_kept literal text v = kept_more literal text too_deep (kept_more literal text foreign_byte (kept_more literal text too_long (kept_none literal text) v.0) v.1) v.2

-- The form.

pub form_refused : {M : Type 0} (T : Type 0) (literal : M → List ℕ) (text : List ℕ) (f : Fault) → KeptBelow literal text 4 → (f ≡ Memory) ⊎ ((at : ℕ) × (f ≡ Form (form.Misfit at)) × First (Misfit text) at) → Verdict {T = T} literal text (Err f)
form_refused T literal text f kept (inl e) = let P : Fault → Type 0 = λ x. Verdict {T = T} literal text (Err x) in subst P (sym e) tt
form_refused T literal text f kept (inr (at, e, first)) =
    let P : Fault → Type 0 = λ x. Verdict {T = T} literal text (Err x) in
    subst P (sym e) (refused_by literal text misfit (Form (form.Misfit at)) kept (record { number = refl; place = first }))

pub form_kept : {M : Type 0} (literal : M → List ℕ) (text : List ℕ) (us : List Use) → KeptBelow literal text 4 → Uses (lexemes text) us → KeptBelow literal text 5
form_kept literal text us kept u = kept_more literal text misfit kept (no_misfit text (uses_make_script (lexemes text) us u))

pub ranges_refused : {M : Type 0} (literal : M → List ℕ) (text : List ℕ) (f : FormFault) → KeptBelow literal text 5 → ((at : ℕ) × (f ≡ form.OutOfRange at) × First (IsInScript IsOutOfRange text) at) → Refused literal text (Form f)
ranges_refused literal text f kept (at, e, first) =
    let P : FormFault → Type 0 = λ x. Refused literal text (Form x) in
    subst P (sym e) (refused_by literal text out_of_range (Form (form.OutOfRange at)) kept (record { number = refl; place = first }))

-- Names and limits.

pub names_refused : {M : Type 0} (literal : M → List ℕ) (text : List ℕ) (f : NamesFault) → KeptBelow literal text 6 → ((at : ℕ) × (f ≡ names.Misnamed at) × First (IsInScript Misnamed text) at) → Refused literal text (Names f)
names_refused literal text f kept (at, e, first) =
    let P : NamesFault → Type 0 = λ x. Refused literal text (Names x) in
    subst P (sym e) (refused_by literal text misnamed (Names (names.Misnamed at)) kept (record { number = refl; place = first }))

pub limits_refused : {M : Type 0} (literal : M → List ℕ) (text : List ℕ) (f : NamesFault) → KeptBelow literal text 7 → ((at : ℕ) × (f ≡ names.OverLimit at) × First (IsInScript IsOverLimit text) at) → Refused literal text (Names f)
limits_refused literal text f kept (at, e, first) =
    let P : NamesFault → Type 0 = λ x. Refused literal text (Names x) in
    subst P (sym e) (refused_by literal text over_limit (Names (names.OverLimit at)) kept (record { number = refl; place = first }))

-- Literals.

pub literals_refused : {M : Type 0} (T : Type 0) (literal : M → List ℕ) (text : List ℕ) (f : MessageFault) → KeptBelow literal text 8
    → ((at : ℕ) × (inner : LiteralFault) × (f ≡ message.InScript at inner) × First (IsInScript (NoMessage literal) text) at × RefusedLiteral literal text at inner) → Verdict {T = T} literal text (Err (Message f))
literals_refused T literal text f kept (at, inner, e, first, own) =
    let P : MessageFault → Type 0 = λ x. Verdict {T = T} literal text (Err (Message x)) in
    subst P (sym e) (refused_by literal text no_message (Message (message.InScript at inner)) kept (record { number = refl; place = first }), own)

-- The script `(task 0)`.

nought : decimal 0 ≡ codes "0"
unfolding digits
nought = refl

pub empty_of : {M : Type 0} (literal : M → List ℕ) → ScriptOf literal (codes "(task 0)") empty_script
empty_of literal = record {
  within = record { ports = tt; first = (omega arith, tt); others = tt };
  written = ap (λ bs. opening ∷ atom (codes "task") ∷ atom bs ∷ closing ∷ []) nought;
}

-- An accepted text.

no_empty_script : g.IsScript [] → ⊥
no_empty_script s =
    let x = s.raw in
    let ps = g.raw_parts x in
    omega (arith, ap length s.written, length-map ps (λ p. p.lexeme), length-append (g.each (g.port g.as_written) x.ports) (g.body g.as_written x.first ++ g.each (g.body g.as_written) x.others), length-append (g.body g.as_written x.first) (g.each (g.body g.as_written) x.others))

some_text : (text : List ℕ) → g.IsScript (lexemes text) → or_new text ≡ text
some_text [] s = absurd (no_empty_script s)
some_text (b ∷ bs) s = refl

pub admitted : {M : Type 0} (literal : M → List ℕ) (text : List ℕ) (ps : List Part) (t : Checked M) → Formed text ps → KeptBelow literal text 9 → vec_items t.text ≡ text → Builds literal (parts_of ps) t.rows → Means literal text t
admitted literal text ps t f kept copied builds =
    let us = map (λ p. p.purpose) ps in
    let same : parts_of ps ≡ with_uses us (lexemes text) = parts_are text ps f in
    let built = builds f.uses.raw (f.uses.written ∙ sym same)
    (nowhere_back text ps ps f refl IsOutOfRange (kept out_of_range (omega arith)))
    (nowhere_back text ps ps f refl (NoMessage literal) (kept no_message (omega arith))) in
    record {
      copy = ap or_new copied ∙ some_text text (uses_make_script (lexemes text) us f.uses);
      script = built.script;
      of_text = record {
        within = built.within;
        written = ap g.part_lexemes (built.written ∙ same) ∙ lexemes_of us (lexemes text) f.uses.long;
      };
      held = built.holds;
    }
