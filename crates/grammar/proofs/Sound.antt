-- Whatever the machine reads is part of a script: each step keeps the parts that the stack stands for.
use Rattle.std.proofs.Common.{◌≡◌, ℕ, Bool, true, false, cond, List, [], ◌∷◌, ◌++◌, Some, None, Option, sym, refl, ap, ◌∙◌, subst, append_assoc, append-nil}
use mathlib.Core.List.{tail}
use Rattle.std.specs.Str.{bytes_eq}
use Rattle.std.specs.List.{AllByRecursion, find}
use Rattle.std.proofs.lemmas.Slice.Eq.{bytes_eq-Decides}
use Rattle.message.specs.declared.kind.Sign.{Sign}
use Rattle.grammar.specs.declared.words.PortKind.{PortKind}
use Rattle.grammar.specs.declared.words.PortKind.TheVariants as kind
use Rattle.grammar.specs.declared.words.Keyword.{Keyword}
use Rattle.grammar.specs.declared.words.Use.TheVariants as purpose
use Rattle.grammar.specs.declared.words.BracketUse.TheVariants.{Open}
use Rattle.grammar.specs.declared.items.Role.{Role}
use Rattle.grammar.specs.declared.items.Role.TheVariants as role
use Rattle.grammar.specs.declared.items.Item.{Item}
use Rattle.grammar.specs.declared.items.Item.TheVariants.{Top, Bodies, Instrs, Events, Event, Action, Head, Number, Literal, Test, Shut}
use Rattle.tokens.specs.Tokens.{Lexeme, opening, closing, atom}
use Rattle.grammar.specs.Grammar as g
use Rattle.grammar.specs.Grammar.{Part, part, Raw, as_written, number, spelled, test_word}
use Rattle.grammar.specs.Machine.{Read, begins, keyword, tested, signs, after, as_head, as_test, at_open, at_close, at_atom, expand, onto, step}
use Rattle.grammar.proofs.Runs.{Run, stop, read}
use Rattle.grammar.proofs.Values.{Tree, text, Value, print, Values, prints, first_part, last_part, parted, opens, opened_event, opened_instr, opened_action, opened_script}

-- what is found is spelled so, and has what all of the table have
abbrev Found : {A : Type 0} → (A → List ℕ) → (A → Type 0) → List ℕ → Option A → Type 0
Found f P w None = Unit {0}
Found f P w (Some x) = (w ≡ f x) × P x

found_by : {A : Type 0} (f : A → List ℕ) (P : A → Type 0) (w : List ℕ) (x : A) (o : Option A) → P x → Found f P w o → (b : Bool) → (b ≡ true → w ≡ f x) → Found f P w (cond b (Some x) o)
found_by f P w x o p h true e = (e refl, p)
found_by f P w x o p h false e = h

found : {A : Type 0} (f : A → List ℕ) (P : A → Type 0) (xs : List A) (w : List ℕ) → AllByRecursion P xs → Found f P w (find (λ x. bytes_eq w (f x)) xs)
found f P [] w ps = tt
found f P (x ∷ xs) w ps = found_by f P w x (find (λ x. bytes_eq w (f x)) xs) ps.0 (found f P xs w ps.1) (bytes_eq w (f x)) (bytes_eq-Decides w (f x)).0

-- the values of what follows a keyword make a value of its form
abbrev Built : Role → Keyword → Type 0
Built r k = (vs : Values (after k)) → (x : Tree r) × (tail (text r x) ≡ part (purpose.Head k) (atom (spelled k)) ∷ prints (after k) vs)

with_port : (k : PortKind) (bs : List ℕ) (x : Raw) → Raw
with_port k bs x = record { ports = record { kind = k; number = bs } ∷ x.ports; first = x.first; others = x.others }

builds : (r : Role) → AllByRecursion (Built r) (begins r)
unfolding with_port
builds role.Top = (
  (λ v. (with_port kind.Channel v.0 v.1.1.0, rw append-nil)),
  (
    (λ v. (with_port kind.Mailbox v.0 v.1.1.0, rw append-nil)),
    (
      (λ v. (with_port kind.Ivar v.0 v.1.1.0, rw append-nil)),
      (
        (λ v. (with_port kind.Mvar v.0 v.1.1.0, rw append-nil)),
        (
          (λ v. (record { ports = []; first = record { number = v.0; instrs = v.1.0 }; others = v.1.1.0 }, rw append-nil)),
          tt,
        ),
      ),
    ),
  ),
)
builds role.Body = ((λ v. ((record { number = v.0; instrs = v.1.0 }, v.1.1.0), rw append-nil)), tt)
builds role.Instr = (
  (λ v. (g.sync v.0, refl)),
  (
    (λ v. (g.spawn v.0, refl)),
    (
      (λ v. (g.emit, refl)),
      (
        (λ v. (g.again, refl)),
        tt,
      ),
    ),
  ),
)
builds role.Event = (
  (λ v. (g.never, refl)),
  (
    (λ v. (g.always v.0, refl)),
    (
      (λ v. (g.send v.0, refl)),
      (
        (λ v. (g.recv v.0, refl)),
        (
          (λ v. (g.timeout v.0, refl)),
          (
            (λ v. (g.nack, refl)),
            (
              (λ v. (g.choose v.0, rw append-nil)),
              (
                (λ v. (g.wrap v.0 v.1.0, rw append_assoc)),
                (
                  (λ v. (g.guard v.0 v.1.0 v.1.1.0, rw append_assoc)),
                  (
                    (λ v. (g.with_nack v.0 v.1.0, refl)),
                    tt,
                  ),
                ),
              ),
            ),
          ),
        ),
      ),
    ),
  ),
)
builds role.Action = (
  (λ v. (g.set v.0, refl)),
  (
    (λ v. (g.add v.0, refl)),
    tt,
  ),
)

-- the values of what comes after the token make a value of the item
abbrev Sound : Item → Lexeme → Option Read → Type 0
Sound i l None = Unit {0}
Sound i l (Some r) = (vs : Values r.1) → (v : Value i) × (print i v ≡ part r.0 l ∷ prints r.1 vs)

head_sound : (r : Role) (w : List ℕ) (o : Option Keyword) → Found spelled (Built r) w o → Sound (Head r) (atom w) (as_head o)
head_sound r w None h = tt
head_sound r w (Some k) h = λ vs.
    let x = h.1 vs in
    (x.0, x.1 ∙ ap (λ y. part (purpose.Head k) (atom y) ∷ prints (after k) vs) (sym h.0))

test_sound : (w : List ℕ) (o : Option Sign) → Found test_word (λ _. Unit {0}) w o → Sound Test (atom w) (as_test o)
test_sound w None h = tt
test_sound w (Some t) h = λ vs. (t, ap (λ y. part (purpose.Test t) (atom y) ∷ []) (sym h.0))

-- one of several forms, and the others
one_more : (p : Part) (a b c : List Part) → a ≡ p ∷ tail a → (a ++ b) ++ c ≡ p ∷ (tail a ++ ((b ++ c) ++ []))
one_more p a b c e = append_assoc a b c ∙ ap (λ x. x ++ (b ++ c)) e ∙ ap (λ x. p ∷ (tail a ++ x)) (sym (append-nil (b ++ c)))

open_sound : (i : Item) → Sound i opening (at_open i)
open_sound Top = λ vs. (vs.0, opened_script vs.0 ∙ ap (λ x. opens Open ∷ x) (sym (append-nil _)))
open_sound Bodies = λ vs. (vs.0.0 ∷ vs.0.1, rw append-nil)
open_sound Instrs = λ vs. (vs.0 ∷ vs.1.0, one_more _ (g.instr as_written vs.0) _ _ (opened_instr vs.0))
open_sound Events = λ vs. (g.more vs.0 vs.1.0, one_more _ (g.event as_written Open vs.0) _ _ (opened_event Open vs.0))
open_sound (Event u) = λ vs. (vs.0, opened_event u vs.0 ∙ ap (λ x. opens u ∷ x) (sym (append-nil _)))
open_sound Action = λ vs. (vs.0, opened_action vs.0 ∙ ap (λ x. opens Open ∷ x) (sym (append-nil _)))
open_sound (Head r) = tt
open_sound (Number u) = tt
open_sound (Literal u) = tt
open_sound Test = tt
open_sound (Shut u) = tt

close_sound : (i : Item) → Sound i closing (at_close i)
close_sound Instrs = λ vs. ([], refl)
close_sound Events = λ vs. (g.none, refl)
close_sound (Shut u) = λ vs. (tt, refl)
close_sound Top = tt
close_sound Bodies = tt
close_sound (Event u) = tt
close_sound Action = tt
close_sound (Head r) = tt
close_sound (Number u) = tt
close_sound (Literal u) = tt
close_sound Test = tt

atom_sound : (i : Item) (w : List ℕ) → Sound i (atom w) (at_atom i w)
unfolding keyword tested
atom_sound (Head r) w = head_sound r w (keyword r w) (found spelled (Built r) (begins r) w (builds r))
atom_sound (Number u) w = λ vs. (w, refl)
atom_sound (Literal u) w = λ vs. (w, refl)
atom_sound Test w = test_sound w (tested w) (found test_word (λ _. Unit {0}) signs w (tt, (tt, (tt, tt))))
atom_sound Top w = tt
atom_sound Bodies w = tt
atom_sound Instrs w = tt
atom_sound Events w = tt
atom_sound (Event u) w = tt
atom_sound Action w = tt
atom_sound (Shut u) w = tt

expand_sound : (i : Item) (l : Lexeme) → Sound i l (expand i l)
expand_sound i opening = open_sound i
expand_sound i closing = close_sound i
expand_sound i (atom w) = atom_sound i w

-- the same of a stack
abbrev Kept : List Item → Lexeme → Option Read → Type 0
Kept s l None = Unit {0}
Kept s l (Some r) = (vs : Values r.1) → (us : Values s) × (prints s us ≡ part r.0 l ∷ prints r.1 vs)

onto_sound : (i : Item) (s : List Item) (l : Lexeme) (o : Option Read) → Sound i l o → Kept (i ∷ s) l (onto o s)
onto_sound i s l None h = tt
onto_sound i s l (Some r) h = λ vs.
    let v = h (first_part r.1 s vs) in (
      (v.0, last_part r.1 s vs),
      ap (λ x. x ++ prints s (last_part r.1 s vs)) v.1 ∙ ap (λ x. part r.0 l ∷ x) (sym (parted r.1 s vs)),
    )

step_sound : (s : List Item) (l : Lexeme) → Kept s l (step s l)
step_sound [] l = tt
step_sound (i ∷ s) l = onto_sound i s l (expand i l) (expand_sound i l)

-- and of several tokens: the values of the stack after them make values of the stack before
pub run_sound : {s s₁ : List Item} {ps : List Part} → Run s ps s₁ → (vs : Values s₁) → (us : Values s) × (prints s us ≡ ps ++ prints s₁ vs)
run_sound stop vs = (vs, refl)
run_sound (read {s = s} {s₁ = s₁} {p = p} e r) vs =
    let u = run_sound r vs in
    let v = subst (Kept s p.lexeme) e (step_sound s p.lexeme) u.0 in
    (v.0, v.1 ∙ ap (λ x. p ∷ x) u.1)
