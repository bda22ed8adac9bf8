-- What an item of the machine's stack stands for: a part of a script, and its tokens with their uses.
use Rattle.std.proofs.Common.{◌≡◌, ℕ, List, [], ◌∷◌, ◌++◌, sym, refl, ap, ◌∙◌, append_assoc}
use mathlib.Core.List.{tail}
use Rattle.message.specs.declared.kind.Sign.{Sign}
use Rattle.grammar.specs.declared.words.Use.TheVariants as purpose
use Rattle.grammar.specs.declared.words.BracketUse.{BracketUse}
use Rattle.grammar.specs.declared.words.BracketUse.TheVariants.{Open, Close, CloseTask}
use Rattle.grammar.specs.declared.items.Role.{Role}
use Rattle.grammar.specs.declared.items.Role.TheVariants as role
use Rattle.grammar.specs.declared.items.Item.{Item}
use Rattle.grammar.specs.declared.items.Item.TheVariants.{Top, Bodies, Instrs, Events, Event, Action, Head, Number, Literal, Test, Shut}
use Rattle.tokens.specs.Tokens.{opening, closing, atom}
use Rattle.grammar.specs.Grammar as g
use Rattle.grammar.specs.Grammar.{Part, part, Raw, raw_parts, as_written, each, number, literal, test_word}

abbrev pub RawEvent : Type 0
RawEvent = g.Event (List ℕ) (List ℕ) (List ℕ)

abbrev pub RawEvents : Type 0
RawEvents = g.Events (List ℕ) (List ℕ) (List ℕ)

abbrev pub RawInstr : Type 0
RawInstr = g.Instr (List ℕ) (List ℕ) (List ℕ)

abbrev pub RawBody : Type 0
RawBody = g.Body (List ℕ) (List ℕ) (List ℕ)

-- what begins with a form of the role
abbrev pub Tree : Role → Type 0
Tree role.Top = Raw
Tree role.Body = RawBody × List RawBody
Tree role.Instr = RawInstr
Tree role.Event = RawEvent
Tree role.Action = g.Action (List ℕ) (List ℕ)

abbrev pub text : (r : Role) → Tree r → List Part
text role.Top x = raw_parts x
text role.Body x = each (g.body as_written) (x.0 ∷ x.1)
text role.Instr x = g.instr as_written x
text role.Event x = g.event as_written Open x
text role.Action x = g.action as_written x

abbrev pub shuts : BracketUse → Part
shuts u = part (purpose.Bracket u) closing

abbrev pub Value : Item → Type 0
Value Top = Raw
Value Bodies = List RawBody
Value Instrs = List RawInstr
Value Events = RawEvents
Value (Event u) = RawEvent
Value Action = g.Action (List ℕ) (List ℕ)
Value (Head r) = Tree r
Value (Number u) = List ℕ
Value (Literal u) = List ℕ
Value Test = Sign
Value (Shut u) = Unit {0}

abbrev pub print : (i : Item) → Value i → List Part
print Top x = raw_parts x
print Bodies bs = each (g.body as_written) bs
print Instrs is = each (g.instr as_written) is ++ (shuts CloseTask ∷ [])
print Events es = g.events as_written es ++ (shuts Close ∷ [])
print (Event u) e = g.event as_written u e
print Action a = g.action as_written a
print (Head r) x = tail (text r x)
print (Number u) bs = number u bs ∷ []
print (Literal u) bs = literal u bs ∷ []
print Test t = part (purpose.Test t) (atom (test_word t)) ∷ []
print (Shut u) x = shuts u ∷ []

abbrev pub Values : List Item → Type 0
Values [] = Unit {0}
Values (i ∷ s) = Value i × Values s

abbrev pub prints : (s : List Item) → Values s → List Part
prints [] vs = []
prints (i ∷ s) vs = print i vs.0 ++ prints s vs.1

-- the values of a stack that was put together
pub first_part : (js s : List Item) → Values (js ++ s) → Values js
first_part [] s vs = tt
first_part (j ∷ js) s vs = (vs.0, first_part js s vs.1)

pub last_part : (js s : List Item) → Values (js ++ s) → Values s
last_part [] s vs = vs
last_part (j ∷ js) s vs = last_part js s vs.1

pub parted : (js s : List Item) (vs : Values (js ++ s)) → prints (js ++ s) vs ≡ prints js (first_part js s vs) ++ prints s (last_part js s vs)
unfolding first_part last_part
parted [] s vs = refl
parted (j ∷ js) s vs = ap (λ x. print j vs.0 ++ x) (parted js s vs.1) ∙ sym (append_assoc (print j vs.0) _ _)

abbrev pub opens : BracketUse → Part
opens u = part (purpose.Bracket u) opening

-- each form begins with its bracket, and goes on whatever the bracket's use
pub opened_event : (u : BracketUse) (e : RawEvent) → g.event as_written u e ≡ opens u ∷ tail (g.event as_written Open e)
opened_event u g.never = refl
opened_event u g.nack = refl
opened_event u (g.always l) = refl
opened_event u (g.send p) = refl
opened_event u (g.recv p) = refl
opened_event u (g.timeout p) = refl
opened_event u (g.choose es) = refl
opened_event u (g.wrap e a) = refl
opened_event u (g.guard t e f) = refl
opened_event u (g.with_nack b e) = refl

pub opened_instr : (x : RawInstr) → g.instr as_written x ≡ opens Open ∷ tail (g.instr as_written x)
opened_instr (g.sync e) = refl
opened_instr (g.spawn b) = refl
opened_instr g.emit = refl
opened_instr g.again = refl

pub opened_action : (a : g.Action (List ℕ) (List ℕ)) → g.action as_written a ≡ opens Open ∷ tail (g.action as_written a)
opened_action (g.set l) = refl
opened_action (g.add k) = refl

pub opened_script : (x : Raw) → raw_parts x ≡ opens Open ∷ tail (raw_parts x)
opened_script x = go x.ports
  where
    go : (ps : List (g.Port (List ℕ))) → ◌≡◌ {A = List Part} (each (g.port as_written) ps ++ (g.body as_written x.first ++ each (g.body as_written) x.others)) (opens Open ∷ tail (each (g.port as_written) ps ++ (g.body as_written x.first ++ each (g.body as_written) x.others)))
    go [] = refl
    go (p ∷ ps) = refl
