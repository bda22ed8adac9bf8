-- The machine reads every script, and reads it in one way.
use Rattle.std.proofs.Common.{◌≡◌, ℕ, List, [], ◌∷◌, ◌++◌, Some, sym, refl, ap, ◌∙◌, append_assoc}
use mathlib.Core.List.{tail}
use Rattle.message.specs.declared.kind.Sign.{Sign}
use Rattle.message.specs.declared.kind.Sign.TheVariants.{Neg, Zero, Pos}
use Rattle.grammar.specs.declared.words.PortKind.{PortKind}
use Rattle.grammar.specs.declared.words.PortKind.TheVariants as kind
use Rattle.grammar.specs.declared.words.Keyword.{Keyword}
use Rattle.grammar.specs.declared.words.Keyword.TheVariants.{Channel, Mailbox, Ivar, Mvar, Task, Sync, Spawn, Emit, Again, Never, Always, Send, Recv, Timeout, Nack, Choose, Wrap, Guard, WithNack, Set, Add}
use Rattle.grammar.specs.declared.words.Use.TheVariants as purpose
use Rattle.grammar.specs.declared.words.BracketUse.{BracketUse}
use Rattle.grammar.specs.declared.words.BracketUse.TheVariants.{Open, OpenSecond, Close, CloseTask}
use Rattle.grammar.specs.declared.items.Role.{Role}
use Rattle.grammar.specs.declared.items.Role.TheVariants as role
use Rattle.grammar.specs.declared.items.Item.{Item}
use Rattle.grammar.specs.declared.items.Item.TheVariants.{Top, Bodies, Instrs, Events, Event, Action, Head, Test}
use Rattle.tokens.specs.Tokens.{opening, atom}
use Rattle.grammar.specs.Grammar as g
use Rattle.grammar.specs.Grammar.{Part, part, Raw, raw_parts, as_written, each, spelled, test_word}
use Rattle.grammar.specs.Machine.{keyword, tested, after, as_head, onto, step}
use Rattle.grammar.proofs.Runs.{Run, stop, read, regroup}
use Rattle.grammar.proofs.Values.{RawEvent, RawEvents, RawInstr, RawBody, shuts, opens, opened_event}

-- a keyword of the role is read
head : (r : Role) (k : Keyword) → keyword r (spelled k) ≡ Some k → {s s₁ : List Item} {ps : List Part} → Run (after k ++ s) ps s₁ → Run (Head r ∷ s) (part (purpose.Head k) (atom (spelled k)) ∷ ps) s₁
head r k e {s} run = read (ap (λ o. onto (as_head o) s) e) run

two : (a b c d : List Part) → ((a ++ b) ++ c) ++ d ≡ a ++ (b ++ (c ++ d))
two a b c d = append_assoc (a ++ b) c d ∙ append_assoc a b (c ++ d)

-- where another stack reads the first token alike, it reads them all alike
at_top : {s s₁ : List Item} {p : Part} {ps : List Part} (s' : List Item) → step s' p.lexeme ≡ step s p.lexeme → Run s (p ∷ ps) s₁ → Run s' (p ∷ ps) s₁
at_top s' e (read f run) = read (e ∙ f) run

one_of : {s s₁ : List Item} (s' : List Item) (a rest : List Part) → a ≡ opens Open ∷ tail a → step s' opening ≡ step s opening → Run s (a ++ rest) s₁ → Run s' (a ++ rest) s₁
one_of s' a rest e f run =
    let more : a ++ rest ≡ opens Open ∷ (tail a ++ rest) = ap (λ x. x ++ rest) e in
    regroup more (at_top s' f (regroup (sym more) run))

-- each part of a script takes its item off the stack

test_taken : (t : Sign) {s s₁ : List Item} {ps : List Part} → Run s ps s₁ → Run (Test ∷ s) (part (purpose.Test t) (atom (test_word t)) ∷ ps) s₁
unfolding tested
test_taken Neg run = read refl run
test_taken Zero run = read refl run
test_taken Pos run = read refl run

action_taken : (a : g.Action (List ℕ) (List ℕ)) {s s₁ : List Item} {ps : List Part} → Run s ps s₁ → Run (Action ∷ s) (g.action as_written a ++ ps) s₁
unfolding keyword
action_taken (g.set l) run = read refl (head role.Action Set refl (read refl (read refl run)))
action_taken (g.add k) run = read refl (head role.Action Add refl (read refl (read refl run)))

mutual
  unfolding keyword

  event_taken : (e : RawEvent) (u : BracketUse) {s s₁ : List Item} {ps : List Part} → Run s ps s₁ → Run (Event u ∷ s) (g.event as_written u e ++ ps) s₁
  event_taken g.never u run = read refl (head role.Event Never refl (read refl run))
  event_taken g.nack u run = read refl (head role.Event Nack refl (read refl run))
  event_taken (g.always l) u run = read refl (head role.Event Always refl (read refl (read refl run)))
  event_taken (g.send p) u run = read refl (head role.Event Send refl (read refl (read refl run)))
  event_taken (g.recv p) u run = read refl (head role.Event Recv refl (read refl (read refl run)))
  event_taken (g.timeout p) u run = read refl (head role.Event Timeout refl (read refl (read refl run)))
  event_taken (g.choose es) u run = read refl (head role.Event Choose refl (regroup (append_assoc (g.events as_written es) _ _) (events_taken es run)))
  event_taken (g.wrap e a) u run = read refl (head role.Event Wrap refl (regroup (two (g.event as_written Open e) (g.action as_written a) _ _) (event_taken e Open (action_taken a (read refl run)))))
  event_taken (g.guard t e f) u run = read refl (head role.Event Guard refl (test_taken t (regroup (two (g.event as_written Open e) (g.event as_written OpenSecond f) _ _) (event_taken e Open (event_taken f OpenSecond (read refl run))))))
  event_taken (g.with_nack b e) u run = read refl (head role.Event WithNack refl (read refl (regroup (append_assoc (g.event as_written Open e) _ _) (event_taken e Open (read refl run)))))

  events_taken : (es : RawEvents) {s s₁ : List Item} {ps : List Part} → Run s ps s₁ → Run (Events ∷ s) (g.events as_written es ++ (shuts Close ∷ ps)) s₁
  events_taken g.none run = read refl run
  events_taken (g.more e es) {s} run = regroup (append_assoc (g.event as_written Open e) (g.events as_written es) _) (one_of (Events ∷ s) (g.event as_written Open e) _ (opened_event Open e) refl (event_taken e Open (events_taken es run)))

instr_taken : (x : RawInstr) {s s₁ : List Item} {ps : List Part} → Run (Instrs ∷ s) ps s₁ → Run (Instrs ∷ s) (g.instr as_written x ++ ps) s₁
unfolding keyword
instr_taken (g.sync e) run = read refl (head role.Instr Sync refl (regroup (append_assoc (g.event as_written Open e) _ _) (event_taken e Open (read refl run))))
instr_taken (g.spawn b) run = read refl (head role.Instr Spawn refl (read refl (read refl run)))
instr_taken g.emit run = read refl (head role.Instr Emit refl (read refl run))
instr_taken g.again run = read refl (head role.Instr Again refl (read refl run))

instrs_taken : (xs : List RawInstr) {s s₁ : List Item} {ps : List Part} → Run s ps s₁ → Run (Instrs ∷ s) (each (g.instr as_written) xs ++ (shuts CloseTask ∷ ps)) s₁
instrs_taken [] run = read refl run
instrs_taken (x ∷ xs) run = regroup (append_assoc (g.instr as_written x) (each (g.instr as_written) xs) _) (instr_taken x (instrs_taken xs run))

bodies_taken : (bs : List RawBody) {s : List Item} → Run (Bodies ∷ s) (each (g.body as_written) bs) (Bodies ∷ s)
unfolding keyword
bodies_taken [] = stop
bodies_taken (b ∷ bs) = read refl (head role.Body Task refl (read refl (regroup (append_assoc (each (g.instr as_written) b.instrs) (shuts CloseTask ∷ []) _) (instrs_taken b.instrs (bodies_taken bs)))))

port_taken : (k : PortKind) (bs : List ℕ) {s s₁ : List Item} {ps : List Part} → Run (Top ∷ s) ps s₁ → Run (Top ∷ s) (g.port {K = List ℕ} {L = List ℕ} as_written (record { kind = k; number = bs }) ++ ps) s₁
unfolding keyword
port_taken kind.Channel bs run = read refl (head role.Top Channel refl (read refl (read refl run)))
port_taken kind.Mailbox bs run = read refl (head role.Top Mailbox refl (read refl (read refl run)))
port_taken kind.Ivar bs run = read refl (head role.Top Ivar refl (read refl (read refl run)))
port_taken kind.Mvar bs run = read refl (head role.Top Mvar refl (read refl (read refl run)))

top_taken : (ps : List (g.Port (List ℕ))) (b : RawBody) (bs : List RawBody) → Run (Top ∷ []) (each (g.port as_written) ps ++ (g.body as_written b ++ each (g.body as_written) bs)) (Bodies ∷ [])
unfolding keyword
top_taken [] b bs = read refl (head role.Top Task refl (read refl (regroup (append_assoc (each (g.instr as_written) b.instrs) (shuts CloseTask ∷ []) _) (instrs_taken b.instrs (bodies_taken bs)))))
top_taken (p ∷ ps) b bs = port_taken p.kind p.number (top_taken ps b bs)

pub script_taken : (x : Raw) → Run (Top ∷ []) (raw_parts x) (Bodies ∷ [])
script_taken x = top_taken x.ports x.first x.others
