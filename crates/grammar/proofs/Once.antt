-- A script is determined by its parts, where the spelling tells numbers and literals apart.
use Rattle.std.proofs.Common.{◌≡◌, ℕ, List, [], ◌∷◌, ◌++◌, sym, refl, ap, ◌∙◌, subst, ap₂, append_assoc}
use Rattle.message.specs.declared.kind.Sign.{Sign}
use Rattle.grammar.specs.declared.words.PortKind.{PortKind}
use Rattle.grammar.specs.declared.words.PortKind.TheVariants as kind
use Rattle.grammar.specs.declared.words.Keyword.{Keyword}
use Rattle.grammar.specs.declared.words.Keyword.TheVariants.{Channel, Mailbox, Ivar, Mvar, Task, Sync, Spawn, Emit, Again, Never, Always, Send, Recv, Timeout, Nack, Choose, Wrap, Guard, WithNack, Set, Add}
use Rattle.grammar.specs.declared.words.Use.{Use}
use Rattle.grammar.specs.declared.words.Use.TheVariants.{Head, Test, Number, Literal}
use Rattle.grammar.specs.declared.words.BracketUse.{BracketUse}
use Rattle.grammar.specs.declared.words.BracketUse.TheVariants.{Open, OpenSecond, Close, CloseTask, CloseSync, CloseGuard, CloseNack}
use Rattle.grammar.specs.declared.words.NumberUse.TheVariants.{NewPort, NewBody, SendPort, RecvPort, SpawnBody, NackBody, Delay, Addend}
use Rattle.grammar.specs.declared.words.LiteralUse.TheVariants.{InAlways, InSet}
use Rattle.tokens.specs.Tokens.{Lexeme, opening, closing, atom}
use Rattle.grammar.specs.Grammar.{Part, part, Spelling, Action, set, add, Event, never, nack, always, send, recv, timeout, choose, wrap, guard, with_nack, Events, none, more, Instr, sync, spawn, emit, again, Port, Body, form, number, literal, each, action, event, events, instr, port, body, spelled, test_word, port_word}
use Rattle.grammar.specs.Forms.{Injective, WrittenOnce}
use Rattle.grammar.proofs.Values.{opens, shuts}

-- the first of some parts, and the others

first_use : (p q : Part) (ps qs : List Part) → p ∷ ps ≡ q ∷ qs → p.purpose ≡ q.purpose
first_use p q ps qs e = let f : p ≡ q = cc in ap (λ x. x.purpose) f

first_lexeme : (p q : Part) (ps qs : List Part) → p ∷ ps ≡ q ∷ qs → p.lexeme ≡ q.lexeme
first_lexeme p q ps qs e = let f : p ≡ q = cc in ap (λ x. x.lexeme) f

others : (p q : Part) (ps qs : List Part) → p ∷ ps ≡ q ∷ qs → ps ≡ qs
others p q ps qs e = cc

first_atom : (u v : Use) (a b : List ℕ) (ps qs : List Part) → part u (atom a) ∷ ps ≡ part v (atom b) ∷ qs → (a ≡ b) × (ps ≡ qs)
first_atom u v a b ps qs e = let f = first_lexeme _ _ ps qs e in ((cc), others _ _ ps qs e)

-- a form: its keyword, and what follows
form_once : (o o' : BracketUse) (k k' : Keyword) (is is' : List Part) (c c' : BracketUse) (r r' : List Part) → form o k is c ++ r ≡ form o' k' is' c' ++ r' → (k ≡ k') × (is ++ (shuts c ∷ r) ≡ is' ++ (shuts c' ∷ r'))
form_once o o' k k' is is' c c' r r' e =
    let e₁ = others _ _ _ _ e in
    let h : Head k ≡ Head k' = first_use _ _ _ _ e₁ in
    ((cc), sym (append_assoc is (shuts c ∷ []) r) ∙ others _ _ _ _ e₁ ∙ append_assoc is' (shuts c' ∷ []) r')

closed : (c c' : BracketUse) (r r' : List Part) → shuts c ∷ r ≡ shuts c' ∷ r' → r ≡ r'
closed c c' r r' e = others _ _ r r' e

-- a form of a keyword and one more word
short_once : (o o' : BracketUse) (k k' : Keyword) (u u' : Use) (a a' : List ℕ) (c c' : BracketUse) (r r' : List Part) → form o k (part u (atom a) ∷ []) c ++ r ≡ form o' k' (part u' (atom a') ∷ []) c' ++ r' → (k ≡ k') × (u ≡ u') × (a ≡ a') × (r ≡ r')
short_once o o' k k' u u' a a' c c' r r' e =
    let f = form_once o o' k k' (part u (atom a) ∷ []) (part u' (atom a') ∷ []) c c' r r' e in
    let g = first_atom u u' a a' (shuts c ∷ r) (shuts c' ∷ r') f.1 in
    (f.0, first_use _ _ (shuts c ∷ r) (shuts c' ∷ r') f.1, g.0, others _ _ r r' g.1)

-- a form does not begin where one ends
not_closed : (c o : BracketUse) (r r' : List Part) → shuts c ∷ r ≡ opens o ∷ r' → ⊥
not_closed c o r r' e =
    let f : ◌≡◌ {A = Lexeme} closing opening = first_lexeme _ _ r r' e in
    cc

-- which keyword an event has, what stands after it, and how it is closed
abbrev keyword_of : {N K L : Type 0} → Event N K L → Keyword
keyword_of never = Never
keyword_of nack = Nack
keyword_of (always l) = Always
keyword_of (send p) = Send
keyword_of (recv p) = Recv
keyword_of (timeout d) = Timeout
keyword_of (choose es) = Choose
keyword_of (wrap e a) = Wrap
keyword_of (guard t e f) = Guard
keyword_of (with_nack b e) = WithNack

abbrev closing_of : {N K L : Type 0} → Event N K L → BracketUse
closing_of never = Close
closing_of nack = Close
closing_of (always l) = Close
closing_of (send p) = Close
closing_of (recv p) = Close
closing_of (timeout d) = Close
closing_of (choose es) = Close
closing_of (wrap e a) = Close
closing_of (guard t e f) = CloseGuard
closing_of (with_nack b e) = CloseNack

abbrev inside_of : {N K L : Type 0} → Spelling N K L → Event N K L → List Part
inside_of s never = []
inside_of s nack = []
inside_of s (always l) = literal InAlways (s.literal l) ∷ []
inside_of s (send p) = number SendPort (s.number p) ∷ []
inside_of s (recv p) = number RecvPort (s.number p) ∷ []
inside_of s (timeout d) = number Delay (s.number d) ∷ []
inside_of s (choose es) = events s es
inside_of s (wrap e a) = event s Open e ++ action s a
inside_of s (guard t e f) = part (Test t) (atom (test_word t)) ∷ (event s Open e ++ event s OpenSecond f)
inside_of s (with_nack b e) = number NackBody (s.number b) ∷ event s Open e

shape : {N K L : Type 0} (s : Spelling N K L) (o : BracketUse) (e : Event N K L) → event s o e ≡ form o (keyword_of e) (inside_of s e) (closing_of e)
shape s o never = refl
shape s o nack = refl
shape s o (always l) = refl
shape s o (send p) = refl
shape s o (recv p) = refl
shape s o (timeout d) = refl
shape s o (choose es) = refl
shape s o (wrap e a) = refl
shape s o (guard t e f) = refl
shape s o (with_nack b e) = refl

-- an event that has the keyword
abbrev Inv : {N K L : Type 0} → Keyword → Event N K L → Type 0
Inv Never e = e ≡ never
Inv Nack e = e ≡ nack
Inv {L = L} Always e = (l : L) × (e ≡ always l)
Inv {N} Send e = (p : N) × (e ≡ send p)
Inv {N} Recv e = (p : N) × (e ≡ recv p)
Inv {N} Timeout e = (d : N) × (e ≡ timeout d)
Inv {N} {K} {L} Choose e = (es : Events N K L) × (e ≡ choose es)
Inv {N} {K} {L} Wrap e = (f : Event N K L) × (a : Action K L) × (e ≡ wrap f a)
Inv {N} {K} {L} Guard e = (t : Sign) × (f : Event N K L) × (g : Event N K L) × (e ≡ guard t f g)
Inv {N} {K} {L} WithNack e = (b : N) × (f : Event N K L) × (e ≡ with_nack b f)
Inv Channel e = Unit {0}
Inv Mailbox e = Unit {0}
Inv Ivar e = Unit {0}
Inv Mvar e = Unit {0}
Inv Task e = Unit {0}
Inv Sync e = Unit {0}
Inv Spawn e = Unit {0}
Inv Emit e = Unit {0}
Inv Again e = Unit {0}
Inv Set e = Unit {0}
Inv Add e = Unit {0}

invert : {N K L : Type 0} (e : Event N K L) → Inv (keyword_of e) e
invert never = refl
invert nack = refl
invert (always l) = (l, refl)
invert (send p) = (p, refl)
invert (recv p) = (p, refl)
invert (timeout d) = (d, refl)
invert (choose es) = (es, refl)
invert (wrap e a) = (e, a, refl)
invert (guard t e f) = (t, e, f, refl)
invert (with_nack b e) = (b, e, refl)

module _ {N K L : Type 0} (s : Spelling N K L) where
  -- what stands after the keyword of an event, and what follows the event
  abbrev within : Event N K L → List Part → List Part
  within e r = inside_of s e ++ (shuts (closing_of e) ∷ r)

  inverted : (e e' : Event N K L) (o o' : BracketUse) (r r' : List Part) → event s o e ++ r ≡ event s o' e' ++ r' → Inv (keyword_of e) e' × (within e r ≡ within e' r')
  inverted e e' o o' r r' h =
      let f = form_once o o' (keyword_of e) (keyword_of e') (inside_of s e) (inside_of s e') (closing_of e) (closing_of e') r r' (ap (λ x. x ++ r) (sym (shape s o e)) ∙ h ∙ ap (λ x. x ++ r') (shape s o' e')) in
      (subst (λ k. Inv k e') (sym f.0) (invert e'), f.1)

  -- a list of parts that begins with an event begins with an opening bracket
  event_opens : (o : BracketUse) (e : Event N K L) (r : List Part) → event s o e ++ r ≡ opens o ∷ (part (Head (keyword_of e)) (atom (spelled (keyword_of e))) ∷ ((inside_of s e ++ (shuts (closing_of e) ∷ [])) ++ r))
  event_opens o e r = ap (λ x. x ++ r) (shape s o e)

module _ {N K L : Type 0} (s : Spelling N K L) (inj : Injective s) where
  action_once : (a a' : Action K L) (r r' : List Part) → action s a ++ r ≡ action s a' ++ r' → (a ≡ a') × (r ≡ r')
  action_once (set l) (set l') r r' h =
      let f = short_once Open Open Set Set (Literal InSet) (Literal InSet) (s.literal l) (s.literal l') Close Close r r' h in
      (ap set (inj.literal l l' f.2), f.3)
  action_once (add k) (add k') r r' h =
      let f = short_once Open Open Add Add (Number Addend) (Number Addend) (s.addend k) (s.addend k') Close Close r r' h in
      (ap add (inj.addend k k' f.2), f.3)
  action_once (set l) (add k) r r' h =
      let f = (short_once Open Open Set Add (Literal InSet) (Number Addend) (s.literal l) (s.addend k) Close Close r r' h).0 in
      cc
  action_once (add k) (set l) r r' h =
      let f = (short_once Open Open Add Set (Number Addend) (Literal InSet) (s.addend k) (s.literal l) Close Close r r' h).0 in
      cc

  mutual
    event_once : (e e' : Event N K L) (o o' : BracketUse) (r r' : List Part) → event s o e ++ r ≡ event s o' e' ++ r' → (e ≡ e') × (r ≡ r')
    event_once never e' o o' r r' h =
        let f = inverted s never e' o o' r r' h in
        let q : within s never r ≡ within s never r' = f.1 ∙ ap (λ x. within s x r') f.0 in
        (sym f.0, others _ _ r r' q)
    event_once nack e' o o' r r' h =
        let f = inverted s nack e' o o' r r' h in
        let q : within s nack r ≡ within s nack r' = f.1 ∙ ap (λ x. within s x r') f.0 in
        (sym f.0, others _ _ r r' q)
    event_once (always l) e' o o' r r' h =
        let f = inverted s (always l) e' o o' r r' h in
        let q : within s (always l) r ≡ within s (always f.0.0) r' = f.1 ∙ ap (λ x. within s x r') f.0.1 in
        let a = first_atom _ _ _ _ _ _ q in
        (ap always (inj.literal _ _ a.0) ∙ sym f.0.1, others _ _ r r' a.1)
    event_once (send p) e' o o' r r' h =
        let f = inverted s (send p) e' o o' r r' h in
        let q : within s (send p) r ≡ within s (send f.0.0) r' = f.1 ∙ ap (λ x. within s x r') f.0.1 in
        let a = first_atom _ _ _ _ _ _ q in
        (ap send (inj.number _ _ a.0) ∙ sym f.0.1, others _ _ r r' a.1)
    event_once (recv p) e' o o' r r' h =
        let f = inverted s (recv p) e' o o' r r' h in
        let q : within s (recv p) r ≡ within s (recv f.0.0) r' = f.1 ∙ ap (λ x. within s x r') f.0.1 in
        let a = first_atom _ _ _ _ _ _ q in
        (ap recv (inj.number _ _ a.0) ∙ sym f.0.1, others _ _ r r' a.1)
    event_once (timeout d) e' o o' r r' h =
        let f = inverted s (timeout d) e' o o' r r' h in
        let q : within s (timeout d) r ≡ within s (timeout f.0.0) r' = f.1 ∙ ap (λ x. within s x r') f.0.1 in
        let a = first_atom _ _ _ _ _ _ q in
        (ap timeout (inj.number _ _ a.0) ∙ sym f.0.1, others _ _ r r' a.1)
    event_once (choose es) e' o o' r r' h =
        let f = inverted s (choose es) e' o o' r r' h in
        let a = events_once es f.0.0 r r' (f.1 ∙ ap (λ x. within s x r') f.0.1) in
        (ap choose a.0 ∙ sym f.0.1, a.1)
    event_once (wrap e a) e' o o' r r' h =
        let f = inverted s (wrap e a) e' o o' r r' h in
        let q : within s (wrap e a) r ≡ within s (wrap f.0.0 f.0.1) r' = f.1 ∙ ap (λ x. within s x r') f.0.2 in
        let x = event_once e f.0.0 Open Open _ _ (sym (append_assoc (event s Open e) _ _) ∙ q ∙ append_assoc (event s Open f.0.0) _ _) in
        let y = action_once a f.0.1 _ _ x.1 in
        (ap₂ wrap x.0 y.0 ∙ sym f.0.2, others _ _ r r' y.1)
    event_once (guard t e g) e' o o' r r' h =
        let f = inverted s (guard t e g) e' o o' r r' h in
        let q : within s (guard t e g) r ≡ within s (guard f.0.0 f.0.1 f.0.2) r' = f.1 ∙ ap (λ x. within s x r') f.0.3 in
        let tests : Test t ≡ Test f.0.0 = first_use _ _ _ _ q in
        let same_test : t ≡ f.0.0 = cc in
        let x = event_once e f.0.1 Open Open _ _ (sym (append_assoc (event s Open e) _ _) ∙ others _ _ _ _ q ∙ append_assoc (event s Open f.0.1) _ _) in
        let y = event_once g f.0.2 OpenSecond OpenSecond _ _ x.1 in
        (ap (λ u. guard u e g) same_test ∙ ap₂ (guard f.0.0) x.0 y.0 ∙ sym f.0.3, others _ _ r r' y.1)
    event_once (with_nack b e) e' o o' r r' h =
        let f = inverted s (with_nack b e) e' o o' r r' h in
        let q : within s (with_nack b e) r ≡ within s (with_nack f.0.0 f.0.1) r' = f.1 ∙ ap (λ x. within s x r') f.0.2 in
        let a = first_atom _ _ _ _ _ _ q in
        let x = event_once e f.0.1 Open Open _ _ a.1 in
        (ap₂ with_nack (inj.number _ _ a.0) x.0 ∙ sym f.0.2, others _ _ r r' x.1)

    events_once : (es es' : Events N K L) (r r' : List Part) → events s es ++ (shuts Close ∷ r) ≡ events s es' ++ (shuts Close ∷ r') → (es ≡ es') × (r ≡ r')
    events_once none none r r' h = (refl, others _ _ r r' h)
    events_once none (more e es) r r' h = absurd (not_closed _ _ _ _ (h ∙ append_assoc (event s Open e) (events s es) _ ∙ event_opens s Open e _))
    events_once (more e es) none r r' h = absurd (not_closed _ _ _ _ (sym h ∙ append_assoc (event s Open e) (events s es) _ ∙ event_opens s Open e _))
    events_once (more e es) (more e' es') r r' h =
        let x = event_once e e' Open Open _ _ (sym (append_assoc (event s Open e) (events s es) _) ∙ h ∙ append_assoc (event s Open e') (events s es') _) in
        let y = events_once es es' r r' x.1 in
        (ap₂ more x.0 y.0, y.1)

-- the same of instructions
abbrev word_of : {N K L : Type 0} → Instr N K L → Keyword
word_of (sync e) = Sync
word_of (spawn b) = Spawn
word_of emit = Emit
word_of again = Again

abbrev end_of : {N K L : Type 0} → Instr N K L → BracketUse
end_of (sync e) = CloseSync
end_of (spawn b) = Close
end_of emit = Close
end_of again = Close

abbrev inner_of : {N K L : Type 0} → Spelling N K L → Instr N K L → List Part
inner_of s (sync e) = event s Open e
inner_of s (spawn b) = number SpawnBody (s.number b) ∷ []
inner_of s emit = []
inner_of s again = []

instr_shape : {N K L : Type 0} (s : Spelling N K L) (x : Instr N K L) → instr s x ≡ form Open (word_of x) (inner_of s x) (end_of x)
instr_shape s (sync e) = refl
instr_shape s (spawn b) = refl
instr_shape s emit = refl
instr_shape s again = refl

-- the second is built as the first is
abbrev Alike : {N K L : Type 0} → Instr N K L → Instr N K L → Type 0
Alike {N} {K} {L} (sync e) y = (f : Event N K L) × (y ≡ sync f)
Alike {N} (spawn b) y = (c : N) × (y ≡ spawn c)
Alike emit y = y ≡ emit
Alike again y = y ≡ again

alike : {N K L : Type 0} (x y : Instr N K L) → word_of x ≡ word_of y → Alike x y
alike (sync e) (sync f) h = (f, refl)
alike (spawn b) (spawn c) h = (c, refl)
alike emit emit h = refl
alike again again h = refl
alike (sync e) (spawn c) h = cc
alike (sync e) emit h = cc
alike (sync e) again h = cc
alike (spawn b) (sync f) h = cc
alike (spawn b) emit h = cc
alike (spawn b) again h = cc
alike emit (sync f) h = cc
alike emit (spawn c) h = cc
alike emit again h = cc
alike again (sync f) h = cc
alike again (spawn c) h = cc
alike again emit h = cc

-- a keyword of a port is none of a body
not_task : (k : PortKind) → port_word k ≡ Task → ⊥
not_task kind.Channel e = cc
not_task kind.Mailbox e = cc
not_task kind.Ivar e = cc
not_task kind.Mvar e = cc

module _ {N K L : Type 0} (s : Spelling N K L) (inj : Injective s) where
  abbrev instr_within : Instr N K L → List Part → List Part
  instr_within x r = inner_of s x ++ (shuts (end_of x) ∷ r)

  instr_inverted : (x y : Instr N K L) (r r' : List Part) → instr s x ++ r ≡ instr s y ++ r' → Alike x y × (instr_within x r ≡ instr_within y r')
  instr_inverted x y r r' h =
      let f = form_once Open Open (word_of x) (word_of y) (inner_of s x) (inner_of s y) (end_of x) (end_of y) r r' (ap (λ z. z ++ r) (sym (instr_shape s x)) ∙ h ∙ ap (λ z. z ++ r') (instr_shape s y)) in
      (alike x y f.0, f.1)

  instr_once : (x y : Instr N K L) (r r' : List Part) → instr s x ++ r ≡ instr s y ++ r' → (x ≡ y) × (r ≡ r')
  instr_once (sync e) y r r' h =
      let f = instr_inverted (sync e) y r r' h in
      let a = event_once s inj e f.0.0 Open Open _ _ (f.1 ∙ ap (λ z. instr_within z r') f.0.1) in
      (ap sync a.0 ∙ sym f.0.1, others _ _ r r' a.1)
  instr_once (spawn b) y r r' h =
      let f = instr_inverted (spawn b) y r r' h in
      let q : instr_within (spawn b) r ≡ instr_within (spawn f.0.0) r' = f.1 ∙ ap (λ z. instr_within z r') f.0.1 in
      let a = first_atom _ _ _ _ _ _ q in
      (ap spawn (inj.number _ _ a.0) ∙ sym f.0.1, others _ _ r r' a.1)
  instr_once emit y r r' h =
      let f = instr_inverted emit y r r' h in
      let q : instr_within emit r ≡ instr_within emit r' = f.1 ∙ ap (λ z. instr_within z r') f.0 in
      (sym f.0, others _ _ r r' q)
  instr_once again y r r' h =
      let f = instr_inverted again y r r' h in
      let q : instr_within again r ≡ instr_within again r' = f.1 ∙ ap (λ z. instr_within z r') f.0 in
      (sym f.0, others _ _ r r' q)

  instrs_once : (xs ys : List (Instr N K L)) (r r' : List Part) → each (instr s) xs ++ (shuts CloseTask ∷ r) ≡ each (instr s) ys ++ (shuts CloseTask ∷ r') → (xs ≡ ys) × (r ≡ r')
  instrs_once [] [] r r' h = (refl, others _ _ r r' h)
  instrs_once [] (y ∷ ys) r r' h = absurd (not_closed _ _ _ _ (h ∙ append_assoc (instr s y) (each (instr s) ys) _ ∙ ap (λ z. z ++ (each (instr s) ys ++ (shuts CloseTask ∷ r'))) (instr_shape s y)))
  instrs_once (x ∷ xs) [] r r' h = absurd (not_closed _ _ _ _ (sym h ∙ append_assoc (instr s x) (each (instr s) xs) _ ∙ ap (λ z. z ++ (each (instr s) xs ++ (shuts CloseTask ∷ r))) (instr_shape s x)))
  instrs_once (x ∷ xs) (y ∷ ys) r r' h =
      let a = instr_once x y _ _ (sym (append_assoc (instr s x) (each (instr s) xs) _) ∙ h ∙ append_assoc (instr s y) (each (instr s) ys) _) in
      let b = instrs_once xs ys r r' a.1 in
      (ap₂ ◌∷◌ a.0 b.0, b.1)

  body_once : (x y : Body N K L) (r r' : List Part) → body s x ++ r ≡ body s y ++ r' → (x ≡ y) × (r ≡ r')
  body_once x y r r' h =
      let f = form_once Open Open Task Task (number NewBody (s.number x.number) ∷ each (instr s) x.instrs) (number NewBody (s.number y.number) ∷ each (instr s) y.instrs) CloseTask CloseTask r r' h in
      let a = first_atom _ _ _ _ _ _ f.1 in
      let n = inj.number _ _ a.0 in
      let b = instrs_once x.instrs y.instrs r r' a.1 in
      (λ i. record { number = n i; instrs = b.0 i }, b.1)

  bodies_once : (xs ys : List (Body N K L)) → each (body s) xs ≡ each (body s) ys → xs ≡ ys
  bodies_once [] [] h = refl
  bodies_once [] (y ∷ ys) h = cc
  bodies_once (x ∷ xs) [] h = cc
  bodies_once (x ∷ xs) (y ∷ ys) h =
      let a = body_once x y _ _ h in
      ap₂ ◌∷◌ a.0 (bodies_once xs ys a.1)

  port_once : (x y : Port N) (r r' : List Part) → port s x ++ r ≡ port s y ++ r' → (x ≡ y) × (r ≡ r')
  port_once x y r r' h =
      let f = short_once Open Open (port_word x.kind) (port_word y.kind) (Number (NewPort x.kind)) (Number (NewPort y.kind)) (s.number x.number) (s.number y.number) Close Close r r' h in
      let k : x.kind ≡ y.kind = cc f.1 in
      let n = inj.number _ _ f.2 in
      (λ i. record { kind = k i; number = n i }, f.3)

  not_port : (p : Port N) (b : Body N K L) (r r' : List Part) → port s p ++ r ≡ body s b ++ r' → ⊥
  not_port p b r r' h = not_task p.kind (form_once Open Open (port_word p.kind) Task (number (NewPort p.kind) (s.number p.number) ∷ []) (number NewBody (s.number b.number) ∷ each (instr s) b.instrs) Close CloseTask r r' h).0

  -- ports, a body, and bodies
  parts_once : (ps qs : List (Port N)) (b c : Body N K L) (bs cs : List (Body N K L)) → each (port s) ps ++ (body s b ++ each (body s) bs) ≡ each (port s) qs ++ (body s c ++ each (body s) cs) → (ps ≡ qs) × (b ≡ c) × (bs ≡ cs)
  parts_once [] [] b c bs cs h =
      let a = body_once b c _ _ h in
      (refl, a.0, bodies_once bs cs a.1)
  parts_once [] (q ∷ qs) b c bs cs h = absurd (not_port q b _ _ (sym (append_assoc (port s q) (each (port s) qs) _) ∙ sym h))
  parts_once (p ∷ ps) [] b c bs cs h = absurd (not_port p c _ _ (sym (append_assoc (port s p) (each (port s) ps) _) ∙ h))
  parts_once (p ∷ ps) (q ∷ qs) b c bs cs h =
      let a = port_once p q _ _ (sym (append_assoc (port s p) (each (port s) ps) _) ∙ h ∙ append_assoc (port s q) (each (port s) qs) _) in
      let d = parts_once ps qs b c bs cs a.1 in
      (ap₂ ◌∷◌ a.0 d.0, d.1, d.2)

  pub written_once : WrittenOnce s
  written_once x y h =
      let a = parts_once x.ports y.ports x.first y.first x.others y.others h in
      λ i. record { ports = a.0 i; first = a.1 i; others = a.2 i }
