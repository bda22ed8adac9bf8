-- A script of values as it is written: each number and literal is replaced by its bytes.
use Rattle.std.proofs.Common.{◌≡◌, ℕ, List, [], ◌∷◌, ◌++◌, map, sym, refl, ap, ◌∙◌, subst, ap₂}
use Rattle.std.specs.List.{AllByRecursion}
use Rattle.std.proofs.ByRecursion.{All-append}
use Rattle.std.proofs.lemmas.List.{length-map}
use Rattle.grammar.specs.declared.words.Keyword.{Keyword}
use Rattle.grammar.specs.declared.words.Keyword.TheVariants.{Task, Sync, Choose, Wrap, Guard, WithNack}
use Rattle.grammar.specs.declared.words.Use.TheVariants.{Test}
use Rattle.grammar.specs.declared.words.BracketUse.{BracketUse}
use Rattle.grammar.specs.declared.words.BracketUse.TheVariants.{Open, OpenSecond, Close, CloseTask, CloseSync, CloseGuard, CloseNack}
use Rattle.grammar.specs.declared.words.NumberUse.TheVariants.{NewBody, NackBody}
use Rattle.tokens.specs.Tokens.{atom, Run, Integer}
use Rattle.grammar.specs.Grammar.{Part, part, Spelling, Action, set, add, Event, never, nack, always, send, recv, timeout, choose, wrap, guard, with_nack, Events, none, more, Instr, sync, spawn, emit, again, Port, Body, Script, form, number, each, action, event, events, instr, port, body, script, test_word, Raw, as_written, raw_parts, WellSpelled, part_lexemes, IsScript}
use Rattle.grammar.specs.Forms.{Uses}
use Rattle.grammar.proofs.Parts.{Fit, put_together}

-- numbers are spelled as integers, and literals as runs
pub record Proper {N K L : Type 0} (s : Spelling N K L) : Type 0 where
  pub number : (n : N) → Integer (s.number n)
  pub addend : (k : K) → Integer (s.addend k)
  pub literal : (l : L) → Run (s.literal l)

module _ {N K L : Type 0} (s : Spelling N K L) where
  abbrev pub raw_action : Action K L → Action (List ℕ) (List ℕ)
  raw_action (set l) = set (s.literal l)
  raw_action (add k) = add (s.addend k)

  abbrev mutual
    pub raw_event : Event N K L → Event (List ℕ) (List ℕ) (List ℕ)
    raw_event never = never
    raw_event nack = nack
    raw_event (always l) = always (s.literal l)
    raw_event (send p) = send (s.number p)
    raw_event (recv p) = recv (s.number p)
    raw_event (timeout d) = timeout (s.number d)
    raw_event (choose es) = choose (raw_events es)
    raw_event (wrap e a) = wrap (raw_event e) (raw_action a)
    raw_event (guard t e f) = guard t (raw_event e) (raw_event f)
    raw_event (with_nack b e) = with_nack (s.number b) (raw_event e)

    pub raw_events : Events N K L → Events (List ℕ) (List ℕ) (List ℕ)
    raw_events none = none
    raw_events (more e es) = more (raw_event e) (raw_events es)

  abbrev pub raw_instr : Instr N K L → Instr (List ℕ) (List ℕ) (List ℕ)
  raw_instr (sync e) = sync (raw_event e)
  raw_instr (spawn b) = spawn (s.number b)
  raw_instr emit = emit
  raw_instr again = again

  abbrev pub raw_port : Port N → Port (List ℕ)
  raw_port p = record { kind = p.kind; number = s.number p.number }

  abbrev pub raw_body : Body N K L → Body (List ℕ) (List ℕ) (List ℕ)
  raw_body b = record { number = s.number b.number; instrs = map raw_instr b.instrs }

  abbrev pub raw_script : Script N K L → Raw
  raw_script x = record { ports = map raw_port x.ports; first = raw_body x.first; others = map raw_body x.others }

each_image : {A B : Type 0} (f : A → B) (p : A → List Part) (q : B → List Part) → ((x : A) → q (f x) ≡ p x) → (xs : List A) → each q (map f xs) ≡ each p xs
each_image f p q e [] = refl
each_image f p q e (x ∷ xs) = ap₂ ◌++◌ (e x) (each_image f p q e xs)

-- it has the same parts
module _ {N K L : Type 0} (s : Spelling N K L) where
  action_image : (a : Action K L) → action as_written (raw_action s a) ≡ action s a
  action_image (set l) = refl
  action_image (add k) = refl

  mutual
    event_image : (e : Event N K L) (o : BracketUse) → event as_written o (raw_event s e) ≡ event s o e
    event_image never o = refl
    event_image nack o = refl
    event_image (always l) o = refl
    event_image (send p) o = refl
    event_image (recv p) o = refl
    event_image (timeout d) o = refl
    event_image (choose es) o = ap (λ x. form o Choose x Close) (events_image es)
    event_image (wrap e a) o = ap₂ (λ x y. form o Wrap (x ++ y) Close) (event_image e Open) (action_image a)
    event_image (guard t e f) o = ap₂ (λ x y. form o Guard (part (Test t) (atom (test_word t)) ∷ (x ++ y)) CloseGuard) (event_image e Open) (event_image f OpenSecond)
    event_image (with_nack b e) o = ap (λ x. form o WithNack (number NackBody (s.number b) ∷ x) CloseNack) (event_image e Open)

    events_image : (es : Events N K L) → events as_written (raw_events s es) ≡ events s es
    events_image none = refl
    events_image (more e es) = ap₂ ◌++◌ (event_image e Open) (events_image es)

  instr_image : (x : Instr N K L) → instr as_written (raw_instr s x) ≡ instr s x
  instr_image (sync e) = ap (λ x. form Open Sync x CloseSync) (event_image e Open)
  instr_image (spawn b) = refl
  instr_image emit = refl
  instr_image again = refl

  body_image : (b : Body N K L) → body as_written (raw_body s b) ≡ body s b
  body_image b = ap (λ x. form Open Task (number NewBody (s.number b.number) ∷ x) CloseTask) (each_image (raw_instr s) (instr s) (instr as_written) instr_image b.instrs)

  pub script_image : (x : Script N K L) → raw_parts (raw_script s x) ≡ script s x
  script_image x =
      ap₂ ◌++◌ (each_image (raw_port s) (port s) (port as_written) (λ p. refl) x.ports)
      (ap₂ ◌++◌ (body_image x.first) (each_image (raw_body s) (body s) (body as_written) body_image x.others))

form_fit : (o : BracketUse) (k : Keyword) (is : List Part) (c : BracketUse) → AllByRecursion Fit is → AllByRecursion Fit (form o k is c)
form_fit o k is c h = (tt, (tt, All-append Fit is _ h (tt, tt)))

each_fit : {A : Type 0} (f : A → List Part) → ((x : A) → AllByRecursion Fit (f x)) → (xs : List A) → AllByRecursion Fit (each f xs)
each_fit f h [] = tt
each_fit f h (x ∷ xs) = All-append Fit (f x) (each f xs) (h x) (each_fit f h xs)

-- and is spelled well
module _ {N K L : Type 0} (s : Spelling N K L) (h : Proper s) where
  action_fit : (a : Action K L) → AllByRecursion Fit (action s a)
  action_fit (set l) = (tt, (tt, (h.literal l, (tt, tt))))
  action_fit (add k) = (tt, (tt, (h.addend k, (tt, tt))))

  mutual
    event_fit : (e : Event N K L) (o : BracketUse) → AllByRecursion Fit (event s o e)
    event_fit never o = (tt, (tt, (tt, tt)))
    event_fit nack o = (tt, (tt, (tt, tt)))
    event_fit (always l) o = (tt, (tt, (h.literal l, (tt, tt))))
    event_fit (send p) o = (tt, (tt, (h.number p, (tt, tt))))
    event_fit (recv p) o = (tt, (tt, (h.number p, (tt, tt))))
    event_fit (timeout d) o = (tt, (tt, (h.number d, (tt, tt))))
    event_fit (choose es) o = form_fit o Choose (events s es) Close (events_fit es)
    event_fit (wrap e a) o = form_fit o Wrap (event s Open e ++ action s a) Close (All-append Fit (event s Open e) _ (event_fit e Open) (action_fit a))
    event_fit (guard t e f) o = form_fit o Guard (part (Test t) (atom (test_word t)) ∷ (event s Open e ++ event s OpenSecond f)) CloseGuard (tt, All-append Fit (event s Open e) _ (event_fit e Open) (event_fit f OpenSecond))
    event_fit (with_nack b e) o = form_fit o WithNack (number NackBody (s.number b) ∷ event s Open e) CloseNack (h.number b, event_fit e Open)

    events_fit : (es : Events N K L) → AllByRecursion Fit (events s es)
    events_fit none = tt
    events_fit (more e es) = All-append Fit (event s Open e) _ (event_fit e Open) (events_fit es)

  instr_fit : (x : Instr N K L) → AllByRecursion Fit (instr s x)
  instr_fit (sync e) = form_fit Open Sync (event s Open e) CloseSync (event_fit e Open)
  instr_fit (spawn b) = (tt, (tt, (h.number b, (tt, tt))))
  instr_fit emit = (tt, (tt, (tt, tt)))
  instr_fit again = (tt, (tt, (tt, tt)))

  port_fit : (p : Port N) → AllByRecursion Fit (port s p)
  port_fit p = (tt, (tt, (h.number p.number, (tt, tt))))

  body_fit : (b : Body N K L) → AllByRecursion Fit (body s b)
  body_fit b = form_fit Open Task (number NewBody (s.number b.number) ∷ each (instr s) b.instrs) CloseTask (h.number b.number, each_fit (instr s) instr_fit b.instrs)

  pub script_fit : (x : Script N K L) → AllByRecursion Fit (script s x)
  script_fit x = All-append Fit (each (port s) x.ports) _ (each_fit (port s) port_fit x.ports) (All-append Fit (body s x.first) _ (body_fit x.first) (each_fit (body s) body_fit x.others))

  pub image_spelled_well : (x : Script N K L) → WellSpelled (raw_script s x)
  image_spelled_well x = record { parts = subst (AllByRecursion Fit) (sym (script_image s x)) (script_fit x) }

  -- so that its tokens are a script
  pub image_is_script : (x : Script N K L) → IsScript (part_lexemes (script s x))
  image_is_script x = record { raw = raw_script s x; spelled_well = image_spelled_well x; written = ap part_lexemes (script_image s x) }

  pub image_uses : (x : Script N K L) → Uses (part_lexemes (script s x)) (map (λ p. p.purpose) (script s x))
  image_uses x = record {
    raw = raw_script s x;
    spelled_well = image_spelled_well x;
    long = length-map (script s x) (λ p. p.purpose) ∙ sym (length-map (script s x) (λ p. p.lexeme));
    written = script_image s x ∙ sym (put_together (script s x));
  }
