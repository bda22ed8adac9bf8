-- A script as written, whose numbers are in range and whose literals are messages', is the writing of a script of values.
use Rattle.std.proofs.Common.{◌≡◌, ℕ, ◌≤◌, List, [], ◌∷◌, ◌++◌, sym, refl, ap, ap₂}
use Rattle.std.specs.List.{AllByRecursion}
use Rattle.grammar.specs.declared.words.Keyword.TheVariants as word
use Rattle.grammar.specs.declared.words.BracketUse.{BracketUse}
use Rattle.grammar.specs.declared.words.BracketUse.TheVariants.{Open, OpenSecond, Close, CloseTask, CloseSync, CloseGuard, CloseNack}
use Rattle.grammar.specs.declared.words.NumberUse.TheVariants.{NewPort, NewBody, SendPort, RecvPort, SpawnBody, NackBody, Delay, Addend}
use Rattle.grammar.specs.declared.words.LiteralUse.TheVariants.{InAlways, InSet}
use Rattle.grammar.specs.declared.words.Use.TheVariants.{Test}
use Rattle.tokens.specs.Tokens.{atom}
use Rattle.grammar.specs.Grammar as g
use Rattle.grammar.specs.Grammar.{Part, part, form, each, number, literal as written, as_written, test_word, port_word}
use Rattle.grammar.specs.Parts.{bytes}
use Rattle.passes.specs.Ranges.{Ranged, last_port}
use Rattle.passes.specs.Messages.{MessageFor}
use Rattle.rows.specs.Scripts as s
use Rattle.rows.specs.Scripts.{spelling, ActionWithin, EventWithin, EventsWithin, InstrWithin, BodyWithin, Within}

abbrev Bytes : Type 0
Bytes = List ℕ

all_parts : {X : Type 0} (P : X → Type 0) (xs ys : List X) → AllByRecursion P (xs ++ ys) → AllByRecursion P xs × AllByRecursion P ys
all_parts P [] ys h = (tt, h)
all_parts P (x ∷ xs) ys (h, k) = let r = all_parts P xs ys k in ((h, r.0), r.1)

module _ {M : Type 0} (literal : M → List ℕ) where
  abbrev pub Known : Part → Type 0
  Known p = Ranged p.purpose (bytes p) × MessageFor literal p.purpose (bytes p)

  -- what stands in a form
  inside : (o : BracketUse) (k : word.the_data) (ps : List Part) (c : BracketUse) → AllByRecursion Known (form o k ps c) → AllByRecursion Known ps
  inside o k ps c h = (all_parts Known ps _ h.1.1).0

  action_of : (a : g.Action Bytes Bytes) → AllByRecursion Known (g.action {N = Bytes} as_written a) → (x : s.Action M) × ActionWithin x × (g.action {N = ℕ} (spelling literal) x ≡ g.action {N = Bytes} as_written a)
  action_of (g.set bs) h = let m = h.1.1.0.1 in (g.set m.0, tt, ap (λ b. form Open word.Set (written InSet b ∷ []) Close) (sym m.1))
  action_of (g.add bs) h = let n = h.1.1.0.0 in (g.add n.0, n.1, ap (λ b. form Open word.Add (number Addend b ∷ []) Close) (sym n.2))

  mutual
    event_of : (o : BracketUse) (e : g.Event Bytes Bytes Bytes) → AllByRecursion Known (g.event as_written o e) → (x : s.Event M) × EventWithin x × (g.event (spelling literal) o x ≡ g.event as_written o e)
    event_of o g.never h = (g.never, tt, refl)
    event_of o g.nack h = (g.nack, tt, refl)
    event_of o (g.always bs) h = let m = h.1.1.0.1 in (g.always m.0, tt, ap (λ b. form o word.Always (written InAlways b ∷ []) Close) (sym m.1))
    event_of o (g.send bs) h = let n = h.1.1.0.0 in (g.send n.0, n.1, ap (λ b. form o word.Send (number SendPort b ∷ []) Close) (sym n.2))
    event_of o (g.recv bs) h = let n = h.1.1.0.0 in (g.recv n.0, n.1, ap (λ b. form o word.Recv (number RecvPort b ∷ []) Close) (sym n.2))
    event_of o (g.timeout bs) h = let n = h.1.1.0.0 in (g.timeout n.0, n.1, ap (λ b. form o word.Timeout (number Delay b ∷ []) Close) (sym n.2))
    event_of o (g.choose es) h =
        let x = events_of es (inside o word.Choose (g.events as_written es) Close h) in
        (g.choose x.0, x.1, ap (λ ps. form o word.Choose ps Close) x.2)
    event_of o (g.wrap e a) h =
        let k = all_parts Known (g.event as_written Open e) (g.action {N = Bytes} as_written a) (inside o word.Wrap _ Close h) in
        let x = event_of Open e k.0 in
        let y = action_of a k.1 in
        (g.wrap x.0 y.0, (x.1, y.1), ap₂ (λ ps qs. form o word.Wrap (ps ++ qs) Close) x.2 y.2)
    event_of o (g.guard t e f) h =
        let k = all_parts Known (g.event as_written Open e) (g.event as_written OpenSecond f) (inside o word.Guard (part (Test t) (atom (test_word t)) ∷ (g.event as_written Open e ++ g.event as_written OpenSecond f)) CloseGuard h).1 in
        let x = event_of Open e k.0 in
        let y = event_of OpenSecond f k.1 in
        (g.guard t x.0 y.0, (x.1, y.1), ap₂ (λ ps qs. form o word.Guard (part (Test t) (atom (test_word t)) ∷ (ps ++ qs)) CloseGuard) x.2 y.2)
    event_of o (g.with_nack bs e) h =
        let k = inside o word.WithNack (number NackBody bs ∷ g.event as_written Open e) CloseNack h in
        let n = k.0.0 in
        let x = event_of Open e k.1 in
        (g.with_nack n.0 x.0, (n.1, x.1), ap₂ (λ b ps. form o word.WithNack (number NackBody b ∷ ps) CloseNack) (sym n.2) x.2)

    events_of : (es : g.Events Bytes Bytes Bytes) → AllByRecursion Known (g.events as_written es) → (x : s.Events M) × EventsWithin x × (g.events (spelling literal) x ≡ g.events as_written es)
    events_of g.none h = (g.none, tt, refl)
    events_of (g.more e es) h =
        let k = all_parts Known (g.event as_written Open e) (g.events as_written es) h in
        let x = event_of Open e k.0 in
        let y = events_of es k.1 in
        (g.more x.0 y.0, (x.1, y.1), ap₂ (λ ps qs. ps ++ qs) x.2 y.2)

  instr_of : (i : g.Instr Bytes Bytes Bytes) → AllByRecursion Known (g.instr as_written i) → (x : s.Instr M) × InstrWithin x × (g.instr (spelling literal) x ≡ g.instr as_written i)
  instr_of (g.sync e) h =
      let x = event_of Open e (inside Open word.Sync (g.event as_written Open e) CloseSync h) in
      (g.sync x.0, x.1, ap (λ ps. form Open word.Sync ps CloseSync) x.2)
  instr_of (g.spawn bs) h = let n = h.1.1.0.0 in (g.spawn n.0, n.1, ap (λ b. form Open word.Spawn (number SpawnBody b ∷ []) Close) (sym n.2))
  instr_of g.emit h = (g.emit, tt, refl)
  instr_of g.again h = (g.again, tt, refl)

  instrs_of : (is : List (g.Instr Bytes Bytes Bytes)) → AllByRecursion Known (each (g.instr as_written) is) → (xs : List (s.Instr M)) × AllByRecursion InstrWithin xs × (each (g.instr (spelling literal)) xs ≡ each (g.instr as_written) is)
  instrs_of [] h = ([], tt, refl)
  instrs_of (i ∷ is) h =
      let k = all_parts Known (g.instr as_written i) (each (g.instr as_written) is) h in
      let x = instr_of i k.0 in
      let y = instrs_of is k.1 in
      (x.0 ∷ y.0, (x.1, y.1), ap₂ (λ ps qs. ps ++ qs) x.2 y.2)

  body_of : (b : g.Body Bytes Bytes Bytes) → AllByRecursion Known (g.body as_written b) → (x : s.Body M) × BodyWithin x × (g.body (spelling literal) x ≡ g.body as_written b)
  body_of b h =
      let k = inside Open word.Task (number NewBody b.number ∷ each (g.instr as_written) b.instrs) CloseTask h in
      let n = k.0.0 in
      let x = instrs_of b.instrs k.1 in
      (record { number = n.0; instrs = x.0 }, (n.1, x.1), ap₂ (λ bs ps. form Open word.Task (number NewBody bs ∷ ps) CloseTask) (sym n.2) x.2)

  bodies_of : (bs : List (g.Body Bytes Bytes Bytes)) → AllByRecursion Known (each (g.body as_written) bs) → (xs : List (s.Body M)) × AllByRecursion BodyWithin xs × (each (g.body (spelling literal)) xs ≡ each (g.body as_written) bs)
  bodies_of [] h = ([], tt, refl)
  bodies_of (b ∷ bs) h =
      let k = all_parts Known (g.body as_written b) (each (g.body as_written) bs) h in
      let x = body_of b k.0 in
      let y = bodies_of bs k.1 in
      (x.0 ∷ y.0, (x.1, y.1), ap₂ (λ ps qs. ps ++ qs) x.2 y.2)

  ports_of : (ps : List (g.Port Bytes)) → AllByRecursion Known (each (g.port as_written) ps) → (xs : List (g.Port ℕ)) × AllByRecursion (λ p. p.number ≤ last_port) xs × (each (g.port (spelling literal)) xs ≡ each (g.port as_written) ps)
  ports_of [] h = ([], tt, refl)
  ports_of (p ∷ ps) h =
      let k = all_parts Known (g.port as_written p) (each (g.port as_written) ps) h in
      let n = k.0.1.1.0.0 in
      let y = ports_of ps k.1 in (
        record { kind = p.kind; number = n.0 } ∷ y.0,
        (n.1, y.1),
        ap₂ (λ b qs. form Open (port_word p.kind) (number (NewPort p.kind) b ∷ []) Close ++ qs) (sym n.2) y.2,
      )

  pub script_of : (raw : g.Raw) → AllByRecursion Known (g.raw_parts raw) → (x : s.Script M) × Within x × (g.script (spelling literal) x ≡ g.raw_parts raw)
  script_of raw h =
      let k = all_parts Known (each (g.port as_written) raw.ports) _ h in
      let j = all_parts Known (g.body as_written raw.first) (each (g.body as_written) raw.others) k.1 in
      let ps = ports_of raw.ports k.0 in
      let b = body_of raw.first j.0 in
      let bs = bodies_of raw.others j.1 in (
        record { ports = ps.0; first = b.0; others = bs.0 },
        record { ports = ps.1; first = b.1; others = bs.1 },
        ap₂ (λ xs ys. xs ++ ys) ps.2 (ap₂ (λ xs ys. xs ++ ys) b.2 bs.2),
      )
