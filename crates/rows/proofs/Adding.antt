-- What the parts of a script add to a table, one after another.
use Rattle.std.proofs.Common.{◌≡◌, ℕ, ◌≤◌, List, [], ◌∷◌, ◌++◌, length, Option, Some, decimal, sym, refl, ap, subst, ap₂, append_assoc, append-nil}
use Rattle.std.specs.Fmt.{signed_decimal}
use Rattle.std.specs.List.{AllByRecursion}
use Rattle.grammar.specs.declared.words.PortKind.{PortKind}
use Rattle.grammar.specs.declared.words.PortKind.TheVariants.{Channel, Mailbox, Ivar, Mvar}
use Rattle.grammar.specs.declared.words.Keyword.{Keyword}
use Rattle.grammar.specs.declared.words.Keyword.TheVariants as word
use Rattle.grammar.specs.declared.words.BracketUse.{BracketUse}
use Rattle.grammar.specs.declared.words.BracketUse.TheVariants.{Open, OpenSecond, Close, CloseTask, CloseSync, CloseGuard, CloseNack}
use Rattle.grammar.specs.declared.words.NumberUse.TheVariants.{NewPort, NewBody, SendPort, RecvPort, SpawnBody, NackBody, Delay, Addend}
use Rattle.grammar.specs.declared.words.LiteralUse.TheVariants.{InAlways, InSet}
use Rattle.grammar.specs.Grammar as g
use Rattle.grammar.specs.Grammar.{Part, form, each, number}
use Rattle.grammar.specs.Parts.{bytes}
use Rattle.passes.specs.Ranges.{last_port}
use Rattle.rows.specs.declared.row.Instr.{Instr}
use Rattle.rows.specs.declared.row.Instr.TheVariants as instr
use Rattle.rows.specs.declared.row.Node.{Node}
use Rattle.rows.specs.declared.row.Node.TheVariants as node
use Rattle.rows.specs.declared.entry.Entry.{Entry}
use Rattle.rows.specs.declared.entry.Entry.TheVariants as entry
use Rattle.rows.specs.Scripts as s
use Rattle.rows.specs.Scripts.{spelling, ActionWithin, EventWithin, EventsWithin, InstrWithin, BodyWithin, Within}
use Rattle.rows.specs.Rows.{row, rows, action_node, bodies}
use Rattle.rows.specs.Entries.{bracket_entry, head_entry, EntryOf}
use Rattle.rows.specs.Tables.{Table, with_entry, with_some, with_instr}

abbrev pub Steps : {M : Type 0} → (M → List ℕ) → List Part → Table M → Table M → Type 0
Steps literal [] t u = t ≡ u
Steps {M} literal (p ∷ ps) t u = (o : Option (Entry M)) × EntryOf literal p.purpose (bytes p) o × Steps literal ps (with_some t o) u

-- the parts make the table u of t
pub record Adds {M : Type 0} (literal : M → List ℕ) (ps : List Part) (t u : Table M) : Type 0 where
  pub steps : Steps literal ps t u

-- The tables after the parts of a script.

abbrev pub with_nodes : {M : Type 0} → Table M → List (Node M) → Table M
with_nodes t ns = record { ports = t.ports; starts = t.starts; instrs = t.instrs; nodes = t.nodes ++ ns }

abbrev pub instr_nodes : {M : Type 0} → s.Instr M → List (Node M)
instr_nodes (g.sync e) = row e ++ (node.EndSync ∷ [])
instr_nodes (g.spawn b) = []
instr_nodes g.emit = []
instr_nodes g.again = []

abbrev pub instrs_nodes : {M : Type 0} → List (s.Instr M) → List (Node M)
instrs_nodes [] = []
instrs_nodes (x ∷ xs) = instr_nodes x ++ instrs_nodes xs

-- the row of an instruction with so many nodes before its own
abbrev pub instr_at : {M : Type 0} → ℕ → s.Instr M → Instr
instr_at from (g.sync e) = instr.Sync from
instr_at from (g.spawn b) = instr.Spawn b
instr_at from g.emit = instr.Emit
instr_at from g.again = instr.Again

abbrev pub instrs_after : {M : Type 0} → List (Node M) → List (s.Instr M) → List Instr
instrs_after before [] = []
instrs_after before (x ∷ xs) = instr_at (length before) x ∷ instrs_after (before ++ instr_nodes x) xs

abbrev pub after_instrs : {M : Type 0} → Table M → List (s.Instr M) → Table M
after_instrs t xs = record { ports = t.ports; starts = t.starts; instrs = t.instrs ++ instrs_after t.nodes xs; nodes = t.nodes ++ instrs_nodes xs }

abbrev pub after_body : {M : Type 0} → Table M → s.Body M → Table M
after_body t b = with_instr (after_instrs (with_entry t (entry.Body b.number)) b.instrs) instr.End

abbrev pub after_bodies : {M : Type 0} → Table M → List (s.Body M) → Table M
after_bodies t [] = t
after_bodies t (b ∷ bs) = after_bodies (after_body t b) bs

abbrev pub after_ports : {M : Type 0} → Table M → List (g.Port ℕ) → Table M
after_ports t [] = t
after_ports t (p ∷ ps) = after_ports (with_entry t (entry.Port p.kind p.number)) ps

abbrev pub after_script : {M : Type 0} → Table M → s.Script M → Table M
after_script t x = after_bodies (after_ports t x.ports) (bodies x)

-- tables that differ in their rows
abbrev in_rows : {M : Type 0} → Table M → List Instr → List (Node M) → Table M
in_rows t is ns = record { ports = t.ports; starts = t.starts; instrs = is; nodes = ns }

as_nodes : {M : Type 0} (t : Table M) {ms ns : List (Node M)} → ms ≡ ns → in_rows t t.instrs ms ≡ in_rows t t.instrs ns
as_nodes t e = ap (in_rows t t.instrs) e

as_rows : {M : Type 0} (t : Table M) {is js : List Instr} {ms ns : List (Node M)} → is ≡ js → ms ≡ ns → in_rows t is ms ≡ in_rows t js ns
as_rows t e f = ap₂ (in_rows t) e f

-- nodes around one event, and around two
around : {X : Type 0} (ns : List X) (a : X) (xs : List X) (b : X) → ((ns ++ (a ∷ [])) ++ xs) ++ (b ∷ []) ≡ ns ++ (a ∷ (xs ++ (b ∷ [])))
around ns a xs b = simp append_assoc

around_both : {X : Type 0} (ns : List X) (a : X) (xs : List X) (b : X) (ys : List X) (c : X) → ((((ns ++ (a ∷ [])) ++ xs) ++ (b ∷ [])) ++ ys) ++ (c ∷ []) ≡ ns ++ (a ∷ (xs ++ (b ∷ (ys ++ (c ∷ [])))))
around_both ns a xs b ys c = simp append_assoc

module _ {M : Type 0} (literal : M → List ℕ) where
  steps_append : (ps qs : List Part) (t u v : Table M) → Steps literal ps t u → Steps literal qs u v → Steps literal (ps ++ qs) t v
  steps_append [] qs t u v e k = let P : Table M → Type 0 = λ w. Steps literal qs w v in subst P (sym e) k
  steps_append (p ∷ ps) qs t u v (o, of, rest) k = (o, of, steps_append ps qs (with_some t o) u v rest k)

  pub adds_append : {ps qs : List Part} {t u v : Table M} → Adds literal ps t u → Adds literal qs u v → Adds literal (ps ++ qs) t v
  adds_append {ps} {qs} {t} {u} {v} h k = record { steps = steps_append ps qs t u v h.steps k.steps }

  to : {ps : List Part} {t u v : Table M} → Adds literal ps t u → u ≡ v → Adds literal ps t v
  to {ps} {t} h e = let P : Table M → Type 0 = λ w. Adds literal ps t w in subst P e h

  pub none : {t : Table M} → Adds literal [] t t
  none = record { steps = refl }

  pub part_adds : (p : Part) {ps : List Part} {t u : Table M} (o : Option (Entry M)) → EntryOf literal p.purpose (bytes p) o → Adds literal ps (with_some t o) u → Adds literal (p ∷ ps) t u
  part_adds p o of h = record { steps = (o, of, h.steps) }

  in_form : (o : BracketUse) (k : Keyword) {inside : List Part} (c : BracketUse) {t u : Table M} → Adds literal inside (with_some (with_some t (bracket_entry o)) (head_entry k)) u → Adds literal (form o k inside c) t (with_some u (bracket_entry c))
  in_form o k c h = part_adds _ (bracket_entry o) refl (part_adds _ (head_entry k) refl (adds_append h (part_adds _ (bracket_entry c) refl none)))

  -- a form with one part in it
  in_one : (o : BracketUse) (k : Keyword) (p : Part) (c : BracketUse) {t : Table M} (e : Entry M) → EntryOf literal p.purpose (bytes p) (Some e) → Adds literal (form o k (p ∷ []) c) t (with_some (with_entry (with_some (with_some t (bracket_entry o)) (head_entry k)) e) (bracket_entry c))
  in_one o k p c e of = in_form o k c (part_adds p (Some e) of none)

  action_adds : (a : s.Action M) → ActionWithin a → (t : Table M) → Adds literal (g.action {N = ℕ} (spelling literal) a) t (with_nodes t (action_node a ∷ []))
  action_adds (g.set l) w t = in_one Open word.Set (g.literal InSet (literal l)) Close (entry.Node (node.Set l)) (_, (l, refl, refl), refl)
  action_adds (g.add k) w t = in_one Open word.Add (number Addend (signed_decimal k)) Close (entry.Node (node.Add k)) (_, (k, w, refl, refl), refl)

  mutual
    event_adds : (o : BracketUse) (e : s.Event M) → EventWithin e → (t : Table M) → Adds literal (g.event (spelling literal) o e) t (with_nodes (with_some t (bracket_entry o)) (row e))
    event_adds o g.never w t = to (in_form o word.Never Close none) (as_nodes (with_some t (bracket_entry o)) (sym (append-nil (with_some t (bracket_entry o)).nodes)))
    event_adds o g.nack w t = in_form o word.Nack Close none
    event_adds o (g.always l) w t = in_one o word.Always (g.literal InAlways (literal l)) Close (entry.Node (node.Always l)) (_, (l, refl, refl), refl)
    event_adds o (g.send p) w t = in_one o word.Send (number SendPort (decimal p)) Close (entry.Node (node.Send p)) (_, (p, w, refl, refl), refl)
    event_adds o (g.recv p) w t = in_one o word.Recv (number RecvPort (decimal p)) Close (entry.Node (node.Recv p)) (_, (p, w, refl, refl), refl)
    event_adds o (g.timeout d) w t = in_one o word.Timeout (number Delay (decimal d)) Close (entry.Node (node.Timeout d)) (_, (d, w, refl, refl), refl)
    event_adds o (g.choose es) w t = in_form o word.Choose Close (events_adds es w (with_some t (bracket_entry o)))
    event_adds o (g.wrap e a) w t =
        let t₀ : Table M = with_some t (bracket_entry o) in
        let t₁ : Table M = with_nodes t₀ (node.Wrap ∷ []) in
        to (in_form o word.Wrap Close (adds_append (event_adds Open e w.0 t₁) (action_adds a w.1 (with_nodes t₁ (row e)))))
        (as_nodes t₀ (around t₀.nodes node.Wrap (row e) (action_node a)))
    event_adds o (g.guard test e f) w t =
        let t₀ : Table M = with_some t (bracket_entry o) in
        let t₁ : Table M = with_nodes t₀ (node.Guard test ∷ []) in
        to (in_form o word.Guard CloseGuard (part_adds _ (Some (entry.Node (node.Guard test))) refl (adds_append (event_adds Open e w.0 t₁) (event_adds OpenSecond f w.1 (with_nodes t₁ (row e))))))
        (as_nodes t₀ (around_both t₀.nodes (node.Guard test) (row e) node.Else (row f) node.EndGuard))
    event_adds o (g.with_nack b e) w t =
        let t₀ : Table M = with_some t (bracket_entry o) in
        let t₁ : Table M = with_nodes t₀ (node.WithNack b ∷ []) in
        to (in_form o word.WithNack CloseNack (part_adds (number NackBody (decimal b)) (Some (entry.Node (node.WithNack b))) (_, (b, w.0, refl, refl), refl) (event_adds Open e w.1 t₁)))
        (as_nodes t₀ (around t₀.nodes (node.WithNack b) (row e) node.EndNack))

    events_adds : (es : s.Events M) → EventsWithin es → (t : Table M) → Adds literal (g.events (spelling literal) es) t (with_nodes t (rows es))
    events_adds g.none w t = to none (as_nodes t (sym (append-nil t.nodes)))
    events_adds (g.more e es) w t = to (adds_append (event_adds Open e w.0 t) (events_adds es w.1 (with_nodes t (row e)))) (as_nodes t (append_assoc t.nodes (row e) (rows es)))

  instr_adds : (x : s.Instr M) → InstrWithin x → (t : Table M) → Adds literal (g.instr (spelling literal) x) t (with_nodes (with_instr t (instr_at (length t.nodes) x)) (instr_nodes x))
  instr_adds (g.sync e) w t =
      let t₁ : Table M = with_instr t (instr.Sync (length t.nodes)) in
      to (in_form Open word.Sync CloseSync (event_adds Open e w t₁)) (as_nodes t₁ (append_assoc t.nodes (row e) (node.EndSync ∷ [])))
  instr_adds (g.spawn b) w t =
      to (in_one Open word.Spawn (number SpawnBody (decimal b)) Close (entry.Instr (instr.Spawn b)) (_, (b, w, refl, refl), refl)) (as_nodes (with_instr t (instr.Spawn b)) (sym (append-nil t.nodes)))
  instr_adds g.emit w t = to (in_form Open word.Emit Close none) (as_nodes (with_instr t instr.Emit) (sym (append-nil t.nodes)))
  instr_adds g.again w t = to (in_form Open word.Again Close none) (as_nodes (with_instr t instr.Again) (sym (append-nil t.nodes)))

  instrs_adds : (xs : List (s.Instr M)) → AllByRecursion InstrWithin xs → (t : Table M) → Adds literal (each (g.instr (spelling literal)) xs) t (after_instrs t xs)
  instrs_adds [] w t = to none (as_rows t (sym (append-nil t.instrs)) (sym (append-nil t.nodes)))
  instrs_adds (x ∷ xs) w t =
      to (adds_append (instr_adds x w.0 t) (instrs_adds xs w.1 _))
      (as_rows t (append_assoc t.instrs (instr_at (length t.nodes) x ∷ []) (instrs_after (t.nodes ++ instr_nodes x) xs)) (append_assoc t.nodes (instr_nodes x) (instrs_nodes xs)))

  body_adds : (b : s.Body M) → BodyWithin b → (t : Table M) → Adds literal (g.body (spelling literal) b) t (after_body t b)
  body_adds b w t =
      in_form Open word.Task CloseTask (part_adds (number NewBody (decimal b.number)) (Some (entry.Body b.number)) (_, (b.number, w.0, refl, refl), refl) (instrs_adds b.instrs w.1 (with_entry t (entry.Body b.number))))

  bodies_add : (bs : List (s.Body M)) → AllByRecursion BodyWithin bs → (t : Table M) → Adds literal (each (g.body (spelling literal)) bs) t (after_bodies t bs)
  bodies_add [] w t = none
  bodies_add (b ∷ bs) w t = adds_append (body_adds b w.0 t) (bodies_add bs w.1 (after_body t b))

  port_adds : (k : PortKind) (n : ℕ) → n ≤ last_port → (t : Table M) → Adds literal (form Open (g.port_word k) (number (NewPort k) (decimal n) ∷ []) Close) t (with_entry t (entry.Port k n))
  port_adds Channel n w t = in_one Open word.Channel (number (NewPort Channel) (decimal n)) Close (entry.Port Channel n) (_, (n, w, refl, refl), refl)
  port_adds Mailbox n w t = in_one Open word.Mailbox (number (NewPort Mailbox) (decimal n)) Close (entry.Port Mailbox n) (_, (n, w, refl, refl), refl)
  port_adds Ivar n w t = in_one Open word.Ivar (number (NewPort Ivar) (decimal n)) Close (entry.Port Ivar n) (_, (n, w, refl, refl), refl)
  port_adds Mvar n w t = in_one Open word.Mvar (number (NewPort Mvar) (decimal n)) Close (entry.Port Mvar n) (_, (n, w, refl, refl), refl)

  ports_add : (ps : List (g.Port ℕ)) → AllByRecursion (λ p. p.number ≤ last_port) ps → (t : Table M) → Adds literal (each (g.port (spelling literal)) ps) t (after_ports t ps)
  ports_add [] w t = none
  ports_add (p ∷ ps) w t = adds_append (port_adds p.kind p.number w.0 t) (ports_add ps w.1 _)

  pub script_adds : (x : s.Script M) → Within x → (t : Table M) → Adds literal (g.script (spelling literal) x) t (after_script t x)
  script_adds x w t = adds_append (ports_add x.ports w.ports t) (bodies_add (bodies x) (w.first, w.others) (after_ports t x.ports))
