-- The table after a script holds it.
use Rattle.std.proofs.Common.{◌≡◌, ℕ, ◌<◌, ◌≤◌, true, false, cond, eqb, List, [], ◌∷◌, ◌++◌, length, get_or, drop, Some, None, Option, sym, refl, ap, ◌∙◌, subst, ap₂, inl, inr, append_assoc, append-nil, arith, eq-eqb, ne_eqb}
use Rattle.std.specs.List.{AllByRecursion}
use Rattle.std.proofs.lemmas.List.{length-set, get_or-set_same, get_or-set_other, get_or-replicate, drop_at}
use Rattle.std.proofs.lemmas.Bool.{cases_eq}
use Rattle.grammar.specs.Grammar as g
use Rattle.passes.specs.Ranges.{last_port}
use Rattle.rows.specs.declared.row.Instr.{Instr}
use Rattle.rows.specs.declared.row.Instr.TheVariants as instr
use Rattle.rows.specs.declared.row.Node.{Node}
use Rattle.rows.specs.declared.row.Node.TheVariants as node
use Rattle.rows.specs.declared.entry.Entry.TheVariants as entry
use Rattle.rows.specs.Scripts as s
use Rattle.rows.specs.Scripts.{BodyWithin, Within}
use Rattle.rows.specs.Rows.{row, InstrRow, InstrRows, BodyRow, port_kind, find_body, bodies}
use Rattle.rows.specs.Tables.{Table, blank_table, first_of, declared, with_entry}
use Rattle.rows.proofs.Held.{Held}
use Rattle.rows.proofs.Adding.{instr_nodes, instrs_nodes, instr_at, instrs_after, after_body, after_bodies, after_ports, after_script}

-- Declarations: the first counts.

abbrev or_else : {X : Type 0} → Option X → Option X → Option X
or_else (Some y) z = Some y
or_else None z = z

or_none : {X : Type 0} (o : Option X) → or_else o None ≡ o
or_none (Some y) = refl
or_none None = refl

or_first : {X : Type 0} (o : Option X) (x : X) (z : Option X) → or_else (first_of o x) z ≡ or_else o (Some x)
or_first (Some y) x z = refl
or_first None x z = refl

found_on : {X : Type 0} (slots : List (Option X)) (n k : ℕ) (x : X) (z : Option X) → n < length slots → or_else (get_or (declared slots n x) k None) z ≡ or_else (get_or slots k None) (cond (eqb n k) (Some x) z)
found_on slots n k x z h = elim (cases_eq n k) [
  | inl e ↦ ap (λ j. or_else (get_or (declared slots n x) j None) z) (sym e)
      ∙ ap (λ o. or_else o z) (get_or-set_same slots n (first_of (get_or slots n None) x) None h)
      ∙ or_first (get_or slots n None) x z
      ∙ ap₂ (λ j c. or_else (get_or slots j None) (cond c (Some x) z)) e (sym (eq-eqb n k e))
  | inr ne ↦ ap (λ o. or_else o z) (get_or-set_other slots n k (first_of (get_or slots n None) x) None (λ e. ne (sym e)))
      ∙ ap (λ c. or_else (get_or slots k None) (cond c (Some x) z)) (sym (ne_eqb n k ne))
]

ports_found : {M : Type 0} (ps : List (g.Port ℕ)) (t : Table M) → length t.ports ≡ 16 → AllByRecursion (λ p. p.number ≤ last_port) ps → (k : ℕ) → get_or (after_ports t ps).ports k None ≡ or_else (get_or t.ports k None) (port_kind ps k)
ports_found [] t l w k = sym (or_none (get_or t.ports k None))
ports_found (p ∷ ps) t l w k =
    ports_found ps (with_entry t (entry.Port p.kind p.number)) (length-set t.ports p.number _ ∙ l) w.1 k
    ∙ found_on t.ports p.number k p.kind (port_kind ps k) (omega (arith, w.0, l))

-- where the first body of a number begins
abbrev start_found : {M : Type 0} → Table M → List (s.Body M) → ℕ → Option ℕ
start_found t [] k = None
start_found t (b ∷ bs) k = cond (eqb b.number k) (Some (length t.instrs)) (start_found (after_body t b) bs k)

starts_found : {M : Type 0} (bs : List (s.Body M)) (t : Table M) → length t.starts ≡ 32 → AllByRecursion BodyWithin bs → (k : ℕ) → get_or (after_bodies t bs).starts k None ≡ or_else (get_or t.starts k None) (start_found t bs k)
starts_found [] t l w k = sym (or_none (get_or t.starts k None))
starts_found (b ∷ bs) t l w k =
    starts_found bs (after_body t b) (length-set t.starts b.number _ ∙ l) w.1 k
    ∙ found_on t.starts b.number k (length t.instrs) (start_found (after_body t b) bs k) (omega (arith, w.0.0, l))

-- ports and bodies do not meet
starts_kept : {M : Type 0} (ps : List (g.Port ℕ)) (t : Table M) → (after_ports t ps).starts ≡ t.starts
starts_kept [] t = refl
starts_kept (p ∷ ps) t = starts_kept ps (with_entry t (entry.Port p.kind p.number))

ports_kept : {M : Type 0} (bs : List (s.Body M)) (t : Table M) → (after_bodies t bs).ports ≡ t.ports
ports_kept [] t = refl
ports_kept (b ∷ bs) t = ports_kept bs (after_body t b)

-- The rows of a body.

-- a sync's row is where its instruction says
sync_row : {X : Type 0} (before es : List X) (z : X) (after more : List X) → drop (length before) ((before ++ ((es ++ (z ∷ [])) ++ after)) ++ more) ≡ es ++ (z ∷ (after ++ more))
sync_row before es z after more =
    ap (drop (length before)) (append_assoc before ((es ++ (z ∷ [])) ++ after) more)
    ∙ drop_at before (((es ++ (z ∷ [])) ++ after) ++ more) (length before) refl
    ∙ simp append_assoc

instr_held : {M : Type 0} (x : s.Instr M) (before after more : List (Node M)) → InstrRow ((before ++ (instr_nodes x ++ after)) ++ more) (instr_at (length before) x) x
instr_held (g.sync e) before after more = (length before, after ++ more, refl, sync_row before (row e) node.EndSync after more)
instr_held (g.spawn b) before after more = refl
instr_held g.emit before after more = refl
instr_held g.again before after more = refl

instrs_held : {M : Type 0} (xs : List (s.Instr M)) (before more : List (Node M)) (rest : List Instr) → InstrRows ((before ++ instrs_nodes xs) ++ more) (instrs_after before xs ++ (instr.End ∷ rest)) xs
instrs_held [] before more rest = refl
instrs_held {M} (x ∷ xs) before more rest =
    let P : List (Node M) → Type 0 = λ ns. InstrRows (ns ++ more) (instrs_after (before ++ instr_nodes x) xs ++ (instr.End ∷ rest)) xs in
    (instr_held x before (instrs_nodes xs) more, subst P (append_assoc before (instr_nodes x) (instrs_nodes xs)) (instrs_held xs (before ++ instr_nodes x) more rest))

-- what bodies add stands after what there was
abbrev Longer : {M : Type 0} → Table M → Table M → Type 0
Longer {M} t u = (is : List Instr) × (ns : List (Node M)) × (u.instrs ≡ t.instrs ++ is) × (u.nodes ≡ t.nodes ++ ns)

regrouped : {X : Type 0} (a b : List X) (z : X) (c : List X) → ((a ++ b) ++ (z ∷ [])) ++ c ≡ a ++ (b ++ (z ∷ c))
regrouped a b z c = simp append_assoc

longer : {M : Type 0} (bs : List (s.Body M)) (t : Table M) → Longer t (after_bodies t bs)
longer [] t = ([], [], sym (append-nil t.instrs), sym (append-nil t.nodes))
longer (b ∷ bs) t =
    let l = longer bs (after_body t b) in (
      instrs_after t.nodes b.instrs ++ (instr.End ∷ l.0),
      instrs_nodes b.instrs ++ l.1,
      l.2 ∙ regrouped t.instrs (instrs_after t.nodes b.instrs) instr.End l.0,
      l.3 ∙ append_assoc t.nodes (instrs_nodes b.instrs) l.1,
    )

body_held : {M : Type 0} (b : s.Body M) (bs : List (s.Body M)) (t : Table M) → InstrRows (after_bodies t (b ∷ bs)).nodes (drop (length t.instrs) (after_bodies t (b ∷ bs)).instrs) b.instrs
body_held {M} b bs t =
    let l = longer bs (after_body t b) in
    let P : List (Node M) → Type 0 = λ ns. InstrRows ns (instrs_after t.nodes b.instrs ++ (instr.End ∷ l.0)) b.instrs in
    let Q : List Instr → Type 0 = λ is. InstrRows (after_bodies t (b ∷ bs)).nodes is b.instrs in
    let here : drop (length t.instrs) (after_bodies t (b ∷ bs)).instrs ≡ instrs_after t.nodes b.instrs ++ (instr.End ∷ l.0) =
    ap (drop (length t.instrs)) (l.2 ∙ regrouped t.instrs (instrs_after t.nodes b.instrs) instr.End l.0) ∙ drop_at t.instrs _ (length t.instrs) refl in
    subst Q (sym here) (subst P (sym l.3) (instrs_held b.instrs t.nodes l.1 l.0))

bodies_held : {M : Type 0} (bs : List (s.Body M)) (t : Table M) (k : ℕ) → BodyRow (after_bodies t bs).nodes (after_bodies t bs).instrs (start_found t bs k) (find_body bs k)
bodies_held [] t k = tt
bodies_held (b ∷ bs) t k =
    elim (eqb b.number k) as (λ c. BodyRow (after_bodies t (b ∷ bs)).nodes (after_bodies t (b ∷ bs)).instrs (cond c (Some (length t.instrs)) (start_found (after_body t b) bs k)) (cond c (Some b.instrs) (find_body bs k))) [
      | true ↦ body_held b bs t
      | false ↦ bodies_held bs (after_body t b) k
    ]

pub script_held : {M : Type 0} (x : s.Script M) → Within x → Held (after_script blank_table x) x
script_held {M} x w =
    let t : Table M = after_ports blank_table x.ports in
    let none : t.starts ≡ (blank_table {M = M}).starts = starts_kept x.ports blank_table in
    record {
      by_port = λ p h.
          ap (λ ps. get_or ps p None) (ports_kept (bodies x) t) ∙ ports_found x.ports blank_table refl w.ports p
          ∙ ap (λ o. or_else o (port_kind x.ports p)) (get_or-replicate 16 p None None h);
      by_body = λ b h.
          let from : get_or (after_script blank_table x).starts b None ≡ start_found t (bodies x) b =
          starts_found (bodies x) t (ap length none) (w.first, w.others) b
          ∙ ap (λ ss. or_else (get_or ss b None) (start_found t (bodies x) b)) none
          ∙ ap (λ o. or_else o (start_found t (bodies x) b)) (get_or-replicate 32 b None None h) in
          let P : Option ℕ → Type 0 = λ o. BodyRow (after_script blank_table x).nodes (after_script blank_table x).instrs o (find_body (bodies x) b) in
          subst P (sym from) (bodies_held (bodies x) t b);
    }
