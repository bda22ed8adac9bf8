-- Tables that hold a script.
use Rattle.std.proofs.Common.{◌≡◌, ℕ, zero, suc, ◌<◌, cond, List, [], get_or, set, Some, None, Option, sym, ap, subst, arith, ne_eqb}
use Rattle.std.proofs.lemmas.List.{get_or-replicate}
use Rattle.rows.specs.declared.row.Instr.{Instr}
use Rattle.rows.specs.declared.row.Node.{Node}
use Rattle.rows.specs.declared.row.Rows.{Rows}
use Rattle.rows.specs.Scripts as s
use Rattle.rows.specs.Scripts.{Script}
use Rattle.rows.specs.Rows.{Holds, BodyRow, port_kind, find_body, bodies, empty_script}
use Rattle.rows.specs.Tables.{Table, table, blank_table}

pub record Held {M : Type 0} (t : Table M) (x : Script M) : Type 0 where
  pub by_port : (p : ℕ) → p < 16 → get_or t.ports p None ≡ port_kind x.ports p
  pub by_body : (b : ℕ) → b < 32 → BodyRow t.nodes t.instrs (get_or t.starts b None) (find_body (bodies x) b)

pub holds : {M : Type 0} (r : Rows M) (t : Table M) (x : Script M) → table r ≡ t → Held t x → Holds r x
holds {M} r t x e h =
    let P : Table M → Type 0 = λ u. Held u x in
    let k : Held (table r) x = subst P (sym e) h in
    record { by_port = k.by_port; by_body = k.by_body }

no_body : {M : Type 0} (nodes : List (Node M)) (is : List Instr) (o : Option ℕ) (p : Option (List (s.Instr M))) → o ≡ None → p ≡ None → BodyRow nodes is o p
no_body nodes is o p e f = rw (e, f) tt

-- the empty script: body 0 begins at the end
abbrev with_start : {M : Type 0} → Table M → Table M
with_start t = record { ports = t.ports; starts = set t.starts 0 (Some 0); instrs = t.instrs; nodes = t.nodes }

empty_body : (M : Type 0) (b : ℕ) → b < 32 → BodyRow {M = M} [] [] (get_or (with_start {M = M} blank_table).starts b None) (find_body (bodies {M = M} empty_script) b)
empty_body M zero h = tt
empty_body M (suc b) h = no_body [] [] _ _ (get_or-replicate 31 b None None (omega arith)) (ap (λ c. cond c (Some []) None) (ne_eqb 0 (suc b) (λ e. omega arith)))

pub empty_holds : {M : Type 0} (r : Rows M) → table r ≡ blank_table → Holds (record { ports = r.ports; bodies = set r.bodies 0 (Some 0); instrs = r.instrs; nodes = r.nodes }) empty_script
empty_holds {M} r e = holds _ _ empty_script (ap with_start e) (record { by_port = λ p h. get_or-replicate 16 p None None h; by_body = empty_body M })
