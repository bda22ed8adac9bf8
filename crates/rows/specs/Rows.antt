-- A script as the rows of its table.
use Rattle.std.specs.Prelude.{◌≡◌, ℕ, ◌<◌, cond, List, [], ◌∷◌, ◌++◌, drop, Some, None, vec_items, Option, ◌==◌, slice_index_or}
use Rattle.grammar.specs.declared.words.PortKind.{PortKind}
use Rattle.grammar.specs.Grammar as g
use Rattle.rows.specs.declared.row.Instr.{Instr}
use Rattle.rows.specs.declared.row.Instr.TheVariants as instr
use Rattle.rows.specs.declared.row.Node.{Node}
use Rattle.rows.specs.declared.row.Node.TheVariants.{Always, Send, Recv, Timeout, Nack, Wrap, Set, Add, Guard, Else, EndGuard, WithNack, EndNack, EndSync}
use Rattle.rows.specs.declared.row.Rows.{Rows}
use Rattle.rows.specs.Scripts as s
use Rattle.rows.specs.Scripts.{Script, Body, Event, Events, Action}

abbrev pub action_node : {M : Type 0} → Action M → Node M
action_node (g.set l) = Set l
action_node (g.add k) = Add k

-- the row of an event
abbrev mutual
  pub row : {M : Type 0} → Event M → List (Node M)
  row g.never = []
  row g.nack = Nack ∷ []
  row (g.always l) = Always l ∷ []
  row (g.send p) = Send p ∷ []
  row (g.recv p) = Recv p ∷ []
  row (g.timeout d) = Timeout d ∷ []
  row (g.choose es) = rows es
  row (g.wrap e a) = Wrap ∷ (row e ++ (action_node a ∷ []))
  row (g.guard t e f) = Guard t ∷ (row e ++ (Else ∷ (row f ++ (EndGuard ∷ []))))
  row (g.with_nack b e) = WithNack b ∷ (row e ++ (EndNack ∷ []))

  pub rows : {M : Type 0} → Events M → List (Node M)
  rows g.none = []
  rows (g.more e es) = row e ++ rows es

-- an instruction of the table, by the row of all nodes
abbrev pub InstrRow : {M : Type 0} → List (Node M) → Instr → s.Instr M → Type 0
InstrRow {M} nodes i (g.sync e) = (from : ℕ) × (rest : List (Node M)) × (i ≡ instr.Sync from) × (drop from nodes ≡ row e ++ (EndSync ∷ rest))
InstrRow nodes i (g.spawn b) = i ≡ instr.Spawn b
InstrRow nodes i g.emit = i ≡ instr.Emit
InstrRow nodes i g.again = i ≡ instr.Again

-- the instructions of a body, from one on, and the end after them, which is the end of the row too
abbrev pub InstrRows : {M : Type 0} → List (Node M) → List Instr → List (s.Instr M) → Type 0
InstrRows nodes [] [] = Unit {0}
InstrRows nodes [] (x ∷ xs) = ⊥
InstrRows nodes (i ∷ is) [] = i ≡ instr.End
InstrRows nodes (i ∷ is) (x ∷ xs) = InstrRow nodes i x × InstrRows nodes is xs

-- the kind of a port, and the instructions of a body, by number
abbrev pub port_kind : List (g.Port ℕ) → ℕ → Option PortKind
port_kind [] n = None
port_kind (p ∷ ps) n = cond (p.number == n) (Some p.kind) (port_kind ps n)

abbrev pub find_body : {M : Type 0} → List (Body M) → ℕ → Option (List (s.Instr M))
find_body [] n = None
find_body (b ∷ bs) n = cond (b.number == n) (Some b.instrs) (find_body bs n)

abbrev pub bodies : {M : Type 0} → Script M → List (Body M)
bodies x = x.first ∷ x.others

abbrev pub BodyRow : {M : Type 0} → List (Node M) → List Instr → Option ℕ → Option (List (s.Instr M)) → Type 0
BodyRow nodes is None None = Unit {0}
BodyRow nodes is None (Some xs) = ⊥
BodyRow nodes is (Some from) None = ⊥
BodyRow nodes is (Some from) (Some xs) = InstrRows nodes (drop from is) xs

-- the rows hold the script
pub record Holds {M : Type 0} (r : Rows M) (x : Script M) : Type 0 where
  pub by_port : (p : ℕ) → p < 16 → slice_index_or r.ports p None ≡ port_kind x.ports p
  pub by_body : (b : ℕ) → b < 32 → BodyRow (vec_items r.nodes) (vec_items r.instrs) (slice_index_or r.bodies b None) (find_body (bodies x) b)

-- the script `(task 0)`, of rows with nothing in them
abbrev pub empty_script : {M : Type 0} → Script M
empty_script = record { ports = []; first = record { number = 0; instrs = [] }; others = [] }
