-- The rows as lists, and what an entry makes of them.
use Rattle.std.specs.Prelude.{◌≡◌, ℕ, ◌⊎◌, List, [], ◌∷◌, ◌++◌, length, replicate, Some, None, vec_items, Option, slice_index_or, slice_set}
use Rattle.grammar.specs.declared.words.PortKind.{PortKind}
use Rattle.grammar.specs.declared.words.Use.{Use}
use Rattle.rows.specs.declared.row.Instr.{Instr}
use Rattle.rows.specs.declared.row.Instr.TheVariants as instr
use Rattle.rows.specs.declared.row.Node.{Node}
use Rattle.rows.specs.declared.row.Rows.{Rows}
use Rattle.rows.specs.declared.entry.Entry.{Entry}
use Rattle.rows.specs.declared.entry.Entry.TheVariants as entry
use Rattle.rows.specs.Entries.{EntryOf}

abbrev pub ports_of : {M : Type 0} → Rows M → List (Option PortKind)
ports_of r = r.ports

-- where the instructions of each body begin
abbrev pub starts_of : {M : Type 0} → Rows M → List (Option ℕ)
starts_of r = r.bodies

abbrev pub instrs_of : {M : Type 0} → Rows M → List Instr
instrs_of r = vec_items r.instrs

abbrev pub nodes_of : {M : Type 0} → Rows M → List (Node M)
nodes_of r = vec_items r.nodes

pub record Table (M : Type 0) : Type 0 where
  pub ports : List (Option PortKind)
  pub starts : List (Option ℕ)
  pub instrs : List Instr
  pub nodes : List (Node M)

abbrev pub table : {M : Type 0} → Rows M → Table M
table r = record { ports = ports_of r; starts = starts_of r; instrs = instrs_of r; nodes = nodes_of r }

abbrev pub blank_table : {M : Type 0} → Table M
blank_table = record { ports = replicate 16 None; starts = replicate 32 None; instrs = []; nodes = [] }

-- the first declaration counts
abbrev pub first_of : {X : Type 0} → Option X → X → Option X
first_of (Some y) x = Some y
first_of None x = Some x

abbrev pub declared : {X : Type 0} → List (Option X) → ℕ → X → List (Option X)
declared slots at x = slice_set slots at (first_of (slice_index_or slots at None) x)

abbrev pub with_instr : {M : Type 0} → Table M → Instr → Table M
with_instr t i = record { ports = t.ports; starts = t.starts; instrs = t.instrs ++ (i ∷ []); nodes = t.nodes }

abbrev pub with_entry : {M : Type 0} → Table M → Entry M → Table M
with_entry t (entry.Port k n) = record { ports = declared t.ports n k; starts = t.starts; instrs = t.instrs; nodes = t.nodes }
with_entry t (entry.Body n) = record { ports = t.ports; starts = declared t.starts n (length t.instrs); instrs = t.instrs; nodes = t.nodes }
with_entry t entry.Sync = with_instr t (instr.Sync (length t.nodes))
with_entry t (entry.Instr i) = with_instr t i
with_entry t (entry.Node n) = record { ports = t.ports; starts = t.starts; instrs = t.instrs; nodes = t.nodes ++ (n ∷ []) }

abbrev pub with_some : {M : Type 0} → Table M → Option (Entry M) → Table M
with_some t None = t
with_some t (Some e) = with_entry t e

-- a token of these bytes adds what it has to add, if it can be read
abbrev pub PartAdded : {M : Type 0} → (M → List ℕ) → Use → List ℕ → Table M → Table M → Type 0
PartAdded {M} literal u bs t after =
    ((o : Option (Entry M)) × EntryOf literal u bs o × (after ≡ with_some t o)) ⊎ (((o : Option (Entry M)) → EntryOf literal u bs o → ⊥) × (after ≡ t))
