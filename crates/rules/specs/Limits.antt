-- The limits of ports, syncs and bodies.
use Rattle.std.specs.Prelude.{ℕ, suc, ◌+◌, ◌≤◌, length, ℤ}
use Rattle.std.specs.List.{AllByRecursion}
use Rattle.grammar.specs.Grammar as g
use Rattle.passes.specs.Limits.{IsOverLimit}
use Rattle.passes.specs.Ranges.{last_port}
use Rattle.rows.specs.Scripts.{Script, Instr, Event, Events}
use Rattle.rows.specs.Rows.{bodies}
-- leaves and with-nacks of a sync, and instructions of a body
pub use Rattle.passes.specs.Limits.{most_leaves, most_nacks, most_instrs}

-- the ports of a script, and the messages that each may hold
abbrev pub most_ports : ℕ
most_ports = suc last_port

abbrev pub most_held : ℕ
most_held = 32

-- as written: both arms of a guard are counted

abbrev mutual
  pub leaves_written : {M : Type 0} → Event M → ℕ
  leaves_written g.never = 0
  leaves_written g.nack = 1
  leaves_written (g.always m) = 1
  leaves_written (g.send p) = 1
  leaves_written (g.recv p) = 1
  leaves_written (g.timeout d) = 1
  leaves_written (g.choose es) = leaves_written_each es
  leaves_written (g.wrap e a) = leaves_written e
  leaves_written (g.guard t e f) = leaves_written e + leaves_written f
  leaves_written (g.with_nack b e) = leaves_written e

  pub leaves_written_each : {M : Type 0} → Events M → ℕ
  leaves_written_each g.none = 0
  leaves_written_each (g.more e es) = leaves_written e + leaves_written_each es

abbrev mutual
  pub nacks_written : {M : Type 0} → Event M → ℕ
  nacks_written g.never = 0
  nacks_written g.nack = 0
  nacks_written (g.always m) = 0
  nacks_written (g.send p) = 0
  nacks_written (g.recv p) = 0
  nacks_written (g.timeout d) = 0
  nacks_written (g.choose es) = nacks_written_each es
  nacks_written (g.wrap e a) = nacks_written e
  nacks_written (g.guard t e f) = nacks_written e + nacks_written f
  nacks_written (g.with_nack b e) = suc (nacks_written e)

  pub nacks_written_each : {M : Type 0} → Events M → ℕ
  nacks_written_each g.none = 0
  nacks_written_each (g.more e es) = nacks_written e + nacks_written_each es

abbrev pub InstrLimited : {M : Type 0} → Instr M → Type 0
InstrLimited (g.sync e) = (leaves_written e ≤ most_leaves) × (nacks_written e ≤ most_nacks)
InstrLimited (g.spawn b) = Unit {0}
InstrLimited g.emit = Unit {0}
InstrLimited g.again = Unit {0}

abbrev pub Limited : {M : Type 0} → Script M → Type 0
Limited s = AllByRecursion (λ b. (length b.instrs ≤ most_instrs) × AllByRecursion InstrLimited b.instrs) (bodies s)

-- A script in whose tokens nothing is over its limit keeps its limits.
abbrev pub LimitsLaw : Type 0 → Type 0
LimitsLaw M = (σ : g.Spelling ℕ ℤ M) (x : Script M) → ((k : ℕ) → IsOverLimit (g.script σ x) k → ⊥) → Limited x
