-- The store: where registers and ports lie among the cells.
use Rattle.std.specs.Prelude.{ℕ, ◌+◌, ◌*◌, List, take, drop}
use Rattle.rules.specs.Limits.{most_ports, most_held}
use Rattle.rules.specs.Able.{most_tasks}
use Rattle.rules.specs.Kinds.{Meaning}
use Rattle.kinds.specs.Stores.{messages}

-- the first cell of a port, after the registers
abbrev pub port_start : ℕ → ℕ
port_start p = most_tasks + most_held * p

-- the cells of a port
abbrev pub port_cells : {M : Type 0} → List M → ℕ → List M
port_cells cells p = take most_held (drop (port_start p) cells)

-- all cells of the store
abbrev pub store_size : ℕ
store_size = most_tasks + most_held * most_ports

-- a kind's meaning over the messages in the cells
abbrev pub over : {M : Type 0} → M → List M → Meaning ℕ → Meaning M
over d cells μ = record { offers = μ.offers; held = λ p. messages d (port_cells cells p) (μ.held p); clock = μ.clock }
