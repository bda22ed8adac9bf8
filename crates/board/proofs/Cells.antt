-- The cells of one port among all, read and written as one part.
use Rattle.std.proofs.Common.{◌≡◌, ℕ, ◌+◌, ◌-◌, ◌<◌, ◌≤◌, List, length, take, drop, sym, ap, ◌∙◌, arith}
use borrow.Rule.Slice.PartMut.{put_mid}
use Rattle.std.proofs.lemmas.Slice.{between-put_mid}
use Rattle.rules.specs.Limits.{most_ports, most_held}
use Rattle.board.specs.Cells.{port_start, port_cells, store_size}

width : (p : ℕ) → (port_start p + most_held) - port_start p ≡ most_held
width p = omega arith

pub port_read : {M : Type 0} (cells : List M) (p : ℕ) → take ((port_start p + most_held) - port_start p) (drop (port_start p) cells) ≡ port_cells cells p
port_read cells p = ap (λ n. take n (drop (port_start p) cells)) (width p)

pub port_written : {M : Type 0} (cells part : List M) (p : ℕ) → p < most_ports → store_size ≤ length cells → length part ≡ most_held
    → port_cells (put_mid (port_start p) ((port_start p + most_held) - port_start p) cells part) p ≡ part
port_written cells part p few room long =
    let written = put_mid (port_start p) ((port_start p + most_held) - port_start p) cells part in
    sym (port_read written p) ∙ between-put_mid (port_start p) _ cells part (port_start p + most_held) (omega arith) (omega arith)
