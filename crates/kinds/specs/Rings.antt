-- The messages of a port in a ring of its cells.
use Rattle.std.specs.Prelude.{ℕ, ◌%◌, List, map}
use Rattle.std.specs.List.{range_with_len}
use Rattle.rules.specs.Limits.{most_held}

-- `n` places from the one numbered `f` on, going round
abbrev pub ring : ℕ → ℕ → List ℕ
ring f n = map (λ j. j % most_held) (range_with_len f n)
