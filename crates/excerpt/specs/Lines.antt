-- The lines of a text. A line feed ends a line, and is none of its bytes.
use Rattle.std.specs.Prelude.{◌≡◌, ℕ, ◌-◌, ◌<◌, ◌≤◌, ◌⊎◌, List, length, count_by, ◌≢◌, nat_eq, slice_index}

abbrev pub line_feeds : List ℕ → ℕ
line_feeds s = count_by (λ b. nat_eq b 10) s

-- the bytes from `start` up to `end` are the line of s that the place `at` lies in, or that it ends
pub record LineAt (s : List ℕ) (at start end : ℕ) : Type 0 where
  pub start_low : start ≤ at
  pub end_high : at ≤ end
  pub within : end ≤ length s
  pub unbroken : (k : ℕ) → start ≤ k → k < end → slice_index s k ≢ 10
  pub begins : (start ≡ 0) ⊎ ((0 < start) × (slice_index s (start - 1) ≡ 10))
  pub ends : (end ≡ length s) ⊎ ((end < length s) × (slice_index s end ≡ 10))
