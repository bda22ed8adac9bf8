-- What is shown of a line that may be too long to show.
use Rattle.std.specs.Prelude.{◌≡◌, ℕ, ◌+◌, ◌-◌, ◌<◌, ◌≤◌, cond, ◌&&◌, ◌||◌, List, take, drop, ◌==◌, nat_le, nat_lt}
use Rattle.excerpt.specs.declared.Excerpt.{Excerpt}
use Rattle.excerpt.specs.Lines.{LineAt, line_feeds}

-- so many bytes of a line are shown at most
abbrev pub widest : ℕ
widest = 72

-- the bytes from `from` up to `to` are shown of the line from `start` up to `end`, those at `at` among them
pub record Window (start end at from to : ℕ) : Type 0 where
  pub from_low : start ≤ from
  pub to_high : to ≤ end
  pub reaches : from ≤ at
  pub shows : at < end → at < to
  pub ends : at ≡ end → to ≡ end
  pub narrow : to ≤ from + widest
  pub whole : end ≤ start + widest → (from ≡ start) × (to ≡ end)

-- what is shown of the text s at a place of it
pub record ExcerptOf (s : List ℕ) (at : ℕ) (e : Excerpt) : Type 0 where
  pub line_start : ℕ
  pub line_end : ℕ
  pub from : ℕ
  pub to : ℕ
  pub is_line : LineAt s at line_start line_end
  pub is_window : Window line_start line_end at from to
  pub is_number : e.line ≡ line_feeds (take at s)
  pub is_column : e.column ≡ at - line_start
  pub cut_before : e.is_cut_before ≡ nat_lt line_start from
  pub is_shown : e.bytes.now ≡ take (to - from) (drop from s)
  pub cut_after : e.is_cut_after ≡ nat_lt to line_end
  pub is_caret : e.caret ≡ at - from

-- printable ASCII as itself, tab and carriage return as a space, any other byte as a question mark
abbrev pub shown_byte : ℕ → ℕ
shown_byte b = cond (nat_le 32 b && nat_le b 126) b (cond (b == 9 || b == 13) 32 63)
