-- What a script's text has to be before its tokens are looked at.
use Rattle.std.specs.Prelude.{◌≡◌, ℕ, ◌+◌, ◌-◌, ◌<◌, ◌≤◌, true, cond, ◌⊎◌, List, [], ◌∷◌, length, take, ◌==◌, slice_index}
use Rattle.tokens.specs.Tokens.{is_separator}

-- a script has at most so many bytes
abbrev pub longest_text : ℕ
longest_text = 16384

-- no bracket opens inside so many open ones
abbrev pub deepest : ℕ
deepest = 24

-- printable ASCII, or a separator
abbrev pub Allowed : ℕ → Type 0
Allowed b = ((32 ≤ b) × (b ≤ 126)) ⊎ (is_separator b ≡ true)

-- how many brackets are open after these bytes, where n were before them; a closing bracket with none open closes nothing
abbrev pub open_after : ℕ → List ℕ → ℕ
open_after n [] = n
open_after n (b ∷ bs) = open_after (cond (b == 40) (n + 1) (cond (b == 41) (n - 1) n)) bs

-- The three refusals of a text, each with the place at which it holds.

abbrev pub IsTooLong : List ℕ → ℕ → Type 0
IsTooLong text i = (longest_text < length text) × (i ≡ longest_text)

abbrev pub IsForeignByte : List ℕ → ℕ → Type 0
IsForeignByte text i = (i < length text) × (Allowed (slice_index text i) → ⊥)

abbrev pub IsTooDeep : List ℕ → ℕ → Type 0
IsTooDeep text i = (i < length text) × (slice_index text i ≡ 40) × (deepest ≤ open_after 0 (take i text))
