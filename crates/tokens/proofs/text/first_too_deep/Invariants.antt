use Rattle.std.proofs.Common.{◌≡◌, ℕ, ◌<◌, ◌≤◌, take}
use Rattle.tokens.specs.Text.{deepest, open_after, IsTooDeep}
use Rattle.tokens.proofs.text.first_too_deep.Given as goal

abbrev pub invariant-loop-i : goal.invariant-loop-i
invariant-loop-i l =
    (l.depth ≡ open_after 0 (take l.i l.text)) × (l.depth ≤ deepest) × ((k : ℕ) → k < l.i → IsTooDeep l.text k → ⊥)
