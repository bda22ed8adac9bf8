use Rattle.std.proofs.Common.{◌≡◌, ℕ, ◌+◌, ◌<◌, ◌≤◌, length, get_or, rules, arith}
use Rattle.std.proofs.lemmas.Grind.{common_steps}
use Rattle.excerpt.proofs.line_of.Goals as goal

pub returns : goal.returns
returns c =
    let before = c.split_at.result.0.now in
    let after = c.split_at.result.1.now in
    let none_before : (k : ℕ) → c.map_or-start.result ≤ k → k < length before → get_or before k 0 ≡ 10 → ⊥ = search rules in
    let none_after : (k : ℕ) → c.min-at.result + k < c.map_or-end.result → get_or after k 0 ≡ 10 → ⊥ = search rules in
    record {
      start_low = search rules;
      end_high = search rules;
      within = search rules;
      unbroken = grind (arith, common_steps);
      begins = search rules;
      ends = search rules;
    }
