-- A run at the front of a text.
use Rattle.std.proofs.Common.{◌≡◌, ℕ, suc, ◌+◌, cond, List, [], ◌∷◌, take, drop, refl, ap, ◌∙◌, one-add, arith}
use Rattle.std.specs.List.{prefix_len, AllByRecursion}
use Rattle.tokens.specs.Tokens.{Placed, at, atom, Class, parts, opens, closes, runs, class, next_class, with_run, tokens_from}
use Rattle.tokens.specs.Scanning.{is_runs, in_run}

-- the tokens ts are a run at i, of b and the next n bytes, and what follows it
abbrev WithRun : (i b : ℕ) (rest : List ℕ) (n : ℕ) → List Placed → Type 0
WithRun i b rest n ts = ts ≡ at i (atom (b ∷ take n rest)) ∷ tokens_from (i + suc n) (drop n rest)

with_rest : (i b : ℕ) (rest : List ℕ) → WithRun i b rest (prefix_len in_run rest) (with_run i b (next_class rest) (tokens_from (i + 1) rest))
with_rest i b [] = refl
with_rest i b (x ∷ xs) = by (class x) refl (with_rest (i + 1) x xs)
  where
    by : (c : Class) → class x ≡ c → WithRun (i + 1) x xs (prefix_len in_run xs) (with_run (i + 1) x (next_class xs) (tokens_from (i + 1 + 1) xs)) → WithRun i b (x ∷ xs) (cond (is_runs c) (1 + prefix_len in_run xs) 0) (with_run i b c (tokens_from (i + 1) (x ∷ xs)))
    by parts e more = refl
    by opens e more = refl
    by closes e more = refl
    by runs e more =
        let far : i + 1 + suc (prefix_len in_run xs) ≡ i + suc (suc (prefix_len in_run xs)) = omega arith in
        rw (e, one-add) (ap (with_run i b runs) more ∙ ap (λ j. at i (atom (b ∷ x ∷ take (prefix_len in_run xs) xs)) ∷ tokens_from j (drop (prefix_len in_run xs) xs)) far)

-- a run, and what follows it
pub tokens_run : (i b : ℕ) (rest : List ℕ) → class b ≡ runs → tokens_from i (b ∷ rest) ≡ at i (atom (take (prefix_len in_run (b ∷ rest)) (b ∷ rest))) ∷ tokens_from (i + prefix_len in_run (b ∷ rest)) (drop (prefix_len in_run (b ∷ rest)) (b ∷ rest))
tokens_run i b rest e = rw (e, one-add) (with_rest i b rest)

-- the front of a text that is in a run
pub run_bytes : (bs : List ℕ) → AllByRecursion (λ b. class b ≡ runs) (take (prefix_len in_run bs) bs)
run_bytes [] = tt
run_bytes (b ∷ bs) = by (class b) refl (run_bytes bs)
  where
    by : (c : Class) → class b ≡ c → AllByRecursion (λ x. class x ≡ runs) (take (prefix_len in_run bs) bs) → AllByRecursion (λ x. class x ≡ runs) (take (cond (is_runs c) (1 + prefix_len in_run bs) 0) (b ∷ bs))
    by parts e all = tt
    by opens e all = tt
    by closes e all = tt
    by runs e all = rw one-add (e, all)
