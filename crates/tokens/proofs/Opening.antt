-- How many brackets are open, one byte further on.
use Rattle.std.proofs.Common.{◌≡◌, ℕ, ◌+◌, ◌-◌, ◌<◌, cond, eqb, List, [], ◌∷◌, ◌++◌, length, get_or, take, refl, ap, ◌∙◌}
use Rattle.std.proofs.lemmas.List.{take_more}
use Rattle.tokens.specs.Text.{open_after}

abbrev pub with_byte : ℕ → ℕ → ℕ
with_byte n b = cond (eqb b 40) (n + 1) (cond (eqb b 41) (n - 1) n)

pub open_after_push : (n : ℕ) (xs : List ℕ) (b : ℕ) → open_after n (xs ++ b ∷ []) ≡ with_byte (open_after n xs) b
open_after_push n [] b = refl
open_after_push n (x ∷ xs) b = open_after_push (with_byte n x) xs b

pub open_after_more : (n : ℕ) (xs : List ℕ) (i : ℕ) → i < length xs → open_after n (take (i + 1) xs) ≡ with_byte (open_after n (take i xs)) (get_or xs i 0)
open_after_more n xs i h = ap (open_after n) (take_more xs i 0 h) ∙ open_after_push n (take i xs) (get_or xs i 0)
