-- Weights: how far bytes agree with their literals.
use Rattle.std.proofs.Common.{zero, FitsSigned, rules, ◌-ℤ◌, w32, ◌≡◌, ℕ, suc, ◌+◌, ◌-◌, ◌^◌, ◌<◌, ◌≤◌, List, [], ◌∷◌, ◌++◌, length, take, drop, ℤ, pos, negsuc, Some, None, decimal, Option, ◌≢◌, slice_index, slice_index_or, refl, sym, ap, ◌∙◌, inl, inr, arith, add-one}
use Rattle.std.specs.Option.{MatchOption, IsSomeAnd, SomeIff}
use Rattle.std.specs.Int.Signed.{mag}
use Rattle.std.specs.Fmt.{signed_decimal}
use Rattle.std.proofs.lemmas.Int.{ints}
use Rattle.std.proofs.lemmas.Fmt.{decimal_digit, decimal_nonempty, first_decimal}
use Rattle.std.proofs.lemmas.List.{length-take-le, append-nil, get_or_append_left, get_or-take}
use Rattle.std.proofs.lemmas.Bool.{cases_lt}
use Rattle.message.specs.declared.literal.Lead.{Lead}
use Rattle.message.specs.declared.weight.Weight.{Weight}
use Rattle.message.specs.Weights.{weight, weight_literal}
use Rattle.message.specs.Numerals.{Numbered, LeadsNumber}
use Rattle.message.specs.Literals.{Begins, Longest, Found}
use Rattle.message.specs.Plains.{signed_plain}
use Rattle.message.proofs.Fronts.{begins_shorter, longest_by}
use Rattle.message.proofs.Decimals.{decimal_front}

-- the first byte of a numeral is a digit
digit_first : (n : ℕ) → n < 2 ^ 64 → 48 ≤ slice_index (decimal n) 0
digit_first n f = elim (cases_lt 0 n) [
  | inl h ↦ omega (arith, first_decimal n h f)
  | inr h ↦ let e : slice_index_or (decimal n) 0 0 ≡ 48 + n = ap (λ x. slice_index x 0) (decimal_digit n (omega arith)) in omega arith
]

-- bytes without a minus in front
no_longer : (s : List ℕ) (lead : Lead ℕ) (rest : List ℕ) → LeadsNumber s 2147483647 lead → lead.length < length s → (slice_index s 0 ≢ 45)
    → (z : ℤ) → mag z < 2147483648 → take (lead.length + 1) s ++ rest ≢ signed_decimal z
no_longer s lead rest l lt bare (pos x) h e =
    let w = decimal_front x (omega arith) (take (lead.length + 1) s) rest e (omega (arith, length-take-le (lead.length + 1) s (omega arith))) in
    l.stops lt w.0 (omega (arith, w.1)) w.2
no_longer s lead rest l lt bare (negsuc x) h e =
    let long = length-take-le (lead.length + 1) s (omega arith) in
    bare (sym (get_or-take (lead.length + 1) s 0 0 (omega arith)) ∙ sym (get_or_append_left (take (lead.length + 1) s) rest 0 0 (omega arith)) ∙ ap (λ y. slice_index y 0) e)

plus_begins : (p : List ℕ) (o : Option ℕ) → Numbered p 2147483647 o → Begins weight_literal p
plus_begins p None e = (weight (pos 0) (omega arith), decimal 0, ap (λ x. x ++ decimal 0) e)
plus_begins p (Some n) (e, small) = (weight (pos n) (omega arith), [], append-nil p ∙ e)

pub plus_longest : (s : List ℕ) (lead : Lead ℕ) → LeadsNumber s 2147483647 lead → (0 < length s → slice_index s 0 ≢ 45) → Longest weight_literal s lead.length
plus_longest s lead l bare = longest_by {literal = weight_literal} s lead.length l.within
    (plus_begins (take lead.length s) lead.value l.found)
    (λ j h le b. let w = begins_shorter s j (lead.length + 1) (omega arith) b in
    no_longer s lead w.1 l (omega arith) (bare (omega arith)) w.0.value w.0.fits w.2)

-- no weight has an empty literal
pub never_empty : (w : Weight) → [] ≢ weight_literal w
never_empty w e = let p = (signed_plain w.value w.fits).some in omega (arith, ap length e)

-- what a number without a sign is as a weight
pub plus_found : {F : ℕ → Weight → Type 0} (p : List ℕ) (o : Option ℕ) (r : Option Weight) → Numbered p 2147483647 o
    → ((n : ℕ) (w : Weight) → n ≤ 2147483647 → F n w → w.value ≡ pos n) → MatchOption o (r ≡ None) (λ n. IsSomeAnd r (F n)) → Found weight_literal p r
plus_found p (Some n) (Some w) h made m = h.0 ∙ ap signed_decimal (sym (made n w h.1 m))
plus_found p (Some n) None h made m = absurd m
plus_found p None r h made m = rw m (λ w e. never_empty w (sym h ∙ e))

-- bytes with a minus in front
minus_tail : (t : List ℕ) (z : ℤ) → mag z < 2147483648 → 45 ∷ t ≡ signed_decimal z → (x : ℕ) × (x < 2147483648) × (t ≡ decimal (suc x))
minus_tail t (pos x) h e = absurd (omega (arith, digit_first x (omega arith), ap (λ y. slice_index y 0) e))
minus_tail t (negsuc x) h e = (x, h, ap (drop 1) e)

pub minus_longest : (t : List ℕ) (k n : ℕ) → LeadsNumber t 2147483648 (record { length = k; value = Some n }) → 0 < n → Longest weight_literal (45 ∷ t) (suc k)
minus_longest t k n l some =
    longest_by {literal = weight_literal} (45 ∷ t) (suc k) (omega (arith, l.within))
    (weight (negsuc (n - 1)) (omega (arith, l.found.1)), [], ap (λ y. 45 ∷ y) (append-nil (take k t) ∙ l.found.0 ∙ ap decimal (omega arith)))
    (λ j h le b.
    let w = begins_shorter (45 ∷ t) j (suc (suc k)) (omega arith) b in
    let m = minus_tail (take (suc k) t ++ w.1) w.0.value w.0.fits w.2 in
    let v = decimal_front (suc m.0) (omega (arith, m.1)) (take (suc k) t) w.1 m.2 (omega (arith, length-take-le (suc k) t (omega arith))) in
    l.stops (omega arith) v.0 (omega (arith, v.1, m.1)) (rw add-one v.2))

-- no more than the minus, where no number above 0 follows it
no_negative : (t : List ℕ) (k : ℕ) (o : Option ℕ) → LeadsNumber t 2147483648 (record { length = k; value = o }) → ((n : ℕ) → o ≡ Some n → n ≡ 0) → 0 < length t
    → (x : ℕ) → x < 2147483648 → (rest : List ℕ) → take 1 t ++ rest ≢ decimal (suc x)
no_negative t k None l none some x small rest e =
    let k0 : k ≡ 0 = omega (arith, length-take-le k t l.within, ap length l.found) in
    let v = decimal_front (suc x) (omega arith) (take 1 t) rest e (omega (arith, length-take-le 1 t (omega arith))) in
    l.stops (omega arith) v.0 (omega (arith, v.1)) (ap (λ i. take (i + 1) t) k0 ∙ v.2)
no_negative t k (Some n) l none some x small rest e =
    let zero_text : take k t ≡ 48 ∷ [] = l.found.0 ∙ ap decimal (none n refl) ∙ decimal_digit 0 (omega arith) in
    let long : k ≡ 1 = omega (arith, length-take-le k t l.within, ap length zero_text) in
    let zero_first : slice_index_or t 0 0 ≡ 48 = sym (get_or-take k t 0 0 (omega arith)) ∙ ap (λ y. slice_index y 0) zero_text in
    let first : slice_index_or t 0 0 ≡ slice_index_or (decimal (suc x)) 0 0 = sym (get_or-take 1 t 0 0 (omega arith)) ∙ sym (get_or_append_left (take 1 t) rest 0 0 (omega (arith, length-take-le 1 t (omega arith)))) ∙ ap (λ y. slice_index y 0) e in
    omega (arith, first_decimal (suc x) (omega arith) (omega arith))

pub minus_alone : (t : List ℕ) (lead : Lead ℕ) → LeadsNumber t 2147483648 lead → ((n : ℕ) → lead.value ≡ Some n → n ≡ 0) → Longest weight_literal (45 ∷ t) 1
minus_alone t lead l none = longest_by {literal = weight_literal} (45 ∷ t) 1 (omega arith)
    (weight (negsuc 0) (omega arith), decimal 1, refl)
    (λ j h le b.
    let w = begins_shorter (45 ∷ t) j 2 (omega arith) b in
    let m = minus_tail (take 1 t ++ w.1) w.0.value w.0.fits w.2 in
    no_negative t lead.length lead.value l none (omega arith) m.0 m.1 w.1 m.2)

-- a minus alone is no literal
pub never_minus : (w : Weight) → 45 ∷ [] ≢ weight_literal w
never_minus w e =
    let m = minus_tail [] w.value w.fits e in omega (arith, decimal_nonempty (suc m.0) (omega (arith, m.1)), ap length m.2)

-- what a number above 0 after a minus is as a weight
pub minus_found : {F : ℤ → Weight → Type 0} (t : List ℕ) (k n : ℕ) (v : Option ℤ) (r : Option Weight) → n ≤ 2147483648 → 0 < n → take k t ≡ decimal n
    → SomeIff v (FitsSigned w32 (pos 0 -ℤ pos n)) (pos 0 -ℤ pos n) → ((z : ℤ) (w : Weight) → F z w → w.value ≡ z) → MatchOption v (r ≡ None) (λ z. IsSomeAnd r (F z))
    → Found weight_literal (45 ∷ take k t) r
minus_found t k zero v r le some e whole made m = absurd (omega arith)
minus_found t k (suc n) (Some z) (Some w) le some e whole made m =
    let v : pos 0 -ℤ pos (suc n) ≡ negsuc n = omega (arith, ints) in
    ap (λ y. 45 ∷ y) e ∙ ap signed_decimal (sym (made z w m ∙ whole.1 ∙ v))
minus_found t k (suc n) (Some z) None le some e whole made m = absurd m
minus_found t k (suc n) None r le some e whole made m = absurd (whole (search rules))
