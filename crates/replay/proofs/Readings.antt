-- The literals of the worked cases.
use Rattle.std.proofs.Common.{Some, None, ℕ, ◌≤◌, [], ◌∷◌, pos, Ok, Err, codes, sym, refl, subst, arith, lit<}
use Rattle.std.specs.Fmt.{digits}
use Rattle.std.specs.List.{AllByRecursion}
use Rattle.std.proofs.lemmas.Fmt.{decimal_injective}
use Rattle.message.specs.Literals.{Reads}
use Rattle.message.specs.Numerals.{LeadsNumber}
use Rattle.message.specs.declared.literal.Lead.{Lead}
use Rattle.message.specs.Weights.{weight, weight_literal}
use Rattle.message.proofs.Fronts.{short_fault}
use Rattle.message.specs.Plains.{signed_all}
use Rattle.message.proofs.Weighing.{plus_longest, minus_alone}

pub largest_reads : Reads weight_literal (codes "2147483647") (Ok (weight (pos 2147483647) (lit< tt)))
unfolding digits
largest_reads = refl

-- the front of nine digits is a numeral, and all ten are one past the largest
abbrev nine : Lead ℕ
nine = record { length = 9; value = Some 214748364 }

nine_digits : LeadsNumber (codes "2147483648") 2147483647 nine
unfolding digits
nine_digits = record {
  within = omega arith;
  found = (refl, omega arith);
  stops = λ h m le e. omega (arith, decimal_injective 2147483648 m (omega arith) (omega arith) e);
}

pub too_large_reads : Reads weight_literal (codes "2147483648") (Err (record { at = 9 }))
too_large_reads = short_fault (plus_longest (codes "2147483648") nine nine_digits (λ h e. omega arith)) (omega arith)

abbrev zero_lead : Lead ℕ
zero_lead = record { length = 1; value = Some 0 }

zero_alone : LeadsNumber (48 ∷ []) 2147483648 zero_lead
unfolding digits
zero_alone = record {
  within = omega arith;
  found = (refl, omega arith);
  stops = λ h. absurd (omega arith);
}

pub minus_zero_reads : Reads weight_literal (codes "-0") (Err (record { at = 1 }))
minus_zero_reads = short_fault (minus_alone (48 ∷ []) zero_lead zero_alone (λ n e. grind arith)) (omega arith)

abbrev nothing : Lead ℕ
nothing = record { length = 0; value = None }

-- no numeral begins with a letter
no_digit : LeadsNumber (codes "x") 2147483647 nothing
no_digit = record {
  within = omega arith;
  found = refl;
  stops = λ h m le e. let marks = subst (AllByRecursion (λ b. b ≤ 57)) (sym e) (signed_all (λ b. b ≤ 57) (omega arith) (λ d low high. high) (pos m) (omega arith)) in omega (arith, marks.0);
}

pub letter_reads : Reads weight_literal (codes "x") (Err (record { at = 0 }))
letter_reads = short_fault (plus_longest (codes "x") nothing no_digit (λ h e. omega arith)) (omega arith)
