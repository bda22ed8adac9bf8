-- A weight: a signed number of 32 bits.
use Rattle.std.specs.Prelude.{ℕ, ◌<◌, List, ℤ, pos, negsuc, ◌+ℤ◌}
use Rattle.std.proofs.Common.{arith, lit<}
use Rattle.std.specs.Int.Signed.{mag}
use Rattle.std.specs.Fmt.{signed_decimal}
use Rattle.std.specs.Int.{saturate_to_bits}
use Rattle.message.specs.declared.weight.Weight.{Weight}

abbrev pub weight : (z : ℤ) → mag z < 2147483648 → Weight
weight z h = record { value = z; fits = h }

abbrev pub weight_blank : Weight
weight_blank = weight (pos 0) (lit< tt)

abbrev pub weight_literal : Weight → List ℕ
weight_literal w = signed_decimal w.value

pub saturated_fits : (z : ℤ) → mag (saturate_to_bits 31 z) < 2147483648
saturated_fits (pos n) = omega arith
saturated_fits (negsuc n) = omega arith

-- the sum, or the end of 32 signed bits that it passes
abbrev pub weight_plus : Weight → ℤ → Weight
weight_plus w k = weight (saturate_to_bits 31 (w.value +ℤ k)) (saturated_fits (w.value +ℤ k))
