-- What the verdict on a text says.
use Rattle.std.specs.Prelude.{ℕ, List, Ok, Err, Result}
use Rattle.tokens.specs.declared.text.TextFault.{TextFault}
use Rattle.tokens.specs.declared.text.TextFault.TheVariants.{TooLong, ForeignByte, TooDeep}
use Rattle.tokens.specs.Places.{First, Nowhere}
use Rattle.tokens.specs.Text.{longest_text, IsTooLong, IsForeignByte, IsTooDeep}

abbrev pub text_number : TextFault → ℕ
text_number TooLong = 1
text_number (ForeignByte at) = 2
text_number (TooDeep at) = 3

abbrev pub text_place : TextFault → ℕ
text_place TooLong = longest_text
text_place (ForeignByte at) = at
text_place (TooDeep at) = at

-- A text passes where none of the three faults holds anywhere. Otherwise the fault is the first of the
-- three that holds somewhere, at the smallest place at which it does.
abbrev pub TextVerdict : {T : Type 0} → List ℕ → Result T TextFault → Type 0
TextVerdict s (Ok x) = Nowhere (IsTooLong s) × Nowhere (IsForeignByte s) × Nowhere (IsTooDeep s)
TextVerdict s (Err TooLong) = First (IsTooLong s) longest_text
TextVerdict s (Err (ForeignByte at)) = Nowhere (IsTooLong s) × First (IsForeignByte s) at
TextVerdict s (Err (TooDeep at)) = Nowhere (IsTooLong s) × Nowhere (IsForeignByte s) × First (IsTooDeep s) at
