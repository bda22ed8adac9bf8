-- The ranges of a script's numbers.
use Rattle.std.specs.Prelude.{◌≡◌, ℕ, ◌<◌, ◌≤◌, List, ℤ, decimal}
use Rattle.std.specs.Int.Signed.{mag}
use Rattle.std.specs.Fmt.{signed_decimal}
use Rattle.tokens.specs.Places.{Nowhere}
use Rattle.grammar.specs.declared.words.Use.{Use}
use Rattle.grammar.specs.declared.words.Use.TheVariants.{Bracket, Head, Test, Number, Literal}
use Rattle.grammar.specs.declared.words.NumberUse.{NumberUse}
use Rattle.grammar.specs.declared.words.NumberUse.TheVariants.{NewPort, NewBody, SendPort, RecvPort, SpawnBody, NackBody, Delay, Addend}
use Rattle.grammar.specs.Grammar.{Part}
use Rattle.grammar.specs.Parts.{bytes}
use Rattle.passes.specs.Parts.{nth}

abbrev pub last_port : ℕ
last_port = 15

abbrev pub last_body : ℕ
last_body = 31

-- a day, in milliseconds
abbrev pub longest_delay : ℕ
longest_delay = 86400000

-- the bytes write a number up to max
abbrev pub NumberUpto : ℕ → List ℕ → Type 0
NumberUpto max bs = (n : ℕ) × (n ≤ max) × (bs ≡ decimal n)

-- the bytes write a signed number of 32 bits
abbrev pub SignedNumber : List ℕ → Type 0
SignedNumber bs = (z : ℤ) × (mag z < 2147483648) × (bs ≡ signed_decimal z)

abbrev pub InRange : NumberUse → List ℕ → Type 0
InRange (NewPort k) bs = NumberUpto last_port bs
InRange SendPort bs = NumberUpto last_port bs
InRange RecvPort bs = NumberUpto last_port bs
InRange NewBody bs = NumberUpto last_body bs
InRange SpawnBody bs = NumberUpto last_body bs
InRange NackBody bs = NumberUpto last_body bs
InRange Delay bs = NumberUpto longest_delay bs
InRange Addend bs = SignedNumber bs

abbrev pub Ranged : Use → List ℕ → Type 0
Ranged (Number u) bs = InRange u bs
Ranged (Bracket u) bs = Unit {0}
Ranged (Head k) bs = Unit {0}
Ranged (Test t) bs = Unit {0}
Ranged (Literal u) bs = Unit {0}

-- the k-th token is a number out of its range
abbrev pub IsOutOfRange : List Part → ℕ → Type 0
IsOutOfRange ps k = Ranged (nth ps k).purpose (bytes (nth ps k)) → ⊥

-- no number is out of its range
abbrev pub AllRanged : List Part → Type 0
AllRanged ps = Nowhere (IsOutOfRange ps)
