-- The literals of a script are those of messages.
use Rattle.std.specs.Prelude.{◌≡◌, ℕ, List}
use Rattle.grammar.specs.declared.words.Use.{Use}
use Rattle.grammar.specs.declared.words.Use.TheVariants.{Bracket, Head, Test, Number, Literal}
use Rattle.grammar.specs.Grammar.{Part}
use Rattle.grammar.specs.Parts.{bytes}
use Rattle.passes.specs.Parts.{nth}

abbrev pub MessageFor : {M : Type 0} → (M → List ℕ) → Use → List ℕ → Type 0
MessageFor {M} literal (Literal u) bs = (m : M) × (bs ≡ literal m)
MessageFor literal (Bracket u) bs = Unit {0}
MessageFor literal (Head k) bs = Unit {0}
MessageFor literal (Test t) bs = Unit {0}
MessageFor literal (Number u) bs = Unit {0}

-- the k-th token is a literal, and no message's
abbrev pub NoMessage : {M : Type 0} → (M → List ℕ) → List Part → ℕ → Type 0
NoMessage literal ps k = MessageFor literal (nth ps k).purpose (bytes (nth ps k)) → ⊥
