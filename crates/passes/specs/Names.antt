-- Ports and bodies are declared once, and those that are named are declared; so is body 0.
use Rattle.std.specs.Prelude.{◌≡◌, ℕ, ◌<◌, ◌⊎◌, List, length, Some, None, codes, Option, ◌≢◌}
use Rattle.grammar.specs.declared.words.Use.{Use}
use Rattle.grammar.specs.declared.words.Use.TheVariants.{Bracket, Head, Test, Number, Literal}
use Rattle.grammar.specs.declared.words.NumberUse.{NumberUse}
use Rattle.grammar.specs.declared.words.NumberUse.TheVariants.{NewPort, NewBody, SendPort, RecvPort, SpawnBody, NackBody, Delay, Addend}
use Rattle.grammar.specs.Grammar.{Part}
use Rattle.grammar.specs.Parts.{bytes}
use Rattle.passes.specs.Parts.{nth}

-- a port or a body by its number, which is spelled in one way only
pub data Name : Type 0 where
  port body : List ℕ → Name

abbrev pub declares : NumberUse → List ℕ → Option Name
declares (NewPort k) bs = Some (port bs)
declares NewBody bs = Some (body bs)
declares SendPort bs = None
declares RecvPort bs = None
declares SpawnBody bs = None
declares NackBody bs = None
declares Delay bs = None
declares Addend bs = None

abbrev pub names : NumberUse → List ℕ → Option Name
names SendPort bs = Some (port bs)
names RecvPort bs = Some (port bs)
names SpawnBody bs = Some (body bs)
names NackBody bs = Some (body bs)
names (NewPort k) bs = None
names NewBody bs = None
names Delay bs = None
names Addend bs = None

abbrev pub by_number : (NumberUse → List ℕ → Option Name) → Use → List ℕ → Option Name
by_number f (Number u) bs = f u bs
by_number f (Bracket u) bs = None
by_number f (Head k) bs = None
by_number f (Test t) bs = None
by_number f (Literal u) bs = None

-- what the k-th token declares, and what it names
abbrev pub declared_at : List Part → ℕ → Option Name
declared_at ps k = by_number declares (nth ps k).purpose (bytes (nth ps k))

abbrev pub named_at : List Part → ℕ → Option Name
named_at ps k = by_number names (nth ps k).purpose (bytes (nth ps k))

abbrev pub DeclaredAgain : List Part → ℕ → Type 0
DeclaredAgain ps k = (n : Name) × (declared_at ps k ≡ Some n) × ((j : ℕ) × (j < k) × (declared_at ps j ≡ Some n))

abbrev pub NamesNothing : List Part → ℕ → Type 0
NamesNothing ps k = (n : Name) × (named_at ps k ≡ Some n) × ((j : ℕ) → declared_at ps j ≢ Some n)

-- at the end, body 0 was not declared
abbrev pub NoBody0 : List Part → ℕ → Type 0
NoBody0 ps k = (k ≡ length ps) × ((j : ℕ) → declared_at ps j ≢ Some (body (codes "0")))

abbrev pub Misnamed : List Part → ℕ → Type 0
Misnamed ps k = DeclaredAgain ps k ⊎ (NamesNothing ps k ⊎ NoBody0 ps k)
