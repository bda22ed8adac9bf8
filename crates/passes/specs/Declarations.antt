-- Ports and bodies in the code.
use Rattle.std.specs.Prelude.{◌≡◌, ℕ, ◌<◌, ◌≤◌, Bool, true, false, not, ◌⊎◌, List, Some, None, decimal, IsTrue, ◌↔◌, Option, ◌≢◌, slice_index_or}
use Rattle.grammar.specs.declared.words.NumberUse.{NumberUse}
use Rattle.grammar.specs.Grammar.{Part}
use Rattle.grammar.specs.Parts.{bytes}
use Rattle.passes.specs.declared.names.Declared.{Declared}
use Rattle.passes.specs.declared.names.Name as code
use Rattle.passes.specs.declared.names.Name.TheVariants.{Port, Body}
use Rattle.passes.specs.Ranges.{last_port, last_body, Ranged}
use Rattle.passes.specs.Names.{Name, port, body, declares, names, by_number, declared_at}

abbrev pub spelled : code.Name → Name
spelled (Port n) = port (decimal n)
spelled (Body n) = body (decimal n)

-- it is in range
abbrev pub Small : code.Name → Type 0
Small (Port n) = n ≤ last_port
Small (Body n) = n ≤ last_body

-- what a token declares, or names; none where its number is out of range
abbrev pub Mentions : (NumberUse → List ℕ → Option Name) → Part → Option code.Name → Type 0
Mentions f p (Some x) = Small x × (by_number f p.purpose (bytes p) ≡ Some (spelled x))
Mentions f p None = (Ranged p.purpose (bytes p) → ⊥) ⊎ (by_number f p.purpose (bytes p) ≡ None)

abbrev pub holds : Declared → code.Name → Bool
holds d (Port n) = slice_index_or d.ports n false
holds d (Body n) = slice_index_or d.bodies n false

abbrev pub Empty : Declared → Type 0
Empty d = (x : code.Name) → holds d x ≡ false

-- the same names and x
pub record Added (d : Declared) (x : code.Name) (later : Declared) : Type 0 where
  pub here : holds later x ≡ true
  pub others : (y : code.Name) → (y ≢ x) → holds later y ≡ holds d y

-- what was declared is added, and r says whether it was there
abbrev pub Taken : Option Name → Declared → Declared → Bool → Type 0
Taken (Some m) d later r = (x : code.Name) × Small x × (m ≡ spelled x) × Added d x later × (r ≡ holds d x)
Taken None d later r = (later ≡ d) × (r ≡ false)

abbrev pub Declaring : Part → Declared → Declared → Bool → Type 0
Declaring p d later r = (Ranged p.purpose (bytes p) → ⊥) ⊎ Taken (by_number declares p.purpose (bytes p)) d later r

-- r says whether what was named is not there
abbrev pub Missed : Option Name → Declared → Bool → Type 0
Missed (Some m) d r = (x : code.Name) × Small x × (m ≡ spelled x) × (r ≡ not (holds d x))
Missed None d r = r ≡ false

abbrev pub Lacking : Part → Declared → Bool → Type 0
Lacking p d r = (Ranged p.purpose (bytes p) → ⊥) ⊎ Missed (by_number names p.purpose (bytes p)) d r

-- those that the first n tokens declare
abbrev pub Knows : List Part → ℕ → Declared → Type 0
Knows ps n d = (x : code.Name) → Small x → IsTrue (holds d x) ↔ ((j : ℕ) × (j < n) × (declared_at ps j ≡ Some (spelled x)))

-- those that any token declares
abbrev pub KnowsAll : List Part → Declared → Type 0
KnowsAll ps d = (x : code.Name) → Small x → IsTrue (holds d x) ↔ ((j : ℕ) × (declared_at ps j ≡ Some (spelled x)))
