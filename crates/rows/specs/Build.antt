-- What rows that are built hold.
use Rattle.std.specs.Prelude.{◌≡◌, ℕ, List}
use Rattle.tokens.specs.Places.{Nowhere}
use Rattle.grammar.specs.Grammar as g
use Rattle.grammar.specs.Grammar.{Part}
use Rattle.passes.specs.Ranges.{IsOutOfRange}
use Rattle.passes.specs.Messages.{NoMessage}
use Rattle.rows.specs.declared.row.Rows.{Rows}
use Rattle.rows.specs.Scripts.{Script, Within, spelling}
use Rattle.rows.specs.Rows.{Holds}

-- the script of these parts
pub record Built {M : Type 0} (literal : M → List ℕ) (ps : List Part) (r : Rows M) : Type 0 where
  pub script : Script M
  pub within : Within script
  pub written : g.script (spelling literal) script ≡ ps
  pub holds : Holds r script

-- where the parts are a script's as written, with its numbers in range and its literals messages'
abbrev pub Builds : {M : Type 0} → (M → List ℕ) → List Part → Rows M → Type 0
Builds literal ps r = (raw : g.Raw) → g.raw_parts raw ≡ ps → Nowhere (IsOutOfRange ps) → Nowhere (NoMessage literal ps) → Built literal ps r
