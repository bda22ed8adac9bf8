-- The parts of a script by their number.
use Rattle.std.specs.Prelude.{ℕ, List, slice_index_or}
use Rattle.tokens.specs.Tokens.{closing}
use Rattle.grammar.specs.declared.words.Use.TheVariants.{Bracket}
use Rattle.grammar.specs.declared.words.BracketUse.TheVariants.{Close}
use Rattle.grammar.specs.Grammar.{Part, part}

-- the k-th part; past the end, a closing bracket, of which no rule below speaks
abbrev pub nth : List Part → ℕ → Part
nth ps k = slice_index_or ps k (part (Bracket Close) closing)
