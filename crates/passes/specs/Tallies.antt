-- What the code counts.
use Rattle.std.specs.Prelude.{ℕ, ◌+◌, ◌^◌, ◌<◌, ◌≤◌, List, length, Option}
use Rattle.tokens.specs.Places.{Smallest}
use Rattle.tokens.specs.Tokens.{Lexeme}
use Rattle.grammar.specs.declared.words.Use.{Use}
use Rattle.grammar.specs.declared.words.Use.TheVariants.{Bracket, Head, Test, Number, Literal}
use Rattle.grammar.specs.Forms.{with_uses}
use Rattle.passes.specs.declared.limits.Counted as code
use Rattle.passes.specs.declared.limits.Counted.TheVariants.{Leaf, Nack, OtherEvent, Instr, Body, Other}
use Rattle.passes.specs.declared.limits.Tally as counts
use Rattle.passes.specs.Limits.{Counted, leaf, nack, other_event, instr, body, other, counted, Tally, IsOverLimit}

abbrev pub meant : code.Counted → Counted
meant Leaf = leaf
meant Nack = nack
meant OtherEvent = other_event
meant Instr = instr
meant Body = body
meant Other = other

abbrev pub tallied : counts.Tally → Tally
tallied t = record { events = t.events; leaves = t.leaves; nacks = t.nacks; instrs = t.instrs }

-- what a token counts as
abbrev pub counted_use : Use → Counted
counted_use (Head k) = counted k
counted_use (Bracket u) = other
counted_use (Test s) = other
counted_use (Number u) = other
counted_use (Literal u) = other

-- one more of each still fits
abbrev pub Room : counts.Tally → Type 0
Room t = (t.events + 1 < 2 ^ 64) × (t.leaves + 1 < 2 ^ 64) × (t.nacks + 1 < 2 ^ 64) × (t.instrs + 1 < 2 ^ 64)

-- the first one over its limit, whatever the tokens are that have these uses
abbrev pub FirstOver : List Use → Option ℕ → Type 0
FirstOver uses r = (ls : List Lexeme) → length uses ≤ length ls → Smallest (IsOverLimit (with_uses uses ls)) r
