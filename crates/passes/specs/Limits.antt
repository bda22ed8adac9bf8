-- How many events, leaves, with-nacks and instructions there may be.
use Rattle.std.specs.Prelude.{ℕ, ◌+◌, ◌≤◌, ◌⊎◌, List, [], ◌∷◌, take}
use Rattle.grammar.specs.declared.words.Keyword.{Keyword}
use Rattle.grammar.specs.declared.words.Keyword.TheVariants.{Channel, Mailbox, Ivar, Mvar, Task, Sync, Spawn, Emit, Again, Never, Always, Send, Recv, Timeout, Nack, Choose, Wrap, Guard, WithNack, Set, Add}
use Rattle.grammar.specs.declared.words.Use.{Use}
use Rattle.grammar.specs.declared.words.Use.TheVariants.{Bracket, Head, Test, Number, Literal}
use Rattle.grammar.specs.Grammar.{Part}
use Rattle.passes.specs.Parts.{nth}

-- in a script, in a sync, in a sync and in a body
abbrev pub most_events : ℕ
most_events = 1024

abbrev pub most_leaves : ℕ
most_leaves = 16

abbrev pub most_nacks : ℕ
most_nacks = 4

abbrev pub most_instrs : ℕ
most_instrs = 64

-- what a keyword counts as
pub data Counted : Type 0 where
  leaf nack other_event instr body other : Counted

abbrev pub counted : Keyword → Counted
counted Always = leaf
counted Send = leaf
counted Recv = leaf
counted Timeout = leaf
counted Nack = leaf
counted WithNack = nack
counted Never = other_event
counted Choose = other_event
counted Wrap = other_event
counted Guard = other_event
counted Sync = instr
counted Spawn = instr
counted Emit = instr
counted Again = instr
counted Channel = other
counted Mailbox = other
counted Ivar = other
counted Mvar = other
counted Task = body
counted Set = other
counted Add = other

-- how many there have been: events in all, leaves and with-nacks since the latest sync, instructions since the latest body
pub record Tally : Type 0 where
  pub events : ℕ
  pub leaves : ℕ
  pub nacks : ℕ
  pub instrs : ℕ

abbrev pub nothing_yet : Tally
nothing_yet = record { events = 0; leaves = 0; nacks = 0; instrs = 0 }

abbrev pub with_counted : Tally → Counted → Tally
with_counted t leaf = record { events = t.events + 1; leaves = t.leaves + 1; nacks = t.nacks; instrs = t.instrs }
with_counted t nack = record { events = t.events + 1; leaves = t.leaves; nacks = t.nacks + 1; instrs = t.instrs }
with_counted t other_event = record { events = t.events + 1; leaves = t.leaves; nacks = t.nacks; instrs = t.instrs }
with_counted t instr = record { events = t.events; leaves = 0; nacks = 0; instrs = t.instrs + 1 }
with_counted t body = record { events = t.events; leaves = t.leaves; nacks = t.nacks; instrs = 0 }
with_counted t other = t

abbrev pub with_use : Tally → Use → Tally
with_use t (Head k) = with_counted t (counted k)
with_use t (Bracket u) = t
with_use t (Test s) = t
with_use t (Number u) = t
with_use t (Literal u) = t

abbrev pub tally : Tally → List Part → Tally
tally t [] = t
tally t (p ∷ ps) = tally (with_use t p.purpose) ps

-- so many have been that one more is over the limit
abbrev pub Full : Tally → Counted → Type 0
Full t leaf = (most_events ≤ t.events) ⊎ (most_leaves ≤ t.leaves)
Full t nack = (most_events ≤ t.events) ⊎ (most_nacks ≤ t.nacks)
Full t other_event = most_events ≤ t.events
Full t instr = most_instrs ≤ t.instrs
Full t body = ⊥
Full t other = ⊥

abbrev pub FullFor : Tally → Use → Type 0
FullFor t (Head k) = Full t (counted k)
FullFor t (Bracket u) = ⊥
FullFor t (Test s) = ⊥
FullFor t (Number u) = ⊥
FullFor t (Literal u) = ⊥

-- the k-th token is the opening bracket of one too many: the keyword after it is counted
abbrev pub IsOverLimit : List Part → ℕ → Type 0
IsOverLimit ps k = FullFor (tally nothing_yet (take k ps)) (nth ps (k + 1)).purpose
