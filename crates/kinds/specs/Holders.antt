-- Kinds that hold messages and never pair: they differ in how many a port may hold, and in whether a take keeps the message.
use Rattle.std.specs.Prelude.{ℕ, Bool, true, List, nat_lt, slice_index_or}
use Rattle.std.proofs.Common.{lit<, lit≤}
use Rattle.rules.specs.Kinds.{Kind}
use Rattle.rules.specs.Delivered.{if_waits, by_side}
use Rattle.kinds.specs.declared.ring.Ring.{Ring}
use Rattle.kinds.specs.Rings.{ring}

abbrev pub holder : ℕ → Bool → Kind
holder room keeps = record { poll = λ os h k o. if_waits o os (by_side o.side (nat_lt (h o.port) room) (nat_lt 0 (h o.port))); holds = true; keeps = keeps }

-- the ring of a port past the last, which holds nothing
abbrev pub empty : Ring
empty = record { first = 0; count = 0; inside = lit< tt; few = lit≤ tt }

-- what a port holds, where each port has a ring
abbrev pub held_in : List Ring → ℕ → List ℕ
held_in rings p = ring (slice_index_or rings p empty).first (slice_index_or rings p empty).count
