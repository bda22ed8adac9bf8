-- Rings of messages are within their cells; a variable is a holder of one message, and lawful.
use Rattle.std.specs.Prelude.{◌≡◌, ℕ, zero, suc, ◌+◌, ◌%◌, ◌<◌, Bool, true, false, List, length, ◌==◌, nat_lt, slice_index_or}
use Rattle.std.proofs.Common.{arith, lit<}
use Rattle.std.specs.List.{AllByRecursion}
use Rattle.std.proofs.lemmas.Bool.Decides.{nat_tests}
use Rattle.std.proofs.lemmas.List.FromFn.{length-map-range_with_len}
use Rattle.rules.specs.declared.offer.Offer.{Offer}
use Rattle.rules.specs.Limits.{most_held}
use Rattle.grammar.specs.declared.words.PortKind.TheVariants.{Ivar, Mvar}
use Rattle.rules.specs.declared.kind.BaseKind.TheVariants.{Port}
use Rattle.rules.specs.Kinds.{Lawful}
use Rattle.rules.proofs.DeliveredKinds.{delivered_lawful}
use Rattle.rules.specs.Delivered.{if_waits, by_side, variable}
use Rattle.kinds.specs.declared.ring.Ring.{Ring}
use Rattle.kinds.specs.Rings.{ring}
use Rattle.kinds.specs.Holders.{holder, empty, held_in}
use Rattle.kinds.specs.Stores.{Within}

pub length_ring : (f n : ℕ) → length (ring f n) ≡ n
length_ring f n = length-map-range_with_len (λ j. j % most_held) f n

ring_below : (f n : ℕ) → AllByRecursion (λ k. k < most_held) (ring f n)
ring_below f zero = tt
ring_below f (suc n) = (omega arith, ring_below (f + 1) n)

pub rings_within : (os : List Offer) (rings : List Ring) (clock : ℕ) → Within (record { offers = os; held = held_in rings; clock = clock })
rings_within os rings clock = record {
  few = λ p. let r = slice_index_or rings p empty in omega (arith, length_ring r.first r.count, r.few);
  places = λ p. ring_below _ _;
}

below_one : (n : ℕ) → nat_lt n 1 ≡ (n == 0)
below_one n = grind (arith, nat_tests)

pub holder_variable : (keeps : Bool) → holder 1 keeps ≡ variable keeps
holder_variable keeps = λ i. record {
  poll = λ os h k o. if_waits o os (by_side o.side (below_one (h o.port) i) (nat_lt 0 (h o.port)));
  holds = true;
  keeps = keeps;
}

pub variable_lawful : (keeps : Bool) → Lawful most_held (variable keeps)
variable_lawful true = delivered_lawful most_held (lit< tt) (Port Ivar)
variable_lawful false = delivered_lawful most_held (lit< tt) (Port Mvar)
