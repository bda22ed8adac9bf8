-- What a commit leaves as it was: all of a kind where the reply is not alone, and a kind that holds nothing.
use Rattle.std.proofs.Common.{◌≡◌, ℕ, Bool, false, ◌≢◌, List, [], Option, None, refl, arith}
use Rattle.rules.specs.declared.offer.Side.{Side}
use Rattle.rules.specs.declared.offer.Side.TheVariants.{Give}
use Rattle.rules.specs.Limits.{most_held}
use Rattle.rules.specs.declared.offer.Offer.{Offer}
use Rattle.rules.specs.declared.offer.Reply.{Reply}
use Rattle.rules.specs.declared.offer.Reply.TheVariants.{Closed, Alone, With}
use Rattle.rules.specs.Kinds.{Kind, Lawful, Meaning, polled, held_after, handed}
use Rattle.kinds.specs.Stores.{Committed}

-- A commit of a reply that is not alone does nothing.

pub held_unless : {M : Type 0} (keeps : Bool) (r : Reply) (d : Side) (m : M) (ms : List M) → r ≢ Alone → ms ≡ held_after keeps r d m ms
held_unless keeps Closed d m ms n = refl
held_unless keeps Alone d m ms n = absurd (n refl)
held_unless keeps (With s l) d m ms n = refl

pub handed_unless : {M : Type 0} (r : Reply) (d : Side) (ms : List M) → r ≢ Alone → None ≡ handed r d ms
handed_unless Closed d ms n = refl
handed_unless Alone d ms n = absurd (n refl)
handed_unless (With s l) d ms n = refl

pub committed_unless : {M : Type 0} (K : Kind) (o : Offer) (m : M) (μ : Meaning ℕ) (cells : List M) → polled K μ o ≢ Alone
    → Committed K o m μ cells μ cells None
committed_unless K o m μ cells n = record {
  offers = refl;
  clock = refl;
  elsewhere = λ p _. refl;
  held = λ d. held_unless K.keeps (polled K μ o) o.side m _ n;
  hands = λ d. handed_unless (polled K μ o) o.side _ n;
}

-- A kind that holds nothing goes on holding nothing, also where a take is alone.

nothing_after : {M : Type 0} (keeps : Bool) (r : Reply) (d : Side) (m : M) → (d ≡ Give → r ≢ Alone) → [] ≡ held_after keeps r d m []
nothing_after keeps r d m n = grind arith

nothing_handed : {M : Type 0} (r : Reply) (d : Side) → ◌≡◌ {A = Option M} None (handed r d [])
nothing_handed r d = grind arith

pub committed_bare : {M : Type 0} {K : Kind} → Lawful most_held K → K.holds ≡ false → (o : Offer) (m : M) (os : List Offer) (clock : ℕ) (cells : List M)
    → Committed K o m (record { offers = os; held = λ p. []; clock = clock }) cells (record { offers = os; held = λ p. []; clock = clock }) cells None
committed_bare {K = K} l e o m os clock cells = record {
  offers = refl;
  clock = refl;
  elsewhere = λ p _. refl;
  held = λ d. nothing_after K.keeps _ o.side m (λ g a. let held = (l.give_alone _ _ _ _ g a).1 in cc);
  hands = λ d. nothing_handed _ o.side;
}
