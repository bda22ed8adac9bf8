-- Base event kinds: what one means, how it replies to a poll, what every kind shows of its replies, and what its operations do to its meaning.
use Rattle.std.specs.Prelude.{◌≡◌, ℕ, ◌<◌, Bool, true, false, cond, not, ◌&&◌, ◌||◌, ◌≢◌, ◌⊎◌, List, [], ◌∷◌, ◌++◌, length, Some, None, filter, Option, ◌==◌, nat_lt}
use mathlib.Core.List.{Memᴰ}
use Rattle.rules.specs.declared.offer.Side.{Side}
use Rattle.rules.specs.declared.offer.Side.TheVariants.{Give, Take}
use Rattle.rules.specs.declared.offer.Offer.{Offer}
use Rattle.rules.specs.declared.offer.Reply.{Reply}
use Rattle.rules.specs.declared.offer.Reply.TheVariants.{Closed, Alone, With}

-- the offers that wait, in order of enrolment; what each port holds, oldest first; and the clock that the kind was told
pub record Meaning (X : Type 0) : Type 0 where
  pub offers : List Offer
  pub held : ℕ → List X
  pub clock : ℕ

-- A poll goes by the offers that wait, the numbers held and the clock, and by nothing else.
pub record Kind : Type 0 where
  pub poll : List Offer → (ℕ → ℕ) → ℕ → Offer → Reply
  -- whether a port can ever hold a message, and whether a take leaves the message there
  pub holds : Bool
  pub keeps : Bool

abbrev pub other : Side → Side
other Give = Take
other Take = Give

-- the leaf `l` of the sync `s` is a possible partner: it waits, of another sync, at the same port and on the other side
pub record Partner (os : List Offer) (o : Offer) (s l : ℕ) : Type 0 where
  pub it : Offer
  pub waits : Memᴰ it os
  pub its_sync : it.sync ≡ s
  pub its_leaf : it.leaf ≡ l
  pub another : s ≢ o.sync
  pub same_port : it.port ≡ o.port
  pub other_side : it.side ≡ other o.side

-- what every kind shows of its replies, where a port may hold `limit` messages
pub record Lawful (limit : ℕ) (K : Kind) : Type 0 where
  pub waits : (os : List Offer) (h : ℕ → ℕ) (k : ℕ) (o : Offer) → K.poll os h k o ≢ Closed → Memᴰ o os
  pub partner : (os : List Offer) (h : ℕ → ℕ) (k : ℕ) (o : Offer) (s l : ℕ) → K.poll os h k o ≡ With s l → Partner os o s l
  pub give_alone : (os : List Offer) (h : ℕ → ℕ) (k : ℕ) (o : Offer) → o.side ≡ Give → K.poll os h k o ≡ Alone → (h o.port < limit) × (K.holds ≡ true)
  pub take_alone : (os : List Offer) (h : ℕ → ℕ) (k : ℕ) (o : Offer) → o.side ≡ Take → K.poll os h k o ≡ Alone → (0 < h o.port) ⊎ (K.holds ≡ false)

abbrev pub fresh : {X : Type 0} → Meaning X
fresh = record { offers = []; held = λ p. []; clock = 0 }

-- A kind has room for the offers of every leaf that can wait, and of one post.
abbrev pub most_offers : ℕ
most_offers = 1025

abbrev pub leaf_waits : ℕ → ℕ → List Offer → Bool
leaf_waits s l [] = false
leaf_waits s l (o ∷ os) = (o.sync == s && o.leaf == l) || leaf_waits s l os

-- whether an enrolment is accepted; a refused one changes nothing
abbrev pub accepts : List Offer → Offer → Bool
accepts os o = nat_lt (length os) most_offers && not (leaf_waits o.sync o.leaf os)

abbrev pub with_offers : {X : Type 0} → List Offer → Meaning X → Meaning X
with_offers os μ = record { offers = os; held = μ.held; clock = μ.clock }

abbrev pub enrolled : {X : Type 0} → Offer → Meaning X → Meaning X
enrolled o μ = with_offers (cond (accepts μ.offers o) (μ.offers ++ (o ∷ [])) μ.offers) μ

abbrev pub enrolled_each : {X : Type 0} → List Offer → Meaning X → Meaning X
enrolled_each [] μ = μ
enrolled_each (o ∷ os) μ = enrolled_each os (enrolled o μ)

abbrev pub withdrawn : {X : Type 0} → ℕ → Meaning X → Meaning X
withdrawn s μ = with_offers (filter (λ o. not (o.sync == s)) μ.offers) μ

abbrev pub told : {X : Type 0} → ℕ → Meaning X → Meaning X
told k μ = record { offers = μ.offers; held = μ.held; clock = k }

abbrev pub polled : {X : Type 0} → Kind → Meaning X → Offer → Reply
polled K μ o = K.poll μ.offers (λ p. length (μ.held p)) μ.clock o

abbrev pub oldest : {X : Type 0} → List X → Option X
oldest [] = None
oldest (x ∷ xs) = Some x

abbrev pub younger : {X : Type 0} → List X → List X
younger [] = []
younger (x ∷ xs) = xs

-- what a port holds after a commit that carries out the reply
abbrev pub held_after : {X : Type 0} → Bool → Reply → Side → X → List X → List X
held_after keeps Closed side x xs = xs
held_after keeps (With s l) side x xs = xs
held_after keeps Alone Give x xs = xs ++ (x ∷ [])
held_after keeps Alone Take x xs = cond keeps xs (younger xs)

-- what such a commit hands over
abbrev pub handed : {X : Type 0} → Reply → Side → List X → Option X
handed Closed side xs = None
handed (With s l) side xs = None
handed Alone Give xs = None
handed Alone Take xs = oldest xs

abbrev pub committed : {X : Type 0} → Kind → Offer → X → Meaning X → Meaning X
committed K o x μ = record {
  offers = μ.offers;
  held = λ p. cond (p == o.port) (held_after K.keeps (polled K μ o) o.side x (μ.held p)) (μ.held p);
  clock = μ.clock;
}

abbrev pub hands_over : {X : Type 0} → Kind → Offer → Meaning X → Option X
hands_over K o μ = handed (polled K μ o) o.side (μ.held o.port)
