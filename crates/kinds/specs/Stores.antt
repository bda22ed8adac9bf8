-- Where the messages that a port holds lie among its cells, and what a commit does there.
use Rattle.std.specs.Prelude.{◌≡◌, ℕ, ◌<◌, ◌≤◌, ◌≢◌, List, [], map, length, Option, slice_index_or}
use Rattle.std.specs.List.{AllByRecursion}
use Rattle.rules.specs.declared.offer.Offer.{Offer}
use Rattle.rules.specs.Limits.{most_held}
use Rattle.rules.specs.Kinds.{Meaning, Kind, polled, held_after, handed}

pub record Fresh (μ : Meaning ℕ) : Type 0 where
  pub offers : μ.offers ≡ []
  pub held : (p : ℕ) → μ.held p ≡ []
  pub clock : μ.clock ≡ 0

-- what a port holds has places among its cells
pub record Within (μ : Meaning ℕ) : Type 0 where
  pub few : (p : ℕ) → length (μ.held p) ≤ most_held
  pub places : (p : ℕ) → AllByRecursion (λ k. k < most_held) (μ.held p)

-- the messages at the places, in their order
abbrev pub messages : {M : Type 0} → M → List M → List ℕ → List M
messages d cells ks = map (λ k. slice_index_or cells k d) ks

-- a commit of an offer with a message, in the cells of the offer's port; `d` stands for what lies outside them
pub record Committed {M : Type 0} (K : Kind) (o : Offer) (m : M) (μ : Meaning ℕ) (cells : List M) (μ' : Meaning ℕ) (cells' : List M) (got : Option M) : Type 0 where
  pub offers : μ'.offers ≡ μ.offers
  pub clock : μ'.clock ≡ μ.clock
  pub elsewhere : (p : ℕ) → p ≢ o.port → μ'.held p ≡ μ.held p
  pub held : (d : M) → messages d cells' (μ'.held o.port) ≡ held_after K.keeps (polled K μ o) o.side m (messages d cells (μ.held o.port))
  pub hands : (d : M) → got ≡ handed (polled K μ o) o.side (messages d cells (μ.held o.port))
