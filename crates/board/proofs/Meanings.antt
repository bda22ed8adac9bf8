-- What a commit among the cells means: the rules' own commit, over the messages in the cells.
use Rattle.std.proofs.Common.{◌≡◌, ℕ, ◌+◌, ◌-◌, ◌<◌, ◌≤◌, ◌≢◌, ◌⊎◌, inl, inr, eqb, List, [], take, drop, Option, refl, sym, ap, ◌∙◌, arith, take-take, drop-drop, Bool, true, false}
use Rattle.std.proofs.lemmas.Bool.{cases_lt, cond_both, eqb-true, eqb-false}
use Rattle.std.proofs.lemmas.List.{drop-take, length-map}
use Rattle.std.specs.Prelude.{slice_index_or}
use Rattle.rules.specs.declared.offer.Offer.{Offer}
use Rattle.rules.specs.Limits.{most_held}
use Rattle.rules.specs.Kinds.{Kind, Meaning, polled, held_after, handed, committed, hands_over}
use Rattle.kinds.specs.Stores.{messages, Committed}
use Rattle.board.specs.Cells.{port_start, port_cells, over}

-- the cells of the other ports

module _ {M : Type 0} (cells cells' : List M) (q : ℕ)
    (before : take (port_start q) cells' ≡ take (port_start q) cells)
    (behind : drop (port_start q + most_held) cells' ≡ drop (port_start q + most_held) cells) where
  earlier : (p : ℕ) → p < q → port_cells cells' p ≡ port_cells cells p
  earlier p lt = sym (part cells') ∙ ap (λ l. drop (port_start p) (take (port_start p + most_held) l)) before ∙ part cells
    where
      part : (l : List M) → drop (port_start p) (take (port_start p + most_held) (take (port_start q) l)) ≡ port_cells l p
      part l = ap (drop (port_start p)) (take-take (port_start p + most_held) (port_start q) l (omega arith)) ∙ drop-take (port_start p) most_held l

  later : (p : ℕ) → q < p → port_cells cells' p ≡ port_cells cells p
  later p lt = sym (part cells') ∙ ap (λ l. take most_held (drop (port_start p - (port_start q + most_held)) l)) behind ∙ part cells
    where
      there : (port_start q + most_held) + (port_start p - (port_start q + most_held)) ≡ port_start p
      there = omega arith

      part : (l : List M) → take most_held (drop (port_start p - (port_start q + most_held)) (drop (port_start q + most_held) l)) ≡ port_cells l p
      part l = ap (take most_held) (drop-drop _ (port_start q + most_held) l ∙ ap (λ n. drop n l) there)

  pub apart : (p : ℕ) → p ≢ q → port_cells cells' p ≡ port_cells cells p
  apart p n = go (cases_lt p q)
    where
      go : (p < q) ⊎ (q ≤ p) → port_cells cells' p ≡ port_cells cells p
      go (inl lt) = earlier p lt
      go (inr le) = later p (omega (arith, n))

-- meanings

same_meaning : {X : Type 0} (μ ν : Meaning X) → μ.offers ≡ ν.offers → ((p : ℕ) → μ.held p ≡ ν.held p) → μ.clock ≡ ν.clock → μ ≡ ν
same_meaning μ ν e h k = λ i. record { offers = e i; held = λ p. h p i; clock = k i }

polled_over : {M : Type 0} (K : Kind) (d : M) (cells : List M) (μ : Meaning ℕ) (o : Offer) → polled K (over d cells μ) o ≡ polled K μ o
polled_over K d cells μ o = λ i. K.poll μ.offers (λ p. length-map (μ.held p) (λ k. slice_index_or (port_cells cells p) k d) i) μ.clock o

module _ {M : Type 0} (K : Kind) (o : Offer) (m d : M) (μ μ' : Meaning ℕ) (cells cells' : List M) (got : Option M)
    (c : Committed K o m μ (port_cells cells o.port) μ' (port_cells cells' o.port) got) where
  pub hands_as : got ≡ hands_over K o (over d cells μ)
  hands_as = c.hands d ∙ sym (ap (λ r. handed r o.side (messages d (port_cells cells o.port) (μ.held o.port))) (polled_over K d cells μ o))

  pub means_as : ((p : ℕ) → p ≢ o.port → port_cells cells' p ≡ port_cells cells p) → over d cells' μ' ≡ committed K o m (over d cells μ)
  means_as far = same_meaning _ _ c.offers holds c.clock
    where
      here : messages d (port_cells cells' o.port) (μ'.held o.port) ≡ held_after K.keeps (polled K (over d cells μ) o) o.side m (messages d (port_cells cells o.port) (μ.held o.port))
      here = c.held d ∙ sym (ap (λ r. held_after K.keeps r o.side m (messages d (port_cells cells o.port) (μ.held o.port))) (polled_over K d cells μ o))

      holds : (p : ℕ) → (over d cells' μ').held p ≡ (committed K o m (over d cells μ)).held p
      holds p = cond_both (eqb p o.port) _ _ (λ l. messages d (port_cells cells' p) (μ'.held p) ≡ l)
          (λ e. let q = eqb-true p o.port e in rw q here)
          (λ e. let n : p ≢ o.port = eqb-false p o.port e in rw (far p n, c.elsewhere p n) refl)

-- a kind that holds nothing at the port
pub means_still : {M : Type 0} (d : M) (cells cells' : List M) (μ : Meaning ℕ) (q : ℕ) → ((p : ℕ) → p ≢ q → port_cells cells' p ≡ port_cells cells p) → μ.held q ≡ []
    → over d cells' μ ≡ over d cells μ
means_still d cells cells' μ q far none = same_meaning _ _ refl holds refl
  where
    holds : (p : ℕ) → (over d cells' μ).held p ≡ (over d cells μ).held p
    holds p = go (eqb p q) refl
      where
        go : (b : Bool) → eqb p q ≡ b → (over d cells' μ).held p ≡ (over d cells μ).held p
        go true e = let r = eqb-true p q e in let z : μ.held p ≡ [] = ap (λ x. μ.held x) r ∙ none in rw z refl
        go false e = ap (λ l. messages d l (μ.held p)) (far p (eqb-false p q e))
