-- The soonest due time of the closed offers is the smallest.
use Rattle.std.proofs.Common.{◌≡◌, ℕ, ◌≤◌, false, leb, ◌≢◌, List, [], ◌∷◌, Some, None, Option, sym, refl, subst, arith}
use mathlib.Core.List.Memᴰ
use mathlib.Core.List.{Memᴰ}
use Rattle.std.proofs.lemmas.Bool.{leb-true, leb-false, cond_both}
use Rattle.rules.specs.declared.offer.Offer.{Offer}
use Rattle.rules.specs.declared.offer.Reply.{Reply}
use Rattle.rules.specs.declared.offer.Reply.TheVariants.{Closed}
use Rattle.rules.specs.Kinds.{Kind, Meaning, polled}
use Rattle.rules.specs.Able.{opens, sooner_of, soonest_closed}
use Rattle.rules.specs.Laws.{SoonestLaw}
use Rattle.rules.proofs.Ability.{opens_open}

opens_false : (r : Reply) → opens r ≡ false → r ≡ Closed
opens_false r e = grind arith

module _ {X : Type 0} (K : Kind) (μ : Meaning X) where
  -- what holds of each closed offer
  abbrev EachClosed : (Offer → Type 0) → List Offer → Type 0
  EachClosed P os = (o : Offer) → Memᴰ o os → polled K μ o ≡ Closed → P o

  -- some closed offer is due at `d`
  abbrev DueAt : List Offer → ℕ → Type 0
  DueAt os d = (o : Offer) × Memᴰ o os × (polled K μ o ≡ Closed) × (o.due ≡ d)

  -- what the soonest due time says of the offers
  abbrev Soonest : List Offer → Option ℕ → Type 0
  Soonest os None = EachClosed (λ o. ⊥) os
  Soonest os (Some d) = DueAt os d × EachClosed (λ o. d ≤ o.due) os

  -- one more offer

  each_more : (P : Offer → Type 0) (o : Offer) (os : List Offer) → (polled K μ o ≡ Closed → P o) → EachClosed P os → EachClosed P (o ∷ os)
  each_more P o os f g q (Memᴰ.head e) c = subst P (sym e) (f (rw e at c))
  each_more P o os f g q (Memᴰ.tail m) c = g q m c

  due_later : (o : Offer) (os : List Offer) (d : ℕ) → DueAt os d → DueAt (o ∷ os) d
  due_later o os d p = (p.0, Memᴰ.tail p.1, p.2, p.3)

  open_more : (o : Offer) (os : List Offer) (x : Option ℕ) → polled K μ o ≢ Closed → Soonest os x → Soonest (o ∷ os) x
  open_more o os None n h = each_more _ o os n h
  open_more o os (Some d) n h = (due_later o os d h.0, each_more _ o os (λ c. absurd (n c)) h.1)

  closed_more : (o : Offer) (os : List Offer) (x : Option ℕ) → polled K μ o ≡ Closed → Soonest os x → Soonest (o ∷ os) (sooner_of o.due x)
  closed_more o os None c h = ((o, Memᴰ.head refl, c, refl), each_more _ o os (λ _. omega arith) (λ q m k. absurd (h q m k)))
  closed_more o os (Some d) c h = cond_both (leb o.due d) o.due d (λ e. Soonest (o ∷ os) (Some e))
      (λ l. let a = leb-true o.due d l in ((o, Memᴰ.head refl, c, refl), each_more _ o os (λ _. omega arith) (λ q m k. let b = h.1 q m k in omega arith)))
      (λ l. let a = leb-false o.due d l in (due_later o os d h.0, each_more _ o os (λ _. omega arith) h.1))

  soonest : (os : List Offer) → Soonest os (soonest_closed K μ os)
  soonest [] = λ q m c. Memᴰ.not-nil m
  soonest (o ∷ os) = let h = soonest os in
      cond_both (opens (polled K μ o)) (soonest_closed K μ os) (sooner_of o.due (soonest_closed K μ os)) (Soonest (o ∷ os))
      (λ e. open_more o os _ (opens_open _ e) h)
      (λ e. closed_more o os _ (opens_false _ e) h)

  none_closed : (os : List Offer) (x : Option ℕ) → Soonest os x → EachClosed (λ o. ⊥) os → x ≡ None
  none_closed os None h f = refl
  none_closed os (Some d) h f = absurd (f h.0.0 h.0.1 h.0.2)

pub soonest_law : (X : Type 0) → SoonestLaw X
soonest_law X = record {
  some = λ K μ os d e. subst (Soonest K μ os) e (soonest K μ os);
  none = λ K μ os. (λ e. subst (Soonest K μ os) e (soonest K μ os), none_closed K μ os _ (soonest K μ os));
}
