-- The offers that wait, as std's searches and comparisons see them.
use mathlib.Core.List.Memᴰ
use mathlib.Core.List.{Memᴰ}
use Rattle.std.proofs.Common.{◌≡◌, ℕ, true, false, cond, not, ◌&&◌, ◌||◌, List, [], ◌∷◌, map, Option, None, Some, option_map, filter, ◌==◌, MatchOption, min, Bor, ◌≢◌, refl, ap, subst, ◌∙◌, arith}
use Rattle.std.specs.List.{list_any, reduce, fold}
use Rattle.std.proofs.lemmas.Bool.{or_left, or_right}
use Rattle.std.proofs.lemmas.Bool.Decides.{nat_tests}
use Rattle.std.proofs.lemmas.List.Recursion.{same_from_clauses}
use Rattle.rules.specs.contracts.offer.OfferPartialEq.TheImpl.{ghosts as OfferEq}
use Rattle.rules.specs.contracts.offer.ReplyPartialEq.TheImpl.{ghosts as ReplyEq}
use Rattle.rules.specs.declared.offer.Offer.{Offer}
use Rattle.rules.specs.declared.offer.Reply.{Reply}
use Rattle.rules.specs.declared.offer.Reply.TheVariants.{Closed, With}
use Rattle.rules.specs.Kinds.{Kind, Lawful, Meaning, polled, leaf_waits}
use Rattle.rules.specs.Delivered.{same_offer, among, sooner, soonest_of, with_soonest}
use Rattle.rules.specs.Limits.{most_held}
use Rattle.rules.specs.Able.{opens, sooner_of, soonest_closed}

pub leaf_waits_any : (s l : ℕ) (os : List Offer) → leaf_waits s l os ≡ list_any (λ q. q.leaf == l) (filter (λ q. q.sync == s) os)
leaf_waits_any s l [] = refl
leaf_waits_any s l (o ∷ os) =
    let rest = leaf_waits_any s l os in
    elim (o.sync == s) as (λ b. (b && o.leaf == l) || leaf_waits s l os ≡ list_any (λ q. q.leaf == l) (cond b (o ∷ filter (λ q. q.sync == s) os) (filter (λ q. q.sync == s) os))) [
      | true ↦ ap (λ b. o.leaf == l || b) rest
      | false ↦ rest
    ]

-- The sync number, and then the equality that the code derives, are that of the rules.

same_offers : (q o : Offer) → (q.sync == o.sync && OfferEq.eq q o) ≡ same_offer o q
same_offers q o = grind (arith, nat_tests)

pub among_any : (o : Offer) (os : List Offer) → among o os ≡ list_any (λ q. q.sync == o.sync && OfferEq.eq q o) os
among_any o = same_from_clauses _ _ (λ q b. same_offer o q || b) refl (λ _ _. refl) (λ q qs. ap (λ a. a || list_any (λ q. q.sync == o.sync && OfferEq.eq q o) qs) (same_offers q o))

-- An offer that does not wait is closed, at any kind that keeps the laws.

same_itself : (o : Offer) → same_offer o o ≡ true
same_itself o = grind (arith, nat_tests)

among_member : (o : Offer) (os : List Offer) → Memᴰ o os → among o os ≡ true
among_member o [] m = absurd (Memᴰ.not-nil m)
among_member o (q ∷ qs) (Memᴰ.head e) = or_left _ _ (subst (λ r. same_offer o r ≡ true) e (same_itself o))
among_member o (q ∷ qs) (Memᴰ.tail m) = or_right _ _ (among_member o qs m)

shut_unless : (r : Reply) → (r ≢ Closed → ⊥) → r ≡ Closed
shut_unless r n = grind arith

pub shut_unless_waits : {K : Kind} → Lawful most_held K → (os : List Offer) (h : ℕ → ℕ) (k : ℕ) (o : Offer) → among o os ≡ false → K.poll os h k o ≡ Closed
shut_unless_waits l os h k o n = shut_unless _ (λ u. let waits = among_member o os (l.waits os h k o u) in cc)

-- the soonest of some partners

abbrev pub sooner_one : Offer → Offer → Offer
sooner_one q r = cond (sooner r q) r q

soonest_fold : (q : Offer) (qs : List Offer) → fold sooner_one q qs ≡ soonest_of q qs
soonest_fold q [] = refl
soonest_fold q (r ∷ rs) = soonest_fold (sooner_one q r) rs

pub sooner_picks : (q r : Bor Offer) → (cond (sooner r.now q.now) r q).now ≡ sooner_one q.now r.now
sooner_picks q r = elim (sooner r.now q.now) as (λ b. (cond b r q).now ≡ cond b r.now q.now) [ true ↦ refl | false ↦ refl ]

pub with_reduced : {Q : Bor Offer → Type 0} (qs : List Offer) (m : Option (Bor Offer)) (r : Reply) → option_map (λ q. q.now) m ≡ reduce sooner_one qs
    → MatchOption m (r ≡ Closed) Q → ((q : Bor Offer) → Q q → r ≡ With q.now.sync q.now.leaf) → r ≡ with_soonest qs
with_reduced [] None r e h k = h
with_reduced [] (Some q) r e h k = absurd (grind arith)
with_reduced (p ∷ ps) None r e h k = absurd (grind arith)
with_reduced (p ∷ ps) (Some q) r e h k = let same : q.now ≡ fold sooner_one p ps = cc in k q h ∙ ap (λ l. With l.sync l.leaf) (same ∙ soonest_fold p ps)

-- the smallest due time

pub closed_shut : (r : Reply) → ReplyEq.eq r Closed ≡ not (opens r)
closed_shut r = grind arith

fold_min : (d e : ℕ) (ns : List ℕ) → fold min (min d e) ns ≡ min d (fold min e ns)
fold_min d e [] = refl
fold_min d e (n ∷ ns) = let regroup : min (min d e) n ≡ min d (min e n) = omega arith in rw regroup (fold_min d (min e n) ns)

due_first : (d : ℕ) (ns : List ℕ) → reduce min (d ∷ ns) ≡ sooner_of d (reduce min ns)
due_first d [] = refl
due_first d (e ∷ ns) = rw (fold_min d e ns) (grind (arith, nat_tests))

pub closed_dues : {X : Type 0} (K : Kind) (μ : Meaning X) (os : List Offer)
    → reduce min (map (λ o. o.due) (filter (λ o. not (opens (polled K μ o))) os)) ≡ soonest_closed K μ os
closed_dues K μ [] = refl
closed_dues K μ (o ∷ os) =
    let later = filter (λ q. not (opens (polled K μ q))) os in
    let rest = closed_dues K μ os in
    elim (opens (polled K μ o)) as (λ b. reduce min (map (λ q. q.due) (cond (not b) (o ∷ later) later)) ≡ cond b (soonest_closed K μ os) (sooner_of o.due (soonest_closed K μ os))) [
      | true ↦ rest
      | false ↦ due_first o.due (map (λ q. q.due) later) ∙ ap (sooner_of o.due) rest
    ]
