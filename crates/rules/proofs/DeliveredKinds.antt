-- What the delivered kinds reply: all keep the laws, a channel pairs with the smallest sync, and the others go by what is held or by the clock.
use Rattle.std.proofs.Common.{◌≡◌, ℕ, ◌<◌, ◌≤◌, Bool, true, false, cond, not, eqb, ltb, leb, ◌≢◌, ◌⊎◌, ◌↔◌, List, [], ◌∷◌, filter, sym, refl, ap, subst, inl, inr, arith}
use mathlib.Core.List.Memᴰ
use mathlib.Core.List.{Memᴰ}
use mathlib.Core.Logic.Iff
use Rattle.std.proofs.lemmas.Bool.{both_ways, and_parts, or_cases, or_left, or_right, eqb-true, eqb-false, eq-eqb, not-true, ltb-true, lt-ltb, leb-true, le-leb, cases_lt, cond_both}
use Rattle.grammar.specs.declared.words.PortKind.TheVariants.{Channel, Mailbox, Ivar, Mvar}
use Rattle.rules.specs.declared.kind.BaseKind.TheVariants.{Port, Timeout}
use Rattle.rules.specs.declared.offer.Side.{Side}
use Rattle.rules.specs.declared.offer.Side.TheVariants.{Give, Take}
use Rattle.rules.specs.declared.offer.Offer.{Offer}
use Rattle.rules.specs.declared.offer.Reply.{Reply}
use Rattle.rules.specs.declared.offer.Reply.TheVariants.{Closed, Alone, With}
use Rattle.rules.specs.Kinds.{Kind, Lawful, Partner, other}
use Rattle.rules.specs.Able.{opens}
use Rattle.rules.specs.Delivered.{is_side, same_offer, among, if_waits, fits, sooner, soonest_of, with_soonest, by_side, channel}
use Rattle.rules.specs.Laws.{DeliveredLawful, ChannelLaw, HolderReplies, DeliveredReplies}
use Rattle.rules.proofs.Members.{kept_mem, mem_kept}

-- the tests of an offer

is_side_true : (a b : Side) → is_side a b ≡ true → a ≡ b
is_side_true a b e = grind arith

same_true : (o q : Offer) → same_offer o q ≡ true → o ≡ q
same_true o q e =
    let a = and_parts (eqb o.sync q.sync) _ e in
    let b = and_parts (eqb o.leaf q.leaf) _ a.1 in
    let c = and_parts (eqb o.port q.port) _ b.1 in
    let d = and_parts (is_side o.side q.side) _ c.1 in
    λ i. record { sync = eqb-true _ _ a.0 i; leaf = eqb-true _ _ b.0 i; port = eqb-true _ _ c.0 i; side = is_side_true o.side q.side d.0 i; due = eqb-true _ _ d.1 i }

side_itself : (a : Side) → is_side a a ≡ true
side_itself a = grind arith

same_itself : (o : Offer) → same_offer o o ≡ true
same_itself o = grind (arith, side_itself)

among_mem : (o : Offer) (os : List Offer) → among o os ≡ true → Memᴰ o os
among_mem o [] e = absurd (both_ways false refl e)
among_mem o (q ∷ qs) e = go (among_mem o qs) (or_cases (same_offer o q) (among o qs) e)
  where
    go : (among o qs ≡ true → Memᴰ o qs) → (same_offer o q ≡ true) ⊎ (among o qs ≡ true) → Memᴰ o (q ∷ qs)
    go f (inl a) = Memᴰ.head (same_true o q a)
    go f (inr a) = Memᴰ.tail (f a)

mem_among : (o : Offer) (os : List Offer) → Memᴰ o os → among o os ≡ true
mem_among o [] m = absurd (Memᴰ.not-nil m)
mem_among o (q ∷ qs) (Memᴰ.head e) = or_left (same_offer o q) (among o qs) (subst (λ r. same_offer o r ≡ true) e (same_itself o))
mem_among o (q ∷ qs) (Memᴰ.tail m) = or_right (same_offer o q) (among o qs) (mem_among o qs m)

-- a poll that goes by a rule where the offer waits

waits_if : (o : Offer) (os : List Offer) (r : Reply) → if_waits o os r ≢ Closed → Memᴰ o os
waits_if o os r = cond_both (among o os) r Closed (λ x. x ≢ Closed → Memᴰ o os) (λ e n. among_mem o os e) (λ e n. absurd (n refl))

ruled : (b : Bool) (r x : Reply) → opens x ≡ true → cond b r Closed ≡ x → r ≡ x
ruled true r x o e = e
ruled false r x o e = absurd (both_ways (opens x) (ap opens (sym e)) o)

-- the soonest of some offers

abbrev NoLater : Offer → Offer → Type 0
NoLater o q = (o.sync ≤ q.sync) × (o.sync ≡ q.sync → o.leaf ≤ q.leaf)

sooner_no_later : (o q : Offer) → sooner o q ≡ true → NoLater o q
sooner_no_later o q e = grind arith

not_sooner : (o q : Offer) → sooner o q ≡ false → NoLater q o
not_sooner o q e = grind arith

no_later_trans : (o q r : Offer) → NoLater o q → NoLater q r → NoLater o r
no_later_trans o q r a b = omega arith

soonest_mem : (q : Offer) (qs : List Offer) → Memᴰ (soonest_of q qs) (q ∷ qs)
soonest_mem q [] = Memᴰ.head refl
soonest_mem q (r ∷ rs) = cond_both (sooner r q) r q (λ b. Memᴰ (soonest_of b rs) (q ∷ (r ∷ rs))) (λ _. Memᴰ.tail (soonest_mem r rs)) (λ _. past (soonest_mem q rs))
  where
    past : {o : Offer} → Memᴰ o (q ∷ rs) → Memᴰ o (q ∷ (r ∷ rs))
    past (Memᴰ.head e) = Memᴰ.head e
    past (Memᴰ.tail m) = Memᴰ.tail (Memᴰ.tail m)

soonest_least : (q : Offer) (qs : List Offer) (r : Offer) → Memᴰ r (q ∷ qs) → NoLater (soonest_of q qs) r
soonest_least q [] r m = let e = Memᴰ.eq_of_singleton m in rw e (omega arith)
soonest_least q (p ∷ ps) r m = go (cond (sooner p q) p q) (λ b. soonest_least b ps)
    (cond_both (sooner p q) p q (λ b. NoLater b q × NoLater b p) (λ e. (sooner_no_later p q e, omega arith)) (λ e. (omega arith, not_sooner p q e))) m
  where
    go : (b : Offer) → ((b r : Offer) → Memᴰ r (b ∷ ps) → NoLater (soonest_of b ps) r) → NoLater b q × NoLater b p → Memᴰ r (q ∷ (p ∷ ps)) → NoLater (soonest_of b ps) r
    go b f l (Memᴰ.head e) = rw e (no_later_trans (soonest_of b ps) b q (f b b (Memᴰ.head refl)) l.0)
    go b f l (Memᴰ.tail (Memᴰ.head e)) = rw e (no_later_trans (soonest_of b ps) b p (f b b (Memᴰ.head refl)) l.1)
    go b f l (Memᴰ.tail (Memᴰ.tail k)) = f b r (Memᴰ.tail k)

-- a channel

fits_partner : (os : List Offer) (o it : Offer) → Memᴰ it (filter (fits o) os) → Partner os o it.sync it.leaf
fits_partner os o it k =
    let m = mem_kept (fits o) it os k in
    let a = and_parts (not (eqb it.sync o.sync)) _ m.1 in
    let b = and_parts (eqb it.port o.port) _ a.1 in
    record { it = it; waits = m.0; its_sync = refl; its_leaf = refl; another = eqb-false _ _ (not-true _ a.0); same_port = eqb-true _ _ b.0; other_side = is_side_true it.side (other o.side) b.1 }

partner_fits : (os : List Offer) (o : Offer) (s l : ℕ) (p : Partner os o s l) → Memᴰ p.it (filter (fits o) os)
partner_fits os o s l p = kept_mem (fits o) p.it os p.waits (grind (arith, side_itself))

soonest_partner : (os : List Offer) (o : Offer) (s l : ℕ) (qs : List Offer) → filter (fits o) os ≡ qs → with_soonest qs ≡ With s l → Partner os o s l
soonest_partner os o s l [] e f = absurd (grind arith)
soonest_partner os o s l (q ∷ qs) e f =
    let es : (soonest_of q qs).sync ≡ s = cc in let el : (soonest_of q qs).leaf ≡ l = cc in
    rw (← es, ← el) (fits_partner os o (soonest_of q qs) (rw e (soonest_mem q qs)))

soonest_not_alone : (qs : List Offer) → with_soonest qs ≢ Alone
soonest_not_alone [] e = grind arith
soonest_not_alone (q ∷ qs) e = grind arith

some_not_closed : (q : Offer) (qs : List Offer) → Memᴰ q qs → with_soonest qs ≢ Closed
some_not_closed q [] m e = absurd (Memᴰ.not-nil m)
some_not_closed q (r ∷ rs) m e = grind arith

least : (s l s' l' : ℕ) → (s ≤ s') × (s ≡ s' → l ≤ l') → (s < s') ⊎ (s' ≤ s) → (s < s') ⊎ ((s ≡ s') × (l ≤ l'))
least s l s' l' a (inl b) = inl b
least s l s' l' a (inr b) = inr (omega arith)

channel_least : (os : List Offer) (h : ℕ → ℕ) (k : ℕ) (o : Offer) (s l s' l' : ℕ) → channel.poll os h k o ≡ With s l → Partner os o s' l' → (s < s') ⊎ ((s ≡ s') × (l ≤ l'))
channel_least os h k o s l s' l' e p = go (filter (fits o) os) (partner_fits os o s' l' p) (ruled (among o os) _ _ refl e)
  where
    go : (qs : List Offer) → Memᴰ p.it qs → with_soonest qs ≡ With s l → (s < s') ⊎ ((s ≡ s') × (l ≤ l'))
    go [] m f = absurd (Memᴰ.not-nil m)
    go (q ∷ qs) m f =
        let a = soonest_least q qs p.it m in let es : (soonest_of q qs).sync ≡ s = cc in let el : (soonest_of q qs).leaf ≡ l = cc in
        least s l s' l' (rw (es, el, p.its_sync, p.its_leaf) at a) (cases_lt s s')

pub channel_law : ChannelLaw
channel_law = record {
  never_alone = λ os h k o e. soonest_not_alone _ (ruled (among o os) _ _ refl e);
  with_some = λ os h k o s l m p e. some_not_closed p.it _ (partner_fits os o s l p) (subst (λ b. cond b (with_soonest (filter (fits o) os)) Closed ≡ Closed) (mem_among o os m) e);
  with_least = channel_least;
}

channel_lawful : (limit : ℕ) → Lawful limit channel
channel_lawful limit = record {
  waits = λ os h k o. waits_if o os _;
  partner = λ os h k o s l e. soonest_partner os o s l _ refl (ruled (among o os) _ _ refl e);
  give_alone = λ os h k o e f. absurd (channel_law.never_alone os h k o f);
  take_alone = λ os h k o e f. inr refl;
}

-- the kinds without partners

by_side_not_with : (d : Side) (a b : Bool) (s l : ℕ) → by_side d a b ≢ With s l
by_side_not_with d a b s l e = grind arith

by_side_give : (d : Side) (a b : Bool) → d ≡ Give → (by_side d a b ≡ Alone) ↔ (a ≡ true)
by_side_give d a b e = (λ f. grind arith, λ f. grind arith)

by_side_take : (d : Side) (a b : Bool) → d ≡ Take → (by_side d a b ≡ Alone) ↔ (b ≡ true)
by_side_take d a b e = (λ f. grind arith, λ f. grind arith)

-- A kind that replies by the side is lawful if it has room only below the limit, and something only where some is held or it cannot hold.
by_side_lawful : (limit : ℕ) (room some : (ℕ → ℕ) → ℕ → Offer → Bool) (holds keeps : Bool)
    → ((h : ℕ → ℕ) (k : ℕ) (o : Offer) → room h k o ≡ true → (h o.port < limit) × (holds ≡ true))
    → ((h : ℕ → ℕ) (k : ℕ) (o : Offer) → some h k o ≡ true → (0 < h o.port) ⊎ (holds ≡ false))
    → Lawful limit (record { poll = λ os h k o. if_waits o os (by_side o.side (room h k o) (some h k o)); holds = holds; keeps = keeps })
by_side_lawful limit room some holds keeps a b = record {
  waits = λ os h k o. waits_if o os _;
  partner = λ os h k o s l e. absurd (by_side_not_with o.side _ _ s l (ruled (among o os) _ _ refl e));
  give_alone = λ os h k o e f. a h k o ((by_side_give o.side _ _ e).0 (ruled (among o os) _ _ refl f));
  take_alone = λ os h k o e f. b h k o ((by_side_take o.side _ _ e).0 (ruled (among o os) _ _ refl f));
}

-- the tests of what is held

ltb_iff : (m n : ℕ) → (ltb m n ≡ true) ↔ (m < n)
ltb_iff m n = (ltb-true m n, lt-ltb m n)

empty_iff : (n : ℕ) → (eqb n 0 ≡ true) ↔ (n < 1)
empty_iff n = (λ e. let z = eqb-true n 0 e in omega arith, λ l. eq-eqb n 0 (omega arith))

-- a kind that holds messages, where `below` tests whether there is room
module _ (room : ℕ) (below : ℕ → Bool) (keeps : Bool) (t : (n : ℕ) → (below n ≡ true) ↔ (n < room)) where
  abbrev holder : Kind
  holder = record { poll = λ os h k o. if_waits o os (by_side o.side (below (h o.port)) (ltb 0 (h o.port))); holds = true; keeps = keeps }

  holder_lawful : (limit : ℕ) → room ≤ limit → Lawful limit holder
  holder_lawful limit l = by_side_lawful limit (λ h k o. below (h o.port)) (λ h k o. ltb 0 (h o.port)) true keeps
      (λ h k o e. let b = (t _).0 e in (omega arith, refl))
      (λ h k o e. inl (ltb-true _ _ e))

  holder_replies : HolderReplies holder room
  holder_replies = record {
    holds = refl;
    give = λ os h k o m e. rw (mem_among o os m) (Iff.trans (by_side_give o.side _ _ e) (t _));
    take = λ os h k o m e. rw (mem_among o os m) (Iff.trans (by_side_take o.side _ _ e) (ltb_iff _ _));
    never_pairs = λ os h k o s l e. by_side_not_with o.side _ _ s l (ruled (among o os) _ _ refl e);
  }

-- all five

pub delivered_lawful : DeliveredLawful
delivered_lawful limit l (Port Channel) = channel_lawful limit
delivered_lawful limit l (Port Mailbox) = holder_lawful limit (λ n. ltb n limit) false (λ n. ltb_iff n limit) limit (omega arith)
delivered_lawful limit l (Port Ivar) = holder_lawful 1 (λ n. eqb n 0) true empty_iff limit l
delivered_lawful limit l (Port Mvar) = holder_lawful 1 (λ n. eqb n 0) false empty_iff limit l
delivered_lawful limit l Timeout = by_side_lawful limit (λ h k o. false) (λ h k o. leb o.due k) false false
    (λ h k o e. absurd (both_ways false refl e))
    (λ h k o e. inr refl)

pub delivered_replies : DeliveredReplies
delivered_replies = record {
  mailboxes = λ limit. (holder_replies limit (λ n. ltb n limit) false (λ n. ltb_iff n limit), refl);
  ivars = λ limit. (holder_replies 1 (λ n. eqb n 0) true empty_iff, refl);
  mvars = λ limit. (holder_replies 1 (λ n. eqb n 0) false empty_iff, refl);
  timeouts = λ limit os h k o m e. rw (mem_among o os m) (Iff.trans (by_side_take o.side _ _ e) (leb-true _ _, le-leb _ _));
  channels = λ limit. refl;
}
