-- The offers that wait are just those of the leaves of the tasks that wait.
use Rattle.std.proofs.Common.{◌≡◌, ℕ, suc, ◌+◌, ◌*◌, ◌<◌, ◌≤◌, Bool, true, false, cond, not, ◌&&◌, eqb, ◌≢◌, ◌⊎◌, List, [], ◌∷◌, ◌++◌, map, length, Some, None, filter, Option, sym, refl, ap, ◌∙◌, subst, subst₂, inl, inr, ⊎_elim, le_trans, arith}
use mathlib.Core.List.Memᴰ
use mathlib.Core.List.{Memᴰ}
use Rattle.std.specs.List.{AllByRecursion}
use Rattle.std.proofs.lemmas.List.{append-nil, append_assoc, length-append}
use Rattle.std.proofs.lemmas.List.Elements.{filter-append}
use Rattle.std.proofs.lemmas.List.Filters.{length-filter_both, sum_by-filter_both}
use Rattle.std.proofs.lemmas.List.Sums.{length-filter}
use Rattle.std.proofs.lemmas.Bool.{false≢true, cases_Bool, eqb-true, eqb-false, eq-eqb, ne_eqb, lt-ltb, not-true, and_from, or_from, cond-true, cond-false, cond_both}
use Rattle.grammar.specs.declared.words.PortKind.TheVariants.{Mailbox}
use Rattle.trace.specs.declared.record.Event.{Event}
use Rattle.trace.specs.declared.record.Record.{Record}
use Rattle.rules.specs.declared.kind.BaseKind.{BaseKind}
use Rattle.rules.specs.declared.kind.BaseKind.TheVariants.{Port}
use Rattle.rules.specs.declared.offer.Offer.{Offer}
use Rattle.rules.specs.Kinds.{Meaning, most_offers, leaf_waits, accepts, enrolled, enrolled_each, withdrawn, committed}
use Rattle.rules.specs.States.{Setting, Leaf, Wait, running, waiting, Task, State}
use Rattle.rules.specs.Limits.{most_leaves, Limited}
use Rattle.rules.specs.Able.{most_tasks, Placed, placed, is_kind, offer_in, offers_in, Ready}
use Rattle.rules.specs.Settling.{put, means_with, Settlement, told_of, withdrawn_each}
use Rattle.rules.specs.Steps.{moved, waits_at, Move, Step, ends, emits, returns, spawns, syncs, settles_one, settles_pair}
use Rattle.rules.specs.Runs.{posting, with_post, Act, steps, posts, clocks, Run, begins, goes_on}
use Rattle.rules.specs.Laws.{OffersLaw}
use Rattle.rules.proofs.Once.{still_waits}
use Rattle.rules.proofs.Members.{kept_mem, mem_kept}
use Rattle.rules.proofs.Tasks.{not_both, PutOrThere, mem_put, fresh_one, fresh_nacks}
use Rattle.rules.proofs.Sound.{Sound, placed_own, own_offers, enrolled_mem, commit_offers, sound_run}
use Rattle.rules.proofs.Live.{live_law}
use Rattle.rules.proofs.Leaves.{sync_leaves_few, offers_few}

-- filters

kept_all : {X : Type 0} (p : X → Bool) (xs : List X) → ((x : X) → Memᴰ x xs → p x ≡ true) → filter p xs ≡ xs
kept_all p [] f = refl
kept_all p (x ∷ xs) f = cond-true (p x) _ _ (f x (Memᴰ.head refl)) ∙ ap (λ l. x ∷ l) (kept_all p xs (λ y m. f y (Memᴰ.tail m)))

kept_none : {X : Type 0} (p : X → Bool) (xs : List X) → ((x : X) → Memᴰ x xs → p x ≡ false) → filter p xs ≡ []
kept_none p [] f = refl
kept_none p (x ∷ xs) f = cond-false (p x) _ _ (f x (Memᴰ.head refl)) ∙ kept_none p xs (λ y m. f y (Memᴰ.tail m))

-- what passes `p` passes `q`
kept_kept : {X : Type 0} (p q : X → Bool) → ((x : X) → p x ≡ true → q x ≡ true) → (xs : List X) → filter p (filter q xs) ≡ filter p xs
kept_kept p q f [] = refl
kept_kept {X} p q f (x ∷ xs) = go (q x) (f x) (kept_kept p q f xs)
  where
    go : (b : Bool) → (p x ≡ true → b ≡ true) → filter p (filter q xs) ≡ filter p xs → filter p (cond b (x ∷ filter q xs) (filter q xs)) ≡ filter p (x ∷ xs)
    go true g h = ap (λ l. cond (p x) (x ∷ l) l) h
    go false g h = h ∙ sym (cond-false (p x) _ _ (⊎_elim (λ e. absurd (false≢true (g e))) (λ e. e) (cases_Bool (p x))))

-- A sync's offers stay where others are enrolled or withdrawn.

abbrev of_sync : ℕ → List Offer → List Offer
of_sync y os = filter (λ o. eqb o.sync y) os

enrolled_others : {M : Type 0} (y : ℕ) (o : Offer) (μ : Meaning M) → o.sync ≢ y → of_sync y (enrolled o μ).offers ≡ of_sync y μ.offers
enrolled_others y o μ d = cond_both (accepts μ.offers o) (μ.offers ++ (o ∷ [])) μ.offers (λ os. of_sync y os ≡ of_sync y μ.offers)
    (λ _. filter-append _ μ.offers (o ∷ []) ∙ ap (λ l. of_sync y μ.offers ++ l) (cond-false (eqb o.sync y) (o ∷ []) [] (ne_eqb o.sync y d)) ∙ append-nil _)
    (λ _. refl)

enrolled_each_others : {M : Type 0} (y : ℕ) (os : List Offer) (μ : Meaning M) → ((o : Offer) → Memᴰ o os → o.sync ≢ y) → of_sync y (enrolled_each os μ).offers ≡ of_sync y μ.offers
enrolled_each_others y [] μ f = refl
enrolled_each_others y (o ∷ os) μ f = enrolled_each_others y os (enrolled o μ) (λ q m. f q (Memᴰ.tail m)) ∙ enrolled_others y o μ (f o (Memᴰ.head refl))

withdrawn_others : {M : Type 0} (y z : ℕ) (μ : Meaning M) → y ≢ z → of_sync y (withdrawn z μ).offers ≡ of_sync y μ.offers
withdrawn_others y z μ d = kept_kept _ _ (λ (o : Offer) e. ap not (ne_eqb o.sync z (λ f. d (sym (eqb-true o.sync y e) ∙ f)))) μ.offers

withdrawn_each_others : {M : Type 0} (y : ℕ) (σs : List Settlement) (μ : Meaning M) → AllByRecursion (λ σ. y ≢ σ.sync) σs → of_sync y (withdrawn_each σs μ).offers ≡ of_sync y μ.offers
withdrawn_each_others y [] μ f = refl
withdrawn_each_others y (σ ∷ σs) μ f = withdrawn_each_others y σs (withdrawn σ.sync μ) f.1 ∙ withdrawn_others y σ.sync μ f.0

-- How many offers wait, where each is of a task and no task has many.

abbrev Owner : {M : Type 0} → List (Task M) → ℕ → Type 0
Owner {M} ts y = (t : Task M) × (ls : List (Leaf M)) × Memᴰ t ts × (t.wait ≡ waiting y ls)

owner_later : {M : Type 0} (t : Task M) (ts : List (Task M)) (y : ℕ) → ((ls : List (Leaf M)) → t.wait ≡ waiting y ls → ⊥) → Owner (t ∷ ts) y → Owner ts y
owner_later {M} t ts y f o = go o.2
  where
    go : Memᴰ o.0 (t ∷ ts) → Owner ts y
    go (Memᴰ.head p) = absurd (f o.1 (ap (λ (u : Task M). u.wait) (sym p) ∙ o.3))
    go (Memᴰ.tail m) = (o.0, o.1, m, o.3)

kept_fewer : {X : Type 0} (p q : X → Bool) (xs : List X) → length (filter p (filter q xs)) ≤ length (filter p xs)
kept_fewer p q xs = omega (arith, length-filter p (filter q xs), length-filter p xs, sum_by-filter_both q (λ x. not (q x)) (λ _. refl) (λ x. cond (p x) 1 0) xs)

some_there : {X : Type 0} {x : X} {xs : List X} → Memᴰ x xs → 0 < length xs
some_there (Memᴰ.head p) = omega arith
some_there (Memᴰ.tail m) = omega arith

offers_counted : {M : Type 0} (ts : List (Task M)) (os : List Offer) → ((o : Offer) → Memᴰ o os → Owner ts o.sync)
    → ((t : Task M) (y : ℕ) (ls : List (Leaf M)) → Memᴰ t ts → t.wait ≡ waiting y ls → length (of_sync y os) ≤ most_leaves)
    → length os ≤ most_leaves * length ts
offers_counted [] [] f g = omega arith
offers_counted [] (o ∷ os) f g = absurd (Memᴰ.not-nil (f o (Memᴰ.head refl)).2)
offers_counted {M} (t ∷ ts) os f g = go (offers_counted ts) t.wait refl
  where
    go : ((qs : List Offer) → ((o : Offer) → Memᴰ o qs → Owner ts o.sync)
        → ((u : Task M) (y : ℕ) (ls : List (Leaf M)) → Memᴰ u ts → u.wait ≡ waiting y ls → length (of_sync y qs) ≤ most_leaves) → length qs ≤ most_leaves * length ts)
        → (v : Wait M) → t.wait ≡ v → length os ≤ most_leaves * length (t ∷ ts)
    go rest running e =
        let a = rest os (λ o m. owner_later t ts o.sync (λ ls. not_both t.wait o.sync ls e) (f o m)) (λ u y ls m. g u y ls (Memᴰ.tail m)) in
        omega arith
    go rest (waiting y ls) e =
        let a = g t y ls (Memᴰ.head refl) e in
        let b = rest (filter (λ o. not (eqb o.sync y)) os)
        (λ o m. let k = mem_kept (λ (q : Offer). not (eqb q.sync y)) o os m in owner_later t ts o.sync (λ ks d. eqb-false o.sync y (not-true _ k.1) (cc)) (f o k.0))
        (λ u z ks m d. le_trans (kept_fewer _ _ os) (g u z ks (Memᴰ.tail m) d)) in
        let c = length-filter_both (λ (o : Offer). eqb o.sync y) (λ o. not (eqb o.sync y)) (λ _. refl) os in
        omega arith

-- Where there is room and the sync is new, each of its offers is enrolled.

none_waits : (y i : ℕ) (os : List Offer) → ((o : Offer) → Memᴰ o os → o.sync ≡ y → o.leaf < i) → leaf_waits y i os ≡ false
none_waits y i [] f = refl
none_waits y i (o ∷ os) f = or_from _ _ (go (eqb o.sync y) refl) (none_waits y i os (λ q m. f q (Memᴰ.tail m)))
  where
    go : (b : Bool) → eqb o.sync y ≡ b → (b && eqb o.leaf i) ≡ false
    go true e = let l = f o (Memᴰ.head refl) (eqb-true o.sync y e) in ne_eqb o.leaf i (omega arith)
    go false e = refl

-- what a leaf offers at a kind: nothing, or one offer that bears its numbers
offer_cases : {M : Type 0} (w : Setting M) (c : BaseKind) (y i : ℕ) (l : Leaf M)
    → (offer_in c (placed w y i l.base) ≡ []) ⊎ ((o : Offer) × (offer_in c (placed w y i l.base) ≡ o ∷ []) × (o.sync ≡ y) × (o.leaf ≡ i))
offer_cases {M} w c y i l = go (placed w y i l.base) (placed_own w y i l.base)
  where
    go : (p : Option Placed) → ((q : Placed) → p ≡ Some q → (q.offer.sync ≡ y) × (q.offer.leaf ≡ i)) → (offer_in c p ≡ []) ⊎ ((o : Offer) × (offer_in c p ≡ o ∷ []) × (o.sync ≡ y) × (o.leaf ≡ i))
    go None f = inl refl
    go (Some q) f = cond_both (is_kind q.kind c) (q.offer ∷ []) [] (λ os. (os ≡ []) ⊎ ((o : Offer) × (os ≡ o ∷ []) × (o.sync ≡ y) × (o.leaf ≡ i)))
        (λ _. inr (q.offer, refl, (f q refl).0, (f q refl).1)) (λ _. inl refl)

-- an offer that there is room for, of a leaf that does not wait
pub accepts_new : (os : List Offer) (o : Offer) → length os < most_offers → ((q : Offer) → Memᴰ q os → q.sync ≡ o.sync → q.leaf < o.leaf) → accepts os o ≡ true
accepts_new os o room new = and_from _ _ (lt-ltb _ _ room) (ap not (none_waits o.sync o.leaf os new))

enrolled_all : {M : Type 0} (w : Setting M) (c : BaseKind) (y i : ℕ) (ls : List (Leaf M)) (μ : Meaning M) → length μ.offers + length ls ≤ most_offers
    → ((q : Offer) → Memᴰ q μ.offers → q.sync ≡ y → q.leaf < i)
    → (enrolled_each (offers_in w c y i ls) μ).offers ≡ μ.offers ++ offers_in w c y i ls
enrolled_all w c y i [] μ room new = sym (append-nil μ.offers)
enrolled_all {M} w c y i (l ∷ ls) μ room new = go (offer_cases w c y i l) (enrolled_all w c y (suc i) ls)
  where
    first : List Offer
    first = offer_in c (placed w y i l.base)

    rest : List Offer
    rest = offers_in w c y (suc i) ls

    go : (first ≡ []) ⊎ ((o : Offer) × (first ≡ o ∷ []) × (o.sync ≡ y) × (o.leaf ≡ i))
        → ((ν : Meaning M) → length ν.offers + length ls ≤ most_offers → ((q : Offer) → Memᴰ q ν.offers → q.sync ≡ y → q.leaf < suc i) → (enrolled_each rest ν).offers ≡ ν.offers ++ rest)
        → (enrolled_each (first ++ rest) μ).offers ≡ μ.offers ++ (first ++ rest)
    go (inl e) more = rw e (more μ (omega arith) (λ q m d. let k = new q m d in omega arith))
    go (inr p) more = rw p.1 (more (enrolled o μ) (omega (arith, ap length added, length-append μ.offers (o ∷ []))) (λ q m d. early q d (enrolled_mem o q μ m)) ∙ ap (λ os. os ++ rest) added ∙ append_assoc μ.offers (o ∷ []) rest)
      where
        o : Offer
        o = p.0

        added : (enrolled o μ).offers ≡ μ.offers ++ (o ∷ [])
        added = cond-true (accepts μ.offers o) _ _ (accepts_new μ.offers o (omega arith) (λ q m d. let k = new q m (d ∙ p.2) in let j = p.3 in omega arith))

        early : (q : Offer) → q.sync ≡ y → Memᴰ q μ.offers ⊎ (q ≡ o) → q.leaf < suc i
        early q d (inl m) = let k = new q m d in omega arith
        early q d (inr e) = let k : q.leaf ≡ i = ap (λ (x : Offer). x.leaf) e ∙ p.3 in omega arith

-- what the kinds mean has the offers of a sync with these leaves, which are few
record HasOffers {M : Type 0} (w : Setting M) (μ : BaseKind → Meaning M) (y : ℕ) (ls : List (Leaf M)) : Type 0 where
  few : length ls ≤ most_leaves
  each : (c : BaseKind) → of_sync y (μ c).offers ≡ offers_in w c y 0 ls

few_of_sync : {M : Type 0} (w : Setting M) (μ : BaseKind → Meaning M) (y : ℕ) (ls : List (Leaf M)) → HasOffers w μ y ls → (c : BaseKind) → length (of_sync y (μ c).offers) ≤ most_leaves
few_of_sync w μ y ls h c = rw (h.each c) (le_trans (offers_few w c y 0 ls) h.few)

offers_stay : {M : Type 0} (w : Setting M) (μ ν : BaseKind → Meaning M) (y : ℕ) (ls : List (Leaf M)) → ((c : BaseKind) → of_sync y (ν c).offers ≡ of_sync y (μ c).offers) → HasOffers w μ y ls → HasOffers w ν y ls
offers_stay w μ ν y ls f h = record { few = h.few; each = λ c. f c ∙ h.each c }

-- each task that waits has its offers there
abbrev EachOffers : {M : Type 0} → Setting M → (BaseKind → Meaning M) → List (Task M) → Type 0
EachOffers {M} w μ ts = (t : Task M) (y : ℕ) (ls : List (Leaf M)) → Memᴰ t ts → t.wait ≡ waiting y ls → HasOffers w μ y ls

abbrev StateOffers : {M : Type 0} → Setting M → State M → Type 0
StateOffers w s = EachOffers w s.means s.tasks

-- where tasks that do not wait change

put_waits : {M : Type 0} (ts : List (Task M)) (t : Task M) → t.wait ≡ running → (u : Task M) (y : ℕ) (ls : List (Leaf M)) → Memᴰ u (put t ts) → u.wait ≡ waiting y ls → Memᴰ u ts × (u.number ≢ t.number)
put_waits {M} ts t r u y ls m e = go (mem_put t u ts m)
  where
    go : PutOrThere t ts u → Memᴰ u ts × (u.number ≢ t.number)
    go (inl p) = absurd (not_both t.wait y ls r (ap (λ (v : Task M). v.wait) (sym p) ∙ e))
    go (inr p) = p

offer_put : {M : Type 0} (w : Setting M) (μ : BaseKind → Meaning M) (ts : List (Task M)) (t : Task M) → t.wait ≡ running → EachOffers w μ ts → EachOffers w μ (put t ts)
offer_put w μ ts t r h u y ls m e = h u y ls (put_waits ts t r u y ls m e).0 e

offer_more : {M : Type 0} (w : Setting M) (μ : BaseKind → Meaning M) (ts us : List (Task M)) → ((u : Task M) → Memᴰ u us → u.wait ≡ running) → EachOffers w μ ts → EachOffers w μ (ts ++ us)
offer_more {M} w μ ts us f h u y ls m e = go (Memᴰ.append_cases ts m)
  where
    go : Memᴰ u ts ⊎ Memᴰ u us → HasOffers w μ y ls
    go (inl k) = h u y ls k e
    go (inr k) = absurd (not_both u.wait y ls (f u k) e)

-- where a sync begins
module _ {M : Type 0} (w : Setting M) (s : State M) (sound : Sound w s) (live : length s.tasks ≤ most_tasks) (h : StateOffers w s) (t : Task M) (r : Ready w s t) (y : ℕ) (next : y ≡ suc s.last_sync) (ls : List (Leaf M)) (few : length ls ≤ most_leaves) where
  -- whether a task is `t`, by its number
  is_its : Task M → Bool
  is_its u = eqb u.number t.number

  owned_by_others : (c : BaseKind) (q : Offer) → Memᴰ q (s.means c).offers → Owner (filter (λ u. not (is_its u)) s.tasks) q.sync
  unfolding is_its
  owned_by_others c q m = let o = sound.owned c q m in
      let apart : o.task.number ≢ t.number = λ e. not_both t.wait q.sync o.all r.runs (ap (λ (u : Task M). u.wait) (sym (sound.tidy.numbers o.task t o.live r.live e)) ∙ o.waits) in
      (o.task, o.all, kept_mem (λ u. not (is_its u)) o.task s.tasks o.live (ap not (ne_eqb o.task.number t.number apart)), o.waits)

  fewer_others : length (filter (λ u. not (is_its u)) s.tasks) < most_tasks
  unfolding is_its
  fewer_others = omega (arith, length-filter_both is_its (λ u. not (is_its u)) (λ _. refl) s.tasks, some_there (kept_mem is_its t s.tasks r.live (eq-eqb t.number t.number refl)))

  room : (c : BaseKind) → length (s.means c).offers + length ls ≤ most_offers
  room c = let a = fewer_others in
      let b = offers_counted (filter (λ u. not (is_its u)) s.tasks) (s.means c).offers (owned_by_others c) (λ u z ks m e. few_of_sync w s.means z ks (h u z ks (mem_kept _ u s.tasks m).0 e) c) in
      omega arith

  earlier : (c : BaseKind) (q : Offer) → Memᴰ q (s.means c).offers → q.sync ≢ y
  earlier c q m e = let o = sound.owned c q m in let k = sound.tidy.early o.task q.sync o.all o.live o.waits in omega arith

  new_offers : (c : BaseKind) → of_sync y (enrolled_each (offers_in w c y 0 ls) (s.means c)).offers ≡ offers_in w c y 0 ls
  new_offers c = ap (of_sync y) (enrolled_all w c y 0 ls (s.means c) (room c) (λ q m e. absurd (earlier c q m e)))
      ∙ filter-append _ (s.means c).offers (offers_in w c y 0 ls)
      ∙ ap (λ os. os ++ of_sync y (offers_in w c y 0 ls)) (kept_none _ (s.means c).offers (λ q m. ne_eqb q.sync y (earlier c q m)))
      ∙ kept_all _ (offers_in w c y 0 ls) (λ q m. eq-eqb q.sync y (own_offers w c y 0 ls q m).ours)

  offer_begun : EachOffers w (λ c. enrolled_each (offers_in w c y 0 ls) (s.means c)) (put (waits_at t y ls) s.tasks)
  offer_begun u z ks m e = go (mem_put (waits_at t y ls) u s.tasks m)
    where
      go : PutOrThere (waits_at t y ls) s.tasks u → HasOffers w (λ c. enrolled_each (offers_in w c y 0 ls) (s.means c)) z ks
      go (inl p) = let v = ap (λ (x : Task M). x.wait) p in let a : y ≡ z = cc in let b : ls ≡ ks = cc in
          subst₂ (HasOffers w (λ c. enrolled_each (offers_in w c y 0 ls) (s.means c))) a b (record { few = few; each = new_offers })
      go (inr p) = let k = sound.tidy.early u z ks p.0 e in
          offers_stay w s.means _ z ks (λ c. enrolled_each_others z (offers_in w c y 0 ls) (s.means c) (λ q n d. let f = (own_offers w c y 0 ls q n).ours in absurd (omega arith))) (h u z ks p.0 e)

-- where syncs are settled

offer_settled : {M : Type 0} (w : Setting M) (μ ν : BaseKind → Meaning M) (ts us : List (Task M)) (σs : List Settlement) → ((c : BaseKind) → (ν c).offers ≡ (μ c).offers)
    → ((u : Task M) (y : ℕ) (ls : List (Leaf M)) → Memᴰ u us → u.wait ≡ waiting y ls → Memᴰ u ts × AllByRecursion (λ σ. y ≢ σ.sync) σs)
    → EachOffers w μ ts → EachOffers w (λ c. withdrawn_each σs (ν c)) (map (told_of σs) us)
offer_settled {M} w μ ν ts us σs e f h u y ls m d = let p = Memᴰ.of_map (told_of σs) us m in
    let k : p.0.wait ≡ waiting y ls = ap (λ (v : Task M). v.wait) p.2 ∙ d in
    let q = f p.0 y ls p.1 k in
    offers_stay w μ _ y ls (λ c. withdrawn_each_others y σs (ν c) q.1 ∙ ap (of_sync y) (e c)) (h p.0 y ls q.0 k)

offer_step : {M : Type 0} (w : Setting M) → Limited w.script → (s : State M) → Sound w s → length s.tasks ≤ most_tasks → StateOffers w s
    → (v : Move) (rs : List (Event M)) (s' : State M) → Step w s v rs s' → StateOffers w s'
offer_step w lim s sound live h v rs s' (ends t r _ _ _ e) = subst (StateOffers w) (sym e) (λ u y ls m. h u y ls (mem_kept _ u s.tasks m).0)
offer_step w lim s sound live h v rs s' (emits t r _ _ _ e) = subst (StateOffers w) (sym e) (offer_put w s.means s.tasks (moved t (suc t.place)) refl h)
offer_step w lim s sound live h v rs s' (returns t r _ _ _ e) = subst (StateOffers w) (sym e) (offer_put w s.means s.tasks (moved t 0) refl h)
offer_step w lim s sound live h v rs s' (spawns t b r _ _ _ e) = subst (StateOffers w) (sym e)
    (offer_more w s.means _ _ (fresh_one _ s.last_task refl refl).running (offer_put w s.means s.tasks (moved t (suc t.place)) refl h))
offer_step w lim s sound live h v rs s' (syncs t x r _ i bs _ ls f y g _ e) = subst (StateOffers w) (sym e)
    (offer_more w _ _ _ (fresh_nacks w y s.last_task 0 bs).running (offer_begun w s sound live h t r y g ls (rw f (sync_leaves_few w lim t x i _ _ _))))
offer_step w lim s sound live h v rs s' (settles_one t y i l a _ _ σs f _ e) = subst (StateOffers w) (sym e)
    (offer_settled w s.means _ s.tasks _ σs (commit_offers w (placed w y i l.base) t.register s.means)
    (λ u z ks m d. let k = still_waits w s sound t _ y i l a refl refl s.tasks u z ks d m in rw f (k.0, (k.1 k.0, tt))) h)
offer_step w lim s sound live h v rs s' (settles_pair g r y i z j p l k a _ b _ _ σs f _ e) = subst (StateOffers w) (sym e)
    (offer_settled w s.means s.means s.tasks _ σs (λ c. refl)
    (λ u x ks m d. let q = still_waits w s sound r _ z j k b refl refl _ u x ks d m in
    let q' = still_waits w s sound g _ y i l a refl refl s.tasks u x ks d q.0 in
    rw f (q'.0, (q'.1 q'.0, (q.1 q'.0, tt)))) h)

offer_act : {M : Type 0} (w : Setting M) → Limited w.script → (s : State M) → Sound w s → length s.tasks ≤ most_tasks → StateOffers w s
    → (rs : List (Event M)) (s' : State M) → Act w s rs s' → StateOffers w s'
offer_act w lim s sound live h rs s' (steps v a) = offer_step w lim s sound live h v rs s' a
offer_act {M} w lim s sound live h rs s' (posts p m _ _ _ e) = subst (StateOffers w) (sym e)
    (λ u y ls k d. let z = sound.tidy.early u y ls k d in offers_stay w s.means _ y ls (λ c. stays y (omega arith) c) (h u y ls k d))
  where
    stays : (y : ℕ) → y ≢ 0 → (c : BaseKind) → of_sync y (means_with (Port Mailbox) (with_post w p m) s.means c).offers ≡ of_sync y (s.means c).offers
    stays y d c = cond_both (is_kind (Port Mailbox) c) (with_post w p m (s.means c)) (s.means c) (λ ν. of_sync y ν.offers ≡ of_sync y (s.means c).offers)
        (λ _. withdrawn_others y 0 (committed (w.kinds (Port Mailbox)) (posting p) m (enrolled (posting p) (s.means c))) d ∙ enrolled_others y (posting p) (s.means c) (λ e. d (sym e)))
        (λ _. refl)
offer_act {M} w lim s sound live h rs s' (clocks k _ _ _ e) = subst (StateOffers w) (sym e) (λ u y ls m d. offers_stay w s.means _ y ls (λ c. refl) (h u y ls m d))

offer_run : {M : Type 0} (w : Setting M) → Limited w.script → (tr : List (Record M)) (s : State M) → Run w tr s → StateOffers w s
offer_run w lim tr s (begins _ e) = subst (StateOffers w) (sym e) (λ u y ls m d. absurd (not_both u.wait y ls ((fresh_one _ 0 refl refl).running u m) d))
offer_run {M} w lim tr s (goes_on {s = s₀} rs r a _) = offer_act w lim s₀ (sound_run w _ s₀ r) (live_law M w _ s₀ r) (offer_run w lim _ s₀ r) rs s a

pub waiting_leaves_few : {M : Type 0} (w : Setting M) → Limited w.script → (tr : List (Record M)) (s : State M) → Run w tr s
    → (t : Task M) (y : ℕ) (ls : List (Leaf M)) → Memᴰ t s.tasks → t.wait ≡ waiting y ls → length ls ≤ most_leaves
waiting_leaves_few w lim tr s r t y ls m e = (offer_run w lim tr s r t y ls m e).few

pub offers_law : (M : Type 0) → OffersLaw M
offers_law M w lim tr s r c = record {
  waits = λ t y ls m e. (offer_run w lim tr s r t y ls m e).each c;
  owned = λ q m. let o = (sound_run w tr s r).owned c q m in (o.task, o.all, o.live, o.waits);
}

-- So at each kind there is room for one offer more.
pub room_for_one : {M : Type 0} (w : Setting M) → Limited w.script → (tr : List (Record M)) (s : State M) → Run w tr s → (c : BaseKind) → length (s.means c).offers < most_offers
room_for_one {M} w lim tr s r c = let a = live_law M w tr s r in
    let b = offers_counted s.tasks (s.means c).offers (offers_law M w lim tr s r c).owned (λ t y ls m e. few_of_sync w s.means y ls (offer_run w lim tr s r t y ls m e) c) in
    omega arith
