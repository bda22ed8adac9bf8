-- Every state of a run is sound: its tasks are tidy, and each offer that waits is that of a leaf of a task that waits.
use Rattle.std.proofs.Common.{◌≡◌, ℕ, zero, suc, ◌+◌, Bool, true, false, cond, not, eqb, ◌≢◌, ◌⊎◌, List, [], ◌∷◌, ◌++◌, map, length, Some, None, filter, Option, sym, refl, ap, ◌∙◌, subst, inl, inr, arith}
use mathlib.Core.List.Memᴰ
use mathlib.Core.List.{Memᴰ}
use Rattle.std.specs.List.{slice_get}
use Rattle.std.proofs.lemmas.Bool.{eqb-true, eqb-false, ne_eqb, not-true}
use Rattle.grammar.specs.declared.words.PortKind.{PortKind}
use Rattle.grammar.specs.declared.words.PortKind.TheVariants.{Channel, Mailbox, Ivar, Mvar}
use Rattle.rows.specs.Rows.{port_kind}
use Rattle.trace.specs.declared.record.Event.{Event}
use Rattle.trace.specs.declared.record.Record.{Record}
use Rattle.rules.specs.declared.kind.BaseKind.{BaseKind}
use Rattle.rules.specs.declared.kind.BaseKind.TheVariants.{Port, Timeout}
use Rattle.rules.specs.declared.nack.Nack.TheVariants.{Void}
use Rattle.rules.specs.declared.offer.Offer.{Offer}
use Rattle.rules.specs.Kinds.{Meaning, accepts, enrolled, enrolled_each, withdrawn, committed}
use Rattle.rules.specs.States.{Setting, Base, always, send, recv, due, nack, Leaf, running, waiting, Task, State}
use Rattle.rules.specs.Able.{Placed, placed, at_port, rank, is_kind, offer_in, offers_in, Stands, Ready}
use Rattle.rules.specs.Settling.{result, commit_at, put, settled, Settlement, told_of, after_settling}
use Rattle.rules.specs.Steps.{moved, waits_at, started, nack_tasks, with_tasks, Move, Step, ends, emits, returns, spawns, syncs, settles_one, settles_pair}
use Rattle.rules.specs.Runs.{posting, with_post, Act, steps, posts, clocks, Run, begins, goes_on}
use Rattle.rules.proofs.Members.{kept_mem, mem_kept}
use Rattle.rules.proofs.Tasks.{Tidy, not_both, put_mem, put_self, tidy_runs, tidy_waits, tidy_two, tidy_kept, tidy_told, tidy_more, fresh_one, fresh_nacks}

-- the leaf of a live task that waits, whose offer it is
pub record Owned {M : Type 0} (w : Setting M) (ts : List (Task M)) (c : BaseKind) (q : Offer) : Type 0 where
  pub task : Task M
  pub leaf : Leaf M
  pub all : List (Leaf M)
  pub live : Memᴰ task ts
  pub waits : task.wait ≡ waiting q.sync all
  pub here : slice_get all q.leaf ≡ Some leaf
  pub offered : placed w q.sync q.leaf leaf.base ≡ Some (record { kind = c; offer = q })

pub record Sound {M : Type 0} (w : Setting M) (s : State M) : Type 0 where
  pub tidy : Tidy s.tasks s.last_task s.last_sync
  pub owned : (c : BaseKind) (q : Offer) → Memᴰ q (s.means c).offers → Owned w s.tasks c q

-- The owner of an offer stays where other tasks change.
module _ {M : Type 0} (w : Setting M) (ts : List (Task M)) (c : BaseKind) (q : Offer) (o : Owned w ts c q) where
  pub owned_by : (us : List (Task M)) (u : Task M) → Memᴰ u us → u.wait ≡ o.task.wait → Owned w us c q
  owned_by us u m e = record { task = u; leaf = o.leaf; all = o.all; live = m; waits = e ∙ o.waits; here = o.here; offered = o.offered }

  owned_more : (us : List (Task M)) → Owned w (ts ++ us) c q
  owned_more us = owned_by (ts ++ us) o.task (Memᴰ.append_left us o.live) refl

  owned_told : (σs : List Settlement) → Owned w (map (told_of σs) ts) c q
  owned_told σs = owned_by (map (told_of σs) ts) (told_of σs o.task) (Memᴰ.map (told_of σs) o.live) refl

  module _ (n y : ℕ) (h : Tidy ts n y) (t : Task M) (m : Memᴰ t ts) where
    not_owner : ((ls : List (Leaf M)) → t.wait ≡ waiting q.sync ls → ⊥) → o.task.number ≢ t.number
    not_owner f e = f o.all (ap (λ (u : Task M). u.wait) (sym (h.numbers o.task t o.live m e)) ∙ o.waits)

    owner_waits : t.wait ≡ running → o.task.number ≢ t.number
    owner_waits r = not_owner (λ ls. not_both t.wait q.sync ls r)

    owner_waits_there : (x : ℕ) (ls : List (Leaf M)) → t.wait ≡ waiting x ls → q.sync ≢ x → o.task.number ≢ t.number
    owner_waits_there x ls e d = not_owner (λ ks f. d (cc))

    owned_put : (t' : Task M) → t'.number ≡ t.number → t.wait ≡ running → Owned w (put t' ts) c q
    owned_put t' e r = owned_by (put t' ts) o.task (put_mem t' o.task ts o.live (λ d. owner_waits r (d ∙ e))) refl

    owned_kept : t.wait ≡ running → Owned w (filter (λ u. not (eqb u.number t.number)) ts) c q
    owned_kept r = owned_by _ o.task (kept_mem (λ u. not (eqb u.number t.number)) o.task ts o.live (ap not (ne_eqb o.task.number t.number (owner_waits r)))) refl

-- the offers of a sync's own leaves, numbered from `i`
pub record Own {M : Type 0} (w : Setting M) (c : BaseKind) (y i : ℕ) (ls : List (Leaf M)) (q : Offer) : Type 0 where
  pub leaf : Leaf M
  pub back : ℕ
  pub there : q.leaf ≡ i + back
  pub ours : q.sync ≡ y
  pub here : slice_get ls back ≡ Some leaf
  pub offered : placed w y (i + back) leaf.base ≡ Some (record { kind = c; offer = q })

ranked : ℕ → BaseKind
ranked zero = Port Channel
ranked (suc zero) = Port Mailbox
ranked (suc (suc zero)) = Port Ivar
ranked (suc (suc (suc zero))) = Port Mvar
ranked (suc (suc (suc (suc n)))) = Timeout

ranked_rank : (c : BaseKind) → ranked (rank c) ≡ c
unfolding ranked
ranked_rank (Port Channel) = refl
ranked_rank (Port Mailbox) = refl
ranked_rank (Port Ivar) = refl
ranked_rank (Port Mvar) = refl
ranked_rank Timeout = refl

pub same_kind : (c d : BaseKind) → is_kind c d ≡ true → c ≡ d
same_kind c d e = sym (ranked_rank c) ∙ ap ranked (eqb-true (rank c) (rank d) e) ∙ ranked_rank d

offer_in_mem : (c : BaseKind) (o : Option Placed) (q : Offer) → Memᴰ q (offer_in c o) → o ≡ Some (record { kind = c; offer = q })
offer_in_mem c None q m = absurd (Memᴰ.not-nil m)
offer_in_mem c (Some r) q m = go (is_kind r.kind c) refl m
  where
    go : (b : Bool) → is_kind r.kind c ≡ b → Memᴰ q (cond b (r.offer ∷ []) []) → ◌≡◌ {A = Option Placed} (Some r) (Some (record { kind = c; offer = q }))
    go true e k = λ i. Some (record { kind = same_kind r.kind c e i; offer = sym (Memᴰ.eq_of_singleton k) i })
    go false e k = absurd (Memᴰ.not-nil k)

placed_is : (q r : Placed) → ◌≡◌ {A = Option Placed} (Some q) (Some r) → q ≡ r
placed_is q r e = cc

pub at_port_offer : (k : Option PortKind) (o : Offer) (r : Placed) → at_port k o ≡ Some r → r.offer ≡ o
at_port_offer None o r e = absurd (let z : ◌≡◌ {A = ℕ} 0 1 = cc in omega arith)
at_port_offer (Some k) o r e = ap (λ (p : Placed). p.offer) (sym (placed_is _ r e))

pub placed_own : {M : Type 0} (w : Setting M) (y i : ℕ) (b : Base M) (r : Placed) → placed w y i b ≡ Some r → (r.offer.sync ≡ y) × (r.offer.leaf ≡ i)
placed_own w y i (always m) r e = absurd (let z : ◌≡◌ {A = ℕ} 0 1 = cc in omega arith)
placed_own w y i nack r e = absurd (let z : ◌≡◌ {A = ℕ} 0 1 = cc in omega arith)
placed_own w y i (send p) r e = let q = at_port_offer (port_kind w.script.ports p) _ r e in (ap (λ (o : Offer). o.sync) q, ap (λ (o : Offer). o.leaf) q)
placed_own w y i (recv p) r e = let q = at_port_offer (port_kind w.script.ports p) _ r e in (ap (λ (o : Offer). o.sync) q, ap (λ (o : Offer). o.leaf) q)
placed_own w y i (due d) r e = let q = sym (placed_is _ r e) in (ap (λ (p : Placed). p.offer.sync) q, ap (λ (p : Placed). p.offer.leaf) q)

pub own_offers : {M : Type 0} (w : Setting M) (c : BaseKind) (y i : ℕ) (ls : List (Leaf M)) (q : Offer) → Memᴰ q (offers_in w c y i ls) → Own w c y i ls q
own_offers w c y i [] q m = absurd (Memᴰ.not-nil m)
own_offers {M} w c y i (l ∷ ls) q m = go (own_offers w c y (suc i) ls q) (Memᴰ.append_cases (offer_in c (placed w y i l.base)) m)
  where
    go : (Memᴰ q (offers_in w c y (suc i) ls) → Own w c y (suc i) ls q) → Memᴰ q (offer_in c (placed w y i l.base)) ⊎ Memᴰ q (offers_in w c y (suc i) ls) → Own w c y i (l ∷ ls) q
    go f (inl k) = let e = offer_in_mem c (placed w y i l.base) q k in let p = placed_own w y i l.base _ e in
        let z : i ≡ i + 0 = omega arith in
        record { leaf = l; back = 0; there = p.1 ∙ z; ours = p.0; here = refl; offered = subst (λ x. placed w y x l.base ≡ Some (record { kind = c; offer = q })) z e }
    go f (inr k) = let o = f k in
        let z : suc i + o.back ≡ i + suc o.back = omega arith in
        record { leaf = o.leaf; back = suc o.back; there = o.there ∙ z; ours = o.ours; here = o.here; offered = subst (λ x. placed w y x o.leaf.base ≡ Some (record { kind = c; offer = q })) z o.offered }

-- the offers after each operation of a kind

pub enrolled_mem : {M : Type 0} (o q : Offer) (μ : Meaning M) → Memᴰ q (enrolled o μ).offers → Memᴰ q μ.offers ⊎ (q ≡ o)
enrolled_mem {M} o q μ m = go (accepts μ.offers o) m
  where
    last : Memᴰ q μ.offers ⊎ Memᴰ q (o ∷ []) → Memᴰ q μ.offers ⊎ (q ≡ o)
    last (inl k) = inl k
    last (inr k) = inr (Memᴰ.eq_of_singleton k)

    go : (b : Bool) → Memᴰ q (cond b (μ.offers ++ (o ∷ [])) μ.offers) → Memᴰ q μ.offers ⊎ (q ≡ o)
    go true k = last (Memᴰ.append_cases μ.offers k)
    go false k = inl k

pub enrolled_each_mem : {M : Type 0} (os : List Offer) (q : Offer) (μ : Meaning M) → Memᴰ q (enrolled_each os μ).offers → Memᴰ q μ.offers ⊎ Memᴰ q os
enrolled_each_mem [] q μ m = inl m
enrolled_each_mem {M} (o ∷ os) q μ m = go (enrolled_each_mem os q (enrolled o μ) m)
  where
    first : Memᴰ q μ.offers ⊎ (q ≡ o) → Memᴰ q μ.offers ⊎ Memᴰ q (o ∷ os)
    first (inl k) = inl k
    first (inr e) = inr (Memᴰ.head e)

    go : Memᴰ q (enrolled o μ).offers ⊎ Memᴰ q os → Memᴰ q μ.offers ⊎ Memᴰ q (o ∷ os)
    go (inl k) = first (enrolled_mem o q μ k)
    go (inr k) = inr (Memᴰ.tail k)

pub commit_offers : {M : Type 0} (w : Setting M) (o : Option Placed) (m : M) (μ : BaseKind → Meaning M) (c : BaseKind) → (commit_at w o m μ c).offers ≡ (μ c).offers
commit_offers w None m μ c = refl
commit_offers {M} w (Some q) m μ c = go (is_kind q.kind c)
  where
    go : (b : Bool) → (cond b (committed (w.kinds q.kind) q.offer m (μ c)) (μ c)).offers ≡ (μ c).offers
    go true = refl
    go false = refl

pub withdrawn_mem : {M : Type 0} (q : Offer) (y : ℕ) (μ : Meaning M) → Memᴰ q (withdrawn y μ).offers → Memᴰ q μ.offers × (q.sync ≢ y)
withdrawn_mem q y μ m = let r = mem_kept (λ (o : Offer). not (eqb o.sync y)) q μ.offers m in (r.0, eqb-false q.sync y (not-true (eqb q.sync y) r.1))

pub posted_mem : {M : Type 0} (w : Setting M) (p : ℕ) (m : M) (q : Offer) (μ : Meaning M) → Memᴰ q (with_post w p m μ).offers → Memᴰ q μ.offers
posted_mem {M} w p m q μ k = let r = withdrawn_mem q 0 (committed (w.kinds (Port Mailbox)) (posting p) m (enrolled (posting p) μ)) k in go r.1 (enrolled_mem (posting p) q μ r.0)
  where
    go : q.sync ≢ 0 → Memᴰ q μ.offers ⊎ (q ≡ posting p) → Memᴰ q μ.offers
    go d (inl m) = m
    go d (inr e) = absurd (d (ap (λ (o : Offer). o.sync) e))

-- where syncs are settled

sound_one : {M : Type 0} (w : Setting M) (s : State M) → Sound w s → (t : Task M) (y i : ℕ) (l : Leaf M) → Stands s t y i l → (m n : M) (o : Option Placed) (σs : List Settlement) → σs ≡ record { sync = y; above = l.above } ∷ []
    → Sound w (after_settling s σs (commit_at w o n s.means) (put (settled w t l m) s.tasks))
sound_one {M} w s h t y i l a m n o σs e = rw e (record { tidy = tidied; owned = owners })
  where
    σ : List Settlement
    σ = record { sync = y; above = l.above } ∷ []

    tidied : Tidy (map (told_of σ) (put (settled w t l m) s.tasks)) s.last_task s.last_sync
    tidied = tidy_told σ _ _ _ (tidy_runs t (settled w t l m) s.tasks _ _ h.tidy a.live refl refl)

    owners : (c : BaseKind) (q : Offer) → Memᴰ q (withdrawn y (commit_at w o n s.means c)).offers → Owned w (map (told_of σ) (put (settled w t l m) s.tasks)) c q
    owners c q k = let r = withdrawn_mem q y (commit_at w o n s.means c) k in
        let b = h.owned c q (subst (λ os. Memᴰ q os) (commit_offers w o n s.means c) r.0) in
        owned_told w _ c q (owned_by w s.tasks c q b _ b.task
        (put_mem (settled w t l m) b.task s.tasks b.live (owner_waits_there w _ c q b _ _ h.tidy t a.live y a.all a.waits r.1)) refl) σ

sound_two : {M : Type 0} (w : Setting M) (s : State M) → Sound w s → (g r : Task M) (y i z j : ℕ) (l k : Leaf M) → Stands s g y i l → Stands s r z j k → (m n : M) (σs : List Settlement) → σs ≡ record { sync = y; above = l.above } ∷ (record { sync = z; above = k.above } ∷ [])
    → Sound w (after_settling s σs s.means (put (settled w r k m) (put (settled w g l n) s.tasks)))
sound_two {M} w s h g r y i z j l k a b m n σs e = rw e (record { tidy = tidied; owned = owners })
  where
    σ : List Settlement
    σ = record { sync = y; above = l.above } ∷ (record { sync = z; above = k.above } ∷ [])

    tidied : Tidy (map (told_of σ) (put (settled w r k m) (put (settled w g l n) s.tasks))) s.last_task s.last_sync
    tidied = tidy_told σ _ _ _ (tidy_two s.tasks _ _ h.tidy g r (settled w g l n) (settled w r k m) a.live b.live refl refl refl refl)

    owners : (c : BaseKind) (q : Offer) → Memᴰ q (withdrawn z (withdrawn y (s.means c))).offers → Owned w (map (told_of σ) (put (settled w r k m) (put (settled w g l n) s.tasks))) c q
    owners c q x = let p = withdrawn_mem q z (withdrawn y (s.means c)) x in let p' = withdrawn_mem q y (s.means c) p.0 in
        let o = h.owned c q p'.0 in
        owned_told w _ c q (owned_by w s.tasks c q o _ o.task
        (put_mem (settled w r k m) o.task _ (put_mem (settled w g l n) o.task s.tasks o.live (owner_waits_there w _ c q o _ _ h.tidy g a.live y a.all a.waits p'.1))
        (owner_waits_there w _ c q o _ _ h.tidy r b.live z b.all b.waits p.1)) refl) σ

-- the other steps

sound_moved : {M : Type 0} (w : Setting M) (s : State M) → Sound w s → (t : Task M) → Ready w s t → (p : ℕ) → Sound w (with_tasks s (put (moved t p) s.tasks))
sound_moved w s h t r p = record {
  tidy = tidy_runs t (moved t p) s.tasks _ _ h.tidy r.live refl refl;
  owned = λ c q k. owned_put w s.tasks c q (h.owned c q k) _ _ h.tidy t r.live (moved t p) refl r.runs;
}

sound_spawned : {M : Type 0} (w : Setting M) (s : State M) → Sound w s → (t u : Task M) → Ready w s t → (p : ℕ) → u.number ≡ suc s.last_task → u.wait ≡ running
    → Sound w (record { clock = s.clock; means = s.means; tasks = put (moved t p) s.tasks ++ (u ∷ []); last_task = suc s.last_task; last_sync = s.last_sync })
sound_spawned w s h t u r p e f = record {
  tidy = tidy_more (put (moved t p) s.tasks) (u ∷ []) s.last_task (suc s.last_task) s.last_sync (omega arith) (sound_moved w s h t r p).tidy (fresh_one u s.last_task e f);
  owned = λ c q k. owned_more w _ c q ((sound_moved w s h t r p).owned c q k) (u ∷ []);
}

sound_synced : {M : Type 0} (w : Setting M) (s : State M) → Sound w s → (t : Task M) → Ready w s t → (bs : List ℕ) (ls : List (Leaf M)) (y : ℕ) → y ≡ suc s.last_sync
    → Sound w (record { clock = s.clock; means = λ c. enrolled_each (offers_in w c y 0 ls) (s.means c); tasks = put (waits_at t y ls) s.tasks ++ nack_tasks w y (suc s.last_task) 0 bs; last_task = s.last_task + length bs; last_sync = y })
sound_synced {M} w s h t r bs ls y e = record { tidy = tidied; owned = owners }
  where
    tidied : Tidy (put (waits_at t y ls) s.tasks ++ nack_tasks w y (suc s.last_task) 0 bs) (s.last_task + length bs) y
    tidied = tidy_more (put (waits_at t y ls) s.tasks) (nack_tasks w y (suc s.last_task) 0 bs) s.last_task (s.last_task + length bs) y (omega arith)
        (subst (λ x. Tidy (put (waits_at t x ls) s.tasks) s.last_task x) (sym e) (tidy_waits t (waits_at t (suc s.last_sync) ls) s.tasks _ _ h.tidy r.live refl ls refl))
        (fresh_nacks w y s.last_task 0 bs)

    ours : (c : BaseKind) (q : Offer) → Own w c y 0 ls q → Owned w (put (waits_at t y ls) s.tasks) c q
    ours c q o = let z : q.leaf ≡ o.back = (let k = o.there in omega arith) in record {
      task = waits_at t y ls;
      leaf = o.leaf;
      all = ls;
      live = put_self (waits_at t y ls) t s.tasks r.live refl;
      waits = ap (λ x. waiting x ls) (sym o.ours);
      here = ap (slice_get ls) z ∙ o.here;
      offered = ap (λ x. placed w x q.leaf o.leaf.base) o.ours ∙ ap (λ x. placed w y x o.leaf.base) o.there ∙ o.offered;
    }

    go : (c : BaseKind) (q : Offer) → Memᴰ q (s.means c).offers ⊎ Memᴰ q (offers_in w c y 0 ls) → Owned w (put (waits_at t y ls) s.tasks) c q
    go c q (inl m) = owned_put w s.tasks c q (h.owned c q m) _ _ h.tidy t r.live (waits_at t y ls) refl r.runs
    go c q (inr m) = ours c q (own_offers w c y 0 ls q m)

    owners : (c : BaseKind) (q : Offer) → Memᴰ q (enrolled_each (offers_in w c y 0 ls) (s.means c)).offers → Owned w (put (waits_at t y ls) s.tasks ++ nack_tasks w y (suc s.last_task) 0 bs) c q
    owners c q m = owned_more w _ c q (go c q (enrolled_each_mem (offers_in w c y 0 ls) q (s.means c) m)) (nack_tasks w y (suc s.last_task) 0 bs)

pub sound_step : {M : Type 0} (w : Setting M) (s : State M) (v : Move) (rs : List (Event M)) (s' : State M) → Sound w s → Step w s v rs s' → Sound w s'
sound_step w s v rs s' h (ends t r _ _ _ e) = subst (Sound w) (sym e) (record { tidy = tidy_kept _ s.tasks _ _ h.tidy; owned = λ c q k. owned_kept w s.tasks c q (h.owned c q k) _ _ h.tidy t r.live r.runs })
sound_step w s v rs s' h (emits t r _ _ _ e) = subst (Sound w) (sym e) (sound_moved w s h t r (suc t.place))
sound_step w s v rs s' h (returns t r _ _ _ e) = subst (Sound w) (sym e) (sound_moved w s h t r 0)
sound_step w s v rs s' h (spawns t b r _ _ _ e) = subst (Sound w) (sym e) (sound_spawned w s h t (started w (suc s.last_task) b Void) r (suc t.place) refl refl)
sound_step w s v rs s' h (syncs t x r _ _ bs _ ls _ y f _ e) = subst (Sound w) (sym e) (sound_synced w s h t r bs ls y f)
sound_step w s v rs s' h (settles_one t y i l a _ _ σs f _ e) = subst (Sound w) (sym e) (sound_one w s h t y i l a (result w s y i l.base) t.register (placed w y i l.base) σs f)
sound_step w s v rs s' h (settles_pair g r y i z j p l k a _ b _ _ σs f _ e) = subst (Sound w) (sym e) (sound_two w s h g r y i z j l k a b g.register w.messages.blank σs f)

pub sound_act : {M : Type 0} (w : Setting M) (s : State M) (rs : List (Event M)) (s' : State M) → Sound w s → Act w s rs s' → Sound w s'
sound_act w s rs s' h (steps v a) = sound_step w s v rs s' h a
sound_act {M} w s rs s' h (posts p m _ _ _ e) = subst (Sound w) (sym e) (record { tidy = h.tidy; owned = λ c q k. h.owned c q (go c q (is_kind (Port Mailbox) c) k) })
  where
    go : (c : BaseKind) (q : Offer) (b : Bool) → Memᴰ q (cond b (with_post w p m (s.means c)) (s.means c)).offers → Memᴰ q (s.means c).offers
    go c q true k = posted_mem w p m q (s.means c) k
    go c q false k = k
sound_act w s rs s' h (clocks k _ _ _ e) = subst (Sound w) (sym e) (record { tidy = h.tidy; owned = h.owned })

pub sound_run : {M : Type 0} (w : Setting M) (tr : List (Record M)) (s : State M) → Run w tr s → Sound w s
sound_run {M} w tr s (begins _ e) = subst (Sound w) (sym e) (record { tidy = tidy_more [] (started w 1 0 Void ∷ []) 0 1 0 (omega arith) none_yet (fresh_one (started w 1 0 Void) 0 refl refl); owned = λ c q m. absurd (Memᴰ.not-nil m) })
  where
    none_yet : Tidy {M = M} [] 0 0
    none_yet = record { numbers = λ a b m. absurd (Memᴰ.not-nil m); low = λ a m. absurd (Memᴰ.not-nil m); syncs = λ a b x ls ks m. absurd (Memᴰ.not-nil m); early = λ a x ls m. absurd (Memᴰ.not-nil m) }
sound_run w tr s (goes_on {s = s₀} rs r a _) = sound_act w s₀ rs s (sound_run w _ s₀ r) a
