-- No sync is settled twice.
use Rattle.std.proofs.Common.{◌≡◌, ℕ, suc, ◌<◌, ◌≤◌, ◌≢◌, ◌⊎◌, List, [], ◌∷◌, ◌++◌, map, length, Some, None, Option, sym, refl, ap, ◌∙◌, subst, inl, inr, arith}
use mathlib.Core.List.Memᴰ
use mathlib.Core.List.{Memᴰ}
use Rattle.grammar.specs.declared.words.PortKind.{PortKind}
use Rattle.rows.specs.Rows.{port_kind}
use Rattle.trace.specs.declared.record.Event.{Event}
use Rattle.trace.specs.declared.record.Record.{Record}
use Rattle.rules.specs.declared.kind.BaseKind.TheVariants.{Port}
use Rattle.rules.specs.declared.nack.Nack.TheVariants.{Void}
use Rattle.rules.specs.declared.offer.Offer.{Offer}
use Rattle.rules.specs.declared.offer.Reply.TheVariants.{With}
use Rattle.rules.specs.States.{Setting, send, recv, Leaf, running, waiting, Task, State}
use Rattle.rules.specs.Able.{at_port, poll_at, reply, Stands}
use Rattle.rules.specs.Settling.{result, put, settled, Settlement, told_of}
use Rattle.rules.specs.Steps.{moved, waits_at, started, Move, settles, Step, ends, emits, returns, spawns, syncs, settles_one, settles_pair}
use Rattle.rules.specs.Runs.{Act, steps, posts, clocks, Run, begins, goes_on}
use Rattle.rules.specs.Laws.{LawfulKinds, happenings, settled_by, settled_in, Distinct, SettledOnce}
use Rattle.rules.proofs.Members.{mem_kept}
use Rattle.rules.proofs.Tasks.{mem_put, not_both, PutOrThere, fresh_one, fresh_nacks}
use Rattle.rules.proofs.Sound.{Sound, sound_run}
use Rattle.rules.proofs.Records.{fires_none, starts_none, each_more}

-- The two syncs of a pair are two.

with_another : {M : Type 0} (limit : ℕ) (w : Setting M) → LawfulKinds limit w → (s : State M) (k : Option PortKind) (o : Offer) (z j : ℕ) → poll_at w s (at_port k o) ≡ With z j → z ≢ o.sync
with_another limit w c s None o z j e = absurd (let f : ◌≡◌ {A = ℕ} 0 1 = cc in omega arith)
with_another limit w c s (Some k) o z j e = ((c (Port k)).partner _ _ _ o z j e).another

pub two_syncs : {M : Type 0} (limit : ℕ) (w : Setting M) → LawfulKinds limit w → (s : State M) (v : Move) (g r : Task M) (y i z j p : ℕ) (l k : Leaf M) → l.base ≡ send p → k.base ≡ recv p
    → ((reply w s g y i l.base ≡ With z j) × (v ≡ settles g.number i)) ⊎ ((reply w s r z j k.base ≡ With y i) × (v ≡ settles r.number j))
    → y ≢ z
two_syncs limit w c s v g r y i z j p l k e f (inl m) d = with_another limit w c s (port_kind w.script.ports p) _ z j (ap (reply w s g y i) (sym e) ∙ m.0) (sym d)
two_syncs limit w c s v g r y i z j p l k e f (inr m) d = with_another limit w c s (port_kind w.script.ports p) _ y i (ap (reply w s r z j) (sym f) ∙ m.0) d

-- the syncs that wait and those that were settled

pub record Waits {M : Type 0} (s : State M) (x : ℕ) : Type 0 where
  pub task : Task M
  pub all : List (Leaf M)
  pub live : Memᴰ task s.tasks
  pub waits : task.wait ≡ waiting x all

pub record Past {M : Type 0} (tr : List (Record M)) (s : State M) : Type 0 where
  pub gone : (x : ℕ) → Memᴰ x (settled_in (happenings tr)) → (x ≤ s.last_sync) × (Waits s x → ⊥)
  pub once : Distinct (settled_in (happenings tr))

-- a sync that waits after an act: it waited before and is none of the `new`, or it is later than all then
abbrev Still : {M : Type 0} → State M → List ℕ → ℕ → Type 0
Still s new x = (Waits s x × (Memᴰ x new → ⊥)) ⊎ (s.last_sync < x)

-- what an act does to them: the `new` are the syncs that it settles
pub record Moves {M : Type 0} (s s' : State M) (new : List ℕ) : Type 0 where
  pub still : (x : ℕ) → Waits s' x → Still s new x
  pub grows : s.last_sync ≤ s'.last_sync
  pub were : (x : ℕ) → Memᴰ x new → Waits s x
  pub apart : Distinct new

pub waits_early : {M : Type 0} (w : Setting M) (s : State M) → Sound w s → (x : ℕ) → Waits s x → x ≤ s.last_sync
waits_early w s h x a = (h.tidy.early a.task x a.all a.live a.waits).1

distinct_append : (xs ys : List ℕ) → Distinct xs → Distinct ys → ((x : ℕ) → Memᴰ x xs → Memᴰ x ys → ⊥) → Distinct (xs ++ ys)
distinct_append [] ys a b c = b
distinct_append (x ∷ xs) ys a b c = ((λ m. either (Memᴰ.append_cases xs m)), distinct_append xs ys a.1 b (λ z m. c z (Memᴰ.tail m)))
  where
    either : Memᴰ x xs ⊎ Memᴰ x ys → ⊥
    either (inl m) = a.0 m
    either (inr m) = c x (Memᴰ.head refl) m

past_more : {M : Type 0} (w : Setting M) (tr tr' : List (Record M)) (s s' : State M) (new : List ℕ) → Sound w s → Past tr s → Moves s s' new → settled_in (happenings tr') ≡ settled_in (happenings tr) ++ new → Past tr' s'
past_more {M} w tr tr' s s' new h p m e = record {
  gone = λ x k. either x (Memᴰ.append_cases old (subst (λ l. Memᴰ x l) e k));
  once = subst Distinct (sym e) (distinct_append old new p.once m.apart (λ x a b. (p.gone x a).1 (m.were x b)));
}
  where
    old : List ℕ
    old = settled_in (happenings tr)

    old_not : (x : ℕ) → Memᴰ x old → Still s new x → ⊥
    old_not x a (inl b) = (p.gone x a).1 b.0
    old_not x a (inr b) = let c = (p.gone x a).0 in omega arith

    new_not : (x : ℕ) → Memᴰ x new → Still s new x → ⊥
    new_not x a (inl b) = b.1 a
    new_not x a (inr b) = let c = waits_early w s h x (m.were x a) in omega arith

    either : (x : ℕ) → Memᴰ x old ⊎ Memᴰ x new → (x ≤ s'.last_sync) × (Waits s' x → ⊥)
    either x (inl a) = let c = (p.gone x a).0 in let g = m.grows in (omega arith, λ v. old_not x a (m.still x v))
    either x (inr a) = let c = waits_early w s h x (m.were x a) in let g = m.grows in (omega arith, λ v. new_not x a (m.still x v))

-- where nothing is settled

abbrev Waited : {M : Type 0} → State M → State M → Type 0
Waited s s' = (x : ℕ) → Waits s' x → Waits s x ⊎ (s.last_sync < x)

moves_none : {M : Type 0} (s s' : State M) → Waited s s' → s.last_sync ≤ s'.last_sync → Moves s s' []
moves_none {M} s s' f g = record { still = λ x v. go x (f x v); grows = g; were = λ x m. absurd (Memᴰ.not-nil m); apart = tt }
  where
    go : (x : ℕ) → Waits s x ⊎ (s.last_sync < x) → Still s [] x
    go x (inl a) = inl (a, Memᴰ.not-nil)
    go x (inr b) = inr b

waited_same : {M : Type 0} (s s' : State M) → ((t : Task M) → Memᴰ t s'.tasks → Memᴰ t s.tasks) → Waited s s'
waited_same s s' f x a = inl (record { task = a.task; all = a.all; live = f a.task a.live; waits = a.waits })

-- the task put runs, or waits in a later sync
module _ {M : Type 0} (s : State M) (t : Task M) (later : (x : ℕ) (ls : List (Leaf M)) → t.wait ≡ waiting x ls → s.last_sync < x) where
  waited_put : (v : Task M) (x : ℕ) (ls : List (Leaf M)) → v.wait ≡ waiting x ls → Memᴰ v (put t s.tasks) → Waits s x ⊎ (s.last_sync < x)
  waited_put v x ls e m = go (mem_put t v s.tasks m)
    where
      go : PutOrThere t s.tasks v → Waits s x ⊎ (s.last_sync < x)
      go (inl p) = inr (later x ls (ap (λ (u : Task M). u.wait) (sym p) ∙ e))
      go (inr p) = inl (record { task = v; all = ls; live = p.0; waits = e })

  waited_more : (us : List (Task M)) → ((u : Task M) → Memᴰ u us → u.wait ≡ running) → (s' : State M) → s'.tasks ≡ put t s.tasks ++ us → Waited s s'
  waited_more us r s' e x a = go (Memᴰ.append_cases (put t s.tasks) (subst (λ l. Memᴰ a.task l) e a.live))
    where
      go : Memᴰ a.task (put t s.tasks) ⊎ Memᴰ a.task us → Waits s x ⊎ (s.last_sync < x)
      go (inl m) = waited_put a.task x a.all a.waits m
      go (inr m) = absurd (not_both a.task.wait x a.all (r a.task m) a.waits)

never_waits : {M : Type 0} (n : ℕ) (t : Task M) → t.wait ≡ running → (x : ℕ) (ls : List (Leaf M)) → t.wait ≡ waiting x ls → n < x
never_waits n t r x ls e = absurd (not_both t.wait x ls r e)

waits_later : {M : Type 0} (n y : ℕ) (t : Task M) (ls : List (Leaf M)) → y ≡ suc n → t.wait ≡ waiting y ls → (x : ℕ) (ks : List (Leaf M)) → t.wait ≡ waiting x ks → n < x
waits_later n y t ls f e x ks g = let q : x ≡ y = cc in omega arith

waited_moved : {M : Type 0} (s : State M) (t : Task M) → t.wait ≡ running → (s' : State M) → s'.tasks ≡ put t s.tasks → Waited s s'
waited_moved s t r s' e x a = waited_put s t (never_waits s.last_sync t r) a.task x a.all a.waits (subst (λ l. Memᴰ a.task l) e a.live)

-- where syncs are settled

-- a task that still waits is none of those that run again
pub still_waits : {M : Type 0} (w : Setting M) (s : State M) → Sound w s → (t t' : Task M) (y i : ℕ) (l : Leaf M) → Stands s t y i l → t'.number ≡ t.number → t'.wait ≡ running → (us : List (Task M)) (v : Task M) (x : ℕ) (ls : List (Leaf M)) → v.wait ≡ waiting x ls
    → Memᴰ v (put t' us) → Memᴰ v us × (Memᴰ v s.tasks → x ≢ y)
still_waits {M} w s h t t' y i l a n r us v x ls e m = go (mem_put t' v us m)
  where
    go : PutOrThere t' us v → Memᴰ v us × (Memᴰ v s.tasks → x ≢ y)
    go (inl p) = absurd (not_both t'.wait x ls r (ap (λ (u : Task M). u.wait) (sym p) ∙ e))
    go (inr p) = (p.0, λ k d. p.1 (ap (λ (u : Task M). u.number) (h.tidy.syncs v t y ls a.all k a.live (e ∙ ap (λ z. waiting z ls) d) a.waits) ∙ sym n))

moves_settled : {M : Type 0} (s s' : State M) (new : List ℕ) (σs : List Settlement) (us : List (Task M)) → s'.tasks ≡ map (told_of σs) us → s'.last_sync ≡ s.last_sync → Distinct new → ((x : ℕ) → Memᴰ x new → Waits s x)
    → ((v : Task M) (x : ℕ) (ls : List (Leaf M)) → v.wait ≡ waiting x ls → Memᴰ v us → Memᴰ v s.tasks × (Memᴰ x new → ⊥))
    → Moves s s' new
moves_settled {M} s s' new σs us e f d g h = record { still = still; grows = omega arith; were = g; apart = d }
  where
    still : (x : ℕ) → Waits s' x → Still s new x
    still x v = let p = Memᴰ.of_map (told_of σs) us (subst (λ l. Memᴰ v.task l) e v.live) in
        let k : p.0.wait ≡ waiting x v.all = ap (λ (u : Task M). u.wait) p.2 ∙ v.waits in
        let q = h p.0 x v.all k p.1 in
        inl (record { task = p.0; all = v.all; live = q.0; waits = k }, q.1)

stands_waits : {M : Type 0} (s : State M) (t : Task M) (y i : ℕ) (l : Leaf M) → Stands s t y i l → (x : ℕ) → x ≡ y → Waits s x
stands_waits s t y i l a x e = record { task = t; all = a.all; live = a.live; waits = a.waits ∙ ap (λ z. waiting z a.all) (sym e) }

moves_one : {M : Type 0} (w : Setting M) (s s' : State M) → Sound w s → (t t' : Task M) (y i : ℕ) (l : Leaf M) (σs : List Settlement) → Stands s t y i l → t'.number ≡ t.number → t'.wait ≡ running
    → s'.tasks ≡ map (told_of σs) (put t' s.tasks) → s'.last_sync ≡ s.last_sync → Moves s s' (y ∷ [])
moves_one {M} w s s' h t t' y i l σs a n r e f = moves_settled s s' (y ∷ []) σs (put t' s.tasks) e f (Memᴰ.not-nil, tt) (λ x m. stands_waits s t y i l a x (Memᴰ.eq_of_singleton m)) others
  where
    others : (v : Task M) (x : ℕ) (ls : List (Leaf M)) → v.wait ≡ waiting x ls → Memᴰ v (put t' s.tasks) → Memᴰ v s.tasks × (Memᴰ x (y ∷ []) → ⊥)
    others v x ls k m = let q = still_waits w s h t t' y i l a n r s.tasks v x ls k m in (q.0, λ o. q.1 q.0 (Memᴰ.eq_of_singleton o))

moves_two : {M : Type 0} (w : Setting M) (s s' : State M) → Sound w s → (t t' u u' : Task M) (y i z j : ℕ) (l k : Leaf M) (σs : List Settlement) → Stands s t y i l → Stands s u z j k → y ≢ z → t'.number ≡ t.number → u'.number ≡ u.number → t'.wait ≡ running → u'.wait ≡ running
    → s'.tasks ≡ map (told_of σs) (put u' (put t' s.tasks)) → s'.last_sync ≡ s.last_sync → Moves s s' (y ∷ (z ∷ []))
moves_two {M} w s s' h t t' u u' y i z j l k σs a b d n n' r r' e f = moves_settled s s' (y ∷ (z ∷ [])) σs (put u' (put t' s.tasks)) e f ((λ m. d (Memᴰ.eq_of_singleton m)), (Memᴰ.not-nil, tt)) were others
  where
    were : (x : ℕ) → Memᴰ x (y ∷ (z ∷ [])) → Waits s x
    were x (Memᴰ.head p) = stands_waits s t y i l a x p
    were x (Memᴰ.tail m) = stands_waits s u z j k b x (Memᴰ.eq_of_singleton m)

    neither : (x : ℕ) → x ≢ y → x ≢ z → Memᴰ x (y ∷ (z ∷ [])) → ⊥
    neither x p q (Memᴰ.head c) = p c
    neither x p q (Memᴰ.tail m) = q (Memᴰ.eq_of_singleton m)

    others : (v : Task M) (x : ℕ) (ls : List (Leaf M)) → v.wait ≡ waiting x ls → Memᴰ v (put u' (put t' s.tasks)) → Memᴰ v s.tasks × (Memᴰ x (y ∷ (z ∷ [])) → ⊥)
    others v x ls c m = let q' = still_waits w s h u u' z j k b n' r' (put t' s.tasks) v x ls c m in let q = still_waits w s h t t' y i l a n r s.tasks v x ls c q'.0 in
        (q.0, neither x (q.1 q.0) (q'.1 q.0))

-- every act

moved_to : {M : Type 0} (s s' s₀ : State M) (rs rs₀ : List (Event M)) (new : List ℕ) → rs ≡ rs₀ → s' ≡ s₀ → settled_in rs₀ ≡ new → Moves s s₀ new → Moves s s' (settled_in rs)
moved_to s s' s₀ rs rs₀ new e f g m = subst (λ x. Moves s x (settled_in rs)) (sym f) (subst (λ n. Moves s s₀ n) (sym (ap settled_in e ∙ g)) m)

moves_step : {M : Type 0} (limit : ℕ) (w : Setting M) → LawfulKinds limit w → (s : State M) (v : Move) (rs : List (Event M)) (s' : State M) → Sound w s → Step w s v rs s' → Moves s s' (settled_in rs)
moves_step limit w c s v rs s' h (ends t r _ _ f e) = moved_to s s' _ rs _ [] f e refl (moves_none s _ (waited_same s _ (λ u m. (mem_kept _ u s.tasks m).0)) (omega arith))
moves_step limit w c s v rs s' h (emits t r _ _ f e) = moved_to s s' _ rs _ [] f e refl (moves_none s _ (waited_moved s (moved t (suc t.place)) refl _ refl) (omega arith))
moves_step limit w c s v rs s' h (returns t r _ _ f e) = moved_to s s' _ rs _ [] f e refl (moves_none s _ (waited_moved s (moved t 0) refl _ refl) (omega arith))
moves_step limit w c s v rs s' h (spawns t b r _ _ f e) = moved_to s s' _ rs _ [] f e refl
    (moves_none s _ (waited_more s (moved t (suc t.place)) (never_waits s.last_sync (moved t (suc t.place)) refl) _ (fresh_one (started w (suc s.last_task) b Void) s.last_task refl refl).running _ refl) (omega arith))
moves_step {M} limit w c s v rs s' h (syncs t x r _ _ bs _ ls _ y g f e) = moved_to s s' _ rs _ [] f e (starts_none settled_by (λ n b t y. refl) t.number y (suc s.last_task) bs)
    (moves_none s _ (waited_more s (waits_at t y ls) (waits_later s.last_sync y (waits_at t y ls) ls g refl) _ (fresh_nacks w y s.last_task 0 bs).running _ refl) (omega arith))
moves_step limit w c s v rs s' h (settles_one t y i l a _ _ σs _ f e) = moved_to s s' _ rs _ (y ∷ []) f e (ap (λ x. y ∷ x) (fires_none settled_by (λ n y. refl) σs s.tasks))
    (moves_one w s _ h t (settled w t l (result w s y i l.base)) y i l σs a refl refl refl refl)
moves_step limit w c s v rs s' h (settles_pair g r y i z j p l k a d b d' m σs _ f e) = moved_to s s' _ rs _ (y ∷ (z ∷ [])) f e (ap (λ x. y ∷ (z ∷ x)) (fires_none settled_by (λ n y. refl) σs s.tasks))
    (moves_two w s _ h g (settled w g l w.messages.blank) r (settled w r k g.register) y i z j l k σs a b (two_syncs limit w c s v g r y i z j p l k d d' m) refl refl refl refl refl refl)

pub moves_act : {M : Type 0} (limit : ℕ) (w : Setting M) → LawfulKinds limit w → (s : State M) (rs : List (Event M)) (s' : State M) → Sound w s → Act w s rs s' → Moves s s' (settled_in rs)
moves_act limit w c s rs s' h (steps v a) = moves_step limit w c s v rs s' h a
moves_act limit w c s rs s' h (posts p m _ _ f e) = moved_to s s' _ rs _ [] f e refl (moves_none s _ (waited_same s _ (λ u m. m)) (omega arith))
moves_act limit w c s rs s' h (clocks k _ _ f e) = moved_to s s' _ rs _ [] f e refl (moves_none s _ (waited_same s _ (λ u m. m)) (omega arith))

pub past_run : {M : Type 0} (limit : ℕ) (w : Setting M) → LawfulKinds limit w → (tr : List (Record M)) (s : State M) → Run w tr s → Past tr s
past_run limit w c tr s (begins e f) = subst (λ x. Past x s) (sym e) (record { gone = λ x m. absurd (Memᴰ.not-nil m); once = tt })
past_run limit w c tr s (goes_on {tr = tr₀} {s = s₀} rs r a e) = let h = sound_run w tr₀ s₀ r in
    past_more w tr₀ tr s₀ s (settled_in rs) h (past_run limit w c tr₀ s₀ r) (moves_act limit w c s₀ rs s h a) (ap (λ x. settled_in (happenings x)) e ∙ each_more settled_by tr₀ (length tr₀) s.clock rs)

pub settled_once : (M : Type 0) → SettledOnce M
settled_once M limit w c tr s r = (past_run limit w c tr s r).once
