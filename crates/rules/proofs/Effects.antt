-- What each act does to the nacks.
use Rattle.std.proofs.Common.{◌≡◌, ℕ, suc, ◌+◌, ◌<◌, ◌≤◌, Bool, true, false, cond, eqb, ◌≢◌, ◌⊎◌, List, [], ◌∷◌, ◌++◌, map, length, sym, refl, ap, ◌∙◌, subst, inl, inr, arith}
use mathlib.Core.List.Memᴰ
use mathlib.Core.List.{Memᴰ}
use Rattle.std.proofs.lemmas.Bool.{eqb-true, eqb-false}
use Rattle.trace.specs.declared.record.Event.{Event}
use Rattle.rules.specs.declared.nack.Nack.{Nack}
use Rattle.rules.specs.declared.nack.Nack.TheVariants.{Pending, Fired, Void}
use Rattle.rules.specs.States.{Setting, Leaf, Task, State}
use Rattle.rules.specs.Settling.{result, settled, Settlement, in_branch, nack_after, told_of}
use Rattle.rules.specs.Steps.{moved, waits_at, started, nack_tasks, Move, Step, ends, emits, returns, spawns, syncs, settles_one, settles_pair}
use Rattle.rules.specs.Runs.{Act, steps, posts, clocks}
use Rattle.rules.specs.Laws.{LawfulKinds, settled_in}
use Rattle.rules.specs.Nacks.{Settles, Starts, ActSettles, ActStarts}
use Rattle.rules.proofs.Members.{mem_kept}
use Rattle.rules.proofs.Tasks.{From, from_put}
use Rattle.rules.proofs.Once.{two_syncs}
use Rattle.rules.proofs.Stories.{Settlings, Startings, AtOneLeaf, StartedOnce, Unsettled, After, Heir, New, Effect}

-- acts that settle nothing

-- the number and the nack are the same
abbrev SameNack : {M : Type 0} → Task M → Task M → Type 0
SameNack u t = (u.number ≡ t.number) × (t.nack ≡ u.nack)

abbrev Kin : {M : Type 0} → List (Task M) → List (Task M) → Type 0
Kin ts us = From SameNack ts us

kin_self : {M : Type 0} (ts : List (Task M)) → Kin ts ts
kin_self ts t m = (t, m, (refl, refl))

abbrev NoSettlings : {M : Type 0} → Settlings M
NoSettlings y l = ⊥

abbrev NoStartings : Startings
NoStartings n y b = ⊥

after_none : (M : Type 0) (k k' : Nack) → k' ≡ k → After (NoSettlings {M = M}) k k'
after_none M Fired k' e = e
after_none M Void k' e = e
after_none M (Pending y b) k' e = inl ((λ l o. o), e)

kin_heir : {M : Type 0} (s : State M) (us : List (Task M)) → Kin s.tasks us → (t : Task M) → Memᴰ t us → Heir s NoSettlings t
kin_heir {M} s us k t m = let p = k t m in record { of = p.0; live = p.1; same = p.2.0; after = after_none M p.0.nack t.nack p.2.1 }

effect_kin : {M : Type 0} (s s' : State M) (rs : List (Event M)) → Kin s.tasks s'.tasks → s.last_task ≤ s'.last_task → Effect s s' rs NoSettlings NoStartings
effect_kin s s' rs k g = record { starts_new = λ n y b o. absurd o; starts_once = λ n y b y' b' o. absurd o; settles_in = λ y l o. absurd o; settles_once = λ y l l' o. absurd o; grows = g; heirs = λ t m. inl (kin_heir s s'.tasks k t m) }

effect_starts : {M : Type 0} (s s' : State M) (rs : List (Event M)) (St : Startings) (us vs : List (Task M)) → Kin s.tasks us → s'.tasks ≡ us ++ vs → s.last_task ≤ s'.last_task
    → ((n y b : ℕ) → St n y b → (s.last_task < n) × (n ≤ s'.last_task) × (s.last_sync < y) × (y ≤ s'.last_sync)) → ((n : ℕ) → StartedOnce St n) → ((t : Task M) → Memᴰ t vs → New s St t)
    → Effect s s' rs NoSettlings St
effect_starts {M} s s' rs St us vs k e g f u h = record { starts_new = f; starts_once = u; settles_in = λ y l o. absurd o; settles_once = λ y l l' o. absurd o; grows = g; heirs = λ t m. go t (Memᴰ.append_cases us (subst (λ l. Memᴰ t l) e m)) }
  where
    go : (t : Task M) → Memᴰ t us ⊎ Memᴰ t vs → Heir s NoSettlings t ⊎ New s St t
    go t (inl m) = inl (kin_heir s us k t m)
    go t (inr m) = inr (h t m)

effect_spawn : {M : Type 0} (w : Setting M) (s s' : State M) (rs : List (Event M)) (us : List (Task M)) (b : ℕ) → Kin s.tasks us → s'.tasks ≡ us ++ (started w (suc s.last_task) b Void ∷ []) → s'.last_task ≡ suc s.last_task → Effect s s' rs NoSettlings NoStartings
effect_spawn {M} w s s' rs us b k e f = effect_starts s s' rs NoStartings us _ k e (omega arith) (λ n y b o. absurd o) (λ n y b y' b' o. absurd o) new
  where
    new : (t : Task M) → Memᴰ t (started w (suc s.last_task) b Void ∷ []) → New s NoStartings t
    new t m = let p = Memᴰ.eq_of_singleton m in let q : t.number ≡ suc s.last_task = ap (λ (v : Task M). v.number) p in (omega arith, inl (ap (λ (v : Task M). v.nack) p, λ y b o. o))

nack_task_at : {M : Type 0} (w : Setting M) (y n c : ℕ) (bs : List ℕ) (t : Task M) → Memᴰ t (nack_tasks w y n c bs) → (d : ℕ) × (d < length bs) × (t.number ≡ n + d) × (t.nack ≡ Pending y (c + d))
nack_task_at w y n c [] t m = absurd (Memᴰ.not-nil m)
nack_task_at {M} w y n c (b ∷ bs) t (Memᴰ.head p) = let e : n ≡ n + 0 = omega arith in let f : c ≡ c + 0 = omega arith in
    (0, omega arith, ap (λ (v : Task M). v.number) p ∙ e, ap (λ (v : Task M). v.nack) p ∙ ap (Pending y) f)
nack_task_at w y n c (b ∷ bs) t (Memᴰ.tail m) = let r = nack_task_at w y (suc n) (suc c) bs t m in let e : suc n + r.0 ≡ n + suc r.0 = omega arith in let f : suc c + r.0 ≡ c + suc r.0 = omega arith in let k = r.1 in
    (suc r.0, omega arith, r.2 ∙ e, r.3 ∙ ap (Pending y) f)

-- the with-nacks of the sync `y`, of the bodies `bs`, start tasks numbered after `n`
abbrev SyncStarts : ℕ → List ℕ → ℕ → Startings
SyncStarts y bs last n x b = (x ≡ y) × (b < length bs) × (n ≡ suc last + b)

effect_sync : {M : Type 0} (w : Setting M) (s s' : State M) (rs : List (Event M)) (us : List (Task M)) (bs : List ℕ) (y : ℕ) → Kin s.tasks us → s'.tasks ≡ us ++ nack_tasks w y (suc s.last_task) 0 bs → s'.last_task ≡ s.last_task + length bs → y ≡ suc s.last_sync → s'.last_sync ≡ y
    → Effect s s' rs NoSettlings (SyncStarts y bs s.last_task)
effect_sync {M} w s s' rs us bs y k e f g h = effect_starts s s' rs (SyncStarts y bs s.last_task) us _ k e (omega arith)
    (λ n x b o. let p = o.0 in let q = o.1 in let r = o.2 in (omega arith, omega arith, omega arith, omega arith))
    (λ n x b x' b' o o'. let p = o.2 in let p' = o'.2 in (o.0 ∙ sym o'.0, omega arith))
    new
  where
    new : (t : Task M) → Memᴰ t (nack_tasks w y (suc s.last_task) 0 bs) → New s (SyncStarts y bs s.last_task) t
    new t m = let r = nack_task_at w y (suc s.last_task) 0 bs t m in let q = r.2 in let z : 0 + r.0 ≡ r.0 = omega arith in (omega arith, inr (y, r.0, r.3 ∙ ap (Pending y) z, (refl, r.1, r.2)))

-- acts that settle

abbrev OneSettled : {M : Type 0} → ℕ → Leaf M → Settlings M
OneSettled y l x m = (x ≡ y) × (m ≡ l)

abbrev TwoSettled : {M : Type 0} → ℕ → Leaf M → ℕ → Leaf M → Settlings M
TwoSettled y l z k x m = ((x ≡ y) × (m ≡ l)) ⊎ ((x ≡ z) × (m ≡ k))

one_once : {M : Type 0} (y : ℕ) (l : Leaf M) → AtOneLeaf (OneSettled y l)
one_once y l x m m' o o' = o.1 ∙ sym o'.1

two_once : {M : Type 0} (y : ℕ) (l : Leaf M) (z : ℕ) (k : Leaf M) → y ≢ z → AtOneLeaf (TwoSettled y l z k)
two_once y l z k d x m m' (inl o) (inl o') = o.1 ∙ sym o'.1
two_once y l z k d x m m' (inl o) (inr o') = absurd (d (sym o.0 ∙ o'.0))
two_once y l z k d x m m' (inr o) (inl o') = absurd (d (sym o'.0 ∙ o.0))
two_once y l z k d x m m' (inr o) (inr o') = o.1 ∙ sym o'.1

pub after_one : {M : Type 0} (y : ℕ) (l : Leaf M) (σs : List Settlement) → σs ≡ record { sync = y; above = l.above } ∷ [] → (k : Nack) → After (OneSettled y l) k (nack_after σs k)
after_one y l σs h Fired = refl
after_one y l σs h Void = refl
after_one {M} y l σs h (Pending x b) = rw h (go (eqb x y) refl)
  where
    go : (c : Bool) → eqb x y ≡ c → After (OneSettled y l) (Pending x b) (cond c (cond (in_branch b l.above) Void Fired) (Pending x b))
    go true e = inr (l, (eqb-true x y e, refl), refl)
    go false e = inl ((λ m o. eqb-false x y e o.0), refl)

pub after_two : {M : Type 0} (y : ℕ) (l : Leaf M) (z : ℕ) (m : Leaf M) (σs : List Settlement) → σs ≡ record { sync = y; above = l.above } ∷ (record { sync = z; above = m.above } ∷ []) → (k : Nack) → After (TwoSettled y l z m) k (nack_after σs k)
after_two y l z m σs h Fired = refl
after_two y l z m σs h Void = refl
after_two {M} y l z m σs h (Pending x b) = rw h (go (eqb x y) refl (eqb x z) refl)
  where
    of_neither : x ≢ y → x ≢ z → Unsettled (TwoSettled y l z m) x
    of_neither f g n (inl o) = f o.0
    of_neither f g n (inr o) = g o.0

    go : (c : Bool) → eqb x y ≡ c → (d : Bool) → eqb x z ≡ d → After (TwoSettled y l z m) (Pending x b) (cond c (cond (in_branch b l.above) Void Fired) (cond d (cond (in_branch b m.above) Void Fired) (Pending x b)))
    go true e d f = inr (l, inl (eqb-true x y e, refl), refl)
    go false e true f = inr (m, inr (eqb-true x z f, refl), refl)
    go false e false f = inl (of_neither (eqb-false x y e) (eqb-false x z f), refl)

two_listed : {M : Type 0} (y : ℕ) (l : Leaf M) (z : ℕ) (k : Leaf M) (ns : List ℕ) (x : ℕ) (m : Leaf M) → TwoSettled y l z k x m → Memᴰ x (y ∷ (z ∷ ns))
two_listed y l z k ns x m (inl o) = Memᴰ.head o.0
two_listed y l z k ns x m (inr o) = Memᴰ.tail (Memᴰ.head o.0)

effect_told : {M : Type 0} (s s' : State M) (rs : List (Event M)) (us : List (Task M)) (σs : List Settlement) (Se : Settlings M) → Kin s.tasks us → s'.tasks ≡ map (told_of σs) us → s'.last_task ≡ s.last_task
    → ((k : Nack) → After Se k (nack_after σs k)) → ((y : ℕ) (l : Leaf M) → Se y l → Memᴰ y (settled_in rs)) → AtOneLeaf Se
    → Effect s s' rs Se NoStartings
effect_told {M} s s' rs us σs Se k e f g h i = record { starts_new = λ n y b o. absurd o; starts_once = λ n y b y' b' o. absurd o; settles_in = h; settles_once = i; grows = omega arith; heirs = λ t m. inl (heir t (subst (λ l. Memᴰ t l) e m)) }
  where
    heir : (t : Task M) → Memᴰ t (map (told_of σs) us) → Heir s Se t
    heir t m = let p = Memᴰ.of_map (told_of σs) us m in let q = k p.0 p.1 in
        let n : nack_after σs q.0.nack ≡ t.nack = ap (nack_after σs) (sym q.2.1) ∙ ap (λ (v : Task M). v.nack) p.2 in
        record { of = q.0; live = q.1; same = q.2.0 ∙ ap (λ (v : Task M). v.number) p.2; after = subst (After Se q.0.nack) n (g q.0.nack) }

-- every act

at_end : {M : Type 0} (s s' s₀ : State M) (rs rs₀ : List (Event M)) (Se : Settlings M) (St : Startings) → rs ≡ rs₀ → s' ≡ s₀ → Effect s s₀ rs₀ Se St → Effect s s' rs Se St
at_end s s' s₀ rs rs₀ Se St e f h = subst (λ x. Effect s x rs Se St) (sym f) (subst (λ q. Effect s s₀ q Se St) (sym e) h)

effect_step : {M : Type 0} (limit : ℕ) (w : Setting M) → LawfulKinds limit w → (s : State M) (v : Move) (rs : List (Event M)) (s' : State M) (a : Step w s v rs s') → Effect s s' rs (Settles a) (Starts a)
effect_step limit w c s v rs s' (ends t r _ _ f e) = at_end s s' _ rs _ NoSettlings NoStartings f e (effect_kin s _ _ (λ u m. kin_self s.tasks u (mem_kept _ u s.tasks m).0) (omega arith))
effect_step limit w c s v rs s' (emits t r _ _ f e) = at_end s s' _ rs _ NoSettlings NoStartings f e (effect_kin s _ _ (from_put SameNack s.tasks s.tasks t (moved t (suc t.place)) r.live (refl, refl) (kin_self s.tasks)) (omega arith))
effect_step limit w c s v rs s' (returns t r _ _ f e) = at_end s s' _ rs _ NoSettlings NoStartings f e (effect_kin s _ _ (from_put SameNack s.tasks s.tasks t (moved t 0) r.live (refl, refl) (kin_self s.tasks)) (omega arith))
effect_step limit w c s v rs s' (spawns t b r _ _ f e) = at_end s s' _ rs _ NoSettlings NoStartings f e
    (effect_spawn w s _ _ _ b (from_put SameNack s.tasks s.tasks t (moved t (suc t.place)) r.live (refl, refl) (kin_self s.tasks)) refl refl)
effect_step limit w c s v rs s' (syncs t x r _ _ bs _ ls _ y g f e) = at_end s s' _ rs _ NoSettlings (SyncStarts y bs s.last_task) f e
    (effect_sync w s _ _ _ bs y (from_put SameNack s.tasks s.tasks t (waits_at t y ls) r.live (refl, refl) (kin_self s.tasks)) refl refl g refl)
effect_step limit w c s v rs s' (settles_one t y i l a _ _ σs g f e) = at_end s s' _ rs _ (OneSettled y l) NoStartings f e
    (effect_told s _ _ _ σs (OneSettled y l) (from_put SameNack s.tasks s.tasks t (settled w t l (result w s y i l.base)) a.live (refl, refl) (kin_self s.tasks)) refl refl (after_one y l σs g) (λ x m o. Memᴰ.head o.0) (one_once y l))
effect_step limit w c s v rs s' (settles_pair g r y i z j p l k a d b d' q σs h f e) = at_end s s' _ rs _ (TwoSettled y l z k) NoStartings f e
    (effect_told s _ _ _ σs (TwoSettled y l z k)
    (from_put SameNack s.tasks _ r (settled w r k g.register) b.live (refl, refl) (from_put SameNack s.tasks s.tasks g (settled w g l w.messages.blank) a.live (refl, refl) (kin_self s.tasks))) refl refl
    (after_two y l z k σs h) (two_listed y l z k _) (two_once y l z k (two_syncs limit w c s v g r y i z j p l k d d' q)))

pub effect_act : {M : Type 0} (limit : ℕ) (w : Setting M) → LawfulKinds limit w → (s : State M) (rs : List (Event M)) (s' : State M) (a : Act w s rs s') → Effect s s' rs (ActSettles a) (ActStarts a)
effect_act limit w c s rs s' (steps v a) = effect_step limit w c s v rs s' a
effect_act limit w c s rs s' (posts p m _ _ f e) = at_end s s' _ rs _ NoSettlings NoStartings f e (effect_kin s _ _ (kin_self s.tasks) (omega arith))
effect_act limit w c s rs s' (clocks k _ _ f e) = at_end s s' _ rs _ NoSettlings NoStartings f e (effect_kin s _ _ (kin_self s.tasks) (omega arith))
