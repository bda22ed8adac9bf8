-- Which fire records an act makes.
use Rattle.std.proofs.Common.{◌≡◌, ℕ, suc, ◌<◌, Bool, true, false, cond, ◌⊎◌, List, [], ◌∷◌, ◌++◌, map, sym, refl, ap, ◌∙◌, subst, inl, inr, arith}
use mathlib.Core.List.Memᴰ
use mathlib.Core.List.{Memᴰ}
use Rattle.std.specs.List.{AllByRecursion}
use Rattle.std.proofs.lemmas.Bool.{both_ways}
use Rattle.trace.specs.declared.record.Event.{Event}
use Rattle.trace.specs.declared.record.Event.TheVariants as line
use Rattle.trace.specs.declared.record.Record.{Record}
use Rattle.rules.specs.declared.nack.Nack.{Nack}
use Rattle.rules.specs.declared.nack.Nack.TheVariants.{Pending, Fired, Void}
use Rattle.rules.specs.States.{Setting, Leaf, Task, State}
use Rattle.rules.specs.Settling.{Settlement, in_branch, pending_after, nack_after, fire_if, fire_of, fires}
use Rattle.rules.specs.Steps.{ends, emits, returns, spawns, syncs, settles_one, settles_pair}
use Rattle.rules.specs.Runs.{Act, steps, posts, clocks, Run}
use Rattle.rules.specs.Laws.{LawfulKinds, Rising, each_of}
use Rattle.rules.specs.Nacks.{ActSettles, ActStarts, WasSettled, WasStarted, fires_of, FireTold, FireLaw}
use Rattle.rules.proofs.Members.{mem_all}
use Rattle.rules.proofs.Rising.{rising_run}
use Rattle.rules.proofs.Records.{all_starts, each_append, each_none}
use Rattle.rules.proofs.Stories.{Settlings, AtOneLeaf, Outside, Told, After, Story, Effect, not_again}
use Rattle.rules.proofs.Effects.{after_one, after_two, effect_act}
use Rattle.rules.proofs.Nacked.{story, not_fired_and_void, not_fired_and_pending, nack_law}

-- the fire records of a settlement, and the tasks that they are for

pub record For {M : Type 0} (σs : List Settlement) (ts : List (Task M)) (n y : ℕ) : Type 0 where
  pub task : Task M
  pub branch : ℕ
  pub live : Memᴰ task ts
  pub its : task.number ≡ n
  pub was : task.nack ≡ Pending y branch
  pub is : pending_after σs y branch ≡ Fired

module _ (M : Type 0) (σs : List Settlement) where
  fire_if_mem : (m x : ℕ) (k : Nack) (n y : ℕ) → Memᴰ {A = Event M} (line.Fire n y) (fire_if m x k) → (m ≡ n) × (x ≡ y) × (k ≡ Fired)
  fire_if_mem m x Fired n y (Memᴰ.head p) = let a : m ≡ n = cc in let b : x ≡ y = cc in (a, b, refl)
  fire_if_mem m x Fired n y (Memᴰ.tail q) = absurd (Memᴰ.not-nil q)
  fire_if_mem m x Void n y q = absurd (Memᴰ.not-nil q)
  fire_if_mem m x (Pending z b) n y q = absurd (Memᴰ.not-nil q)

  fire_of_mem : (m : ℕ) (k : Nack) (n y : ℕ) → Memᴰ {A = Event M} (line.Fire n y) (fire_of σs m k) → (m ≡ n) × ((b : ℕ) × (k ≡ Pending y b) × (pending_after σs y b ≡ Fired))
  fire_of_mem m Fired n y q = absurd (Memᴰ.not-nil q)
  fire_of_mem m Void n y q = absurd (Memᴰ.not-nil q)
  fire_of_mem m (Pending x b) n y q = let r = fire_if_mem m x (pending_after σs x b) n y q in (r.0, (b, ap (λ z. Pending z b) r.1, ap (λ z. pending_after σs z b) (sym r.1) ∙ r.2))

  mem_fire_of : (n y b : ℕ) (k : Nack) → k ≡ Pending y b → pending_after σs y b ≡ Fired → Memᴰ {A = Event M} (line.Fire n y) (fire_of σs n k)
  mem_fire_of n y b k e f = subst (λ x. Memᴰ {A = Event M} (line.Fire n y) (fire_of σs n x)) (sym e) (subst (λ x. Memᴰ {A = Event M} (line.Fire n y) (fire_if n y x)) (sym f) (Memᴰ.head refl))

fires_mem : {M : Type 0} (σs : List Settlement) (ts : List (Task M)) (n y : ℕ) → Memᴰ (line.Fire n y) (fires σs ts) → For σs ts n y
fires_mem σs [] n y m = absurd (Memᴰ.not-nil m)
fires_mem {M} σs (t ∷ ts) n y m = go (fires_mem σs ts n y) (Memᴰ.append_cases (fire_of σs t.number t.nack) m)
  where
    go : (Memᴰ {A = Event M} (line.Fire n y) (fires σs ts) → For σs ts n y) → Memᴰ {A = Event M} (line.Fire n y) (fire_of σs t.number t.nack) ⊎ Memᴰ {A = Event M} (line.Fire n y) (fires σs ts) → For σs (t ∷ ts) n y
    go f (inl a) = let r = fire_of_mem M σs t.number t.nack n y a in record { task = t; branch = r.1.0; live = Memᴰ.head refl; its = r.0; was = r.1.1; is = r.1.2 }
    go f (inr a) = let r = f a in record { task = r.task; branch = r.branch; live = Memᴰ.tail r.live; its = r.its; was = r.was; is = r.is }

mem_fires : {M : Type 0} (σs : List Settlement) (ts : List (Task M)) (t : Task M) (y b : ℕ) → Memᴰ t ts → t.nack ≡ Pending y b → pending_after σs y b ≡ Fired → Memᴰ (line.Fire t.number y) (fires σs ts)
mem_fires σs [] t y b m e f = absurd (Memᴰ.not-nil m)
mem_fires {M} σs (u ∷ us) t y b (Memᴰ.head p) e f = Memᴰ.append_left (fires σs us) (subst (λ (v : Task M). Memᴰ {A = Event M} (line.Fire t.number y) (fire_of σs v.number v.nack)) p (mem_fire_of M σs t.number y b t.nack e f))
mem_fires σs (u ∷ us) t y b (Memᴰ.tail m) e f = Memᴰ.append_right (fire_of σs u.number u.nack) (mem_fires σs us t y b m e f)

-- they stand as the tasks do

module _ (n : ℕ) (xs rest : List ℕ) where
  all_front : (P : ℕ → Type 0) → (xs ≡ []) ⊎ (xs ≡ n ∷ []) → P n → AllByRecursion P rest → AllByRecursion P (xs ++ rest)
  all_front P (inl e) p h = subst (λ l. AllByRecursion P (l ++ rest)) (sym e) h
  all_front P (inr e) p h = subst (λ l. AllByRecursion P (l ++ rest)) (sym e) (p, h)

  rising_front : (xs ≡ []) ⊎ (xs ≡ n ∷ []) → AllByRecursion (λ m. n < m) rest → Rising rest → Rising (xs ++ rest)
  rising_front (inl e) p h = subst (λ l. Rising (l ++ rest)) (sym e) h
  rising_front (inr e) p h = subst (λ l. Rising (l ++ rest)) (sym e) (p, h)

one_fire_if : (M : Type 0) (n y : ℕ) (k : Nack) → (each_of fires_of (fire_if {M = M} n y k) ≡ []) ⊎ (each_of fires_of (fire_if {M = M} n y k) ≡ n ∷ [])
one_fire_if M n y Fired = inr refl
one_fire_if M n y Void = inl refl
one_fire_if M n y (Pending z b) = inl refl

one_fire_of : (M : Type 0) (σs : List Settlement) (n : ℕ) (k : Nack) → (each_of fires_of (fire_of {M = M} σs n k) ≡ []) ⊎ (each_of fires_of (fire_of {M = M} σs n k) ≡ n ∷ [])
one_fire_of M σs n Fired = inl refl
one_fire_of M σs n Void = inl refl
one_fire_of M σs n (Pending y b) = one_fire_if M n y (pending_after σs y b)

all_fired : {M : Type 0} (P : ℕ → Type 0) (σs : List Settlement) (ts : List (Task M)) → AllByRecursion P (map (λ t. t.number) ts) → AllByRecursion P (each_of fires_of (fires σs ts))
all_fired P σs [] h = tt
all_fired {M} P σs (t ∷ ts) h = subst (AllByRecursion P) (sym (each_append fires_of (fire_of σs t.number t.nack) (fires σs ts))) (all_front t.number _ _ P (one_fire_of M σs t.number t.nack) h.0 (all_fired P σs ts h.1))

rising_fired : {M : Type 0} (σs : List Settlement) (ts : List (Task M)) → Rising (map (λ t. t.number) ts) → Rising (each_of fires_of (fires σs ts))
rising_fired σs [] h = tt
rising_fired {M} σs (t ∷ ts) h = subst Rising (sym (each_append fires_of (fire_of σs t.number t.nack) (fires σs ts)))
    (rising_front t.number _ _ (one_fire_of M σs t.number t.nack) (all_fired (λ m. t.number < m) σs ts h.0) (rising_fired σs ts h.1))

-- a pending nack fires exactly where its sync is settled outside its branch

fires_outside : (c : Bool) → cond c Void Fired ≡ Fired → c ≡ false
fires_outside true e = absurd (not_fired_and_void Void e refl)
fires_outside false e = refl

outside_fires : (c : Bool) → c ≡ false → cond c Void Fired ≡ Fired
outside_fires true e = absurd (both_ways true e refl)
outside_fires false e = refl

was_outside : {M : Type 0} (Se : Settlings M) (y b : ℕ) (k : Nack) → k ≡ Fired → After Se (Pending y b) k → Outside Se y b
was_outside Se y b k e (inl a) = absurd (not_fired_and_pending k y b e a.1)
was_outside Se y b k e (inr a) = (a.0, a.1, fires_outside (in_branch b a.0.above) (sym a.2 ∙ e))

now_fired : {M : Type 0} (Se : Settlings M) → AtOneLeaf Se → (y b : ℕ) (k : Nack) → Outside Se y b → After Se (Pending y b) k → k ≡ Fired
now_fired Se u y b k o (inl a) = absurd (a.0 o.0 o.1)
now_fired {M} Se u y b k o (inr a) = a.2 ∙ outside_fires (in_branch b a.0.above) (subst (λ (m : Leaf M). in_branch b m.above ≡ false) (u y o.0 a.0 o.1 a.1) o.2)

-- every act

module _ {M : Type 0} (limit : ℕ) (w : Setting M) (c : LawfulKinds limit w) (tr : List (Record M)) (s s' : State M) (r : Run w tr s) (rs : List (Event M)) (a : Act w s rs s') where
  -- the task of a fire record, and the settlement that it is of
  abbrev FiresFor : ℕ → ℕ → Type 0
  FiresFor n y = (t : Task M) × Memᴰ t s.tasks × (t.number ≡ n) × ((b : ℕ) × WasStarted r n y b × Outside (ActSettles a) y b)

  told_none : (rs₀ : List (Event M)) → rs ≡ rs₀ → AllByRecursion (λ q. fires_of q ≡ []) rs₀ → ((y : ℕ) (l : Leaf M) → ActSettles a y l → ⊥) → FireTold r a
  told_none rs₀ e h f = record { which = λ n y. (there n y, λ q. absurd (f y q.3.2.0 q.3.2.1)); order = subst Rising (sym (ap (each_of fires_of) e ∙ each_none fires_of rs₀ h)) tt }
    where
      there : (n y : ℕ) → Memᴰ (line.Fire n y) rs → FiresFor n y
      there n y m = let g = mem_all (λ q. fires_of q ≡ []) (line.Fire n y) rs₀ h (subst (λ l. Memᴰ (line.Fire n y) l) e m) in absurd (let z : ◌≡◌ {A = ℕ} 0 1 = cc in omega arith)

  told_settled : (x : Event M) (σs : List Settlement) → rs ≡ x ∷ fires σs s.tasks → fires_of x ≡ [] → ((k : Nack) → After (ActSettles a) k (nack_after σs k)) → FireTold r a
  told_settled x σs e f g = record { which = λ n y. (there n y, back n y); order = subst Rising (sym (ap (each_of fires_of) e ∙ ap (λ l. l ++ each_of fires_of (fires σs s.tasks)) f)) (rising_fired σs s.tasks (rising_run w tr s r)) }
    where
      h : Story r
      h = story limit w c tr s r

      eff : Effect s s' rs (ActSettles a) (ActStarts a)
      eff = effect_act limit w c s rs s' a

      in_tail : (n y : ℕ) → Memᴰ (line.Fire n y) (x ∷ fires σs s.tasks) → Memᴰ (line.Fire n y) (fires σs s.tasks)
      in_tail n y (Memᴰ.head p) = absurd (let q = ap fires_of p ∙ f in let z : ◌≡◌ {A = ℕ} 0 1 = cc in omega arith)
      in_tail n y (Memᴰ.tail m) = m

      there : (n y : ℕ) → Memᴰ (line.Fire n y) rs → FiresFor n y
      there n y m = let q = fires_mem σs s.tasks n y (in_tail n y (subst (λ l. Memᴰ (line.Fire n y) l) e m)) in (
        q.task,
        q.live,
        q.its,
        (
          q.branch,
          subst (λ k. WasStarted r k y q.branch) q.its (subst (Told (WasSettled r) (WasStarted r) q.task.number) q.was (h.nacks q.task q.live)).0,
          was_outside (ActSettles a) y q.branch (pending_after σs y q.branch) q.is (g (Pending y q.branch)),
        ),
      )

      back : (n y : ℕ) → FiresFor n y → Memᴰ (line.Fire n y) rs
      back n y q = let t = q.0 in let b = q.3.0 in let o = q.3.2 in
          let k : t.nack ≡ Pending y b = (nack_law M limit w c tr s r t q.1 y b (subst (λ i. WasStarted r i y b) (sym q.2) q.3.1)).pending.1 (λ l p. not_again limit w c tr s s' r rs a eff h y l o.0 p o.1) in
          subst (λ l. Memᴰ (line.Fire n y) l) (sym e) (Memᴰ.tail (subst (λ i. Memᴰ (line.Fire i y) (fires σs s.tasks)) q.2
          (mem_fires σs s.tasks t y b q.1 k (now_fired (ActSettles a) eff.settles_once y b (pending_after σs y b) o (g (Pending y b))))))

pub fire_law : (M : Type 0) → FireLaw M
fire_law M limit w c tr s s' r rs (steps v (ends t q d x f e)) = told_none limit w c tr s s' r rs (steps v (ends t q d x f e)) _ f (refl, tt) (λ y l o. o)
fire_law M limit w c tr s s' r rs (steps v (emits t q d x f e)) = told_none limit w c tr s s' r rs (steps v (emits t q d x f e)) _ f (refl, tt) (λ y l o. o)
fire_law M limit w c tr s s' r rs (steps v (returns t q d x f e)) = told_none limit w c tr s s' r rs (steps v (returns t q d x f e)) _ f (refl, tt) (λ y l o. o)
fire_law M limit w c tr s s' r rs (steps v (spawns t b q d x f e)) = told_none limit w c tr s s' r rs (steps v (spawns t b q d x f e)) _ f (refl, (refl, tt)) (λ y l o. o)
fire_law M limit w c tr s s' r rs (steps v (syncs t x q d i bs j ls k z g f e)) = told_none limit w c tr s s' r rs (steps v (syncs t x q d i bs j ls k z g f e)) _ f
    (refl, all_starts (λ q. fires_of q ≡ []) (λ n b t y. refl) t.number z (suc s.last_task) bs) (λ y l o. o)
fire_law M limit w c tr s s' r rs (steps v (settles_one t y i l a d b σs g f e)) = told_settled limit w c tr s s' r rs (steps v (settles_one t y i l a d b σs g f e)) _ σs f refl (after_one y l σs g)
fire_law M limit w c tr s s' r rs (steps v (settles_pair g t y i z j p l k a d b x q σs h f e)) = told_settled limit w c tr s s' r rs (steps v (settles_pair g t y i z j p l k a d b x q σs h f e)) _ σs f refl (after_two y l z k σs h)
fire_law M limit w c tr s s' r rs (posts p m d x f e) = told_none limit w c tr s s' r rs (posts p m d x f e) _ f (refl, tt) (λ y l o. o)
fire_law M limit w c tr s s' r rs (clocks k d x f e) = told_none limit w c tr s s' r rs (clocks k d x f e) _ f (refl, tt) (λ y l o. o)
