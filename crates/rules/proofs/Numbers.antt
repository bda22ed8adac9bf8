-- Records, tasks and syncs are numbered from 1, each by the next number, and the clock does not go back.
use Rattle.std.proofs.Common.{◌≡◌, ℕ, zero, suc, ◌+◌, ◌<◌, ◌≤◌, ◌⊎◌, List, [], ◌∷◌, ◌++◌, map, length, Some, None, Option, sym, refl, ap, ◌∙◌, subst, inl, inr, append-nil, arith}
use mathlib.Core.List.Memᴰ
use mathlib.Core.List.{map-append, Memᴰ}
use Rattle.std.specs.List.{range_with_len, AllByRecursion}
use Rattle.std.proofs.ByRecursion.{All-append, All-weaker, All-map}
use Rattle.std.proofs.lemmas.List.{length-append}
use Rattle.std.proofs.lemmas.Bool.{cond_both}
use Rattle.grammar.specs.declared.words.PortKind.TheVariants.{Mailbox}
use Rattle.trace.specs.declared.record.Event.{Event}
use Rattle.trace.specs.declared.record.Record.{Record}
use Rattle.rules.specs.declared.kind.BaseKind.{BaseKind}
use Rattle.rules.specs.declared.kind.BaseKind.TheVariants.{Port}
use Rattle.rules.specs.declared.nack.Nack.TheVariants.{Void}
use Rattle.rules.specs.declared.offer.Offer.{Offer}
use Rattle.rules.specs.Kinds.{Meaning, enrolled_each, committed}
use Rattle.rules.specs.States.{Setting, Task, State}
use Rattle.rules.specs.Able.{Placed, is_kind, offers_in}
use Rattle.rules.specs.Settling.{put, means_with, commit_at, Settlement, told_of, withdrawn_each}
use Rattle.rules.specs.Steps.{started, nack_starts, Move, Step, ends, emits, returns, spawns, syncs, settles_one, settles_pair}
use Rattle.rules.specs.Runs.{with_post, numbered, Act, steps, posts, clocks, begins, goes_on}
use Rattle.rules.specs.Laws.{happenings, NeverFalling, starts_of, syncs_of, each_of, Counted, NumbersLaw}
use Rattle.rules.proofs.Members.{mem_kept, all_by_mem, mem_all}
use Rattle.rules.proofs.Tasks.{PutOrThere, Fresh, mem_put, fresh_one, fresh_nacks}
use Rattle.rules.proofs.Sound.{sound_run}
use Rattle.rules.proofs.Records.{fires_none, starts_none, each_more}
use Rattle.rules.proofs.Rising.{rising_run}

-- lists of numbers

counting_on : (a m b n k : ℕ) → a + m ≡ b → m + n ≡ k → range_with_len a m ++ range_with_len b n ≡ range_with_len a k
counting_on a zero b n k e f = let d : a ≡ b = omega arith in let g : n ≡ k = omega arith in rw (d, g)
counting_on a (suc m) b n k e f = let g : k ≡ suc (m + n) = omega arith in rw g (ap (λ ns. a ∷ ns) (counting_on (a + 1) m b n (m + n) (omega arith) refl))

never_falling_append : (n : ℕ) (xs ys : List ℕ) → AllByRecursion (λ x. x ≤ n) xs → AllByRecursion (λ y. n ≤ y) ys → NeverFalling xs → NeverFalling ys → NeverFalling (xs ++ ys)
never_falling_append n [] ys a b p q = q
never_falling_append n (x ∷ xs) ys a b p q = let le = a.0 in
    (All-append (λ y. x ≤ y) xs ys p.0 (All-weaker (λ y. n ≤ y) (λ y. x ≤ y) (λ y lt. omega arith) ys b), never_falling_append n xs ys a.1 b p.1 q)

-- the records of an act

seq_numbered : {M : Type 0} (n k : ℕ) (rs : List (Event M)) → map (λ r. r.seq) (numbered n k rs) ≡ range_with_len (suc n) (length rs)
seq_numbered n k [] = refl
seq_numbered n k (r ∷ rs) = let e : suc n + 1 ≡ suc (suc n) = omega arith in rw e (ap (λ ns. suc n ∷ ns) (seq_numbered (suc n) k rs))

pub length_numbered : {M : Type 0} (n k : ℕ) (rs : List (Event M)) → length (numbered n k rs) ≡ length rs
length_numbered n k [] = refl
length_numbered n k (r ∷ rs) = ap suc (length_numbered (suc n) k rs)

all_numbered : {M : Type 0} (P : ℕ → Type 0) (n k : ℕ) (rs : List (Event M)) → P k → AllByRecursion (λ r. P r.ms) (numbered n k rs)
all_numbered P n k [] p = tt
all_numbered P n k (r ∷ rs) p = (p, all_numbered P (suc n) k rs p)

never_falling_numbered : {M : Type 0} (n k : ℕ) (rs : List (Event M)) → NeverFalling (map (λ r. r.ms) (numbered n k rs))
never_falling_numbered n k [] = tt
never_falling_numbered n k (r ∷ rs) = (All-map (λ y. k ≤ y) (λ r. r.ms) (numbered (suc n) k rs) (all_numbered (λ y. k ≤ y) (suc n) k rs (omega arith)), never_falling_numbered (suc n) k rs)

starts_numbered : (M : Type 0) (t y n : ℕ) (bs : List ℕ) → each_of starts_of (nack_starts {M = M} t y n bs) ≡ range_with_len n (length bs)
starts_numbered M t y n [] = refl
starts_numbered M t y n (b ∷ bs) = let e : n + 1 ≡ suc n = omega arith in rw e (ap (λ ns. n ∷ ns) (starts_numbered M t y (suc n) bs))

-- what keeps the clock that a kind was told

enrolled_clock : {M : Type 0} (os : List Offer) (μ : Meaning M) → (enrolled_each os μ).clock ≡ μ.clock
enrolled_clock [] μ = refl
enrolled_clock (o ∷ os) μ = enrolled_clock os _

withdrawn_clock : {M : Type 0} (σs : List Settlement) (μ : Meaning M) → (withdrawn_each σs μ).clock ≡ μ.clock
withdrawn_clock [] μ = refl
withdrawn_clock (σ ∷ σs) μ = withdrawn_clock σs _

means_clock : {M : Type 0} (c d : BaseKind) (f : Meaning M → Meaning M) (μ : BaseKind → Meaning M) → ((ν : Meaning M) → (f ν).clock ≡ ν.clock) → (means_with c f μ d).clock ≡ (μ d).clock
means_clock {M} c d f μ h = cond_both (is_kind c d) (f (μ d)) (μ d) (λ (ν : Meaning M). ν.clock ≡ (μ d).clock) (λ _. h (μ d)) (λ _. refl)

commit_clock : {M : Type 0} (w : Setting M) (o : Option Placed) (m : M) (μ : BaseKind → Meaning M) (c : BaseKind) → (commit_at w o m μ c).clock ≡ (μ c).clock
commit_clock w None m μ c = refl
commit_clock w (Some q) m μ c = means_clock q.kind c (committed (w.kinds q.kind) q.offer m) μ (λ ν. refl)

-- the number of a live task, or one not given yet
abbrev Known : {M : Type 0} → State M → ℕ → Type 0
Known {M} s n = ((u : Task M) × Memᴰ u s.tasks × (n ≡ u.number)) ⊎ (s.last_task < n)

abbrev KnownEach : {M : Type 0} → State M → List (Task M) → Type 0
KnownEach {M} s ts = (t : Task M) → Memᴰ t ts → Known s t.number

module _ {M : Type 0} (s : State M) where
  known_live : KnownEach s s.tasks
  known_live t m = inl (t, m, refl)

  known_put : (ts : List (Task M)) (t : Task M) → KnownEach s ts → Known s t.number → KnownEach s (put t ts)
  known_put ts t f k v m = go (mem_put t v ts m)
    where
      go : PutOrThere t ts v → Known s v.number
      go (inl e) = rw e k
      go (inr n) = f v n.0

  known_told : (σs : List Settlement) (ts : List (Task M)) → KnownEach s ts → KnownEach s (map (told_of σs) ts)
  known_told σs ts f v m = let r = Memᴰ.of_map (told_of σs) ts m in subst (λ (u : Task M). Known s u.number) r.2 (f r.0 r.1)

  known_more : (ts us : List (Task M)) (n : ℕ) → KnownEach s ts → Fresh us s.last_task n → KnownEach s (ts ++ us)
  known_more ts us n f h v m = go (Memᴰ.append_cases ts m)
    where
      go : Memᴰ v ts ⊎ Memᴰ v us → Known s v.number
      go (inl k) = f v k
      go (inr k) = inr (h.range v k).0

-- what an act adds to the numbers
record Adds {M : Type 0} (s : State M) (rs : List (Event M)) (s' : State M) : Type 0 where
  tasks : range_with_len 1 s.last_task ++ each_of starts_of rs ≡ range_with_len 1 s'.last_task
  syncs : range_with_len 1 s.last_sync ++ each_of syncs_of rs ≡ range_with_len 1 s'.last_sync
  known : KnownEach s s'.tasks
  clock : s.clock ≤ s'.clock
  small : s.clock < 4294967296 → s'.clock < 4294967296
  told : ((c : BaseKind) → (s.means c).clock ≡ s.clock) → (c : BaseKind) → (s'.means c).clock ≡ s'.clock

-- where nothing is started
adds_none : {M : Type 0} (s : State M) (rs : List (Event M)) → each_of starts_of rs ≡ [] → each_of syncs_of rs ≡ []
    → (μ : BaseKind → Meaning M) → ((c : BaseKind) → (μ c).clock ≡ (s.means c).clock) → (ts : List (Task M)) → KnownEach s ts
    → Adds s rs (record { clock = s.clock; means = μ; tasks = ts; last_task = s.last_task; last_sync = s.last_sync })
adds_none s rs a b μ h ts k = record {
  tasks = rw a (append-nil _);
  syncs = rw b (append-nil _);
  known = k;
  clock = omega arith;
  small = λ l. l;
  told = λ f c. h c ∙ f c;
}

adds_step : {M : Type 0} (w : Setting M) (s : State M) (v : Move) (rs : List (Event M)) (s' : State M) → Step w s v rs s' → Adds s rs s'
adds_step w s v rs s' (ends t r _ _ f e) = rw (f, e) (adds_none s _ refl refl _ (λ c. refl) _ (λ u m. known_live s u (mem_kept _ u s.tasks m).0))
adds_step w s v rs s' (emits t r _ _ f e) = rw (f, e) (adds_none s _ refl refl _ (λ c. refl) _ (known_put s s.tasks _ (known_live s) (known_live s t r.live)))
adds_step w s v rs s' (returns t r _ _ f e) = rw (f, e) (adds_none s _ refl refl _ (λ c. refl) _ (known_put s s.tasks _ (known_live s) (known_live s t r.live)))
adds_step w s v rs s' (spawns t b r _ _ f e) = rw (f, e) (record {
  tasks = counting_on 1 s.last_task (suc s.last_task) 1 (suc s.last_task) (omega arith) (omega arith);
  syncs = append-nil _;
  known = known_more s _ _ _ (known_put s s.tasks _ (known_live s) (known_live s t r.live)) (fresh_one (started w (suc s.last_task) b Void) s.last_task refl refl);
  clock = omega arith;
  small = λ l. l;
  told = λ h. h;
})
adds_step {M} w s v rs s' (syncs t x r _ _ bs _ ls _ y n f e) = rw (f, e) (record {
  tasks = ap (λ ns. range_with_len 1 s.last_task ++ ns) (starts_numbered M t.number y (suc s.last_task) bs)
      ∙ counting_on 1 s.last_task (suc s.last_task) (length bs) _ (omega arith) refl;
  syncs = ap (λ ns. range_with_len 1 s.last_sync ++ (y ∷ ns)) (starts_none syncs_of (λ n b t y. refl) t.number y (suc s.last_task) bs)
      ∙ counting_on 1 s.last_sync y 1 y (omega arith) (omega arith);
  known = known_more s _ _ _ (known_put s s.tasks _ (known_live s) (known_live s t r.live)) (fresh_nacks w y s.last_task 0 bs);
  clock = omega arith;
  small = λ l. l;
  told = λ h c. enrolled_clock (offers_in w c y 0 ls) (s.means c) ∙ h c;
})
adds_step w s v rs s' (settles_one t y i l a _ _ σs _ f e) = rw (f, e) (adds_none s _
    (fires_none starts_of (λ n y. refl) σs s.tasks) (fires_none syncs_of (λ n y. refl) σs s.tasks) _
    (λ c. withdrawn_clock σs _ ∙ commit_clock w _ t.register s.means c) _
    (known_told s σs _ (known_put s s.tasks _ (known_live s) (known_live s t a.live))))
adds_step w s v rs s' (settles_pair t u y i z j p l k a _ b _ _ σs _ f e) = rw (f, e) (adds_none s _
    (fires_none starts_of (λ n y. refl) σs s.tasks) (fires_none syncs_of (λ n y. refl) σs s.tasks) _
    (λ c. withdrawn_clock σs _) _
    (known_told s σs _ (known_put s _ _ (known_put s s.tasks _ (known_live s) (known_live s t a.live)) (known_live s u b.live))))

adds_act : {M : Type 0} (w : Setting M) (s : State M) (rs : List (Event M)) (s' : State M) → Act w s rs s' → Adds s rs s'
adds_act w s rs s' (steps v a) = adds_step w s v rs s' a
adds_act w s rs s' (posts p m _ _ f e) = rw (f, e) (adds_none s _ refl refl _ (λ c. means_clock (Port Mailbox) c (with_post w p m) s.means (λ ν. refl)) _ (known_live s))
adds_act w s rs s' (clocks k a b f e) = rw (f, e) (record { tasks = append-nil _; syncs = append-nil _; known = known_live s; clock = a; small = λ _. b; told = λ _ c. refl })

-- a run, one act further
module _ {M : Type 0} (tr : List (Record M)) (s : State M) (rs : List (Event M)) (s' : State M) (c : Counted tr s) (a : Adds s rs s') where
  abbrev after : List (Record M)
  after = tr ++ numbered (length tr) s'.clock rs

  records_more : map (λ r. r.seq) after ≡ range_with_len 1 (length after)
  records_more = map-append (λ (r : Record M). r.seq) tr _
      ∙ (λ i. c.records i ++ seq_numbered (length tr) s'.clock rs i)
      ∙ counting_on 1 (length tr) (suc (length tr)) (length rs) (length after) (omega arith) (sym (length-append tr _ ∙ ap (λ n. length tr + n) (length_numbered (length tr) s'.clock rs)))

  counted_more : (f : Event M → List ℕ) (n n' : ℕ) → each_of f (happenings tr) ≡ range_with_len 1 n → range_with_len 1 n ++ each_of f rs ≡ range_with_len 1 n' → each_of f (happenings after) ≡ range_with_len 1 n'
  counted_more f n n' e g = each_more f tr (length tr) s'.clock rs ∙ ap (λ ns. ns ++ each_of f rs) e ∙ g

  past_more : AllByRecursion (λ r. r.ms ≤ s'.clock) after
  past_more = All-append (λ r. r.ms ≤ s'.clock) tr _
      (All-weaker (λ r. r.ms ≤ s.clock) (λ r. r.ms ≤ s'.clock) (λ r l. omega (arith, a.clock)) tr c.past)
      (all_numbered (λ k. k ≤ s'.clock) (length tr) s'.clock rs (omega arith))

  times_more : NeverFalling (map (λ r. r.ms) after)
  times_more = subst NeverFalling (sym (map-append (λ (r : Record M). r.ms) tr (numbered (length tr) s'.clock rs))) (never_falling_append s.clock _ _
      (All-map (λ k. k ≤ s.clock) (λ (r : Record M). r.ms) tr c.past)
      (All-map (λ k. s.clock ≤ k) (λ (r : Record M). r.ms) _ (all_numbered (λ k. s.clock ≤ k) (length tr) s'.clock rs a.clock))
      c.times (never_falling_numbered (length tr) s'.clock rs))

  positive : (t : Task M) → Known s t.number → 1 ≤ t.number
  positive t (inl u) = let l = mem_all _ u.0 s.tasks c.started u.1 in omega (arith, u.2, l.0)
  positive t (inr l) = omega arith

pub numbers_law : (M : Type 0) → NumbersLaw M
numbers_law M w tr s (begins e f) = rw (e, f) (record {
  records = refl;
  tasks = refl;
  syncs = refl;
  live = (tt, tt);
  started = (omega arith, tt);
  times = (tt, tt);
  past = (omega arith, tt);
  clock = omega arith;
  told = λ c. refl;
})
numbers_law M w tr s (goes_on {tr = tr₀} {s = s₀} rs r a e) =
    let c = numbers_law M w tr₀ s₀ r in let d = adds_act w s₀ rs s a in
    rw e (record {
      records = records_more tr₀ s₀ rs s c d;
      tasks = counted_more tr₀ s₀ rs s c d starts_of _ _ c.tasks d.tasks;
      syncs = counted_more tr₀ s₀ rs s c d syncs_of _ _ c.syncs d.syncs;
      live = rising_run w tr s (goes_on rs r a e);
      started = all_by_mem _ s.tasks (λ t m. (positive tr₀ s₀ rs s c d t (d.known t m), (sound_run w tr s (goes_on rs r a e)).tidy.low t m));
      times = times_more tr₀ s₀ rs s c d;
      past = past_more tr₀ s₀ rs s c d;
      clock = d.small c.clock;
      told = d.told c.told;
    })
