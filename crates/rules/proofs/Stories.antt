-- What a run tells of its nacks, and what one more act adds to it.
use Rattle.std.proofs.Common.{◌≡◌, ℕ, ◌<◌, ◌≤◌, Bool, true, false, cond, ◌⊎◌, List, [], ◌∷◌, ◌++◌, length, sym, refl, ap, ◌∙◌, subst, inl, inr, arith}
use mathlib.Core.List.Memᴰ
use mathlib.Core.List.{Memᴰ}
use Rattle.trace.specs.declared.record.Event.{Event}
use Rattle.trace.specs.declared.record.Event.TheVariants as line
use Rattle.trace.specs.declared.record.Record.{Record}
use Rattle.rules.specs.declared.nack.Nack.{Nack}
use Rattle.rules.specs.declared.nack.Nack.TheVariants.{Pending, Fired, Void}
use Rattle.rules.specs.States.{Setting, Leaf, Task, State}
use Rattle.rules.specs.Settling.{in_branch}
use Rattle.rules.specs.Runs.{begun, Act, numbered, Run, begins, goes_on}
use Rattle.rules.specs.Laws.{LawfulKinds, happenings, settled_by, settled_in}
use Rattle.rules.specs.Nacks.{ActSettles, ActStarts, WasSettled, WasStarted}
use Rattle.rules.proofs.Sound.{sound_run}
use Rattle.rules.proofs.Records.{each_more}
use Rattle.rules.proofs.Once.{past_run, moves_act, waits_early}

-- which syncs are settled, each at a leaf
abbrev pub Settlings : Type 0 → Type 1
Settlings M = ℕ → Leaf M → Type 0

-- which tasks are started, each by a with-nack of a sync
abbrev pub Startings : Type 1
Startings = ℕ → ℕ → ℕ → Type 0

abbrev pub AtOneLeaf : {M : Type 0} → Settlings M → Type 0
AtOneLeaf {M} Se = (y : ℕ) (l l' : Leaf M) → Se y l → Se y l' → l ≡ l'

abbrev pub StartedOnce : Startings → ℕ → Type 0
StartedOnce St n = (y b y' b' : ℕ) → St n y b → St n y' b' → (y ≡ y') × (b ≡ b')

-- the sync `y` is settled inside or outside of the branch `b`, or not at all

abbrev pub Inside : {M : Type 0} → Settlings M → ℕ → ℕ → Type 0
Inside {M} Se y b = (l : Leaf M) × Se y l × (in_branch b l.above ≡ true)

abbrev pub Outside : {M : Type 0} → Settlings M → ℕ → ℕ → Type 0
Outside {M} Se y b = (l : Leaf M) × Se y l × (in_branch b l.above ≡ false)

abbrev pub Unsettled : {M : Type 0} → Settlings M → ℕ → Type 0
Unsettled {M} Se y = (l : Leaf M) → Se y l → ⊥

-- what the nack of the task `n` says
abbrev pub Told : {M : Type 0} → Settlings M → Startings → ℕ → Nack → Type 0
Told Se St n (Pending y b) = St n y b × Unsettled Se y
Told Se St n Fired = (y : ℕ) × (b : ℕ) × St n y b × Outside Se y b
Told Se St n Void = (y b : ℕ) → St n y b → Inside Se y b

-- a nack before and after an act that settles these
abbrev pub After : {M : Type 0} → Settlings M → Nack → Nack → Type 0
After Se Fired k' = k' ≡ Fired
After Se Void k' = k' ≡ Void
After {M} Se (Pending y b) k' = (Unsettled Se y × (k' ≡ Pending y b)) ⊎ ((l : Leaf M) × Se y l × (k' ≡ cond (in_branch b l.above) Void Fired))

-- what a run tells of its nacks
pub record Story {M : Type 0} {w : Setting M} {tr : List (Record M)} {s : State M} (r : Run w tr s) : Type 0 where
  pub started_low : (n y b : ℕ) → WasStarted r n y b → (n ≤ s.last_task) × (y ≤ s.last_sync)
  pub started_once : (n : ℕ) → StartedOnce (WasStarted r) n
  pub listed : (y : ℕ) (l : Leaf M) → WasSettled r y l → Memᴰ y (settled_in (happenings tr))
  pub settled_once : AtOneLeaf (WasSettled r)
  pub nacks : (t : Task M) → Memᴰ t s.tasks → Told (WasSettled r) (WasStarted r) t.number t.nack

-- what an act does to the nacks

-- a task that lived before, under another nack
pub record Heir {M : Type 0} (s : State M) (Se : Settlings M) (t : Task M) : Type 0 where
  pub of : Task M
  pub live : Memᴰ of s.tasks
  pub same : of.number ≡ t.number
  pub after : After Se of.nack t.nack

-- a task that is started, by a with-nack or not
abbrev pub New : {M : Type 0} → State M → Startings → Task M → Type 0
New s St t = (s.last_task < t.number) × (((t.nack ≡ Void) × ((y b : ℕ) → St t.number y b → ⊥)) ⊎ ((y : ℕ) × (b : ℕ) × (t.nack ≡ Pending y b) × St t.number y b))

pub record Effect {M : Type 0} (s s' : State M) (rs : List (Event M)) (Se : Settlings M) (St : Startings) : Type 0 where
  pub starts_new : (n y b : ℕ) → St n y b → (s.last_task < n) × (n ≤ s'.last_task) × (s.last_sync < y) × (y ≤ s'.last_sync)
  pub starts_once : (n : ℕ) → StartedOnce St n
  pub settles_in : (y : ℕ) (l : Leaf M) → Se y l → Memᴰ y (settled_in rs)
  pub settles_once : AtOneLeaf Se
  pub grows : s.last_task ≤ s'.last_task
  pub heirs : (t : Task M) → Memᴰ t s'.tasks → Heir s Se t ⊎ New s St t

-- the story after one more act

abbrev OrSettled : {M : Type 0} → Settlings M → Settlings M → Settlings M
OrSettled Se Se' y l = Se y l ⊎ Se' y l

abbrev OrStarted : Startings → Startings → Startings
OrStarted St St' n y b = St n y b ⊎ St' n y b

unsettled_both : {M : Type 0} (Se Se' : Settlings M) (y : ℕ) → Unsettled Se y → Unsettled Se' y → Unsettled (OrSettled Se Se') y
unsettled_both Se Se' y f g l (inl a) = f l a
unsettled_both Se Se' y f g l (inr a) = g l a

module _ {M : Type 0} (Se Se' : Settlings M) (St St' : Startings) (n : ℕ) where
  abbrev ToldNow : Nack → Type 0
  ToldNow k = Told (OrSettled Se Se') (OrStarted St St') n k

  void_told : ((y b : ℕ) → St n y b → Inside (OrSettled Se Se') y b) → ((y b : ℕ) → St' n y b → ⊥) → ToldNow Void
  void_told f g y b (inl o) = f y b o
  void_told f g y b (inr o) = absurd (g y b o)

  -- where no with-nack starts the task by this act
  module _ (none : (y b : ℕ) → St' n y b → ⊥) (once : StartedOnce St n) where
    settled_told : (y b : ℕ) (l : Leaf M) → St n y b → Se' y l → (c : Bool) → in_branch b l.above ≡ c → ToldNow (cond c Void Fired)
    settled_told y b l o q true e = void_told (λ x c p. let k = once y b x c o p in (l, inr (subst (λ d. Se' d l) k.0 q), subst (λ d. in_branch d l.above ≡ true) k.1 e)) none
    settled_told y b l o q false e = (y, b, inl o, (l, inr q, e))

    pending_told : (y b : ℕ) (k' : Nack) → Told Se St n (Pending y b) → After Se' (Pending y b) k' → ToldNow k'
    pending_told y b k' h (inl a) = subst ToldNow (sym a.1) (inl h.0, unsettled_both Se Se' y h.1 a.0)
    pending_told y b k' h (inr a) = subst ToldNow (sym a.2) (settled_told y b a.0 h.0 a.1 (in_branch b a.0.above) refl)

    heir_told : (k k' : Nack) → Told Se St n k → After Se' k k' → ToldNow k'
    heir_told Fired k' h a = subst ToldNow (sym a) (h.0, h.1, inl h.2, (h.3.0, inl h.3.1, h.3.2))
    heir_told Void k' h a = subst ToldNow (sym a) (void_told (λ y b o. let q = h y b o in (q.0, inl q.1, q.2)) none)
    heir_told (Pending y b) k' h a = pending_told y b k' h a

pub story_begins : {M : Type 0} (w : Setting M) (tr : List (Record M)) (s : State M) (e : tr ≡ numbered 0 0 (line.Start 1 0 0 0 ∷ [])) (f : s ≡ begun w) → Story {w = w} (begins e f)
story_begins {M} w tr s e f = record { started_low = λ n y b o. absurd o; started_once = λ n y b y' b' o. absurd o; listed = λ y l o. absurd o; settled_once = λ y l l' o. absurd o; nacks = told }
  where
    told : (t : Task M) → Memᴰ t s.tasks → Told {M = M} (λ y l. ⊥) (λ n y b. ⊥) t.number t.nack
    told t m = let p = Memᴰ.eq_of_singleton (subst (λ (x : State M). Memᴰ t x.tasks) f m) in
        subst (Told {M = M} (λ y l. ⊥) (λ n y b. ⊥) t.number) (sym (ap (λ (u : Task M). u.nack) p)) (λ y b o. absurd o)

module _ {M : Type 0} (limit : ℕ) (w : Setting M) (c : LawfulKinds limit w) (tr : List (Record M)) (s s' : State M) (r : Run w tr s) (rs : List (Event M)) (a : Act w s rs s') (f : Effect s s' rs (ActSettles a) (ActStarts a)) (h : Story r) where
  -- what was settled is not settled again
  pub not_again : (y : ℕ) (l l' : Leaf M) → WasSettled r y l → ActSettles a y l' → ⊥
  not_again y l l' o o' = ((past_run limit w c tr s r).gone y (h.listed y l o)).1 ((moves_act limit w c s rs s' (sound_run w tr s r) a).were y (f.settles_in y l' o'))

  more_once : AtOneLeaf (OrSettled (WasSettled r) (ActSettles a))
  more_once y l l' (inl o) (inl o') = h.settled_once y l l' o o'
  more_once y l l' (inl o) (inr o') = absurd (not_again y l l' o o')
  more_once y l l' (inr o) (inl o') = absurd (not_again y l' l o' o)
  more_once y l l' (inr o) (inr o') = f.settles_once y l l' o o'

  more_low : (n y b : ℕ) → OrStarted (WasStarted r) (ActStarts a) n y b → (n ≤ s'.last_task) × (y ≤ s'.last_sync)
  more_low n y b (inl o) = let p = h.started_low n y b o in let g = f.grows in let g' = (moves_act limit w c s rs s' (sound_run w tr s r) a).grows in (omega arith, omega arith)
  more_low n y b (inr o) = let p = f.starts_new n y b o in (p.1, p.3)

  more_started : (n : ℕ) → StartedOnce (OrStarted (WasStarted r) (ActStarts a)) n
  more_started n y b y' b' (inl o) (inl o') = h.started_once n y b y' b' o o'
  more_started n y b y' b' (inl o) (inr o') = let p = h.started_low n y b o in let q = f.starts_new n y' b' o' in absurd (omega arith)
  more_started n y b y' b' (inr o) (inl o') = let p = h.started_low n y' b' o' in let q = f.starts_new n y b o in absurd (omega arith)
  more_started n y b y' b' (inr o) (inr o') = f.starts_once n y b y' b' o o'

  more_listed : (tr' : List (Record M)) → settled_in (happenings tr') ≡ settled_in (happenings tr) ++ settled_in rs → (y : ℕ) (l : Leaf M) → OrSettled (WasSettled r) (ActSettles a) y l → Memᴰ y (settled_in (happenings tr'))
  more_listed tr' e y l (inl o) = subst (λ x. Memᴰ y x) (sym e) (Memᴰ.append_left (settled_in rs) (h.listed y l o))
  more_listed tr' e y l (inr o) = subst (λ x. Memᴰ y x) (sym e) (Memᴰ.append_right (settled_in (happenings tr)) (f.settles_in y l o))

  -- a sync that this act begins is not settled
  unsettled_new : (y : ℕ) → s.last_sync < y → Unsettled (OrSettled (WasSettled r) (ActSettles a)) y
  unsettled_new y lt = unsettled_both (WasSettled r) (ActSettles a) y
      (λ l o. let k = ((past_run limit w c tr s r).gone y (h.listed y l o)).0 in omega arith)
      (λ l o. let k = waits_early w s (sound_run w tr s r) y ((moves_act limit w c s rs s' (sound_run w tr s r) a).were y (f.settles_in y l o)) in omega arith)

  abbrev ToldAfter : ℕ → Nack → Type 0
  ToldAfter n k = Told (OrSettled (WasSettled r) (ActSettles a)) (OrStarted (WasStarted r) (ActStarts a)) n k

  live_told : (t : Task M) → Heir s (ActSettles a) t ⊎ New s (ActStarts a) t → ToldAfter t.number t.nack
  live_told t (inl p) = subst (λ n. ToldAfter n t.nack) p.same (heir_told (WasSettled r) (ActSettles a) (WasStarted r) (ActStarts a) p.of.number
      (λ y b o. let q = f.starts_new p.of.number y b o in let k = (sound_run w tr s r).tidy.low p.of p.live in omega arith)
      (h.started_once p.of.number) p.of.nack t.nack (h.nacks p.of p.live) p.after)
  live_told t (inr (lt, inl p)) = subst (ToldAfter t.number) (sym p.0) (void_told (WasSettled r) (ActSettles a) (WasStarted r) (ActStarts a) t.number
      (λ y b o. absurd (let q = h.started_low t.number y b o in omega arith)) p.1)
  live_told t (inr (lt, inr p)) = subst (ToldAfter t.number) (sym p.2) (inr p.3, unsettled_new p.0 (f.starts_new t.number p.0 p.1 p.3).2)

  pub story_more : (tr' : List (Record M)) (e : tr' ≡ tr ++ numbered (length tr) s'.clock rs) → Story (goes_on rs r a e)
  story_more tr' e = record {
    started_low = more_low;
    started_once = more_started;
    listed = more_listed tr' (ap (λ x. settled_in (happenings x)) e ∙ each_more settled_by tr (length tr) s'.clock rs);
    settled_once = more_once;
    nacks = λ t m. live_told t (f.heirs t m);
  }
