-- The one outcome of a move, as a function: every step has it, and where there is one there is a step.
use Rattle.std.proofs.Common.{◌≡◌, ℕ, suc, ◌+◌, Bool, true, false, cond, not, eqb, List, [], ◌∷◌, ◌++◌, length, Some, None, filter, Option, sym, refl, ap, ◌∙◌, inl, inr, arith}
use mathlib.Core.List.Memᴰ
use mathlib.Core.List.{Memᴰ}
use Rattle.std.specs.List.{slice_get}
use Rattle.std.proofs.lemmas.Bool.{both_ways, cond-true, eqb-true, eq-eqb, le-leb, leb-true}
use Rattle.grammar.specs.Grammar as g
use Rattle.rows.specs.Scripts.{Instr}
use Rattle.trace.specs.declared.record.Event.{Event}
use Rattle.trace.specs.declared.record.Event.TheVariants as line
use Rattle.trace.specs.declared.record.Record.{Record}
use Rattle.rules.specs.declared.nack.Nack.TheVariants.{Void}
use Rattle.rules.specs.declared.offer.Reply.{Reply}
use Rattle.rules.specs.declared.offer.Reply.TheVariants.{Closed, Alone, With}
use Rattle.rules.specs.Kinds.{enrolled_each}
use Rattle.rules.specs.States.{Setting, Base, always, send, recv, due, nack, Leaf, Wait, running, waiting, Task, State}
use Rattle.rules.specs.Evaluation.{nacks, leaves}
use Rattle.rules.specs.Able.{instr_at, sign_at, placed, offers_in, reply, Stands, Ready, able_when}
use Rattle.rules.specs.Settling.{put, settled, result, shown, commit_at, Settlement, fires, after_settling}
use Rattle.rules.specs.Steps.{moved, waits_at, started, nack_tasks, nack_starts, with_tasks, Move, runs, settles, Step, ends, emits, returns, spawns, syncs, settles_one, settles_pair}
use Rattle.rules.specs.Runs.{Run}
use Rattle.rules.proofs.Tasks.{Tidy}
use Rattle.rules.proofs.Sound.{sound_run}

-- the records that a step makes, and the state after it
pub record Outcome (M : Type 0) : Type 0 where
  pub records : List (Event M)
  pub next : State M

-- a running task

abbrev pub synced : {M : Type 0} → Setting M → State M → Task M → ℕ → List ℕ → List (Leaf M) → Outcome M
synced w s t y bs ls = record {
  records = line.Sync t.number y (length ls) ∷ nack_starts t.number y (suc s.last_task) bs;
  next = record { clock = s.clock; means = λ c. enrolled_each (offers_in w c y 0 ls) (s.means c); tasks = put (waits_at t y ls) s.tasks ++ nack_tasks w y (suc s.last_task) 0 bs; last_task = s.last_task + length bs; last_sync = y };
}

-- what it does at an instruction
abbrev pub obeyed : {M : Type 0} → Setting M → State M → Task M → Option (Instr M) → Outcome M
obeyed w s t None = record { records = line.End t.number ∷ []; next = with_tasks s (filter (λ u. not (eqb u.number t.number)) s.tasks) }
obeyed w s t (Some g.emit) = record { records = line.Emit t.number t.place t.register ∷ []; next = with_tasks s (put (moved t (suc t.place)) s.tasks) }
obeyed w s t (Some g.again) = record { records = line.Step t.number t.place t.register ∷ []; next = with_tasks s (put (moved t 0) s.tasks) }
obeyed w s t (Some (g.spawn b)) = record {
  records = line.Step t.number t.place t.register ∷ (line.Start (suc s.last_task) b t.number 0 ∷ []);
  next = record { clock = s.clock; means = s.means; tasks = put (moved t (suc t.place)) s.tasks ++ (started w (suc s.last_task) b Void ∷ []); last_task = suc s.last_task; last_sync = s.last_sync };
}
obeyed w s t (Some (g.sync e)) = synced w s t (suc s.last_sync) (nacks (sign_at w t) e) (leaves (sign_at w t) s.clock 0 e)

abbrev pub ran : {M : Type 0} → Setting M → State M → Task M → Wait M → Option (Outcome M)
ran w s t running = cond (able_when w s t running) (Some (obeyed w s t (instr_at w t))) None
ran w s t (waiting y ls) = None

-- a waiting task

abbrev pub at_leaf : {M : Type 0} → ℕ → Leaf M → List Settlement → List Settlement
at_leaf y l σs = record { sync = y; above = l.above } ∷ σs

abbrev pub settled_alone : {M : Type 0} → Setting M → State M → Task M → ℕ → ℕ → Leaf M → Outcome M
settled_alone w s t y i l = record {
  records = line.One t.number y i (shown w s t y i l.base) ∷ fires (at_leaf y l []) s.tasks;
  next = after_settling s (at_leaf y l []) (commit_at w (placed w y i l.base) t.register s.means) (put (settled w t l (result w s y i l.base)) s.tasks);
}

-- the giver, then the taker
abbrev pub settled_both : {M : Type 0} → Setting M → State M → Task M → ℕ → ℕ → Leaf M → Task M → ℕ → ℕ → Leaf M → Outcome M
settled_both w s t y i l u z j k = record {
  records = line.Pair t.number y i z j t.register ∷ fires (at_leaf y l (at_leaf z k [])) s.tasks;
  next = after_settling s (at_leaf y l (at_leaf z k [])) s.means (put (settled w u k t.register) (put (settled w t l w.messages.blank) s.tasks));
}

abbrev pub sends_at : {M : Type 0} → ℕ → Base M → Bool
sends_at p (send q) = eqb q p
sends_at p (recv q) = false
sends_at p (always m) = false
sends_at p (due d) = false
sends_at p nack = false

abbrev pub receives_at : {M : Type 0} → ℕ → Base M → Bool
receives_at p (recv q) = eqb q p
receives_at p (send q) = false
receives_at p (always m) = false
receives_at p (due d) = false
receives_at p nack = false

-- with a partner, by what the leaf waits for
abbrev pub settled_with : {M : Type 0} → Setting M → State M → Task M → ℕ → ℕ → Leaf M → Task M → ℕ → ℕ → Leaf M → Base M → Option (Outcome M)
settled_with w s t y i l u z j k (send p) = cond (receives_at p k.base) (Some (settled_both w s t y i l u z j k)) None
settled_with w s t y i l u z j k (recv p) = cond (sends_at p k.base) (Some (settled_both w s u z j k t y i l)) None
settled_with w s t y i l u z j k (always m) = None
settled_with w s t y i l u z j k (due d) = None
settled_with w s t y i l u z j k nack = None

-- the first that passes
abbrev pub first_by : {X : Type 0} → (X → Bool) → List X → Option X
first_by test [] = None
first_by test (x ∷ xs) = cond (test x) (Some x) (first_by test xs)

abbrev pub and_then : {X Y : Type 0} → Option X → (X → Option Y) → Option Y
and_then None f = None
and_then (Some x) f = f x

abbrev pub waits_in : {M : Type 0} → ℕ → Wait M → Bool
waits_in y running = false
waits_in y (waiting x ls) = eqb x y

abbrev pub leaves_in : {M : Type 0} → Wait M → List (Leaf M)
leaves_in running = []
leaves_in (waiting x ls) = ls

abbrev pub by_reply : {M : Type 0} → Setting M → State M → Task M → ℕ → ℕ → Leaf M → Reply → Option (Outcome M)
by_reply w s t y i l Closed = None
by_reply w s t y i l Alone = Some (settled_alone w s t y i l)
by_reply w s t y i l (With z j) = and_then (first_by (λ u. waits_in z u.wait) s.tasks) (λ u. and_then (slice_get (leaves_in u.wait) j) (λ k. settled_with w s t y i l u z j k l.base))

abbrev pub settled_at : {M : Type 0} → Setting M → State M → Task M → ℕ → Wait M → Option (Outcome M)
settled_at w s t i running = None
settled_at w s t i (waiting y ls) = and_then (slice_get ls i) (λ l. by_reply w s t y i l (reply w s t y i l.base))

-- the outcome of a move, if the rules allow a step
abbrev pub outcome : {M : Type 0} → Setting M → State M → Move → Option (Outcome M)
outcome w s (runs n) = and_then (first_by (λ t. eqb t.number n) s.tasks) (λ t. ran w s t t.wait)
outcome w s (settles n i) = and_then (first_by (λ t. eqb t.number n) s.tasks) (λ t. settled_at w s t i t.wait)

-- lookups

first_only : {X : Type 0} (test : X → Bool) (x : X) (xs : List X) → Memᴰ x xs → test x ≡ true → ((u : X) → Memᴰ u xs → test u ≡ true → u ≡ x) → first_by test xs ≡ Some x
first_only test x [] m e f = absurd (Memᴰ.not-nil m)
first_only test x (u ∷ us) m e f = go (test u) refl m (λ k. first_only test x us k e (λ v n. f v (Memᴰ.tail n)))
  where
    go : (b : Bool) → test u ≡ b → Memᴰ x (u ∷ us) → (Memᴰ x us → first_by test us ≡ Some x) → cond b (Some u) (first_by test us) ≡ Some x
    go true p k h = ap Some (f u (Memᴰ.head refl) p)
    go false p (Memᴰ.head q) h = absurd (both_ways (test u) p (ap test (sym q) ∙ e))
    go false p (Memᴰ.tail k) h = h k

first_found : {X : Type 0} (test : X → Bool) (x : X) (xs : List X) → first_by test xs ≡ Some x → Memᴰ x xs × (test x ≡ true)
first_found test x [] e = absurd (grind arith)
first_found test x (u ∷ us) e = go (test u) refl (first_found test x us) e
  where
    go : (b : Bool) → test u ≡ b → (first_by test us ≡ Some x → Memᴰ x us × (test x ≡ true)) → cond b (Some u) (first_by test us) ≡ Some x → Memᴰ x (u ∷ us) × (test x ≡ true)
    go true p h q = let d : x ≡ u = cc in (Memᴰ.head d, ap test d ∙ p)
    go false p h q = (Memᴰ.tail (h q).0, (h q).1)

then_found : {X Y : Type 0} (o : Option X) (f : X → Option Y) (y : Y) → and_then o f ≡ Some y → (x : X) × (o ≡ Some x) × (f x ≡ Some y)
then_found None f y e = absurd (grind arith)
then_found (Some x) f y e = (x, refl, e)

some_passed : {X : Type 0} (b : Bool) (x y : X) → cond b (Some x) None ≡ Some y → (b ≡ true) × (x ≡ y)
some_passed true x y e = (refl, cc)
some_passed false x y e = absurd (grind arith)

waits_in_true : {M : Type 0} (y : ℕ) (v : Wait M) → waits_in y v ≡ true → v ≡ waiting y (leaves_in v)
waits_in_true y v e = grind arith

sends_send : {M : Type 0} (p : ℕ) (b : Base M) → sends_at p b ≡ true → b ≡ send p
sends_send p b e = grind arith

receives_recv : {M : Type 0} (p : ℕ) (b : Base M) → receives_at p b ≡ true → b ≡ recv p
receives_recv p b e = grind arith

-- every step has the outcome, where the tasks are tidy
module _ {M : Type 0} (w : Setting M) (s : State M) (h : Tidy s.tasks s.last_task s.last_sync) where
  first_numbered : (t : Task M) → Memᴰ t s.tasks → first_by (λ u. eqb u.number t.number) s.tasks ≡ Some t
  first_numbered t m = first_only (λ u. eqb u.number t.number) t s.tasks m (eq-eqb _ _ refl) (λ u n e. h.numbers u t n m (eqb-true _ _ e))

  first_waiting : (t : Task M) (y : ℕ) (ls : List (Leaf M)) → Memᴰ t s.tasks → t.wait ≡ waiting y ls → first_by (λ u. waits_in y u.wait) s.tasks ≡ Some t
  first_waiting t y ls m e = first_only (λ u. waits_in y u.wait) t s.tasks m (ap (waits_in y) e ∙ eq-eqb _ _ refl) (λ u n f. h.syncs u t y _ ls n m (waits_in_true y u.wait f) e)

  ready_outcome : (t : Task M) → Ready w s t → outcome w s (runs t.number) ≡ Some (obeyed w s t (instr_at w t))
  ready_outcome t r = rw (first_numbered t r.live, r.runs) (cond-true _ _ _ (le-leb _ _ r.room))

  stands_outcome : (t : Task M) (y i : ℕ) (l : Leaf M) → Stands s t y i l → outcome w s (settles t.number i) ≡ by_reply w s t y i l (reply w s t y i l.base)
  stands_outcome t y i l a = rw (first_numbered t a.live, a.waits, a.here)

  partner_outcome : (t : Task M) (y i : ℕ) (l : Leaf M) (u : Task M) (z j : ℕ) (k : Leaf M) → Stands s u z j k → by_reply w s t y i l (With z j) ≡ settled_with w s t y i l u z j k l.base
  partner_outcome t y i l u z j k a = rw (first_waiting u z a.all a.live a.waits, a.waits, a.here)

  obeys : (t : Task M) → Ready w s t → (v : Move) → v ≡ runs t.number → (x : Option (Instr M)) → instr_at w t ≡ x → (o : Outcome M) → o ≡ obeyed w s t x → outcome w s v ≡ Some o
  obeys t r v e x i o f = rw (e, f, ← i) (ready_outcome t r)

  pairs : (t : Task M) (y i : ℕ) (l : Leaf M) (u : Task M) (z j : ℕ) (k : Leaf M) → Stands s t y i l → Stands s u z j k → (v : Move) → v ≡ settles t.number i
      → reply w s t y i l.base ≡ With z j → outcome w s v ≡ settled_with w s t y i l u z j k l.base
  pairs t y i l u z j k a b v e f = ap (outcome w s) e ∙ stands_outcome t y i l a ∙ ap (by_reply w s t y i l) f ∙ partner_outcome t y i l u z j k b

  pub step_outcome : (v : Move) (rs : List (Event M)) (s' : State M) → Step w s v rs s' → outcome w s v ≡ Some (record { records = rs; next = s' })
  step_outcome v rs s' (ends t r e i f g) = obeys t r v e _ i _ (rw (f, g))
  step_outcome v rs s' (emits t r e i f g) = obeys t r v e _ i _ (rw (f, g))
  step_outcome v rs s' (returns t r e i f g) = obeys t r v e _ i _ (rw (f, g))
  step_outcome v rs s' (spawns t b r e i f g) = obeys t r v e _ i _ (rw (f, g))
  step_outcome v rs s' (syncs t x r e i bs b ls l y n f g) = obeys t r v e _ i _ (rw (f, g, b, l, n))
  step_outcome v rs s' (settles_one t y i l a e c σs d f g) = rw (e, f, g, d) (stands_outcome t y i l a ∙ ap (by_reply w s t y i l) c)
  step_outcome v rs s' (settles_pair t u y i z j p l k a b c d (inl m) σs n f g) = rw (f, g, n) (pairs t y i l u z j k a c v m.1 m.0 ∙ rw (b, d) (cond-true _ _ _ (eq-eqb p p refl)))
  step_outcome v rs s' (settles_pair t u y i z j p l k a b c d (inr m) σs n f g) = rw (f, g, n) (pairs u z j k t y i l c a v m.1 m.0 ∙ rw (b, d) (cond-true _ _ _ (eq-eqb p p refl)))

-- where there is an outcome there is a step, whatever the state
module _ {M : Type 0} (w : Setting M) (s : State M) where
  abbrev pub Makes : Move → Outcome M → Type 0
  Makes v o = Step w s v o.records o.next

  pub obeyed_step : (t : Task M) → Ready w s t → (x : Option (Instr M)) → instr_at w t ≡ x → Makes (runs t.number) (obeyed w s t x)
  obeyed_step t r None i = ends t r refl i refl refl
  obeyed_step t r (Some g.emit) i = emits t r refl i refl refl
  obeyed_step t r (Some g.again) i = returns t r refl i refl refl
  obeyed_step t r (Some (g.spawn b)) i = spawns t b r refl i refl refl
  obeyed_step t r (Some (g.sync e)) i = syncs t e r refl i _ refl _ refl _ refl refl refl

  ran_step : (t : Task M) → Memᴰ t s.tasks → (v : Wait M) → t.wait ≡ v → (o : Outcome M) → ran w s t v ≡ Some o → Makes (runs t.number) o
  ran_step t m running e o f = let p = some_passed _ _ _ f in rw (← p.1) (obeyed_step t (record { live = m; runs = e; room = leb-true _ _ p.0 }) (instr_at w t) refl)
  ran_step t m (waiting y ls) e o f = absurd (grind arith)

  with_step : (t : Task M) (y i : ℕ) (l : Leaf M) (u : Task M) (z j : ℕ) (k : Leaf M) → Stands s t y i l → Stands s u z j k → reply w s t y i l.base ≡ With z j → (b : Base M)
      → l.base ≡ b → (o : Outcome M) → settled_with w s t y i l u z j k b ≡ Some o → Makes (settles t.number i) o
  with_step t y i l u z j k a c r (send p) e o f = let q = some_passed _ _ _ f in rw (← q.1) (settles_pair t u y i z j p l k a e c (receives_recv p _ q.0) (inl (r, refl)) _ refl refl refl)
  with_step t y i l u z j k a c r (recv p) e o f = let q = some_passed _ _ _ f in rw (← q.1) (settles_pair u t z j y i p k l c (sends_send p _ q.0) a e (inr (r, refl)) _ refl refl refl)
  with_step t y i l u z j k a c r (always m) e o f = absurd (grind arith)
  with_step t y i l u z j k a c r (due d) e o f = absurd (grind arith)
  with_step t y i l u z j k a c r nack e o f = absurd (grind arith)

  reply_step : (t : Task M) (y i : ℕ) (l : Leaf M) → Stands s t y i l → (r : Reply) → reply w s t y i l.base ≡ r → (o : Outcome M) → by_reply w s t y i l r ≡ Some o
      → Makes (settles t.number i) o
  reply_step t y i l a Closed e o f = absurd (grind arith)
  reply_step t y i l a Alone e o f = let q : settled_alone w s t y i l ≡ o = cc in rw (← q) (settles_one t y i l a refl e _ refl refl refl)
  reply_step t y i l a (With z j) e o f =
      let u = then_found _ _ o f in let m = first_found _ u.0 s.tasks u.1 in
      let k = then_found _ _ o u.2 in
      with_step t y i l u.0 z j k.0 a (record { live = m.0; all = _; waits = waits_in_true z _ m.1; here = k.1 }) e l.base refl o k.2

  settled_step : (t : Task M) (i : ℕ) → Memᴰ t s.tasks → (v : Wait M) → t.wait ≡ v → (o : Outcome M) → settled_at w s t i v ≡ Some o → Makes (settles t.number i) o
  settled_step t i m running e o f = absurd (grind arith)
  settled_step t i m (waiting y ls) e o f = let l = then_found _ _ o f in reply_step t y i l.0 (record { live = m; all = ls; waits = e; here = l.1 }) _ refl o l.2

  pub outcome_step : (v : Move) (o : Outcome M) → outcome w s v ≡ Some o → Step w s v o.records o.next
  outcome_step (runs n) o e = let t = then_found _ _ o e in let m = first_found _ t.0 s.tasks t.1 in rw (← (eqb-true _ _ m.1)) (ran_step t.0 m.0 _ refl o t.2)
  outcome_step (settles n i) o e = let t = then_found _ _ o e in let m = first_found _ t.0 s.tasks t.1 in rw (← (eqb-true _ _ m.1)) (settled_step t.0 i m.0 _ refl o t.2)

-- a move has one outcome
pub step_determined : {M : Type 0} (w : Setting M) (tr : List (Record M)) (s : State M) (v : Move) (rs₁ rs₂ : List (Event M)) (s₁ s₂ : State M)
    → Run w tr s → Step w s v rs₁ s₁ → Step w s v rs₂ s₂ → (rs₁ ≡ rs₂) × (s₁ ≡ s₂)
step_determined {M} w tr s v rs₁ rs₂ s₁ s₂ r a b = (ap (λ (o : Outcome M). o.records) same, ap (λ (o : Outcome M). o.next) same)
  where
    same : ◌≡◌ {A = Outcome M} (record { records = rs₁; next = s₁ }) (record { records = rs₂; next = s₂ })
    same = let d = step_outcome w s (sound_run w tr s r).tidy v in let p = d rs₁ s₁ a in let q = d rs₂ s₂ b in cc
