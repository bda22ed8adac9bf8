-- A task has a step just where it is able, a waiting task at just its open leaves, and a run is quiet just where no task is able.
use Rattle.std.proofs.Common.{◌≡◌, ℕ, List, [], ◌∷◌, Some, None, Option, sym, refl, ap, ◌∙◌, subst, inl, inr, arith}
use mathlib.Core.List.Memᴰ
use mathlib.Core.List.{Memᴰ}
use Rattle.std.specs.List.{slice_get}
use Rattle.grammar.specs.declared.words.PortKind.{PortKind}
use Rattle.rows.specs.Rows.{port_kind}
use Rattle.trace.specs.declared.record.Event.{Event}
use Rattle.rules.specs.declared.kind.BaseKind.{BaseKind}
use Rattle.rules.specs.declared.kind.BaseKind.TheVariants.{Port, Timeout}
use Rattle.rules.specs.declared.offer.Side.{Side}
use Rattle.rules.specs.declared.offer.Side.TheVariants.{Give, Take}
use Rattle.rules.specs.declared.offer.Offer.{Offer}
use Rattle.rules.specs.declared.offer.Reply.{Reply}
use Rattle.rules.specs.declared.offer.Reply.TheVariants.{Closed, Alone, With}
use Rattle.rules.specs.Kinds.{Partner, other}
use Rattle.rules.specs.States.{Setting, Base, always, send, recv, due, nack, Leaf, running, waiting, Task, State}
use Rattle.rules.specs.Able.{instr_at, at_port, placed, poll_at, reply, Stands, Open, Ready, Able, by_place, by_leaf, opens, able_tasks}
use Rattle.rules.specs.Steps.{Move, runs, settles, Step, ends, emits, returns, spawns, syncs, settles_one, settles_pair}
use Rattle.rules.specs.Laws.{LawfulKinds, of_move, HasStep, StepsOfAble, QuietLaw, MovesLaw}
use Rattle.rules.proofs.Tasks.{not_both}
use Rattle.rules.proofs.Sound.{Owned, Sound, sound_run}
use Rattle.rules.proofs.Outcomes.{obeyed_step}
use Rattle.rules.proofs.Ability.{opens_open, listed_leaf, leaf_listed, listed_able}

-- whose place or leaf allows the move
pub data Allows {M : Type 0} (w : Setting M) (s : State M) (v : Move) : Type 0 where
  by_ready : (t : Task M) → Ready w s t → v ≡ runs t.number → Allows w s v
  by_open : (t : Task M) (y i : ℕ) (l : Leaf M) → Open w s t y i l → v ≡ settles t.number i → Allows w s v

pub step_allowed : {M : Type 0} (w : Setting M) (s : State M) (v : Move) (rs : List (Event M)) (s' : State M) → Step w s v rs s' → Allows w s v
step_allowed w s v rs s' (ends t r e _ _ _) = by_ready t r e
step_allowed w s v rs s' (emits t r e _ _ _) = by_ready t r e
step_allowed w s v rs s' (returns t r e _ _ _) = by_ready t r e
step_allowed w s v rs s' (spawns t b r e _ _ _) = by_ready t r e
step_allowed w s v rs s' (syncs t x r e _ bs _ ls _ y _ _ _) = by_ready t r e
step_allowed w s v rs s' (settles_one t y i l a e f σs _ _ _) = by_open t y i l (record { stands = a; is_open = opens_open _ (ap opens f) }) e
step_allowed w s v rs s' (settles_pair t u y i z j p l k a _ b _ (inl m) σs _ _ _) = by_open t y i l (record { stands = a; is_open = opens_open _ (ap opens m.0) }) m.1
step_allowed w s v rs s' (settles_pair t u y i z j p l k a _ b _ (inr m) σs _ _ _) = by_open u z j k (record { stands = b; is_open = opens_open _ (ap opens m.0) }) m.1

-- a waiting task: the partner that a reply names waits at the other side of the port

abbrev at_side : {M : Type 0} → Side → ℕ → Base M
at_side Give p = send p
at_side Take p = recv p

placed_at_port : {M : Type 0} (w : Setting M) (y i : ℕ) (b : Base M) (k : PortKind) (q : Offer) → placed w y i b ≡ Some (record { kind = Port k; offer = q }) → b ≡ at_side q.side q.port
placed_at_port w y i b k q e = grind arith

takes_if_timed : {M : Type 0} (w : Setting M) (y i : ℕ) (b : Base M) (q : Offer) → placed w y i b ≡ Some (record { kind = Timeout; offer = q }) → q.side ≡ Take
takes_if_timed w y i b q e = grind arith

-- the task and the leaf that the reply names
record Named {M : Type 0} (s : State M) (z j : ℕ) (d : Side) (p : ℕ) : Type 0 where
  task : Task M
  leaf : Leaf M
  stands : Stands s task z j leaf
  waits_for : leaf.base ≡ at_side d p

module _ {M : Type 0} (limit : ℕ) (w : Setting M) (lawful : LawfulKinds limit w) (s : State M) (h : Sound w s) where
  owner_stands : (c : BaseKind) (o : Offer) (z j : ℕ) (p : Partner (s.means c).offers o z j) (q : Owned w s.tasks c p.it) → Stands s q.task z j q.leaf
  owner_stands c o z j p q = record { live = q.live; all = q.all; waits = q.waits ∙ ap (λ x. waiting x q.all) p.its_sync; here = ap (slice_get q.all) (sym p.its_leaf) ∙ q.here }

  named : (k : Option PortKind) (o : Offer) (z j : ℕ) → poll_at w s (at_port k o) ≡ With z j → Named s z j (other o.side) o.port
  named None o z j e = absurd (grind arith)
  named (Some k) o z j e =
      let p = (lawful (Port k)).partner _ _ _ o z j e in let q = h.owned (Port k) p.it p.waits in
      record { task = q.task; leaf = q.leaf; stands = owner_stands (Port k) o z j p q; waits_for = placed_at_port w _ _ q.leaf.base k p.it q.offered ∙ rw (p.other_side, p.same_port) }

  with_step : (t : Task M) (y i z j : ℕ) (l : Leaf M) → Stands s t y i l → (b : Base M) → l.base ≡ b → reply w s t y i b ≡ With z j → HasStep w s (settles t.number i)
  with_step t y i z j l a (send n) e f = let p = named (port_kind w.script.ports n) _ z j f in
      record { records = _; next = _; steps = settles_pair t p.task y i z j n l p.leaf a e p.stands p.waits_for (inl (ap (reply w s t y i) e ∙ f, refl)) _ refl refl refl }
  with_step t y i z j l a (recv n) e f = let p = named (port_kind w.script.ports n) _ z j f in
      record { records = _; next = _; steps = settles_pair p.task t z j y i n p.leaf l p.stands p.waits_for a e (inr (ap (reply w s t y i) e ∙ f, refl)) _ refl refl refl }
  with_step t y i z j l a (due d) e f =
      let p = (lawful Timeout).partner _ _ _ _ z j f in let q = h.owned Timeout p.it p.waits in
      absurd (let x = takes_if_timed w _ _ q.leaf.base p.it q.offered in grind (arith, p.other_side))
  with_step t y i z j l a (always m) e f = absurd (grind arith)
  with_step t y i z j l a nack e f = absurd (grind arith)

  open_step : (t : Task M) (y i : ℕ) (l : Leaf M) → Open w s t y i l → (r : Reply) → reply w s t y i l.base ≡ r → HasStep w s (settles t.number i)
  open_step t y i l o Closed e = absurd (o.is_open e)
  open_step t y i l o Alone e = record { records = _; next = _; steps = settles_one t y i l o.stands refl e _ refl refl refl }
  open_step t y i l o (With z j) e = with_step t y i z j l o.stands l.base refl e

  allowed_step : (v : Move) → Allows w s v → HasStep w s v
  allowed_step v (by_ready t r e) = rw e (record { records = _; next = _; steps = obeyed_step w s t r (instr_at w t) refl })
  allowed_step v (by_open t y i l o e) = rw e (open_step t y i l o (reply w s t y i l.base) refl)

-- the laws

allowed_able : {M : Type 0} (w : Setting M) (s : State M) (v : Move) → Allows w s v → (t : Task M) × Able w s t × (t.number ≡ of_move v)
allowed_able w s v (by_ready t r e) = (t, by_place r, ap of_move (sym e))
allowed_able w s v (by_open t y i l o e) = (t, by_leaf y i l o, ap of_move (sym e))

able_allowed : {M : Type 0} (w : Setting M) (s : State M) (t : Task M) → Able w s t → (v : Move) × Allows w s v × (of_move v ≡ t.number)
able_allowed w s t (by_place r) = (_, by_ready t r refl, refl)
able_allowed w s t (by_leaf y i l o) = (_, by_open t y i l o refl, refl)

pub steps_of_able : (M : Type 0) → StepsOfAble M
steps_of_able M limit w k tr s r n = (
  (λ a. let b = able_allowed w s a.0 a.1 in (b.0, allowed_step limit w k s (sound_run w tr s r) b.0 b.1, b.2 ∙ a.2)),
  (λ a. let b = allowed_able w s a.0 (step_allowed w s a.0 _ _ a.1.steps) in (b.0, b.1, b.2 ∙ a.2)),
)

module _ {M : Type 0} (w : Setting M) (s : State M) (h : Sound w s) (t : Task M) (m : Memᴰ t s.tasks) where
  runs_ready : Allows w s (runs t.number) → Ready w s t
  runs_ready (by_ready u r e) = let n : u.number ≡ t.number = cc in subst (Ready w s) (h.tidy.numbers u t r.live m n) r
  runs_ready (by_open u y i l o e) = absurd (grind arith)

  settles_open : (i : ℕ) → Allows w s (settles t.number i) → (y : ℕ) × (l : Leaf M) × Open w s t y i l
  settles_open i (by_ready u r e) = absurd (grind arith)
  settles_open i (by_open u y j l o e) =
      let n : u.number ≡ t.number = cc in let same = h.tidy.numbers u t o.stands.live m n in let ij : j ≡ i = cc in
      (y, l, rw (same, ij) at o)

pub moves_law : (M : Type 0) → MovesLaw M
moves_law M limit w k tr s r t m = (
  (λ e. (((λ a. by_place (ready a)), go e), λ i a. let o = at_leaf i a in not_both t.wait o.0 o.2.stands.all e o.2.stands.waits)),
  λ y ls e. (
    (λ i. (
      (λ a. let o = at_leaf i a in leaf_listed w s t y ls i e o.0 o.1 o.2),
      λ n. let o = listed_leaf w s t y ls i m e n in allowed_step limit w k s h _ (by_open t y i o.0 o.1 refl),
    )),
    λ a. not_both t.wait y ls (ready a).runs e,
  ),
)
  where
    h : Sound w s
    h = sound_run w tr s r

    ready : HasStep w s (runs t.number) → Ready w s t
    ready a = runs_ready w s h t m (step_allowed w s _ _ _ a.steps)

    at_leaf : (i : ℕ) → HasStep w s (settles t.number i) → (y : ℕ) × (l : Leaf M) × Open w s t y i l
    at_leaf i a = settles_open w s h t m i (step_allowed w s _ _ _ a.steps)

    go : t.wait ≡ running → Able w s t → HasStep w s (runs t.number)
    go e (by_place a) = allowed_step limit w k s h _ (by_ready t a refl)
    go e (by_leaf y i l o) = absurd (not_both t.wait y o.stands.all e o.stands.waits)

pub quiet_law : (M : Type 0) → QuietLaw M
quiet_law M limit w k tr s r = (
  (λ e v a. let b = allowed_able w s v (step_allowed w s v _ _ a.steps) in Memᴰ.not-nil (subst (Memᴰ b.0) e ((listed_able M w s b.0).1 b.1))),
  λ f. go f (able_tasks w s) refl,
)
  where
    go : ((v : Move) → HasStep w s v → ⊥) → (ts : List (Task M)) → able_tasks w s ≡ ts → able_tasks w s ≡ []
    go f [] e = e
    go f (t ∷ ts) e = let a = able_allowed w s t ((listed_able M w s t).0 (subst (Memᴰ t) (sym e) (Memᴰ.head refl))) in absurd (f a.0 (allowed_step limit w k s (sound_run w tr s r) a.0 a.1))
