-- The numbers in the records of an act are small, where the script keeps its ranges and limits.
use Rattle.std.proofs.Common.{◌≡◌, ℕ, suc, ◌+◌, ◌<◌, ◌≤◌, cond, eqb, List, [], ◌∷◌, ◌++◌, length, Some, sym, refl, ap, ◌∙◌, subst, arith}
use mathlib.Core.List.{Memᴰ}
use Rattle.std.specs.List.{range_with_len, AllByRecursion}
use Rattle.std.proofs.lemmas.List.FromFn.{length-range_with_len}
use Rattle.std.proofs.ByRecursion.{All-append, All-weaker}
use Rattle.std.proofs.lemmas.List.{length-append, length-map}
use Rattle.std.proofs.lemmas.Bool.{cond_both, eqb-true}
use Rattle.message.specs.declared.kind.Sign.{Sign}
use Rattle.grammar.specs.declared.words.PortKind.{PortKind}
use Rattle.grammar.specs.Grammar as g
use Rattle.passes.specs.Ranges.{last_port, last_body}
use Rattle.rows.specs.Scripts as script
use Rattle.rows.specs.Scripts.{Within, EventWithin, EventsWithin, InstrWithin}
use Rattle.rows.specs.Rows.{port_kind, find_body, bodies}
use Rattle.trace.specs.declared.record.Event.{Event}
use Rattle.trace.specs.declared.record.Event.TheVariants as line
use Rattle.trace.specs.declared.record.Record.{Record}
use Rattle.trace.specs.Lines.{numbers}
use Rattle.rules.specs.declared.nack.Nack.{Nack}
use Rattle.rules.specs.declared.nack.Nack.TheVariants.{Pending, Fired, Void}
use Rattle.rules.specs.States.{Setting, Leaf, Task, State}
use Rattle.rules.specs.Evaluation.{is_sign, nacks, nacks_each}
use Rattle.rules.specs.Limits.{most_leaves, most_instrs, Limited}
use Rattle.rules.specs.Able.{or_none, instr_at, Stands}
use Rattle.rules.specs.Settling.{shown, Settlement, in_branch, pending_after, fire_if, fire_of, fires}
use Rattle.rules.specs.Steps.{nack_starts, ends, emits, returns, spawns, syncs, settles_one, settles_pair}
use Rattle.rules.specs.Runs.{numbered, Act, steps, posts, clocks, Run, goes_on}
use Rattle.rules.specs.Laws.{happenings, each_of, starts_of, syncs_of}
use Rattle.rules.proofs.Places.{there_inside}
use Rattle.rules.proofs.Sound.{sound_run}
use Rattle.rules.proofs.Numbers.{length_numbered, numbers_law}
use Rattle.rules.proofs.Leaves.{body_all, instr_all, sync_leaves_few}
use Rattle.rules.proofs.Offering.{waiting_leaves_few}

-- the numbers that a script writes

mutual
  nacks_within : {M : Type 0} (s : Sign) (e : script.Event M) → EventWithin e → AllByRecursion (λ b. b ≤ last_body) (nacks s e)
  nacks_within s g.never h = tt
  nacks_within s g.nack h = tt
  nacks_within s (g.always m) h = tt
  nacks_within s (g.send p) h = tt
  nacks_within s (g.recv p) h = tt
  nacks_within s (g.timeout d) h = tt
  nacks_within s (g.choose es) h = nacks_each_within s es h
  nacks_within s (g.wrap e a) h = nacks_within s e h.0
  nacks_within s (g.guard t e f) h = let a = nacks_within s e h.0 in let b = nacks_within s f h.1 in
      cond_both (is_sign s t) (nacks s e) (nacks s f) (AllByRecursion (λ b. b ≤ last_body)) (λ _. a) (λ _. b)
  nacks_within s (g.with_nack b e) h = (h.0, nacks_within s e h.1)

  nacks_each_within : {M : Type 0} (s : Sign) (es : script.Events M) → EventsWithin es → AllByRecursion (λ b. b ≤ last_body) (nacks_each s es)
  nacks_each_within s g.none h = tt
  nacks_each_within s (g.more e es) h = All-append (λ b. b ≤ last_body) (nacks s e) (nacks_each s es) (nacks_within s e h.0) (nacks_each_within s es h.1)

declared_port : (ps : List (g.Port ℕ)) (p : ℕ) (k : PortKind) → AllByRecursion (λ q. q.number ≤ last_port) ps → port_kind ps p ≡ Some k → p ≤ last_port
declared_port [] p k h e = absurd (let z : ◌≡◌ {A = ℕ} 0 1 = cc in omega arith)
declared_port (q ∷ ps) p k h e =
    let later = declared_port ps p k h.1 in
    cond_both (eqb q.number p) (Some q.kind) (port_kind ps p) (λ o. o ≡ Some k → p ≤ last_port) (λ same _. omega (arith, h.0, eqb-true q.number p same)) (λ _. later) e

module _ {M : Type 0} (w : Setting M) where
  instr_within : Within w.script → (t : Task M) (i : script.Instr M) → instr_at w t ≡ Some i → InstrWithin i
  instr_within h = instr_all InstrWithin w (h.first.1, All-weaker _ (λ b. AllByRecursion InstrWithin b.instrs) (λ b p. p.1) w.script.others h.others)

  place_small : Limited w.script → (t : Task M) (i : script.Instr M) → instr_at w t ≡ Some i → t.place < most_instrs
  place_small h t i e =
      let few = body_all (λ is. length is ≤ most_instrs) (omega arith) (bodies w.script) t.body (All-weaker _ (λ b. length b.instrs ≤ most_instrs) (λ b p. p.0) (bodies w.script) h) in
      let inside = there_inside (or_none (find_body (bodies w.script) t.body)) t.place i e in
      omega arith

-- the last numbers given are no more than the records: each start, and each sync, is a record of its own

each_few : {M : Type 0} (f : Event M → List ℕ) → ((e : Event M) → length (f e) ≤ 1) → (rs : List (Event M)) → length (each_of f rs) ≤ length rs
each_few f h [] = omega arith
each_few f h (r ∷ rs) = let a = h r in let b = each_few f h rs in rw length-append (omega arith)

one_start : {M : Type 0} (e : Event M) → length (starts_of e) ≤ 1
one_start e = grind arith

one_sync : {M : Type 0} (e : Event M) → length (syncs_of e) ≤ 1
one_sync e = grind arith

last_small : {M : Type 0} (f : Event M → List ℕ) → ((e : Event M) → length (f e) ≤ 1) → (tr : List (Record M)) (n : ℕ) → each_of f (happenings tr) ≡ range_with_len 1 n → n ≤ length tr
last_small {M} f h tr n e = omega (arith, each_few f h (happenings tr), ap length e, length-range_with_len 1 n, length-map tr (λ (r : Record M). r.event))

-- every number in the record is at most `n`
abbrev pub Small : {M : Type 0} → ℕ → Event M → Type 0
Small n e = AllByRecursion (λ k. k ≤ n) (numbers e)

module _ (M : Type 0) (most : ℕ) where
  starts_small : (t y n : ℕ) (bs : List ℕ) → t ≤ most → y ≤ most → n + length bs ≤ suc most → AllByRecursion (λ b. b ≤ most) bs → AllByRecursion (Small {M = M} most) (nack_starts t y n bs)
  starts_small t y n [] ht hy hn h = tt
  starts_small t y n (b ∷ bs) ht hy hn h = ((omega arith, (h.0, (ht, (hy, tt)))), starts_small t y (suc n) bs ht hy (omega arith) h.1)

  -- a nack fires with the sync of a settlement
  fire_if_small : (σs : List Settlement) → AllByRecursion (λ σ. σ.sync ≤ most) σs → (n y b : ℕ) → n ≤ most → AllByRecursion (Small {M = M} most) (fire_if n y (pending_after σs y b))
  fire_if_small [] h n y b hn = tt
  fire_if_small (σ ∷ σs) h n y b hn = let r = fire_if_small σs h.1 n y b hn in
      cond_both (eqb y σ.sync) (cond (in_branch b σ.above) Void Fired) (pending_after σs y b) (λ k. AllByRecursion (Small {M = M} most) (fire_if n y k))
      (λ e. cond_both (in_branch b σ.above) Void Fired (λ k. AllByRecursion (Small {M = M} most) (fire_if n y k)) (λ _. tt) (λ _. ((hn, (omega (arith, eqb-true y σ.sync e, h.0), tt)), tt)))
      (λ _. r)

  module _ (σs : List Settlement) (early : AllByRecursion (λ σ. σ.sync ≤ most) σs) where
    fire_of_small : (n : ℕ) (k : Nack) → n ≤ most → AllByRecursion (Small {M = M} most) (fire_of σs n k)
    fire_of_small n Fired hn = tt
    fire_of_small n Void hn = tt
    fire_of_small n (Pending y b) hn = fire_if_small σs early n y b hn

    fires_small : (ts : List (Task M)) → ((t : Task M) → Memᴰ t ts → t.number ≤ most) → AllByRecursion (Small most) (fires σs ts)
    fires_small [] h = tt
    fires_small (t ∷ ts) h = All-append (Small most) (fire_of σs t.number t.nack) (fires σs ts) (fire_of_small t.number t.nack (h t (Memᴰ.head refl))) (fires_small ts (λ u m. h u (Memᴰ.tail m)))

module _ {M : Type 0} (w : Setting M) (within : Within w.script) (lim : Limited w.script) (tr : List (Record M)) (s : State M) (r : Run w tr s) (most : ℕ) (enough : most_instrs ≤ most) where
  -- the numbers of the tasks that live and of the leaves that stand
  module _ (few_tasks : s.last_task ≤ most) (few_syncs : s.last_sync ≤ most) where
    live_small : (t : Task M) → Memᴰ t s.tasks → t.number ≤ most
    live_small t m = omega (arith, (sound_run w tr s r).tidy.low t m)

    stands_small : (t : Task M) (y i : ℕ) (l : Leaf M) → Stands s t y i l → (t.number ≤ most) × (y ≤ most) × (i ≤ most)
    stands_small t y i l a = (
      live_small t a.live,
      omega (arith, (sound_run w tr s r).tidy.early t y a.all a.live a.waits),
      omega (arith, there_inside a.all i l a.here, waiting_leaves_few w lim tr s r t y a.all a.live a.waits),
    )

    one_small : (t : Task M) (y i : ℕ) (l : Leaf M) → Stands s t y i l → (m : M) (σs : List Settlement) → σs ≡ record { sync = y; above = l.above } ∷ []
        → AllByRecursion (Small most) (line.One t.number y i m ∷ fires σs s.tasks)
    one_small t y i l a m σs e = let b = stands_small t y i l a in
        ((b.0, (b.1, (b.2, tt))), fires_small M most σs (subst (AllByRecursion (λ σ. σ.sync ≤ most)) (sym e) (b.1, tt)) s.tasks live_small)

    pair_small : (t u : Task M) (y i z j : ℕ) (l k : Leaf M) → Stands s t y i l → Stands s u z j k → (m : M) (σs : List Settlement)
        → σs ≡ record { sync = y; above = l.above } ∷ (record { sync = z; above = k.above } ∷ [])
        → AllByRecursion (Small most) (line.Pair t.number y i z j m ∷ fires σs s.tasks)
    pair_small t u y i z j l k a b m σs e = let c = stands_small t y i l a in let d = stands_small u z j k b in
        ((c.0, (c.1, (c.2, (d.1, (d.2, tt))))), fires_small M most σs (subst (AllByRecursion (λ σ. σ.sync ≤ most)) (sym e) (c.1, (d.1, tt))) s.tasks live_small)

    at_place_small : (t : Task M) (x : script.Instr M) → Memᴰ t s.tasks → instr_at w t ≡ Some x → (t.number ≤ most) × (t.place ≤ most)
    at_place_small t x m i = (live_small t m, omega (arith, place_small w lim t x i))

  act_small : (rs : List (Event M)) (s' : State M) → Act w s rs s' → s'.last_task ≤ most → s'.last_sync ≤ most → AllByRecursion (Small most) rs
  act_small rs s' (steps v (ends t q _ _ f e)) a b = rw f ((live_small (rw e at a) (rw e at b) t q.live, tt), tt)
  act_small rs s' (steps v (emits t q _ i f e)) a b = let c = at_place_small (rw e at a) (rw e at b) t _ q.live i in rw f ((c.0, (c.1, tt)), tt)
  act_small rs s' (steps v (returns t q _ i f e)) a b = let c = at_place_small (rw e at a) (rw e at b) t _ q.live i in rw f ((c.0, (c.1, tt)), tt)
  act_small rs s' (steps v (spawns t n q _ i f e)) a b =
      let new : suc s.last_task ≤ most = rw e at a in
      let c = at_place_small (omega arith) (rw e at b) t _ q.live i in
      rw f ((c.0, (c.1, tt)), ((new, (omega (arith, instr_within w within t (g.spawn n) i), (c.0, (omega arith, tt)))), tt))
  act_small rs s' (steps v (syncs t x q _ i bs d ls h y next f e)) a b =
      let new : s.last_task + length bs ≤ most = rw e at a in
      let at_most : y ≤ most = rw e at b in
      let c = live_small (omega arith) (omega arith) t q.live in
      let few : length ls ≤ most_leaves = rw h (sync_leaves_few w lim t x i _ _ _) in
      let starts : AllByRecursion (λ n. n ≤ last_body) bs = rw d (nacks_within _ x (instr_within w within t (g.sync x) i)) in
      rw f ((c, (at_most, (omega arith, tt))), starts_small M most t.number y (suc s.last_task) bs c at_most (omega arith) (All-weaker _ (λ n. n ≤ most) (λ n l. omega arith) bs starts))
  act_small rs s' (steps v (settles_one t y i l x _ _ σs d f e)) a b = rw f (one_small (rw e at a) (rw e at b) t y i l x (shown w s t y i l.base) σs d)
  act_small rs s' (steps v (settles_pair t u y i z j p l k x _ q _ _ σs d f e)) a b = rw f (pair_small (rw e at a) (rw e at b) t u y i z j l k x q t.register σs d)
  act_small rs s' (posts p m k _ f e) a b = rw f ((omega arith, (omega (arith, declared_port w.script.ports p _ within.ports k), tt)), tt)
  act_small rs s' (clocks k _ _ f e) a b = rw f ((omega arith, tt), tt)

  -- no number is larger than the number of records afterwards and than the most instructions of a body
  pub records_small : (rs : List (Event M)) (s' : State M) → Act w s rs s' → length tr + length rs ≤ most → AllByRecursion (Small most) rs
  records_small rs s' x l =
      let after = tr ++ numbered (length tr) s'.clock rs in
      let c = numbers_law M w after s' (goes_on rs r x refl) in
      let long : length after ≡ length tr + length rs = length-append tr _ ∙ ap (λ n. length tr + n) (length_numbered (length tr) s'.clock rs) in
      act_small rs s' x (omega (arith, last_small starts_of one_start after _ c.tasks)) (omega (arith, last_small syncs_of one_sync after _ c.syncs))
