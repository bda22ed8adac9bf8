-- A step stamps the tasks that take it, a start the task that starts, and no other record stamps anyone.
use Rattle.std.proofs.Common.{◌≡◌, ℕ, zero, suc, ◌+◌, ◌≤◌, false, cond, ◌||◌, eqb, List, [], ◌∷◌, ◌++◌, length, Some, sym, refl, ap, ◌∙◌, subst, arith}
use mathlib.Core.List.Memᴰ
use mathlib.Core.List.{Memᴰ}
use Rattle.std.specs.List.{slice_get}
use Rattle.std.proofs.lemmas.Bool.{cond-true, cond-false, eq-eqb, ne_eqb}
use Rattle.trace.specs.declared.record.Event.{Event}
use Rattle.trace.specs.declared.record.Event.TheVariants as line
use Rattle.trace.specs.declared.record.Record.{Record}
use Rattle.rules.specs.States.{State}
use Rattle.rules.specs.Runs.{numbered}
use Rattle.rules.specs.Laws.{starts_of, settled_by, settled_in, happenings, act_steppers}
use Rattle.rules.proofs.Members.{mem_all}
use Rattle.rules.proofs.Sound.{sound_run}
use Rattle.rules.proofs.Once.{past_run}
use Rattle.replay.specs.Stamps.{synced_by, stamps, latest, stamp}
use Rattle.replay.specs.Laws.{StampLaw}
use Rattle.replay.proofs.FirstRecords.{StartsAfter, none, fire, start, among, among_mem, mem_among, RecordsTold, told_act}
use Rattle.replay.proofs.Synced.{false_unless, synced_still, owners_still, Synced, synced_run}

-- the records of an act after its first

abbrev NotStarted : {M : Type 0} → ℕ → List (Event M) → Type 0
NotStarted n rs = (b f y : ℕ) → Memᴰ (line.Start n b f y) rs → ⊥

not_yet_started : {M : Type 0} {m : ℕ} {rs : List (Event M)} (n : ℕ) → StartsAfter m rs → n ≤ m → NotStarted n rs
not_yet_started n none le b f y k = Memᴰ.not-nil k
not_yet_started n (fire g) le b f y (Memᴰ.head e) = grind arith
not_yet_started n (fire g) le b f y (Memᴰ.tail k) = not_yet_started n g le b f y k
not_yet_started n (start lt g) le b f y (Memᴰ.head e) = grind arith
not_yet_started n (start lt g) le b f y (Memᴰ.tail k) = not_yet_started n g (omega arith) b f y k

module _ {M : Type 0} (tr : List (Record M)) (n : ℕ) where
  latest_none : {m : ℕ} {rs : List (Event M)} → StartsAfter m rs → NotStarted n rs → (a c k : ℕ) → latest tr n (numbered a c rs) k ≡ k
  latest_none none h a c k = refl
  latest_none (fire g) h a c k = latest_none g (λ b f y p. h b f y (Memᴰ.tail p)) (suc a) c k
  latest_none (start {m = m} {b = b} {f = f} {y = y} lt g) h a c k =
      let other : eqb m n ≡ false = ne_eqb m n (λ e. h b f y (Memᴰ.head (ap (λ x. line.Start x b f y) (sym e)))) in
      latest_none g (λ b f y p. h b f y (Memᴰ.tail p)) (suc a) c _ ∙ cond-false (eqb m n) (suc a) k other

  latest_start : {m : ℕ} {rs : List (Event M)} → StartsAfter m rs → (i b f y : ℕ) → slice_get rs i ≡ Some (line.Start n b f y)
      → (a c k : ℕ) → latest tr n (numbered a c rs) k ≡ suc (a + i)
  latest_start none i b f y e a c k = absurd (grind arith)
  latest_start (fire g) zero b f y e a c k = absurd (grind arith)
  latest_start (fire g) (suc i) b f y e a c k = latest_start g i b f y e (suc a) c k ∙ omega arith
  latest_start (start {m = m} lt g) zero b f y e a c k =
      let same : m ≡ n = grind arith in
      latest_none g (not_yet_started n g (omega arith)) (suc a) c _ ∙ cond-true (eqb m n) (suc a) k (eq-eqb m n same) ∙ omega arith
  latest_start (start lt g) (suc i) b f y e a c k = latest_start g i b f y e (suc a) c _ ∙ omega arith

-- the records so far

-- a record stamps whom it did, where its syncs are whose they were
still_stamps : {M : Type 0} (tr tr' : List (Record M)) (n : ℕ) (e : Event M) → ((z : ℕ) → Memᴰ z (settled_by e) → synced_by tr' n z ≡ synced_by tr n z) → stamps tr' n e ≡ stamps tr n e
still_stamps tr tr' n (line.Start t b f y) h = refl
still_stamps tr tr' n (line.Step t p m) h = refl
still_stamps tr tr' n (line.Emit t p m) h = refl
still_stamps tr tr' n (line.Sync t y k) h = refl
still_stamps tr tr' n (line.One t y i m) h = refl
still_stamps tr tr' n (line.Pair g y i z j m) h = ap (λ b. eqb g n || b) (h z (Memᴰ.tail (Memᴰ.head refl)))
still_stamps tr tr' n (line.Fire t y) h = refl
still_stamps tr tr' n (line.End t) h = refl
still_stamps tr tr' n (line.Post p m) h = refl
still_stamps tr tr' n line.Clock h = refl

latest_still : {M : Type 0} (tr tr' : List (Record M)) (n : ℕ) (xs : List (Record M)) → ((z : ℕ) → Memᴰ z (settled_in (happenings xs)) → synced_by tr' n z ≡ synced_by tr n z)
    → (k : ℕ) → latest tr' n xs k ≡ latest tr n xs k
latest_still tr tr' n [] h k = refl
latest_still tr tr' n (x ∷ xs) h k =
    latest_still tr tr' n xs (λ z m. h z (Memᴰ.append_right (settled_by x.event) m)) _
    ∙ ap (λ b. latest tr n xs (cond b x.seq k)) (still_stamps tr tr' n x.event (λ z m. h z (Memᴰ.append_left _ m)))

-- a trace with the records of one more act

latest_append : {M : Type 0} (tr : List (Record M)) (n : ℕ) (xs ys : List (Record M)) (k : ℕ) → latest tr n (xs ++ ys) k ≡ latest tr n ys (latest tr n xs k)
latest_append tr n [] ys k = refl
latest_append tr n (x ∷ xs) ys k = latest_append tr n xs ys (cond (stamps tr n x.event) x.seq k)

module _ {M : Type 0} {s : State M} {rs : List (Event M)} {s' : State M} {ns : List ℕ} (d : RecordsTold s rs s' ns) (tr : List (Record M)) (h : Synced tr s)
    (past : (z : ℕ) → Memᴰ z (settled_in (happenings tr)) → z ≤ s.last_sync) (c : ℕ) where
  abbrev grown : List (Record M)
  grown = tr ++ numbered (length tr) c rs

  -- its first record stamps the tasks that take it, and then come the others
  stamp_grown : (n : ℕ) → stamp grown n ≡ latest grown n (numbered (suc (length tr)) c d.rest) (cond (among n ns) (suc (length tr)) (stamp tr n))
  stamp_grown n =
      latest_append grown n tr (numbered (length tr) c rs) 0
      ∙ ap (latest grown n (numbered (length tr) c rs)) (latest_still tr grown n tr (λ z m. synced_still d tr (length tr) c n z (past z m)) 0)
      ∙ ap (λ qs. latest grown n (numbered (length tr) c qs) (stamp tr n)) d.are
      ∙ ap (λ b. latest grown n (numbered (suc (length tr)) c d.rest) (cond b (suc (length tr)) (stamp tr n))) (d.stamped grown (owners_still d tr (length tr) c h) n)

  unless_started : (n : ℕ) → NotStarted n d.rest → stamp grown n ≡ cond (among n ns) (suc (length tr)) (stamp tr n)
  unless_started n f = stamp_grown n ∙ latest_none grown n d.after f (suc (length tr)) c _

  stepped : (n : ℕ) → Memᴰ n ns → stamp grown n ≡ suc (length tr)
  stepped n m = unless_started n (not_yet_started n d.after (mem_all (λ k. k ≤ s.last_task) n ns d.known m)) ∙ cond-true _ _ _ (among_mem n ns m)

  others : (n : ℕ) → (Memᴰ n ns → ⊥) → NotStarted n rs → stamp grown n ≡ stamp tr n
  others n m f = unless_started n (λ b g y k. f b g y (subst (Memᴰ _) (sym d.are) (Memᴰ.tail k))) ∙ cond-false _ _ _ (false_unless _ (λ e. m (mem_among n ns e)))

  started : (n b f y i : ℕ) → slice_get rs i ≡ Some (line.Start n b f y) → stamp grown n ≡ suc (length tr + i)
  started n b f y i e = go i (subst (λ qs. slice_get qs i ≡ Some (line.Start n b f y)) d.are e)
    where
      go : (i : ℕ) → slice_get (d.first ∷ d.rest) i ≡ Some (line.Start n b f y) → stamp grown n ≡ suc (length tr + i)
      go zero g = absurd (let same : d.first ≡ line.Start n b f y = cc in let none : n ∷ [] ≡ [] = ap starts_of (sym same) ∙ d.no_start in grind arith)
      go (suc i) g = stamp_grown n ∙ latest_start grown n d.after i b f y g (suc (length tr)) c _ ∙ omega arith

pub stamp_law : (M : Type 0) → StampLaw M
stamp_law M limit w kinds tr s r rs s' a = record { stepped = stepped d tr h past s'.clock; started = started d tr h past s'.clock; others = others d tr h past s'.clock }
  where
    d : RecordsTold s rs s' (act_steppers a)
    d = told_act w s (sound_run w tr s r).tidy rs s' a

    h : Synced tr s
    h = synced_run w tr s r

    past : (z : ℕ) → Memᴰ z (settled_in (happenings tr)) → z ≤ s.last_sync
    past z m = ((past_run limit w kinds tr s r).gone z m).0
