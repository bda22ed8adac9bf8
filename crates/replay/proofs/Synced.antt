-- In every run each task that waits began its sync, and no other task did.
use Rattle.std.proofs.Common.{◌≡◌, ℕ, suc, ◌≤◌, Bool, true, false, ◌||◌, eqb, ◌⊎◌, List, [], ◌∷◌, ◌++◌, length, sym, refl, ap, ◌∙◌, inl, inr, arith}
use mathlib.Core.List.Memᴰ
use mathlib.Core.Bool.{or-false, or_assoc}
use Rattle.std.proofs.lemmas.Bool.{both_ways, or_cases, eq-eqb}
use Rattle.trace.specs.declared.record.Event.{Event}
use Rattle.trace.specs.declared.record.Record.{Record}
use Rattle.rules.specs.States.{Setting, Task, State}
use Rattle.rules.specs.Runs.{begun, numbered, Run, begins, goes_on}
use Rattle.rules.proofs.Tasks.{not_both}
use Rattle.rules.proofs.Sound.{sound_run}
use Rattle.replay.specs.Stamps.{begins_sync, synced_by}
use Rattle.replay.proofs.FirstRecords.{StartsAfter, none, fire, start, WaitsIn, BeginsNew, Owners, RecordsTold, told_act}

pub false_unless : (b : Bool) → (b ≡ true → ⊥) → b ≡ false
false_unless true f = absurd (f refl)
false_unless false f = refl

-- the syncs of a trace that goes on

synced_append : {M : Type 0} (xs ys : List (Record M)) (n y : ℕ) → synced_by (xs ++ ys) n y ≡ (synced_by xs n y || synced_by ys n y)
synced_append [] ys n y = refl
synced_append (x ∷ xs) ys n y = ap (λ b. begins_sync n y x.event || b) (synced_append xs ys n y) ∙ sym (or_assoc (begins_sync n y x.event) (synced_by xs n y) (synced_by ys n y))

after_synced : {M : Type 0} {m : ℕ} {rs : List (Event M)} → StartsAfter m rs → (k c n y : ℕ) → synced_by (numbered k c rs) n y ≡ false
after_synced none k c n y = refl
after_synced (fire f) k c n y = after_synced f (suc k) c n y
after_synced (start lt f) k c n y = after_synced f (suc k) c n y

-- every sync was begun up to the last number, and those that wait by their tasks alone
pub record Synced {M : Type 0} (tr : List (Record M)) (s : State M) : Type 0 where
  pub low : (n y : ℕ) → synced_by tr n y ≡ true → y ≤ s.last_sync
  pub own : Owners tr s

module _ {M : Type 0} {s : State M} {rs : List (Event M)} {s' : State M} {ns : List ℕ} (d : RecordsTold s rs s' ns) (tr : List (Record M)) (k c : ℕ) where
  synced_more : (n y : ℕ) → synced_by (tr ++ numbered k c rs) n y ≡ (synced_by tr n y || begins_sync n y d.first)
  synced_more n y = rw d.are (synced_append tr (numbered k c (d.first ∷ d.rest)) n y
      ∙ ap (λ b. synced_by tr n y || (begins_sync n y d.first || b)) (after_synced d.after (suc k) c n y)
      ∙ ap (λ b. synced_by tr n y || b) (or-false (begins_sync n y d.first)))

  pub synced_still : (n y : ℕ) → y ≤ s.last_sync → synced_by (tr ++ numbered k c rs) n y ≡ synced_by tr n y
  synced_still n y le =
      let none : begins_sync n y d.first ≡ false = false_unless _ (λ e. omega (arith, d.syncs.new n y e)) in
      synced_more n y ∙ ap (λ b. synced_by tr n y || b) none ∙ or-false (synced_by tr n y)

  module _ (h : Synced tr s) where
    pub owners_still : Owners (tr ++ numbered k c rs) s
    owners_still n y a m = synced_still m y (h.low n y (h.own n y a n ∙ eq-eqb n n refl)) ∙ h.own n y a m

    low_act : (n y : ℕ) → synced_by (tr ++ numbered k c rs) n y ≡ true → y ≤ s'.last_sync
    low_act n y e = elim (or_cases (synced_by tr n y) (begins_sync n y d.first) (sym (synced_more n y) ∙ e)) [
      | inl f ↦ omega (arith, h.low n y f, d.syncs.grows)
      | inr f ↦ (d.syncs.new n y f).1
    ]

    own_act : (n y : ℕ) → WaitsIn s.tasks n y ⊎ BeginsNew s d.first n y → (m : ℕ) → synced_by (tr ++ numbered k c rs) m y ≡ eqb n m
    own_act n y (inl a) m = owners_still n y a m
    own_act n y (inr b) m =
        let none : synced_by tr m y ≡ false = false_unless _ (λ e. omega (arith, h.low m y e, b.new)) in
        synced_more m y ∙ ap (λ x. x || begins_sync m y d.first) none ∙ b.for m

    synced_act : Synced (tr ++ numbered k c rs) s'
    synced_act = record { low = low_act; own = λ n y a. own_act n y (d.syncs.waits n y a) }

none_waits : {M : Type 0} (w : Setting M) (n y : ℕ) → WaitsIn (begun w).tasks n y → ⊥
none_waits {M} w n y (t, m, same, ls, e) = not_both t.wait y ls (ap (λ (u : Task M). u.wait) (Memᴰ.eq_of_singleton m)) e

pub synced_run : {M : Type 0} (w : Setting M) (tr : List (Record M)) (s : State M) → Run w tr s → Synced tr s
synced_run w tr s (begins e f) = rw (e, f) (record { low = λ n y b. absurd (both_ways false refl b); own = λ n y a. absurd (none_waits w n y a) })
synced_run w tr s (goes_on {tr = tr₀} {s = s₀} rs r a e) = rw e (synced_act (told_act w s₀ (sound_run w tr₀ s₀ r).tidy rs s a) tr₀ (length tr₀) s.clock (synced_run w tr₀ s₀ r))
