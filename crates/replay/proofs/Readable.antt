-- Every record of a replay is read back from its line.
use Rattle.std.proofs.Common.{◌≡◌, ℕ, suc, ◌+◌, ◌<◌, ◌≤◌, ◌⊎◌, List, [], ◌∷◌, ◌++◌, length, sym, ap, subst, inl, inr, arith}
use Rattle.std.specs.List.{AllByRecursion}
use Rattle.std.proofs.ByRecursion.{All-append}
use Rattle.std.proofs.lemmas.List.{length-append}
use Rattle.rows.specs.Scripts.{Within}
use Rattle.trace.specs.declared.record.Event.{Event}
use Rattle.trace.specs.declared.record.Record.{Record}
use Rattle.trace.specs.Lines.{Proper, largest}
use Rattle.rules.specs.Limits.{Limited}
use Rattle.rules.specs.States.{Setting}
use Rattle.rules.specs.Runs.{numbered, goes_on}
use Rattle.rules.proofs.Numbers.{length_numbered, numbers_law}
use Rattle.rules.proofs.Pending.{most_records, records_few}
use Rattle.rules.proofs.Small.{Small, records_small}
use Rattle.replay.specs.declared.fault.RunFault.TheVariants.{LongTrace}
use Rattle.replay.specs.declared.fault.CallFault.TheVariants as fault
use Rattle.replay.specs.Policies.{Policy}
use Rattle.replay.specs.Replays.{Call, post, clock, turn, Answer, wrote, Replay, begin_replay, last_start, Accepts, lines_of, Serves, refuses, posts, clocks, turns, looks}
use Rattle.replay.specs.Laws.{ReadableLaw, FitsPage}
use Rattle.replay.proofs.Tracing.{Traced, begins_traced, GoesOn, serves_goes_on, serves_traced, replays_keep}

-- records numbered after `n` are proper, where their numbers are small
proper_numbered : {M : Type 0} (n k : ℕ) (rs : List (Event M)) → n + length rs ≤ largest → k < 4294967296 → AllByRecursion (Small largest) rs → AllByRecursion Proper (numbered n k rs)
proper_numbered n k [] le lt h = tt
proper_numbered n k (r ∷ rs) le lt h = (record { counted = omega arith; seq = omega arith; ms = lt; numbered = h.0 }, proper_numbered (suc n) k rs (omega arith) lt h.1)

-- A call that writes was accepted, and answers how long the lines of the new records are.
pub record Writes {M P : Type 0} (w : Setting M) (ρ : Replay M P) (a : Answer) (ρ' : Replay M P) : Type 0 where
  pub new : List (Record M)
  pub trace : ρ'.trace ≡ ρ.trace ++ new
  pub answer : a ≡ wrote (length (lines_of w new))
  pub room : length ρ.trace ≤ last_start

-- few records are added, and they are proper
pub record Adds {M P : Type 0} (ρ ρ' : Replay M P) : Type 0 where
  pub few : length ρ'.trace ≤ length ρ.trace + most_records
  pub proper : AllByRecursion Proper ρ.trace → AllByRecursion Proper ρ'.trace

adds_none : {M P : Type 0} (ρ ρ' : Replay M P) → ρ' ≡ ρ → Adds ρ ρ'
adds_none ρ ρ' e = rw e (record { few = omega arith; proper = λ h. h })

-- what is kept from call to call
abbrev pub Sound : {M P : Type 0} → Setting M → Replay M P → Type 0
Sound w ρ = Traced w ρ × AllByRecursion Proper ρ.trace

pub begins_sound : {M P : Type 0} (w : Setting M) (p : P) → Sound w (begin_replay w p)
begins_sound w p = (begins_traced w p, (record { counted = omega arith; seq = omega arith; ms = omega arith; numbered = omega arith }, tt))

module _ {M P : Type 0} (w : Setting M) (k : Policy P) (ρ : Replay M P) (c : Call) (a : Answer) (ρ' : Replay M P) where
  abbrev pub SameOrWrites : Type 0
  SameOrWrites = ((ρ' ≡ ρ) × FitsPage a) ⊎ Writes w ρ a ρ'

  pub serves_writes : Serves w k ρ c a ρ' → SameOrWrites
  serves_writes (refuses f _ e h) = inl (h, subst FitsPage (sym e) tt)
  serves_writes (posts cells page p bs d ok _ _ e h) =
      let accepts : Accepts w ρ (post cells page p bs) = subst (Accepts w ρ) d ok in
      inr (record { new = _; trace = ap (λ (x : Replay M P). x.trace) h; answer = e; room = omega (arith, accepts (fault.Run LongTrace)) })
  serves_writes (clocks page ms d ok _ e h) =
      let accepts : Accepts w ρ (clock page ms) = subst (Accepts w ρ) d ok in
      inr (record { new = _; trace = ap (λ (x : Replay M P). x.trace) h; answer = e; room = omega (arith, accepts (fault.Run LongTrace)) })
  serves_writes (turns cells page d ok _ _ _ _ _ _ e h) =
      let accepts : Accepts w ρ (turn cells page) = subst (Accepts w ρ) d ok in
      inr (record { new = _; trace = ap (λ (x : Replay M P). x.trace) h; answer = e; room = omega (arith, accepts (fault.Run LongTrace)) })
  serves_writes (looks _ e h) = inl (h, subst FitsPage (sym e) tt)

  module _ (within : Within w.script) (lim : Limited w.script) where
    pub serves_adds : Traced w ρ → Serves w k ρ c a ρ' → Adds ρ ρ'
    serves_adds r s = go (serves_goes_on w k ρ c a ρ' s) (serves_writes s)
      where
        go : GoesOn w ρ ρ' → SameOrWrites → Adds ρ ρ'
        go (inl e) x = adds_none ρ ρ' e
        go (inr y) (inl x) = adds_none ρ ρ' x.0
        go (inr (rs, x, e)) (inr y) =
            let n = length ρ.trace in
            let few = records_few w lim ρ.trace ρ.state r rs ρ'.state x in
            let small = records_small w within lim ρ.trace ρ.state r largest (omega arith) rs ρ'.state x (omega (arith, y.room)) in
            let ms = (numbers_law M w ρ'.trace ρ'.state (goes_on rs r x e)).clock in
            record {
              few = omega (arith, ap length e, length-append ρ.trace (numbered n ρ'.state.clock rs), length_numbered n ρ'.state.clock rs);
              proper = λ h. rw e (All-append Proper ρ.trace _ h (proper_numbered n ρ'.state.clock rs (omega (arith, y.room)) ms small));
            }

    pub serves_sound : Sound w ρ → Serves w k ρ c a ρ' → Sound w ρ'
    serves_sound h s = (serves_traced w k ρ c a ρ' h.0 s, (serves_adds h.0 s).proper h.1)

pub readable_law : (M P : Type 0) → ReadableLaw M P
readable_law M P w within lim k p calls answers ρ h =
    (replays_keep w k (Sound w) (λ _. Unit {0}) (λ ρ c a ρ' i s. (serves_sound w k ρ c a ρ' within lim i s, tt)) (begin_replay w p) calls answers ρ (begins_sound w p) h).0.1
