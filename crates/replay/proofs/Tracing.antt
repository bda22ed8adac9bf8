-- A call that is served changes nothing, or does one thing that the rules allow; so every trace of a replay is a run.
use Rattle.std.proofs.Common.{◌≡◌, ◌≤◌, ◌⊎◌, List, [], ◌∷◌, ◌++◌, length, sym, refl, subst, inl, inr, arith}
use mathlib.Core.Logic.Dec
use Rattle.std.specs.List.{AllByRecursion}
use Rattle.trace.specs.declared.record.Event.{Event}
use Rattle.rules.specs.States.{Setting}
use Rattle.rules.specs.Runs as rules
use Rattle.rules.specs.Runs.{Run, begins, goes_on, numbered}
use Rattle.replay.specs.declared.fault.RunFault.TheVariants.{NotMailbox, NoRoom, ClockBack}
use Rattle.replay.specs.declared.fault.CallFault.TheVariants as fault
use Rattle.replay.specs.Policies.{Policy}
use Rattle.replay.specs.Replays.{Call, post, clock, Answer, Replay, begin_replay, Accepts, Serves, refuses, posts, clocks, turns, looks, Replays}
use Rattle.replay.specs.Laws.{ReplayRuns}
use Rattle.replay.proofs.Refusing.{is_mailbox, is_alone}

abbrev pub Traced : {M P : Type 0} → Setting M → Replay M P → Type 0
Traced w ρ = Run w ρ.trace ρ.state

pub begins_traced : {M P : Type 0} (w : Setting M) (p : P) → Traced w (begin_replay w p)
begins_traced w p = begins refl refl

-- Nothing changed, or one thing was done that the rules allow, and its records were written.
abbrev pub GoesOn : {M P : Type 0} → Setting M → Replay M P → Replay M P → Type 0
GoesOn {M} w ρ ρ' = (ρ' ≡ ρ)
    ⊎ ((rs : List (Event M)) × rules.Act w ρ.state rs ρ'.state × (ρ'.trace ≡ ρ.trace ++ numbered (length ρ.trace) ρ'.state.clock rs))

module _ {M P : Type 0} (w : Setting M) (k : Policy P) where
  pub serves_goes_on : (ρ : Replay M P) (c : Call) (a : Answer) (ρ' : Replay M P) → Serves w k ρ c a ρ' → GoesOn w ρ ρ'
  serves_goes_on ρ c a ρ' (refuses f _ _ e) = inl e
  serves_goes_on ρ c a ρ' (posts cells page p bs h ok m _ _ e) =
      let accepts : Accepts w ρ (post cells page p bs) = subst (Accepts w ρ) h ok in
      subst (GoesOn w ρ) (sym e) (inr (_, rules.posts p m ((Dec.not-not (is_mailbox _)).0 (accepts (fault.Run NotMailbox))) ((Dec.not-not (is_alone _)).0 (accepts (fault.Run NoRoom))) refl refl, refl))
  serves_goes_on ρ c a ρ' (clocks page ms h ok fits _ e) =
      let accepts : Accepts w ρ (clock page ms) = subst (Accepts w ρ) h ok in
      let on : ρ.state.clock ≤ ms = omega (arith, accepts (fault.Run ClockBack)) in
      subst (GoesOn w ρ) (sym e) (inr (_, rules.clocks ms on fits refl refl, refl))
  serves_goes_on ρ c a ρ' (turns cells page _ _ v p' _ rs s' step _ e) = subst (GoesOn w ρ) (sym e) (inr (rs, rules.steps v step, refl))
  serves_goes_on ρ c a ρ' (looks _ _ e) = inl e

  pub serves_traced : (ρ : Replay M P) (c : Call) (a : Answer) (ρ' : Replay M P) → Traced w ρ → Serves w k ρ c a ρ' → Traced w ρ'
  serves_traced ρ c a ρ' r s = elim (serves_goes_on ρ c a ρ' s) [
    | inl e ↦ subst (Traced w) (sym e) r
    | inr (rs, x, e) ↦ goes_on rs r x e
  ]

-- What each call keeps holds after all of them, and what each answer is, all are.
module _ {M P : Type 0} (w : Setting M) (k : Policy P) (I : Replay M P → Type 0) (Q : Answer → Type 0)
    (each : (ρ : Replay M P) (c : Call) (a : Answer) (ρ' : Replay M P) → I ρ → Serves w k ρ c a ρ' → I ρ' × Q a) where
  pub replays_keep : (ρ : Replay M P) (calls : List Call) (answers : List Answer) (ρ' : Replay M P) → I ρ → Replays w k ρ calls answers ρ' → I ρ' × AllByRecursion Q answers
  replays_keep ρ [] [] ρ' i e = (subst I (sym e) i, tt)
  replays_keep ρ [] (a ∷ answers) ρ' i e = absurd e
  replays_keep ρ (c ∷ calls) [] ρ' i e = absurd e
  replays_keep ρ (c ∷ calls) (a ∷ answers) ρ' i (σ, s, h) =
      let now = each ρ c a σ i s in
      let later = replays_keep σ calls answers ρ' now.0 h in
      (later.0, (now.1, later.1))

pub replay_runs : (M P : Type 0) → ReplayRuns M P
replay_runs M P w k p calls answers ρ h =
    (replays_keep w k (Traced w) (λ _. Unit {0}) (λ ρ c a ρ' r s. (serves_traced w k ρ c a ρ' r s, tt)) (begin_replay w p) calls answers ρ (begins_traced w p) h).0
