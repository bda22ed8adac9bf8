-- Every list of calls has a replay, where the kinds and the policy keep their laws and every literal can be read or refused; and it can be computed.
use Rattle.std.proofs.Common.{ℕ, List, [], ◌∷◌, Ok, Err, refl, inl, inr}
use Rattle.std.specs.List.{AllByRecursion}
use Rattle.std.proofs.ByRecursion.{All-weaker}
use Rattle.script.specs.declared.fault.MessageFault.TheVariants.{InPost}
use Rattle.rules.specs.States.{Setting}
use Rattle.rules.specs.Laws.{LawfulKinds}
use Rattle.replay.specs.declared.fault.RunFault.TheVariants.{Quiet}
use Rattle.replay.specs.declared.fault.CallFault.TheVariants.{Message, Run}
use Rattle.replay.specs.Policies.{Policy, Inside}
use Rattle.replay.specs.Replays.{Call, post, clock, turn, look, Answer, Replay, begin_replay, Serves, refuses, posts, clocks, turns, looks, Replays}
use Rattle.replay.specs.Laws.{Fits, ReplayAnswers}
use Rattle.replay.proofs.Refusing.{ReadOrRefused, Known, Verdict, verdict}
use Rattle.replay.proofs.Tracing.{Traced, serves_traced, begins_traced}
use Rattle.replay.proofs.Naming.{named_step}

module _ {M P : Type 0} (limit : ℕ) (w : Setting M) (kinds : LawfulKinds limit w) (k : Policy P) (inside : Inside k) where
  abbrev Served : Replay M P → Call → Type 0
  Served ρ c = (a : Answer) × (ρ' : Replay M P) × Serves w k ρ c a ρ'

  served : (ρ : Replay M P) → Traced w ρ → (c : Call) → Known w c → Verdict w ρ c → Served ρ c
  unfolding named_step
  served ρ traced c known (inl (f, why)) = (_, _, refuses f why refl refl)
  served ρ traced (post cells page p bs) known (inr ok) = go known
    where
      go : ReadOrRefused w bs → Served ρ (post cells page p bs)
      go (Ok m, e) = (_, _, posts cells page p bs refl ok m e refl refl)
      go (Err f, d) = absurd (ok (Message (InPost f)) d)
  served ρ traced (clock page ms) known (inr ok) = (_, _, clocks page ms refl ok known refl refl)
  served ρ traced (turn cells page) known (inr ok) =
      let n = named_step limit w kinds k inside ρ traced (ok (Run Quiet)) in
      (_, _, turns cells page refl ok n.move n.policy n.names n.has.records n.has.next n.has.steps refl refl)
  served ρ traced look known (inr ok) = (_, _, looks refl refl refl)

  unfoldable pub replayed : (ρ : Replay M P) → Traced w ρ → (calls : List Call) → AllByRecursion (Known w) calls → (answers : List Answer) × (ρ' : Replay M P) × Replays w k ρ calls answers ρ'
  unfolding verdict served
  replayed ρ traced [] known = ([], ρ, refl)
  replayed ρ traced (c ∷ calls) known =
      let now = served ρ traced c known.0 (verdict w ρ c known.0) in
      let later = replayed now.1 (serves_traced w k ρ c now.0 now.1 traced now.2) calls known.1 in
      (now.0 ∷ later.0, later.1, (now.1, now.2, later.2))

known_by : {M : Type 0} (w : Setting M) → ((bs : List ℕ) → ReadOrRefused w bs) → (c : Call) → Fits c → Known w c
known_by w reads (post cells page p bs) fits = reads bs
known_by w reads (clock page ms) fits = fits
known_by w reads (turn cells page) fits = tt
known_by w reads look fits = tt

pub replay_answers : (M P : Type 0) → ReplayAnswers M P
replay_answers M P limit w kinds reads k inside p calls fits =
    replayed limit w kinds k inside (begin_replay w p) (begins_traced w p) calls (All-weaker Fits (Known w) (known_by w reads) calls fits)
