-- A policy names one move; and where a task is able, a policy that stays inside names one that has a step.
use Rattle.std.proofs.Common.{◌≡◌, ℕ, ◌<◌, true, false, List, [], ◌∷◌, length, Some, None, Option, refl, arith}
use mathlib.Core.List.{Memᴰ}
use Rattle.std.specs.List.{slice_get}
use Rattle.std.proofs.lemmas.List.{length-map}
use Rattle.std.proofs.lemmas.Bool.{both_ways}
use Rattle.trace.specs.declared.record.Record.{Record}
use Rattle.rules.specs.States.{Setting, Wait, running, waiting, Task}
use Rattle.rules.specs.Able.{open_leaves, some_in, able_when, able_tasks}
use Rattle.rules.specs.Steps.{Move}
use Rattle.rules.specs.Laws.{LawfulKinds, HasStep}
use Rattle.rules.proofs.Members.{mem_kept}
use Rattle.rules.proofs.Sound.{sound_run}
use Rattle.rules.proofs.Outcomes.{Outcome, outcome, step_outcome, outcome_step}
use Rattle.rules.proofs.Ability.{listed_able}
use Rattle.rules.proofs.Quiet.{moves_law}
use Rattle.replay.specs.Policies.{Policy, Inside}
use Rattle.replay.specs.Stamps.{stamp, candidates}
use Rattle.replay.specs.Replays.{Replay, named_task, Names, names_running, names_waiting}
use Rattle.rules.proofs.Places.{inside_there, there_listed}
use Rattle.replay.proofs.Tracing.{Traced}

module _ {M P : Type 0} (w : Setting M) (k : Policy P) (ρ : Replay M P) where
  pub names_once : (v v' : Move) (p p' : P) → Names w k ρ v p → Names w k ρ v' p' → (v ≡ v') × (p ≡ p')
  names_once v v' p p' (names_running t a b c d) (names_running t' a' b' c' d') = let same : t ≡ t' = cc in (cc, cc)
  names_once v v' p p' (names_running t a b c d) (names_waiting t' a' y' ls' b' is' c' n' d' i' e' f' g') = absurd (let same : t ≡ t' = cc in grind arith)
  names_once v v' p p' (names_waiting t a y ls b is c n d i e f g) (names_running t' a' b' c' d') = absurd (let same : t ≡ t' = cc in grind arith)
  names_once v v' p p' (names_waiting t a y ls b is c n d i e f g) (names_waiting t' a' y' ls' b' is' c' n' d' i' e' f' g') = let same : t ≡ t' = cc in (cc, cc)

  -- a move that the policy names, the policy's next state, and a step
  pub record NamedStep : Type 0 where
    pub move : Move
    pub policy : P
    pub names : Names w k ρ move policy
    pub has : HasStep w ρ.state move

-- the places that a policy names

pub task_inside : {M P : Type 0} (k : Policy P) → Inside k → (p : P) (rs : List (Record M)) (ts : List (Task M)) → (ts ≡ [] → ⊥)
    → (k.name_task p (candidates rs ts)).place < length ts
task_inside k inside p rs [] some = absurd (some refl)
task_inside k inside p rs (t ∷ ts) some = simp length-map at (inside.task p (record { task = t.number; stamp = stamp rs t.number }) (candidates rs ts))

pub leaf_inside : {P : Type 0} (k : Policy P) → Inside k → (p : P) (is : List ℕ) → some_in is ≡ true → (k.name_leaf p is).place < length is
leaf_inside k inside p [] some = absurd (both_ways false refl some)
leaf_inside k inside p (i ∷ is) some = inside.leaf p i is

-- the step of the task that is named

module _ {M P : Type 0} (limit : ℕ) (w : Setting M) (kinds : LawfulKinds limit w) (k : Policy P) (inside : Inside k) (ρ : Replay M P) (traced : Traced w ρ) where
  -- the step of a move that has one, computed
  computed_step : (v : Move) → HasStep w ρ.state v → HasStep w ρ.state v
  computed_step v has = go (outcome w ρ.state v) refl
    where
      go : (o : Option (Outcome M)) → outcome w ρ.state v ≡ o → HasStep w ρ.state v
      go (Some o) e = record { records = o.records; next = o.next; steps = outcome_step w ρ.state v o e }
      go None e = absurd (let made = step_outcome w ρ.state (sound_run w ρ.trace ρ.state traced).tidy v has.records has.next has.steps in grind arith)

  step_of : (t : Task M) → slice_get (able_tasks w ρ.state) (named_task w k ρ).place ≡ Some t → NamedStep w k ρ
  unfolding inside_there computed_step
  step_of t here = go t.wait refl kept.1
    where
      listed : Memᴰ t (able_tasks w ρ.state)
      listed = there_listed (able_tasks w ρ.state) _ t here

      kept : Memᴰ t ρ.state.tasks × (able_when w ρ.state t t.wait ≡ true)
      kept = mem_kept (λ u. able_when w ρ.state u u.wait) t ρ.state.tasks listed

      go : (v : Wait M) → t.wait ≡ v → able_when w ρ.state t v ≡ true → NamedStep w k ρ
      go running e able = record {
        move = _;
        policy = _;
        names = names_running t here e refl refl;
        has = computed_step _ (((moves_law M limit w kinds ρ.trace ρ.state traced t kept.0).0 e).0.1 ((listed_able M w ρ.state t).0 listed));
      }
      go (waiting y ls) e able =
          let is = open_leaves w ρ.state t y 0 ls in
          let n = k.name_leaf (named_task w k ρ).next is in
          let i = inside_there is n.place (leaf_inside k inside _ is able) in
          record {
            move = _;
            policy = _;
            names = names_waiting t here y ls e is refl n refl i.0 i.1 refl refl;
            has = computed_step _ ((((moves_law M limit w kinds ρ.trace ρ.state traced t kept.0).1 y ls e).0 i.0).1 (there_listed is _ i.0 i.1));
          }

  unfoldable pub named_step : (able_tasks w ρ.state ≡ [] → ⊥) → NamedStep w k ρ
  unfolding inside_there step_of
  named_step some = let t = inside_there (able_tasks w ρ.state) _ (task_inside k inside ρ.policy ρ.trace (able_tasks w ρ.state) some) in step_of t.0 t.1
