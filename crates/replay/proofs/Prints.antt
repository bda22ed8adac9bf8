-- The replays of the worked cases, computed.
use Rattle.std.proofs.Common.{cond, ◌-◌, ◌≡◌, ℕ, zero, suc, ◌<◌, Bool, true, false, List, [], ◌∷◌, ◌++◌, length, replicate, pos, Ok, Err, codes, refl, ap, ◌∙◌, subst, arith, lit<, lit≤}
use Rattle.std.specs.List.{AllByRecursion}
use Rattle.std.specs.Fmt.{digits}
use Rattle.message.specs.declared.weight.Weight.{Weight}
use Rattle.message.specs.Weights.{weight, weight_literal}
use Rattle.message.specs.Weighing.{weight_one}
use Rattle.rows.specs.Scripts.{Script, ScriptOf}
use Rattle.rules.specs.Limits.{most_held}
use Rattle.rules.proofs.DeliveredKinds.{delivered_lawful}
use Rattle.replay.specs.Policies.{Policy, Inside, longest_idle}
use Rattle.replay.specs.Replays.{Call, Answer, wrote, Replay, begin_replay, Replays, trace_bytes}
use Rattle.replay.specs.Worked as worked
use Rattle.replay.specs.Worked.{with_weights, printed, a_turn, Prints, Shows, by_turns, all_by_turns}
use Rattle.replay.proofs.Refusing.{ReadOrRefused, Known}
use Rattle.replay.proofs.Tracing.{begins_traced, replay_runs}
use Rattle.replay.proofs.Once.{replay_determined}
use Rattle.replay.proofs.Answering.{replayed}
use Rattle.replay.proofs.Idlest.{longest_idle_law}
use Rattle.replay.proofs.Texts as texts
use Rattle.replay.proofs.Readings.{letter_reads}

module _ {P : Type 0} (k : Policy P) (inside : Inside k) (p : P) (s : Script Weight) where
  -- the replay of calls with weights
  computed : (calls : List Call) → AllByRecursion (Known (with_weights s)) calls
      → (answers : List Answer) × (ρ : Replay Weight P) × Replays (with_weights s) k (begin_replay (with_weights s) p) calls answers ρ
  unfolding replayed
  computed calls known = let w = with_weights s in replayed most_held w (delivered_lawful most_held (lit≤ tt)) k inside (begin_replay w p) (begins_traced w p) calls known

shows : {P : Type 0} {k : Policy P} {p : P} {text : List ℕ} {s : Script Weight} {calls : List Call} {answers : List Answer} {lines : List (List ℕ)}
    → ScriptOf weight_literal text s → (inside : Inside k) (known : AllByRecursion (Known (with_weights s)) calls)
    → (computed k inside p s calls known).0 ≡ answers
    → trace_bytes (with_weights s) (computed k inside p s calls known).1.trace ≡ printed lines
    → Shows k p text s calls answers lines
shows {k = k} {p = p} {s = s} {calls = calls} is inside known e f =
    let there = computed k inside p s calls known in
    record { text_is = is; end = there.1; replays = subst (λ as₁. Replays (with_weights s) k (begin_replay (with_weights s) p) calls as₁ there.1) e there.2; lines_are = f }

-- Under longest idle

idle_inside : Inside (longest_idle {P = Unit {0}})
idle_inside = (longest_idle_law (Unit {0})).inside

turns_known : (s : Script Weight) (n : ℕ) → AllByRecursion (Known (with_weights s)) (replicate n a_turn)
turns_known s zero = tt
turns_known s (suc n) = (tt, turns_known s n)

abbrev thousand_turns : List Call
thousand_turns = replicate 1000 a_turn

turned : (s : Script Weight) → (answers : List Answer) × (ρ : Replay Weight (Unit {0})) × Replays (with_weights s) longest_idle (begin_replay (with_weights s) tt) thousand_turns answers ρ
unfolding computed
turned s = computed longest_idle idle_inside tt s thousand_turns (turns_known s 1000)

prints : {text : List ℕ} {s : Script Weight} {lines : List (List ℕ)} → ScriptOf weight_literal text s
    → trace_bytes (with_weights s) (turned s).1.trace ≡ printed lines → Prints text s lines
prints {s = s} is e =
    let w = with_weights s in
    let there = turned s in
    record {
      text_is = is;
      answers = there.0;
      end = there.1;
      replays = there.2;
      lines_are = e;
      only = λ answers ρ other.
          let same = (replay_determined Weight (Unit {0}) w weight_one longest_idle tt thousand_turns answers there.0 ρ there.1 other there.2).1 in
          ap (λ (x : Replay Weight (Unit {0})). trace_bytes w x.trace) same ∙ e;
      a_run = replay_runs Weight (Unit {0}) w longest_idle tt thousand_turns there.0 there.1 there.2;
    }

pub first_prints : Prints worked.first_text worked.first_script worked.first_lines
unfolding turned digits
first_prints = prints texts.first_text_is refl

pub wrap_prints : Prints worked.wrap_text worked.wrap_script worked.wrap_lines
unfolding turned digits
wrap_prints = prints texts.wrap_text_is refl

pub branch_prints : Prints worked.branch_text worked.branch_script worked.branch_lines
unfolding turned digits
branch_prints = prints texts.branch_text_is refl

pub instr_prints : Prints worked.instr_text worked.instr_script worked.instr_lines
unfolding turned digits
instr_prints = prints texts.instr_text_is refl

pub pair_prints : Prints worked.pair_text worked.pair_script worked.pair_lines
unfolding turned digits
pair_prints = prints texts.pair_text_is refl

pub lone_shows : Shows {P = Unit {0}} longest_idle tt worked.lone_text worked.lone_script worked.lone_calls worked.lone_answers worked.lone_lines
unfolding computed digits
lone_shows = shows texts.lone_text_is idle_inside (omega arith) refl refl

pub post_shows : Shows {P = Unit {0}} longest_idle tt worked.post_text worked.post_script worked.post_calls worked.post_answers worked.post_lines
unfolding computed digits
post_shows = shows texts.post_text_is idle_inside known refl refl
  where
    letter : ReadOrRefused (with_weights worked.post_script) (codes "x")
    letter = (Err (record { at = 0 }), letter_reads)

    known : AllByRecursion (Known (with_weights worked.post_script)) worked.post_calls
    known = (letter, (letter, (letter, (letter, ((Ok (weight (pos 7) (lit< tt)), refl), ((Ok (weight (pos 8) (lit< tt)), refl), omega arith))))))

pub clock_shows : Shows {P = Unit {0}} longest_idle tt worked.clock_text worked.clock_script worked.clock_calls worked.clock_answers worked.clock_lines
unfolding computed digits
clock_shows = shows texts.clock_text_is idle_inside (omega arith) refl refl

pub variable_shows : Shows {P = Unit {0}} longest_idle tt worked.variable_text worked.variable_script worked.variable_calls worked.variable_answers worked.variable_lines
unfolding computed digits
variable_shows = shows texts.variable_text_is idle_inside (omega arith) refl refl

-- By turns

an_end : {X : Type 0} (p : Bool) (x : X) (xs : List X) → cond p (length (x ∷ xs) - 1) 0 < length (x ∷ xs)
an_end true x xs = omega arith
an_end false x xs = omega arith

turns_inside : Inside by_turns
turns_inside = record { task = λ p c cs. omega arith; leaf = λ p i is. an_end p i is }

all_turns_inside : Inside all_by_turns
all_turns_inside = record { task = λ p c cs. an_end p c cs; leaf = λ p i is. an_end p i is }

pub turns_shows : Shows by_turns false worked.turns_text worked.turns_script (replicate 5 a_turn) (replicate 4 (wrote 19) ++ (wrote 16 ∷ [])) worked.turns_lines
unfolding computed digits
turns_shows = shows texts.turns_text_is turns_inside (omega arith) refl refl

pub all_turns_shows : Shows all_by_turns false worked.turns_text worked.turns_script (replicate 5 a_turn) (replicate 4 (wrote 19) ++ (wrote 16 ∷ [])) worked.turns_lines
unfolding computed digits
all_turns_shows = shows texts.turns_text_is all_turns_inside (omega arith) refl refl
