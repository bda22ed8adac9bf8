-- A task that runs has a step exactly where what it would start finds room.
use Rattle.std.proofs.Common.{◌≡◌, ◌+◌, ◌≤◌, ◌↔◌, length, None, Some, Option, ap, ◌∙◌, arith}
use Rattle.std.proofs.lemmas.List.{length-map}
use Rattle.grammar.specs.Grammar as g
use Rattle.rows.specs.Scripts.{Event, Instr}
use Rattle.rules.specs.Able.{instr_at, sign_at, would_start, most_tasks, Able, by_place, by_leaf}
use Rattle.rules.specs.Evaluation.{nacks}
use Rattle.rules.specs.Steps.{runs}
use Rattle.rules.specs.Branches.{branches}
use Rattle.rules.specs.Laws.{HasStep, RoomLaw}
use Rattle.rules.proofs.Tasks.{not_both}
use Rattle.rules.proofs.Branching.{branch_law}
use Rattle.rules.proofs.Live.{live_law}
use Rattle.rules.proofs.Quiet.{moves_law}

pub room_law : (M : Type 0) → RoomLaw M
room_law M limit w c tr s r t m e = record {
  ends = λ h. (tells None h).1 (omega (arith, few));
  emits = λ h. (tells (Some g.emit) h).1 (omega (arith, few));
  returns = λ h. (tells (Some g.again) h).1 (omega (arith, few));
  spawns = λ b h. let k = tells (Some (g.spawn b)) h in ((λ a. omega (arith, k.0 a)), (λ a. k.1 (omega (arith, a))));
  syncs = λ x h. let k = tells (Some (g.sync x)) h in let n = as_many x in ((λ a. omega (arith, n, k.0 a)), (λ a. k.1 (omega (arith, n, a))));
}
  where
    as_many : (x : Event M) → length (nacks (sign_at w t) x) ≡ length (branches (sign_at w t) 0 x)
    as_many x = let bs = branches (sign_at w t) 0 x in ap length ((branch_law M).bodies (sign_at w t) x) ∙ length-map bs (λ b. b.body)

    few : length s.tasks ≤ most_tasks
    few = live_law M w tr s r

    room : Able w s t → length s.tasks + would_start (sign_at w t) (instr_at w t) ≤ most_tasks
    room (by_place k) = k.room
    room (by_leaf y i l o) = absurd (not_both t.wait y o.stands.all e o.stands.waits)

    tells : (x : Option (Instr M)) → instr_at w t ≡ x → HasStep w s (runs t.number) ↔ (length s.tasks + would_start (sign_at w t) x ≤ most_tasks)
    tells x h = let k = ((moves_law M limit w c tr s r t m).0 e).0 in
        ((λ a. rw h at room (k.0 a)), (λ a. k.1 (by_place (record { live = m; runs = e; room = rw h a }))))
