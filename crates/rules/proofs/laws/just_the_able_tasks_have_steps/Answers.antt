use Rattle.rules.proofs.Ability.{listed_able}
use Rattle.rules.proofs.Quiet.{steps_of_able, moves_law}
use Rattle.rules.proofs.Room.{room_law}
use Rattle.rules.proofs.laws.just_the_able_tasks_have_steps.Goals as goal

pub returns : goal.returns
returns g c = record { able = steps_of_able _; moves = moves_law _; listed = listed_able _; room = room_law _ }
