use Rattle.replay.proofs.Once.{replay_determined}
use Rattle.replay.proofs.Answering.{replay_answers}
use Rattle.replay.proofs.laws.calls_have_one_replay.Goals as goal

pub returns : goal.returns
returns g c = record { determined = replay_determined _ _; answers = replay_answers _ _ }
