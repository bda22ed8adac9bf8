use Rattle.replay.proofs.Tracing.{replay_runs}
use Rattle.replay.proofs.laws.every_trace_is_a_run.Goals as goal

pub returns : goal.returns
returns g c = replay_runs _ _
