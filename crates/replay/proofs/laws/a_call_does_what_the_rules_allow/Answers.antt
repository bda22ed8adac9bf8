use Rattle.replay.proofs.Serving.{serve_law}
use Rattle.replay.proofs.laws.a_call_does_what_the_rules_allow.Goals as goal

pub returns : goal.returns
returns g c = serve_law _ _
