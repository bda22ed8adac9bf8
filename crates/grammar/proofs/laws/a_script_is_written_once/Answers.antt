use Rattle.grammar.proofs.Once.{written_once}
use Rattle.grammar.proofs.laws.a_script_is_written_once.Goals as goal

pub returns : goal.returns
returns g c = λ s inj. written_once s inj
