use Rattle.grammar.proofs.Determined.{uses_determined}
use Rattle.grammar.proofs.laws.uses_are_determined.Goals as goal

pub returns : goal.returns
returns c = uses_determined
