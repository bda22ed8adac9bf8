use Rattle.rules.proofs.Numbers.{numbers_law}
use Rattle.rules.proofs.laws.numbers_rise.Goals as goal

pub returns : goal.returns
returns g c = numbers_law _
