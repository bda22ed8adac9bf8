use Rattle.rules.proofs.Branching.{branch_law}
use Rattle.rules.proofs.laws.a_branch_is_the_leaves_in_its_with_nack.Goals as goal

pub returns : goal.returns
returns g c = branch_law _
