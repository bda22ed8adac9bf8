use Rattle.kinds.proofs.Commits.{committed_bare}
use Rattle.kinds.proofs.bare.BareKind.commit.Goals as goal

pub returns : goal.returns
returns g c = let rule = g.met.R.BareRule in committed_bare rule.lawful rule.bare _ _ _ _ _
