use Rattle.script.proofs.Single.{one_script}
use Rattle.script.proofs.laws.a_text_is_one_script.Goals as goal

pub returns : goal.returns
returns g c = one_script g.M.Literal.literal g.met.M.Literal.one g.met.M.Literal.plain
