use Rattle.std.proofs.Common.{ap}
use Rattle.rows.specs.Rows.{empty_script}
use Rattle.script.specs.Checks.{or_new}
use Rattle.script.proofs.Deciding.{empty_of}
use Rattle.script.proofs.checked.Checked.new.Goals as goal

pub returns : goal.returns
returns g c = record { copy = ap or_new c.new.ensures.items; script = empty_script; of_text = empty_of g.M.Literal.literal; held = c.empty.ensures }
