use Rattle.rows.proofs.Held.{empty_holds}
use Rattle.rows.proofs.row.Rows.empty.Goals as goal

pub returns : goal.returns
returns g c = empty_holds c.blank-rows.result c.blank-rows.ensures
