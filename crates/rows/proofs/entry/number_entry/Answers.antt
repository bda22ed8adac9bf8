use Rattle.std.proofs.Common.{sym, ◌∙◌}
use Rattle.rows.proofs.Numbers.{no_addend}
use Rattle.rows.proofs.entry.number_entry.Goals as goal

pub returns-in_err-ok-in-Addend : goal.returns-in_err-ok-in-Addend
returns-in_err-ok-in-Addend g c = no_addend _ _ _ _ c.in-Addend.is c.from_residual-in_err-ok-in-Addend.ensures (sym c.ok.ensures.value ∙ c.in_err-ok-in-Addend.was) c.read.ensures
