use Rattle.std.proofs.lemmas.Result.{err_from_is_err_and}
use Rattle.std.proofs.Common.{sym, subst}
use Rattle.script.specs.Stages.{Unformed}
use Rattle.script.proofs.Composing.{unformed}
use Rattle.script.proofs.parsed.Parsed.new.Goals as goal

pub returns-in_err-parts-clause-fault : goal.returns-in_err-parts-clause-fault
returns-in_err-parts-clause-fault c =
    let p = err_from_is_err_and c.from_residual.result c.from_residual.ensures.1 in
    rw p.1 (subst (Unformed c.args.text.now) (sym p.2) (unformed c.args.text.now _ c.in_err-parts.ensures))
