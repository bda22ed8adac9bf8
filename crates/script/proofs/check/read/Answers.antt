use Rattle.std.proofs.Common.{List, ℕ, sym, subst}
use Rattle.std.proofs.lemmas.Result.{err_from_is_err_and}
use Rattle.script.specs.declared.checked.Checked.{Checked}
use Rattle.script.specs.Checks.{Answers}
use Rattle.script.specs.Stages.{KeptBelow}
use Rattle.script.proofs.Deciding.{text_refused, text_kept, form_refused}
use Rattle.script.proofs.check.read.Goals as goal

pub returns-in_err-check_text : goal.returns-in_err-check_text
returns-in_err-check_text g c =
    let p = err_from_is_err_and c.from_residual.result c.from_residual.ensures.1 in
    rw (p.1, p.2) (record { verdict = text_refused g.M.Literal.literal c.args.text.now _ c.in_err-check_text.ensures; means = tt })

pub returns-in_err-new : goal.returns-in_err-new
returns-in_err-new g c =
    let kept₄ = text_kept g.M.Literal.literal c.args.text.now c.in_ok-check_text.ensures in
    let p = err_from_is_err_and c.from_residual-in_err-new.result c.from_residual-in_err-new.ensures.1 in
    rw (p.1, p.2) (record { verdict = form_refused (Checked g.row.M.Denot) g.M.Literal.literal c.args.text.now _ kept₄ c.in_err-new.ensures.fault; means = tt })

pub returns : goal.returns
returns g c =
    let same = c.in_ok-new.ensures.text in
    let kept₄ = text_kept g.M.Literal.literal c.args.text.now c.in_ok-check_text.ensures in
    let Q : List ℕ → Type 0 = λ t. Answers g.M.Literal.literal t c.admit.result in
    let R : List ℕ → Type 0 = λ t. KeptBelow g.M.Literal.literal t 4 in
    subst Q same (c.admit.ensures (subst R (sym same) kept₄))
