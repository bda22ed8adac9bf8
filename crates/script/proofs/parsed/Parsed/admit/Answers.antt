use Rattle.std.proofs.Common.{List, subst}
use Rattle.std.proofs.lemmas.Result.{err_from_is_err_and}
use Rattle.grammar.specs.declared.part.Part.{Part}
use Rattle.grammar.specs.Parts.{parts_of}
use Rattle.rows.specs.Build.{Builds}
use Rattle.script.proofs.Composing.{kept_more, kept_all}
use Rattle.script.specs.declared.checked.Checked.{Checked}
use Rattle.script.specs.Refusals.{out_of_range, misnamed, over_limit, no_message}
use Rattle.script.proofs.Deciding.{form_kept, ranges_refused, names_refused, limits_refused, literals_refused, admitted}
use Rattle.script.proofs.parsed.Parsed.admit.Goals as goal

pub returns-in_err-check_ranges : goal.returns-in_err-check_ranges
returns-in_err-check_ranges g c = λ kept₄.
    let kept₅ = form_kept g.M.Literal.literal c.args.self.text.now _ kept₄ c.args.self.formed.uses in
    let p = err_from_is_err_and c.from_residual.result c.from_residual.ensures.1 in
    rw (p.1, p.2) (record { verdict = ranges_refused g.M.Literal.literal c.args.self.text.now _ kept₅ (c.in_err-check_ranges.ensures); means = tt })

pub returns-in_err-check_names : goal.returns-in_err-check_names
returns-in_err-check_names g c = λ kept₄.
    let ranged = c.in_ok-check_ranges.ensures in
    let kept₆ = kept_more g.M.Literal.literal c.args.self.text.now out_of_range (form_kept g.M.Literal.literal c.args.self.text.now _ kept₄ c.args.self.formed.uses) ranged in
    let p = err_from_is_err_and c.from_residual-in_err-check_names.result c.from_residual-in_err-check_names.ensures.1 in
    rw (p.1, p.2) (record { verdict = names_refused g.M.Literal.literal c.args.self.text.now _ kept₆ (c.in_err-check_names.ensures ranged); means = tt })

pub returns-in_err-check_limits : goal.returns-in_err-check_limits
returns-in_err-check_limits g c = λ kept₄.
    let ranged = c.in_ok-check_ranges.ensures in
    let kept₆ = kept_more g.M.Literal.literal c.args.self.text.now out_of_range (form_kept g.M.Literal.literal c.args.self.text.now _ kept₄ c.args.self.formed.uses) ranged in
    let kept₇ = kept_more g.M.Literal.literal c.args.self.text.now misnamed kept₆ (c.in_ok-check_names.ensures ranged) in
    let p = err_from_is_err_and c.from_residual-in_err-check_limits.result c.from_residual-in_err-check_limits.ensures.1 in
    rw (p.1, p.2) (record { verdict = limits_refused g.M.Literal.literal c.args.self.text.now _ kept₇ (c.in_err-check_limits.ensures); means = tt })

pub returns-in_err-check_literals : goal.returns-in_err-check_literals
returns-in_err-check_literals g c = λ kept₄.
    let ranged = c.in_ok-check_ranges.ensures in
    let kept₆ = kept_more g.M.Literal.literal c.args.self.text.now out_of_range (form_kept g.M.Literal.literal c.args.self.text.now _ kept₄ c.args.self.formed.uses) ranged in
    let kept₇ = kept_more g.M.Literal.literal c.args.self.text.now misnamed kept₆ (c.in_ok-check_names.ensures ranged) in
    let kept₈ = kept_more g.M.Literal.literal c.args.self.text.now over_limit kept₇ (c.in_ok-check_limits.ensures) in
    let p = err_from_is_err_and c.from_residual-in_err-check_literals.result c.from_residual-in_err-check_literals.ensures.1 in
    rw (p.1, p.2) (record { verdict = literals_refused (Checked g.row.M.Denot) g.M.Literal.literal c.args.self.text.now _ kept₈ (c.in_err-check_literals.ensures); means = tt })

pub returns : goal.returns
returns g c = λ kept₄.
    let ranged = c.in_ok-check_ranges.ensures in
    let kept₆ = kept_more g.M.Literal.literal c.args.self.text.now out_of_range (form_kept g.M.Literal.literal c.args.self.text.now _ kept₄ c.args.self.formed.uses) ranged in
    let kept₇ = kept_more g.M.Literal.literal c.args.self.text.now misnamed kept₆ (c.in_ok-check_names.ensures ranged) in
    let kept₈ = kept_more g.M.Literal.literal c.args.self.text.now over_limit kept₇ (c.in_ok-check_limits.ensures) in
    let kept₉ = kept_more g.M.Literal.literal c.args.self.text.now no_message kept₈ (c.in_ok-check_literals.ensures) in
    let P : List Part → Type 0 = λ ps. Builds g.M.Literal.literal (parts_of ps) c.in_ok-rows.rows in
    record {
      verdict = kept_all g.M.Literal.literal c.args.self.text.now kept₉;
      means = admitted g.M.Literal.literal c.args.self.text.now _ _ c.args.self.formed kept₉ c.in_ok-text.ensures.items (subst P c.deref.ensures.value c.in_ok-rows.ensures);
    }
