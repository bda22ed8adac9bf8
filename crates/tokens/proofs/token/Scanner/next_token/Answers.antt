use Rattle.std.proofs.Common.{ℕ, ◌-◌, length, arith, sym, ap, ◌∙◌, subst}
use Rattle.std.proofs.lemmas.List.Sums.{prefix_len-le-length}
use Rattle.tokens.specs.Scanning.{TokenOfRun}
use Rattle.tokens.proofs.Steps.{run_ahead}
use Rattle.tokens.proofs.token.Scanner.next_token.Goals as goal

pub split_at-requires : goal.split_at-requires
split_at-requires c = omega (arith, prefix_len-le-length {X = ℕ})

pub returns-in-Run-clause-step : goal.returns-in-Run-clause-step
returns-in-Run-clause-step c =
    let text = c.args.self.now.text.now in
    let rest = c.loop-b.self.rest.now in
    let passed = c.loop-b.invariant in
    let cut = c.split_at.ensures in
    let place = c.place-at-in-Run.ensures ∙ ap (λ t. length t - length rest) passed.same in
    let token = subst (λ i. TokenOfRun i c.split_at.result.0.now c.run_token.result) place c.run_token.ensures in
    let run = run_ahead text rest _ _ (omega (arith, c.args.self.now.within, passed.shorter)) c.in-Some.ensures.cases.0 c.in-Run.ensures c.run_token.result c.run_length.result _ _ c.run_length.ensures cut.front cut.back token in
    (sym passed.ahead ∙ run.0, run.1, omega (arith, run.2, passed.shorter))
