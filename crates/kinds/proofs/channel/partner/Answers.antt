use Rattle.std.proofs.Common.{cond, filter, rules, tests}
use Rattle.std.proofs.lemmas.Iterator.{YieldsList-from_slice}
use Rattle.std.proofs.lemmas.Iterator.Consumers.{YieldsList-from_filter}
use Rattle.rules.specs.Delivered.{fits, sooner}
use Rattle.kinds.proofs.Reduced.{reduced}
use Rattle.kinds.proofs.Waiting.{sooner_one, sooner_picks, with_reduced}
use Rattle.kinds.proofs.channel.partner.Goals as goal

pub returns : goal.returns
returns c =
    let o = c.args.o in
    let os = c.args.waiting.now in
    with_reduced (filter (fits o) os) c.reduce.result _
    (reduced _ (λ q r. cond (sooner r.now q.now) r q) sooner_one _ c.reduce.ensures.ran
    (YieldsList-from_filter _ (fits o) (YieldsList-from_slice os cc) c.filter.ensures.closure (λ x r q k. search (rules, tests)))
    (λ x y r q k. search (rules, tests)) sooner_picks)
    c.map_or.ensures (λ q h. search rules)
