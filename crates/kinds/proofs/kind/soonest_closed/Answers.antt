use Rattle.std.proofs.Common.{◌≡◌, not, map, filter, min, sym, ap, ◌∙◌, rules, tests}
use Rattle.std.specs.Option.{option_map}
use Rattle.std.specs.List.{reduce}
use Rattle.std.proofs.lemmas.Iterator.{YieldsList-from_slice, YieldsList-from_map}
use Rattle.std.proofs.lemmas.Iterator.Adapters.{option_map_id}
use Rattle.std.proofs.lemmas.Iterator.Consumers.{YieldsList-from_filter, YieldsList-at, min_from_yields_List}
use Rattle.rules.specs.Kinds.{polled}
use Rattle.rules.specs.Able.{opens, soonest_closed}
use Rattle.kinds.proofs.Waiting.{closed_shut, closed_dues}
use Rattle.kinds.proofs.kind.soonest_closed.Goals as goal

pub returns : goal.returns
returns g c =
    let K = g.K.Kind.rules in
    let μ = g.K.Kind.meaning c.args.kind.now in
    let least : option_map (λ n. n) c.min.result ≡ reduce min (map (λ o. o.due) (filter (λ o. not (opens (polled K μ o))) c.waiting.result.now)) =
    min_from_yields_List c.map.result _ c.min.ensures.ran
    (YieldsList-from_map _ (λ o. o.due) (YieldsList-at c.map.ensures.source (YieldsList-from_filter _ (λ o. not (opens (polled K μ o))) (YieldsList-from_slice c.waiting.result.now cc) c.filter.ensures.closure (λ x r q k. search (rules, tests, closed_shut)))) c.map.ensures.closure (λ x r q k. search (rules, tests))) in
    sym (option_map_id _) ∙ (least ∙ (closed_dues K μ _ ∙ ap (soonest_closed K μ) c.waiting.ensures))
