use Rattle.std.proofs.Common.{◌==◌, sym, ◌∙◌, rules, tests}
use Rattle.std.proofs.lemmas.Iterator.{YieldsList-from_slice}
use Rattle.std.proofs.lemmas.Iterator.Consumers.{YieldsList-from_filter}
use Rattle.std.proofs.lemmas.Iterator.Search.{any_from_yields_List}
use Rattle.kinds.proofs.Waiting.{leaf_waits_any}
use Rattle.kinds.proofs.offers.Offers.leaf_waits.Goals as goal

pub returns : goal.returns
returns c =
    let o = c.args.o in
    any_from_yields_List (λ q. q.leaf == o.leaf) _ _ _ c.any.ensures.ran
    (YieldsList-from_filter _ (λ q. q.sync == o.sync) (YieldsList-from_slice c.args.self.now.list.items cc) c.filter.ensures.closure (λ x r q k. search (rules, tests))) (λ x b q k. search (rules, tests))
    ∙ sym (leaf_waits_any o.sync o.leaf _)
