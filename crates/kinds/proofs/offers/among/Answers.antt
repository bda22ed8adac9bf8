use Rattle.std.proofs.Common.{◌&&◌, ◌==◌, sym, ◌∙◌, rules, tests}
use Rattle.std.proofs.lemmas.Iterator.{YieldsList-from_slice}
use Rattle.std.proofs.lemmas.Iterator.Search.{any_from_yields_List}
use Rattle.rules.specs.contracts.offer.OfferPartialEq.TheImpl.{ghosts as OfferEq}
use Rattle.kinds.proofs.Waiting.{among_any}
use Rattle.kinds.proofs.offers.among.Goals as goal

pub returns : goal.returns
returns c =
    let o = c.args.o in
    any_from_yields_List (λ q. q.sync == o.sync && OfferEq.eq q o) _ _ _ c.any.ensures.ran (YieldsList-from_slice c.args.waiting.now cc) (λ x b q k. search (rules, tests))
    ∙ sym (among_any o _)
