use Rattle.std.proofs.Common.{◌≡◌, ℕ, suc, ◌<◌, true, false, cond, List, [], ◌∷◌, length, get_or, drop, sym, refl, ap, ◌∙◌, add-one, arith, drop-cons}
use Rattle.std.proofs.lemmas.List.{at_drop_all}
use Rattle.std.proofs.lemmas.Bool.{cond-true, cond-false}
use Rattle.replay.specs.declared.candidate.Candidate.{Candidate}
use Rattle.replay.specs.Policies.{idler, idlest, idlest_after}
use Rattle.policy.proofs.longest_idle.idlest.Goals as goal
use Rattle.policy.proofs.longest_idle.idlest.Goals.{then-idler, else-idler}

-- the first compared with itself changes nothing, whatever the comparison says
from_first : (cs : List Candidate) (d : Candidate) → idlest cs ≡ idlest_after 0 (get_or cs 0 d) 0 cs
from_first [] d = refl
from_first (c ∷ cs) d = elim (idler c c) as (λ b. idlest_after 0 c 1 cs ≡ cond b (idlest_after 0 c 1 cs) (idlest_after 0 c 1 cs)) [ true ↦ refl | false ↦ refl ]

-- the next of the list goes before the idlest so far, or does not
module _ (cs : List Candidate) (i : ℕ) (c : Candidate) (j : ℕ) (d : Candidate) (h : j < length cs) where
  takes_next : idler (get_or cs j d) c ≡ true → idlest_after i c j (drop j cs) ≡ idlest_after j (get_or cs j d) (suc j) (drop (suc j) cs)
  takes_next e = ap (idlest_after i c j) (drop-cons cs j d h) ∙ cond-true _ _ _ e

  keeps_old : idler (get_or cs j d) c ≡ false → idlest_after i c j (drop j cs) ≡ idlest_after i c (suc j) (drop (suc j) cs)
  keeps_old e = ap (idlest_after i c j) (drop-cons cs j d h) ∙ cond-false _ _ _ e

pub loop-place-init : goal.loop-place-init
loop-place-init c = (omega arith, from_first c.args.able.now _)

pub loop-place-preserved : goal.loop-place-preserved
loop-place-preserved c =
    elim c.if-idler.branch [
      | then-idler w ↦ (omega arith, rw (w.best-is, add-one) (c.loop-place.invariant.1 ∙ takes_next _ _ _ _ _ c.loop-place-test.true (sym w.if-idler.ensures)))
      | else-idler w ↦ (omega arith, rw (w.best-is, add-one) (c.loop-place.invariant.1 ∙ keeps_old _ _ _ _ _ c.loop-place-test.true (sym w.if-idler.ensures)))
    ]

pub returns : goal.returns
returns c = sym (c.loop-place.invariant.1 ∙ at_drop_all (idlest_after _ _ _) _ _ c.loop-place-test.false)
