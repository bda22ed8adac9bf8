-- The able tasks and the open leaves are listed in order.
use Rattle.std.proofs.Common.{ℕ, suc, ◌<◌, List, [], ◌∷◌, arith}
use Rattle.std.specs.List.{AllByRecursion}
use Rattle.std.proofs.lemmas.Bool.{cond_both}
use Rattle.rules.specs.States.{Setting, Leaf, Task, State}
use Rattle.rules.specs.Able.{reply, opens, open_leaves, able_when}
use Rattle.rules.specs.Laws.{Rising, ListedLaw}
use Rattle.rules.proofs.Ability.{listed_leaf, leaf_listed}
use Rattle.rules.proofs.Rising.{rising_kept, rising_run}

module _ {M : Type 0} (w : Setting M) (s : State M) (t : Task M) (y : ℕ) where
  past : (k i : ℕ) (ls : List (Leaf M)) → k < i → AllByRecursion (λ n. k < n) (open_leaves w s t y i ls)
  past k i [] h = tt
  past k i (l ∷ ls) h = let rest = past k (suc i) ls (omega (arith, h)) in
      cond_both (opens (reply w s t y i l.base)) _ _ (AllByRecursion (λ n. k < n)) (λ _. (h, rest)) (λ _. rest)

  leaves_rise : (i : ℕ) (ls : List (Leaf M)) → Rising (open_leaves w s t y i ls)
  leaves_rise i [] = tt
  leaves_rise i (l ∷ ls) = let rest = leaves_rise (suc i) ls in
      cond_both (opens (reply w s t y i l.base)) _ _ Rising (λ _. (past i (suc i) ls (omega arith), rest)) (λ _. rest)

pub listed_law : (M : Type 0) → ListedLaw M
listed_law M w tr s r = record {
  tasks_rise = rising_kept (λ t. t.number) (λ t. able_when w s t t.wait) s.tasks (rising_run w tr s r);
  leaves = λ t y ls m e i. ((λ k. listed_leaf w s t y ls i m e k), λ o. leaf_listed w s t y ls i e y o.0 o.1);
  leaves_rise = λ t y ls. leaves_rise w s t y 0 ls;
}
