use Rattle.std.proofs.Common.{vec_items}
use Rattle.grammar.proofs.Verdicts.{SoFar}
use Rattle.grammar.proofs.form.parts.Given as goal

abbrev pub invariant-loop-k : goal.invariant-loop-k
invariant-loop-k l = SoFar l.tokens l.k (vec_items l.found) (vec_items l.stack)
