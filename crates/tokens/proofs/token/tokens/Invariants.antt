use Rattle.std.proofs.Common.{length, vec_items}
use Rattle.tokens.proofs.Steps.{Sofar}
use Rattle.tokens.proofs.token.tokens.Given as goal

abbrev pub invariant-loop-token : goal.invariant-loop-token
invariant-loop-token l = Sofar l.text l.scanner.text.now l.scanner.rest.now (vec_items l.found)

abbrev pub decreases-loop-token : goal.decreases-loop-token
decreases-loop-token l = length l.scanner.rest.now
