use Rattle.std.proofs.Common.{length}
use Rattle.tokens.proofs.Steps.{Passed}
use Rattle.tokens.proofs.token.Scanner.next_token.Given as goal

abbrev pub invariant-loop-b : goal.invariant-loop-b
invariant-loop-b l = Passed l.fn.self.text.now l.fn.self.rest.now l.self.text.now l.self.rest.now

abbrev pub decreases-loop-b : goal.decreases-loop-b
decreases-loop-b l = length l.self.rest.now
