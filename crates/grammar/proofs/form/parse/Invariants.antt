use Rattle.std.proofs.Common.{length, vec_items}
use Rattle.grammar.proofs.Parsing.{Parsing}
use Rattle.grammar.proofs.form.parse.Given as goal

abbrev pub invariant-loop-token : goal.invariant-loop-token
invariant-loop-token l = Parsing l.text l.scanner.text.now l.scanner.rest.now (vec_items l.found) (vec_items l.stack)

abbrev pub decreases-loop-token : goal.decreases-loop-token
decreases-loop-token l = length l.scanner.rest.now
