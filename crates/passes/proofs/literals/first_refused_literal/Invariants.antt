use Rattle.grammar.specs.Parts.{parts_of}
use Rattle.passes.specs.Messages.{NoMessage}
use Rattle.passes.proofs.Firsts.{Passed}
use Rattle.passes.proofs.literals.first_refused_literal.Given as goal

abbrev pub invariant-loop-token : goal.invariant-loop-token
invariant-loop-token g l = Passed (NoMessage g.M.Literal.literal (parts_of l.parts)) l.token
