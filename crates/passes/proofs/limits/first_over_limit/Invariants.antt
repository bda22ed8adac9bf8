use Rattle.std.specs.Iterator.Adapters.{enumerate_count}
use Rattle.grammar.specs.Parts.{parts_of}
use Rattle.passes.specs.Limits.{IsOverLimit}
use Rattle.passes.proofs.Firsts.{Passed}
use Rattle.passes.proofs.Counting.{Counts, Ahead}
use Rattle.passes.proofs.limits.first_over_limit.Given as goal

abbrev pub invariant-loop-i : goal.invariant-loop-i
invariant-loop-i l =
    (goal.iterator-loop-i).can_next l.i-iterator × (goal.iterator-loop-i).is_finite l.i-iterator
    × Ahead l.parts l.i-iterator
    × Counts (parts_of l.parts) (enumerate_count l.i-iterator) l.tally
    × Passed (IsOverLimit (parts_of l.parts)) (enumerate_count l.i-iterator)
