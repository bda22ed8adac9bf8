use Rattle.std.proofs.Common.{Some, None, arith, rules}
use Rattle.std.proofs.lemmas.Grind.{common_steps}
use Rattle.grammar.specs.Parts.{parts_of}
use Rattle.passes.specs.Tallies.{meant}
use Rattle.passes.proofs.Counting.{Turn, turn, tally_more, room, over_passed, over_any}
use Rattle.passes.proofs.limits.first_over_limit.Goals as goal
use Rattle.passes.proofs.limits.first_over_limit.Goals.{In-Some}

here : (c : In-Some) → Turn c.args.parts.now c.loop-i.i-iterator c.in-Some.i c.in-Some.pair.now c.next.new.self
here c = turn c.args.parts.now c.loop-i.i-iterator c.in-Some.i c.in-Some.pair c.next.new.self c.loop-i.invariant.2 c.in-Some.ensures.steps

pub loop-i-preserved : goal.loop-i-preserved
loop-i-preserved c =
    let w = here (goal.at.loop-i-preserved c).In-Some in (
      search rules,
      search rules,
      w.ahead,
      tally_more w c.loop-i.tally c.loop-i.invariant.3 (meant c.into-in-loop-i.result) _ _ c.into-in-loop-i.ensures c.count.ensures,
      over_passed w c.loop-i.tally c.loop-i.invariant.3 (meant c.into.result) _ c.is_full_for.result c.into.ensures c.is_full_for.ensures c.if-is_full_for.false c.loop-i.invariant.4,
    )

pub count-requires : goal.count-requires
count-requires c =
    let w = here (goal.at.count-requires c).In-Some in
    room (parts_of c.args.parts.now) _ c.loop-i.tally c.loop-i.invariant.3 (omega (arith, w.fits, w.number))

pub returns-then-is_full_for-clause-any_tokens : goal.returns-then-is_full_for-clause-any_tokens
returns-then-is_full_for-clause-any_tokens c = over_any c.args.parts.now (Some c.in-Some.i) (grind (arith, common_steps))

pub returns-clause-any_tokens : goal.returns-clause-any_tokens
returns-clause-any_tokens c = over_any c.args.parts.now None (grind (arith, common_steps))
