use Rattle.std.proofs.Common.{vec_items, arith}
use Rattle.grammar.proofs.Verdicts.{at_start, goes_on, stops, accepted, unfinished}
use Rattle.grammar.proofs.form.parts.Goals as goal

pub loop-k-init : goal.loop-k-init
loop-k-init c = at_start _ _ _ _ c.new-found.ensures.items c.new-stack.ensures.items c.in_ok-push.ensures.items

pub loop-k-preserved : goal.loop-k-preserved
loop-k-preserved c = goes_on _ c.loop-k.k _ _ c.loop-k.invariant _ _ _ _ _ c.loop-k-test.true c.in_ok-purpose.ensures c.in-Some.is c.in_ok-push-2.ensures.items

pub returns-in_default : goal.returns-in_default
returns-in_default c = stops _ c.loop-k.k _ _ c.loop-k.invariant _ _ _ c.loop-k-test.true c.in_ok-purpose.ensures c.in_default.is

pub returns-then-is_end : goal.returns-then-is_end
returns-then-is_end c = accepted _ c.loop-k.k _ (vec_items c.loop-k.stack) c.loop-k.invariant _ _ c.loop-k-test.false c.is_end.ensures c.deref.ensures.value c.if-is_end.true

pub returns : goal.returns
returns c = unfinished _ c.loop-k.k _ (vec_items c.loop-k.stack) c.loop-k.invariant _ _ c.loop-k-test.false (omega arith) c.is_end.ensures c.deref.ensures.value c.if-is_end.false
