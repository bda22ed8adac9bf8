use Rattle.std.proofs.Common.{length, vec_items, sym, ap, ◌∙◌, subst, arith}
use Rattle.tokens.specs.declared.token.Scanner.{Scanner}
use Rattle.grammar.proofs.Parsing.{Parsing, starts, parsed, stopped, whole, wanting}
use Rattle.grammar.proofs.form.parse.Goals as goal

pub loop-token-init : goal.loop-token-init
loop-token-init c = starts _ _ _ _ _ _ c.new-found.ensures.items c.new-stack.ensures.items c.in_ok-push.ensures.items c.new-scanner.ensures.text c.new-scanner.ensures.rest

pub returns-in_default-2 : goal.returns-in_default-2
returns-in_default-2 c =
    let m = stopped c.args.text.now _ _ _ _ c.loop-token.invariant c.next_token.new.self.rest.now c.in-Some.token _ _ c.in-Some.ensures.step c.in_ok-purpose.ensures c.in_default-2.is in
    (m.0, m.1, c.place.ensures ∙ m.2)

pub loop-token-preserved : goal.loop-token-preserved
loop-token-preserved c =
    let after : Scanner = c.next_token.new.self in
    let p = parsed c.args.text.now _ _ _ _ c.loop-token.invariant after.rest.now c.in-Some.token _ c.in-Some-2.purpose (vec_items c.push-in-Some.new.self) (vec_items c.step_on.new.stack) c.in-Some.ensures.step (omega (arith, after.within, ap length c.in-Some.ensures.text, ap length c.loop-token.invariant.scanned.same)) c.in_ok-purpose.ensures c.in-Some-2.is c.in_ok-push-2.ensures.items in
    subst (λ x. Parsing c.args.text.now x after.rest.now (vec_items c.push-in-Some.new.self) (vec_items c.step_on.new.stack)) (sym c.in-Some.ensures.text) p

pub returns-then-is_end : goal.returns-then-is_end
returns-then-is_end c = whole c.args.text.now _ _ _ _ c.loop-token.invariant c.next_token.new.self.rest.now _ _ c.in_default.ensures.step c.is_end.ensures c.deref.ensures.value c.if-is_end.true

pub returns : goal.returns
returns c = wanting c.args.text.now _ _ _ _ c.loop-token.invariant c.next_token.new.self.rest.now _ _ c.in_default.ensures.step c.is_end.ensures c.deref.ensures.value c.if-is_end.false
