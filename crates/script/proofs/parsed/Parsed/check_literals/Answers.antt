use Rattle.std.proofs.Common.{refl}
use Rattle.passes.specs.Messages.{NoMessage}
use Rattle.script.proofs.Composing.{stage_first, stage_nowhere, stage_literal}
use Rattle.script.proofs.parsed.Parsed.check_literals.Goals as goal

pub returns-in-Some : goal.returns-in-Some
returns-in-Some g c = (
  c.place.result,
  c.in-Some.refused.fault,
  refl,
  stage_first c.args.self.now.text.now _ _ c.args.self.now.formed c.deref.ensures.value (NoMessage g.M.Literal.literal) _ _ c.place.ensures c.in-Some.ensures.0,
  stage_literal g.M.Literal.literal c.args.self.now.text.now _ _ c.args.self.now.formed c.deref.ensures.value _ _ _ c.place.ensures c.in-Some.ensures.1,
)

pub returns-in-None : goal.returns-in-None
returns-in-None g c = stage_nowhere c.args.self.now.text.now _ _ c.args.self.now.formed c.deref.ensures.value (NoMessage g.M.Literal.literal) c.in-None.ensures
