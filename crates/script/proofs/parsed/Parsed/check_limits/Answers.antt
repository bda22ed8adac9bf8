use Rattle.std.proofs.Common.{rules}
use Rattle.passes.specs.Limits.{IsOverLimit}
use Rattle.script.specs.declared.fault.NamesFault.TheVariants.{OverLimit}
use Rattle.script.proofs.Composing.{stage_of}
use Rattle.script.proofs.parsed.Parsed.check_limits.Goals as goal

pub returns : goal.returns
returns c =
    stage_of OverLimit _ c.args.self.now.text.now _ _ c.args.self.now.formed c.deref.ensures.value IsOverLimit _ c.refuse.result c.first_over_limit.ensures.place c.refuse.ensures
    (λ at e m. search rules)
