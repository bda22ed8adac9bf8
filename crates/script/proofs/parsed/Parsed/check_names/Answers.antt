use Rattle.std.proofs.Common.{rules}
use Rattle.passes.specs.Names.{Misnamed as IsMisnamed}
use Rattle.passes.specs.Ranges.{IsOutOfRange}
use Rattle.script.specs.declared.fault.NamesFault.TheVariants.{Misnamed}
use Rattle.script.proofs.Composing.{stage_of, nowhere_back}
use Rattle.script.proofs.parsed.Parsed.check_names.Goals as goal

pub returns : goal.returns
returns c = λ ranged.
    let text = c.args.self.now.text.now in
    let in_range = nowhere_back text _ _ c.args.self.now.formed c.deref.ensures.value IsOutOfRange ranged in
    stage_of Misnamed _ text _ _ c.args.self.now.formed c.deref.ensures.value IsMisnamed _ c.refuse.result (c.first_misnamed.ensures in_range) c.refuse.ensures
    (λ at e m. search rules)
