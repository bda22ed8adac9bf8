use Rattle.std.proofs.Common.{rules}
use Rattle.passes.specs.Ranges.{IsOutOfRange}
use Rattle.script.specs.declared.fault.FormFault.TheVariants.{OutOfRange}
use Rattle.script.proofs.Composing.{stage_of}
use Rattle.script.proofs.parsed.Parsed.check_ranges.Goals as goal

pub returns : goal.returns
returns c =
    stage_of OutOfRange _ c.args.self.now.text.now _ _ c.args.self.now.formed c.deref.ensures.value IsOutOfRange _ c.refuse.result c.first_out_of_range.ensures c.refuse.ensures
    (λ at e m. search rules)
