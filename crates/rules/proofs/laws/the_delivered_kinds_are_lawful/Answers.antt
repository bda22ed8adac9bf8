use Rattle.rules.proofs.DeliveredKinds.{delivered_lawful, delivered_replies}
use Rattle.rules.proofs.laws.the_delivered_kinds_are_lawful.Goals as goal

pub returns : goal.returns
returns c = record { lawful = delivered_lawful; replies = delivered_replies }
