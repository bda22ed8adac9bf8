use Rattle.rules.proofs.Held.{held_law, own_ports_law}
use Rattle.rules.proofs.laws.messages_are_kept.Goals as goal

pub returns : goal.returns
returns g c = record { held = held_law _; own = own_ports_law _ }
