use Rattle.std.proofs.Common.{sym}
use Rattle.kinds.proofs.Waiting.{shut_unless_waits}
use Rattle.kinds.proofs.bare.BareRule.reply_to_any.Goals as goal

pub returns-else-among : goal.returns-else-among
returns-else-among g c = sym (shut_unless_waits g.met.Self.BareRule.lawful _ _ _ _ (sym c.if-among.ensures))
