use Rattle.std.proofs.Common.{arith}
use Rattle.message.proofs.Pages.{writes_joined}
use Rattle.message.proofs.joined.Joined.write.Goals as goal

pub returns : goal.returns
returns g c =
    writes_joined c.args.page.now _ _ c.write-2.new.page c.args.at _ _ (g.A.Literal.literal c.args.self.left) c.args.separator (g.B.Literal.literal c.args.self.right) c.write-2.result
    (omega (arith, c.in_default-room_after.ensures, c.in-Some.ensures)) c.in_ok-middle.ensures c.in_ok-right.ensures c.write-2.ensures
