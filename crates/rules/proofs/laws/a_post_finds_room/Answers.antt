use Rattle.rules.proofs.Posting.{posts_law}
use Rattle.rules.proofs.laws.a_post_finds_room.Goals as goal

pub returns : goal.returns
returns g c = posts_law _
