use Rattle.replay.proofs.Pages.{page_law}
use Rattle.replay.proofs.laws.a_page_has_room_for_a_call.Goals as goal

pub returns : goal.returns
returns g c = page_law _ _
