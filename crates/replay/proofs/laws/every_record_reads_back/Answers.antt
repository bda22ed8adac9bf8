use Rattle.replay.proofs.Readable.{readable_law}
use Rattle.replay.proofs.laws.every_record_reads_back.Goals as goal

pub returns : goal.returns
returns g c = readable_law _ _
