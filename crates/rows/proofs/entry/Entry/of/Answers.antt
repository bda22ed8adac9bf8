use Rattle.rows.proofs.Numbers.{literal_reads}
use Rattle.rows.proofs.entry.Entry.of.Goals as goal

pub returns-in-Literal : goal.returns-in-Literal
returns-in-Literal g c = literal_reads g.M.Literal.literal _ _ _ _ _ c.in-Literal.is c.bytes-in-Literal.ensures c.literal_entry.ensures
