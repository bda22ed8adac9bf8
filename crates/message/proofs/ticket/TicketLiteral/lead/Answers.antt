use Rattle.std.proofs.Common.{rules}
use Rattle.message.specs.Ticketing.{weight_free}
use Rattle.message.proofs.Ticketing.{as_ticket}
use Rattle.message.proofs.ticket.TicketLiteral.lead.Goals as goal

pub lead-length-requires : goal.lead-length-requires
lead-length-requires c = weight_free

pub returns : goal.returns
returns c = as_ticket c.args.s.now c.lead-length.result c.map.result c.lead-length.ensures (λ j t h. search rules) c.map.ensures.cases
