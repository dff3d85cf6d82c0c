use Rattle.std.proofs.Common.{sym}
use Rattle.zone_transfer.proofs.Sending.{found_is_sent}
use Rattle.zone_transfer.proofs.asking.message_of.Goals as goal

pub push_soa-requires-clause-sent : goal.push_soa-requires-clause-sent
push_soa-requires-clause-sent c = found_is_sent c.records.result.now c.in-Some.soa.now (sym c.in-Some.ensures)
