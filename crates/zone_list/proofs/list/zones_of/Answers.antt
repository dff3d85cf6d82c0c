use Rattle.resolv_conf.specs.Words.{lines_of}
use Rattle.zone_list.proofs.Lists.{fault_follows}
use Rattle.zone_list.proofs.list.zones_of.Goals as goal

pub returns-in-Err-clause-fault : goal.returns-in-Err-clause-fault
returns-in-Err-clause-fault c =
    fault_follows c.args.text.now (lines_of c.loop-rest.rest.now) (lines_of c.split_line.result.1.now) c.loop-rest.zones.items c.loop-rest.line c.split_line.result.0.now c.in-Err.fault c.at.result c.if-text-gt-MOST_TEXT.false c.at.ensures
    c.split_line.ensures.first c.in-Err.ensures c.loop-rest.invariant.leads
