-- One record more was read, if one was left.
use Rattle.resolv_lookup.proofs.Again.{read_more}
use Rattle.resolv_lookup.proofs.answer_section.records_behind.Goals as goal

pub loop-preserved : goal.loop-preserved
loop-preserved c = read_more _ c.loop.records c.next.new.self c.loop.counter c.next.result c.loop.invariant c.next.ensures.steps
