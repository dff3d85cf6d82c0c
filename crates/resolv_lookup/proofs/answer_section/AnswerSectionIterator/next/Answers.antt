-- One record more was read.
use Rattle.resolv_lookup.proofs.Again.{taken_more}
use Rattle.resolv_lookup.proofs.answer_section.AnswerSectionIterator.next.Goals as goal

pub invariant_of-self-2 : goal.invariant_of-self-2
invariant_of-self-2 c = taken_more _ c.self.inside.taken c.self.inside.records c.next.new.self c.in_ok-record.record c.self.invariant.0 c.self.invariant.1 c.in_ok-record.ensures.steps
