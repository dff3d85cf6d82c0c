use Rattle.dns_base.specs.Sections.{HasNoRecords}
use Rattle.dns_base.specs.Draft.{counts_in}
use Rattle.tool_transports.proofs.streams.transfer.cutting.push_questions.Given as goal

abbrev pub invariant-loop-question : goal.invariant-loop-question
invariant-loop-question l = record {
  can_next : (goal.iterator-loop-question).can_next l.question-iterator;
  is_finite : (goal.iterator-loop-question).is_finite l.question-iterator;
  order : HasNoRecords (counts_in l.target);
}
