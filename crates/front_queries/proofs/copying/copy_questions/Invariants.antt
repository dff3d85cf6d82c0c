use Rattle.std.proofs.Common.{◌≡◌}
use Rattle.dns_base.specs.Sections.{HasNoRecords}
use Rattle.dns_base.specs.Draft.{counts_in}
use Rattle.client_request.specs.Composed.{each}
use Rattle.front_queries.specs.Answers.{asks_as}
use Rattle.front_queries.proofs.copying.copy_questions.Given as goal

abbrev pub invariant-loop-question : goal.invariant-loop-question
invariant-loop-question l = record {
  can_next : (goal.iterator-loop-question).can_next l.question-iterator;
  is_finite : (goal.iterator-loop-question).is_finite l.question-iterator;
  same : each (asks_as l.name) l.fn.questions l.initial.target ≡ each (asks_as l.name) l.question-iterator l.target;
  order : HasNoRecords (counts_in l.target);
}
