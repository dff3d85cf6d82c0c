use Rattle.std.proofs.Common.{◌≡◌}
use Rattle.client_request.specs.Composed.{each}
use Rattle.client_request.specs.Counted.{counts_question}
use Rattle.client_request.proofs.counting.count_questions.Given as goal

abbrev pub invariant-loop-question : goal.invariant-loop-question
invariant-loop-question l = record {
  can_next : (goal.iterator-loop-question).can_next l.question-iterator;
  is_finite : (goal.iterator-loop-question).is_finite l.question-iterator;
  same : each counts_question l.fn.questions l.initial.counts ≡ each counts_question l.question-iterator l.counts;
}
