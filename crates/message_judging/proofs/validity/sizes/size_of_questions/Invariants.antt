use Rattle.std.proofs.Common.{◌≡◌}
use Rattle.message_judging.specs.validity.Sizes.{questions_behind}
use Rattle.message_judging.proofs.validity.sizes.size_of_questions.Given as goal

abbrev pub invariant-loop-question : goal.invariant-loop-question
invariant-loop-question l = record {
  can_next : (goal.iterator-loop-question).can_next l.question-iterator;
  is_finite : (goal.iterator-loop-question).is_finite l.question-iterator;
  same : questions_behind l.fn.questions l.fn.before ≡ questions_behind l.question-iterator l.size;
}
