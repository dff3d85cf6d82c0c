use Rattle.stub_resolver.proofs.AllReplying.{asked_more, requests_more}
use Rattle.stub_resolver.proofs.all.requests_of.Goals as goal

pub loop-question-preserved : goal.loop-question-preserved
loop-question-preserved c = record {
  asked =
      asked_more c.args.questions.now c.loop-question.question-index c.question-item.result c.loop-question.asked.items c.push_question.new.asked.items c.loop-question-test.true c.question-item.is
      c.loop-question.invariant.asked c.in_ok-push_question.ensures.asked;
  requests =
      requests_more c.args.questions.now c.loop-question.question-index c.question-item.result c.loop-question.requests.items c.push_question.new.requests.items c.loop-question-test.true c.question-item.is
      c.loop-question.invariant.requests c.in_ok-push_question.ensures.requests;
}
