use Rattle.message_judging.proofs.lemmas.matching.Answers.{answers_are}
use Rattle.message_judging.proofs.matching.laws.answers_are_decided.Goals as goal

pub returns : goal.returns
returns c = answers_are
