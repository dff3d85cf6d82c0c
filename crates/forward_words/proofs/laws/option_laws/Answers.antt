use Rattle.forward_words.proofs.Judged.{one_answer}
use Rattle.forward_words.proofs.laws.option_laws.Goals as goal

pub returns : goal.returns
returns c = one_answer
