use Rattle.message_judging.proofs.lemmas.views.Sameness.{tells_same}
use Rattle.message_judging.proofs.views.same.is_same_message.Goals as goal

pub returns : goal.returns
returns c = tells_same c.args.a.now c.args.b.now c.compare.result c.compare.ensures.first c.compare.ensures.second c.compare.ensures.same
