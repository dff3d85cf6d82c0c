use Rattle.trace_replies.proofs.lemmas.firsts.Telling.{tells_first}
use Rattle.trace_replies.proofs.firsts.firsts.came_first.Goals as goal

pub returns-clause-told : goal.returns-clause-told
returns-clause-told c d = tells_first d c.args.request c.args.message.now c.args.came c.args.firsts.now c.find_first.result c.find_first.ensures
