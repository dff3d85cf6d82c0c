use Rattle.trace_replies.proofs.lemmas.firsts.Telling.{tells_earlier}
use Rattle.trace_replies.proofs.firsts.firsts.came_earlier.Goals as goal

pub returns-clause-told : goal.returns-clause-told
returns-clause-told c d = tells_earlier d c.args.request c.args.message.now c.args.firsts.now c.find_earlier.result c.find_earlier.ensures
