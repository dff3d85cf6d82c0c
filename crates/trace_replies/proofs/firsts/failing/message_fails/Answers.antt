use Rattle.trace_replies.proofs.lemmas.firsts.Failed.{tells_message_fails}
use Rattle.trace_replies.proofs.firsts.failing.message_fails.Goals as goal

pub returns-clause-told : goal.returns-clause-told
returns-clause-told c = let a = c.args in tells_message_fails a.settings.now a.request a.done a.comings.now a.firsts.now c.find_failing.result c.find_failing.ensures
