use Rattle.dns_lookup_words.proofs.Judged.{is_judged, not_said}
use Rattle.dns_lookup_words.proofs.lookup.lookup_of.Goals as goal

pub returns-in-Ok-clause-judged : goal.returns-in-Ok-clause-judged
returns-in-Ok-clause-judged c = is_judged c.args.words.now c.in-Ok.said c.asked.result c.in-Ok.ensures c.asked.ensures.given

pub returns-in-Err-clause-judged : goal.returns-in-Err-clause-judged
returns-in-Err-clause-judged c = not_said c.args.words.now c.in-Err.fault c.in-Err.ensures
