use Rattle.resolv_conf.proofs.Splits.{next_is}
use Rattle.resolver_policy.proofs.found.next_word.Goals as goal

pub returns : goal.returns
returns c = next_is c.args.words.now c.next.new.self c.next.result c.next.ensures.steps
