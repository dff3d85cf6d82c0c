use Rattle.proof_forwarding.proofs.Aging.{every_reply_is_aged as lemma}
use Rattle.proof_forwarding.proofs.laws.every_reply_is_aged.Goals as goal

pub returns : goal.returns
returns c = lemma
