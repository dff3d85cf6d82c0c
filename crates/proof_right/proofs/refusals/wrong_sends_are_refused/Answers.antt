-- Each send or write owes something.
use Rattle.proof_right.proofs.wrong.Dgrams.{seventh}
use Rattle.proof_right.proofs.wrong.Sends as sends
use Rattle.proof_right.proofs.refusals.wrong_sends_are_refused.Goals as goal

pub returns : goal.returns
returns c = record {
  seventh = seventh;
  replied = λ c past h p k id o e. sends.sent_after_reply past h p k id o c e;
  great_id = λ c past h p k id o e. sends.sent_great_id past h p k id o c e;
  written_when_replied = λ c past h p k id o e. sends.written_after_reply past h p k id o c e;
  written_under_great_id = λ c past h p k id o e. sends.written_great_id past h p k id o c e;
}
