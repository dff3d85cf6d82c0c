-- Each trace lacks what it owes at one point.
use Rattle.proof_right.proofs.wrong.Cache as wrong
use Rattle.proof_right.proofs.refusals.wrong_replies_are_refused.Goals as goal

pub returns : goal.returns
returns c = record {
  invented = wrong.invents;
  first_ttls = wrong.first_ttls;
  bit_z = wrong.with_z;
  past_validity = wrong.past_validity;
  other_flags = wrong.other_flags;
  error_past_its_time = wrong.error_past_its_time;
  error_from_its_repeat = wrong.error_from_its_repeat;
  before_all_failed = wrong.before_all_failed;
}
