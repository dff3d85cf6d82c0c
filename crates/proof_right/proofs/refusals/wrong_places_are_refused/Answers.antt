-- Each trace names what is not there.
use Rattle.proof_right.proofs.wrong.Places as wrong
use Rattle.proof_right.proofs.refusals.wrong_places_are_refused.Goals as goal

pub returns : goal.returns
returns c = record {
  opened_twice = wrong.twice_opened;
  opened_again = wrong.not_opened_again;
  connected_again = wrong.not_connected_again;
  closed_twice = wrong.twice_closed;
  closed_again = wrong.again_closed;
  closed_unopened = wrong.unopened_closed;
  started_unasked = wrong.unasked;
}
