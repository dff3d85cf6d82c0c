use Rattle.proof_right.proofs.worked.Runs.{cut_goes_on_is_a_run, asked_again_is_a_run}
use Rattle.proof_right.proofs.worked.Rightness.{cut_goes_on_is_right, asked_again_is_right}
use Rattle.proof_right.proofs.worked.Deferred.{failing_server_is_right}
use Rattle.proof_right.proofs.examples.worked_traces_are_runs.Goals as goal

pub returns : goal.returns
returns c = record { cut_goes_on = cut_goes_on_is_a_run; asked_again = asked_again_is_a_run; cut_goes_on_is_right = cut_goes_on_is_right; asked_again_is_right = asked_again_is_right; failing_server_is_right = failing_server_is_right }
