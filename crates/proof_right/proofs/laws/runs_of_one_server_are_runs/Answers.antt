-- A client of one server makes only runs of the client of small moves, which are right.
use Rattle.proof_right.proofs.single.Running.{one_server_runs, every_run_of_one}
use Rattle.proof_right.proofs.laws.runs_of_one_server_are_runs.Goals as goal

pub returns : goal.returns
returns c = record {
  runs = one_server_runs;
  right = every_run_of_one;
}
