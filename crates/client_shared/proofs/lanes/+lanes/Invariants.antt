use Rattle.std.proofs.Common.{◌+◌, ◌*◌, length}
use Rattle.client_shared.proofs.lanes.+lanes.Given as goal

abbrev pub decreases-first_and_rest : goal.decreases-first_and_rest
decreases-first_and_rest g l = 4 * length l.others.now + 2

abbrev pub decreases-first_and_rest-theirs : goal.decreases-first_and_rest-theirs
decreases-first_and_rest-theirs g l = 4 * length l.others.now + 1

abbrev pub decreases-run_from : goal.decreases-run_from
decreases-run_from g l = 4 * length l.passes.now
