use Rattle.proof_audit.proofs.Replays.{replays}
use Rattle.proof_audit.proofs.laws.every_replay_is_judged_right.Goals as goal

pub returns : goal.returns
returns c = replays
