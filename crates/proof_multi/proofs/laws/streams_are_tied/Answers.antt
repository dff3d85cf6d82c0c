-- Each call of reconnection leaves what moves of the machine leave.
use Rattle.proof_multi.proofs.StreamsTied as proved
use Rattle.proof_multi.proofs.laws.streams_are_tied.Goals as goal

pub returns : goal.returns
returns c = proved.streams_are_tied
