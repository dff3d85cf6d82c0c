-- Reconnection leaves alone what is not its own.
use Rattle.proof_multi.proofs.StreamsShared as proved
use Rattle.proof_multi.proofs.laws.streams_are_shared.Goals as goal

pub returns : goal.returns
returns c = proved.streams_are_shared
