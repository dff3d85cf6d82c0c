use Rattle.listener_peers.proofs.Taking.{octets-go-once}
use Rattle.listener_peers.proofs.laws.octets_go_once.Goals as goal

pub returns : goal.returns
returns c = octets-go-once
