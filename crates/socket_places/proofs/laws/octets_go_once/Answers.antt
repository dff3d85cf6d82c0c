use Rattle.socket_places.proofs.Handing.{octets-go-once}
use Rattle.socket_places.proofs.laws.octets_go_once.Goals as goal

pub returns : goal.returns
returns c = octets-go-once
