use Rattle.std.proofs.Common.{rules, Some}
use Rattle.listener_peers.specs.Doors.{without_value}
use Rattle.listener_peers.proofs.books.PeerBooks.accept.Goals as goal

-- What the listener answered is told without its stream.
pub returns-in_ok-heard-in-Some : goal.returns-in_ok-heard-in-Some
returns-in_ok-heard-in-Some g c = record { got = Some (without_value c.in-Some.answer); asks = search rules; tells = search rules; after = search rules }
