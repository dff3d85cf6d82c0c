-- What a copy takes memory for.
use Rattle.std.specs.Prelude.{Bool, true, false, Ok}
use Rattle.client_request.specs.declared.event.What.{What}
use Rattle.client_request.specs.declared.event.What.TheVariants as what
use Rattle.client_request.specs.declared.event.Out.{Out}
use Rattle.client_request.specs.declared.event.Out.TheVariants as out

-- what happened came with octets
abbrev pub came_with_octets : What → Bool
came_with_octets (what.Ask request) = true
came_with_octets (what.Datagram place octets) = true
came_with_octets (what.Bytes place octets) = true
came_with_octets _ = false

-- what is put out has octets to be sent, or a message
abbrev pub has_octets : Out → Bool
has_octets (out.Send place request id octets) = true
has_octets (out.Write place request id octets) = true
has_octets (out.Resume place octets) = true
has_octets (out.Reply request (Ok message)) = true
has_octets _ = false
