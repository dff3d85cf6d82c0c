-- The faults that a script tells: those of a socket.
use Rattle.std.specs.Prelude.{Bool, true, false}
use Rattle.client_request.specs.declared.fault.Fault.{Fault}
use Rattle.client_request.specs.declared.fault.Fault.TheVariants as fault
use Rattle.client_request.specs.declared.event.What.{What}
use Rattle.client_request.specs.declared.event.What.TheVariants as what

-- the client itself finds the others
abbrev pub is_of_socket : Fault → Bool
is_of_socket fault.Expired = false
is_of_socket fault.ShortSend = false
is_of_socket fault.NothingTaken = false
is_of_socket fault.EndOfData = false
is_of_socket _ = true

-- the fault of an event, where it has one, is of a socket
abbrev pub tells_well : What → Bool
tells_well (what.OpenFailed place fault) = is_of_socket fault
tells_well (what.SendFailed place fault) = is_of_socket fault
tells_well (what.RecvFailed place fault) = is_of_socket fault
tells_well (what.WriteFailed place fault) = is_of_socket fault
tells_well (what.ReadFailed place fault) = is_of_socket fault
tells_well _ = true
