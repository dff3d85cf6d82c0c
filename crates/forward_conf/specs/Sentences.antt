-- What is told of a configuration, and why the program ends.
use Rattle.std.specs.Prelude.{ℕ, List, [], ◌++◌, codes, Option, None, Some}
use Rattle.std.specs.Fmt.{decimal}
use Rattle.std.specs.List.{flat_map}
use Rattle.client_request.specs.Fault as faults
use Rattle.client_request.specs.declared.fault.Fault.{Fault}
use Rattle.client_request.specs.declared.fault.Fault.TheVariants.{Unreachable, Other}
use Rattle.dns_values.specs.Address.{address_text, socket_address_text}
use Rattle.dns_values.specs.declared.address.IpAddr.{IpAddr}
use Rattle.dns_values.specs.declared.address.SocketAddr.{SocketAddr}
use Rattle.forward_conf.specs.declared.cause.Cause.{Cause}
use Rattle.forward_conf.specs.declared.cause.Cause.TheVariants.{Refused, SourceFault, Itself, Deaf, NoMemory, NumbersUsed}
use Rattle.resolver_policy.specs.Notes.{note_text}
use Rattle.resolver_policy.specs.declared.note.Note.{Note}

-- the status of a cause
abbrev pub status_of : Cause → ℕ
status_of (Refused line) = 1
status_of SourceFault = 3
status_of (Itself server) = 5
status_of (Deaf at fault) = 5
status_of NoMemory = 6
status_of NumbersUsed = 7

-- the line that is written to the output
abbrev pub numbers_line : List ℕ
numbers_line = codes "numbers used\n"

abbrev pub line_of : Cause → List ℕ
line_of (Refused line) = line.items
line_of SourceFault = []
line_of (Itself server) = []
line_of (Deaf at fault) = []
line_of NoMemory = []
line_of NumbersUsed = numbers_line

-- what a fault of listening means
abbrev pub fault_text : Fault → List ℕ
fault_text Unreachable = codes "it is no address of this host"
fault_text Other = codes "there is no right to that port, or another fault"
fault_text fault = faults.fault_text fault

abbrev pub addresses_text : List IpAddr → List ℕ
addresses_text ips = flat_map (λ ip. codes " " ++ address_text ip) ips

abbrev pub place_text : List IpAddr → Option IpAddr → List ℕ
place_text listened (Some ip) = codes " " ++ address_text ip
place_text listened None = addresses_text listened

abbrev pub deaf_text : (listened : List IpAddr) (port : ℕ) → Option IpAddr → Fault → List ℕ
deaf_text listened port at fault =
    codes "dns_forward: can't listen at port " ++ (decimal port ++ (codes " of" ++ (place_text listened at ++ (codes ": " ++ (fault_text fault ++ codes "\n")))))

abbrev pub itself_text : SocketAddr → List ℕ
itself_text server = codes "dns_forward: the server " ++ (socket_address_text server ++ codes " is this very forwarder, which would ask itself\n")

abbrev pub refused_text : List ℕ → List ℕ
refused_text line = codes "dns_forward: standard input: " ++ line

-- the sentence that tells why the program ends, which was to listen at these addresses and this port
abbrev pub sentence_of : (listened : List IpAddr) (port : ℕ) → Cause → List ℕ
sentence_of listened port (Refused line) = refused_text line.items
sentence_of listened port SourceFault = codes "dns_forward: standard input could not be read\n"
sentence_of listened port (Itself server) = itself_text server
sentence_of listened port (Deaf at fault) = deaf_text listened port at fault
sentence_of listened port NoMemory = codes "dns_forward: memory ran out\n"
sentence_of listened port NumbersUsed = codes "dns_forward: numbers are used up\n"

abbrev pub output_sentence : List ℕ
output_sentence = codes "dns_forward: standard output could not be written\n"

-- what is told of the lines of a configuration
abbrev pub note_line : Note → List ℕ
note_line note = codes "dns_forward: " ++ (note_text note ++ codes "\n")

abbrev pub notes_text : List Note → List ℕ
notes_text notes = flat_map note_line notes
