-- Whether two events are the same: part by part, in all that was recorded of them.
use Rattle.std.specs.Prelude.{◌≡◌, ℕ, Bool, true, false, ◌==◌, ◌&&◌, List, Option, Some, None}
use Rattle.dns_base.specs.OptRecord.{OptFields}
use Rattle.client_request.specs.Request.{Request}
use Rattle.client_request.specs.declared.fault.Fault.{Fault}
use Rattle.client_request.specs.declared.fault.Fault.TheVariants as fault
use Rattle.client_request.specs.declared.event.{Event.Event, What.What}
use Rattle.client_request.specs.declared.event.What.TheVariants.{Ask, Opened, OpenFailed, SendFailed, ShortSend, Datagram, RecvFailed, Wrote, WriteFailed, Bytes, ReadFailed, Ended, Tick}
use Rattle.message_judging.specs.matching.Shapes.{same_octets}
use Rattle.trace_points.specs.questions.Outs.{Tells}

abbrev pub same_fields : OptFields → OptFields → Bool
same_fields a b =
    (a.udp_payload_size == b.udp_payload_size)
    && ((a.ext_rcode == b.ext_rcode) && ((a.version == b.version) && ((a.flags == b.flags) && same_octets a.options b.options)))

abbrev pub same_opt : Option OptFields → Option OptFields → Bool
same_opt None None = true
same_opt (Some a) (Some b) = same_fields a b
same_opt a b = false

-- the octets of the base, the recorded header, and the recorded OPT record, there or not
abbrev pub same_request : Request → Request → Bool
same_request a b = same_octets a.base b.base && (same_octets a.header b.header && same_opt a.opt b.opt)

-- faults in the order in which they are declared
abbrev pub number_of : Fault → ℕ
number_of fault.Refused = 0
number_of fault.Reset = 1
number_of fault.Unreachable = 2
number_of fault.InUse = 3
number_of fault.Broken = 4
number_of fault.Other = 5
number_of fault.Expired = 6
number_of fault.ShortSend = 7
number_of fault.NothingTaken = 8
number_of fault.EndOfData = 9

abbrev pub same_fault : Fault → Fault → Bool
same_fault a b = number_of a == number_of b

abbrev pub same_what : What → What → Bool
same_what (Ask r) (Ask s) = same_request r s
same_what (Opened p) (Opened q) = p == q
same_what (OpenFailed p f) (OpenFailed q g) = (p == q) && same_fault f g
same_what (SendFailed p f) (SendFailed q g) = (p == q) && same_fault f g
same_what (ShortSend p) (ShortSend q) = p == q
same_what (Datagram p o) (Datagram q u) = (p == q) && same_octets o u
same_what (RecvFailed p f) (RecvFailed q g) = (p == q) && same_fault f g
same_what (Wrote p n) (Wrote q m) = (p == q) && (n == m)
same_what (WriteFailed p f) (WriteFailed q g) = (p == q) && same_fault f g
same_what (Bytes p o) (Bytes q u) = (p == q) && same_octets o u
same_what (ReadFailed p f) (ReadFailed q g) = (p == q) && same_fault f g
same_what (Ended p) (Ended q) = p == q
same_what Tick Tick = true
same_what a b = false

abbrev pub same_event : Event → Event → Bool
same_event a b = (a.moment.0 == b.moment.0) && same_what a.what b.what

-- an answer tells whether it is so
abbrev pub TellsSame : Event → Event → Bool → Type 0
TellsSame a b t = Tells (a ≡ b) t
