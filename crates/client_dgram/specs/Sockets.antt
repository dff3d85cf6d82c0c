-- Sockets in memory: what they give call by call, how often they were called, and the count of their faults.
use Rattle.std.specs.Prelude.{◌≡◌, ℕ, List, [], ◌++◌, length, min, take, drop, Option, Some, None, Result, Ok, Err, slice_get}
use Rattle.std.specs.Option.{unwrap_or}
use Rattle.dns_values.specs.Source.{one_more}
use Rattle.client_request.specs.declared.fault.Fault.{Fault}

pub record Socket : Type 0 where
  pub received : List (Result (List ℕ) Fault)
  pub sends : List (Option Fault)
  pub recv_calls : ℕ
  pub send_calls : ℕ
  pub faults : ℕ

pub record Connecting : Type 0 where
  pub connects : List (Option Fault)
  pub calls : ℕ
  pub faults : ℕ

-- what the next call receives: no octet past the list's end
abbrev pub next_received : Socket → Result (List ℕ) Fault
next_received s = unwrap_or (slice_get s.received s.recv_calls) (Ok [])

-- the fault of the next call of a list, if it has one
abbrev pub fault_at : List (Option Fault) → ℕ → Option Fault
fault_at faults call = unwrap_or (slice_get faults call) None

abbrev pub next_send_fault : Socket → Option Fault
next_send_fault s = fault_at s.sends s.send_calls

abbrev pub next_connect_fault : Connecting → Option Fault
next_connect_fault c = fault_at c.connects c.calls

-- a datagram or a fault, as a call gives it: the front of the datagram stands over the front of the buffer
abbrev pub Receives : Result (List ℕ) Fault → (buffer after : List ℕ) → Result ℕ Fault → Type 0
Receives (Ok octets) buffer after answer = (answer ≡ Ok (min (length buffer) (length octets)))
    × (after ≡ take (min (length buffer) (length octets)) octets ++ drop (min (length buffer) (length octets)) buffer)
Receives (Err fault) buffer after answer = (answer ≡ Err fault) × (after ≡ buffer)

-- a value, or the fault that stands in its place
abbrev pub or_fault : {T : Type 0} → T → Option Fault → Result T Fault
or_fault value None = Ok value
or_fault value (Some fault) = Err fault

-- the count after a call with this answer, or this fault
abbrev pub after_answer : {T : Type 0} → Result T Fault → ℕ → ℕ
after_answer (Ok value) count = count
after_answer (Err fault) count = one_more count

-- a socket that receives no octet and sends all
abbrev pub quiet_socket : Socket
quiet_socket = record { received = []; sends = []; recv_calls = 0; send_calls = 0; faults = 0 }
