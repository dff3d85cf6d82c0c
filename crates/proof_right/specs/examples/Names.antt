-- A worked trace with a compressed name in the data of an AFSDB record (RFC 1183 1, RFC 3597 4): in a message of another layout the pointer names something else.
use Rattle.std.specs.Prelude.{ℕ, List, [], ◌∷◌, ◌++◌, Ok}
use Rattle.client_request.specs.Request.{Request}
use Rattle.client_request.specs.declared.event.What.TheVariants.{Ask}
use Rattle.client_request.specs.declared.event.Out.TheVariants.{Start, OpenDgram, Reply}
use Rattle.client_request.specs.declared.event.Row.{Row}
use Rattle.client_request.specs.declared.event.Via.TheVariants.{Dgram}
use Rattle.right_trace.specs.Messages.{Octets}
use Rattle.proof_right.specs.examples.Messages.{question, opt_of_size, asking_for}
use Rattle.proof_right.specs.examples.Rows.{at}
use Rattle.proof_right.specs.examples.Cache.{answered_at_once}

abbrev pub afsdb_request : Request
afsdb_request = asking_for 18 0

-- the request as a datagram under the id 4660
abbrev pub afsdb_datagram : Octets
afsdb_datagram = 18 ∷ 52 ∷ 1 ∷ 0 ∷ 0 ∷ 1 ∷ 0 ∷ 0 ∷ 0 ∷ 0 ∷ 0 ∷ 1 ∷ question 18 ++ opt_of_size 4 208

-- an answer to it of one record, with this owner, TTL and data
abbrev pub afsdb_answer : (owner : Octets) → (ttl : ℕ) → (data_size : ℕ) → (rdata : Octets) → Octets
afsdb_answer owner ttl size rdata =
    18 ∷ 52 ∷ 129 ∷ 128 ∷ 0 ∷ 1 ∷ 0 ∷ 1 ∷ 0 ∷ 0 ∷ 0 ∷ 0 ∷ question 18 ++ owner ++ 0 ∷ 18 ∷ 0 ∷ 1 ∷ 0 ∷ 0 ∷ 0 ∷ ttl ∷ 0 ∷ size ∷ rdata

-- what the server says, 1 mail.com: its owner stands written out, and the data points at the com of that, in octet 37
abbrev pub pointing : Octets
pointing = afsdb_answer (7 ∷ 101 ∷ 120 ∷ 97 ∷ 109 ∷ 112 ∷ 108 ∷ 101 ∷ 3 ∷ 99 ∷ 111 ∷ 109 ∷ 0 ∷ []) 100 9 (0 ∷ 1 ∷ 4 ∷ 109 ∷ 97 ∷ 105 ∷ 108 ∷ 192 ∷ 37 ∷ [])

-- the same for so many seconds, with its owner compressed: the name in the data stands written out
abbrev pub written_out : (ttl : ℕ) → Octets
written_out ttl = afsdb_answer (192 ∷ 12 ∷ []) ttl 12 (0 ∷ 1 ∷ 4 ∷ 109 ∷ 97 ∷ 105 ∷ 108 ∷ 3 ∷ 99 ∷ 111 ∷ 109 ∷ 0 ∷ [])

-- or the pointer is copied: octet 37 is one of the TTL here, 0, which is the root, so this says 1 mail
abbrev pub pointer_copied : (ttl : ℕ) → Octets
pointer_copied ttl = afsdb_answer (192 ∷ 12 ∷ []) ttl 9 (0 ∷ 1 ∷ 4 ∷ 109 ∷ 97 ∷ 105 ∷ 108 ∷ 192 ∷ 37 ∷ [])

-- the request is answered; it is asked again after 30 and after 100 seconds, and then, too late, after 101
abbrev pub named_again : List Row
named_again =
    answered_at_once afsdb_request afsdb_datagram pointing
    ++ at 30000000 (Ask afsdb_request) (Reply 1 (Ok (written_out 70)) ∷ [])
    ∷ at 100000000 (Ask afsdb_request) (Reply 2 (Ok (written_out 0)) ∷ [])
    ∷ at 101000000 (Ask afsdb_request) (Start 3 0 Dgram ∷ OpenDgram 1 0 ∷ [])
    ∷ []

-- half a minute later the pointer is copied
abbrev pub renamed : List Row
renamed = answered_at_once afsdb_request afsdb_datagram pointing ++ at 30000000 (Ask afsdb_request) (Reply 1 (Ok (pointer_copied 70)) ∷ []) ∷ []
