-- A history of a forwarder for which no server is configured.
use Rattle.std.specs.Prelude.{ℕ, false, List, [], ◌∷◌, Some, None, Err}
use Rattle.client_request.specs.declared.error.Error.TheVariants.{NoTransportAvailable}
use Rattle.client_request.specs.declared.event.Event.{Event}
use Rattle.client_request.specs.declared.event.Out.TheVariants.{Reply}
use Rattle.client_request.specs.declared.event.Row.{Row}
use Rattle.client_request.specs.declared.event.What.TheVariants.{Ask}
use Rattle.client_settings.specs.Settings.{default_cache, default_redundant}
use Rattle.client_steps.specs.Whole.{Whole, started}
use Rattle.front_core.specs.Forwarded.{Forwards}
use Rattle.front_peers.specs.declared.event.FrontEvent.{FrontEvent}
use Rattle.front_peers.specs.declared.event.FrontOut.TheVariants.{Answer}
use Rattle.front_peers.specs.declared.event.FrontRow.{FrontRow}
use Rattle.front_peers.specs.declared.event.FrontWhat.TheVariants.{Datagram}
use Rattle.front_queries.specs.Query.{Query}
use Rattle.front_queries.specs.Requests.{request_of}
use Rattle.front_steps.specs.Steps.{Forwarding, beginning}
use Rattle.proof_forwarding.specs.Isolation.{AreEventsAlike}
use Rattle.resolv_conf.specs.Conf.{default_options}
use Rattle.resolv_conf.specs.declared.conf.ResolvConf.{ResolvConf}

-- "a A IN", by the id 0x1234, with RD
abbrev pub asking : List ℕ
asking = 18 ∷ 52 ∷ 1 ∷ 0 ∷ 0 ∷ 1 ∷ 0 ∷ 0 ∷ 0 ∷ 0 ∷ 0 ∷ 0 ∷ 1 ∷ 97 ∷ 0 ∷ 0 ∷ 1 ∷ 0 ∷ 1 ∷ []

abbrev pub query : Query
query = record { header = 18 ∷ 52 ∷ 1 ∷ 0 ∷ []; asked = record { name = (97 ∷ []) ∷ []; rtype = 1; class = 1 }; extension = None }

-- the same with SERVFAIL
abbrev pub failing : List ℕ
failing = 18 ∷ 52 ∷ 129 ∷ 2 ∷ 0 ∷ 1 ∷ 0 ∷ 0 ∷ 0 ∷ 0 ∷ 0 ∷ 0 ∷ 1 ∷ 97 ∷ 0 ∷ 0 ∷ 1 ∷ 0 ∷ 1 ∷ []

-- the same query with an OPT record of size 1232, and its answer
abbrev pub asking_sized : List ℕ
asking_sized = 18 ∷ 52 ∷ 1 ∷ 0 ∷ 0 ∷ 1 ∷ 0 ∷ 0 ∷ 0 ∷ 0 ∷ 0 ∷ 1 ∷ 1 ∷ 97 ∷ 0 ∷ 0 ∷ 1 ∷ 0 ∷ 1 ∷ 0 ∷ 0 ∷ 41 ∷ 4 ∷ 208 ∷ 0 ∷ 0 ∷ 0 ∷ 0 ∷ 0 ∷ 0 ∷ []

abbrev pub query_sized : Query
query_sized = record { header = 18 ∷ 52 ∷ 1 ∷ 0 ∷ []; asked = record { name = (97 ∷ []) ∷ []; rtype = 1; class = 1 }; extension = Some (record { udp_payload_size = 1232; dnssec_ok = false }) }

abbrev pub failing_sized : List ℕ
failing_sized = 18 ∷ 52 ∷ 129 ∷ 2 ∷ 0 ∷ 1 ∷ 0 ∷ 0 ∷ 0 ∷ 0 ∷ 0 ∷ 1 ∷ 1 ∷ 97 ∷ 0 ∷ 0 ∷ 1 ∷ 0 ∷ 1 ∷ 0 ∷ 0 ∷ 41 ∷ 4 ∷ 208 ∷ 0 ∷ 0 ∷ 0 ∷ 0 ∷ 0 ∷ 0 ∷ []

abbrev pub no_server : ResolvConf
no_server = record { servers = []; options = default_options }

abbrev pub first : Whole
first = started default_redundant default_cache no_server

-- a row of the client, and one of the forwarder
abbrev pub asked : Event
asked = record { moment = record { 0 = 0 }; what = Ask (request_of query) }

abbrev pub replied : Row
replied = record { event = asked; outs = Reply 0 (Err NoTransportAvailable) ∷ [] }

abbrev pub came : List ℕ → FrontEvent
came octets = record { moment = record { 0 = 0 }; what = Datagram 1 octets }

abbrev pub answered : (octets answer : List ℕ) → FrontRow
answered octets answer = record { event = came octets; outs = Answer 1 answer ∷ [] }

-- A forwarder makes this row.
pub record IsMade (words : ℕ → ℕ) (octets answer : List ℕ) : Type 0 where
  pub last : Forwarding Whole
  pub left : ℕ → ℕ
  pub made : Forwards (beginning first) words (answered octets answer ∷ []) (replied ∷ []) last left

-- Either query comes, and their events are alike.
pub record WorkedForwarding (words : ℕ → ℕ) : Type 0 where
  pub plain : IsMade words asking failing
  pub sized : IsMade words asking_sized failing_sized
  pub alike : AreEventsAlike 1 (answered asking failing ∷ []) (answered asking_sized failing_sized ∷ [])

abbrev pub WorkedForwardings : Type 0
WorkedForwardings = (words : ℕ → ℕ) → WorkedForwarding words
