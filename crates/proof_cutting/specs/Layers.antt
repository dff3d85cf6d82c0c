-- The same of what the client has above: a fallback, one server, and its cache over its choice.
use Rattle.std.specs.Prelude.{ℕ, List, Option, None}
use Rattle.client_request.specs.Request.{Request}
use Rattle.client_multi.specs.DgramStream.{DgramStream}
use Rattle.client_steps.specs.Whole.{Layer}
use Rattle.client_steps.specs.declared.upstream.Upstream.{Upstream}
use Rattle.client_steps.specs.declared.upstream.Upstream.TheVariants as server
use Rattle.proof_cutting.specs.Choices.{choice_octets, longer_choice, IsFitChoice, cached_octets, longer_cached, IsFitCached}
use Rattle.proof_cutting.specs.Standing.{stream_octets, longer_stream, IsFitStream}

-- ---- a server by datagrams and streams

abbrev pub both_octets : (place : ℕ) → DgramStream Request → Option (List ℕ)
both_octets place f = stream_octets place f.parts.stream

abbrev pub longer_both : (place : ℕ) → (piece : List ℕ) → DgramStream Request → DgramStream Request
longer_both place piece f = record f { parts = record f.parts { stream = longer_stream place piece f.parts.stream } }

abbrev pub IsFitBoth : DgramStream Request → (timer : ℕ) → Type 0
IsFitBoth f timer = IsFitStream f.parts.stream timer

-- ---- one server

abbrev pub server_octets : (place : ℕ) → Upstream Request → Option (List ℕ)
server_octets place (server.Dgram d) = None
server_octets place (server.Stream s) = stream_octets place s
server_octets place (server.DgramStream f) = both_octets place f

abbrev pub longer_server : (place : ℕ) → (piece : List ℕ) → Upstream Request → Upstream Request
longer_server place piece (server.Dgram d) = server.Dgram d
longer_server place piece (server.Stream s) = server.Stream (longer_stream place piece s)
longer_server place piece (server.DgramStream f) = server.DgramStream (longer_both place piece f)

abbrev pub IsFitServer : Upstream Request → (timer : ℕ) → Type 0
IsFitServer (server.Dgram d) timer = Unit {0}
IsFitServer (server.Stream s) timer = IsFitStream s timer
IsFitServer (server.DgramStream f) timer = IsFitBoth f timer

-- ---- the client's cache over its choice over its servers

abbrev pub layer_octets : (place : ℕ) → Layer → Option (List ℕ)
layer_octets place c = cached_octets (choice_octets (server_octets place)) c

abbrev pub longer_layer : (place : ℕ) → (piece : List ℕ) → Layer → Layer
longer_layer place piece c = longer_cached (longer_choice (longer_server place)) piece c

abbrev pub IsFitLayer : (place : ℕ) → Layer → (timer : ℕ) → Type 0
IsFitLayer place c timer = IsFitCached (IsFitChoice (server_octets place) IsFitServer) c timer
