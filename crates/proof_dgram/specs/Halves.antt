-- The two halves of a server that falls back to streams: what it does by streams alone it does beside any datagrams.
use Rattle.std.specs.Prelude.{◌≡◌, ℕ, ◌+◌, ◌<◌, Some, None}
use Rattle.client_request.specs.Request.{Request}
use Rattle.right_trace.specs.Orderly.{use_at}
use Rattle.right_trace.specs.Time.{read_timeout}
use Rattle.right_trace.specs.Trace.{Conf, ByStreams}
use Rattle.proof_right.specs.machine.Part.{Act}
use Rattle.proof_right.specs.machine.Dgrams.{Sent, Cut, Tryer, Dgrams, no_datagram, forget, IsIgnored}
use Rattle.proof_right.specs.machine.Served.{Served, served, Acts, Starts, Cancels, RestsNow}
use Rattle.proof_parts.specs.Chains.{Chain}
use Rattle.proof_dgram.specs.AtServer.{with_dgrams, DgramsRest}

-- it has no datagrams
abbrev pub IsByStreams : Served → Type 0
IsByStreams u = u.server.by_dgram ≡ no_datagram

-- what was made beside other datagrams
abbrev pub beside : Dgrams → Act Served → Act Served
beside d e = record e { state = with_dgrams d e.state }

-- no request is at its read timeout
abbrev pub AreInTime : (c : Conf) (n : ℕ) → Dgrams → Type 0
AreInTime c n d = (k : ℕ) (a : Tryer) (p id t : ℕ) → d.held k ≡ Some a → a.stage ≡ Sent p id t → n < t + read_timeout c

pub record StreamsMove : Type 0 where
  -- moves of its own, where the event is nothing to the datagrams and none of them is at its read timeout
  pub chain : (c b : Conf) → b.transports ≡ c.transports → (s place : ℕ) (u : Served) (d : Dgrams) (e : Act Served) → IsByStreams u → IsIgnored c u.pending d → AreInTime c u.clock d → Chain (served b) s place u e → IsByStreams e.state × Chain (served c) s place (with_dgrams d u) (beside d e)
  -- a request that is handed to the streams is one whose answer was cut
  pub falls : (b c : Conf) (s place k : ℕ) (r : Request) (u : Served) (d : Dgrams) (a : Tryer) (e : Act Served) → use_at s b.servers ≡ Some ByStreams → IsByStreams u → d.held k ≡ Some a → a.stage ≡ Cut → a.request ≡ r → Starts b s place k r u e → IsByStreams e.state × Acts c s place (with_dgrams d u) (beside (forget k d) e)
  -- one is given up
  pub cancels : (s place k : ℕ) (u : Served) (d : Dgrams) (e : Act Served) → IsByStreams u → d.held k ≡ None → Cancels s place k u e → IsByStreams e.state × Cancels s place k (with_dgrams d u) (beside d e)
  -- both rest
  pub rests : (b c : Conf) → b.transports ≡ c.transports → (u : Served) (d : Dgrams) → RestsNow b u → DgramsRest c u.clock d → IsIgnored c u.pending d → RestsNow c (with_dgrams d u)
