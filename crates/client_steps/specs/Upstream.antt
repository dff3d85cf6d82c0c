-- The plain machine of one server, by the transport that is used for it.
use Rattle.std.specs.Prelude.{ℕ, Bool, false, Option, Some, option_map}
use Rattle.client_request.specs.Requests.{Requests}
use Rattle.client_request.specs.View.{View, Heard, Transport, asks}
use Rattle.client_request.specs.declared.event.Out.TheVariants.{Start}
use Rattle.client_request.specs.declared.event.Via.{Via}
use Rattle.client_request.specs.declared.event.Via.TheVariants as via
use Rattle.client_dgram.specs.Plain as dgram
use Rattle.client_stream.specs.Plain as stream
use Rattle.client_multi.specs.DgramStream.{DgramStream}
use Rattle.client_multi.specs.Fallback as fallback
use Rattle.client_multi.specs.Links.{Link, one_stream}
use Rattle.client_multi.specs.MultiStream as multi_stream
use Rattle.client_steps.specs.declared.upstream.Handed.{Handed}
use Rattle.client_steps.specs.declared.upstream.Handed.TheVariants as handed
use Rattle.client_steps.specs.declared.upstream.Upstream.{Upstream}
use Rattle.client_steps.specs.declared.upstream.Upstream.TheVariants as server

-- whether a transport gave up
abbrev pub dgram_failed : {R : Type 0} → dgram.Dgram R → Bool
dgram_failed c = c.failed

abbrev pub stream_failed : {R : Type 0} → multi_stream.MultiStream R (Link R) → Bool
stream_failed c = c.failed

module _ {R : Type 0} where
  abbrev pub has_failed : Upstream R → Bool
  has_failed (server.Dgram c) = c.failed
  has_failed (server.Stream c) = c.failed
  has_failed (server.DgramStream c) = c.failed

  -- the number that its outs name, and by which kind of transport a request is tried first
  abbrev pub server_of : Upstream R → ℕ
  server_of (server.Dgram c) = c.server
  server_of (server.Stream c) = c.server
  server_of (server.DgramStream c) = c.server

  abbrev pub via_of : Upstream R → Via
  via_of (server.Dgram c) = via.Dgram
  via_of (server.Stream c) = via.Stream
  via_of (server.DgramStream c) = via.Dgram

  -- whether it, or a transport that it holds, gave up
  abbrev pub holds_failed : Upstream R → Bool
  holds_failed (server.Dgram c) = c.failed
  holds_failed (server.Stream c) = c.failed
  holds_failed (server.DgramStream c) = fallback.holds_failed dgram_failed stream_failed c

  -- what a call leaves of a transport is what it leaves of the server
  abbrev pub leaves : {T : Type 0} → (T → Upstream R) → Option (T × View) → Option (Upstream R × View)
  leaves server after = option_map (λ x. (server x.0, x.1)) after

-- the ticket under which its result comes, and whether it was given
abbrev pub ticket_of : Handed → ℕ
ticket_of (handed.Dgram r) = r.ticket
ticket_of (handed.Stream r) = r.ticket
ticket_of (handed.DgramStream r) = r.ticket

abbrev pub has_given : Handed → Bool
has_given (handed.Dgram r) = r.given
has_given (handed.Stream r) = r.given
has_given (handed.DgramStream r) = r.given

module _ {R : Type 0} (requests : Requests R) where
  -- one server by streams, and by datagrams with streams
  abbrev pub by_streams : Transport R (multi_stream.MultiStream R (Link R)) stream.Asked
  by_streams = multi_stream.transport (one_stream requests)

  abbrev pub by_both : Transport R (DgramStream R) fallback.Asked
  by_both = fallback.transport (dgram.transport requests) by_streams

  -- A request is handed to a server, which is told first.
  abbrev pub started : ℕ → Via → View → View
  started number via v = asks (Start v.request number via) v

  abbrev pub plain_send : R → Upstream R → View → Option (Upstream R × View)
  plain_send request (server.Dgram c) v = leaves server.Dgram (dgram.plain_send requests request c (started c.server via.Dgram v))
  plain_send request (server.Stream c) v = leaves server.Stream (by_streams.send request c (started c.server via.Stream v))
  plain_send request (server.DgramStream c) v = leaves server.DgramStream (by_both.send request c (started c.server via.Dgram v))

  abbrev pub plain_step : Heard → Upstream R → View → Option (Upstream R × View)
  plain_step h (server.Dgram c) v = leaves server.Dgram (dgram.plain_step requests h c v)
  plain_step h (server.Stream c) v = leaves server.Stream (by_streams.step h c v)
  plain_step h (server.DgramStream c) v = leaves server.DgramStream (by_both.step h c v)

  -- A request is given up; one of another transport is none of this server's.
  abbrev pub plain_cancel : Handed → Upstream R → View → Option (Upstream R × View)
  plain_cancel (handed.Dgram r) (server.Dgram c) v = leaves server.Dgram (dgram.plain_cancel r.ticket c v)
  plain_cancel (handed.Stream r) (server.Stream c) v = leaves server.Stream (by_streams.cancel r c v)
  plain_cancel (handed.DgramStream r) (server.DgramStream c) v = leaves server.DgramStream (by_both.cancel r c v)
  plain_cancel r u v = Some (u, v)

  abbrev pub response : R → Upstream R → View → Handed
  response request (server.Dgram c) v = handed.Dgram (record { ticket = v.ticket; given = false })
  response request (server.Stream c) v = handed.Stream (by_streams.response request c v)
  response request (server.DgramStream c) v = handed.DgramStream (by_both.response request c v)

  abbrev pub transport : Transport R (Upstream R) Handed
  transport = record { send = plain_send; step = plain_step; cancel = plain_cancel; response = response }
