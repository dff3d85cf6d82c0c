-- The servers of a configuration, each by its transports, beside their parts.
use Rattle.std.specs.Prelude.{◌≡◌, ℕ, Option, Some, None}
use Rattle.client_request.specs.Request.{Request}
use Rattle.client_request.specs.Requests.{for_one}
use Rattle.client_request.specs.View.{View, Transport}
use Rattle.client_request.specs.declared.event.Via.{Via}
use Rattle.client_request.specs.declared.event.Via.TheVariants as via
use Rattle.client_dgram.specs.Plain as dgram
use Rattle.client_multi.specs.DgramStream as dgram_stream
use Rattle.client_multi.specs.MultiStream as multi_stream
use Rattle.right_settings.specs.Given.{streams_of}
use Rattle.right_trace.specs.Orderly.{use_at}
use Rattle.right_trace.specs.Trace.{Conf, Use, ByDatagrams, ByStreams}
use Rattle.proof_right.specs.machine.Served.{Served}
use Rattle.proof_parts.specs.PartTie.{Phase}
use Rattle.proof_parts.specs.Sights.{Sight}
use Rattle.proof_multi.specs.Tied.{TiedAs, names_of, owns}
use Rattle.proof_client.specs.Fallbacks.{both_of, FallsBack, named_by, OwnsOne}
use Rattle.client_steps.specs.Upstream as upstream
use Rattle.client_steps.specs.Upstream.{by_both, by_streams, leaves}
use Rattle.client_steps.specs.declared.upstream.Handed.{Handed}
use Rattle.client_steps.specs.declared.upstream.Handed.TheVariants as handed
use Rattle.client_steps.specs.declared.upstream.Upstream.{Upstream}
use Rattle.client_steps.specs.declared.upstream.Upstream.TheVariants as server

-- A server that is not told first that a request is started, and that gives requests up by their tickets alone.

abbrev pub bare_send : Request → Upstream Request → View → Option (Upstream Request × View)
bare_send r (server.Dgram d) v = leaves server.Dgram (dgram.plain_send for_one r d v)
bare_send r (server.Stream m) v = leaves server.Stream ((by_streams for_one).send r m v)
bare_send r (server.DgramStream f) v = leaves server.DgramStream ((by_both for_one).send r f v)

abbrev pub bare_cancel : Handed → Upstream Request → View → Option (Upstream Request × View)
bare_cancel r (server.Dgram d) v = leaves server.Dgram (dgram.plain_cancel (upstream.ticket_of r) d v)
bare_cancel r (server.Stream m) v = leaves server.Stream ((by_streams for_one).cancel (record { ticket = upstream.ticket_of r; given = upstream.has_given r }) m v)
bare_cancel r (server.DgramStream f) v = leaves server.DgramStream ((by_both for_one).cancel (record { ticket = upstream.ticket_of r; given = upstream.has_given r }) f v)

abbrev pub bare : Transport Request (Upstream Request) Handed
bare = record { send = bare_send; step = upstream.plain_step for_one; cancel = bare_cancel; response = upstream.response for_one }

-- how a server is used first, and how it begins
abbrev pub via_by : Option Use → Via
via_by (Some ByStreams) = via.Stream
via_by _ = via.Dgram

abbrev pub first_by : (several : ℕ) → Conf → (s : ℕ) → Option Use → Upstream Request
first_by several c s (Some ByStreams) = server.Stream (multi_stream.started s (streams_of several c))
first_by several c s _ = server.DgramStream (dgram_stream.started s (both_of several c))

-- it is server s, by the transports that it is used by; and so is what stands for a result of it
abbrev pub IsPlacedBy : (s : ℕ) → Option Use → Upstream Request → Type 0
IsPlacedBy s (Some ByStreams) (server.Stream m) = m.server ≡ s
IsPlacedBy s (Some ByDatagrams) (server.DgramStream f) = f.server ≡ s
IsPlacedBy s _ _ = ⊥

abbrev pub FitsBy : Option Use → Handed → Type 0
FitsBy (Some ByStreams) (handed.Stream r) = Unit {0}
FitsBy (Some ByDatagrams) (handed.DgramStream r) = Unit {0}
FitsBy _ _ = ⊥

-- the number of the request of each ticket, and the timers that it has
abbrev pub names_at : (c : Conf) → Upstream Request → ℕ → Option ℕ
names_at c (server.Dgram d) = λ t. None
names_at c (server.Stream m) = names_of m
names_at c (server.DgramStream f) = named_by c 0 f

abbrev pub OwnsAt : (c : Conf) → Upstream Request → ℕ → Type 0
OwnsAt c (server.Dgram d) i = ⊥
OwnsAt c (server.Stream m) i = owns m i
OwnsAt c (server.DgramStream f) i = OwnsOne c 0 f i

-- Server s is tied to its part by the transports that it is used by.
abbrev pub TiedBy : (c : Conf) (how : Option Use) → (s : ℕ) → Phase → Upstream Request → Sight → Served → Type 0
TiedBy c (Some ByStreams) s phase (server.Stream m) x a = TiedAs c s phase m x a
TiedBy c (Some ByDatagrams) s phase (server.DgramStream f) x a = FallsBack c s phase f x a
TiedBy c _ s phase u x a = ⊥

module _ (c : Conf) where
  abbrev pub via_at : ℕ → Via
  via_at s = via_by (use_at s c.servers)

  abbrev pub first_at : (several s : ℕ) → Upstream Request
  first_at several s = first_by several c s (use_at s c.servers)

  abbrev pub IsPlaced : ℕ → Upstream Request → Type 0
  IsPlaced s u = IsPlacedBy s (use_at s c.servers) u

  abbrev pub Fits : ℕ → Handed → Type 0
  Fits s r = FitsBy (use_at s c.servers) r

  abbrev pub TiedAt : ℕ → Phase → Upstream Request → Sight → Served → Type 0
  TiedAt s phase u x a = TiedBy c (use_at s c.servers) s phase u x a
