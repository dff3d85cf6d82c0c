-- The servers of a configuration are those of a choice: each is tied by the transports that it is used by.
use Rattle.std.proofs.Common.{◌≡◌, ℕ, zero, suc, ◌<◌, ◌⊎◌, inr, List, [], ◌∷◌, length, Option, Some, None, refl, ap, arith}
use Rattle.client_request.specs.Request.{Request}
use Rattle.client_request.specs.Requests.{for_one}
use Rattle.client_request.specs.View.{View, asks}
use Rattle.client_request.specs.declared.event.Out.TheVariants.{Start}
use Rattle.client_request.specs.declared.event.Via.TheVariants as via
use Rattle.client_settings.specs.Settings.{CacheSettings, RedundantSettings}
use Rattle.client_stream.specs.Plain as stream
use Rattle.client_multi.specs.DgramStream as dgram_stream
use Rattle.client_multi.specs.DgramStream.{DgramStream}
use Rattle.client_multi.specs.Fallback as fallback
use Rattle.client_multi.specs.MultiStream as multi_stream
use Rattle.right_settings.specs.Given.{streams_of}
use Rattle.right_trace.specs.Orderly.{use_at}
use Rattle.right_trace.specs.Trace.{Conf, Use, ByDatagrams, ByStreams}
use Rattle.proof_right.specs.machine.Served.{Served, served}
use Rattle.proof_parts.specs.PartTie.{Phase, IsTie}
use Rattle.proof_parts.specs.Places.{has_place}
use Rattle.proof_parts.specs.Sharing.{IsShared}
use Rattle.proof_parts.specs.Sights.{Sight}
use Rattle.proof_parts.proofs.Opening.{servers_open_next}
use Rattle.proof_choice.specs.Choosing.{Choosing, IsStarting}
use Rattle.proof_multi.specs.Tied.{Streams, TiedAs, names_of, owns}
use Rattle.proof_multi.proofs.Fields.{stream_of}
use Rattle.proof_multi.proofs.StreamsShared.{streams_are_shared}
use Rattle.proof_multi.proofs.StreamsTied.{streams_are_tied}
use Rattle.client_steps.specs.Headline.{settings_of}
use Rattle.client_steps.specs.Upstream as upstream
use Rattle.client_steps.specs.Upstream.{by_both, by_streams, leaves}
use Rattle.client_steps.specs.declared.upstream.Handed.{Handed}
use Rattle.client_steps.specs.declared.upstream.Handed.TheVariants as handed
use Rattle.client_steps.specs.declared.upstream.Upstream.{Upstream}
use Rattle.client_steps.specs.declared.upstream.Upstream.TheVariants as server
use Rattle.proof_client.specs.Fallbacks.{both_of, FallsBack, named_by, OwnsOne}
use Rattle.proof_client.specs.Upstreams.{bare, via_by, first_by, IsPlacedBy, FitsBy, names_at, OwnsAt, TiedBy, via_at, first_at, IsPlaced, Fits, TiedAt}
use Rattle.proof_client.proofs.Datagrams.{fallbacks_are_tied, fallbacks_are_shared}
use Rattle.proof_client.proofs.Lifting.{IsRaised, raised_is_tied, raised_is_shared}

-- what stands for a result, below
abbrev stream_asked : Handed → stream.Asked
stream_asked q = record { ticket = upstream.ticket_of q; given = upstream.has_given q }

abbrev both_asked : Handed → fallback.Asked
both_asked q = record { ticket = upstream.ticket_of q; given = upstream.has_given q }

knows_at : (c : Conf) (u : Upstream Request) (i : ℕ) → OwnsAt c u i ⊎ (OwnsAt c u i → ⊥)
knows_at c (server.Dgram d) i = inr (λ own. own)
knows_at c (server.Stream m) i = (streams_are_shared c 0).knows m i
knows_at c (server.DgramStream f) i = knows_both f i
  where
    -- a server by datagrams
    one : Conf
    one = record { servers = ByDatagrams ∷ []; timeout = 0; transports = c.transports }

    knows_both : (f : DgramStream Request) (i : ℕ) → OwnsOne c 0 f i ⊎ (OwnsOne c 0 f i → ⊥)
    knows_both = (fallbacks_are_shared one 0 refl).knows

answered : (r : Request) (u : Upstream Request) (v : View) → upstream.ticket_of (bare.response r u v) ≡ v.ticket
answered r (server.Dgram d) v = refl
answered r (server.Stream m) v = refl
answered r (server.DgramStream f) v = refl

module _ (c : Conf) (s : ℕ) where
  out_of_streams : (phase : Phase) (u : Upstream Request) (x : Sight) (a : Served) → TiedBy c (Some ByStreams) s phase u x a → (m : Streams) × (u ≡ server.Stream m) × TiedAs c s phase m x a
  out_of_streams phase (server.Dgram d) x a l = absurd l
  out_of_streams phase (server.Stream m) x a l = (m, refl, l)
  out_of_streams phase (server.DgramStream f) x a l = absurd l

  out_of_both : (phase : Phase) (u : Upstream Request) (x : Sight) (a : Served) → TiedBy c (Some ByDatagrams) s phase u x a → (f : DgramStream Request) × (u ≡ server.DgramStream f) × FallsBack c s phase f x a
  out_of_both phase (server.Dgram d) x a l = absurd l
  out_of_both phase (server.Stream m) x a l = absurd l
  out_of_both phase (server.DgramStream f) x a l = (f, refl, l)

  streams_raised : IsRaised (served c) (by_streams for_one) (λ (r : stream.Asked). r.ticket) (TiedAs c s) names_of owns bare upstream.ticket_of (TiedBy c (Some ByStreams) s) (names_at c) (OwnsAt c) server.Stream stream_asked
  streams_raised = record {
    out = out_of_streams;
    into = λ phase m x a l. l;
    names_are = λ m. refl;
    owns_below = λ m i own. own;
    owns_above = λ m i own. own;
    knows = knows_at c;
    send = λ r m v. refl;
    step = λ h m v. refl;
    cancel = λ q m v. refl;
    numbers = λ q. refl;
    response = answered;
  }

  both_raised : IsRaised (served c) (by_both for_one) (λ (r : fallback.Asked). r.ticket) (FallsBack c s) (named_by c s) (OwnsOne c s) bare upstream.ticket_of (TiedBy c (Some ByDatagrams) s) (names_at c) (OwnsAt c) server.DgramStream both_asked
  both_raised = record {
    out = out_of_both;
    into = λ phase f x a l. l;
    names_are = λ f. refl;
    owns_below = λ f i own. own;
    owns_above = λ f i own. own;
    knows = knows_at c;
    send = λ r f v. refl;
    step = λ h f v. refl;
    cancel = λ q f v. refl;
    numbers = λ q. refl;
    response = answered;
  }

  pub tied_by : (several : ℕ) (o : Option Use) → use_at s c.servers ≡ o → (o ≡ None → ⊥) → IsTie (served c) s (via_by o) bare upstream.ticket_of (first_by several c s o) (TiedBy c o s) (names_at c) (OwnsAt c)
  tied_by several None e some = absurd (some refl)
  tied_by several (Some ByStreams) e some =
      raised_is_tied (served c) (by_streams for_one) (λ (r : stream.Asked). r.ticket) (TiedAs c s) names_of owns bare upstream.ticket_of (TiedBy c (Some ByStreams) s) (names_at c) (OwnsAt c) server.Stream stream_asked streams_raised
      s via.Stream (multi_stream.started s (streams_of several c)) (streams_are_tied c s several e)
  tied_by several (Some ByDatagrams) e some =
      raised_is_tied (served c) (by_both for_one) (λ (r : fallback.Asked). r.ticket) (FallsBack c s) (named_by c s) (OwnsOne c s) bare upstream.ticket_of (TiedBy c (Some ByDatagrams) s) (names_at c) (OwnsAt c) server.DgramStream both_asked both_raised
      s via.Dgram (dgram_stream.started s (both_of several c)) (fallbacks_are_tied c s several e)

  pub shared_by : (o : Option Use) → use_at s c.servers ≡ o → (o ≡ None → ⊥) → IsShared (served c) has_place bare (TiedBy c o s) (OwnsAt c)
  shared_by None e some = absurd (some refl)
  shared_by (Some ByStreams) e some =
      raised_is_shared (served c) (by_streams for_one) (λ (r : stream.Asked). r.ticket) (TiedAs c s) names_of owns bare upstream.ticket_of (TiedBy c (Some ByStreams) s) (names_at c) (OwnsAt c) server.Stream stream_asked streams_raised has_place (streams_are_shared c s)
  shared_by (Some ByDatagrams) e some =
      raised_is_shared (served c) (by_both for_one) (λ (r : fallback.Asked). r.ticket) (FallsBack c s) (named_by c s) (OwnsOne c s) bare upstream.ticket_of (TiedBy c (Some ByDatagrams) s) (names_at c) (OwnsAt c) server.DgramStream both_asked both_raised has_place (fallbacks_are_shared c s e)

  pub placed_by : (o : Option Use) (phase : Phase) (u : Upstream Request) (x : Sight) (a : Served) → TiedBy c o s phase u x a → IsPlacedBy s o u
  placed_by None phase u x a l = absurd l
  placed_by (Some ByStreams) phase (server.Dgram d) x a l = absurd l
  placed_by (Some ByStreams) phase (server.Stream m) x a l = server_at phase m x a l
    where
      server_at : (phase : Phase) (m : Streams) (x : Sight) (a : Served) → TiedAs c s phase m x a → m.server ≡ s
      server_at phase m x a l = (stream_of c s phase m x a l).server
  placed_by (Some ByStreams) phase (server.DgramStream f) x a l = absurd l
  placed_by (Some ByDatagrams) phase (server.Dgram d) x a l = absurd l
  placed_by (Some ByDatagrams) phase (server.Stream m) x a l = absurd l
  placed_by (Some ByDatagrams) phase (server.DgramStream f) x a l = l.server

  pub starts_by : (o : Option Use) → IsStarting s (via_by o) bare (upstream.transport for_one) (IsPlacedBy s o) (FitsBy o)
  starts_by o = record { send = send o; step = λ h u v. refl; cancel = cancel o; response = λ r u v. refl; fits = fits o }
    where
      send : (o : Option Use) (r : Request) (u : Upstream Request) (v : View) → IsPlacedBy s o u → (upstream.transport for_one).send r u v ≡ bare.send r u (asks (Start v.request s (via_by o)) v)
      send None r u v placed = absurd placed
      send (Some ByStreams) r (server.Dgram d) v placed = absurd placed
      send (Some ByStreams) r (server.Stream m) v placed = ap (λ n. leaves server.Stream ((by_streams for_one).send r m (asks (Start v.request n via.Stream) v))) placed
      send (Some ByStreams) r (server.DgramStream f) v placed = absurd placed
      send (Some ByDatagrams) r (server.Dgram d) v placed = absurd placed
      send (Some ByDatagrams) r (server.Stream m) v placed = absurd placed
      send (Some ByDatagrams) r (server.DgramStream f) v placed = ap (λ n. leaves server.DgramStream ((by_both for_one).send r f (asks (Start v.request n via.Dgram) v))) placed

      cancel : (o : Option Use) (q : Handed) (u : Upstream Request) (v : View) → IsPlacedBy s o u → FitsBy o q → (upstream.transport for_one).cancel q u v ≡ bare.cancel q u v
      cancel None q u v placed fits = absurd placed
      cancel (Some ByStreams) q (server.Dgram d) v placed fits = absurd placed
      cancel (Some ByStreams) (handed.Dgram r) (server.Stream m) v placed fits = absurd fits
      cancel (Some ByStreams) (handed.Stream r) (server.Stream m) v placed fits = refl
      cancel (Some ByStreams) (handed.DgramStream r) (server.Stream m) v placed fits = absurd fits
      cancel (Some ByStreams) q (server.DgramStream f) v placed fits = absurd placed
      cancel (Some ByDatagrams) q (server.Dgram d) v placed fits = absurd placed
      cancel (Some ByDatagrams) q (server.Stream m) v placed fits = absurd placed
      cancel (Some ByDatagrams) (handed.Dgram r) (server.DgramStream f) v placed fits = absurd fits
      cancel (Some ByDatagrams) (handed.Stream r) (server.DgramStream f) v placed fits = absurd fits
      cancel (Some ByDatagrams) (handed.DgramStream r) (server.DgramStream f) v placed fits = refl

      fits : (o : Option Use) (r : Request) (u : Upstream Request) (v : View) → IsPlacedBy s o u → FitsBy o ((upstream.transport for_one).response r u v)
      fits None r u v placed = absurd placed
      fits (Some ByStreams) r (server.Dgram d) v placed = absurd placed
      fits (Some ByStreams) r (server.Stream m) v placed = tt
      fits (Some ByStreams) r (server.DgramStream f) v placed = absurd placed
      fits (Some ByDatagrams) r (server.Dgram d) v placed = absurd placed
      fits (Some ByDatagrams) r (server.Stream m) v placed = absurd placed
      fits (Some ByDatagrams) r (server.DgramStream f) v placed = tt

-- a server that is there is used somehow
pub is_used : (s : ℕ) (servers : List Use) → s < length servers → use_at s servers ≡ None → ⊥
is_used s [] lt e = absurd (omega arith)
is_used zero (u ∷ us) lt e = absurd (let z : Some u ≡ None = e in cc)
is_used (suc s) (u ∷ us) lt e = is_used s us (omega arith) e

-- the choice among the servers of a configuration
abbrev pub choosing : (several : ℕ) → (c : Conf) → RedundantSettings → CacheSettings → Choosing
choosing several c redundant cache = record {
  c = c;
  st = settings_of redundant cache;
  settings = redundant;
  same = record { errors = refl; refused = refl; servfail = refl };
  P = served c;
  U = Upstream Request;
  R = Handed;
  below = upstream.transport for_one;
  ticket = upstream.ticket_of;
  bare = λ s. bare;
  via = via_at c;
  first = first_at c several;
  Tied = TiedAt c;
  names = names_at c;
  Owns = OwnsAt c;
  has = has_place;
  opens = servers_open_next c;
  IsPlaced = IsPlaced c;
  Fits = Fits c;
  placed = λ s. placed_by c s (use_at s c.servers);
  tie = λ s lt. tied_by c s several (use_at s c.servers) refl (is_used s c.servers lt);
  layer = λ s lt. starts_by c s (use_at s c.servers);
  shared = λ s lt. shared_by c s (use_at s c.servers) refl (is_used s c.servers lt);
}
