-- One server that is tied, where a row may end, is fit to be called, and no whole frame stands there.
use Rattle.std.proofs.Common.{◌≡◌, ℕ, Bool, true, false, ◌||◌, is_some, List, Option, Some, None, refl, ap}
use Rattle.client_request.specs.Request.{Request}
use Rattle.client_multi.specs.DgramStream.{DgramStream}
use Rattle.client_steps.specs.declared.upstream.Upstream.{Upstream}
use Rattle.client_steps.specs.declared.upstream.Upstream.TheVariants as server
use Rattle.right_trace.specs.Trace.{Use, ByDatagrams, ByStreams, Conf}
use Rattle.proof_right.specs.machine.Dgrams.{no_datagram}
use Rattle.proof_right.specs.machine.Served.{Served}
use Rattle.proof_parts.specs.PartTie.{Phase, MayEnd}
use Rattle.proof_parts.specs.Places.{is_this, has_place}
use Rattle.proof_parts.specs.Sights.{Sight}
use Rattle.proof_dgram.specs.AtServer.{with_dgrams}
use Rattle.proof_multi.specs.Tied.{TiedAs}
use Rattle.proof_client.specs.Fallbacks.{alone, FallsBack}
use Rattle.proof_client.specs.Upstreams.{TiedBy}
use Rattle.proof_cutting.specs.Layers.{both_octets, IsFitBoth, server_octets, IsFitServer}
use Rattle.proof_cutting.specs.Standing.{Streams, stream_octets, IsFitStream}
use Rattle.proof_cutting.proofs.FitStreams.{RestsFit, streams_rest_fit}

-- a place with a connection is one that the server has
has_conn : (a : Served) (p : ℕ) → is_some (a.server.by_stream.conns p) ≡ true → has_place a p ≡ true
has_conn a p is = by (is_some (a.server.by_dgram.at p)) (is_some (a.server.by_stream.conns p)) (is_this p a.server.by_stream.opening) is
  where
    by : (d b i : Bool) → b ≡ true → (d || (b || i)) ≡ true
    by true b i e = refl
    by false b i e = ap (λ (b : Bool). b || i) e

at_places : {IsFit : Type 0} (octets : ℕ → Option (List ℕ)) (a : Served) → RestsFit IsFit octets (λ p. is_some (a.server.by_stream.conns p)) → RestsFit IsFit octets (has_place a)
at_places octets a r = record { fit = r.fit; none = r.none; there = λ p some. has_conn a p (r.there p some) }

module _ (c : Conf) (s : ℕ) (phase : Phase) (x : Sight) (a : Served) (end : MayEnd phase) where
  by_streams_fit : (m : Streams) → TiedAs c s phase m x a → RestsFit (IsFitStream m x.timer) (λ p. stream_octets p m) (has_place a)
  by_streams_fit m t = at_places (λ p. stream_octets p m) a (streams_rest_fit c s phase m x a end t)

  by_both_fit : (f : DgramStream Request) → FallsBack c s phase f x a → RestsFit (IsFitBoth f x.timer) (λ p. both_octets p f) (has_place a)
  by_both_fit f t = at_places (λ p. both_octets p f) a (streams_rest_fit (alone c) s phase f.parts.stream x (with_dgrams no_datagram a) end t.streams)

  pub server_rests_fit : (how : Option Use) (u : Upstream Request) → TiedBy c how s phase u x a → RestsFit (IsFitServer u x.timer) (λ p. server_octets p u) (has_place a)
  server_rests_fit None u t = absurd t
  server_rests_fit (Some ByStreams) (server.Dgram d) t = absurd t
  server_rests_fit (Some ByStreams) (server.Stream m) t = by_streams_fit m t
  server_rests_fit (Some ByStreams) (server.DgramStream f) t = absurd t
  server_rests_fit (Some ByDatagrams) (server.Dgram d) t = absurd t
  server_rests_fit (Some ByDatagrams) (server.Stream m) t = absurd t
  server_rests_fit (Some ByDatagrams) (server.DgramStream f) t = by_both_fit f t
