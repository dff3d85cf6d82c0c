-- The transport of each server that is asked by datagrams: they fall back to reconnection over streams.
use Rattle.std.specs.Prelude.{◌≡◌, ℕ, Option, Some, map}
use Rattle.client_request.specs.Request.{Request}
use Rattle.client_request.specs.Requests.{for_one}
use Rattle.client_request.specs.declared.event.Via.TheVariants.{Dgram}
use Rattle.client_multi.specs.DgramStream.{DgramStream, Settings, started}
use Rattle.client_multi.specs.Fallback.{Asked}
use Rattle.client_steps.specs.Upstream.{by_both}
use Rattle.proof_parts.specs.PartTie.{Phase, IsTie}
use Rattle.proof_parts.specs.Places.{has_place}
use Rattle.proof_parts.specs.Sharing.{IsShared}
use Rattle.proof_parts.specs.Sights.{Sight}
use Rattle.proof_dgram.specs.Fallback.{IsFallback, names_in, OwnsEither}
use Rattle.right_trace.specs.Orderly.{use_at}
use Rattle.right_settings.specs.Given.{dgrams_of, streams_of}
use Rattle.right_trace.specs.Trace.{Conf, Use, ByDatagrams, ByStreams}
use Rattle.proof_right.specs.machine.Served.{Served, served}
use Rattle.proof_multi.specs.Tied.{TiedAs, names_of, owns}

-- the same servers, each by streams alone
abbrev pub alone : Conf → Conf
alone c = record { servers = map (λ (u : Use). ByStreams) c.servers; timeout = c.timeout; transports = c.transports }

-- the settings of both transports, with a time for messages of transfers
abbrev pub both_of : (several : ℕ) → Conf → Settings
both_of several c = record { dgram = dgrams_of c; stream = streams_of several c }

module _ (c : Conf) (s : ℕ) where
  -- it and what is seen, beside the part of server s
  abbrev pub FallsBack : Phase → DgramStream Request → Sight → Served → Type 0
  FallsBack phase u x a = IsFallback c (TiedAs (alone c) s) names_of owns s phase u x a

  -- the number of the request of each ticket
  abbrev pub named_by : DgramStream Request → ℕ → Option ℕ
  named_by = names_in c (TiedAs (alone c) s) names_of owns s

  -- a timer of one of its two transports
  abbrev pub OwnsOne : DgramStream Request → (timer : ℕ) → Type 0
  OwnsOne = OwnsEither c (TiedAs (alone c) s) names_of owns s

-- It is tied to its part.
abbrev pub FallbacksAreTied : Type 0
FallbacksAreTied = (c : Conf) (s several : ℕ) → use_at s c.servers ≡ Some ByDatagrams → IsTie (served c) s Dgram (by_both for_one) (λ (r : Asked). r.ticket) (started s (both_of several c)) (FallsBack c s) (named_by c s) (OwnsOne c s)

-- It leaves alone what is none of its own.
abbrev pub FallbacksAreShared : Type 0
FallbacksAreShared = (c : Conf) (s : ℕ) → use_at s c.servers ≡ Some ByDatagrams → IsShared (served c) has_place (by_both for_one) (FallsBack c s) (OwnsOne c s)
