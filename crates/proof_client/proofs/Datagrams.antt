-- The transport of a server by datagrams, which goes on by stream where an answer was cut, is tied to its part, and leaves alone what is none of its own.
use Rattle.std.proofs.Common.{◌≡◌, ℕ, zero, suc, List, [], ◌∷◌, map, Some, None, refl}
use Rattle.client_multi.specs.MultiStream.{started}
use Rattle.right_settings.specs.Given.{streams_of}
use Rattle.right_trace.specs.Orderly.{use_at}
use Rattle.right_trace.specs.Time.{idle_timeout, response_timeout, stream_timeout}
use Rattle.right_trace.specs.Trace.{Conf, Use, ByDatagrams, ByStreams}
use Rattle.proof_dgram.specs.Fallback.{AreStreams}
use Rattle.proof_dgram.proofs.FallbackShared.{fallback_is_shared}
use Rattle.proof_dgram.proofs.FallbackTied.{fallback_is_tied}
use Rattle.proof_multi.specs.Tied.{by_streams, TiedAs, names_of, owns}
use Rattle.proof_client.specs.Fallbacks.{alone, FallbacksAreTied, FallbacksAreShared}
use Rattle.proof_client.proofs.StreamsBelow.{reconnection_is_streams}

used_alone : (s : ℕ) (servers : List Use) → use_at s servers ≡ Some ByDatagrams → use_at s (map (λ (u : Use). ByStreams) servers) ≡ Some ByStreams
used_alone s [] used = absurd (let z : None ≡ Some ByDatagrams = used in cc)
used_alone zero (u ∷ us) used = refl
used_alone (suc s) (u ∷ us) used = used_alone s us used

streams_below : (c : Conf) (s several : ℕ) → use_at s c.servers ≡ Some ByDatagrams → AreStreams (alone c) s by_streams (started s (streams_of several c)) (TiedAs (alone c) s) names_of owns
unfolding idle_timeout response_timeout stream_timeout
streams_below c s several used = reconnection_is_streams (alone c) s several (used_alone s c.servers used)

pub fallbacks_are_tied : FallbacksAreTied
fallbacks_are_tied c s several used = fallback_is_tied (alone c) c refl s used by_streams (started s (streams_of several c)) (TiedAs (alone c) s) names_of owns (streams_below c s several used)

pub fallbacks_are_shared : FallbacksAreShared
fallbacks_are_shared c s used = fallback_is_shared (alone c) c refl s by_streams (started s (streams_of 0 c)) (TiedAs (alone c) s) names_of owns (streams_below c s 0 used)
