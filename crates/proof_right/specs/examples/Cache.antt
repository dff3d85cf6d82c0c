-- Worked traces with the cache: views at several ages, requests that differ in their flags, and a kept error.
use Rattle.std.specs.Prelude.{◌≡◌, true, false, Some, List, [], ◌∷◌, ◌++◌, Ok, Err, option_map}
use Rattle.client_request.specs.declared.error.Error.TheVariants as errors
use Rattle.client_request.specs.declared.error.Error.TheVariants.{NoTransportAvailable}
use Rattle.client_request.specs.declared.error.QueryError.TheVariants as query
use Rattle.client_request.specs.declared.fault.Fault.TheVariants.{Refused}
use Rattle.client_request.specs.declared.event.What.TheVariants.{Ask, Opened, OpenFailed, Datagram}
use Rattle.client_request.specs.declared.event.Out.TheVariants.{Start, OpenDgram, Send, Close, Reply}
use Rattle.client_request.specs.declared.event.Row.{Row}
use Rattle.client_request.specs.declared.event.Via.TheVariants.{Dgram, Stream}
use Rattle.client_request.specs.Request.{Request}
use Rattle.right_trace.specs.Messages.{Octets, CarriesBy, answers, is_valid}
use Rattle.right_trace.specs.Keys.{Do, Ad, Plain, Covers, key_of, is_cacheable}
use Rattle.right_trace.specs.Parts.{known_parts, lowered_parts}
use Rattle.right_trace.specs.Validity.{validity_of_message}
use Rattle.right_trace.specs.Views.{view_of, view_validity}
use Rattle.right_trace.specs.Replies.{IsView}
use Rattle.right_trace.specs.Errors.{HasCause}
use Rattle.right_trace.specs.Trace.{Conf, Came, first_transports}
use Rattle.proof_right.specs.examples.Messages.{plain_request, ad_request, cd_request, do_request, as_datagram, as_frame, answer, signed_answer, unsigned_answer}
use Rattle.right_trace.specs.Settings.{first_settings}
use Rattle.proof_right.specs.examples.Rows.{at, so_far, by_datagrams}

-- a request is sent as these octets, and has this answer at once
abbrev pub answered_at_once : Request → (octets message : Octets) → List Row
answered_at_once r octets message =
    at 0 (Ask r) (Start 0 0 Dgram ∷ OpenDgram 0 0 ∷ [])
    ∷ at 0 (Opened 0) (Send 0 0 4660 octets ∷ [])
    ∷ at 0 (Datagram 0 message) (Close 0 ∷ Reply 0 (Ok message) ∷ [])
    ∷ []

-- a request has its answer, of 100 seconds; it is asked again after 30 and after 100 seconds, and then, too late, after 101
abbrev pub asked_again : List Row
asked_again =
    answered_at_once plain_request (as_datagram 18 52) (answer 18 52 100)
    ++ at 30000000 (Ask plain_request) (Reply 1 (Ok (answer 18 52 70)) ∷ [])
    ∷ at 100000000 (Ask plain_request) (Reply 2 (Ok (answer 18 52 0)) ∷ [])
    ∷ at 101000000 (Ask plain_request) (Start 3 0 Dgram ∷ OpenDgram 1 0 ∷ [])
    ∷ []

-- the place fails to open; the request gets that error again, half a minute later
abbrev pub refused_twice : List Row
refused_twice =
    at 0 (Ask plain_request) (Start 0 0 Dgram ∷ OpenDgram 0 0 ∷ [])
    ∷ at 0 (OpenFailed 0 Refused) (Reply 0 (Err (errors.Dgram (query.Connect Refused))) ∷ [])
    ∷ at 30000000 (Ask plain_request) (Reply 1 (Err (errors.Dgram (query.Connect Refused))) ∷ [])
    ∷ []

-- nothing is configured
abbrev pub no_server : Conf
no_server = record { servers = []; timeout = 5000000; transports = first_transports }

pub record WorkedCache : Type 0 where
  pub cacheable : is_cacheable plain_request ≡ true
  pub valid : is_valid plain_request ≡ true
  pub carried : CarriesBy by_datagrams Dgram (as_datagram 18 52) plain_request 4660
  pub carried_in_frame : CarriesBy by_datagrams Stream as_frame plain_request 0
  pub is_answer : answers plain_request 4660 (answer 18 52 100) ≡ true
  -- an answer of 100 seconds, and its views
  pub valid_for_100 : validity_of_message first_settings (answer 18 52 100) ≡ Some 100000000
  pub after_30 : option_map (λ x. lowered_parts (view_of plain_request plain_request 30000000 x)) (known_parts (answer 18 52 100)) ≡ option_map lowered_parts (known_parts (answer 18 52 70))
  pub after_100 : option_map (λ x. lowered_parts (view_of plain_request plain_request 100000000 x)) (known_parts (answer 18 52 100)) ≡ option_map lowered_parts (known_parts (answer 18 52 0))
  pub view_valid_for_100 : option_map (λ x. view_validity first_settings plain_request plain_request x) (known_parts (answer 18 52 100)) ≡ Some 100000000
  pub is_viewed : IsView by_datagrams first_settings 1 (answer 18 52 70) (Came (record { moment = record { 0 = 30000000 }; what = Ask plain_request }) ∷ so_far 3 asked_again)
  pub is_viewed_last : IsView by_datagrams first_settings 2 (answer 18 52 0) (Came (record { moment = record { 0 = 100000000 }; what = Ask plain_request }) ∷ so_far 4 asked_again)
  -- a signed answer, for 50 seconds as its signature; without that, for 100
  pub signed_for_50 : validity_of_message first_settings signed_answer ≡ Some 50000000
  pub unsigned_for_100 : option_map (λ x. view_validity first_settings do_request ad_request x) (known_parts signed_answer) ≡ Some 100000000
  pub for_ad : option_map (λ x. lowered_parts (view_of do_request ad_request 60000000 x)) (known_parts signed_answer) ≡ option_map lowered_parts (known_parts (unsigned_answer 160))
  pub for_plain : option_map (λ x. lowered_parts (view_of do_request plain_request 60000000 x)) (known_parts signed_answer) ≡ option_map lowered_parts (known_parts (unsigned_answer 128))
  pub covers_ad : Covers do_request ad_request
  pub covers_plain : Covers do_request plain_request
  pub cd_differs : (key_of do_request).cd ≡ false
  pub cd_is_set : (key_of cd_request).cd ≡ true
  pub is_do : (key_of do_request).flags ≡ Do
  pub is_ad : (key_of ad_request).flags ≡ Ad
  pub is_plain : (key_of plain_request).flags ≡ Plain
  -- a kept error
  pub is_kept : HasCause by_datagrams first_settings (errors.Dgram (query.Connect Refused)) 1 (so_far 2 refused_twice) (Ask plain_request) (Came (record { moment = record { 0 = 30000000 }; what = Ask plain_request }) ∷ so_far 2 refused_twice)
  pub has_no_server : HasCause no_server first_settings NoTransportAvailable 0 [] (Ask plain_request) (Came (record { moment = record { 0 = 0 }; what = Ask plain_request }) ∷ [])
