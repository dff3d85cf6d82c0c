-- Octets that come in pieces do to the client of a configuration what they do in one.
use Rattle.std.proofs.Common.{◌≡◌, ℕ, List, [], ◌∷◌, ◌++◌, Option, map, sym, subst, subst₂, append_assoc}
use Rattle.std.specs.List.{concat}
use Rattle.client_cache.specs.Plain as caching
use Rattle.client_request.specs.Request.{Request}
use Rattle.client_request.specs.Requests.{for_one}
use Rattle.client_request.specs.View.{Transport}
use Rattle.client_request.specs.declared.event.Event.{Event}
use Rattle.client_request.specs.declared.event.Out.{Out}
use Rattle.proof_client.specs.Ties.{AreHandedIn}
use Rattle.client_settings.specs.Settings.{CacheSettings, RedundantSettings}
use Rattle.client_steps.specs.Upstream as upstream
use Rattle.client_steps.specs.Whole.{Layer, Response, Client, choice, reading, machine, client_with, started_with}
use Rattle.right_trace.specs.InOctets.{AllInOctets}
use Rattle.right_trace.specs.Timely.{AllAskedInOctets}
use Rattle.resolv_conf.specs.declared.conf.ResolvConf.{ResolvConf}
use Rattle.proof_cutting.specs.Cuts.{all_told, PiecesDoTheSame}
use Rattle.proof_cutting.specs.Choices.{choice_octets, longer_choice, IsFitChoice}
use Rattle.proof_cutting.specs.Layers.{server_octets, longer_server, IsFitServer, layer_octets, longer_layer, IsFitLayer}
use Rattle.proof_cutting.specs.Pieces.{IsCuttable, GivesUpQuietly}
use Rattle.proof_cutting.specs.Told.{bytes_at, IsCut, Here, Later}
use Rattle.proof_cutting.proofs.Caching.{caches_are_cuttable, caches_cancel_quietly, caches_stand_in_alike}
use Rattle.proof_cutting.proofs.Choices.{choices_are_cuttable, choices_cancel_quietly}
use Rattle.proof_cutting.proofs.OneServer.{servers_are_cuttable, servers_post_nothing}
use Rattle.proof_cutting.proofs.Pieces.{pieces_do}
use Rattle.proof_cutting.proofs.Reached.{reached}
use Rattle.proof_cutting.proofs.Streams.{streams_are_cuttable, streams_post_nothing}
use Rattle.proof_cutting.proofs.Telling.{cut_is}
use Rattle.client_settings.specs.declared.settings.Transports.{Transports}
use Rattle.right_settings.specs.Given.{AreGiven}
use Rattle.right_trace.specs.Trace as trace
use Rattle.client_steps.specs.Headline.{conf_with}

-- the cache over the choice among the servers
abbrev layer : Transport Request Layer Response
layer = caching.transport reading (λ r. r.ticket) choice

asked_before : (before after : List Event) → AllAskedInOctets (before ++ after) → AllAskedInOctets before
asked_before [] after asked = tt
asked_before (e ∷ before) after asked = (asked.0, asked_before before after asked.1)

octets_before : (before after : List Event) → AllInOctets (before ++ after) → AllInOctets before
octets_before [] after octets = tt
octets_before (e ∷ before) after octets = (octets.0, octets_before before after octets.1)

handed_before : (cache : CacheSettings) (words : ℕ → ℕ) (before after : List Event) → AreHandedIn cache words (before ++ after) → AreHandedIn cache words before
handed_before cache words before after h = record { limited = h.limited; small = h.small; asked = asked_before before after h.asked; octets = octets_before before after h.octets }

module _ (place : ℕ) where
  choices_cut : IsCuttable place choice (choice_octets (server_octets place)) (longer_choice (longer_server place)) (IsFitChoice (server_octets place) IsFitServer)
  choices_cut = choices_are_cuttable place (upstream.transport for_one) (server_octets place) (longer_server place) IsFitServer (servers_are_cuttable place (streams_are_cuttable place)) (servers_post_nothing streams_post_nothing)

  layers_cut : IsCuttable place layer (layer_octets place) (longer_layer place) (IsFitLayer place)
  layers_cut = caches_are_cuttable place choice (choice_octets (server_octets place)) (longer_choice (longer_server place)) (IsFitChoice (server_octets place) IsFitServer) reading (λ r. r.ticket) choices_cut

  gives_up_quietly : GivesUpQuietly layer (longer_layer place) (IsFitLayer place) (caching.stale (λ r. r.ticket))
  gives_up_quietly = record {
    cancelled = caches_cancel_quietly choice (IsFitChoice (server_octets place) IsFitServer) reading (λ r. r.ticket) (choices_cancel_quietly (upstream.transport for_one) (server_octets place) IsFitServer);
    alike = caches_stand_in_alike (longer_choice (longer_server place)) (λ r. r.ticket);
  }

module _ (t : trace.Transports) (given : Transports) (redundant : RedundantSettings) (cache : CacheSettings) (conf : ResolvConf) (are : AreGiven (conf_with t conf) given) (words : ℕ → ℕ) where
  abbrev told : List Event → Option (List Out × Client)
  told events = all_told given redundant cache conf words events

  -- one of the events behind these is cut
  cut_among : (before events cut : List Event) → IsCut events cut → AreHandedIn cache words (before ++ events) → told (before ++ cut) ≡ told (before ++ events)
  cut_among before _ _ (Here moment place first more after) h =
      cut_is machine conf.options.timeout before (map (bytes_at moment place) (first ∷ more)) after (bytes_at moment place (concat (first ∷ more))) (client_with words (started_with given redundant cache conf))
      (λ outs d is. (let r = reached t given redundant cache conf are words before outs d place (handed_before cache words before (bytes_at moment place (concat (first ∷ more)) ∷ after) h) is in
      pieces_do place layer (λ r. r.ticket) (layer_octets place) (longer_layer place) (IsFitLayer place) (layers_cut place) (gives_up_quietly place) conf.options.timeout moment first more d
      (record { fit = r.0; none = r.1; rested = (r.2, r.3, r.4); board = r.5 })))
  cut_among before _ _ (Later e events cut is) h =
      subst₂ (λ (one other : List Event). told one ≡ told other) (append_assoc before (e ∷ []) cut) (append_assoc before (e ∷ []) events)
      (cut_among (before ++ e ∷ []) events cut is (subst (AreHandedIn cache words) (sym (append_assoc before (e ∷ []) events)) h))

pub pieces_do_the_same : PiecesDoTheSame
pieces_do_the_same t given redundant cache conf words events cut are h is = cut_among t given redundant cache conf are words [] events cut is h
