-- Every client that some events leave of a configuration's client is tied, and so it is fit to be called, and no whole frame stands at any place.
use Rattle.std.proofs.Common.{◌≡◌, ℕ, false, List, [], ◌∷◌, ◌++◌, Option, Some, None, refl, subst}
use Rattle.std.specs.Prelude.{option_and_then, option_map}
use Rattle.client_request.specs.Composed.{composed}
use Rattle.client_request.specs.declared.event.Event.{Event}
use Rattle.client_request.specs.declared.event.Out.{Out}
use Rattle.client_request.specs.declared.event.What.{What}
use Rattle.client_request.specs.declared.event.What.TheVariants.{Tick}
use Rattle.client_settings.specs.Settings.{CacheSettings, RedundantSettings}
use Rattle.client_cache.specs.Plain as caching
use Rattle.client_choice.specs.Redundant as choice
use Rattle.right_trace.specs.Orderly.{use_at}
use Rattle.right_trace.specs.Timely.{AllAskedInOctets}
use Rattle.proof_right.specs.machine.Client.{begun}
use Rattle.right_trace.specs.InOctets.{AllInOctets}
use Rattle.proof_parts.specs.PartTie.{Phase, Told, MayEnd}
use Rattle.proof_parts.specs.Sights.{sight}
use Rattle.proof_choice.specs.Choosing.{Choosing}
use Rattle.proof_choice.specs.Whole.{with_all, Tied}
use Rattle.client_steps.specs.Client.{rested, row_and_rest, client_step}
use Rattle.client_steps.specs.Headline.{conf_with}
use Rattle.client_steps.specs.Machines.{machine_of}
use Rattle.client_steps.specs.Whole.{Servers, Client, machine, with_servers}
use Rattle.proof_client.specs.Above.{Tying, begins_with, AreWords}
use Rattle.proof_client.specs.Ties.{AreHandedIn}
use Rattle.proof_client.proofs.Calling.{PlainClient, IsTied}
use Rattle.proof_client.proofs.Firing.{IfSome}
use Rattle.proof_client.proofs.Holding.{State, Kept}
use Rattle.proof_client.proofs.Joining.{choosing}
use Rattle.proof_client.proofs.Rows.{IsStepped, steps_do, starts}
use Rattle.proof_client.proofs.Servers.{all_begin}
use Rattle.proof_client.proofs.Traces.{above_servers, tying}
use Rattle.resolv_conf.specs.declared.conf.ResolvConf.{ResolvConf}
use Rattle.proof_cutting.specs.Cuts.{all_told}
use Rattle.proof_cutting.specs.Layers.{server_octets, IsFitServer, layer_octets, IsFitLayer}
use Rattle.proof_cutting.specs.Pieces.{stands}
use Rattle.proof_cutting.specs.Told.{then_told, told_all}
use Rattle.proof_cutting.proofs.FitChoice.{ServersRestFit, choice_fits, none_in_choice}
use Rattle.proof_cutting.proofs.FitServers.{server_rests_fit}
use Rattle.client_settings.specs.declared.settings.Transports.{Transports}
use Rattle.right_settings.specs.Given.{AreGiven}
use Rattle.right_trace.specs.Trace as trace

module _ (g : Tying) where
  -- A client between two rows: it is tied where a row may end, and has rested.
  pub record IsReached (d : PlainClient g) : Type 0 where
    pub phase : Phase
    pub may_end : MayEnd phase
    pub pending : What
    pub state : State g
    pub kept : Kept g
    pub tied : IsTied g phase pending d state kept
    pub outs : d.view.outs ≡ []
    pub request : d.view.request ≡ 0
    pub more : d.view.more ≡ false

  -- so is the one that a row leaves
  pub reached_by_row : (e : Event) (x : State g) (b : Kept g) (d : PlainClient g) → IsStepped g e x b d → IsReached (rested d)
  reached_by_row e x b d s = record { phase = s.phase; may_end = s.may_end; pending = s.pending; state = s.end; kept = s.kept; tied = s.tied; outs = refl; request = refl; more = refl }

  -- and the one that events leave, if they leave one
  abbrev pub IfTold : Option (List Out × PlainClient g) → Type 0
  IfTold None = Unit {0}
  IfTold (Some y) = IsReached y.1

  abbrev pub told : List Event → PlainClient g → Option (List Out × PlainClient g)
  told es d = told_all (machine_of g.T g.ticket g.stale) (g.c).timeout es d

  pub reached_by_events : (es : List Event) → AllAskedInOctets es → AllInOctets es → (d : PlainClient g) → IsReached d → IfTold (told es d)
  reached_by_events [] asked octets d r = r
  reached_by_events (e ∷ es) asked octets d r =
      by (client_step (machine_of g.T g.ticket g.stale) (g.c).timeout e d) (steps_do g e r.phase r.pending d r.state r.kept asked.0 octets.0 r.may_end r.tied r.outs) (reached_by_events es asked.1 octets.1)
    where
      by : (o : Option (PlainClient g)) → IfSome g (IsStepped g e r.state r.kept) o → ((d : PlainClient g) → IsReached d → IfTold (told es d)) → IfTold (option_and_then (then_told (machine_of g.T g.ticket g.stale) (g.c).timeout (told es)) (option_map (row_and_rest e) o))
      by None s ih = tt
      by (Some d1) s ih = rest (told es (rested d1)) (ih (rested d1) (reached_by_row e r.state r.kept d1 s))
        where
          rest : (o : Option (List Out × PlainClient g)) → IfTold o → IfTold (option_map (λ y. (d1.view.outs ++ y.0, y.1)) o)
          rest None l = tt
          rest (Some y) l = l

  -- so is the client as it begins
  pub reached_first : (words : ℕ → ℕ) → AreWords words → IsReached (begins_with words g.first)
  reached_first words small = record {
    phase = Told 0 0;
    may_end = refl;
    pending = Tick;
    state = begun g.c g.st composed g.P;
    kept = (g.B).first;
    tied = starts g words small;
    outs = refl;
    request = refl;
    more = refl;
  }

module _ (t : trace.Transports) (given : Transports) (redundant : RedundantSettings) (cache : CacheSettings) (conf : ResolvConf) (are : AreGiven (conf_with t conf) given) (words : ℕ → ℕ) (events : List Event) (h : AreHandedIn cache words events) where
  abbrev several : ℕ
  several = given.multi_stream.stream.streaming_response_timeout

  -- the client of a configuration, with its tie
  abbrev pub client : Tying
  client = tying (above_servers several (conf_with t conf) redundant cache h.limited)

  abbrev servers : Choosing
  servers = choosing several (conf_with t conf) redundant cache

  -- each server of the configuration
  servers_rest_fit : ServersRestFit servers server_octets IsFitServer
  servers_rest_fit s phase u x a may tied = server_rests_fit (conf_with t conf) s phase x a may (use_at s (conf_with t conf).servers) u tied

  reached_is_fit : (d : PlainClient client) → IsReached client d → (place : ℕ) → IsFitLayer place d.layer d.view.timers.next × (stands (layer_octets place d.layer) ≡ false)
  reached_is_fit d r place =
      let below : Tied servers r.phase d.layer.upstream (sight d.view) r.state = r.tied.fits.tied.below in (
        choice_fits servers server_octets IsFitServer servers_rest_fit r.phase d.layer.upstream (sight d.view) r.state r.may_end below place,
        none_in_choice servers server_octets IsFitServer servers_rest_fit r.phase d.layer.upstream (sight d.view) r.state r.may_end below place,
      )

  -- the servers are those that a choice among them begins with
  begins_so : with_servers given 0 conf.options conf.servers (choice.started redundant) ≡ with_all servers
  begins_so = all_begin given conf.options (conf_with t conf) are redundant cache conf.servers refl

  is_reached : (outs : List Out) (d : PlainClient client) → all_told given redundant cache conf words events ≡ Some (outs, d) → IsReached client d
  is_reached outs d told =
      subst (IfTold client)
      (subst (λ (r : Servers). told_all machine conf.options.timeout events (begins_with words (caching.started cache r)) ≡ Some (outs, d)) begins_so told)
      (reached_by_events client events h.asked h.octets (begins_with words client.first) (reached_first client words h.small))

pub reached : (t : trace.Transports) (given : Transports) (redundant : RedundantSettings) (cache : CacheSettings) (conf : ResolvConf) → AreGiven (conf_with t conf) given → (words : ℕ → ℕ) (before : List Event) (outs : List Out) (c : Client) (place : ℕ) → AreHandedIn cache words before → all_told given redundant cache conf words before ≡ Some (outs, c)
    → IsFitLayer place c.layer c.view.timers.next × (stands (layer_octets place c.layer) ≡ false) × (c.view.outs ≡ []) × (c.view.request ≡ 0) × (c.view.more ≡ false) × (c.view.board ≡ [])
reached t given redundant cache conf are words before outs c place h told =
    let r = is_reached t given redundant cache conf are words before h outs c told in
    let f = reached_is_fit t given redundant cache conf are words before h c r place in
    (f.0, f.1, r.outs, r.request, r.more, r.tied.board)
