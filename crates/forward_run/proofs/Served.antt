-- A configuration that was served.
use Rattle.std.proofs.Common.{◌≡◌, ◌<◌, ◌^◌, ℕ, false, List, [], ◌∷◌, map, Option, Some, None, ◌∙◌, ap, subst}
use Rattle.std.specs.Prelude.{IfSome}
use Rattle.client_steps.specs.Whole.{Whole}
use Rattle.forward_conf.specs.Itself.{asks_itself}
use Rattle.forward_conf.specs.Reading.{IsConfAsked}
use Rattle.forward_conf.specs.Settings.{cache_of, choice_of, transports_of}
use Rattle.forward_conf.proofs.Fits.{validity_fits}
use Rattle.forward_words.specs.declared.options.Options.{Options}
use Rattle.forward_words.specs.declared.words.Asked.{Asked}
use Rattle.front_steps.specs.Steps.{Forwarding}
use Rattle.proof_front.specs.Forwarding.{EveryForwardedTraceIsRight}
use Rattle.resolv_conf.specs.declared.conf.ResolvConf.{ResolvConf}
use Rattle.resolv_conf.specs.declared.server.ServerConf.{ServerConf}
use Rattle.forward_run.specs.Front.{after_deed, after_deeds}
use Rattle.forward_run.specs.Serving.{IsAnsweredIf, IsServed, answered_line, begun_deeds, first_of}
use Rattle.forward_run.specs.Turns.{Turned, World, rows_of, scene, within}
use Rattle.forward_run.specs.declared.front.FrontDeed.{FrontDeed}
use Rattle.forward_run.specs.declared.front.FrontDeed.TheVariants.{Learned, Listens}
use Rattle.forward_run.proofs.Turning.{more_deeds}

-- it is listened, and the servers are learned
pub begun : (port : ℕ) (conf : ResolvConf) (servers : List ServerConf) (old listens new : Option (List FrontDeed))
    → listens ≡ after_deed (Listens port) old → new ≡ after_deeds (map (λ server. Learned server) servers) listens → servers ≡ conf.servers
    → new ≡ after_deeds (begun_deeds port conf) old
begun port conf servers old listens new listened learned same =
    more_deeds (Listens port ∷ []) (map (λ (server : ServerConf). Learned server) servers) old listens new listened learned
    ∙ ap (λ (ss : List ServerConf). after_deeds (Listens port ∷ map (λ (server : ServerConf). Learned server) ss) old) same

-- and turns are made
pub served : (options : Options) (asked : Asked) (conf : ResolvConf) (answered : ℕ) (first last : Forwarding Whole) (old new : World) (deeds : Option (List FrontDeed)) (polls : ℕ)
    → first ≡ first_of options conf → deeds ≡ after_deeds (begun_deeds asked.port conf) old.deeds → polls ≡ old.polls
    → EveryForwardedTraceIsRight → ((k : ℕ) → old.words k < 2 ^ 64)
    → asks_itself options.listened asked.port conf ≡ false
    → Turned asked.turns answered (scene first old.words deeds polls old.moments) (within last new)
    → IsServed options asked conf answered old new
served options asked conf answered first last old new deeds polls made told same every small others turned =
    let P : Forwarding Whole → Option (List FrontDeed) → ℕ → Type 0 = λ f ds n. Turned asked.turns answered (scene f old.words ds n old.moments) (within last new) in
    let start = first_of options conf in
    let begins = after_deeds (begun_deeds asked.port conf) old.deeds in
    let t : P start begins old.polls =
    subst (λ (f : Forwarding Whole). P f begins old.polls) made (subst (λ (ds : Option (List FrontDeed)). P first ds old.polls) told (subst (λ (n : ℕ). P first deeds n) same turned)) in
    record {
      last = last;
      turned = t;
      asks_others = others;
      right = every (transports_of options conf) (choice_of options.policy) (cache_of options) conf old.words (rows_of t.turns) t.trace last new.words t.forwards (validity_fits options) small;
    }

-- with what is written then
pub answered_so : (told : Option (List ℕ)) (options : Options) (asked : Asked) (conf : ResolvConf) (left : ℕ → ℕ) (answered : ℕ) (line : List ℕ) (old new : World)
    → IfSome told (λ text. IsConfAsked options text old.words conf left) → IsServed options asked conf answered (record old { words = left }) new → line ≡ answered_line answered
    → IsAnsweredIf options asked told line old new
answered_so None options asked conf left answered line old new h serves is = tt
answered_so (Some text) options asked conf left answered line old new h serves is =
    record { conf = conf; left = left; conf_asked = h; answered = answered; served = serves; line_is = is }
