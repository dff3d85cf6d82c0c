-- Replays are judged right.
use Rattle.std.proofs.Common.{◌≡◌, ◌||◌, Bool, true, false, ℕ, zero, suc, List, [], ◌∷◌, Option, Some, None, map, refl, sym, ap, ◌∙◌, subst}
use Rattle.client_request.specs.Composed.{composed}
use Rattle.client_request.specs.declared.event.Row.{Row}
use Rattle.client_settings.specs.Settings.{CacheSettings, RedundantSettings}
use Rattle.client_settings.specs.declared.settings.Transports.{Transports}
use Rattle.right_settings.proofs.Told.{settings_given}
use Rattle.right_settings.specs.Given.{AreGiven, told}
use Rattle.client_steps.specs.Whole.{asks_by_streams, is_tcp}
use Rattle.client_steps.specs.Headline as headline
use Rattle.resolv_conf.specs.declared.conf.ResolvConf.{ResolvConf}
use Rattle.resolv_conf.specs.declared.options.ResolvOptions.{ResolvOptions}
use Rattle.resolv_conf.specs.declared.server.ServerConf.{ServerConf}
use Rattle.resolv_conf.specs.declared.server.Transport.{Transport}
use Rattle.resolv_conf.specs.declared.server.Transport.TheVariants.{UdpTcp, Tcp}
use Rattle.right_trace.specs.Right as right
use Rattle.right_trace.specs.Hit.{AllHit}
use Rattle.right_trace.specs.Settings.{Settings}
use Rattle.right_trace.specs.StaleServed.{AllServeStale}
use Rattle.right_trace.specs.Trace.{History, Conf, Use, after}
use Rattle.trace_judge.specs.clauses.Verdicts.{Verdict, Right, IsVerdict}
use Rattle.trace_judge.proofs.lemmas.clauses.Verdicts.{kept_is_right, one_verdict}
use Rattle.trace_points.specs.questions.Configured as configured
use Rattle.trace_judge.specs.script.Judged.{conf_of, settings_of}
use Rattle.trace_judge.specs.script.Judged as judged
use Rattle.right_trace.specs.Timely.{Timely}
use Rattle.trace_hits.proofs.lemmas.timely.Rows.{none_is_timely}
use Rattle.trace_hits.specs.Hits.{IsMissedHit}
use Rattle.trace_hits.specs.Stale.{IsMissedStale}
use Rattle.trace_hits.specs.Row.{room_of, Hit}
use Rattle.trace_hits.specs.Rows.{FailsAt}
use Rattle.trace_hits.specs.Serving.{Serve}
use Rattle.proof_audit.specs.Replays.{IsSaid, IsJudgedRight, ReplaysAreRight}

-- both ways of saying how a server is asked are one
same_use : (v : Bool) (t : Transport) → configured.use_of (judged.use_if (judged.is_by_streams v t)) ≡ headline.use_of (v || is_tcp t)
same_use true UdpTcp = refl
same_use false UdpTcp = refl
same_use true Tcp = refl
same_use false Tcp = refl

same_uses : (o : ResolvOptions) (servers : List ServerConf) → map configured.use_of (map (judged.use_of o.use_vc) servers) ≡ map (λ s. headline.use_of (asks_by_streams o s)) servers
same_uses o [] = refl
same_uses o (s ∷ ss) =
    let one : configured.use_of (judged.use_of o.use_vc s) ≡ headline.use_of (asks_by_streams o s) = same_use o.use_vc s.transport in
    let more = same_uses o ss in
    cc

same_conf : (t : Transports) (conf : ResolvConf) → headline.conf_with (told t) conf ≡ conf_of conf t
same_conf t conf = ap (λ (us : List Use). record { servers = us; timeout = conf.options.timeout; transports = told t }) (sym (same_uses conf.options conf.servers))

-- what holds of all rows fails at none
hits_fail : (cache : CacheSettings) (n : ℕ) (c : Conf) (s : Settings) (x : History) (rows : List Row) → FailsAt (Hit cache) n c s x rows → AllHit c s composed (room_of cache) x rows → ⊥
hits_fail cache zero c s x [] f t = f
hits_fail cache (suc n) c s x [] f t = f
hits_fail cache zero c s x (row ∷ rows) f t = f t.0
hits_fail cache (suc n) c s x (row ∷ rows) f t = hits_fail cache n c s (after row x) rows f.1 t.1

stale_fails : (cache : CacheSettings) (n : ℕ) (c : Conf) (s : Settings) (x : History) (rows : List Row) → FailsAt (Serve cache) n c s x rows → AllServeStale c s (room_of cache) x rows → ⊥
stale_fails cache zero c s x [] f t = f
stale_fails cache (suc n) c s x [] f t = f
stale_fails cache zero c s x (row ∷ rows) f t = f t.0
stale_fails cache (suc n) c s x (row ∷ rows) f t = stale_fails cache n c s (after row x) rows f.1 t.1

none_missed : (cache : CacheSettings) (c : Conf) (s : Settings) (rows : List Row) (o : Option ℕ) → IsMissedHit o cache c s [] rows → AllHit c s composed (room_of cache) [] rows → o ≡ None
none_missed cache c s rows None i t = refl
none_missed cache c s rows (Some n) i t = absurd (hits_fail cache n c s [] rows i t)

none_unserved : (cache : CacheSettings) (c : Conf) (s : Settings) (rows : List Row) (o : Option ℕ) → IsMissedStale o cache c s [] rows → AllServeStale c s (room_of cache) [] rows → o ≡ None
none_unserved cache c s rows None i t = refl
none_unserved cache c s rows (Some n) i t = absurd (stale_fails cache n c s [] rows i t)

pub replays : ReplaysAreRight
replays t limited redundant cache conf words events rows r =
    let given : AreGiven (headline.conf_with (told t) conf) t = settings_given (headline.conf_with (told t) conf) t limited in
    let is : right.Right (conf_of conf t) (settings_of redundant cache) rows = subst (λ (c : Conf). right.Right c (settings_of redundant cache) rows) (same_conf t conf) (r.right (told t) given) in
    let said : IsSaid Right t redundant cache conf events rows = kept_is_right.right_kept (conf_of conf t) (settings_of redundant cache) events rows r.each is in
    let hits : AllHit (conf_of conf t) (settings_of redundant cache) composed (room_of cache) [] rows = subst (λ (c : Conf). AllHit c (settings_of redundant cache) composed (room_of cache) [] rows) (same_conf t conf) (r.hits (told t) given) in
    let stale : AllServeStale (conf_of conf t) (settings_of redundant cache) (room_of cache) [] rows = subst (λ (c : Conf). AllServeStale c (settings_of redundant cache) (room_of cache) [] rows) (same_conf t conf) (r.stale (told t) given) in
    let timely : Timely (conf_of conf t) rows = subst (λ (c : Conf). Timely c rows) (same_conf t conf) (r.timely (told t) given) in
    record {
      right = said;
      alone = λ v i. one_verdict (conf_of conf t) (settings_of redundant cache) events rows v Right i said;
      timely = timely;
      never_late = λ o i. (none_is_timely (conf_of conf t) rows o i).1 timely;
      hits = hits;
      never_missed = λ o i. none_missed cache (conf_of conf t) (settings_of redundant cache) rows o i hits;
      stale = stale;
      always_served = λ o i. none_unserved cache (conf_of conf t) (settings_of redundant cache) rows o i stale;
    }
