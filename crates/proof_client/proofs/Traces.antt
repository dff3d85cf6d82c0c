-- Every plain trace is a run, and right and timely.
use Rattle.std.proofs.Common.{◌≡◌, ℕ, ◌≤◌, List, [], map, Some, refl, sym, ap, subst, ◌∙◌, arith}
use Rattle.client_request.specs.Composed.{composed}
use Rattle.client_request.specs.Requests.{for_one}
use Rattle.client_request.specs.declared.event.Event.{Event}
use Rattle.client_request.specs.declared.event.Row.{Row}
use Rattle.client_settings.specs.Settings.{CacheSettings, RedundantSettings, seconds}
use Rattle.client_cache.specs.Plain as caching
use Rattle.client_cache.specs.Plain.{Cached, Response}
use Rattle.client_choice.specs.Redundant as choice
use Rattle.right_trace.specs.Timely.{AllAskedInOctets, Timely}
use Rattle.right_trace.specs.Trace.{Conf}
use Rattle.right_trace.specs.Trace as trace
use Rattle.right_trace.specs.Hit.{AllHit}
use Rattle.right_trace.specs.Right.{Right}
use Rattle.right_trace.specs.StaleServed.{AllServeStale}
use Rattle.client_cache.specs.Plain.{room_of}
use Rattle.client_settings.specs.Client.{default_transports}
use Rattle.client_settings.specs.declared.settings.Transports.{Transports}
use Rattle.right_settings.specs.Given.{AreGiven}
use Rattle.right_settings.proofs.First.{first_given}
use Rattle.proof_right.specs.machine.Client.{begun, IsRun}
use Rattle.proof_right.specs.machine.Served.{served}
use Rattle.proof_right.proofs.Composing.{composed_composes}
use Rattle.proof_right.proofs.server.Concrete.{every_run}
use Rattle.proof_cache.specs.Caching.{Caching}
use Rattle.proof_cache.specs.Caching as cache
use Rattle.proof_cache.specs.Listed.{listed}
use Rattle.proof_cache.specs.Results.{SaneServed}
use Rattle.proof_cache.proofs.CachedTie.{cached_is_tied}
use Rattle.proof_cache.proofs.CachedRuns.{cached_runs_hit, cached_runs_serve_stale}
use Rattle.proof_cache.proofs.ResultsServed.{served_gives_messages}
use Rattle.proof_parts.specs.ClientTie.{RunBeside}
use Rattle.proof_choice.specs.Whole.{with_all}
use Rattle.proof_choice.specs.Whole as whole
use Rattle.proof_choice.proofs.Whole.{choices_are_whole, choices_without_servers}
use Rattle.proof_client.specs.Above.{Tying, begins_with}
use Rattle.proof_client.specs.Ties.{TracesRun, TracesAreRight, TracesHit, TracesServeStale, AreHandedIn, EveryPlainTraceRuns, EveryPlainTraceIsRight, EveryPlainTraceHits, EveryPlainTraceServesStale, PlainTracesKeepTheirEvents}
use Rattle.client_steps.specs.Client.{plain_rows}
use Rattle.client_steps.specs.Headline.{use_of, conf_of, conf_with, settings_of}
use Rattle.client_steps.specs.Upstream as upstream
use Rattle.client_steps.specs.Whole.{Servers, machine, plain_trace_with, client_with, started, started_with}
use Rattle.resolv_conf.specs.declared.conf.ResolvConf.{ResolvConf}
use Rattle.resolv_conf.specs.declared.options.ResolvOptions.{ResolvOptions}
use Rattle.resolv_conf.specs.declared.server.ServerConf.{ServerConf}
use Rattle.client_steps.proofs.Events.{rows_of_events}
use Rattle.proof_client.proofs.Joining.{choosing}
use Rattle.proof_client.proofs.Rows.{clients_above_ties_run}
use Rattle.proof_client.proofs.Servers.{all_begin}

pub fits : (n : ℕ) → n ≤ seconds 6048000 → n ≤ seconds 4294967295
fits n le = omega (arith, le)

-- a cache above the choice among the servers of a configuration
abbrev pub above_servers : (several : ℕ) → (c : Conf) → RedundantSettings → (settings : CacheSettings) → settings.max_validity ≤ seconds 6048000 → Caching
above_servers several c redundant settings limited = record {
  c = c;
  base = settings_of redundant settings;
  cache = settings;
  limited = fits settings.max_validity limited;
  P = served c;
  Sane = SaneServed;
  messages = served_gives_messages c;
  V = Servers;
  Q = choice.Asked;
  T = choice.transport (upstream.transport for_one);
  number = λ r. r.ticket;
  first = with_all (choosing several c redundant settings);
  Tied = whole.Tied (choosing several c redundant settings);
  names = whole.names (choosing several c redundant settings);
  Owns = whole.Owns (choosing several c redundant settings);
  tie = choices_are_whole (choosing several c redundant settings);
  nowhere = λ none phase u v a r t. choices_without_servers (choosing several c redundant settings) none phase r u v a t;
}

-- the client above that
abbrev pub tying : Caching → Tying
tying g = record {
  c = g.c;
  st = cache.its g;
  P = g.P;
  B = listed g;
  V = Cached g.V;
  Q = Response g.Q;
  T = cache.cached g;
  ticket = cache.ticket_of g;
  stale = cache.stale g;
  IsHanded = cache.IsHanded g;
  first = cache.first g;
  Tied = cache.IsTied g;
  names = cache.names g;
  Owns = cache.Owns g;
  tie = cached_is_tied g;
}

module _ (t : trace.Transports) (given : Transports) (redundant : RedundantSettings) (settings : CacheSettings) (conf : ResolvConf) (words : ℕ → ℕ) (events : List Event) (rows : List Row) (are : AreGiven (conf_with t conf) given) (plain : plain_trace_with given redundant settings conf words events ≡ Some rows) (h : AreHandedIn settings words events) where
  abbrev c : Conf
  c = conf_with t conf

  abbrev above : Caching
  above = above_servers given.multi_stream.stream.streaming_response_timeout c redundant settings h.limited

  abbrev client : Tying
  client = tying above

  -- the run, with its exact cache beside it
  cached_run : (run : IsRun client.c client.st composed client.P (begun client.c client.st composed client.P) rows) × RunBeside client.st client.P client.B (begun client.c client.st composed client.P) rows run (client.B).first
  cached_run = clients_above_ties_run client words events rows h.small h.asked h.octets
      (subst (λ (r : Servers). plain_rows machine conf.options.timeout events (begins_with words (caching.started settings r)) ≡ Some rows) (all_begin given conf.options c are redundant settings conf.servers refl) plain)

  rows_asked : AllAskedInOctets (map (λ row. row.event) rows)
  rows_asked = subst AllAskedInOctets (sym (rows_of_events machine conf.options.timeout events (client_with words (started_with given redundant settings conf)) rows plain)) h.asked

  run_so : IsRun c (settings_of redundant settings) composed (served c) (begun c (settings_of redundant settings) composed (served c)) rows
  run_so = cached_run.0

  right_so : Right c (settings_of redundant settings) rows × Timely c rows
  right_so = every_run c (settings_of redundant settings) composed rows (composed_composes c) rows_asked run_so

  hit_so : AllHit c (settings_of redundant settings) composed (room_of settings) [] rows
  hit_so = cached_runs_hit above rows refl rows_asked cached_run.0 cached_run.1

  stale_so : AllServeStale c (settings_of redundant settings) (room_of settings) [] rows
  stale_so = cached_runs_serve_stale above rows refl rows_asked cached_run.0 cached_run.1

pub traces_run : (t : trace.Transports) (given : Transports) → TracesRun t given
traces_run t given redundant settings conf words events rows are plain h = run_so t given redundant settings conf words events rows are plain h

pub traces_are_right : (t : trace.Transports) (given : Transports) → TracesAreRight t given
traces_are_right t given redundant settings conf words events rows are plain h = right_so t given redundant settings conf words events rows are plain h

pub traces_hit : (t : trace.Transports) (given : Transports) → TracesHit t given
traces_hit t given redundant settings conf words events rows are plain h = hit_so t given redundant settings conf words events rows are plain h

pub traces_serve_stale : (t : trace.Transports) (given : Transports) → TracesServeStale t given
traces_serve_stale t given redundant settings conf words events rows are plain h = stale_so t given redundant settings conf words events rows are plain h

-- the defaults are the first settings

pub plain_traces_run : EveryPlainTraceRuns
plain_traces_run redundant settings conf words events rows plain h = traces_run trace.first_transports default_transports redundant settings conf words events rows (first_given (conf_of conf)) plain h

pub every_plain_trace_is_right : EveryPlainTraceIsRight
every_plain_trace_is_right redundant settings conf words events rows plain h = traces_are_right trace.first_transports default_transports redundant settings conf words events rows (first_given (conf_of conf)) plain h

pub every_plain_trace_hits : EveryPlainTraceHits
every_plain_trace_hits redundant settings conf words events rows plain h = traces_hit trace.first_transports default_transports redundant settings conf words events rows (first_given (conf_of conf)) plain h

pub every_plain_trace_serves_stale : EveryPlainTraceServesStale
every_plain_trace_serves_stale redundant settings conf words events rows plain h = traces_serve_stale trace.first_transports default_transports redundant settings conf words events rows (first_given (conf_of conf)) plain h

pub plain_traces_keep_events : PlainTracesKeepTheirEvents
plain_traces_keep_events redundant settings conf words events rows plain = rows_of_events machine conf.options.timeout events (client_with words (started redundant settings conf)) rows plain
