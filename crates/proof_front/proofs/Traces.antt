-- The rows of the client within a forwarder.
use Rattle.std.proofs.Common.{◌≡◌, ℕ, ◌≤◌, List, [], ◌∷◌, ◌++◌, Some, refl, ap, sym, subst, ◌∙◌, append_assoc}
use Rattle.client_request.specs.declared.event.Event.{Event}
use Rattle.client_request.specs.declared.event.Row.{Row}
use Rattle.client_loop.specs.Turns.{Leads, events_of}
use Rattle.client_loop.proofs.Rows.{event_behind, leads_nowhere, leads_on, plain_of}
use Rattle.client_settings.specs.Settings.{CacheSettings, RedundantSettings, seconds}
use Rattle.client_settings.specs.declared.settings.Transports.{Transports}
use Rattle.client_steps.specs.Client.{row_step}
use Rattle.client_steps.specs.Whole.{Client, Whole, client_with, machine, plain_trace_with, started_with}
use Rattle.front_core.specs.Core.{IsCoreStep}
use Rattle.front_core.specs.Forwarded.{Forwards, Makes, begins, goes_on}
use Rattle.front_peers.specs.declared.event.FrontRow.{FrontRow}
use Rattle.front_steps.specs.Steps.{Forwarding, Runs, beginning, rests, steps_on}
use Rattle.proof_client.specs.Above.{AreWords}
use Rattle.proof_client.specs.Ties.{AreHandedIn, TracesAreRight, TracesHit, TracesServeStale}
use Rattle.proof_front.specs.Forwarding.{EveryForwardedTraceIsRight, IsRightTrace}
use Rattle.resolv_conf.specs.declared.conf.ResolvConf.{ResolvConf}
use Rattle.right_trace.specs.InOctets.{AllInOctets, IsInOctets}
use Rattle.right_trace.specs.Timely.{AllAskedInOctets, IsAskedInOctets}
use Rattle.right_trace.specs.Trace as trace

asked_more : (es : List Event) (e : Event) → AllAskedInOctets es → IsAskedInOctets e.what → AllAskedInOctets (es ++ e ∷ [])
asked_more [] e all one = (one, tt)
asked_more (x ∷ es) e all one = (all.0, asked_more es e all.1 one)

comes_more : (es : List Event) (e : Event) → AllInOctets es → IsInOctets e.what → AllInOctets (es ++ e ∷ [])
comes_more [] e all one = (one, tt)
comes_more (x ∷ es) e all one = (all.0, comes_more es e all.1 one)

append_nil : (xs : List Row) → xs ++ [] ≡ xs
append_nil [] = refl
append_nil (x ∷ xs) = ap (λ (ys : List Row). x ∷ ys) (append_nil xs)

-- The rows so far lead from a client to the one that is now, and are made of octets.
record LeadsTo (timeout : ℕ) (first : Client) (trace : List Row) (last : Whole) (left : ℕ → ℕ) : Type 0 where
  leads : Leads timeout first trace (client_with left last)
  timed : last.timeout ≡ timeout
  asked : AllAskedInOctets (events_of trace)
  comes : AllInOctets (events_of trace)

module _ (timeout : ℕ) (first : Client) where
  one_on : (trace : List Row) (row : Row) (a b : Whole) (f g : ℕ → ℕ) → LeadsTo timeout first trace a f → IsCoreStep a f row.event row b g → LeadsTo timeout first (trace ++ row ∷ []) b g
  one_on trace row a b f g so step = record {
    leads = leads_on timeout first (client_with f a) (client_with g b) trace row so.leads
        (subst (λ (t : ℕ). row_step machine t row.event (client_with f a) ≡ Some (row, client_with g b)) so.timed step.row_is);
    timed = step.timeout ∙ so.timed;
    asked = subst AllAskedInOctets (sym (event_behind trace row)) (asked_more (events_of trace) row.event so.asked step.asked);
    comes = subst AllInOctets (sym (event_behind trace row)) (comes_more (events_of trace) row.event so.comes step.comes);
  }

  -- rows that come one behind another
  all_on : (trace : List Row) (a : Whole) (f : ℕ → ℕ) (rows : List Row) (b : Whole) (g : ℕ → ℕ) → LeadsTo timeout first trace a f → Runs IsCoreStep a f rows b g → LeadsTo timeout first (trace ++ rows) b g
  all_on trace a f rows b g so rests = subst (λ (ts : List Row). LeadsTo timeout first ts a f) (sym (append_nil trace)) so
  all_on trace a f rows b g so (steps_on before all row c d h k runs step is) =
      let so_far : LeadsTo timeout first (trace ++ before) c h = all_on trace a f before c h so runs in
      subst (λ (ts : List Row). LeadsTo timeout first ts d k)
      (append_assoc trace before (row ∷ []) ∙ ap (λ (rs : List Row). trace ++ rs) (sym is))
      (one_on (trace ++ before) row c d h k so_far step)

-- the rows of a forwarder's client
leads_all : (timeout : ℕ) (first : Forwarding Whole) (words : ℕ → ℕ) (rows : List FrontRow) (trace : List Row) (last : Forwarding Whole) (left : ℕ → ℕ)
    → first.within.timeout ≡ timeout → Forwards first words rows trace last left → LeadsTo timeout (client_with words first.within) trace last.within left
leads_all timeout first words rows trace last left is begins = record {
  leads = leads_nowhere timeout (client_with words first.within);
  timed = is;
  asked = tt;
  comes = tt;
}
leads_all timeout first words rows trace last left is (goes_on some all row before whole a b f g forwards made rows_are trace_is) =
    let so_far : LeadsTo timeout (client_with words first.within) before a.within f = leads_all timeout first words some before a f is forwards in
    subst (λ (ts : List Row). LeadsTo timeout (client_with words first.within) ts b.within g) (sym trace_is)
    (all_on timeout (client_with words first.within) before a.within f (made.rows ++ made.now) b.within g so_far made.runs)

pub forwarded_traces : ((t : trace.Transports) (given : Transports) → TracesAreRight t given) → ((t : trace.Transports) (given : Transports) → TracesHit t given)
    → ((t : trace.Transports) (given : Transports) → TracesServeStale t given) → EveryForwardedTraceIsRight
forwarded_traces every hits stale given redundant cache conf words rows made last left forwards limited small =
    let timeout = conf.options.timeout in
    let first = started_with given redundant cache conf in
    let so = leads_all timeout (beginning first) words rows made last left refl forwards in
    let plain : plain_trace_with given redundant cache conf words (events_of made) ≡ Some made = plain_of timeout (client_with words first) (client_with left last.within) made so.leads in
    let handed : AreHandedIn cache words (events_of made) = record { limited = limited; small = small; asked = so.asked; octets = so.comes } in
    record {
      plain = plain;
      right = λ t are. (every t given redundant cache conf words (events_of made) made are plain handed).0;
      timely = λ t are. (every t given redundant cache conf words (events_of made) made are plain handed).1;
      hits = λ t are. hits t given redundant cache conf words (events_of made) made are plain handed;
      stale = λ t are. stale t given redundant cache conf words (events_of made) made are plain handed;
    }
