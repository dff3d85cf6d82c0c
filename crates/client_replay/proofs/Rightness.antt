-- What a replay has made when no event is left.
use Rattle.std.proofs.Common.{◌≡◌, ℕ, List, [], ◌∷◌, ◌++◌, map, Option, Some, None, refl, ap, subst, ◌∙◌, append-nil}
use Rattle.std.specs.Prelude.{option_map, option_and_then}
use Rattle.client_core.proofs.Replaying.{row_event}
use Rattle.client_request.specs.declared.event.Event.{Event}
use Rattle.client_request.specs.declared.event.Row.{Row}
use Rattle.client_steps.specs.Client.{Client, Machine, plain_rows, row_step, then_rows}
use Rattle.proof_cutting.specs.Cuts.{TracesMayBeCut}
use Rattle.proof_client.specs.Ties.{AreHandedIn, TracesAreRight, TracesHit, TracesServeStale}
use Rattle.client_settings.specs.Client.{default_transports}
use Rattle.client_settings.specs.declared.settings.Transports.{Transports}
use Rattle.client_steps.specs.Headline.{conf_of}
use Rattle.right_settings.proofs.First.{first_given}
use Rattle.right_trace.specs.Trace as trace
use Rattle.client_settings.specs.Settings.{CacheSettings, RedundantSettings}
use Rattle.client_steps.specs.Whole.{machine, plain_trace, plain_trace_with}
use Rattle.client_replay.specs.Replayed.{IsReplay, IsReplayWith}
use Rattle.resolv_conf.specs.declared.conf.ResolvConf.{ResolvConf}

-- no row was made yet
pub none_made : (o : Option (List Row)) → o ≡ option_map (λ rest. [] ++ rest) o
none_made None = refl
none_made (Some rows) = refl

-- the rows of events, one for each
module _ {U P : Type 0} (m : Machine U P) (timeout : ℕ) where
  behind : (row : Row) (e : Event) (es : List Event) (o : Option (List Row)) (rows : List Row)
      → ((xs : List Row) → o ≡ Some xs → map (λ r. r.event) xs ≡ es) → row.event ≡ e → option_map (λ xs. row ∷ xs) o ≡ Some rows → map (λ r. r.event) rows ≡ e ∷ es
  behind row e es None rows rest is h = absurd cc
  behind row e es (Some xs) rows rest is h = let later = rest xs refl in cc

  of_step : (e : Event) (es : List Event) (c : Client U P) (rows : List Row)
      → ((d : Client U P) (xs : List Row) → plain_rows m timeout es d ≡ Some xs → map (λ r. r.event) xs ≡ es)
      → (o : Option (Row × Client U P)) → row_step m timeout e c ≡ o → option_and_then (then_rows (plain_rows m timeout es)) o ≡ Some rows → map (λ r. r.event) rows ≡ e ∷ es
  of_step e es c rows rest None is h = absurd cc
  of_step e es c rows rest (Some x) is h = behind x.0 e es (plain_rows m timeout es x.1) rows (rest x.1) (row_event m timeout x.0 e c x.1 is) h

  pub each_row : (es : List Event) (c : Client U P) (rows : List Row) → plain_rows m timeout es c ≡ Some rows → map (λ r. r.event) rows ≡ es
  each_row [] c rows h = cc
  each_row (e ∷ es) c rows h = of_step e es c rows (each_row es) (row_step m timeout e c) refl h

-- What was made is what a replay makes.
pub is_replay : (given : Transports) (redundant : RedundantSettings) (cache : CacheSettings) (conf : ResolvConf) (words : ℕ → ℕ) (events : List Event) (rows : List Row)
    → ((t : trace.Transports) (given : Transports) → TracesAreRight t given) → ((t : trace.Transports) (given : Transports) → TracesHit t given) → ((t : trace.Transports) (given : Transports) → TracesServeStale t given) → TracesMayBeCut
    → plain_trace_with given redundant cache conf words events ≡ Some (rows ++ []) → AreHandedIn cache words events → IsReplayWith given redundant cache conf words events rows
is_replay given redundant cache conf words events rows right hits serves cuts made handed =
    let plain = made ∙ ap Some (append-nil rows) in
    record {
      plain = plain;
      each = each_row machine conf.options.timeout events _ rows plain;
      right = λ t are. (right t given redundant cache conf words events rows are plain handed).0;
      timely = λ t are. (right t given redundant cache conf words events rows are plain handed).1;
      hits = λ t are. hits t given redundant cache conf words events rows are plain handed;
      stale = λ t are. serves t given redundant cache conf words events rows are plain handed;
      cut = λ t are. cuts t given redundant cache conf words events rows are plain handed;
    }

-- With the defaults it is a replay with the first settings.
pub replay_of : (given : Transports) (redundant : RedundantSettings) (cache : CacheSettings) (conf : ResolvConf) (words : ℕ → ℕ) (events : List Event) (rows : List Row) → given ≡ default_transports
    → IsReplayWith given redundant cache conf words events rows → IsReplay redundant cache conf words events rows
replay_of given redundant cache conf words events rows defaults y =
    let x = subst (λ (t : Transports). IsReplayWith t redundant cache conf words events rows) defaults y in
    let are = first_given (conf_of conf) in
    record {
      plain = x.plain;
      each = x.each;
      right = x.right trace.first_transports are;
      timely = x.timely trace.first_transports are;
      hits = x.hits trace.first_transports are;
      stale = x.stale trace.first_transports are;
      cut = x.cut trace.first_transports are;
    }

-- With the defaults there is no plain trace where there is none with what was given.
pub none_of : (given : Transports) (redundant : RedundantSettings) (cache : CacheSettings) (conf : ResolvConf) (words : ℕ → ℕ) (events : List Event) → given ≡ default_transports
    → plain_trace_with given redundant cache conf words events ≡ None → plain_trace redundant cache conf words events ≡ None
none_of given redundant cache conf words events defaults none = subst (λ (t : Transports). plain_trace_with t redundant cache conf words events ≡ None) defaults none
