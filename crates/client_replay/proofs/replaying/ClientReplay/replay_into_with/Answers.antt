use Rattle.std.proofs.Common.{◌≡◌, List, [], ◌∷◌, ◌++◌, rules, sym, subst, ap, ◌∙◌, Some, None}
use Rattle.std.proofs.lemmas.List.{nil_from_length}
use Rattle.std.specs.Prelude.{option_map}
use Rattle.std.specs.Vec.Iter.{into_iter_items}
use Rattle.client_request.specs.declared.event.Event.{Event}
use Rattle.client_steps.specs.Client.{plain_rows, row_step}
use Rattle.client_steps.specs.Whole.{machine, client_with}
use Rattle.client_core.proofs.Replaying.{next_row, no_row}
use Rattle.right_trace.specs.InOctets.{AllInOctets}
use Rattle.right_trace.specs.Timely.{AllAskedInOctets}
use Rattle.client_replay.proofs.Rightness.{is_replay, none_made}
use Rattle.client_replay.proofs.replaying.ClientReplay.replay_into_with.Goals as goal

pub loop-event-init : goal.loop-event-init
loop-event-init g c = record {
  rows = [];
  taken = search rules;
  same = none_made _ ∙ search rules;
  timeout = search rules;
  lasts = search rules;
}

pub loop-event-preserved : goal.loop-event-preserved
loop-event-preserved g c =
    let event = c.in-Some.event in
    let rest = into_iter_items c.next.new.self in
    let timeout = c.args.conf.now.options.timeout in
    let before = client_with (g.W.Words.stream c.loop-event.words) c.loop-event.client in
    let after = client_with (g.W.Words.stream c.step.new.words) c.step.new.self in
    let rows = c.loop-event.invariant.rows in
    let row = c.in_ok-row.row in
    let stepped = subst (λ t. row_step machine t event before ≡ Some (row, after)) c.loop-event.invariant.timeout c.in_ok-row.ensures.row in
    record {
      rows = rows ++ row ∷ [];
      taken = c.in_ok-take.ensures.taken rows c.loop-event.invariant.taken;
      same =
          c.loop-event.invariant.same
          ∙ ap (λ (es : List Event). option_map (λ xs. rows ++ xs) (plain_rows machine timeout es before)) c.in-Some.ensures.steps.0
          ∙ next_row machine timeout rows row event rest before after stepped;
      timeout = search rules;
      lasts = search rules;
    }

pub returns-clause-replay : goal.returns-clause-replay
returns-clause-replay g c =
    let ok = c.loop-event.event-iterator.rest.ok in
    let none : into_iter_items c.loop-event.event-iterator ≡ [] = nil_from_length _ (sym ok.0 ∙ c.in-None.ensures.steps.0) in
    let rows = c.loop-event.invariant.rows in
    let client = client_with (g.W.Words.stream c.loop-event.words) c.loop-event.client in
    let plain = c.loop-event.invariant.same ∙ ap (λ (es : List Event). option_map (λ xs. rows ++ xs) (plain_rows machine c.args.conf.now.options.timeout es client)) none in (
      rows,
      is_replay c.args.settings.transports c.args.settings.redundant c.args.settings.cache c.args.conf.now (g.W.Words.stream c.args.words.now) c.args.events rows
          c.traces_with_settings.ensures.right c.traces_with_settings.ensures.hit c.traces_with_settings.ensures.stale c.traces_may_be_cut.ensures
          plain (record { limited = c.max_validity_is_limited.ensures; small = g.met.W.Words.words_fit c.args.words.now; asked = subst AllAskedInOctets c.as_slice-told.ensures c.all_asked_in_octets.ensures; octets = subst AllInOctets c.as_slice-told.ensures c.all_in_octets.ensures }),
      c.loop-event.invariant.taken,
    )

pub returns-in_err-row-clause-numbers : goal.returns-in_err-row-clause-numbers
returns-in_err-row-clause-numbers g c = λ is.
    let event = c.in-Some.event in
    let rest = into_iter_items c.next.new.self in
    let timeout = c.args.conf.now.options.timeout in
    let before = client_with (g.W.Words.stream c.loop-event.words) c.loop-event.client in
    let rows = c.loop-event.invariant.rows in
    let stops = subst (λ t. row_step machine t event before ≡ None) c.loop-event.invariant.timeout (c.in_err-row.ensures.numbers (search rules)) in
    c.loop-event.invariant.same
    ∙ ap (λ (es : List Event). option_map (λ xs. rows ++ xs) (plain_rows machine timeout es before)) c.in-Some.ensures.steps.0
    ∙ no_row machine timeout rows event rest before stops
