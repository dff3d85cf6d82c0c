use Rattle.std.proofs.Common.{◌≡◌, ◌∙◌, ap, sym, refl, inl, inr, rules, arith, length, Option}
use Rattle.client_loop.specs.Asking.{scene}
use Rattle.dns_lookup_pages.specs.declared.short.Lacking.{Lacking}
use Rattle.dns_lookup_run.specs.Asking.{or_lack}
use Rattle.dns_lookup_run.specs.Reports.{tells}
use Rattle.dns_lookup_run.specs.Search.{tries_of}
use Rattle.dns_lookup_run.specs.Worlds.{world}
use Rattle.dns_lookup_run.proofs.Endings.{at_first, fails_ends, fails_made, lack_told, last_flushed, last_of, last_only, memory_ends, rose_later, none_left, so_begins, so_passed, so_told, told_by, told_later, tries_some, whole_ends, whole_made, passed_left, one_less, one_less_behind, some_of}
use Rattle.dns_lookup_run.proofs.Runs.{request_flushed}
use Rattle.dns_lookup_run.proofs.program.ask_all.Goals as goal

pub returns-in_default-clause-ends : goal.returns-in_default-clause-ends
returns-in_default-clause-ends g c = memory_ends _ _ _ _ _

pub returns-in_default-clause-made : goal.returns-in_default-clause-made
returns-in_default-clause-made g c = λ no_six no_seven. absurd (no_six refl)

pub loop-one-init : goal.loop-one-init
loop-one-init g c = record {
  so =
      so_begins g.A.Asks.made c.args.lookup.now c.args.conf.now
      (world (g.A.Asks.stream c.args.rng.now) (g.E.Edge.deeds c.args.edge.now.edge) (g.E.Edge.polls c.args.edge.now.edge) (g.C.Clock.given c.args.clock.now.clock)) c.args.rng.now
      c.in-Ok-client_of.client (g.E.Edge.deeds c.client_of.new.edge.edge) (g.E.Edge.waits c.client_of.new.edge.edge) (g.E.Edge.polls c.client_of.new.edge.edge) c.as_slice-rest.result.now c.in-Ok-client_of.ensures (search rules);
  counted = omega arith;
  quiet = refl;
  no_fault = refl;
  count = omega arith;
  flushed = inl (some_of c.as_slice-rest.result.now (tries_of c.args.lookup.now.search c.args.conf.now.options c.args.lookup.now.asks) (search rules) (tries_some c.args.lookup.now.search c.args.conf.now.options c.args.lookup.now.asks c.requires.some));
}

pub loop-one-preserved : goal.loop-one-preserved
loop-one-preserved g c =
    let zero : c.tell-status.result.0 ≡ 0 = omega arith in
    record {
      so =
          so_told g.A.Asks.made c.args.lookup.now c.args.conf.now
          (world (g.A.Asks.stream c.args.rng.now) (g.E.Edge.deeds c.args.edge.now.edge) (g.E.Edge.polls c.args.edge.now.edge) (g.C.Clock.given c.args.clock.now.clock)) c.args.rng.now c.in-Some.one.now c.in-Some.later.now c.loop-one.number c.loop-one.lack c.loop-one.rng c.asked-came.new.words
          (scene c.loop-one.client (g.A.Asks.stream c.loop-one.rng) (g.E.Edge.deeds c.loop-one.edge.edge) (g.E.Edge.waits c.loop-one.edge.edge) (g.E.Edge.polls c.loop-one.edge.edge) (g.C.Clock.given c.loop-one.clock.clock))
          (scene c.asked-came.new.client (g.A.Asks.stream c.asked-came.new.words) (g.E.Edge.deeds c.asked-came.new.edge.edge) (g.E.Edge.waits c.asked-came.new.edge.edge) (g.E.Edge.polls c.asked-came.new.edge.edge) (g.C.Clock.given c.asked-came.new.clock.clock))
          (at_first _ _ _ _ _ _ c.loop-one.rest.now c.in-Some.one.now c.in-Some.later.now _ _ _ _ (search rules) c.loop-one.invariant.so)
          c.or_lack-lack.result c.behind_tries-rest.result.now c.asked-came.result (c.tell-status.ensures.good (inl zero)) c.asked-came.ensures.made
          (sym c.passes_by.ensures ∙ c.if-passes_by.false) (c.or_lack-lack.ensures ∙ ap (λ (l : Option Lacking). or_lack c.loop-one.lack l) c.lack_in.ensures) c.behind_tries-rest.ensures;
      counted = one_less_behind c.loop-one.number _ c.loop-one.rest.now c.in-Some.one.now c.in-Some.later.now c.behind_tries-rest.result.now (search rules) c.behind_tries-rest.ensures c.loop-one.invariant.counted;
      quiet = c.tell-status.ensures.quiet zero ∙ c.loop-one.invariant.quiet;
      no_fault = c.tell-status.ensures.no_fault zero ∙ c.loop-one.invariant.no_fault;
      count = omega (arith, c.loop-one.invariant.count, c.tell-status.ensures.count);
      flushed = inr (c.tell-status.ensures.flushed zero);
    }

pub returns-then-status-gt0-clause-ends : goal.returns-then-status-gt0-clause-ends
returns-then-status-gt0-clause-ends g c =
    fails_ends g.A.Asks.made c.args.lookup.now c.args.conf.now
    (world (g.A.Asks.stream c.args.rng.now) (g.E.Edge.deeds c.args.edge.now.edge) (g.E.Edge.polls c.args.edge.now.edge) (g.C.Clock.given c.args.clock.now.clock)) c.args.rng.now c.in-Some.one.now c.in-Some.later.now c.loop-one.number c.loop-one.lack c.loop-one.rng
    (scene c.loop-one.client (g.A.Asks.stream c.loop-one.rng) (g.E.Edge.deeds c.loop-one.edge.edge) (g.E.Edge.waits c.loop-one.edge.edge) (g.E.Edge.polls c.loop-one.edge.edge) (g.C.Clock.given c.loop-one.clock.clock)) c.asked-came.new.client
    (world (g.A.Asks.stream c.asked-came.new.words) (g.E.Edge.deeds c.asked-came.new.edge.edge) (g.E.Edge.polls c.asked-came.new.edge.edge) (g.C.Clock.given c.asked-came.new.clock.clock)) (g.E.Edge.waits c.asked-came.new.edge.edge) c.tell-status.result.0
    (tells g.L.Sink.held g.L.Sink.faults c.args.conf.now.servers c.args.errors.now c.tell-status.new.errors) c.asked-came.result
    (at_first _ _ _ _ _ _ c.loop-one.rest.now c.in-Some.one.now c.in-Some.later.now _ _ _ _ (search rules) c.loop-one.invariant.so)
    (sym c.passes_by.ensures ∙ c.if-passes_by.false) c.asked-came.ensures.answered c.asked-came.ensures.numbers c.tell-status.ensures.statuses (omega arith) c.tell-status.ensures.good c.tell-status.ensures.bad
    (λ five. told_by g.L.Sink.held g.L.Sink.faults c.args.conf.now.servers c.opened.result.now c.args.errors.now c.tell-status.new.errors c.asked-came.result
    ((rw (c.as_slice-servers.ensures, c.loop-one.invariant.quiet, c.loop-one.invariant.no_fault) at c.tell-status.ensures.said) five))
    c.tell-status.ensures.numbers

pub returns-then-status-gt0-clause-made : goal.returns-then-status-gt0-clause-made
returns-then-status-gt0-clause-made g c = λ no_six no_seven.
    fails_made g.A.Asks.made c.args.lookup.now c.args.conf.now
    (world (g.A.Asks.stream c.args.rng.now) (g.E.Edge.deeds c.args.edge.now.edge) (g.E.Edge.polls c.args.edge.now.edge) (g.C.Clock.given c.args.clock.now.clock)) c.args.rng.now c.in-Some.one.now c.in-Some.later.now c.loop-one.number c.loop-one.lack c.loop-one.rng c.asked-came.new.words
    (scene c.loop-one.client (g.A.Asks.stream c.loop-one.rng) (g.E.Edge.deeds c.loop-one.edge.edge) (g.E.Edge.waits c.loop-one.edge.edge) (g.E.Edge.polls c.loop-one.edge.edge) (g.C.Clock.given c.loop-one.clock.clock)) c.asked-came.new.client
    (world (g.A.Asks.stream c.asked-came.new.words) (g.E.Edge.deeds c.asked-came.new.edge.edge) (g.E.Edge.polls c.asked-came.new.edge.edge) (g.C.Clock.given c.asked-came.new.clock.clock)) (g.E.Edge.waits c.asked-came.new.edge.edge) c.tell-status.result.0 c.asked-came.result
    (at_first _ _ _ _ _ _ c.loop-one.rest.now c.in-Some.one.now c.in-Some.later.now _ _ _ _ (search rules) c.loop-one.invariant.so)
    (sym c.passes_by.ensures ∙ c.if-passes_by.false) c.asked-came.ensures.made c.tell-status.ensures.statuses c.tell-status.ensures.good c.tell-status.ensures.bad no_six no_seven

pub returns-then-status-gt0-clause-stops : goal.returns-then-status-gt0-clause-stops
returns-then-status-gt0-clause-stops g c = λ seven. told_later _ _ _ _ _ _ _ c.loop-one.invariant.quiet c.loop-one.invariant.no_fault (c.tell-status.ensures.stops seven)

pub returns-then-status-gt0-clause-unwritten : goal.returns-then-status-gt0-clause-unwritten
returns-then-status-gt0-clause-unwritten g c = λ four. told_later _ _ _ _ _ _ _ c.loop-one.invariant.quiet c.loop-one.invariant.no_fault (c.tell-status.ensures.unwritten four)

pub returns-then-status-gt0-clause-line_flushed : goal.returns-then-status-gt0-clause-line_flushed
returns-then-status-gt0-clause-line_flushed g c =
    request_flushed c.tell-status.result.0 _ c.tell-status.ensures.statuses (rw c.loop-one.invariant.no_fault at c.tell-status.ensures.line_flushed)

pub returns-then-status-gt0-clause-sink_fault : goal.returns-then-status-gt0-clause-sink_fault
returns-then-status-gt0-clause-sink_fault g c = λ four. rose_later _ _ _ c.loop-one.invariant.count (c.tell-status.ensures.sink_fault four)

pub returns-clause-statuses : goal.returns-clause-statuses
returns-clause-statuses g c = last_of c.tell_lack.result.0 c.loop-one.lack c.tell_lack.ensures.status

pub returns-clause-ends : goal.returns-clause-ends
returns-clause-ends g c =
    whole_ends g.A.Asks.made c.args.lookup.now c.args.conf.now
    (world (g.A.Asks.stream c.args.rng.now) (g.E.Edge.deeds c.args.edge.now.edge) (g.E.Edge.polls c.args.edge.now.edge) (g.C.Clock.given c.args.clock.now.clock)) c.args.rng.now c.loop-one.rest.now c.loop-one.number c.loop-one.lack c.loop-one.rng c.loop-one.client
    (world (g.A.Asks.stream c.loop-one.rng) (g.E.Edge.deeds c.loop-one.edge.edge) (g.E.Edge.polls c.loop-one.edge.edge) (g.C.Clock.given c.loop-one.clock.clock)) (g.E.Edge.waits c.loop-one.edge.edge) c.tell_lack.result.0
    (tells g.L.Sink.held g.L.Sink.faults c.args.conf.now.servers c.args.errors.now c.tell_lack.new.errors)
    c.loop-one.invariant.so c.in_default-split_first.ensures.cases c.tell_lack.ensures.status
    (λ no_six. lack_told g.L.Sink.held g.L.Sink.faults c.args.conf.now.servers c.args.errors.now c.loop-one.errors c.tell_lack.new.errors c.loop-one.lack c.loop-one.invariant.quiet c.loop-one.invariant.no_fault
    (c.tell_lack.ensures.said no_six))

pub returns-clause-made : goal.returns-clause-made
returns-clause-made g c = λ no_six no_seven.
    whole_made g.A.Asks.made c.args.lookup.now c.args.conf.now
    (world (g.A.Asks.stream c.args.rng.now) (g.E.Edge.deeds c.args.edge.now.edge) (g.E.Edge.polls c.args.edge.now.edge) (g.C.Clock.given c.args.clock.now.clock)) c.args.rng.now c.loop-one.rest.now c.loop-one.number c.loop-one.lack c.loop-one.rng c.loop-one.client
    (world (g.A.Asks.stream c.loop-one.rng) (g.E.Edge.deeds c.loop-one.edge.edge) (g.E.Edge.polls c.loop-one.edge.edge) (g.C.Clock.given c.loop-one.clock.clock)) (g.E.Edge.waits c.loop-one.edge.edge) c.loop-one.invariant.so

pub returns-clause-stops : goal.returns-clause-stops
returns-clause-stops g c = λ seven. absurd ((last_only c.tell_lack.result.0 c.loop-one.lack c.tell_lack.ensures.status).4 seven)

pub returns-clause-unwritten : goal.returns-clause-unwritten
returns-clause-unwritten g c = λ four. absurd ((last_only c.tell_lack.result.0 c.loop-one.lack c.tell_lack.ensures.status).2 four)

pub returns-clause-sink_fault : goal.returns-clause-sink_fault
returns-clause-sink_fault g c = λ four. absurd ((last_only c.tell_lack.result.0 c.loop-one.lack c.tell_lack.ensures.status).2 four)

pub returns-clause-line_flushed : goal.returns-clause-line_flushed
returns-clause-line_flushed g c = last_flushed c.tell_lack.result.0 c.loop-one.lack _ c.tell_lack.ensures.status (rw c.loop-one.invariant.no_fault at c.tell_lack.ensures.flushed)

pub returns-clause-quiet : goal.returns-clause-quiet
returns-clause-quiet g c = λ zero. c.tell_lack.ensures.quiet zero ∙ c.loop-one.invariant.quiet

pub returns-clause-flushed : goal.returns-clause-flushed
returns-clause-flushed g c = λ done. none_left _ _ c.in_default-split_first.ensures.cases c.loop-one.invariant.flushed

pub loop-one-preserved-then-passes_by : goal.loop-one-preserved-then-passes_by
loop-one-preserved-then-passes_by g c =
    let passes = sym c.passes_by.ensures ∙ c.if-passes_by.true in
    record {
      so =
          so_passed g.A.Asks.made c.args.lookup.now c.args.conf.now
          (world (g.A.Asks.stream c.args.rng.now) (g.E.Edge.deeds c.args.edge.now.edge) (g.E.Edge.polls c.args.edge.now.edge) (g.C.Clock.given c.args.clock.now.clock)) c.args.rng.now c.in-Some.one.now c.in-Some.later.now c.loop-one.number c.loop-one.lack c.loop-one.rng c.asked-came.new.words
          (scene c.loop-one.client (g.A.Asks.stream c.loop-one.rng) (g.E.Edge.deeds c.loop-one.edge.edge) (g.E.Edge.waits c.loop-one.edge.edge) (g.E.Edge.polls c.loop-one.edge.edge) (g.C.Clock.given c.loop-one.clock.clock))
          (scene c.asked-came.new.client (g.A.Asks.stream c.asked-came.new.words) (g.E.Edge.deeds c.asked-came.new.edge.edge) (g.E.Edge.waits c.asked-came.new.edge.edge) (g.E.Edge.polls c.asked-came.new.edge.edge) (g.C.Clock.given c.asked-came.new.clock.clock))
          (at_first _ _ _ _ _ _ c.loop-one.rest.now c.in-Some.one.now c.in-Some.later.now _ _ _ _ (search rules) c.loop-one.invariant.so)
          c.asked-came.result c.asked-came.ensures.made passes;
      counted = one_less c.loop-one.number _ c.loop-one.rest.now c.in-Some.one.now c.in-Some.later.now (search rules) c.loop-one.invariant.counted;
      quiet = c.loop-one.invariant.quiet;
      no_fault = c.loop-one.invariant.no_fault;
      count = c.loop-one.invariant.count;
      flushed = inl (passed_left c.in-Some.one.now c.in-Some.later.now c.asked-came.result passes);
    }

pub loop-one-preserved-else-status-gt0 : goal.loop-one-preserved-else-status-gt0
loop-one-preserved-else-status-gt0 g c =
    let zero : c.tell-status.result.0 ≡ 0 = omega arith in
    record {
      so =
          so_told g.A.Asks.made c.args.lookup.now c.args.conf.now
          (world (g.A.Asks.stream c.args.rng.now) (g.E.Edge.deeds c.args.edge.now.edge) (g.E.Edge.polls c.args.edge.now.edge) (g.C.Clock.given c.args.clock.now.clock)) c.args.rng.now c.in-Some.one.now c.in-Some.later.now c.loop-one.number c.loop-one.lack c.loop-one.rng c.asked-came.new.words
          (scene c.loop-one.client (g.A.Asks.stream c.loop-one.rng) (g.E.Edge.deeds c.loop-one.edge.edge) (g.E.Edge.waits c.loop-one.edge.edge) (g.E.Edge.polls c.loop-one.edge.edge) (g.C.Clock.given c.loop-one.clock.clock))
          (scene c.asked-came.new.client (g.A.Asks.stream c.asked-came.new.words) (g.E.Edge.deeds c.asked-came.new.edge.edge) (g.E.Edge.waits c.asked-came.new.edge.edge) (g.E.Edge.polls c.asked-came.new.edge.edge) (g.C.Clock.given c.asked-came.new.clock.clock))
          (at_first _ _ _ _ _ _ c.loop-one.rest.now c.in-Some.one.now c.in-Some.later.now _ _ _ _ (search rules) c.loop-one.invariant.so)
          c.or_lack-lack.result c.behind_tries-rest.result.now c.asked-came.result (c.tell-status.ensures.good (inl zero)) c.asked-came.ensures.made
          (sym c.passes_by.ensures ∙ c.if-passes_by.false) (c.or_lack-lack.ensures ∙ ap (λ (l : Option Lacking). or_lack c.loop-one.lack l) c.lack_in.ensures) c.behind_tries-rest.ensures;
      counted = one_less_behind c.loop-one.number _ c.loop-one.rest.now c.in-Some.one.now c.in-Some.later.now c.behind_tries-rest.result.now (search rules) c.behind_tries-rest.ensures c.loop-one.invariant.counted;
      quiet = c.tell-status.ensures.quiet zero ∙ c.loop-one.invariant.quiet;
      no_fault = c.tell-status.ensures.no_fault zero ∙ c.loop-one.invariant.no_fault;
      count = omega (arith, c.loop-one.invariant.count, c.tell-status.ensures.count);
      flushed = inr (c.tell-status.ensures.flushed zero);
    }

pub loop-one-smaller-else-status-gt0 : goal.loop-one-smaller-else-status-gt0
loop-one-smaller-else-status-gt0 g c =
    let fewer = one_less_behind 0 (length c.loop-one.rest.now) c.loop-one.rest.now c.in-Some.one.now c.in-Some.later.now c.behind_tries-rest.result.now (search rules) c.behind_tries-rest.ensures (omega arith) in
    omega (arith, fewer)

pub returns-then-status-gt0-clause-count : goal.returns-then-status-gt0-clause-count
returns-then-status-gt0-clause-count g c = omega (arith, c.loop-one.invariant.count, c.tell-status.ensures.count)

pub returns-clause-count : goal.returns-clause-count
returns-clause-count g c = c.loop-one.invariant.count
