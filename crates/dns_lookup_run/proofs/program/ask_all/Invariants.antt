use Rattle.std.proofs.Common.{◌≡◌, ◌⊎◌, ◌+◌, ◌<◌, ◌≤◌, length}
use Rattle.client_loop.specs.Asking.{scene}
use Rattle.dns_values.specs.Sink.{IsFlushed}
use Rattle.dns_lookup_run.specs.Search.{tries_of}
use Rattle.dns_lookup_run.specs.Worlds.{world}
use Rattle.dns_lookup_run.proofs.Endings.{SoFar}
use Rattle.dns_lookup_run.proofs.program.ask_all.Given as goal

abbrev pub invariant-loop-one : goal.invariant-loop-one
invariant-loop-one g l = record {
  so : SoFar g.A.Asks.made (tries_of l.lookup.search l.conf.options l.lookup.asks) l.lookup l.conf
      (world (g.A.Asks.stream l.fn.rng) (g.E.Edge.deeds l.fn.edge.edge) (g.E.Edge.polls l.fn.edge.edge) (g.C.Clock.given l.fn.clock.clock)) l.fn.rng l.rest l.number l.lack l.rng
      (scene l.client (g.A.Asks.stream l.rng) (g.E.Edge.deeds l.edge.edge) (g.E.Edge.waits l.edge.edge) (g.E.Edge.polls l.edge.edge) (g.C.Clock.given l.clock.clock));
  counted : l.number + length l.rest ≤ length l.initial.rest;
  quiet : g.L.Sink.held l.errors ≡ g.L.Sink.held l.fn.errors;
  no_fault : g.L.Sink.faults l.errors ≡ g.L.Sink.faults l.fn.errors;
  count : g.K.Sink.faults l.fn.sink ≤ g.K.Sink.faults l.sink;
  flushed : (0 < length l.rest) ⊎ IsFlushed (g.K.Sink.held l.sink) (g.K.Sink.flushed l.sink);
}

abbrev pub decreases-loop-one : goal.decreases-loop-one
decreases-loop-one g l = length l.rest
