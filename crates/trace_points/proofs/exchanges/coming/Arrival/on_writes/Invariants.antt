-- what is found, and what is found among those that are left
use Rattle.std.proofs.Common.{◌≡◌, ◌++◌}
use Rattle.trace_points.specs.exchanges.Coming.{found_in, on_write}
use Rattle.trace_points.proofs.exchanges.coming.Arrival.on_writes.Given as goal

abbrev pub invariant-loop-written : goal.invariant-loop-written
invariant-loop-written l = record {
  can_next : (goal.iterator-loop-written).can_next l.written-iterator;
  is_finite : (goal.iterator-loop-written).is_finite l.written-iterator;
  same : l.found ++ found_in (on_write l.self.conf.now l.self.wanted l.self.past.now l.self.here.now.books l.self.place l.self.number l.id l.message) l.written-iterator
      ≡ l.fn.found ++ found_in (on_write l.self.conf.now l.self.wanted l.self.past.now l.self.here.now.books l.self.place l.self.number l.id l.message) l.writes;
}
