-- the lines of the pieces that are left stand behind those that were written
use Rattle.std.proofs.Common.{◌≡◌, ◌≤◌}
use Rattle.std.specs.Slice.Iter.{chunks_rest, chunks_size}
use Rattle.zone_fetch_run.proofs.Writing.{WrittenSoFar}
use Rattle.zone_fetch_run.proofs.lines.write_numbers.Given as goal

abbrev pub invariant-loop-piece : goal.invariant-loop-piece
invariant-loop-piece g l = record {
  can_next : (goal.iterator-loop-piece g).can_next l.piece-iterator;
  finite : (goal.iterator-loop-piece g).is_finite l.piece-iterator;
  size : chunks_size l.piece-iterator ≡ 1024;
  so_far : WrittenSoFar (chunks_rest l.piece-iterator) l.records (g.K.Sink.held l.fn.sink) (g.K.Sink.held l.sink);
  faults : g.K.Sink.faults l.fn.sink ≤ g.K.Sink.faults l.sink;
}
