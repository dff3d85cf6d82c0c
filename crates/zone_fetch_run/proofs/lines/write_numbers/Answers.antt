use Rattle.std.proofs.Common.{◌∙◌}
use Rattle.std.specs.Slice.Iter.{chunks_rest}
use Rattle.zone_fetch_run.proofs.Writing.{begun_in_piece, begun_so_far, begun_then}
use Rattle.zone_fetch_run.proofs.lines.write_numbers.Goals as goal

pub returns-in_err-write_all-in-Ok-clause-begun : goal.returns-in_err-write_all-in-Ok-clause-begun
returns-in_err-write_all-in-Ok-clause-begun g c =
    begun_in_piece (chunks_rest c.loop-piece.piece-iterator) c.in-Some.piece.now (chunks_rest c.next.new.self) c.args.records.now c.as_slice.result.now _ _ _
    (c.as_slice.ensures.value ∙ c.in-Ok.ensures) c.in-Some.ensures.steps.1.0 c.in_err-write_all-in-Ok.ensures.front c.loop-piece.invariant.so_far

pub returns-in-Err-clause-begun : goal.returns-in-Err-clause-begun
returns-in-Err-clause-begun g c = begun_so_far _ _ _ _ c.loop-piece.invariant.so_far

pub returns-in-Ok-flush-clause-begun : goal.returns-in-Ok-flush-clause-begun
returns-in-Ok-flush-clause-begun g c = begun_then _ _ _ _ c.flush.ensures.held (begun_so_far _ _ _ _ c.loop-piece.invariant.so_far)

pub returns-in-Err-flush-clause-begun : goal.returns-in-Err-flush-clause-begun
returns-in-Err-flush-clause-begun g c = begun_then _ _ _ _ c.flush.ensures.held (begun_so_far _ _ _ _ c.loop-piece.invariant.so_far)
