use Rattle.std.proofs.Common.{refl, ap, ◌∙◌, take}
use Rattle.std.specs.Slice.Iter.{chunks_rest}
use Rattle.dns_values.specs.Sink.{with_octets}
use Rattle.zone_text.proofs.Written.{front_in_piece, front_so_far}
use Rattle.zone_text.proofs.lines.write_text.Goals as goal

pub returns-in_err-write_all-in-Ok-clause-begun : goal.returns-in_err-write_all-in-Ok-clause-begun
returns-in_err-write_all-in-Ok-clause-begun g c =
    let front = c.in_err-write_all-in-Ok.ensures.front in
    front_in_piece c.args.records.now (chunks_rest c.loop-piece.piece-iterator) (chunks_rest c.next.new.self) c.in-Some.piece.now (g.K.Sink.held c.args.sink.now) (g.K.Sink.held c.loop-piece.sink) (g.K.Sink.held c.write_all.new.sink)
    c.in-Ok.text.items c.in-Some.ensures.steps.1.0 c.in-Ok.ensures (front.0, front.1 ∙ ap (λ octets. with_octets (take front.0 octets) (g.K.Sink.held c.loop-piece.sink)) c.as_slice.ensures.value) c.loop-piece.invariant.so_far

pub returns-in-Err-clause-begun : goal.returns-in-Err-clause-begun
returns-in-Err-clause-begun g c =
    front_so_far c.args.records.now (chunks_rest c.loop-piece.piece-iterator) (g.K.Sink.held c.args.sink.now) (g.K.Sink.held c.loop-piece.sink) (g.K.Sink.held c.loop-piece.sink) refl c.loop-piece.invariant.so_far

pub returns-in-Ok-flush-clause-begun : goal.returns-in-Ok-flush-clause-begun
returns-in-Ok-flush-clause-begun g c =
    front_so_far c.args.records.now (chunks_rest c.loop-piece.piece-iterator) (g.K.Sink.held c.args.sink.now) (g.K.Sink.held c.loop-piece.sink) (g.K.Sink.held c.flush.new.self) c.flush.ensures.held c.loop-piece.invariant.so_far

pub returns-in-Err-flush-clause-begun : goal.returns-in-Err-flush-clause-begun
returns-in-Err-flush-clause-begun g c =
    front_so_far c.args.records.now (chunks_rest c.loop-piece.piece-iterator) (g.K.Sink.held c.args.sink.now) (g.K.Sink.held c.loop-piece.sink) (g.K.Sink.held c.flush.new.self) c.flush.ensures.held c.loop-piece.invariant.so_far
