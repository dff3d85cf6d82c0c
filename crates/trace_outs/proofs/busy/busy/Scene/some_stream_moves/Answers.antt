use Rattle.std.proofs.Common.{◌≡◌, false, Some, None, refl}
use Rattle.trace_outs.proofs.lemmas.loads.Admitting.{walked}
use Rattle.trace_outs.specs.busy.Busy.{moves_seen}
use Rattle.trace_outs.proofs.busy.busy.Scene.some_stream_moves.Goals as goal

pub returns-in-None : goal.returns-in-None
returns-in-None c =
    let s = c.args.self.now in
    let key : c.from.result ≡ c.args.server = cc in
    walked (moves_seen s.ledger.now.books.places s.writing.now) c.from.result c.args.server s.loads.now.streams None false key c.in-None.ensures refl

pub returns-in-Some : goal.returns-in-Some
returns-in-Some c =
    let s = c.args.self.now in
    let key : c.from.result ≡ c.args.server = cc in
    walked (moves_seen s.ledger.now.books.places s.writing.now) c.from.result c.args.server s.loads.now.streams (Some c.in-Some.numbers.now) c.some_moves.result key c.in-Some.ensures c.some_moves.ensures
