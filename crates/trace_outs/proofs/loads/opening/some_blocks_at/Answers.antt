use Rattle.std.proofs.Common.{◌≡◌, false, Some, None, refl}
use Rattle.trace_outs.specs.loads.Opening.{blocks_at}
use Rattle.trace_outs.proofs.lemmas.loads.Admitting.{walked}
use Rattle.trace_outs.proofs.loads.opening.some_blocks_at.Goals as goal

pub returns-in-None : goal.returns-in-None
returns-in-None c =
    let key : c.from.result ≡ c.args.server = cc in
    walked (blocks_at c.args.places.now c.args.held.now) c.from.result c.args.server c.args.loads.now.streams None false key c.in-None.ensures refl

pub returns-in-Some : goal.returns-in-Some
returns-in-Some c =
    let key : c.from.result ≡ c.args.server = cc in
    walked (blocks_at c.args.places.now c.args.held.now) c.from.result c.args.server c.args.loads.now.streams (Some c.in-Some.numbers.now) c.some_blocks.result key c.in-Some.ensures c.some_blocks.ensures
