-- The parts of the quotient are put together, and it is within the sum of the weights.
use Rattle.std.proofs.Common.{arith}
use Rattle.resolv_lookup.proofs.Drawing.{pick_is, pick_within}
use Rattle.resolv_lookup.proofs.srv_order.pick.Goals as goal

pub returns-clause-picked : goal.returns-clause-picked
returns-clause-picked c = pick_is c.args.word c.args.weight c.from-word.result c.from-word.ensures c.ranges.word.fits

pub returns-clause-within : goal.returns-clause-within
returns-clause-within c =
    let is = pick_is c.args.word c.args.weight c.from-word.result c.from-word.ensures c.ranges.word.fits in
    let within = pick_within c.args.word c.args.weight in
    omega (arith, is, within)
