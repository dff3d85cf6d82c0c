-- The sum is reached among the items of the priority.
use Rattle.std.proofs.Common.{arith}
use Rattle.resolv_lookup.proofs.Drawing.{reached_within}
use Rattle.resolv_lookup.proofs.srv_order.place_picked.Goals as goal

pub returns-clause-within : goal.returns-clause-within
returns-clause-within c =
    omega (
      arith,
      c.place_reaching.ensures,
      reached_within c.srv.result.now.priority c.pick.result c.args.items.now c.requires (omega (arith, c.pick.ensures.within, c.weight_with-weight.ensures.weight)),
    )
