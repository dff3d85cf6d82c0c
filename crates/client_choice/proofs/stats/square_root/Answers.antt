use Rattle.std.proofs.Common.{◌∙◌, ap}
use Rattle.client_choice.specs.Roots.{isqrt}
use Rattle.client_choice.proofs.RootLemmas.{isqrt_is}
use Rattle.client_choice.proofs.stats.square_root.Goals as goal

pub returns-in-Ok-clause-value : goal.returns-in-Ok-clause-value
returns-in-Ok-clause-value c =
    c.from.ensures
    ∙ isqrt_is c.in-Ok.n c.isqrt.result c.isqrt.ensures.square_le c.isqrt.ensures.next_square_gt
    ∙ ap isqrt c.in-Ok.ensures.1

pub returns-in-Err-clause-value : goal.returns-in-Err-clause-value
returns-in-Err-clause-value c = isqrt_is c.args.n c.isqrt-in-Err.result c.isqrt-in-Err.ensures.square_le c.isqrt-in-Err.ensures.next_square_gt
