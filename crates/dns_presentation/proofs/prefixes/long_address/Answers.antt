use Rattle.std.proofs.Common.{◌<◌, arith}
use Rattle.dns_presentation.proofs.FilledOctets.{is_filled}
use Rattle.dns_presentation.proofs.prefixes.long_address.Goals as goal

pub returns : goal.returns
returns c = is_filled 16 _ c.args.octets.now c.loop-at.invariant.size (λ k h. let below : k < c.loop-at.at = omega arith in c.loop-at.invariant.same k below)
