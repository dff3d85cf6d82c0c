use Rattle.std.proofs.Common.{◌≡◌}
use Rattle.dns_base.proofs.Indexed.{index_appended}
use Rattle.dns_base.proofs.compressor.Compressor.put_octets.Goals as goal

pub invariant_of-self-2 : goal.invariant_of-self-2
invariant_of-self-2 c = rw c.in_ok-extend_from_slice.ensures.items (index_appended c.self.inside.known c.self.inside.octets.items c.self.inside.places.items c.args.more.now c.self.invariant)
