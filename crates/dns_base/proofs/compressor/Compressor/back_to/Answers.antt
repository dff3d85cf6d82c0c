use Rattle.std.proofs.Common.{◌≡◌}
use Rattle.dns_base.proofs.Indexed.{front_alone}
use Rattle.dns_base.proofs.compressor.Compressor.back_to.Goals as goal

pub invariant_of-self : goal.invariant_of-self
invariant_of-self c =
    let octets = c.self.inside.octets.items in
    let places = c.self.inside.places.items in
    rw (c.truncate.ensures.items, c.truncate-2.ensures.items)
    (c.keep_within.ensures octets _ places _ c.self.invariant (front_alone c.args.octets octets) (front_alone c.args.places places))
