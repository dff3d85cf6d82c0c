use Rattle.std.proofs.Common.{◌≡◌, ◌≤◌, length, refl, ap, arith}
use Rattle.dns_base.specs.Compression.{Compressed}
use Rattle.dns_base.proofs.Indexed.{front_kept}
use Rattle.dns_base.proofs.compressor.Compressor.put_count.Goals as goal

pub invariant_of-self : goal.invariant_of-self
invariant_of-self c =
    let octets = c.self.inside.octets.items in
    let places = c.self.inside.places.items in
    let within : c.args.at ≤ length octets = omega (arith, c.requires.long, ap (λ (x : Compressed). length x.octets) c.self.view_is) in
    rw c.write_count.ensures (c.keep_within.ensures octets _ places places c.self.invariant (front_kept c.args.at octets _ within) refl)
