use Rattle.std.proofs.Common.{◌≤◌, arith}
use Rattle.dns_base.proofs.Indexed.{index_within}
use Rattle.dns_base.proofs.suffixes.Suffixes.keep_within.Goals as goal

pub returns-else-places-self : goal.returns-else-places-self
returns-else-places-self c = λ a b p q i alike placed.
    let s = c.args.self.now in
    let octets : s.octets ≤ c.args.octets = grind (arith, c.if-octets-self.false) in
    let places : s.places ≤ c.args.places = grind (arith, c.if-places-self.false) in
    index_within s c.args.octets c.args.places a b p q i octets places alike placed
