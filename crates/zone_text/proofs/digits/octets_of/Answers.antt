use Rattle.std.proofs.Common.{◌≡◌, ◌∷◌}
use Rattle.dns_presentation.specs.Octets.{octets_of_hex}
use Rattle.zone_text.proofs.Spelled.{not_two, two_digits}
use Rattle.zone_text.proofs.digits.octets_of.Goals as goal

pub returns-in_default-octet_of : goal.returns-in_default-octet_of
returns-in_default-octet_of c =
    let is : c.loop-high.rest.now ≡ c.in-Some.high ∷ c.in-Some.low ∷ c.in-Some.behind.now = cc c.in-Some.ensures in
    not_two c.loop-high.octets.items c.loop-high.rest.now c.in-Some.behind.now (octets_of_hex c.args.digits.now) c.in-Some.high c.in-Some.low is c.in_default-octet_of.ensures c.loop-high.invariant

pub loop-high-preserved : goal.loop-high-preserved
loop-high-preserved c =
    let is : c.loop-high.rest.now ≡ c.in-Some.high ∷ c.in-Some.low ∷ c.in-Some.behind.now = cc c.in-Some.ensures in
    two_digits c.loop-high.octets.items c.push.new.self.items c.loop-high.rest.now c.in-Some.behind.now (octets_of_hex c.args.digits.now) c.in-Some.high c.in-Some.low c.in-Some-octet_of.octet is c.in-Some-octet_of.ensures
    c.in_ok-push.ensures.items c.loop-high.invariant
