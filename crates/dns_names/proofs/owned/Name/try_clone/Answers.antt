use Rattle.std.proofs.Common.{◌≡◌}
use Rattle.std.proofs.lemmas.Grind.{common_steps}
use Rattle.std.proofs.Common.{arith}
use Rattle.dns_names.specs.Name.{spelling}
use Rattle.dns_names.proofs.OwnOctets.{own_spelled}
use Rattle.dns_names.proofs.owned.Name.try_clone.Goals.{In_ok-extend_from_slice}
use Rattle.dns_names.proofs.owned.Name.try_clone.Goals as goal

copied : (c : In_ok-extend_from_slice) → c.extend_from_slice.new.self.items ≡ spelling c.args.self.now
copied c = grind (arith, common_steps)

pub invariant_of-result : goal.invariant_of-result
invariant_of-result c = (own_spelled _ _ (copied c) c.as_octets.ensures.legal).0

pub returns : goal.returns
returns c = (own_spelled _ _ (copied c) c.as_octets.ensures.legal).1
