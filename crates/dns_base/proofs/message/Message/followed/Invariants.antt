use Rattle.std.proofs.Common.{◌≡◌}
use Rattle.dns_base.specs.Message.{answer_records}
use Rattle.dns_base.specs.Canonical.{canonical_name}
use Rattle.dns_base.proofs.Aliases.{leads}
use Rattle.dns_base.proofs.message.Message.followed.Given as goal

abbrev pub invariant-steps : goal.invariant-steps
invariant-steps l = canonical_name l.self ≡ leads l.left (answer_records l.self) l.name

abbrev pub decreases-steps : goal.decreases-steps
decreases-steps l = l.left
