use Rattle.std.proofs.Common.{◌≡◌, length}
use Rattle.dns_lookup_walk.specs.Names.{is_within}
use Rattle.dns_lookup_walk.proofs.names.is_within.Given as goal

abbrev pub invariant-suffixes : goal.invariant-suffixes
invariant-suffixes l = is_within l.zone l.name ≡ is_within l.zone l.rest

abbrev pub decreases-suffixes : goal.decreases-suffixes
decreases-suffixes l = length l.rest
