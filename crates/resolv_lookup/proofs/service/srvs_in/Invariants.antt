use Rattle.std.proofs.Common.{◌≡◌, ◌++◌, [], unwrap_or}
use Rattle.resolv_lookup.specs.Services.{srvs_said}
use Rattle.resolv_lookup.proofs.service.srvs_in.Given as goal

-- The servers of the records that are left are still to come.
abbrev pub invariant-loop-known : goal.invariant-loop-known
invariant-loop-known l = srvs_said (unwrap_or l.fn.records []) ≡ l.srvs.items ++ srvs_said l.known-iterator
