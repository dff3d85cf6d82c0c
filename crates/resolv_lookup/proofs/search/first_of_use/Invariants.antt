use Rattle.std.proofs.Common.{◌≤◌, drop, Result}
use Rattle.resolv_lookup.specs.declared.fault.HostFault.{HostFault}
use Rattle.resolv_lookup.specs.Asked.{AsksBoth}
use Rattle.resolv_lookup.specs.Hosts.{Hosts}
use Rattle.resolv_lookup.specs.Search.{Searches}
use Rattle.resolv_lookup.proofs.search.first_of_use.Given as goal

-- What a search through the names that are left makes is what the whole search makes, and no fault was uncounted.
abbrev pub invariant-loop-name : goal.invariant-loop-name
invariant-loop-name g l = record {
  whole : (new : g.row.R.Denot) (result : Result Hosts HostFault) → Searches (AsksBoth g.R.Resolver.says g.R.Resolver.together g.R.Resolver.asked) l.last (drop l.name-index l.names) l.resolver new result
      → Searches (AsksBoth g.R.Resolver.says g.R.Resolver.together g.R.Resolver.asked) l.last l.names l.initial.resolver new result;
  count : g.R.Resolver.faults l.initial.resolver ≤ g.R.Resolver.faults l.resolver;
}
