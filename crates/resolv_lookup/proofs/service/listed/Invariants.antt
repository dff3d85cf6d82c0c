use Rattle.std.proofs.Common.{◌≡◌, ◌++◌, List, Some, map, Result}
use Rattle.std.specs.Vec.Iter.{into_iter_items}
use Rattle.dns_values.specs.declared.error.ParseError.{ParseError}
use Rattle.dns_base.specs.Message.{Known, additional_items}
use Rattle.resolv_lookup.specs.Services.{with_addresses}
use Rattle.resolv_lookup.proofs.service.listed.Given as goal

-- The servers that are left are still to come with their addresses.
abbrev pub invariant-loop-srv : goal.invariant-loop-srv
invariant-loop-srv l =
    (section : List (Result Known ParseError)) → additional_items l.answer ≡ Some section
    → map (with_addresses section) l.fn.srvs.items ≡ l.items ++ map (with_addresses section) (into_iter_items l.srv-iterator)
