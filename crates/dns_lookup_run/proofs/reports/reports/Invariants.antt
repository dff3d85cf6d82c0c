use Rattle.std.proofs.Common.{◌≡◌, ◌++◌, length}
use Rattle.std.specs.String.{string_bytes}
use Rattle.dns_lookup_run.specs.Reports.{reports_of}
use Rattle.dns_lookup_run.proofs.reports.reports.Given as goal

abbrev pub invariant-loop-one : goal.invariant-loop-one
invariant-loop-one l = string_bytes l.text ++ reports_of l.failed l.prefix l.servers l.opened l.rest ≡ reports_of l.failed l.prefix l.servers l.opened l.opened

abbrev pub decreases-loop-one : goal.decreases-loop-one
decreases-loop-one l = length l.rest
