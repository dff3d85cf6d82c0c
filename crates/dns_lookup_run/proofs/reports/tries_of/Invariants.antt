use Rattle.std.proofs.Common.{◌≡◌, ◌+◌, ◌≤◌, drop}
use Rattle.dns_lookup_run.specs.Reports.{tries_of}
use Rattle.dns_lookup_run.proofs.reports.tries_of.Given as goal

abbrev pub invariant-loop-one : goal.invariant-loop-one
invariant-loop-one l = record {
  counted : l.tries + tries_of l.servers l.address (drop l.one-index l.opened) ≡ tries_of l.servers l.address l.opened;
  few : l.tries ≤ l.one-index;
}
