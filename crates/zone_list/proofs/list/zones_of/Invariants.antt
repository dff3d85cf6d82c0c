-- what the lines that are left say stands behind the zones so far
use Rattle.std.proofs.Common.{◌≤◌, ◌+◌, length}
use Rattle.resolv_conf.specs.Words.{lines_of}
use Rattle.zone_list.proofs.Lists.{Leads}
use Rattle.zone_list.proofs.list.zones_of.Given as goal

abbrev pub invariant-loop-rest : goal.invariant-loop-rest
invariant-loop-rest l = record {
  counted : l.line + length l.rest ≤ 1 + length l.text;
  leads : Leads (lines_of l.text) l.zones.items l.line (lines_of l.rest);
}

abbrev pub decreases-loop-rest : goal.decreases-loop-rest
decreases-loop-rest l = length l.rest
