-- the outs before the index have been counted
use Rattle.std.proofs.Common.{◌≡◌, ◌≤◌, take}
use Rattle.std.specs.List.{count_by}
use Rattle.dns_script.specs.Summary.{is_ok_of}
use Rattle.dns_script.proofs.summary.hits.Given as goal

abbrev pub invariant-loop-out : goal.invariant-loop-out
invariant-loop-out l = record {
  counted : l.count ≡ count_by (is_ok_of l.number) (take l.out-index l.outs);
  below : l.count ≤ l.out-index;
}
