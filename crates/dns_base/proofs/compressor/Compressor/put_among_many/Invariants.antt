use Rattle.std.proofs.Common.{◌≡◌, length}
use Rattle.std.specs.List.{AllByRecursion}
use Rattle.dns_names.specs.Name.{IsLabel}
use Rattle.dns_base.specs.Compression.{with_name, Continues}
use Rattle.dns_base.specs.Suffixes.{lead_count, lead_place}
use Rattle.dns_base.proofs.Compressing.{with_rest}
use Rattle.dns_base.proofs.compressor.Compressor.put_among_many.Given as goal

abbrev pub invariant-labels : goal.invariant-labels
invariant-labels l = record {
  same : with_rest l.initial.self l.self l.labels ≡ with_name l.name l.initial.self;
  kept : Continues l.initial.self l.self;
  count : l.left ≡ lead_count l.initial.self l.labels;
  place : l.lead.place ≡ lead_place l.initial.self l.labels;
  legal : AllByRecursion IsLabel l.labels;
}

abbrev pub decreases-labels : goal.decreases-labels
decreases-labels l = length l.labels
