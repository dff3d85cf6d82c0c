use Rattle.std.proofs.Common.{◌≡◌, ◌+◌, ◌≤◌, length}
use Rattle.dns_base.specs.Suffixes.{IsSearch, lead_count, lead_place}
use Rattle.dns_base.proofs.compressor.Compressor.lead_of.Given as goal

abbrev pub invariant-labels : goal.invariant-labels
invariant-labels l = record {
  left : l.left ≡ length l.labels;
  few : l.left ≤ l.count;
  search : IsSearch l.search.octets.now l.self.places l.labels l.search.known.now l.search.recent.now l.search.others.now;
  octets : l.search.octets.now ≡ l.self.octets;
  count : l.count + lead_count l.self l.labels ≡ lead_count l.self l.name + l.left;
  place : lead_place l.self l.labels ≡ lead_place l.self l.name;
}

abbrev pub decreases-labels : goal.decreases-labels
decreases-labels l = length l.labels
