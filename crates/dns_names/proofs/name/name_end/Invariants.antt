use Rattle.std.proofs.Common.{◌≡◌, option_map, ◌-◌, ◌<◌, ◌≤◌}
use Rattle.dns_names.specs.Name.{name_at, walk}
use Rattle.dns_names.proofs.Names.{settled}
use Rattle.dns_names.proofs.name.name_end.Given as goal

abbrev pub invariant-loop : goal.invariant-loop
invariant-loop l = record {
  few_pointers : l.pointers ≤ 255;
  few_octets : l.count < 255;
  same : option_map (λ f. f.end) (name_at l.octets l.place) ≡ settled l.count l.pointers l.end (walk (383 - l.counter) l.octets l.at);
}
