use Rattle.std.proofs.Common.{◌≡◌, ◌-◌, ◌≤◌, length}
use Rattle.front_queries.specs.Simple.{simple_ends}
use Rattle.front_queries.proofs.simple.simple_ends.Given as goal

abbrev pub invariant-loop : goal.invariant-loop
invariant-loop l = record {
  same : simple_ends l.octets l.count l.place ≡ simple_ends l.octets (l.count - l.counter) l.at;
  behind : l.place ≤ l.at;
  within : l.at ≤ length l.octets;
}
