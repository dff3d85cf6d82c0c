use Rattle.std.proofs.Common.{◌≡◌, ◌-◌, length}
use Rattle.std.specs.List.{AllByRecursion}
use Rattle.message_patching.specs.Patching.{section_places, with_places, IsTtlIn}
use Rattle.message_patching.proofs.places.push_places.Given as goal

abbrev pub invariant-loop : goal.invariant-loop
invariant-loop l =
    (with_places l.initial.ttls.items (section_places l.section l.octets l.count l.start) ≡ with_places l.ttls.items (section_places l.section l.octets (l.count - l.counter) l.at))
    × AllByRecursion (IsTtlIn (length l.octets)) l.ttls.items
