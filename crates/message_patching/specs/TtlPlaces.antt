-- The places of a template's TTLs, wherever they stand.
use Rattle.std.specs.Prelude.{ℕ, ◌≤◌, List, take}
use Rattle.message_patching.specs.declared.ttl_places.TtlPlaces.{TtlPlaces}
use Rattle.message_patching.specs.declared.ttl_places.TtlPlaces.TheVariants.{Few, Many}

abbrev pub places_of : TtlPlaces → List ℕ
places_of (Few count places) = take count places
places_of (Many places) = places.items

-- No more are counted than there is room for.
abbrev pub AreWithin : TtlPlaces → Type 0
AreWithin (Few count places) = count ≤ 4
AreWithin (Many places) = Unit {0}
