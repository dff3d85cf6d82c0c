-- The moment at which the world wakes.
use Rattle.std.proofs.Common.{◌≡◌, ℕ, ◌≤◌, min, List, [], ◌∷◌, length, drop, ap, sym, ◌∙◌, arith}
use Rattle.std.proofs.lemmas.List.{drop_all}
use Rattle.zone_refresh.specs.declared.kept.KeptZone.{KeptZone}
use Rattle.zone_refresh_run.specs.Turns.{wake_of}

-- It is at most the last moment that is counted.
pub wake_counts : (zones : List KeptZone) → wake_of zones ≤ 18446744073709551615
wake_counts [] = omega arith
wake_counts (zone ∷ zones) = let behind = wake_counts zones in omega (arith, behind)

pub wakes_first : (zones : List KeptZone) → min 18446744073709551615 (wake_of zones) ≡ wake_of zones
wakes_first zones = let counts = wake_counts zones in omega (arith, counts)

-- No zone is left.
pub wakes_last : (index wake : ℕ) (zones : List KeptZone) → length zones ≤ index → wake ≤ 18446744073709551615 → min wake (wake_of (drop index zones)) ≡ wake_of zones → wake ≡ wake_of zones
wakes_last index wake zones all counts is =
    let none : wake_of (drop index zones) ≡ 18446744073709551615 = ap wake_of (drop_all index zones all) in
    let same : min wake (wake_of (drop index zones)) ≡ wake = omega (arith, none, counts) in
    sym same ∙ is
