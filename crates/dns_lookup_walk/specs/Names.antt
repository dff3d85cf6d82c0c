-- Names that stand below a zone (RFC 1034 3.1).
use Rattle.std.specs.Prelude.{Bool, not, ◌&&◌, ◌||◌, [], ◌∷◌}
use Rattle.dns_names.specs.Name.{Labels, same_name}

-- It is the zone's own name, or the zone's labels are its last ones.
abbrev pub is_within : (zone name : Labels) → Bool
is_within zone [] = same_name [] zone
is_within zone (label ∷ labels) = same_name (label ∷ labels) zone || is_within zone labels

-- strictly below the zone, and at or above the name: where a referral may lead (RFC 1034 5.3.3)
abbrev pub leads_on : (zone name owner : Labels) → Bool
leads_on zone name owner = is_within zone owner && (not (same_name owner zone) && is_within owner name)
