-- Names before suffixes.
use Rattle.std.proofs.Common.{◌≡◌, ◌+◌, ◌-◌, ◌<◌, ◌≤◌, ◌++◌, ◌==◌, ℕ, Bool, true, false, not, if◌then◌else◌, List, [], ◌∷◌, length, take, filter, map, refl, ap, sym, ◌∙◌, append-nil, arith}
use Rattle.std.proofs.lemmas.Bool.Decides.{nat_tests}
use Rattle.std.proofs.lemmas.List.Elements.{filter-append}
use Rattle.std.proofs.lemmas.List.{map-append}
use Rattle.std.specs.Prelude.{nat_le}
use Rattle.dns_names.proofs.Chains as chains
use Rattle.dns_names.specs.Name.{IsLegal, Labels, Spells, octet_count, spelling}
use Rattle.dns_lookup_run.specs.Search.{suffixes_in}
use Rattle.resolv_lookup.specs.Search.{chained}

kept : (b : Bool) (whole : Labels) → b ≡ true → (if b then whole ∷ [] else []) ≡ whole ∷ []
kept true whole is = refl
kept false whole is = absurd (cc)

left_out : (b : Bool) (whole : Labels) → b ≡ false → (if b then whole ∷ [] else []) ≡ []
left_out false whole is = refl
left_out true whole is = absurd (cc)

-- a name before one suffix, where it fits
pub fits : (name suffix : Labels) → octet_count (name ++ suffix) ≤ 255 → chained name (suffix ∷ []) ≡ (name ++ suffix) ∷ []
fits name suffix few = kept (nat_le (octet_count (name ++ suffix)) 255) (name ++ suffix) (grind (arith, nat_tests))

none_fits : (name suffix : Labels) → 255 < octet_count (name ++ suffix) → chained name (suffix ∷ []) ≡ []
none_fits name suffix many = left_out (nat_le (octet_count (name ++ suffix)) 255) (name ++ suffix) (grind (arith, nat_tests))

-- where it does not, nothing is added
pub too_long : (name suffix : Labels) (names : List Labels) → 255 < octet_count (name ++ suffix) → names ≡ names ++ chained name (suffix ∷ [])
too_long name suffix names many = sym (ap (λ more. names ++ more) (none_fits name suffix many) ∙ append-nil names)

-- its octets
pub whole_is : (a b : Labels) (front back octets : List ℕ) → front ≡ spelling a → back ≡ spelling b → length front - 1 + length back ≤ 255
    → IsLegal a → IsLegal b → octets ≡ take (length front - 1) front ++ back → IsLegal (a ++ b) × (octets ≡ spelling (a ++ b))
whole_is a b front back octets e f few h k is = chains.chained a b front back octets e f few h k is

pub spelled : (a b : Labels) (front back octets : List ℕ) → front ≡ spelling a → back ≡ spelling b → length front - 1 + length back ≤ 255
    → IsLegal a → IsLegal b → octets ≡ take (length front - 1) front ++ back → Spells octets
spelled a b front back octets e f few h k is = let w = whole_is a b front back octets e f few h k is in (a ++ b, w.0, w.1)

chained_more : (name : Labels) (a b : List Labels) → chained name (a ++ b) ≡ chained name a ++ chained name b
chained_more name a b =
    ap (λ wholes. filter (λ whole. nat_le (octet_count whole) 255) wholes) (map-append (λ suffix. name ++ suffix) a b)
    ∙ filter-append (λ whole. nat_le (octet_count whole) 255) (map (λ suffix. name ++ suffix) a) (map (λ suffix. name ++ suffix) b)

first_kept : (b : Bool) (suffix : Labels) (later : List Labels) → b ≡ false → (if not b then suffix ∷ later else later) ≡ suffix ∷ later
first_kept false suffix later is = refl
first_kept true suffix later is = absurd (cc)

-- the name before the first suffix, and those before the others
pub suffixed_more : (name suffix : Labels) (later : List Labels) → (length suffix == 0) ≡ false
    → chained name (suffixes_in (suffix ∷ later)) ≡ chained name (suffix ∷ []) ++ chained name (suffixes_in later)
suffixed_more name suffix later some =
    ap (chained name) (first_kept (length suffix == 0) suffix (suffixes_in later) some) ∙ chained_more name (suffix ∷ []) (suffixes_in later)

pub root_passed : (name suffix : Labels) (later : List Labels) → suffix ≡ [] → chained name (suffixes_in (suffix ∷ later)) ≡ chained name (suffixes_in later)
root_passed name suffix later is = rw is refl
