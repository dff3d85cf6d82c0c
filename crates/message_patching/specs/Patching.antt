-- A message that was composed once, and what is written over it for each request.
use Rattle.std.specs.Prelude.{◌≡◌, ℕ, ◌+◌, ◌-◌, ◌^◌, ◌≤◌, ◌==◌, Bool, true, false, not, if◌then◌else◌, Option, Some, None, option_map, option_and_then, List, [], ◌∷◌, ◌++◌, length, take, drop, map, nat_le, nat_lt, slice_range}
use Rattle.std.specs.Char.{to_ascii_lowercase}
use Rattle.std.specs.Int.{w32, to_be_bytes}
use Rattle.dns_values.specs.declared.numbers.Section.{Section}
use Rattle.dns_values.specs.declared.numbers.Section.TheVariants.{Answer, Authority, Additional}
use Rattle.dns_names.specs.Name.{Labels, name_at, spelling}
use Rattle.dns_base.specs.Numbers.{u16_at, u32_at, ◌>>=◌}
use Rattle.dns_base.specs.Message.{list_at}
use Rattle.cache_rules.specs.declared.copying.Ttls.{Ttls}
use Rattle.cache_rules.specs.Viewing.{ttl_by}

-- octets over as many others, from a place on
abbrev pub put_over : ℕ → List ℕ → List ℕ → List ℕ
put_over at new o = take at o ++ (new ++ drop (at + length new) o)

-- one behind the other
abbrev pub puts : List (ℕ × List ℕ) → List ℕ → List ℕ
puts [] o = o
puts (w ∷ ws) o = puts ws (put_over w.0 w.1 o)

-- where a record's TTL stands, and its type
pub record Mark : Type 0 where
  pub place : ℕ
  pub rtype : ℕ

-- that of the record at a place, and where the octets after the record stand
unfoldable pub mark_at : List ℕ → ℕ → Option (Mark × ℕ)
mark_at octets at = do
  owner ← name_at octets at
  if nat_le (owner.end + 10) (length octets)
      then Some (record { place = owner.end + 4; rtype = u16_at octets owner.end }, owner.end + 10 + u16_at octets (owner.end + 8))
      else None

-- The TTL of an OPT record in the additional section is none: it has flags and a version (RFC 6891 6.1.3).
abbrev pub has_ttl : Section → ℕ → Bool
has_ttl Answer rtype = true
has_ttl Authority rtype = true
has_ttl Additional rtype = not (rtype == 41)

-- the places of what is a TTL
abbrev pub ttl_places : Section → List Mark → List ℕ
ttl_places s [] = []
ttl_places s (m ∷ ms) = if has_ttl s m.rtype then m.place ∷ ttl_places s ms else ttl_places s ms

-- four octets of so many stand from a place on
abbrev pub IsTtlIn : ℕ → ℕ → Type 0
IsTtlIn n at = at + 4 ≤ n

-- those of so many records from a place on, and where the octets after them stand
abbrev pub section_places : Section → List ℕ → (count at : ℕ) → Option (List ℕ × ℕ)
section_places s octets count at = option_map (λ x. (ttl_places s x.0, x.1)) (list_at (mark_at octets) count at)

-- behind other places
abbrev pub with_places : List ℕ → Option (List ℕ × ℕ) → Option (List ℕ × ℕ)
with_places before found = option_map (λ x. (before ++ x.0, x.1)) found

abbrev pub places_and : List ℕ → Option ℕ → Option (List ℕ × ℕ)
places_and places end = option_map (λ e. (places, e)) end

-- where the records stand behind no question or one
abbrev pub records_from : List ℕ → Option ℕ
records_from octets =
    if u16_at octets 4 == 0 then Some 12
    else if u16_at octets 4 == 1 then option_map (λ name. name.end + 4) (name_at octets 12)
    else None

-- the places of all TTLs of a message
unfoldable pub places_in : List ℕ → Option (List ℕ)
places_in octets = do
  from ← records_from octets
  answer ← section_places Answer octets (u16_at octets 6) from
  authority ← section_places Authority octets (u16_at octets 8) answer.1
  additional ← section_places Additional octets (u16_at octets 10) authority.1
  Some (answer.0 ++ (authority.0 ++ additional.0))

-- octets that were composed, whether a question's name stands at their place 12, and the places of their TTLs
pub record Template : Type 0 where
  pub octets : List ℕ
  pub is_named : Bool
  pub ttls : List ℕ

-- A message with no question or one, whose records are found.
unfoldable pub template_of : List ℕ → Option Template
template_of octets = option_map (λ places. record { octets = octets; is_named = u16_at octets 4 == 1; ttls = places }) (places_in octets)

-- A template's places are told in 32 bits.
abbrev pub small_template_of : List ℕ → Option Template
small_template_of octets = if nat_lt (2 ^ 32 - 1) (length octets) then None else template_of octets

-- The name is that of the question but for its case. Without a question each is.
abbrev pub IsFor : Template → Labels → Type 0
IsFor t name = t.is_named ≡ true → map to_ascii_lowercase (slice_range t.octets 12 (12 + length (spelling name))) ≡ map to_ascii_lowercase (spelling name)

abbrev pub IsOther : Template → Labels → Type 0
IsOther t name = ¬ (IsFor t name)

-- the spelling of a name at the place of the question's
abbrev pub name_put : Bool → Labels → List (ℕ × List ℕ)
name_put true name = (12, spelling name) ∷ []
name_put false name = []

-- how many octets that takes
abbrev pub name_room : Bool → Labels → ℕ
name_room true name = length (spelling name)
name_room false name = 0

-- a TTL as it is given, at its place
abbrev pub ttl_put : Ttls → List ℕ → ℕ → ℕ × List ℕ
ttl_put n octets at = (at, to_be_bytes w32 (ttl_by n (u32_at octets at)))

-- a header, the spelling of a name and each TTL over the octets of a template
abbrev pub patched : (header : List ℕ) → Labels → Ttls → Template → List ℕ
patched header name n t = puts ((0, header) ∷ (name_put t.is_named name ++ map (ttl_put n t.octets) t.ttls)) t.octets
