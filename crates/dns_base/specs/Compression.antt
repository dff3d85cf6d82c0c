-- Names that are compressed as they are written (RFC 1035 4.1.4).
use Rattle.std.specs.Prelude.{◌≡◌, ℕ, ◌+◌, ◌-◌, ◌/◌, ◌%◌, List, [], ◌∷◌, ◌++◌, length, take, drop, Option, Some, None, nat_lt, ◌==◌, Bool, false, if◌then◌else◌}
use Rattle.std.specs.Option.{option_map_or}
use Rattle.std.specs.Int.{w16, w32, to_be_bytes}
use Rattle.dns_names.specs.Name.{Labels, name_at, same_name, spelling}
use Rattle.dns_base.specs.Data.{Data, One, Minfo, Mx, StartOfAuthority, Soa, data_spelling}
use Rattle.dns_base.specs.Message.{Asked, Written}

-- octets that were written, and the places of the labels that a pointer may name
pub record Compressed : Type 0 where
  pub octets : List ℕ
  pub places : List ℕ

-- a name is read at a place, the same but for case
abbrev pub stands_at : List ℕ → Labels → ℕ → Bool
stands_at octets labels place = option_map_or (λ found. same_name labels found.labels) (name_at octets place) false

-- the first of these places at which it stands
abbrev pub found_at : List ℕ → List ℕ → Labels → Option ℕ
found_at octets [] labels = None
found_at octets (place ∷ places) labels = if stands_at octets labels place then Some place else found_at octets places labels

-- two octets that say a place below 16384
abbrev pub pointer_to : ℕ → List ℕ
pointer_to place = (192 + place / 256) ∷ (place % 256) ∷ []

abbrev pub pointer_or : Option ℕ → List ℕ → List ℕ
pointer_or (Some place) octets = pointer_to place
pointer_or None octets = octets

-- a name behind these octets: its labels up to the longest suffix that stands among them, and a pointer to that, or all of them and the root
abbrev pub name_octets : Compressed → Labels → List ℕ
name_octets before [] = 0 ∷ []
name_octets before (label ∷ labels) = pointer_or (found_at before.octets before.places (label ∷ labels)) (length label ∷ label ++ name_octets before labels)

-- a pointer has fourteen bits for a place
abbrev pub remembered : ℕ → List ℕ → List ℕ
remembered place places = if nat_lt place 16384 then place ∷ places else places

abbrev pub none_if_found : Option ℕ → List ℕ → List ℕ
none_if_found (Some place) places = []
none_if_found None places = places

-- the places of the labels that are written so, the first of them here
abbrev pub name_places : Compressed → ℕ → Labels → List ℕ
name_places before at [] = []
name_places before at (label ∷ labels) =
    none_if_found (found_at before.octets before.places (label ∷ labels)) (remembered at (name_places before (at + 1 + length label) labels))

-- a label that is written out
unfoldable pub with_label : List ℕ → Compressed → Compressed
with_label label c = record { octets = c.octets ++ (length label ∷ label); places = c.places ++ remembered (length c.octets) [] }

unfoldable pub with_name : Labels → Compressed → Compressed
with_name labels c = record { octets = c.octets ++ name_octets c labels; places = c.places ++ name_places c (length c.octets) labels }

-- octets in which no name is looked for
unfoldable pub with_octets : List ℕ → Compressed → Compressed
with_octets octets c = record c { octets = c.octets ++ octets }

abbrev pub with_u16 : ℕ → Compressed → Compressed
with_u16 n c = with_octets (to_be_bytes w16 n) c

abbrev pub with_u32 : ℕ → Compressed → Compressed
with_u32 n c = with_octets (to_be_bytes w32 n) c

-- the five numbers of an SOA record
unfoldable pub with_numbers : Soa → Compressed → Compressed
with_numbers soa c = with_u32 soa.minimum (with_u32 soa.expire (with_u32 soa.retry (with_u32 soa.refresh (with_u32 soa.serial c))))

-- Names are compressed in the data of the types of RFC 1035 alone (RFC 3597 4): not in DNAME's, in SRV's, and in those that have a form.
unfoldable pub with_data : Data → Compressed → Compressed
with_data (One rtype name) c = if rtype == 39 then with_octets (spelling name) c else with_name name c
with_data (Minfo first second) c = with_name second (with_name first c)
with_data (Mx preference name) c = with_name name (with_u16 preference c)
with_data (StartOfAuthority soa) c = with_numbers soa (with_name soa.rname (with_name soa.mname c))
with_data content c = with_octets (data_spelling content) c

unfoldable pub with_question : Asked → Compressed → Compressed
with_question q c = with_u16 q.class (with_u16 q.rtype (with_name q.name c))

-- the fields before the data's length
unfoldable pub with_fields : Written → Compressed → Compressed
with_fields w c = with_u32 w.ttl (with_u16 w.class (with_u16 w.rtype (with_name w.owner c)))

-- how many octets stand behind a place and the two octets of a number there
abbrev pub count_behind : ℕ → List ℕ → ℕ
count_behind at octets = length octets - (at + 2)

-- that number, written there
unfoldable pub counted : ℕ → Compressed → Compressed
counted at c = record c { octets = take at c.octets ++ (to_be_bytes w16 (count_behind at c.octets) ++ drop (at + 2) c.octets) }

-- Data behind its length, which is known once the data is written: until then two zero octets stand in its place.
unfoldable pub with_counted_data : Data → Compressed → Compressed
with_counted_data content c = counted (length c.octets) (with_data content (with_u16 0 c))

unfoldable pub with_record : Written → Compressed → Compressed
with_record w c = with_counted_data w.content (with_fields w c)

-- The second list begins with the first.
abbrev pub Begins : List ℕ → List ℕ → Type 0
Begins a b = take (length a) b ≡ a

-- what was written is still there, and more may stand behind it
pub record Continues (a b : Compressed) : Type 0 where
  pub octets : Begins a.octets b.octets
  pub places : Begins a.places b.places
