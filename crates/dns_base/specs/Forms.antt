-- Seven types more have names in their data that may be compressed, and that a receiver is to read out (RFC 3597 4): what stands around them.
use Rattle.std.specs.Prelude.{ℕ, zero, suc, ◌+◌, List, [], ◌∷◌, ◌++◌, length, drop, Option, Some, None, option_map, slice_range, nat_le, ◌==◌, ◌||◌, ◌&&◌, Bool, true, false, if◌then◌else◌}
use Rattle.dns_names.specs.Name.{Labels, name_at, spelling, octet_count, lowered}
use Rattle.dns_base.specs.Numbers.{◌>>=◌}

-- So many octets, and behind them so many counted strings, stand before one name or two, and other octets may stand behind.
pub record Form : Type 0 where
  pub octets : ℕ
  pub strings : ℕ
  pub has_second : Bool
  pub has_rest : Bool

abbrev pub form : ℕ → ℕ → Bool → Bool → Form
form octets strings has_second has_rest = record { octets = octets; strings = strings; has_second = has_second; has_rest = has_rest }

-- RP (RFC 1183 2.2), AFSDB and RT (RFC 1183 1 and 3.3), SIG (RFC 2535 4.1), PX (RFC 2163 4), NXT (RFC 2535 5.2), NAPTR (RFC 3403 4.1)
abbrev pub form_of : ℕ → Option Form
form_of rtype =
    if rtype == 17 then Some (form 0 0 true false)
    else if rtype == 18 || rtype == 21 then Some (form 2 0 false false)
    else if rtype == 24 then Some (form 18 0 false true)
    else if rtype == 26 then Some (form 2 0 true false)
    else if rtype == 30 then Some (form 0 0 false true)
    else if rtype == 35 then Some (form 4 3 false false)
    else None

pub record NamedData : Type 0 where
  pub before : List ℕ
  pub first : Labels
  pub second : Option Labels
  pub behind : List ℕ

-- how many octets so many counted strings have that stand first
abbrev pub strings_size : ℕ → List ℕ → Option ℕ
strings_size zero octets = Some 0
strings_size (suc n) [] = None
strings_size (suc n) (count ∷ octets) =
    if nat_le count (length octets) then option_map (λ size. suc count + size) (strings_size n (drop count octets)) else None

-- how many octets stand before the first name
abbrev pub size_before : Form → List ℕ → Option ℕ
size_before form octets =
    if nat_le form.octets (length octets) then option_map (λ size. form.octets + size) (strings_size form.strings (drop form.octets octets)) else None

-- the second name, if there is to be one, and where the names end
pub record Second : Type 0 where
  pub name : Option Labels
  pub end : ℕ

abbrev pub second_at : Bool → List ℕ → ℕ → Option Second
second_at false octets at = Some (record { name = None; end = at })
second_at true octets at = option_map (λ found. record { name = Some found.labels; end = found.end }) (name_at octets at)

-- whether names that end at a place leave what may stand behind them, and no more
abbrev pub ends_so : Bool → ℕ → ℕ → Bool
ends_so has_rest at end = if has_rest then nat_le at end else at == end

-- what data of a form says between two places, whose parts fill it
abbrev pub parts_to : Form → List ℕ → ℕ → ℕ → Option NamedData
parts_to form octets at end = do
  size ← size_before form (slice_range octets at end)
  first ← name_at octets (at + size)
  second ← second_at form.has_second octets first.end
  if ends_so form.has_rest second.end end then Some (record {
    before = slice_range octets at (at + size);
    first = first.labels;
    second = second.name;
    behind = slice_range octets second.end end;
  }) else None

abbrev pub second_spelling : Option Labels → List ℕ
second_spelling None = []
second_spelling (Some name) = spelling name

-- Its names are spelled out.
abbrev pub named_spelling : NamedData → List ℕ
named_spelling it = it.before ++ spelling it.first ++ second_spelling it.second ++ it.behind

abbrev pub second_size : Option Labels → ℕ
second_size None = 0
second_size (Some name) = octet_count name

abbrev pub named_size : NamedData → ℕ
named_size it = length it.before + octet_count it.first + second_size it.second + length it.behind

-- Data that no record could hold once its names are spelled out isn't read.
abbrev pub named_to : Form → List ℕ → ℕ → ℕ → Option NamedData
named_to form octets at end = do
  it ← parts_to form octets at end
  if nat_le (named_size it) 65535 then Some it else None

abbrev pub lowered_named : NamedData → NamedData
lowered_named it = record it { first = lowered it.first; second = option_map lowered it.second }

abbrev pub is_size : Option ℕ → ℕ → Bool
is_size None count = false
is_size (Some size) count = size == count

abbrev pub is_second : Bool → Option Labels → Bool
is_second has_second None = if has_second then false else true
is_second has_second (Some _) = has_second

-- whether data has a form, if there is one
abbrev pub has_form : Option Form → NamedData → Bool
has_form None it = false
has_form (Some form) it =
    is_size (size_before form it.before) (length it.before) && is_second form.has_second it.second && (form.has_rest || length it.behind == 0)
