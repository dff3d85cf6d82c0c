-- What the data of a record says by its type: RFC 1035 3.3, and for the later types RFC 2782, RFC 3596, RFC 3597 4, RFC 6672 and RFC 6891.
use Rattle.std.specs.Prelude.{ℕ, zero, suc, ◌+◌, ◌*◌, List, [], ◌∷◌, ◌++◌, length, Option, Some, None, option_and_then, option_map, slice_range, nat_le, ◌==◌, ◌||◌, ◌&&◌, Bool, true, false, if◌then◌else◌}
use Rattle.std.specs.Int.{w16, w32, to_be_bytes}
use Rattle.dns_names.specs.Name.{Labels, Found, name_at, spelling, octet_count}
use Rattle.dns_base.specs.Numbers.{u16_at, u32_at, ◌>>=◌}
use Rattle.dns_base.specs.Forms.{Form, NamedData, form_of, named_to, named_spelling, named_size, has_form}

pub record Soa : Type 0 where
  pub mname : Labels
  pub rname : Labels
  pub serial : ℕ
  pub refresh : ℕ
  pub retry : ℕ
  pub expire : ℕ
  pub minimum : ℕ

pub record Srv : Type 0 where
  pub priority : ℕ
  pub weight : ℕ
  pub port : ℕ
  pub target : Labels

-- One has the type and the name of NS, MD, MF, CNAME, MB, MG, MR, PTR and DNAME.
pub data Data : Type 0 where
  A : List ℕ → Data
  Aaaa : List ℕ → Data
  One : ℕ → Labels → Data
  Minfo : Labels → Labels → Data
  Mx : ℕ → Labels → Data
  StartOfAuthority : Soa → Data
  Service : Srv → Data
  Named : NamedData → Data
  Txt : List ℕ → Data
  Opt : List ℕ → Data
  Other : List ℕ → Data

-- the types whose data is one name
abbrev pub is_one_name : ℕ → Bool
is_one_name rtype =
    rtype == 2 || rtype == 3 || rtype == 4 || rtype == 5 || rtype == 7 || rtype == 8 || rtype == 9 || rtype == 12 || rtype == 39

-- counted strings, where so many octets of the one before are still to come
abbrev pub are_strings_after : ℕ → List ℕ → Bool
are_strings_after zero [] = true
are_strings_after (suc n) [] = false
are_strings_after zero (count ∷ octets) = are_strings_after count octets
are_strings_after (suc n) (_ ∷ octets) = are_strings_after n octets

abbrev pub are_strings : List ℕ → Bool
are_strings octets = are_strings_after 0 octets

-- options, each with a code of two octets, a count of two octets and so many octets
abbrev pub are_options_after : ℕ → List ℕ → Bool
are_options_after zero [] = true
are_options_after zero (_ ∷ []) = false
are_options_after zero (_ ∷ _ ∷ []) = false
are_options_after zero (_ ∷ _ ∷ _ ∷ []) = false
are_options_after zero (_ ∷ _ ∷ high ∷ low ∷ octets) = are_options_after (high * 256 + low) octets
are_options_after (suc n) [] = false
are_options_after (suc n) (_ ∷ octets) = are_options_after n octets

abbrev pub are_options : List ℕ → Bool
are_options octets = are_options_after 0 octets

-- so many octets that fill the data
abbrev pub octets_to : ℕ → List ℕ → ℕ → ℕ → Option (List ℕ)
octets_to count octets at end = if at + count == end then Some (slice_range octets at end) else None

-- a name that fills the data
abbrev pub name_to : List ℕ → ℕ → ℕ → Option Labels
name_to octets at end = do
  name ← name_at octets at
  if name.end == end then Some name.labels else None

abbrev pub minfo_to : List ℕ → ℕ → ℕ → Option Data
minfo_to octets at end = do
  first ← name_at octets at
  second ← name_to octets first.end end
  Some (Minfo first.labels second)

abbrev pub mx_to : List ℕ → ℕ → ℕ → Option Data
mx_to octets at end = if nat_le (at + 2) end then option_map (Mx (u16_at octets at)) (name_to octets (at + 2) end) else None

abbrev pub soa_to : List ℕ → ℕ → ℕ → Option Data
soa_to octets at end = do
  mname ← name_at octets at
  rname ← name_at octets mname.end
  if rname.end + 20 == end then Some (StartOfAuthority (record {
    mname = mname.labels;
    rname = rname.labels;
    serial = u32_at octets rname.end;
    refresh = u32_at octets (rname.end + 4);
    retry = u32_at octets (rname.end + 8);
    expire = u32_at octets (rname.end + 12);
    minimum = u32_at octets (rname.end + 16);
  })) else None

abbrev pub srv_with : List ℕ → ℕ → Labels → Data
srv_with octets at target = Service (record {
  priority = u16_at octets at;
  weight = u16_at octets (at + 2);
  port = u16_at octets (at + 4);
  target = target;
})

abbrev pub srv_to : List ℕ → ℕ → ℕ → Option Data
srv_to octets at end = if nat_le (at + 6) end then option_map (srv_with octets at) (name_to octets (at + 6) end) else None

abbrev pub whole : (List ℕ → Bool) → (List ℕ → Data) → List ℕ → Option Data
whole is_whole as_data octets = if is_whole octets then Some (as_data octets) else None

-- data of a form, if its type has one, or octets that are not looked into
abbrev pub formed_to : Option Form → List ℕ → ℕ → ℕ → Option Data
formed_to (Some form) octets at end = option_map Named (named_to form octets at end)
formed_to None octets at end = Some (Other (slice_range octets at end))

-- data of a type between two places, whose parts fill it exactly
unfoldable pub data_at : ℕ → List ℕ → ℕ → ℕ → Option Data
data_at rtype octets at end =
    if rtype == 1 then option_map A (octets_to 4 octets at end)
    else if rtype == 28 then option_map Aaaa (octets_to 16 octets at end)
    else if is_one_name rtype then option_map (One rtype) (name_to octets at end)
    else if rtype == 14 then minfo_to octets at end
    else if rtype == 15 then mx_to octets at end
    else if rtype == 6 then soa_to octets at end
    else if rtype == 33 then srv_to octets at end
    else if rtype == 16 then whole are_strings Txt (slice_range octets at end)
    else if rtype == 41 then whole are_options Opt (slice_range octets at end)
    else formed_to (form_of rtype) octets at end

-- the octets of data, with its names spelled out
unfoldable pub data_spelling : Data → List ℕ
data_spelling (A octets) = octets
data_spelling (Aaaa octets) = octets
data_spelling (One rtype name) = spelling name
data_spelling (Minfo first second) = spelling first ++ spelling second
data_spelling (Mx preference name) = to_be_bytes w16 preference ++ spelling name
data_spelling (StartOfAuthority soa) =
    spelling soa.mname ++ spelling soa.rname ++ to_be_bytes w32 soa.serial ++ to_be_bytes w32 soa.refresh ++ to_be_bytes w32 soa.retry
    ++ to_be_bytes w32 soa.expire ++ to_be_bytes w32 soa.minimum
data_spelling (Service srv) = to_be_bytes w16 srv.priority ++ to_be_bytes w16 srv.weight ++ to_be_bytes w16 srv.port ++ spelling srv.target
data_spelling (Named it) = named_spelling it
data_spelling (Txt octets) = octets
data_spelling (Opt octets) = octets
data_spelling (Other octets) = octets

-- how many octets data has so
abbrev pub data_size : Data → ℕ
data_size (A octets) = length octets
data_size (Aaaa octets) = length octets
data_size (One rtype name) = octet_count name
data_size (Minfo first second) = octet_count first + octet_count second
data_size (Mx preference name) = 2 + octet_count name
data_size (StartOfAuthority soa) = octet_count soa.mname + octet_count soa.rname + 20
data_size (Service srv) = 6 + octet_count srv.target
data_size (Named it) = named_size it
data_size (Txt octets) = length octets
data_size (Opt octets) = length octets
data_size (Other octets) = length octets

-- Data is of its type, and octets that are not looked into are of each.
abbrev pub is_of_type : ℕ → Data → Bool
is_of_type rtype (A _) = rtype == 1
is_of_type rtype (Aaaa _) = rtype == 28
is_of_type rtype (One one _) = is_one_name one && rtype == one
is_of_type rtype (Minfo _ _) = rtype == 14
is_of_type rtype (Mx _ _) = rtype == 15
is_of_type rtype (StartOfAuthority _) = rtype == 6
is_of_type rtype (Service _) = rtype == 33
is_of_type rtype (Named it) = has_form (form_of rtype) it
is_of_type rtype (Txt _) = rtype == 16
is_of_type rtype (Opt _) = rtype == 41
is_of_type rtype (Other _) = true
