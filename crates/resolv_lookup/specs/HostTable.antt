-- The addresses of hosts, by what a name is found by.
use Rattle.std.specs.Prelude.{ℕ, List, [], ◌∷◌, map, Option, Vec, if◌then◌else◌}
use Rattle.std.specs.BTreeMap.{BTreeMap, get_by}
use Rattle.std.specs.Char.{to_ascii_lowercase}
use Rattle.std.specs.Cmp.Lexicographic.{slice_cmp}
use Rattle.std.specs.Option.{option_map_or}
use Rattle.std.specs.Ordering.{nat_cmp}
use Rattle.std.specs.declared.alloc.Global.{Global}
use Rattle.std.specs.declared.sync.Arc.{Arc}
use Rattle.dns_names.specs.Name.{Labels, same_name, spelling}
use Rattle.dns_values.specs.declared.address.IpAddr.{IpAddr}

abbrev pub Shared : Type 0
Shared = Arc (Vec IpAddr Global) Global

abbrev pub Table : Type 0
Table = BTreeMap (Vec ℕ Global) Shared

-- what a name is found by: its octets in lower case
abbrev pub key_of : Labels → List ℕ
key_of name = map to_ascii_lowercase (spelling name)

-- the addresses that an entry of the table has, or none
abbrev pub addresses_in : Option Shared → List IpAddr
addresses_in all = option_map_or (λ shared. shared.value.items) all []

-- those of the entry under a key
abbrev pub addresses_at : List ℕ → Table → List IpAddr
addresses_at key table = addresses_in (get_by (λ k. slice_cmp nat_cmp key k.items) table)

-- an address, if its owner is the host
abbrev pub address_if : (host owner : Labels) → IpAddr → List IpAddr
address_if host owner address = if same_name owner host then address ∷ [] else []
