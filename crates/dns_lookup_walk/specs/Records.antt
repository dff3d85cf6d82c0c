-- What the records of a section say of a zone's servers.
use Rattle.std.specs.Prelude.{ℕ, Bool, false, ◌==◌, ◌&&◌, if◌then◌else◌, List, [], ◌∷◌, Option, Some, None, Result, Ok, Err, unwrap_or}
use Rattle.std.specs.Option.{option_or}
use Rattle.std.specs.Net.Addr.{segments_of}
use Rattle.dns_base.specs.Data.{Data, A, Aaaa, One}
use Rattle.dns_base.specs.Message.{Known}
use Rattle.dns_names.specs.Name.{Labels, same_name}
use Rattle.dns_values.specs.declared.address.IpAddr.{IpAddr}
use Rattle.dns_values.specs.declared.address.IpAddr.TheVariants.{V4, V6}
use Rattle.dns_values.specs.declared.error.ParseError.{ParseError}
use Rattle.dns_lookup_walk.specs.Names.{leads_on}

-- what a reader meets in a section; nothing where the section can't be found
abbrev pub Items : Type 0
Items = List (Result Known ParseError)

abbrev pub found_in : Option Items → Items
found_in items = unwrap_or items []

-- a record of a type, of the class IN
abbrev pub is_of : ℕ → Known → Bool
is_of rtype known = known.entry.rtype == rtype && known.entry.class == 1

-- a record that begins a zone (SOA), where it is read
abbrev pub is_start : Result Known ParseError → Bool
is_start (Ok known) = is_of 6 known
is_start (Err e) = false

-- a record of a server (NS)
abbrev pub is_server : Result Known ParseError → Bool
is_server (Ok known) = is_of 2 known
is_server (Err e) = false

-- one of a server of this zone
abbrev pub is_server_of : Labels → Result Known ParseError → Bool
is_server_of owner (Ok known) = is_of 2 known && same_name known.entry.owner owner
is_server_of owner (Err e) = false

-- the zone below whose servers a record names, if a walk may go there
abbrev pub lead_in : (zone name : Labels) → Result Known ParseError → Option Labels
lead_in zone name (Ok known) = if is_of 2 known && leads_on zone name known.entry.owner then Some known.entry.owner else None
lead_in zone name (Err e) = None

-- the first of them
abbrev pub lead_of : (zone name : Labels) → Items → Option Labels
lead_of zone name [] = None
lead_of zone name (item ∷ items) = option_or (lead_in zone name item) (lead_of zone name items)

-- the name of a server that data says, if it is read
abbrev pub target_said : Option Data → Option Labels
target_said (Some (One rtype name)) = if rtype == 2 then Some name else None
target_said _ = None

-- the name of a server of a zone
abbrev pub target_in : Labels → Result Known ParseError → Option Labels
target_in owner (Ok known) = if is_of 2 known && same_name known.entry.owner owner then target_said known.says else None
target_in owner (Err e) = None

-- the address that data says, if it is read
abbrev pub address_said : Option Data → Option IpAddr
address_said (Some (A octets)) = Some (V4 octets)
address_said (Some (Aaaa octets)) = Some (V6 (segments_of octets))
address_said _ = None

-- the address of a host
abbrev pub address_in : Labels → Result Known ParseError → Option IpAddr
address_in host (Ok known) = if known.entry.class == 1 && same_name known.entry.owner host then address_said known.says else None
address_in host (Err e) = None
