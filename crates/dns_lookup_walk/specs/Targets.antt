-- Whom a walk asks at a zone.
use Rattle.std.specs.Prelude.{ℕ, Bool, not, ◌&&◌, if◌then◌else◌, List, [], map, filter, flat_map, Some, is_some}
use Rattle.std.specs.List.{filter_map, list_any}
use Rattle.dns_base.specs.Message.{additional_items, answer_items, authority_items}
use Rattle.dns_names.specs.Name.{Labels}
use Rattle.dns_values.specs.declared.address.IpAddr.{IpAddr}
use Rattle.dns_lookup_walk.specs.Names.{is_within}
use Rattle.dns_lookup_walk.specs.Records.{Items, address_in, found_in, target_in}
use Rattle.dns_lookup_walk.specs.declared.station.Station.{Station}
use Rattle.dns_lookup_walk.specs.declared.station.Station.TheVariants.{Given, Zone}
use Rattle.dns_lookup_walk.specs.declared.server.NameServer.{NameServer}
use Rattle.dns_lookup_walk.specs.declared.targets.Targets.{Targets}

abbrev pub server_at : Labels → IpAddr → NameServer
server_at name ip = record { name = Some name; ip = ip }

-- the names of a zone's servers, in order
abbrev pub names_in : (owner : Labels) → Items → List Labels
names_in owner items = filter_map (target_in owner) items

-- The servers of a name at the addresses that a message has beside it, where the name is in the bailiwick of the zone whose server speaks.
abbrev pub glue_of : (zone : Labels) → (additional : Items) → (name : Labels) → List NameServer
glue_of zone additional name = if is_within zone name then map (server_at name) (filter_map (address_in name) additional) else []

-- it has such addresses
abbrev pub has_glue : (zone : Labels) → (additional : Items) → (name : Labels) → Bool
has_glue zone additional name = is_within zone name && list_any (λ item. is_some (address_in name item)) additional

-- servers by their addresses beside them, and the names of those that have none there
abbrev pub targets_by : (zone : Labels) → (additional : Items) → List Labels → Targets
targets_by zone additional names = record {
  glue = flat_map (glue_of zone additional) names;
  names = filter (λ name. not (has_glue zone additional name)) names;
}

-- The servers of a zone that a message of a server at a station names: in its answer to a question for the root's servers, in its authority else.
abbrev pub targets_of : Station → (owner : Labels) → List ℕ → Targets
targets_of Given owner m = targets_by [] (found_in (additional_items m)) (names_in owner (found_in (answer_items m)))
targets_of (Zone zone) owner m = targets_by zone (found_in (additional_items m)) (names_in owner (found_in (authority_items m)))
