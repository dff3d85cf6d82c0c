-- Where a server of a service is reached.
use Rattle.std.specs.Prelude.{◌≡◌, ◌⊎◌, List, [], ◌∷◌, Result, Ok, Err}
use Rattle.dns_values.specs.declared.address.IpAddr.{IpAddr}
use Rattle.resolv_lookup.specs.declared.fault.HostFault.{HostFault}
use Rattle.resolv_lookup.specs.declared.fault.HostFault.TheVariants.{NoMemory}
use Rattle.resolv_lookup.specs.declared.resolver.Asking.{Asking}
use Rattle.resolv_lookup.specs.declared.srv_item.Srv.{Srv}
use Rattle.resolv_lookup.specs.Hosts.{Hosts, addresses_found, with_port, LooksUpHost}
use Rattle.resolv_lookup.specs.Items.{Item, Resolved}

-- a server at addresses, with its port
abbrev pub at_addresses : Srv → List IpAddr → Resolved
at_addresses srv addresses = record { srv = srv; resolved = with_port srv.port addresses }

-- a server at the addresses of its target, if that was found
abbrev pub at_host : Srv → Result Hosts HostFault → Result Resolved HostFault
at_host srv (Ok hosts) = Ok (at_addresses srv (addresses_found hosts))
at_host srv (Err fault) = Err fault

-- This is the result, unless memory ran out.
abbrev pub MemoryAside : Result Resolved HostFault → Result Resolved HostFault → Type 0
MemoryAside wanted result = (result ≡ wanted) ⊎ (result ≡ Err NoMemory)

-- A server with addresses is reached there, and nothing is asked; else its target is looked up.
abbrev pub ResolvesAt : {R : Type 0} → (R → Asking → Asking → R → Type 0) → Srv → List IpAddr → R → R → Result Resolved HostFault → Type 0
ResolvesAt asks_both srv [] old new result = (found : Result Hosts HostFault) × LooksUpHost asks_both srv.target old new found × MemoryAside (at_host srv found) result
ResolvesAt asks_both srv (first ∷ others) old new result = (new ≡ old) × MemoryAside (Ok (at_addresses srv (first ∷ others))) result

abbrev pub Resolves : {R : Type 0} → (R → Asking → Asking → R → Type 0) → Item → R → R → Result Resolved HostFault → Type 0
Resolves asks_both item old new result = ResolvesAt asks_both item.srv item.addresses old new result
