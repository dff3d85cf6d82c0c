-- The addresses of a host: two answers, and what is read from them.
use Rattle.std.specs.Prelude.{◌≡◌, ℕ, List, [], ◌∷◌, ◌++◌, Result, Ok, Err, Bool, true, is_none, ◌==◌, ◌&&◌, map, if◌then◌else◌}
use Rattle.dns_values.specs.declared.address.IpAddr.{IpAddr}
use Rattle.dns_values.specs.declared.address.SocketAddr.{SocketAddr}
use Rattle.dns_names.specs.Name.{Labels}
use Rattle.dns_base.specs.Header.{counts_of}
use Rattle.dns_base.specs.Message.{first_question}
use Rattle.dns_base.specs.Canonical.{canonical_name}
use Rattle.resolv_lookup.specs.declared.fault.HostFault.{HostFault}
use Rattle.resolv_lookup.specs.declared.fault.HostFault.TheVariants.{Query, NoQuestion, CnameLoop, NoMemory}
use Rattle.resolv_lookup.specs.declared.resolver.Asking.{Asking}
use Rattle.resolv_lookup.specs.Asked.{Got, asking, IsCounted}
use Rattle.resolv_lookup.specs.Owned.{owned_records}
use Rattle.resolv_lookup.specs.declared.address_iter.Kind.{Kind}
use Rattle.resolv_lookup.specs.declared.address_iter.Kind.TheVariants.{Ipv4, Ipv6}
use Rattle.resolv_lookup.specs.Addresses.{addresses_said}

-- what the questions for AAAA and for A records got
pub record Hosts : Type 0 where
  pub aaaa : Got
  pub a : Got

-- both results, where the chosen answer has a question and leads to a canonical name
abbrev pub checked : List ℕ → Hosts → Result Hosts HostFault
checked octets hosts =
    if is_none (first_question octets) then Err NoQuestion
    else if is_none (canonical_name octets) then Err CnameLoop
    else Ok hosts

-- The answer for AAAA is chosen, or else that for A. Where both failed, the fault is that for AAAA.
abbrev pub hosts_found : Got → Got → Result Hosts HostFault
hosts_found (Ok octets) a = checked octets (record { aaaa = Ok octets; a = a })
hosts_found (Err fault) (Ok octets) = checked octets (record { aaaa = Err fault; a = Ok octets })
hosts_found (Err fault) (Err other) = Err (Query fault)

-- They are such: the chosen answer has a question and leads to a canonical name.
abbrev pub AreChecked : Hosts → Type 0
AreChecked hosts = hosts_found hosts.aaaa hosts.a ≡ Ok hosts

-- the octets of the chosen answer
abbrev pub chosen : Got → Got → List ℕ
chosen (Ok octets) a = octets
chosen (Err fault) (Ok octets) = octets
chosen (Err fault) (Err other) = []

abbrev pub chosen_of : Hosts → List ℕ
chosen_of hosts = chosen hosts.aaaa hosts.a

-- the question failed, or its answer has no record
abbrev pub has_none : Got → Bool
has_none (Ok octets) = (counts_of octets).answer == 0
has_none (Err fault) = true

abbrev pub are_empty : Hosts → Bool
are_empty hosts = has_none hosts.aaaa && has_none hosts.a

-- the addresses of a kind in what a question got
abbrev pub addresses_got : Kind → Got → List IpAddr
addresses_got kind (Ok octets) = addresses_said kind (owned_records octets)
addresses_got kind (Err fault) = []

-- the IPv6 addresses of the one, then the IPv4 addresses of the other
abbrev pub addresses_found : Hosts → List IpAddr
addresses_found hosts = addresses_got Ipv6 hosts.aaaa ++ addresses_got Ipv4 hosts.a

-- each with a port
abbrev pub with_port : ℕ → List IpAddr → List SocketAddr
with_port port addresses = map (λ ip. record { ip = ip; port = port }) addresses

-- A host was looked up: its A records were asked for, then its AAAA records, as a resolver says of two questions, and the result is made of what they got.
pub record LooksUpHost {R : Type 0} (asks_both : R → Asking → Asking → R → Type 0) (name : Labels) (old new : R) (result : Result Hosts HostFault) : Type 0 where
  pub got : Hosts
  pub asked : asks_both old (asking name 1 got.a) (asking name 28 got.aaaa) new
  pub made : result ≡ hosts_found got.aaaa got.a

-- A fault of a question comes only where the count of faults rose; want of memory aside.
abbrev pub HostIsCounted : ℕ → ℕ → HostFault → Type 0
HostIsCounted old new (Query fault) = IsCounted old new fault
HostIsCounted old new NoQuestion = Unit {0}
HostIsCounted old new CnameLoop = Unit {0}
HostIsCounted old new NoMemory = Unit {0}
