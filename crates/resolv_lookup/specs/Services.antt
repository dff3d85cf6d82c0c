-- What an answer says of a service (RFC 2782), and how a service is looked up.
use Rattle.std.specs.Prelude.{◌<◌, ◌≤◌, ◌≡◌, ◌⊎◌, ℕ, List, [], ◌∷◌, length, Option, Some, None, Result, Ok, Err, is_none, ◌==◌, ◌&&◌, map, if◌then◌else◌}
use Rattle.std.specs.List.{filter_map}
use Rattle.dns_values.specs.declared.error.ParseError.{ParseError}
use Rattle.dns_values.specs.declared.address.IpAddr.{IpAddr}
use Rattle.dns_names.specs.Name.{Labels, same_name, octet_count}
use Rattle.dns_base.specs.Data as rdata
use Rattle.dns_base.specs.Message.{Known, additional_items}
use Rattle.dns_base.specs.Canonical.{canonical_name}
use Rattle.resolv_lookup.specs.declared.address_iter.Kind.TheVariants.{Ipv4, Ipv6}
use Rattle.resolv_lookup.specs.declared.fault.SrvError.{SrvError}
use Rattle.resolv_lookup.specs.declared.fault.SrvError.TheVariants as errors
use Rattle.resolv_lookup.specs.declared.resolver.Asking.{Asking}
use Rattle.resolv_lookup.specs.declared.service.Service.{Service}
use Rattle.resolv_lookup.specs.declared.service.Service.TheVariants.{Absent, Unlisted, Listed}
use Rattle.resolv_lookup.specs.declared.srv_item.Srv.{Srv}
use Rattle.resolv_lookup.specs.Asked.{Got, asking, IsCounted}
use Rattle.resolv_lookup.specs.Owned.{owned_records}
use Rattle.resolv_lookup.specs.Addresses.{address_said}
use Rattle.resolv_lookup.specs.Items.{Item}
use Rattle.resolv_lookup.specs.Order.{IsOrder, behind}

-- the server that data says, if it is read
abbrev pub srv_said : Option rdata.Data → Option Srv
srv_said (Some (rdata.Service srv)) = Some (record { priority = srv.priority; weight = srv.weight; port = srv.port; target = srv.target })
srv_said _ = None

-- the server that a record of the class IN says
abbrev pub srv_in : Known → Option Srv
srv_in known = if known.entry.class == 1 then srv_said known.says else None

-- the servers that records say, in order
abbrev pub srvs_said : List Known → List Srv
srvs_said records = filter_map srv_in records

-- the address that data says, of either kind
abbrev pub either_address : Option rdata.Data → Option IpAddr
either_address (Some (rdata.A octets)) = address_said Ipv4 (Some (rdata.A octets))
either_address (Some (rdata.Aaaa octets)) = address_said Ipv6 (Some (rdata.Aaaa octets))
either_address _ = None

-- the address of a host that an entry of a section says, if it is a record of the class IN that the host owns
abbrev pub address_in : Labels → Result Known ParseError → Option IpAddr
address_in host (Ok known) = if known.entry.class == 1 && same_name known.entry.owner host then either_address known.says else None
address_in host (Err e) = None

-- a server with the addresses of its target in a section
abbrev pub with_addresses : List (Result Known ParseError) → Srv → Item
with_addresses section srv = record { srv = srv; addresses = filter_map (address_in srv.target) section }

-- servers with their addresses, where the section for these can be found
abbrev pub listed : List Srv → Option (List (Result Known ParseError)) → Result Service SrvError
listed srvs None = Err errors.MalformedAnswer
listed srvs (Some section) = Ok (Listed (map (with_addresses section) srvs))

-- No server is listed; one alone whose target is the root says that the service is absent; else they are listed.
abbrev pub service_of : List Srv → Option (List (Result Known ParseError)) → Result Service SrvError
service_of [] section = Ok Unlisted
service_of (only ∷ []) section = if length only.target == 0 then Ok Absent else listed (only ∷ []) section
service_of (first ∷ second ∷ others) section = listed (first ∷ second ∷ others) section

-- what an answer says
unfoldable pub service_in : List ℕ → Result Service SrvError
service_in octets =
    if is_none (canonical_name octets) then Err errors.MalformedAnswer
    else service_of (srvs_said (owned_records octets)) (additional_items octets)

-- the name itself, where no server is listed
abbrev pub fallback_at : Labels → ℕ → Item
fallback_at name port = record { srv = record { priority = 0; weight = 0; port = port; target = name }; addresses = [] }

-- This is what the answer says, unless memory ran out.
abbrev pub IsService : Result Service SrvError → Result Service SrvError → Type 0
IsService said result = (result ≡ said) ⊎ (result ≡ Err errors.NoMemory)

-- what is found of a service
abbrev pub Outcome : Type 0
Outcome = Result (Option (List Item)) SrvError

-- Servers that are listed are ordered by a word for each; else no word is drawn.
abbrev pub Serves : Result Service SrvError → Item → (ℕ → ℕ) → (ℕ → ℕ) → Outcome → Type 0
Serves (Err error) fallback old new outcome = (outcome ≡ Err error) × (new ≡ old)
Serves (Ok Absent) fallback old new outcome = (outcome ≡ Ok None) × (new ≡ old)
Serves (Ok Unlisted) fallback old new outcome = (outcome ≡ Ok (Some (fallback ∷ []))) × (new ≡ old)
Serves (Ok (Listed items)) fallback old new outcome =
    (ordered : List Item) × (outcome ≡ Ok (Some ordered)) × IsOrder old items ordered × (new ≡ behind (length items) old)

-- So it is, unless memory ran out, and then no word is drawn.
abbrev pub IsServed : Result Service SrvError → Item → (ℕ → ℕ) → (ℕ → ℕ) → Outcome → Type 0
IsServed service fallback old new outcome = Serves service fallback old new outcome ⊎ ((outcome ≡ Err errors.NoMemory) × (new ≡ old))

-- what is made of what the question got
abbrev pub ServesGot : Got → Item → (ℕ → ℕ) → (ℕ → ℕ) → Outcome → Type 0
ServesGot (Ok octets) fallback old new outcome = Serves (service_in octets) fallback old new outcome
ServesGot (Err fault) fallback old new outcome = (outcome ≡ Err (errors.Query fault)) × (new ≡ old)

-- The name of a service was asked for, and this is made of what that got, unless there was no memory for it.
pub record AsksSrv {R : Type 0} (asks : R → Asking → R → Type 0) (service name : Labels) (port : ℕ) (before after : R) (old new : ℕ → ℕ) (outcome : Outcome) : Type 0 where
  pub got : Got
  pub asked : asks before (asking service 33 got) after
  pub made : ServesGot got (fallback_at name port) old new outcome ⊎ ((outcome ≡ Err errors.NoMemory) × (new ≡ old))

-- A service was looked up so, or there was no memory for its name, and nothing was asked.
abbrev pub LooksUpSrv : {R : Type 0} → (R → Asking → R → Type 0) → (service name : Labels) (port : ℕ) (before after : R) (old new : ℕ → ℕ) → Outcome → Type 0
LooksUpSrv asks service name port before after old new outcome =
    AsksSrv asks service name port before after old new outcome ⊎ ((outcome ≡ Err errors.NoMemory) × (after ≡ before) × (new ≡ old))

-- a name of more than 255 octets, and one of at most so many
abbrev pub IsLong : Labels → Type 0
IsLong name = 255 < octet_count name

abbrev pub Fits : Labels → Type 0
Fits name = octet_count name ≤ 255

-- Nothing was asked, and no word was drawn: the name is too long, or memory ran out.
pub record AsksNothing {R : Type 0} (before after : R) (old new : ℕ → ℕ) (outcome : Outcome) : Type 0 where
  pub fails : (outcome ≡ Err errors.LongName) ⊎ (outcome ≡ Err errors.NoMemory)
  pub none_asked : after ≡ before
  pub none_drawn : new ≡ old

-- why the name of a service is not made
abbrev pub IsNameFault : SrvError → Type 0
IsNameFault error = (error ≡ errors.LongName) ⊎ (error ≡ errors.NoMemory)

-- why an answer gives nothing
abbrev pub IsAnswerFault : SrvError → Type 0
IsAnswerFault error = (error ≡ errors.MalformedAnswer) ⊎ (error ≡ errors.NoMemory)

-- A fault of the question comes only where the count of faults rose; want of memory aside.
abbrev pub SrvIsCounted : ℕ → ℕ → SrvError → Type 0
SrvIsCounted old new (errors.Query fault) = IsCounted old new fault
SrvIsCounted old new errors.LongName = Unit {0}
SrvIsCounted old new errors.MalformedAnswer = Unit {0}
SrvIsCounted old new errors.NoMemory = Unit {0}
