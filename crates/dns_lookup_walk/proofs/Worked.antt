-- Worked rows of the definitions, of which each is a case of RFC 1034 4.3.2 or 5.3.3.
use Rattle.std.proofs.Common.{◌≡◌, ℕ, true, false, [], ◌∷◌, refl, Some, None, Ok, Err, Result}
use Rattle.std.specs.Prelude.{codes}
use Rattle.dns_base.specs.Data.{A, One}
use Rattle.dns_base.specs.Message.{Known}
use Rattle.dns_names.specs.Name.{Labels}
use Rattle.dns_values.specs.declared.address.IpAddr.TheVariants.{V4}
use Rattle.dns_values.specs.declared.error.ParseError.{ParseError}
use Rattle.dns_lookup_walk.specs.Names.{is_within, leads_on}
use Rattle.dns_lookup_walk.specs.Records.{lead_of}
use Rattle.dns_lookup_walk.specs.Targets.{names_in, server_at, targets_by}
use Rattle.dns_lookup_walk.specs.Verdicts.{judge, way_down, without_way}
use Rattle.dns_lookup_walk.specs.Walks.{room}
use Rattle.dns_lookup_walk.specs.declared.station.Station.TheVariants.{Given, Zone}
use Rattle.dns_lookup_walk.specs.declared.verdict.Ending.TheVariants.{NoData}
use Rattle.dns_lookup_walk.specs.declared.verdict.Failure.TheVariants.{Lame, Misleads, Silent}
use Rattle.dns_lookup_walk.specs.declared.verdict.Verdict.TheVariants.{Ends, Fails, Refers}

abbrev pub top_level : Labels
top_level = codes "com" ∷ []

abbrev pub example : Labels
example = codes "example" ∷ codes "com" ∷ []

abbrev pub www : Labels
www = codes "www" ∷ codes "Example" ∷ codes "COM" ∷ []

abbrev pub other : Labels
other = codes "other" ∷ codes "net" ∷ []

abbrev pub inside : Labels
inside = codes "ns" ∷ codes "example" ∷ codes "com" ∷ []

abbrev pub known : Labels → (rtype : ℕ) → (class : ℕ) → Known
known owner rtype class = record { entry = record { owner = owner; rtype = rtype; class = class; ttl = 300; octets = [] }; says = None }

-- a record of a server, and one of an address
abbrev pub ns : Labels → Labels → Result Known ParseError
ns owner target = Ok (record (known owner 2 1) { says = Some (One 2 target) })

abbrev pub address : Labels → ℕ → Result Known ParseError
address owner last = Ok (record (known owner 1 1) { says = Some (A (192 ∷ 0 ∷ 2 ∷ last ∷ [])) })

-- a name is within its own zone, those above it and the root, and letters count without case
pub own : is_within example example ≡ true
own = refl

pub above : is_within top_level www ≡ true
above = refl

pub of_root : is_within [] www ≡ true
of_root = refl

pub below : is_within www top_level ≡ false
below = refl

pub beside : is_within example other ≡ false
beside = refl

-- a referral leads down to the name, and to its own zone
pub down : leads_on [] www top_level ≡ true
down = refl

pub two_down : leads_on [] www example ≡ true
two_down = refl

pub to_the_name : leads_on top_level example example ≡ true
to_the_name = refl

-- and neither to the present zone, nor up, nor aside, nor below the name
pub again : leads_on top_level www top_level ≡ false
again = refl

pub up : leads_on example www top_level ≡ false
up = refl

pub aside : leads_on [] www other ≡ false
aside = refl

pub too_far : leads_on top_level example www ≡ false
too_far = refl

-- the first record that leads counts, past one that leads up and one that can't be read
pub first_lead : lead_of top_level www (ns [] other ∷ Err (record {}) ∷ ns example inside ∷ []) ≡ Some example
first_lead = refl

-- a record of another class or type leads nowhere
pub no_lead : lead_of top_level www (Ok (known example 2 3) ∷ Ok (known example 1 1) ∷ []) ≡ None
no_lead = refl

pub leads : way_down (Some example) (without_way true false) ≡ Refers example
leads = refl

-- without a way down: other servers, an empty answer with authority, and one without
pub misleads : way_down None (without_way true true) ≡ Fails Misleads
misleads = refl

pub empty : way_down None (without_way false true) ≡ Ends NoData
empty = refl

pub lame : way_down None (without_way false false) ≡ Fails Lame
lame = refl

pub silent : judge www (Zone top_level) None ≡ Fails Silent
silent = refl

-- the servers of a zone are those whose records it owns
pub servers : names_in example (ns example inside ∷ ns top_level other ∷ ns (codes "EXAMPLE" ∷ codes "com" ∷ []) other ∷ []) ≡ inside ∷ other ∷ []
servers = refl

-- An address beside a referral serves a name within the present zone, and not one outside, which has to be looked up.
pub glue : targets_by top_level (address inside 1 ∷ address other 2 ∷ address inside 3 ∷ []) (inside ∷ other ∷ [])
    ≡ record { glue = server_at inside (V4 (192 ∷ 0 ∷ 2 ∷ 1 ∷ [])) ∷ server_at inside (V4 (192 ∷ 0 ∷ 2 ∷ 3 ∷ [])) ∷ []; names = other ∷ [] }
glue = refl

-- The root's servers may have an address of any name.
pub any_glue : targets_by [] (address other 2 ∷ []) (other ∷ []) ≡ record { glue = server_at other (V4 (192 ∷ 0 ∷ 2 ∷ 2 ∷ [])) ∷ []; names = [] }
any_glue = refl

-- five steps at most to a name of three labels
pub most : room www Given ≡ 5
most = refl
