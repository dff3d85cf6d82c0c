-- The configuration that is asked.
use Rattle.std.specs.Prelude.{◌≡◌, ℕ, ◌*◌, ◌<◌, ◌&&◌, Bool, true, false, not, is_some, List, [], ◌∷◌, length, codes, map, filter, Option, None, Some, IfSome}
use Rattle.dns_names.specs.Name.{Labels}
use Rattle.dns_values.specs.declared.address.IpAddr.{IpAddr}
use Rattle.dns_values.specs.declared.address.IpAddr.TheVariants.{V4, V6}
use Rattle.resolv_conf.specs.Conf.{default_options, name_server}
use Rattle.resolv_conf.specs.Final.{finalized}
use Rattle.resolv_conf.specs.declared.conf.ResolvConf.{ResolvConf}
use Rattle.command_parts.specs.Conf.{conf_at}
use Rattle.resolver_policy.specs.Found.{IsFoundIn}
use Rattle.resolver_policy.specs.Practice.{practical, words_left}
use Rattle.resolver_policy.specs.declared.found.Found.{Found}
use Rattle.resolv_conf.specs.declared.server.ServerConf.{ServerConf}
use Rattle.dns_lookup_words.specs.declared.lookup.Lookup.{Lookup}
use Rattle.dns_lookup_words.specs.declared.manner.Family.{Family}
use Rattle.dns_lookup_words.specs.declared.manner.Family.TheVariants as families

abbrev pub is_v4 : IpAddr → Bool
is_v4 (V4 octets) = true
is_v4 (V6 groups) = false

-- servers by their addresses alone, with the default options
abbrev pub named : List IpAddr → ResolvConf
named ips = finalized (record { servers = map name_server ips; options = default_options })

-- a time for a request, in seconds
abbrev pub timed : Option ℕ → ResolvConf → ResolvConf
timed None conf = conf
timed (Some seconds) conf = record conf { options = record conf.options { timeout = seconds * 1000000 } }

-- so many rounds in which servers are asked
abbrev pub tried : Option ℕ → ResolvConf → ResolvConf
tried None conf = conf
tried (Some tries) conf = record conf { options = record conf.options { attempts = tries } }

-- streams alone
abbrev pub streamed : Bool → ResolvConf → ResolvConf
streamed false conf = conf
streamed true conf = record conf { options = record conf.options { use_vc = true } }

-- servers at addresses of one family
abbrev pub is_of_family : Option Family → ServerConf → Bool
is_of_family None server = true
is_of_family (Some families.V4) server = is_v4 server.addr.ip
is_of_family (Some families.V6) server = not (is_v4 server.addr.ip)

abbrev pub of_family : Option Family → ResolvConf → ResolvConf
of_family family conf = record conf { servers = filter (is_of_family family) conf.servers }

-- the suffix that is searched, and by how many dots
abbrev pub with_domain : Option Labels → ResolvConf → ResolvConf
with_domain None conf = conf
with_domain (Some name) conf = record conf { options = record conf.options { search = name ∷ [] } }

abbrev pub with_dots : Option ℕ → ResolvConf → ResolvConf
with_dots None conf = conf
with_dots (Some dots) conf = record conf { options = record conf.options { ndots = dots } }

-- with what the words say of addresses, the port, the time, streams and suffixes
abbrev pub conf_asked : Lookup → ResolvConf → ResolvConf
conf_asked lookup conf =
    with_dots lookup.dots (with_domain lookup.domain (streamed lookup.tcp (timed lookup.seconds (conf_at lookup.port (of_family lookup.family conf)))))

-- This is found in a text, and then finalized.
pub record IsReadyIn (text : List ℕ) (ready : Found) : Type 0 where
  pub found : Found
  pub is_found : IsFoundIn text found
  pub conf : ready.conf ≡ finalized found.conf
  pub notes : ready.notes ≡ found.notes

-- The text is longer than what is read, and this line says so.
abbrev pub IsTooLong : (text line : List ℕ) → Type 0
IsTooLong text line = (16777216 < length text) × (line ≡ codes "input too long\n")

-- whether the file is needed though servers are named: suffixes are searched, and not all that it says of these is said
abbrev pub is_file_needed : Lookup → Bool
is_file_needed lookup = lookup.search && not (is_some lookup.domain && is_some lookup.dots)

-- with the suffixes of another configuration, and by as many dots
abbrev pub with_suffixes : ResolvConf → ResolvConf → ResolvConf
with_suffixes from conf = record conf { options = record conf.options { search = from.options.search; ndots = from.options.ndots } }

-- It has the suffixes that are found in a text, of which this is told.
pub record HasSuffixesOf (text : List ℕ) (conf : ResolvConf) (base : Found) : Type 0 where
  pub ready : Found
  pub is_ready : IsReadyIn text ready
  pub conf_is : base.conf ≡ with_suffixes ready.conf conf
  pub notes : base.notes ≡ ready.notes

-- The servers are those that are named, of which nothing is told, with the suffixes of the source's text, where these are searched; where none is, those
-- of the source's text, where it tells it.
abbrev pub IsBaseOf : List IpAddr → (searched : Bool) → Option (List ℕ) → Found → Type 0
IsBaseOf [] searched told base = IfSome told (λ text. IsReadyIn text base)
IsBaseOf (ip ∷ ips) false told base = base ≡ record { conf = named (ip ∷ ips); notes = [] }
IsBaseOf (ip ∷ ips) true told base = IfSome told (λ text. HasSuffixesOf text (named (ip ∷ ips)) base)

abbrev pub IsBase : Lookup → Option (List ℕ) → Found → Type 0
IsBase lookup told base = IsBaseOf lookup.servers (is_file_needed lookup) told base

-- What is asked, and told of the configuration: that of the base, in as many rounds as the lookup says, as a client is given it in practice by the
-- words that come, with what the lookup says of the rest. These words are left.
pub record IsConfOf (lookup : Lookup) (told : Option (List ℕ)) (words : ℕ → ℕ) (asked : Found) (left : ℕ → ℕ) : Type 0 where
  pub base : Found
  pub is_base : IsBase lookup told base
  pub conf : asked.conf ≡ conf_asked lookup (practical words (tried lookup.tries base.conf))
  pub notes : asked.notes ≡ base.notes
  pub left_is : left ≡ words_left words (tried lookup.tries base.conf)

-- It is the configuration that is asked, whatever is told of it.
pub record IsAskedBy (lookup : Lookup) (told : Option (List ℕ)) (words left : ℕ → ℕ) (conf : ResolvConf) : Type 0 where
  pub found : Found
  pub is_found : IsConfOf lookup told words found left
  pub conf_is : conf ≡ found.conf
