-- What a line makes of a configuration.
use Rattle.std.specs.Prelude.{◌≡◌, ◌⊎◌, ◌==◌, ◌||◌, ℕ, List, [], ◌∷◌, ◌++◌, codes, Bool, true, false, Option, Some, None, option_and_then, option_map, Result, Ok, Err, if◌then◌else◌}
use Rattle.std.specs.Result.{result_ok}
use Rattle.std.specs.List.{list_any}
use Rattle.std.specs.Str.{bytes_eq}
use Rattle.dns_values.specs.Address.{IsAddressText}
use Rattle.dns_values.specs.declared.address.IpAddr.{IpAddr}
use Rattle.dns_names.specs.Name.{Labels}
use Rattle.dns_names.specs.Text.{name_of_text}
use Rattle.resolv_conf.specs.declared.conf.ResolvConf.{ResolvConf}
use Rattle.resolv_conf.specs.declared.fault.LineFault.{LineFault}
use Rattle.resolv_conf.specs.declared.fault.LineFault.TheVariants as Fault
use Rattle.resolv_conf.specs.Conf.{name_server}
use Rattle.resolv_conf.specs.Options.{OptionsOutcome, options_after}
use Rattle.resolv_conf.specs.Words.{Words, words_of}

-- whether a line is taken, and the configuration then
pub record Outcome : Type 0 where
  pub taken : Bool
  pub conf : ResolvConf

abbrev pub takes : ResolvConf → Outcome
takes conf = record { taken = true; conf = conf }

abbrev pub refuses : ResolvConf → Outcome
refuses conf = record { taken = false; conf = conf }

abbrev pub is_none : Words → Bool
is_none [] = true
is_none (word ∷ words) = false

abbrev pub with_server : IpAddr → ResolvConf → ResolvConf
with_server ip conf = record conf { servers = conf.servers ++ name_server ip ∷ [] }

abbrev pub with_search : List Labels → ResolvConf → ResolvConf
with_search names conf = record conf { options = record conf.options { search = names } }

-- `nameserver ADDRESS`. A word behind the address is refused, and the server is added all the same.
abbrev pub ServerGives : Words → ResolvConf → Outcome → Type 0
ServerGives [] conf o = o ≡ refuses conf
ServerGives (word ∷ more) conf o =
    ((ip : IpAddr) × IsAddressText word ip × (o ≡ record { taken = is_none more; conf = with_server ip conf }))
    ⊎ (((ip : IpAddr) → ¬ (IsAddressText word ip)) × (o ≡ refuses conf))

-- `domain NAME`: a search list of one name. A word behind it is refused, and the list stands.
abbrev pub domain_named : Option Labels → Words → ResolvConf → Outcome
domain_named None more conf = refuses conf
domain_named (Some name) more conf = record { taken = is_none more; conf = with_search (name ∷ []) conf }

abbrev pub domain_gives : Words → ResolvConf → Outcome
domain_gives [] conf = refuses conf
domain_gives (word ∷ more) conf = domain_named (result_ok (name_of_text word)) more conf

-- the names that all words write
abbrev pub names_of : Words → Option (List Labels)
names_of [] = Some []
names_of (word ∷ words) =
    option_and_then (λ name. option_map (λ names. name ∷ names) (names_of words)) (result_ok (name_of_text word))

abbrev pub is_root : Labels → Bool
is_root [] = true
is_root (label ∷ labels) = false

-- with the root at the end, unless it is one of them
abbrev pub with_root : List Labels → List Labels
with_root names = if list_any is_root names then names else names ++ [] ∷ []

-- `search NAME..` sets the list only where all names are read.
abbrev pub search_named : Option (List Labels) → ResolvConf → Outcome
search_named None conf = refuses conf
search_named (Some names) conf = takes (with_search (with_root names) conf)

abbrev pub search_gives : Words → ResolvConf → Outcome
search_gives words conf = search_named (names_of words) conf

abbrev pub options_set : OptionsOutcome → ResolvConf → Outcome
options_set o conf = record { taken = o.taken; conf = record conf { options = o.options } }

abbrev pub options_gives : Words → ResolvConf → Outcome
options_gives words conf = options_set (options_after words conf.options) conf

-- any first word but `nameserver`
abbrev pub keyword_gives : List ℕ → Words → ResolvConf → Outcome
keyword_gives first rest conf =
    if bytes_eq first (codes "domain") then domain_gives rest conf
    else if bytes_eq first (codes "search") then search_gives rest conf
    else if bytes_eq first (codes "sortlist") then takes conf
    else if bytes_eq first (codes "options") then options_gives rest conf
    else refuses conf

abbrev pub FirstGives : Bool → List ℕ → Words → ResolvConf → Outcome → Type 0
FirstGives true first rest conf o = ServerGives rest conf o
FirstGives false first rest conf o = o ≡ keyword_gives first rest conf

abbrev pub WordsGive : Words → ResolvConf → Outcome → Type 0
WordsGive [] conf o = o ≡ takes conf
WordsGive (first ∷ rest) conf o = FirstGives (bytes_eq first (codes "nameserver")) first rest conf o

-- a line that begins with a semicolon or a number sign
abbrev pub is_comment : List ℕ → Bool
is_comment [] = false
is_comment (c ∷ line) = (c == 59) || (c == 35)

-- The line makes this of the configuration. A comment has no words.
abbrev pub LineGives : List ℕ → ResolvConf → Outcome → Type 0
LineGives line conf o = WordsGive (if is_comment line then [] else words_of line) conf o

-- What is answered, and the configuration then: want of memory changes nothing.
abbrev pub Answers : (Outcome → Type 0) → ResolvConf → Result (Unit {0}) LineFault → ResolvConf → Type 0
Answers Gives old (Ok u) new = Gives (takes new)
Answers Gives old (Err Fault.Parse) new = Gives (refuses new)
Answers Gives old (Err Fault.NoMemory) new = new ≡ old

-- the search list that the names make, if all are read
abbrev pub ReadsSearch : Option (List Labels) → Result (List Labels) LineFault → Type 0
ReadsSearch names (Ok list) = option_map with_root names ≡ Some list
ReadsSearch names (Err Fault.Parse) = names ≡ None
ReadsSearch names (Err Fault.NoMemory) = Unit {0}
