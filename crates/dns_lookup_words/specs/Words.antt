-- The words of a lookup, in dig's habits: `[@SERVER ..] [-p PORT] [-4 | -6]`, and of each name `(-x ADDRESS | [-q] NAME) [[-c] CLASS] [[-t] TYPE] [+OPTION ..]`, in any order.
use Rattle.std.specs.Prelude.{◌≡◌, ℕ, ◌+◌, ◌==◌, ◌||◌, not, Bool, true, false, if◌then◌else◌, is_some, List, [], ◌∷◌, ◌++◌, length, codes, nat_lt, Option, None, Some, option_and_then, String, Result, Ok, Err}
use Rattle.std.specs.List.{after_first, before_first, list_any, position_or_len}
use Rattle.std.specs.Result.{result_ok}
use Rattle.std.specs.Str.{bytes_eq, str_eq_ignore_ascii_case}
use Rattle.std.specs.String.{string_bytes}
use Rattle.std.specs.declared.alloc.Global.{Global}
use Rattle.dns_names.specs.Name.{Labels}
use Rattle.dns_names.specs.Text.{name_of_text, relative_of_text}
use Rattle.dns_values.specs.Address.{IsAddressText}
use Rattle.dns_values.specs.NumberNames.{begins_with, class_of_text}
use Rattle.dns_values.specs.declared.address.IpAddr.{IpAddr}
use Rattle.dns_values.specs.declared.address.IpAddr.TheVariants.{V4}
use Rattle.dns_values.specs.declared.numbers.Rtype.{Rtype}
use Rattle.dns_lookup_words.specs.Asks.{asks_of, usual_asking}
use Rattle.dns_lookup_words.specs.Numbers.{number_in}
use Rattle.program_words.specs.Rows.{said_in}
use Rattle.dns_lookup_words.specs.Options.{is_off, plus_options, without_no}
use Rattle.dns_lookup_words.specs.Setting.{plus_at}
use Rattle.dns_lookup_words.specs.ShortAddress.{IsNoAddress, IsShortAddress, short_labels}
use Rattle.dns_lookup_words.specs.Types.{type_number}
use Rattle.dns_lookup_words.specs.declared.lacking.Lack.{Lack}
use Rattle.dns_lookup_words.specs.declared.lacking.Lack.TheVariants as lacks
use Rattle.dns_lookup_words.specs.declared.lookup.Lookup.{Lookup}
use Rattle.dns_lookup_words.specs.declared.manner.Announced.TheVariants.{Usual}
use Rattle.dns_lookup_words.specs.declared.manner.Family.TheVariants as families
use Rattle.dns_lookup_words.specs.declared.said.Next.{Next}
use Rattle.dns_lookup_words.specs.declared.said.Next.TheVariants as next
use Rattle.dns_lookup_words.specs.declared.said.Said.{Said}
use Rattle.dns_lookup_words.specs.declared.wrong.Fault.{Fault}
use Rattle.dns_lookup_words.specs.declared.wrong.Fault.TheVariants as faults
use Rattle.dns_lookup_words.specs.declared.wrong.Refusal.{Refusal}
use Rattle.dns_lookup_words.specs.declared.wrong.Refusal.TheVariants as refusals
use Rattle.dns_lookup_words.specs.declared.wrong.Value.{Value}
use Rattle.dns_lookup_words.specs.declared.wrong.Value.TheVariants as values
use Rattle.dns_lookup_words.specs.declared.wrong.WordFault.{WordFault}
use Rattle.dns_lookup_words.specs.declared.wrong.WordFault.TheVariants as word_faults
use Rattle.dns_lookup_words.specs.declared.wrong.Wrong.{Wrong}
use Rattle.dns_lookup_words.specs.declared.wrong.Wrong.TheVariants as wrongs

-- before the first word
abbrev pub nothing_said : Said
nothing_said = record {
  servers = [];
  late = false;
  port = None;
  family = None;
  tcp = false;
  seconds = None;
  tries = None;
  announced = Usual;
  search = false;
  domain = None;
  dots = None;
  walk = false;
  asks = [];
  name = None;
  asking = usual_asking;
  common = usual_asking;
  next = next.Any;
}

-- the text behind an octet that stands first
abbrev pub behind : ℕ → List ℕ → Option (List ℕ)
behind sign [] = None
behind sign (c ∷ text) = if c == sign then Some text else None

-- the text behind the first such octet, if there is one
unfoldable pub behind_first : ℕ → List ℕ → Option (List ℕ)
behind_first sign text =
    if nat_lt (position_or_len (λ c. c == sign) text) (length text) then Some (after_first (λ c. c == sign) text) else None

-- `-p PORT`, the last of which counts
abbrev pub port_given : Option ℕ → Said → Result Said Wrong
port_given None said = Err wrongs.Port
port_given (Some port) said = Ok (record said { port = Some port })

abbrev pub port_said : List ℕ → Said → Result Said Wrong
port_said word said = port_given (number_in 65535 word) said

-- `@ADDRESS`, behind those that were said before
abbrev pub with_server : IpAddr → Option ℕ → Said → Said
with_server ip port said = record said { servers = said.servers ++ ip ∷ []; late = is_some said.name; port = port }

-- `@localhost` is this host, in any case (RFC 6761 6.3)
abbrev pub is_localhost : List ℕ → Bool
is_localhost text = str_eq_ignore_ascii_case text (codes "localhost")

abbrev pub this_host : IpAddr
this_host = V4 (127 ∷ 0 ∷ 0 ∷ 1 ∷ [])

-- what is wrong with what stands where an address must: it is none, or has a scope behind a percent sign
abbrev pub wrong_server : List ℕ → Wrong
wrong_server text = if list_any (λ c. c == 37) text then wrongs.Scope else wrongs.Server

abbrev pub ServerAt : List ℕ → Option ℕ → Said → Result Said Wrong → Type 0
ServerAt text port said (Ok new) = (ip : IpAddr) × IsAddressText text ip × (new ≡ with_server ip port said)
ServerAt text port said (Err wrong) = ((ip : IpAddr) → ¬ (IsAddressText text ip)) × (wrong ≡ wrong_server text)

abbrev pub ServerOf : Bool → List ℕ → Option ℕ → Said → Result Said Wrong → Type 0
ServerOf true text port said answer = answer ≡ Ok (with_server this_host port said)
ServerOf false text port said answer = ServerAt text port said answer

-- Behind an address `#PORT` is the port of all servers, so it is no other than one that was said before.
abbrev pub is_other : Option ℕ → ℕ → Bool
is_other None port = false
is_other (Some said) port = not (said == port)

abbrev pub ServerAtSame : Bool → ℕ → List ℕ → Said → Result Said Wrong → Type 0
ServerAtSame true port text said answer = answer ≡ Err wrongs.OtherPort
ServerAtSame false port text said answer = ServerOf (is_localhost text) text (Some port) said answer

abbrev pub ServerAtNumber : Option ℕ → List ℕ → Said → Result Said Wrong → Type 0
ServerAtNumber None text said answer = answer ≡ Err wrongs.ServerPort
ServerAtNumber (Some port) text said answer = ServerAtSame (is_other said.port port) port text said answer

abbrev pub ServerAtText : Option (List ℕ) → List ℕ → Said → Result Said Wrong → Type 0
ServerAtText None text said answer = ServerOf (is_localhost text) text said.port said answer
ServerAtText (Some port) text said answer = ServerAtNumber (number_in 65535 port) text said answer

-- the text between brackets, which may stand around an address
unfoldable pub within : List ℕ → Option (List ℕ)
within text =
    if nat_lt (position_or_len (λ c. c == 93) text) (length text)
    then (if bytes_eq (after_first (λ c. c == 93) text) (codes "") then Some (before_first (λ c. c == 93) text) else None)
    else None

abbrev pub or_text : Option (List ℕ) → List ℕ → List ℕ
or_text None text = text
or_text (Some inner) text = inner

abbrev pub bare : List ℕ → List ℕ
bare text = or_text (option_and_then within (behind 91 text)) text

-- behind two names a server is wrong, since it would be of all of them
abbrev pub ServerIn : Bool → List ℕ → Said → Result Said Wrong → Type 0
ServerIn false text said answer = answer ≡ Err wrongs.Late
ServerIn true text said answer = ServerAtText (behind_first 35 text) (bare (before_first (λ c. c == 35) text)) said answer

abbrev pub ServerGives : List ℕ → Said → Result Said Wrong → Type 0
ServerGives text said answer = ServerIn (length said.asks == 0) text said answer

-- A name begins, with what was said before the first: the one before it is asked for as was said behind it. The first one begins with what was said.
abbrev pub begun_at : Option Labels → Labels → Said → Said
begun_at None name said = record said { name = Some name; common = said.asking }
begun_at (Some before) name said = record said { asks = said.asks ++ asks_of before said.asking; name = Some name; asking = said.common }

abbrev pub begun : Labels → Said → Said
begun name said = begun_at said.name name said

-- `-x ADDRESS`: the name that maps the address to names, or the one above those of all addresses that begin so, and the type PTR where none was said before
abbrev pub or_ptr : Option Rtype → Option Rtype
or_ptr None = Some (record { 0 = 12 })
or_ptr (Some rtype) = Some rtype

abbrev pub with_ptr : Said → Said
with_ptr said = record said { asking = record said.asking { rtype = or_ptr said.asking.rtype } }

-- whether the name ends in its root, so that no suffix is searched for it
abbrev pub with_root : Bool → Said → Said
with_root rooted said = record said { asking = record said.asking { rooted = rooted } }

abbrev pub with_address : (missing : ℕ) → IpAddr → Said → Said
with_address missing ip said = with_ptr (with_root true (begun (short_labels missing ip) said))

-- no name begins behind a server that stands behind a name
abbrev pub AddressAt : Bool → List ℕ → Said → Result Said Wrong → Type 0
AddressAt true word said answer = answer ≡ Err wrongs.Parted
AddressAt false word said (Ok new) = (missing : ℕ) × (ip : IpAddr) × IsShortAddress word missing ip × (new ≡ with_address missing ip said)
AddressAt false word said (Err wrong) = IsNoAddress word × (wrong ≡ wrongs.Address)

abbrev pub AddressGives : List ℕ → Said → Result Said Wrong → Type 0
AddressGives word said answer = AddressAt said.late word said answer

-- NAME: of one that is none it is told whether it has letters past ASCII (RFC 5890 2.3.2.1)
abbrev pub wrong_name : List ℕ → Wrong
wrong_name word = if list_any (λ c. nat_lt 127 c) word then wrongs.Idn else wrongs.Name

-- a text with a final dot, which no relative name has
abbrev pub is_rooted : List ℕ → Bool
is_rooted word = not (is_some (result_ok (relative_of_text word)))

abbrev pub name_given : Option Labels → List ℕ → Said → Result Said Wrong
name_given None word said = Err (wrong_name word)
name_given (Some name) word said = Ok (with_root (is_rooted word) (begun name said))

abbrev pub name_said : List ℕ → Said → Result Said Wrong
name_said word said = if said.late then Err wrongs.Parted else name_given (result_ok (name_of_text word)) word said

-- TYPE, of which AXFR is none: no one message answers it
abbrev pub type_set : ℕ → Said → Result Said Wrong
type_set n said = if n == 252 then Err wrongs.Transfer else Ok (record said { asking = record said.asking { rtype = Some (record { 0 = n }) } })

-- `-t TYPE`, behind which a word alone is no type
abbrev pub type_given : Option ℕ → Said → Result Said Wrong
type_given None said = Err wrongs.Type
type_given (Some n) said = type_set n (record said { asking = record said.asking { typed = true } })

abbrev pub type_said : List ℕ → Said → Result Said Wrong
type_said word said = type_given (type_number word) said

-- CLASS, which is IN, CH or HS
abbrev pub with_class : ℕ → Said → Said
with_class n said = record said { asking = record said.asking { manner = record said.asking.manner { class = record { 0 = n } } } }

abbrev pub class_set : ℕ → Said → Result Said Wrong
class_set n said = if n == 1 || (n == 3 || n == 4) then Ok (with_class n said) else Err wrongs.OtherClass

abbrev pub class_given : Option ℕ → Said → Result Said Wrong
class_given None said = Err wrongs.Class
class_given (Some n) said = class_set n said

-- A word that is no option is a type or a class where it names one, and else a name; but `IXFR=` begins a transfer.
abbrev pub name_alone : List ℕ → Said → Result Said Wrong
name_alone word said = if begins_with (codes "ixfr=") word then Err wrongs.Transfer else name_said word said

abbrev pub plain_at : Option ℕ → Option ℕ → List ℕ → Said → Result Said Wrong
plain_at (Some n) class word said = type_set n said
plain_at None (Some n) word said = class_set n said
plain_at None None word said = name_alone word said

abbrev pub open_type : Bool → List ℕ → Option ℕ
open_type true word = None
open_type false word = type_number word

abbrev pub plain_said : List ℕ → Said → Result Said Wrong
plain_said word said = plain_at (open_type said.asking.typed word) (class_of_text word) word said

-- The value of an option of one letter.
abbrev pub ValueGives : Value → List ℕ → Said → Result Said Wrong → Type 0
ValueGives values.Port text said answer = answer ≡ port_said text said
ValueGives values.Address text said answer = AddressGives text said answer
ValueGives values.Type text said answer = answer ≡ type_said text said
ValueGives values.Class text said answer = answer ≡ class_given (class_of_text text) said
ValueGives values.Name text said answer = answer ≡ name_said text said

-- It is glued to the letter, or else the next word.
abbrev pub GluedGives : Bool → Value → List ℕ → Said → Result Said Wrong → Type 0
GluedGives true value text said answer = answer ≡ Ok (record said { next = next.Value value })
GluedGives false value text said answer = ValueGives value text said answer

-- letters of dig's options that are not among those of a lookup, and what they ask for
abbrev pub lack_of : List ℕ → Option Lack
lack_of [] = None
lack_of (c ∷ text) =
    if c == 98 then Some lacks.Source
    else if c == 107 || c == 121 then Some lacks.Signature
    else if list_any (λ letter. letter == c) (codes "fimru") then Some lacks.Program
    else None

abbrev pub lacking : Option Lack → Wrong
lacking None = wrongs.Option
lacking (Some lack) = wrongs.Lacking lack

-- `--` says that no word behind it is an option; `-4` and `-6` by which addresses servers are asked, and the last counts
abbrev pub dash_said : List ℕ → Said → Result Said Wrong
dash_said text said =
    if bytes_eq text (codes "-") then Ok (record said { next = next.Plain })
    else if bytes_eq text (codes "4") then Ok (record said { family = Some families.V4 })
    else if bytes_eq text (codes "6") then Ok (record said { family = Some families.V6 })
    else Err (lacking (lack_of text))

-- the options that have a value, each by its letter, and the text behind that
abbrev pub tagged : Value → Option (List ℕ) → Option (Value × List ℕ) → Option (Value × List ℕ)
tagged value (Some text) others = Some (value, text)
tagged value None others = others

abbrev pub valued : List ℕ → Option (Value × List ℕ)
valued text =
    tagged values.Port (behind 112 text)
    (tagged values.Address (behind 120 text)
    (tagged values.Type (behind 116 text)
    (tagged values.Class (behind 99 text)
    (tagged values.Name (behind 113 text) None))))

abbrev pub ValuedGives : Option (Value × List ℕ) → List ℕ → Said → Result Said Wrong → Type 0
ValuedGives (Some v) text said answer = GluedGives (length v.1 == 0) v.0 v.1 said answer
ValuedGives None text said answer = answer ≡ dash_said text said

abbrev pub DashGives : List ℕ → Said → Result Said Wrong → Type 0
DashGives text said answer = ValuedGives (valued text) text said answer

-- `+[no]NAME` or `+NAME=VALUE`, by the table of names
abbrev pub plus_named : (name : List ℕ) → Option (List ℕ) → Said → Result Said Wrong
plus_named name value said = plus_at (said_in plus_options (without_no name)) (not (is_off name)) value said

abbrev pub plus_said : List ℕ → Said → Result Said Wrong
plus_said text said = plus_named (before_first (λ c. c == 61) text) (behind_first 61 text) said

-- A word is a server behind `@`, an option behind a plus or a hyphen, or else plain.
abbrev pub SignGives : Option (List ℕ) → Option (List ℕ) → Option (List ℕ) → List ℕ → Said → Result Said Wrong → Type 0
SignGives (Some text) plus dash word said answer = ServerGives text said answer
SignGives None (Some text) dash word said answer = answer ≡ plus_said text said
SignGives None None (Some text) word said answer = DashGives text said answer
SignGives None None None word said answer = answer ≡ plain_said word said

-- What a word makes of what is said: more is said, or the word is wrong.
abbrev pub GivesAt : Next → List ℕ → Said → Result Said Wrong → Type 0
GivesAt next.Any word said answer = SignGives (behind 64 word) (behind 43 word) (behind 45 word) word said answer
GivesAt next.Plain word said answer = answer ≡ plain_said word said
GivesAt (next.Value value) word said answer = ValueGives value word (record said { next = next.Any }) answer

abbrev pub WordGives : List ℕ → Said → Result Said Wrong → Type 0
WordGives word said answer = GivesAt said.next word said answer

-- What a call answers that takes a word, with what is said then.
abbrev pub Answers : (Result Said Wrong → Type 0) → Result (Unit {0}) WordFault → Said → Type 0
Answers Gives (Ok u) new = Gives (Ok new)
Answers Gives (Err (word_faults.Wrong wrong)) new = Gives (Err wrong)
Answers Gives (Err word_faults.NoMemory) new = Unit {0}

-- The words in order, from the one of this number on; the first wrong one ends them.
pub data WordsGive : ℕ → List (String Global) → Said → Result Said Refusal → Type 0 where
  no_word : (n : ℕ) (said : Said) → WordsGive n [] said (Ok said)
  bad_word : (n : ℕ) (word : String Global) (words : List (String Global)) (said : Said) (wrong : Wrong)
      → WordGives (string_bytes word) said (Err wrong) → WordsGive n (word ∷ words) said (Err (refusals.Word n wrong))
  good_word : (n : ℕ) (word : String Global) (words : List (String Global)) (said mid : Said) (answer : Result Said Refusal)
      → WordGives (string_bytes word) said (Ok mid) → WordsGive (n + 1) words mid answer → WordsGive n (word ∷ words) said answer

-- why words were not taken of which the one of this number was not
abbrev pub fault_at : ℕ → WordFault → Fault
fault_at n (word_faults.Wrong wrong) = faults.Refused (refusals.Word n wrong)
fault_at n word_faults.NoMemory = faults.NoMemory

abbrev pub AllAnswer : (Result Said Refusal → Type 0) → Result (Unit {0}) Fault → Said → Type 0
AllAnswer Gives (Ok u) new = Gives (Ok new)
AllAnswer Gives (Err (faults.Refused refusal)) new = Gives (Err refusal)
AllAnswer Gives (Err faults.NoMemory) new = Unit {0}

-- the lookup that is said: a name, and no value is due
abbrev pub named : Option Labels → Said → Result Lookup Refusal
named None said = Err refusals.NoName
named (Some name) said = Ok (record {
  servers = said.servers;
  port = said.port;
  family = said.family;
  tcp = said.tcp;
  seconds = said.seconds;
  tries = said.tries;
  announced = said.announced;
  search = said.search;
  domain = said.domain;
  dots = said.dots;
  walk = said.walk;
  asks = said.asks ++ asks_of name said.asking;
})

abbrev pub asked_at : Next → Said → Result Lookup Refusal
asked_at (next.Value value) said = Err (refusals.NoValue value)
asked_at next.Any said = named said.name said
asked_at next.Plain said = named said.name said

abbrev pub asked : Said → Result Lookup Refusal
asked said = asked_at said.next said

-- What the words are, which do not hold the program's own name: a lookup, or refused for the first that is wrong.
pub data LookupGives (words : List (String Global)) (answer : Result Lookup Refusal) : Type 0 where
  said_whole : (said : Said) → WordsGive 0 words nothing_said (Ok said) → answer ≡ asked said → LookupGives words answer
  wrong_word : (refusal : Refusal) → WordsGive 0 words nothing_said (Err refusal) → answer ≡ Err refusal → LookupGives words answer

-- A call gives this, unless memory ran out.
abbrev pub Gives : Result Lookup Refusal → Result Lookup Fault → Type 0
Gives told (Ok lookup) = told ≡ Ok lookup
Gives told (Err (faults.Refused refusal)) = told ≡ Err refusal
Gives told (Err faults.NoMemory) = Unit {0}

-- What the words say, or why they say nothing.
abbrev pub IsSaidBy : List (String Global) → Result Said Fault → Type 0
IsSaidBy words (Ok said) = WordsGive 0 words nothing_said (Ok said)
IsSaidBy words (Err (faults.Refused refusal)) = WordsGive 0 words nothing_said (Err refusal)
IsSaidBy words (Err faults.NoMemory) = Unit {0}

abbrev pub IsJudged : List (String Global) → Result Lookup Fault → Type 0
IsJudged words (Ok lookup) = LookupGives words (Ok lookup)
IsJudged words (Err (faults.Refused refusal)) = LookupGives words (Err refusal)
IsJudged words (Err faults.NoMemory) = Unit {0}

-- Words are one thing.
abbrev pub LookupLaws : Type 0
LookupLaws = (words : List (String Global)) (a b : Result Lookup Refusal) → LookupGives words a → LookupGives words b → a ≡ b
