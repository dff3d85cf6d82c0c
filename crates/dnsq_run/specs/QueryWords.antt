-- The words of a query.
use Rattle.std.specs.Prelude.{ℕ, ◌==◌, Bool, if◌then◌else◌, List, [], ◌∷◌, drop, codes, Option, None, Some, option_and_then, option_map, String, Result, Ok, Err}
use Rattle.std.specs.Cmp.Lexicographic.{pointwise}
use Rattle.std.specs.List.{starts_with}
use Rattle.std.specs.Str.{bytes_eq}
use Rattle.std.specs.String.{string_bytes}
use Rattle.std.specs.declared.alloc.Global.{Global}
use Rattle.dns_names.specs.Name.{Labels}
use Rattle.dns_names.specs.Text.{name_of_text}
use Rattle.dns_names.specs.declared.fault.NameFault.{NameFault}
use Rattle.dns_values.specs.declared.numbers.Rtype.{Rtype}
use Rattle.dns_script.specs.Reading.{number_of}
use Rattle.dnsq_run.specs.Words.{is_word}
use Rattle.dnsq_run.specs.declared.query_words.Next.{Next}
use Rattle.dnsq_run.specs.declared.query_words.Next.TheVariants.{Any, Port, Plain}
use Rattle.dnsq_run.specs.declared.query_words.Query.{Query}
use Rattle.dnsq_run.specs.declared.query_words.Said.{Said}

-- the type that a word names
unfoldable pub rtype_of : List ℕ → Option Rtype
rtype_of word =
    if bytes_eq word (codes "A") then Some (record { 0 = 1 })
    else if bytes_eq word (codes "NS") then Some (record { 0 = 2 })
    else if bytes_eq word (codes "CNAME") then Some (record { 0 = 5 })
    else if bytes_eq word (codes "SOA") then Some (record { 0 = 6 })
    else if bytes_eq word (codes "PTR") then Some (record { 0 = 12 })
    else if bytes_eq word (codes "MX") then Some (record { 0 = 15 })
    else if bytes_eq word (codes "TXT") then Some (record { 0 = 16 })
    else if bytes_eq word (codes "AAAA") then Some (record { 0 = 28 })
    else if bytes_eq word (codes "SRV") then Some (record { 0 = 33 })
    else if bytes_eq word (codes "DNAME") then Some (record { 0 = 39 })
    else if bytes_eq word (codes "ANY") then Some (record { 0 = 255 })
    else None

-- a port is not 0
abbrev pub if_port : ℕ → Option ℕ
if_port port = if port == 0 then None else Some port

-- the port that a word names: a number from 1 to 65535, without sign or leading zeros
abbrev pub port_of : List ℕ → Option ℕ
port_of word = option_and_then if_port (number_of 65535 word)

-- the name that a word is the text of
abbrev pub if_ok : Result Labels NameFault → Option Labels
if_ok (Ok labels) = Some labels
if_ok (Err fault) = None

abbrev pub name_in : List ℕ → Option Labels
name_in word = if_ok (name_of_text word)

-- before the first word
abbrev pub nothing_said : Said
nothing_said = record { name = None; rtype = None; port = None; next = Any }

-- A word that is no option is the name. The next such word is the type, and there are no others.
abbrev pub plain_at : Option Labels → Option Rtype → List ℕ → Said → Option Said
plain_at None rtype word said = option_map (λ name. record said { name = Some name }) (name_in word)
plain_at (Some name) None word said = option_map (λ rtype. record said { rtype = Some rtype }) (rtype_of word)
plain_at (Some name) (Some rtype) word said = None

abbrev pub with_plain : List ℕ → Said → Option Said
with_plain word said = plain_at said.name said.rtype word said

-- A port is said once.
abbrev pub port_at : Option ℕ → List ℕ → Said → Option Said
port_at None word said = option_map (λ port. record said { port = Some port; next = Any }) (port_of word)
port_at (Some port) word said = None

abbrev pub with_port : List ℕ → Said → Option Said
with_port word said = port_at said.port word said

abbrev pub is_text : List ℕ → List ℕ → Bool
is_text text word = pointwise ◌==◌ word text

-- Behind `--` each word is plain. Behind `--port` comes the port, which `--port=` has in the same word. No other word begins with a hyphen.
abbrev pub any_said : List ℕ → Said → Option Said
any_said word said =
    if is_text (codes "--") word then Some (record said { next = Plain })
    else if is_text (codes "--port") word then Some (record said { next = Port })
    else if starts_with ◌==◌ word (codes "--port=") then with_port (drop 7 word) said
    else if starts_with ◌==◌ word (codes "-") then None
    else with_plain word said

abbrev pub said_at : Next → List ℕ → Said → Option Said
said_at Any word said = any_said word said
said_at Port word said = with_port word said
said_at Plain word said = with_plain word said

-- the words one after another
abbrev pub said_by : List (String Global) → Said → Option Said
said_by [] said = Some said
said_by (word ∷ words) said = option_and_then (said_by words) (said_at said.next (string_bytes word) said)

-- A name and a type are said, and no port is due.
abbrev pub asked_at : Next → Option Labels → Option Rtype → Option ℕ → Option Query
asked_at Port name rtype port = None
asked_at next (Some name) (Some rtype) port = Some (record { name = name; rtype = rtype; port = port })
asked_at next name rtype port = None

abbrev pub asked : Said → Option Query
asked said = asked_at said.next said.name said.rtype said.port

-- the query of the words: `query`, and what is said behind it
abbrev pub query_of : List (String Global) → Option Query
query_of [] = None
query_of (word ∷ words) = if is_word (codes "query") word then option_and_then asked (said_by words nothing_said) else None
