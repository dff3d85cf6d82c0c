-- The words of the command line: `[--text] [--port P] [--most OCTETS] [--from FILE] [--output FILE] ZONE ADDRESS`.
use Rattle.std.specs.Prelude.{◌≡◌, ℕ, ◌+◌, true, false, List, [], ◌∷◌, codes, Option, None, Some, option_map, String, Result, Ok, Err}
use Rattle.std.specs.Result.{result_ok}
use Rattle.std.specs.String.{string_bytes}
use Rattle.std.specs.declared.alloc.Global.{Global}
use Rattle.command_parts.specs.Numbers.{number_in}
use Rattle.dns_names.specs.Name.{Labels}
use Rattle.dns_names.specs.Text.{name_of_text}
use Rattle.dns_values.specs.Address.{IsAddressText}
use Rattle.dns_values.specs.declared.address.IpAddr.{IpAddr}
use Rattle.program_words.specs.Rows.{Row, said_in}
use Rattle.program_words.specs.declared.row.Letters.TheVariants.{Whole}
use Rattle.zone_fetch_run.specs.declared.command.Meaning.{Meaning}
use Rattle.zone_fetch_run.specs.declared.command.Meaning.TheVariants as meanings
use Rattle.zone_fetch_run.specs.declared.command.Command.{Command}
use Rattle.zone_fetch_run.specs.declared.command.Next.{Next}
use Rattle.zone_fetch_run.specs.declared.command.Next.TheVariants as next
use Rattle.zone_fetch_run.specs.declared.command.Said.{Said}
use Rattle.zone_fetch_run.specs.declared.wrong.Fault.{Fault}
use Rattle.zone_fetch_run.specs.declared.wrong.Fault.TheVariants as faults
use Rattle.zone_fetch_run.specs.declared.wrong.Refusal.{Refusal}
use Rattle.zone_fetch_run.specs.declared.wrong.Refusal.TheVariants as refusals
use Rattle.zone_fetch_run.specs.declared.wrong.WordFault.{WordFault}
use Rattle.zone_fetch_run.specs.declared.wrong.WordFault.TheVariants as word_faults
use Rattle.zone_fetch_run.specs.declared.wrong.Wrong.{Wrong}
use Rattle.zone_fetch_run.specs.declared.wrong.Wrong.TheVariants as wrongs

-- before the first word: port 53, and a billion octets of memory
abbrev pub nothing_said : Said
nothing_said = record { port = 53; most = 1000000000; file = None; output = None; text = false; zone = None; server = None; next = next.Any }

-- ---- what one word makes of what is said: more is said, or the word is wrong

-- `--port P` and `--most OCTETS`, the last of which count
abbrev pub port_given : Option ℕ → Said → Result Said Wrong
port_given None said = Err wrongs.Port
port_given (Some port) said = Ok (record said { port = port; next = next.Any })

abbrev pub most_given : Option ℕ → Said → Result Said Wrong
most_given None said = Err wrongs.Most
most_given (Some most) said = Ok (record said { most = most; next = next.Any })

-- `--from FILE`, the last of which counts
abbrev pub FileGives : List ℕ → Said → Result Said Wrong → Type 0
FileGives word said (Ok new) = (file : String Global) × (string_bytes file ≡ word) × (new ≡ record said { file = Some file; next = next.Any })
FileGives word said (Err wrong) = ⊥

-- `--output FILE`, the last of which counts
abbrev pub OutputGives : List ℕ → Said → Result Said Wrong → Type 0
OutputGives word said (Ok new) = (output : String Global) × (string_bytes output ≡ word) × (new ≡ record said { output = Some output; next = next.Any })
OutputGives word said (Err wrong) = ⊥

-- ADDRESS
abbrev pub with_server : IpAddr → Said → Said
with_server ip said = record said { server = Some ip; next = next.Nothing }

abbrev pub AddressGives : List ℕ → Said → Result Said Wrong → Type 0
AddressGives word said (Ok new) = (ip : IpAddr) × IsAddressText word ip × (new ≡ with_server ip said)
AddressGives word said (Err wrong) = ((ip : IpAddr) → ¬ (IsAddressText word ip)) × (wrong ≡ wrongs.Address)

-- ZONE
abbrev pub zone_given : Option Labels → Said → Result Said Wrong
zone_given None said = Err wrongs.Zone
zone_given (Some zone) said = Ok (record said { zone = Some zone; next = next.Address })

-- options, each by its whole name
unfoldable pub option_rows : List (Row Meaning)
option_rows =
    (codes "--text", Whole, meanings.Text)
    ∷ (codes "--port", Whole, meanings.Value next.Port)
    ∷ (codes "--most", Whole, meanings.Value next.Most)
    ∷ (codes "--from", Whole, meanings.Value next.File)
    ∷ (codes "--output", Whole, meanings.Value next.Output)
    ∷ []

abbrev pub with_meaning : Meaning → Said → Said
with_meaning meanings.Text said = record said { text = true }
with_meaning (meanings.Value value) said = record said { next = value }

abbrev pub optioned : List ℕ → Said → Option Said
optioned word said = option_map (λ meaning. with_meaning meaning said) (said_in option_rows word)

-- A word that is no option is the zone.
abbrev pub option_or_zone : Option Said → List ℕ → Said → Result Said Wrong
option_or_zone (Some new) word said = Ok new
option_or_zone None word said = zone_given (result_ok (name_of_text word)) said

abbrev pub any_said : List ℕ → Said → Result Said Wrong
any_said word said = option_or_zone (optioned word said) word said

abbrev pub GivesAt : Next → List ℕ → Said → Result Said Wrong → Type 0
GivesAt next.Any word said answer = answer ≡ any_said word said
GivesAt next.Port word said answer = answer ≡ port_given (number_in 1 65535 word) said
GivesAt next.Most word said answer = answer ≡ most_given (number_in 0 18446744073709551615 word) said
GivesAt next.File word said answer = FileGives word said answer
GivesAt next.Output word said answer = OutputGives word said answer
GivesAt next.Address word said answer = AddressGives word said answer
GivesAt next.Nothing word said answer = answer ≡ Err wrongs.More

abbrev pub WordGives : List ℕ → Said → Result Said Wrong → Type 0
WordGives word said answer = GivesAt said.next word said answer

-- what a call answers that takes a word, with what is said then
abbrev pub Answers : (Result Said Wrong → Type 0) → Result (Unit {0}) WordFault → Said → Type 0
Answers Gives (Ok u) new = Gives (Ok new)
Answers Gives (Err (word_faults.Wrong wrong)) new = Gives (Err wrong)
Answers Gives (Err word_faults.NoMemory) new = Unit {0}

-- The words in order, from the one of this number on; the first that is wrong ends them.
pub data WordsGive : ℕ → List (String Global) → Said → Result Said Refusal → Type 0 where
  no_word : (n : ℕ) (said : Said) → WordsGive n [] said (Ok said)
  bad_word : (n : ℕ) (word : String Global) (words : List (String Global)) (said : Said) (wrong : Wrong)
      → WordGives (string_bytes word) said (Err wrong) → WordsGive n (word ∷ words) said (Err (refusals.Word n wrong))
  good_word : (n : ℕ) (word : String Global) (words : List (String Global)) (said mid : Said) (answer : Result Said Refusal)
      → WordGives (string_bytes word) said (Ok mid) → WordsGive (n + 1) words mid answer → WordsGive n (word ∷ words) said answer

-- why words were not taken of which the one of this number was not
abbrev pub fault_at : ℕ → WordFault → Fault
fault_at n (word_faults.Wrong wrong) = faults.Refused (refusals.Word n wrong)
fault_at n word_faults.NoMemory = faults.NoMemory

abbrev pub AllAnswer : (Result Said Refusal → Type 0) → Result (Unit {0}) Fault → Said → Type 0
AllAnswer Gives (Ok u) new = Gives (Ok new)
AllAnswer Gives (Err (faults.Refused refusal)) new = Gives (Err refusal)
AllAnswer Gives (Err faults.NoMemory) new = Unit {0}

-- ---- the command that is said: a zone and a server

-- why words end before a zone: the value of an option is due, or the zone itself
abbrev pub missing : Next → Refusal
missing next.Port = refusals.NoPort
missing next.Most = refusals.NoMost
missing next.File = refusals.NoFile
missing next.Output = refusals.NoOutput
missing next.Any = refusals.NoZone
missing next.Address = refusals.NoZone
missing next.Nothing = refusals.NoZone

abbrev pub command_at : Option Labels → Option IpAddr → Said → Result Command Refusal
command_at (Some apex) (Some ip) said = Ok (record { apex = apex; server = record { ip = ip; port = said.port }; most = said.most; file = said.file; output = said.output; text = said.text; whole_at_servfail = false })
command_at (Some apex) None said = Err refusals.NoAddress
command_at None server said = Err (missing said.next)

abbrev pub command_in : Said → Result Command Refusal
command_in said = command_at said.zone said.server said

-- What the words are, which do not hold the program's own name: a command, or refused for the first that is wrong or missing.
pub data IsCommand (words : List (String Global)) (answer : Result Command Refusal) : Type 0 where
  said_whole : (said : Said) → WordsGive 0 words nothing_said (Ok said) → answer ≡ command_in said → IsCommand words answer
  wrong_word : (refusal : Refusal) → WordsGive 0 words nothing_said (Err refusal) → answer ≡ Err refusal → IsCommand words answer

-- What the words say, or why they say nothing.
abbrev pub IsSaidBy : List (String Global) → Result Said Fault → Type 0
IsSaidBy words (Ok said) = WordsGive 0 words nothing_said (Ok said)
IsSaidBy words (Err (faults.Refused refusal)) = WordsGive 0 words nothing_said (Err refusal)
IsSaidBy words (Err faults.NoMemory) = Unit {0}

abbrev pub IsJudged : List (String Global) → Result Command Fault → Type 0
IsJudged words (Ok command) = IsCommand words (Ok command)
IsJudged words (Err (faults.Refused refusal)) = IsCommand words (Err refusal)
IsJudged words (Err faults.NoMemory) = Unit {0}
