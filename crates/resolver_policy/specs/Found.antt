-- What the lines of a configuration are taken for, as it is found on a system.
use Rattle.std.specs.Prelude.{◌≡◌, ◌⊎◌, ◌==◌, ℕ, ◌+◌, List, [], ◌∷◌, ◌++◌, length, codes, nat_lt, Option, None, Some, Bool, true, false, if◌then◌else◌}
use Rattle.std.specs.List.{before_first, list_any, position_or_len}
use Rattle.std.specs.Str.{IsUtf8, bytes_eq}
use Rattle.resolv_conf.specs.Conf.{default_options}
use Rattle.resolv_conf.specs.Line.{Outcome, LineGives}
use Rattle.resolv_conf.specs.Words.{Words, words_of, lines_of}
use Rattle.resolv_conf.specs.declared.options.ResolvOptions.{ResolvOptions}
use Rattle.resolv_conf.specs.declared.server.ServerConf.{ServerConf}
use Rattle.resolver_policy.specs.Plain.{uncommented}
use Rattle.resolver_policy.specs.declared.found.Found.{Found}
use Rattle.resolver_policy.specs.declared.note.Note.{Note}
use Rattle.resolver_policy.specs.declared.note.Why.{Why}
use Rattle.resolver_policy.specs.declared.note.Why.TheVariants as whys

-- before the first line, where these are the options
abbrev pub beginning : ResolvOptions → Found
beginning options = record { conf = record { servers = []; options = options }; notes = [] }

-- a line is told of, behind those before
abbrev pub told : ℕ → Why → Found → Found
told n why found = record found { notes = found.notes ++ record { line = n; why = why } ∷ [] }

abbrev pub told_unless : Bool → ℕ → Why → Found → Found
told_unless true n why found = found
told_unless false n why found = told n why found

-- A line is read as an exact one is. Where that refuses it, what it leaves stands, and the line is told of.
abbrev pub Reads : ℕ → Why → List ℕ → (old new : Found) → Type 0
Reads n why line old new = (o : Outcome) × LineGives line old.conf o × (new ≡ told_unless o.taken n why (record old { conf = o.conf }))

-- a word of the options as a line of its own
abbrev pub option_line : List ℕ → List ℕ
option_line word = codes "options " ++ word

-- Each word of the options is read for itself.
abbrev pub ReadsOptions : ℕ → Words → (old new : Found) → Type 0
ReadsOptions n [] old new = new ≡ old
ReadsOptions n (word ∷ words) old new = (mid : Found) × Reads n whys.Option (option_line word) old mid × ReadsOptions n words mid new

-- a line up to its zone identifier, which a percent sign begins (RFC 4007 11), if it has one
unfoldable pub before_zone : List ℕ → Option (List ℕ)
before_zone line =
    if nat_lt (position_or_len (λ c. c == 37) line) (length line) then Some (before_first (λ c. c == 37) line) else None

-- A server's line is read without its zone identifier, which is told of.
abbrev pub ReadsServer : Option (List ℕ) → ℕ → List ℕ → (old new : Found) → Type 0
ReadsServer (Some address) n line old new = Reads n whys.Server address (told n whys.Zone old) new
ReadsServer None n line old new = Reads n whys.Server line old new

-- why a line of any other first word may be refused
abbrev pub why_not : List ℕ → Why
why_not first = if bytes_eq first (codes "domain") then whys.Domain else if bytes_eq first (codes "search") then whys.Search else whys.Keyword

-- what a first word says of the line
abbrev pub ReadsFirst : (is_options is_server : Bool) → ℕ → List ℕ → List ℕ → Words → (old new : Found) → Type 0
ReadsFirst true is_server n line first words old new = ReadsOptions n words old new
ReadsFirst false true n line first words old new = ReadsServer (before_zone line) n line old new
ReadsFirst false false n line first words old new = Reads n (why_not first) line old new

-- A line without its comment is read, by its words.
abbrev pub ReadsWords : ℕ → List ℕ → Words → (old new : Found) → Type 0
ReadsWords n line [] old new = new ≡ old
ReadsWords n line (first ∷ words) old new =
    ReadsFirst (bytes_eq first (codes "options")) (bytes_eq first (codes "nameserver")) n line first words old new

-- A line is read without its comment, or it is no text and told of.
abbrev pub ReadsLine : ℕ → List ℕ → (old new : Found) → Type 0
ReadsLine n line old new =
    (IsUtf8 (uncommented line) × ReadsWords n (uncommented line) (words_of (uncommented line)) old new)
    ⊎ (¬ (IsUtf8 (uncommented line)) × (new ≡ told n whys.NotUtf8 old))

-- The lines from this number on are read, one after another.
abbrev pub ReadsLines : ℕ → List (List ℕ) → (old new : Found) → Type 0
ReadsLines n [] old new = new ≡ old
ReadsLines n (line ∷ lines) old new = (mid : Found) × ReadsLine n line old mid × ReadsLines (n + 1) lines mid new

-- This is found in a text, from these options on.
abbrev pub IsFoundFrom : ResolvOptions → List ℕ → Found → Type 0
IsFoundFrom options text found = ReadsLines 1 (lines_of text) (beginning options) found

-- the same from those by default on
abbrev pub IsFoundIn : List ℕ → Found → Type 0
IsFoundIn text found = IsFoundFrom default_options text found

-- it is told of a line that names a server
abbrev pub is_of_server : Why → Bool
is_of_server whys.Server = true
is_of_server whys.Zone = true
is_of_server _ = false

abbrev pub tell_of_servers : List Note → Bool
tell_of_servers notes = list_any (λ note. is_of_server note.why) notes

-- lines name servers, and none of them is taken
abbrev pub names_none : List ServerConf → List Note → Bool
names_none [] notes = tell_of_servers notes
names_none (server ∷ servers) notes = false

abbrev pub takes_no_server : Found → Bool
takes_no_server found = names_none found.conf.servers found.notes
