-- The sentences that tell what is wrong with words.
use Rattle.std.specs.Prelude.{ℕ, List, [], ◌++◌, codes, slice_get, Option, None, Some, String}
use Rattle.std.specs.String.{string_bytes}
use Rattle.std.specs.declared.alloc.Global.{Global}
use Rattle.dns_lookup_words.specs.declared.lacking.Lack.{Lack}
use Rattle.dns_lookup_words.specs.declared.lacking.Lack.TheVariants as lacks
use Rattle.dns_lookup_words.specs.declared.wrong.Refusal.{Refusal}
use Rattle.dns_lookup_words.specs.declared.wrong.Refusal.TheVariants.{Word, NoValue, NoName}
use Rattle.dns_lookup_words.specs.declared.wrong.Value.{Value}
use Rattle.dns_lookup_words.specs.declared.wrong.Value.TheVariants as values
use Rattle.dns_lookup_words.specs.declared.wrong.Wrong.{Wrong}
use Rattle.dns_lookup_words.specs.declared.wrong.Wrong.TheVariants as wrongs

-- what is told of an option that is not to be had
abbrev pub lack_text : Lack → List ℕ
lack_text lacks.Encryption = codes "asks for TLS, HTTPS or QUIC, and requests go by UDP and TCP alone"
lack_text lacks.Cookie = codes "asks for a cookie, and no request has one"
lack_text lacks.Subnet = codes "asks for the network of a client, and no request has one"
lack_text lacks.Extension = codes "asks for another version, flag or option of EDNS than +dnssec, +nsid and +expire ask for"
lack_text lacks.Header = codes "asks for another id or opcode, or for no question, and each request is a query with one"
lack_text lacks.Tries = codes "asks for a number of tries behind the first, and +tries says how many there are with it"
lack_text lacks.Transport = codes "asks for another way with truncated or broken answers or with streams than the usual"
lack_text lacks.Suffixes = codes "asks for what is answered on the way of a search, and one answer is written for a name"
lack_text lacks.Walk = codes "asks for the start of a zone at each of its servers, and one answer is asked for"
lack_text lacks.Text = codes "asks for a text of records that is not written"
lack_text lacks.Letters = codes "asks for names in letters past ASCII, which are asked for and written as xn-- has them"
lack_text lacks.Source = codes "asks for an address of this host to ask from, which the system chooses"
lack_text lacks.Signature = codes "asks for a signed request (TSIG), and none is signed"
lack_text lacks.Program = codes "asks for a way of dig's own, which is not there"

-- what is wrong with a word
abbrev pub wrong_text : Wrong → List ℕ
wrong_text wrongs.Server = codes "names no server: it is no address, and no name whose address is found"
wrong_text wrongs.Scope = codes "has a scope behind its %, and no server of one interface alone is asked"
wrong_text wrongs.ServerPort = codes "names no port from 1 to 65535 behind its #"
wrong_text wrongs.OtherPort = codes "names another port than was said before, and all servers are asked at one"
wrong_text wrongs.Port = codes "is no port"
wrong_text wrongs.Address = codes "is no address"
wrong_text wrongs.Name = codes "is no name"
wrong_text wrongs.Idn = codes "is no name, since it has letters past ASCII; its form that begins with xn-- is"
wrong_text wrongs.Late = codes "names a server behind two names, and servers are asked for all names"
wrong_text wrongs.Parted = codes "is another name behind a server that stands behind a name, and servers are asked for all names"
wrong_text wrongs.Type = codes "is neither a known type nor TYPE with a number"
wrong_text wrongs.Transfer = codes "is no type that one message answers"
wrong_text wrongs.Class = codes "is no class"
wrong_text wrongs.OtherClass = codes "is another class than IN, CH and HS"
wrong_text wrongs.Time = codes "gives no seconds from 0 to 600"
wrong_text wrongs.Tries = codes "gives no number of tries from 0 to 5"
wrong_text wrongs.Size = codes "gives no payload size from 0 to 65535"
wrong_text wrongs.Suffix = codes "gives no suffix by +domain=NAME"
wrong_text wrongs.Dots = codes "gives no count of dots from 0 to 65535"
wrong_text wrongs.Option = codes "is no option"
wrong_text (wrongs.Lacking lack) = lack_text lack
wrong_text wrongs.Valued = codes "has a value, and its option takes none"

abbrev pub text_of : Option (String Global) → List ℕ
text_of None = []
text_of (Some word) = string_bytes word

-- the word of a number
abbrev pub word_at : List (String Global) → ℕ → List ℕ
word_at words n = text_of (slice_get words n)

-- the sentence of a word that is wrong
abbrev pub word_sentence : List ℕ → Wrong → List ℕ
word_sentence word wrong = codes "dns_lookup: " ++ (word ++ (codes " " ++ (wrong_text wrong ++ codes "; see dns_lookup --help\n")))

-- the sentence of a value that is due
abbrev pub due_sentence : Value → List ℕ
due_sentence values.Port = codes "dns_lookup: no port stands behind -p; see dns_lookup --help\n"
due_sentence values.Address = codes "dns_lookup: no address stands behind -x; see dns_lookup --help\n"
due_sentence values.Type = codes "dns_lookup: no type stands behind -t; see dns_lookup --help\n"
due_sentence values.Class = codes "dns_lookup: no class stands behind -c; see dns_lookup --help\n"
due_sentence values.Name = codes "dns_lookup: no name stands behind -q; see dns_lookup --help\n"

-- the sentence of a refusal, which names the wrong word
abbrev pub sentence : List (String Global) → Refusal → List ℕ
sentence words (Word n wrong) = word_sentence (word_at words n) wrong
sentence words (NoValue value) = due_sentence value
sentence words NoName = codes "dns_lookup: no name is asked for; see dns_lookup --help\n"
