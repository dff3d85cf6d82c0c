-- The options that begin with a plus: their names, and what each sets.
use Rattle.std.specs.Prelude.{ℕ, Bool, if◌then◌else◌, List, [], ◌∷◌, drop, codes}
use Rattle.dns_values.specs.NumberNames.{begins_with}
use Rattle.program_words.specs.Rows.{Row}
use Rattle.program_words.specs.declared.row.Letters.TheVariants.{First}
use Rattle.dns_lookup_words.specs.declared.lacking.Lack.TheVariants as lacks
use Rattle.dns_lookup_words.specs.declared.options.Flag.TheVariants as flags
use Rattle.dns_lookup_words.specs.declared.options.Part.TheVariants as parts
use Rattle.dns_lookup_words.specs.declared.options.Sets.{Sets}
use Rattle.dns_lookup_words.specs.declared.options.Sets.TheVariants.{Absent, All, Already, Domain, Dots, Edns, Flag, Never, Part, Search, Size, Tcp, Time, Tries, Walk}

-- dig's options, of which the first that a word is short for counts
unfoldable pub plus_options : List (Row Sets)
plus_options =
    (codes "aaflag", First 2, Flag flags.Authoritative)
    ∷ (codes "aaonly", First 2, Flag flags.Authoritative)
    ∷ (codes "adflag", First 2, Flag flags.Authentic)
    ∷ (codes "additional", First 3, Part parts.Additional)
    ∷ (codes "all", First 2, All)
    ∷ (codes "answer", First 2, Part parts.Answer)
    ∷ (codes "authority", First 2, Part parts.Authority)
    ∷ (codes "badcookie", First 2, Never lacks.Cookie)
    ∷ (codes "besteffort", First 2, Absent lacks.Transport)
    ∷ (codes "bufsize", First 2, Size)
    ∷ (codes "cdflag", First 2, Flag flags.Unchecked)
    ∷ (codes "class", First 2, Part parts.Class)
    ∷ (codes "cmd", First 2, Never lacks.Text)
    ∷ (codes "comments", First 3, Part parts.Comments)
    ∷ (codes "cookie", First 3, Never lacks.Cookie)
    ∷ (codes "crypto", First 2, Already lacks.Text)
    ∷ (codes "defname", First 3, Search)
    ∷ (codes "dnssec", First 4, Flag flags.Dnssec)
    ∷ (codes "do", First 2, Flag flags.Dnssec)
    ∷ (codes "domain", First 3, Domain)
    ∷ (codes "edns", First 2, Edns)
    ∷ (codes "ednsflags", First 5, Absent lacks.Extension)
    ∷ (codes "ednsnegotiation", First 5, Never lacks.Extension)
    ∷ (codes "ednsopt", First 5, Absent lacks.Extension)
    ∷ (codes "expandaaaa", First 4, Part parts.Expanded)
    ∷ (codes "expire", First 4, Flag flags.Expire)
    ∷ (codes "fail", First 1, Never lacks.Transport)
    ∷ (codes "header-only", First 2, Never lacks.Header)
    ∷ (codes "https", First 2, Never lacks.Encryption)
    ∷ (codes "identify", First 3, Part parts.Identify)
    ∷ (codes "idnin", First 4, Never lacks.Letters)
    ∷ (codes "idnout", First 4, Never lacks.Letters)
    ∷ (codes "ignore", First 2, Never lacks.Transport)
    ∷ (codes "json", First 1, Part parts.Json)
    ∷ (codes "keepalive", First 5, Absent lacks.Extension)
    ∷ (codes "keepopen", First 5, Already lacks.Transport)
    ∷ (codes "mapped", First 2, Never lacks.Transport)
    ∷ (codes "multiline", First 2, Part parts.Multiline)
    ∷ (codes "ndots", First 2, Dots)
    ∷ (codes "nsid", First 3, Flag flags.Nsid)
    ∷ (codes "nssearch", First 3, Never lacks.Walk)
    ∷ (codes "onesoa", First 2, Absent lacks.Text)
    ∷ (codes "opcode", First 2, Absent lacks.Header)
    ∷ (codes "padding", First 1, Absent lacks.Extension)
    ∷ (codes "qid", First 2, Absent lacks.Header)
    ∷ (codes "qr", First 2, Part parts.Query)
    ∷ (codes "question", First 2, Part parts.Question)
    ∷ (codes "quic", First 4, Never lacks.Encryption)
    ∷ (codes "raflag", First 2, Flag flags.Available)
    ∷ (codes "rdflag", First 2, Flag flags.Recursion)
    ∷ (codes "recurse", First 3, Flag flags.Recursion)
    ∷ (codes "retry", First 3, Absent lacks.Tries)
    ∷ (codes "rrcomments", First 2, Never lacks.Text)
    ∷ (codes "search", First 2, Search)
    ∷ (codes "short", First 4, Part parts.Short)
    ∷ (codes "showsearch", First 5, Never lacks.Suffixes)
    ∷ (codes "split", First 2, Never lacks.Text)
    ∷ (codes "stats", First 2, Part parts.Stats)
    ∷ (codes "subnet", First 2, Never lacks.Subnet)
    ∷ (codes "tcflag", First 3, Flag flags.Truncated)
    ∷ (codes "tcp", First 2, Tcp)
    ∷ (codes "time", First 2, Time)
    ∷ (codes "timeout", First 5, Time)
    ∷ (codes "tls", First 2, Never lacks.Encryption)
    ∷ (codes "trace", First 3, Walk)
    ∷ (codes "tries", First 3, Tries)
    ∷ (codes "ttlid", First 4, Part parts.Ttl)
    ∷ (codes "ttlunits", First 4, Part parts.Units)
    ∷ (codes "unknownformat", First 3, Never lacks.Text)
    ∷ (codes "vc", First 1, Tcp)
    ∷ (codes "yaml", First 1, Part parts.Yaml)
    ∷ (codes "zflag", First 1, Flag flags.Reserved)
    ∷ []

-- `no` before a name turns it off
abbrev pub is_off : List ℕ → Bool
is_off text = begins_with (codes "no") text

abbrev pub without_no : List ℕ → List ℕ
without_no text = if is_off text then drop 2 text else text
