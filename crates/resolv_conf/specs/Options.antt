-- What the words of an `options` line set.
use Rattle.std.specs.Prelude.{◌≡◌, ◌==◌, ℕ, ◌*◌, List, [], ◌∷◌, length, codes, Bool, true, false, Option, Some, None, Result, MatchResult, nat_lt, if◌then◌else◌}
use Rattle.std.specs.List.{position_or_len, before_first, after_first}
use Rattle.std.specs.Str.{bytes_eq}
use Rattle.resolv_conf.specs.declared.fault.LineFault.{LineFault}
use Rattle.resolv_conf.specs.declared.fault.LineFault.TheVariants.{Parse}
use Rattle.resolv_conf.specs.declared.options.ResolvOptions.{ResolvOptions}
use Rattle.resolv_conf.specs.Number.{number_of}
use Rattle.resolv_conf.specs.Words.{Words}

-- a word without a number; one that isn't known sets nothing
unfoldable pub flagged : List ℕ → ResolvOptions → ResolvOptions
flagged word o =
    if bytes_eq word (codes "use-vc") then record o { use_vc = true }
    else if bytes_eq word (codes "inet6") then record o { use_inet6 = true }
    else if bytes_eq word (codes "rotate") then record o { rotate = true }
    else if bytes_eq word (codes "no-check-names") then record o { no_check_name = true }
    else if bytes_eq word (codes "ip6-bytestring") then record o { use_bstring = true }
    else if bytes_eq word (codes "ip6-dotint") then record o { use_ip6dotint = true }
    else if bytes_eq word (codes "no-ip6-dotint") then record o { use_ip6dotint = false }
    else if bytes_eq word (codes "edns0") then record o { use_edns0 = true }
    else if bytes_eq word (codes "single-request") then record o { single_request = true }
    else if bytes_eq word (codes "single-request-reopen") then record o { single_request_reopen = true }
    else if bytes_eq word (codes "no-tld-query") then record o { no_tld_query = true }
    else o

-- a name and its number, of which a timeout's is in seconds
unfoldable pub numbered : List ℕ → ℕ → ResolvOptions → ResolvOptions
numbered name n o =
    if bytes_eq name (codes "ndots") then record o { ndots = n }
    else if bytes_eq name (codes "timeout") then record o { timeout = n * 1000000 }
    else if bytes_eq name (codes "attempts") then record o { attempts = n }
    else o

abbrev pub valued : List ℕ → Option ℕ → ResolvOptions → Option ResolvOptions
valued name None o = None
valued name (Some n) o = Some (numbered name n o)

-- the options after a word, or nothing where it is refused: what follows a colon must be a number
unfoldable pub option_after : List ℕ → ResolvOptions → Option ResolvOptions
option_after word o =
    if nat_lt (position_or_len (λ c. c == 58) word) (length word)
    then valued (before_first (λ c. c == 58) word) (number_of (after_first (λ c. c == 58) word)) o
    else Some (flagged word o)

-- whether all words were taken, and the options then: those of the words before the one that is refused
pub record OptionsOutcome : Type 0 where
  pub taken : Bool
  pub options : ResolvOptions

abbrev pub options_from : Option ResolvOptions → ResolvOptions → (ResolvOptions → OptionsOutcome) → OptionsOutcome
options_from None o next = record { taken = false; options = o }
options_from (Some p) o next = next p

abbrev pub options_after : Words → ResolvOptions → OptionsOutcome
options_after [] o = record { taken = true; options = o }
options_after (word ∷ words) o = options_from (option_after word o) o (options_after words)

-- What the words of a line answer, with the options then.
abbrev pub OptionsAnswer : OptionsOutcome → Result (Unit {0}) LineFault → ResolvOptions → Type 0
OptionsAnswer outcome answer new = MatchResult answer (λ _. outcome ≡ record { taken = true; options = new })
    (λ e. (e ≡ Parse) × (outcome ≡ record { taken = false; options = new }))
