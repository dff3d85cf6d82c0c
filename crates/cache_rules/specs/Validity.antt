-- How long a result may be kept by the settings of a cache, in microseconds, and what is met of a message to tell it.
use Rattle.std.specs.Prelude.{ℕ, min, Bool, true, false, not, ◌&&◌, ◌||◌, ◌==◌, if◌then◌else◌, Option, Some, None, option_and_then, option_map, is_some, List, [], ◌∷◌, Result, Ok, Err}
use Rattle.dns_values.specs.declared.error.ParseError.{ParseError}
use Rattle.dns_values.specs.declared.numbers.Section.{Section}
use Rattle.dns_values.specs.declared.numbers.Section.TheVariants.{Answer, Authority, Additional}
use Rattle.dns_base.specs.Header.{tc_of}
use Rattle.dns_base.specs.Message.{Asked, Known, first_question, answer_items, authority_items, additional_items}
use Rattle.dns_base.specs.OptRecord.{opt_rcode}
use Rattle.client_request.specs.declared.error.Error.{Error}
use Rattle.client_request.specs.declared.error.Error.TheVariants.{MessageParseError}
use Rattle.client_settings.specs.Settings.{CacheSettings, seconds}
use Rattle.right_trace.specs.Messages.{Octets}
use Rattle.right_trace.specs.Settings.{Settings}
use Rattle.right_trace.specs.Validity.{validity_of_message}

-- the settings of a client with this cache
abbrev pub with_cache : CacheSettings → Settings → Settings
with_cache c s = record s {
  max_validity = c.max_validity;
  transport_failure_duration = c.transport_failure_duration;
  misc_error_duration = c.misc_error_duration;
  max_nxdomain_validity = c.max_nxdomain_validity;
  max_nodata_validity = c.max_nodata_validity;
  max_delegation_validity = c.max_delegation_validity;
  cache_truncated = c.cache_truncated;
  stale_for = c.stale_for;
}

-- the settings of a client with this cache that defers nothing
abbrev pub cached_by : CacheSettings → Settings
cached_by c = record {
  defers_errors = false;
  defers_refused = false;
  defers_servfail = false;
  max_validity = c.max_validity;
  transport_failure_duration = c.transport_failure_duration;
  misc_error_duration = c.misc_error_duration;
  max_nxdomain_validity = c.max_nxdomain_validity;
  max_nodata_validity = c.max_nodata_validity;
  max_delegation_validity = c.max_delegation_validity;
  cache_truncated = c.cache_truncated;
  stale_for = c.stale_for;
}

-- what is read, or that it is not
abbrev pub or_unread : {A : Type 0} → Option A → Result A Error
or_unread (Some x) = Ok x
or_unread None = Err MessageParseError

-- how long a result may be kept, or that its message can't be read
abbrev pub kept_for : CacheSettings → Result Octets Error → Result ℕ Error
kept_for c (Ok message) = or_unread (validity_of_message (cached_by c) message)
kept_for c (Err error) = Ok c.transport_failure_duration

-- What is met of a message, section by section.

-- a record of this type and class is among these, before the first that is not read
abbrev pub meets : (rtype class : ℕ) → List (Result Known ParseError) → Bool
meets t c [] = false
meets t c (Err e ∷ items) = false
meets t c (Ok k ∷ items) = ((k.entry.rtype == t) && (k.entry.class == c)) || meets t c items

-- the same of a section, where those before it are read
abbrev pub section_meets : (rtype class : ℕ) → Option (List (Result Known ParseError)) → Bool
section_meets t c None = false
section_meets t c (Some items) = meets t c items

-- the limit of a message without error, by its first question: SOA is type 6, NS type 2
abbrev pub limit_asked : CacheSettings → Octets → Option Asked → ℕ
limit_asked c m None = 0
limit_asked c m (Some q) =
    if section_meets q.rtype q.class (answer_items m) then c.max_validity
    else (if section_meets 6 q.class (authority_items m) then c.max_nodata_validity
    else (if section_meets 2 q.class (authority_items m) then c.max_delegation_validity else 0))

-- the limit of a message that says that the name is not there, by its first question: there is none without an SOA
abbrev pub limit_absent : CacheSettings → Octets → Option Asked → ℕ
limit_absent c m None = 0
limit_absent c m (Some q) = if section_meets 6 q.class (authority_items m) then c.max_nxdomain_validity else 0

-- the limit of a message, by its response code
abbrev pub limit_met : CacheSettings → Octets → ℕ
limit_met c m =
    if opt_rcode m == 0 then limit_asked c m (first_question m)
    else (if opt_rcode m == 3 then limit_absent c m (first_question m) else c.misc_error_duration)

-- an OPT record of the additional section has no TTL
abbrev pub has_ttl : Section → (rtype : ℕ) → Bool
has_ttl Answer t = true
has_ttl Authority t = true
has_ttl Additional t = not (t == 41)

abbrev pub least_with : Section → Known → ℕ → ℕ
least_with s k n = if has_ttl s k.entry.rtype then min n (seconds k.entry.ttl) else n

-- the least TTL of these records and n, where all are read
abbrev pub least_met : Section → List (Result Known ParseError) → ℕ → Option ℕ
least_met s [] n = Some n
least_met s (Ok k ∷ items) n = least_met s items (least_with s k n)
least_met s (Err e ∷ items) n = None

abbrev pub least_in : Section → Option (List (Result Known ParseError)) → ℕ → Option ℕ
least_in s None n = None
least_in s (Some items) n = least_met s items n

-- the least of all TTLs and n, where the message is read
abbrev pub least_of : Octets → ℕ → Option ℕ
least_of m n = option_and_then (least_in Additional (additional_items m)) (option_and_then (least_in Authority (authority_items m)) (least_in Answer (answer_items m) n))

-- these records are read, and their data by type
abbrev pub are_known : List (Result Known ParseError) → Bool
are_known [] = true
are_known (Err e ∷ items) = false
are_known (Ok k ∷ items) = is_some k.says && are_known items

-- the same of a section, where those before it are read
abbrev pub section_is_known : Option (List (Result Known ParseError)) → Bool
section_is_known None = false
section_is_known (Some items) = are_known items

-- the same of a message
abbrev pub is_known : Octets → Bool
is_known m = section_is_known (answer_items m) && (section_is_known (authority_items m) && section_is_known (additional_items m))

-- this; or 0, where the data of a record can't be read
abbrev pub if_known : Bool → ℕ → ℕ
if_known b n = if b then n else 0

abbrev pub validity_met : CacheSettings → Octets → Option ℕ
validity_met c m = if tc_of m && not c.cache_truncated then Some 0 else option_map (if_known (is_known m)) (least_of m (min c.max_validity (limit_met c m)))
