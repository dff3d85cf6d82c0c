-- The message that is composed of a request (RFC 1035 4.1, RFC 6891 6.1.1).
use Rattle.std.specs.Prelude.{◌≡◌, ℕ, ◌==◌, ◌⊎◌, List, [], ◌∷◌, Option, Some, None, Result, Ok, Err, Bool, false, if◌then◌else◌}
use Rattle.dns_values.specs.declared.error.ParseError.{ParseError}
use Rattle.dns_values.specs.declared.numbers.Section.{Section}
use Rattle.dns_values.specs.declared.numbers.Section.TheVariants.{Answer, Authority, Additional}
use Rattle.dns_base.specs.declared.push_error.PushError.{PushError}
use Rattle.dns_base.specs.declared.push_error.PushError.TheVariants as refusals
use Rattle.dns_base.specs.Data.{Data, Other}
use Rattle.dns_base.specs.Message.{Asked, Entry, Known, Written, answer_items, authority_items, additional_items}
use Rattle.dns_base.specs.Answering.{question_items}
use Rattle.dns_base.specs.Sections.{entries_in}
use Rattle.dns_base.specs.OptRecord.{OptFields}
use Rattle.dns_base.specs.Draft.{Draft, question_size, record_size, counts_in, refusal, fresh, with_header, pushed_question, pushed_record, cleared, finished}
use Rattle.client_request.specs.declared.error.Error.{Error}
use Rattle.client_request.specs.declared.error.Error.TheVariants as errors
use Rattle.client_request.specs.declared.error.CopyRecordsError.{CopyRecordsError}
use Rattle.client_request.specs.declared.error.CopyRecordsError.TheVariants.{Parse, Push}
use Rattle.client_request.specs.Request.{Request, opt_written}

-- a draft with more entries, or why not
abbrev pub Copied : Type 0
Copied = Result Draft CopyRecordsError

-- one step after another, up to the first that is refused
infixl 10 ◌>>◌
abbrev pub ◌>>◌ : {D : Type 0} → Result D CopyRecordsError → (D → Result D CopyRecordsError) → Result D CopyRecordsError
Ok d >> next = next d
Err e >> next = Err e

-- an entry is pushed, unless that is refused
abbrev pub unless : Option PushError → Draft → Copied
unless None d = Ok d
unless (Some e) d = Err (Push e)

abbrev pub asks : Asked → Draft → Copied
asks q d = unless (refusal (counts_in d).questions d (question_size q)) (pushed_question q d)

abbrev pub adds : Section → Written → Draft → Copied
adds section w d = unless (refusal (entries_in section (counts_in d)) d (record_size w)) (pushed_record section w d)

-- data as its type reads it, else its octets
abbrev pub content_of : Entry → Option Data → Data
content_of entry None = Other entry.octets
content_of entry (Some content) = content

abbrev pub written_from : Known → Written
written_from known = record {
  owner = known.entry.owner;
  rtype = known.entry.rtype;
  class = known.entry.class;
  ttl = known.entry.ttl;
  content = content_of known.entry known.says;
}

-- The recorded OPT record takes the place of those of the additional section.
abbrev pub is_replaced : Section → Known → Bool
is_replaced Answer known = false
is_replaced Authority known = false
is_replaced Additional known = known.entry.rtype == 41

abbrev pub copies : Section → Known → Draft → Copied
copies section known d = if is_replaced section known then Ok d else adds section (written_from known) d

-- item by item, up to the first that can't be read or is refused
abbrev pub each : {A D : Type 0} → (A → D → Result D CopyRecordsError) → List (Result A ParseError) → D → Result D CopyRecordsError
each one [] d = Ok d
each one (Ok x ∷ items) d = one x d >> each one items
each one (Err e ∷ items) d = Err (Parse e)

abbrev pub section_items : Section → List ℕ → Option (List (Result Known ParseError))
section_items Answer base = answer_items base
section_items Authority base = authority_items base
section_items Additional base = additional_items base

-- the records of a section, where those before it are read
abbrev pub each_found : Section → Option (List (Result Known ParseError)) → Draft → Copied
each_found section None d = Err (Parse (record {}))
each_found section (Some items) d = each (copies section) items d

abbrev pub copies_section : Section → List ℕ → Draft → Copied
copies_section section base d = each_found section (section_items section base) d

-- the records of the base in order
abbrev pub copies_records : List ℕ → Draft → Copied
copies_records base d = copies_section Answer base d >> copies_section Authority base >> copies_section Additional base

abbrev pub adds_opt : Option OptFields → Draft → Copied
adds_opt None d = Ok d
adds_opt (Some opt) d = adds Additional (opt_written opt) d

-- the questions and records of the base in order, and then the recorded OPT record
abbrev pub copies_all : List ℕ → Option OptFields → Draft → Copied
copies_all base opt d =
    each asks (question_items base) d
    >> copies_section Answer base
    >> copies_section Authority base
    >> copies_section Additional base
    >> adds_opt opt

unfoldable pub appended : Request → Draft → Copied
appended r d = copies_all r.base r.opt d >> (λ all. Ok (with_header r.header all))

abbrev pub error_of : CopyRecordsError → Error
error_of (Parse e) = errors.MessageParseError
error_of (Push refusals.Count) = errors.MessageBuilderPushError
error_of (Push refusals.Limit) = errors.MessageBuilderPushError
error_of (Push refusals.NoMemory) = errors.NoMemory

abbrev pub message_of : Copied → Result (List ℕ) Error
message_of (Ok d) = Ok (finished d)
message_of (Err e) = Err (error_of e)

-- the message, or the first refusal in its order
unfoldable pub composed : Request → Result (List ℕ) Error
composed r = message_of (appended r (fresh None))

-- A draft without any entry is what clearing it leaves.
abbrev pub HoldsNothing : Draft → Type 0
HoldsNothing d = cleared d ≡ d

-- The draft is the one that was to come, or the refusal is, unless memory ran out.
abbrev pub IsCopied : Copied → Result (Unit {0}) CopyRecordsError → Draft → Type 0
IsCopied copied (Ok _) d = copied ≡ Ok d
IsCopied copied (Err e) d = (e ≡ Push refusals.NoMemory) ⊎ (copied ≡ Err e)
