-- The entries of a request, counted as they would be written.
use Rattle.std.specs.Prelude.{◌≡◌, ℕ, ◌==◌, List, Option, Some, None, Result, Ok, Err, if◌then◌else◌}
use Rattle.dns_values.specs.declared.error.ParseError.{ParseError}
use Rattle.dns_values.specs.declared.numbers.Section.{Section}
use Rattle.dns_values.specs.declared.numbers.Section.TheVariants.{Answer, Authority, Additional}
use Rattle.dns_base.specs.declared.push_error.PushError.TheVariants.{Count}
use Rattle.dns_base.specs.Answering.{question_items}
use Rattle.dns_base.specs.Header.{Counts}
use Rattle.dns_base.specs.Message.{Asked, Known}
use Rattle.dns_base.specs.OptRecord.{OptFields}
use Rattle.dns_base.specs.Sections.{one_question_more, entries_in, one_more_in}
use Rattle.client_request.specs.declared.error.Error.{Error}
use Rattle.client_request.specs.declared.error.CopyRecordsError.{CopyRecordsError}
use Rattle.client_request.specs.declared.error.CopyRecordsError.TheVariants.{Parse, Push}
use Rattle.client_request.specs.Composed.{◌>>◌, each, is_replaced, section_items, error_of}

-- how many entries each section has, or why there are no more
abbrev pub Counted : Type 0
Counted = Result Counts CopyRecordsError

abbrev pub counts_question : Asked → Counts → Counted
counts_question q counts = if counts.questions == 65535 then Err (Push Count) else Ok (one_question_more counts)

abbrev pub counts_record : Section → Counts → Counted
counts_record section counts = if entries_in section counts == 65535 then Err (Push Count) else Ok (one_more_in section counts)

abbrev pub counts_known : Section → Known → Counts → Counted
counts_known section known counts = if is_replaced section known then Ok counts else counts_record section counts

abbrev pub counts_found : Section → Option (List (Result Known ParseError)) → Counts → Counted
counts_found section None counts = Err (Parse (record {}))
counts_found section (Some items) counts = each (counts_known section) items counts

abbrev pub counts_section : Section → List ℕ → Counts → Counted
counts_section section base counts = counts_found section (section_items section base) counts

-- the records of the base in order
abbrev pub counts_records : List ℕ → Counts → Counted
counts_records base counts = counts_section Answer base counts >> counts_section Authority base >> counts_section Additional base

abbrev pub counts_opt : Option OptFields → Counts → Counted
counts_opt None counts = Ok counts
counts_opt (Some opt) counts = counts_record Additional counts

-- the questions and records of the base in order, and then the recorded OPT record
abbrev pub counts_all : List ℕ → Option OptFields → Counts → Counted
counts_all base opt counts =
    each counts_question (question_items base) counts
    >> counts_section Answer base
    >> counts_section Authority base
    >> counts_section Additional base
    >> counts_opt opt

abbrev pub verdict_of : Counted → Result (Unit {0}) Error
verdict_of (Ok counts) = Ok tt
verdict_of (Err e) = Err (error_of e)

-- The counts are the ones that were to come, or the refusal is.
abbrev pub IsCounted : Counted → Result (Unit {0}) CopyRecordsError → Counts → Type 0
IsCounted counted (Ok _) counts = counted ≡ Ok counts
IsCounted counted (Err e) counts = counted ≡ Err e
