-- What is answered where no server may be asked: the questions and the OPT record, under the response code SERVFAIL (RFC 1035 4.1.1).
use Rattle.std.specs.Prelude.{◌≡◌, [], Some, ℕ, List, Option, Result, Ok, None, option_map, is_some, Bool, true, false}
use Rattle.dns_values.specs.declared.error.ParseError.{ParseError}
use Rattle.dns_base.specs.Answering.{question_items}
use Rattle.dns_base.specs.Draft.{Draft, fresh, with_header}
use Rattle.dns_base.specs.Header.{with_qr, with_ad, with_rcode}
use Rattle.dns_base.specs.Holding.{Contents, Agree}
use Rattle.dns_base.specs.Message.{Asked, Reading, header_of, all_read, reads}
use Rattle.dns_base.specs.OptRecord.{OptFields, opt_of}
use Rattle.client_request.specs.declared.error.Error.{Error}
use Rattle.client_request.specs.Carries.{opt_records}
use Rattle.client_request.specs.Composed.{Copied, ◌>>◌, each, asks, adds_opt, message_of}

-- a response that is not authentic, with this code; the id and the other flags stay
abbrev pub failing : List ℕ → List ℕ
failing header = with_rcode 2 (with_ad false (with_qr true header))

-- no bits of the code above those of the header
abbrev pub plain_opt : OptFields → OptFields
plain_opt opt = record opt { ext_rcode = 0 }

-- some questions, and an OPT record
abbrev pub copies_failing : List (Result Asked ParseError) → Option OptFields → Draft → Copied
copies_failing questions opt d = each asks questions d >> adds_opt (option_map plain_opt opt)

-- whether each question of a message is read
abbrev pub reads_questions : List ℕ → Bool
reads_questions octets = is_some (all_read (question_items octets))

-- the answer to a message, or why there is none
unfoldable pub serve_failed : List ℕ → Result (List ℕ) Error
serve_failed octets = message_of (copies_failing (question_items octets) (opt_of octets) (fresh None) >> (λ all. Ok (with_header (failing (header_of octets)) all)))

-- what the answer says: the questions, and the OPT record
abbrev pub failing_contents : List Asked → Option OptFields → Contents
failing_contents questions opt = record { questions = questions; answer = []; authority = []; additional = opt_records (option_map plain_opt opt) }

-- The octets read as that header, the questions of a message in order, and its OPT record. Names agree up to case.
pub record SaysFailure (octets message : List ℕ) : Type 0 where
  pub questions : List Asked
  pub are : all_read (question_items message) ≡ Some questions
  pub reading : Reading
  pub read : reads octets ≡ Some reading
  pub header : reading.header ≡ failing (header_of message)
  pub agree :
      Agree
      (record { questions = reading.questions; answer = reading.answer; authority = reading.authority; additional = reading.additional })
      (failing_contents questions (opt_of message))
