-- How many entries a base has in each section, and how many octets, as a walk counts them: of each, 65536 are as many as more.
use Rattle.std.specs.Prelude.{ℕ, ◌+◌, min, List, [], ◌∷◌, Option, Some, None, Result, Ok, Err, if◌then◌else◌}
use Rattle.dns_values.specs.declared.error.ParseError.{ParseError}
use Rattle.dns_values.specs.declared.numbers.Section.{Section}
use Rattle.dns_values.specs.declared.numbers.Section.TheVariants.{Answer, Authority, Additional}
use Rattle.dns_base.specs.{Numbers.◌>>=◌, Answering.question_items}
use Rattle.dns_base.specs.Message.{Asked, Known}
use Rattle.dns_base.specs.Draft.{question_size, record_size}
use Rattle.client_request.specs.Composed.{section_items, written_from, is_replaced}
use Rattle.message_judging.specs.declared.validity.sizes.{Size.Size, BaseSize.BaseSize}

abbrev pub most : ℕ → ℕ
most n = min 65536 n

abbrev pub more : (octets : ℕ) → Size → Size
more n x = record { entries = most (most x.entries + 1); octets = most (most x.octets + most n) }

abbrev pub with_question : Asked → Size → Size
with_question q x = more (question_size q) x

abbrev pub with_record : Known → Size → Size
with_record k x = more (record_size (written_from k)) x

abbrev pub with_sent : Section → Known → Size → Size
with_sent s k x = if is_replaced s k then x else with_record k x

abbrev pub questions_behind : List (Result Asked ParseError) → Size → Option Size
questions_behind [] x = Some x
questions_behind (Ok q ∷ items) x = questions_behind items (with_question q x)
questions_behind (Err e ∷ items) x = None

abbrev pub records_behind : Section → List (Result Known ParseError) → Size → Option Size
records_behind s [] x = Some x
records_behind s (Ok k ∷ items) x = records_behind s items (with_sent s k x)
records_behind s (Err e ∷ items) x = None

abbrev pub records_found : Section → Size → Option (List (Result Known ParseError)) → Option Size
records_found s x None = None
records_found s x (Some items) = records_behind s items x

abbrev pub section_behind : Section → (base : List ℕ) → (octets : ℕ) → Option Size
section_behind s base n = records_found s (record { entries = 0; octets = n }) (section_items s base)

abbrev pub size_of_base : (base : List ℕ) → Option BaseSize
size_of_base base = do
  questions ← questions_behind (question_items base) (record { entries = 0; octets = 12 })
  answer ← section_behind Answer base questions.octets
  authority ← section_behind Authority base answer.octets
  additional ← section_behind Additional base authority.octets
  Some (record {
    questions = questions.entries;
    answer = answer.entries;
    authority = authority.entries;
    additional = additional.entries;
    octets = additional.octets;
  })
