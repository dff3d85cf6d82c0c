-- What each step of writing changes in a draft, and what it leaves.
use Rattle.std.specs.Prelude.{◌≡◌, ◌≢◌, ℕ, ◌+◌, ◌≤◌, List, [], ◌∷◌, length, Option, Some, None}
use Rattle.dns_base.specs.declared.push_error.PushError.TheVariants.{Count}
use Rattle.dns_values.specs.declared.numbers.Section.{Section}
use Rattle.dns_base.specs.Sections.{no_entries, one_question_more, one_more_in}
use Rattle.dns_base.specs.Data.{Data, data_spelling, data_size}
use Rattle.dns_base.specs.Message.{Asked, Written}
use Rattle.dns_base.specs.Draft.{Draft, fresh, with_header, pushed_question, pushed_record, cleared, finished, size, limit_of, counts_in, refusal, question_size, record_size}
use Rattle.dns_base.specs.Holding.{header_in}

pub record CountSteps : Type 0 where
  pub fresh : (limit : Option ℕ) → counts_in (fresh limit) ≡ no_entries
  pub header : (header : List ℕ) (d : Draft) → counts_in (with_header header d) ≡ counts_in d
  pub question : (q : Asked) (d : Draft) → counts_in (pushed_question q d) ≡ one_question_more (counts_in d)
  pub any_record : (section : Section) (w : Written) (d : Draft) → counts_in (pushed_record section w d) ≡ one_more_in section (counts_in d)
  pub cleared : (d : Draft) → counts_in (cleared d) ≡ no_entries

pub record LimitSteps : Type 0 where
  pub fresh : (limit : Option ℕ) → limit_of (fresh limit) ≡ limit
  pub header : (header : List ℕ) (d : Draft) → limit_of (with_header header d) ≡ limit_of d
  pub question : (q : Asked) (d : Draft) → limit_of (pushed_question q d) ≡ limit_of d
  pub any_record : (section : Section) (w : Written) (d : Draft) → limit_of (pushed_record section w d) ≡ limit_of d
  pub cleared : (d : Draft) → limit_of (cleared d) ≡ limit_of d

-- A draft has twelve octets at least. A push adds no more than the entry takes with its names spelled out.
pub record SizeSteps : Type 0 where
  pub fresh : (limit : Option ℕ) → size (fresh limit) ≡ 12
  pub header : (header : List ℕ) (d : Draft) → length header ≡ 4 → 12 ≤ size d → size (with_header header d) ≡ size d
  pub question : (q : Asked) (d : Draft) → size d ≤ size (pushed_question q d)
  pub question_at_most : (q : Asked) (d : Draft) → size (pushed_question q d) ≤ size d + question_size q
  pub any_record : (section : Section) (w : Written) (d : Draft) → size d ≤ size (pushed_record section w d)
  pub record_at_most : (section : Section) (w : Written) (d : Draft) → size (pushed_record section w d) ≤ size d + record_size w
  pub content : (content : Data) → length (data_spelling content) ≡ data_size content
  pub cleared : (d : Draft) → 12 ≤ size d → size (cleared d) ≡ 12
  pub finished : (d : Draft) → 12 ≤ size d → length (finished d) ≡ size d

pub record HeaderSteps : Type 0 where
  pub fresh : (limit : Option ℕ) → header_in (fresh limit) ≡ 0 ∷ 0 ∷ 0 ∷ 0 ∷ []
  pub header : (header : List ℕ) (d : Draft) → length header ≡ 4 → header_in (with_header header d) ≡ header
  pub question : (q : Asked) (d : Draft) → 12 ≤ size d → header_in (pushed_question q d) ≡ header_in d
  pub any_record : (section : Section) (w : Written) (d : Draft) → 12 ≤ size d → header_in (pushed_record section w d) ≡ header_in d
  pub cleared : (d : Draft) → 12 ≤ size d → header_in (cleared d) ≡ header_in d

-- A section of 65535 entries takes no more. Without a limit there is no other refusal.
pub record RefusalSteps : Type 0 where
  pub full : (entries : ℕ) (d : Draft) (more : ℕ) → entries ≡ 65535 → refusal entries d more ≡ Some Count
  pub room : (entries : ℕ) (d : Draft) (more : ℕ) → entries ≢ 65535 → limit_of d ≡ None → refusal entries d more ≡ None

pub record DraftSteps : Type 0 where
  pub counts : CountSteps
  pub limits : LimitSteps
  pub sizes : SizeSteps
  pub headers : HeaderSteps
  pub refusals : RefusalSteps
