-- The laws of drafts: what was pushed is read back.
use Rattle.std.specs.Prelude.{◌≡◌, ◌≢◌, ℕ, ◌+◌, ◌≤◌, List, [], ◌∷◌, length, Option, Some}
use Rattle.dns_values.specs.declared.numbers.Section.{Section}
use Rattle.dns_base.specs.Sections.{no_entries, entries_in, one_more_in, HasNoRecords, HasNoneAfter}
use Rattle.dns_base.specs.Message.{Asked, Written, Reading, reads}
use Rattle.dns_base.specs.Draft.{Draft, fresh, with_header, pushed_question, pushed_record, cleared, finished, size, limit_of, counts_in, question_size, record_size}
use Rattle.dns_base.specs.Holding.{Contents, no_contents, with_question, with_record, IsAskable, IsWritable, Holds, header_in, IsReadingOf}

-- a finished draft is read
pub record FinishedReads (d : Draft) (c : Contents) : Type 0 where
  pub reading : Reading
  pub read : reads (finished d) ≡ Some reading
  pub is : IsReadingOf reading (header_in d) (counts_in d) c

pub record DraftLaws : Type 0 where
  pub holds_long : (d : Draft) (c : Contents) → Holds d c → 12 ≤ size d
  pub holds_nothing : (limit : Option ℕ) → Holds (fresh limit) no_contents
  pub header_holds : (header : List ℕ) (d : Draft) (c : Contents) → length header ≡ 4 → Holds d c → Holds (with_header header d) c
  pub question_holds : (q : Asked) (d : Draft) (c : Contents) → IsAskable q → HasNoRecords (counts_in d) → (counts_in d).questions ≢ 65535 → Holds d c
      → Holds (pushed_question q d) (with_question q c)
  pub record_holds : (section : Section) (w : Written) (d : Draft) (c : Contents) → IsWritable w → HasNoneAfter section (counts_in d)
      → entries_in section (counts_in d) ≢ 65535 → Holds d c → Holds (pushed_record section w d) (with_record section w c)
  pub cleared_holds : (d : Draft) (c : Contents) → Holds d c → Holds (cleared d) no_contents
  pub finished_reads : (d : Draft) (c : Contents) → Holds d c → FinishedReads d c
