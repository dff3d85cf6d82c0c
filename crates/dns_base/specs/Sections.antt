-- The sections of a message, and how many entries each has.
use Rattle.std.specs.Prelude.{◌≡◌, ℕ, ◌+◌, List, ◌++◌}
use Rattle.std.specs.Int.{w16, to_be_bytes}
use Rattle.dns_values.specs.declared.numbers.Section.{Section}
use Rattle.dns_values.specs.declared.numbers.Section.TheVariants.{Answer, Authority, Additional}
use Rattle.dns_base.specs.Header.{Counts}

abbrev pub no_entries : Counts
no_entries = record { questions = 0; answer = 0; authority = 0; additional = 0 }

abbrev pub one_question_more : Counts → Counts
one_question_more counts = record counts { questions = counts.questions + 1 }

abbrev pub entries_in : Section → Counts → ℕ
entries_in Answer counts = counts.answer
entries_in Authority counts = counts.authority
entries_in Additional counts = counts.additional

abbrev pub one_more_in : Section → Counts → Counts
one_more_in Answer counts = record counts { answer = counts.answer + 1 }
one_more_in Authority counts = record counts { authority = counts.authority + 1 }
one_more_in Additional counts = record counts { additional = counts.additional + 1 }

-- no entry stands in a later section
abbrev pub HasNoRecords : Counts → Type 0
HasNoRecords counts = (counts.answer ≡ 0) × (counts.authority ≡ 0) × (counts.additional ≡ 0)

abbrev pub HasNoneAfter : Section → Counts → Type 0
HasNoneAfter Answer counts = (counts.authority ≡ 0) × (counts.additional ≡ 0)
HasNoneAfter Authority counts = counts.additional ≡ 0
HasNoneAfter Additional counts = Unit {0}

unfoldable pub counts_spelling : Counts → List ℕ
counts_spelling counts =
    to_be_bytes w16 counts.questions ++ to_be_bytes w16 counts.answer ++ to_be_bytes w16 counts.authority ++ to_be_bytes w16 counts.additional
