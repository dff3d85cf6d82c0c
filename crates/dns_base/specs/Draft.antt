-- A message that is being written. Other crates cite these functions and their laws, and look into none of them.
use Rattle.std.specs.Prelude.{◌≡◌, ℕ, ◌+◌, ◌≤◌, List, [], ◌∷◌, ◌++◌, length, take, drop, replicate, Option, Some, None, Result, Ok, Err, nat_lt, ◌==◌, Bool, false, if◌then◌else◌}
use Rattle.dns_values.specs.declared.numbers.Section.{Section}
use Rattle.dns_base.specs.declared.push_error.PushError.{PushError}
use Rattle.dns_base.specs.declared.push_error.PushError.TheVariants.{Count, Limit, NoMemory}
use Rattle.dns_names.specs.Name.{octet_count}
use Rattle.dns_base.specs.Header.{Counts}
use Rattle.dns_base.specs.Sections.{no_entries, one_question_more, entries_in, one_more_in, counts_spelling}
use Rattle.dns_base.specs.Data.{data_size}
use Rattle.dns_base.specs.Message.{Asked, Written}
use Rattle.dns_base.specs.Compression.{Compressed, with_question, with_record}

-- what is written so far, what each section has, and the most octets that it may have
pub record Draft : Type 0 where
  pub target : Compressed
  pub counts : Counts
  pub limit : Option ℕ

-- how many octets a question and a record have with their names spelled out
abbrev pub question_size : Asked → ℕ
question_size q = octet_count q.name + 4

abbrev pub record_size : Written → ℕ
record_size w = octet_count w.owner + 10 + data_size w.content

-- how many octets it has, and what may be asked of it
unfoldable pub size : Draft → ℕ
size d = length d.target.octets

unfoldable pub limit_of : Draft → Option ℕ
limit_of d = d.limit

unfoldable pub counts_in : Draft → Counts
counts_in d = d.counts

unfoldable pub fresh : Option ℕ → Draft
fresh limit = record { target = record { octets = replicate 12 0; places = [] }; counts = no_entries; limit = limit }

unfoldable pub with_header : List ℕ → Draft → Draft
with_header header d = record d { target = record d.target { octets = header ++ drop 4 d.target.octets } }

unfoldable pub pushed_question : Asked → Draft → Draft
pushed_question q d = record d { target = with_question q d.target; counts = one_question_more d.counts }

unfoldable pub pushed_record : Section → Written → Draft → Draft
pushed_record section w d = record d { target = with_record w d.target; counts = one_more_in section d.counts }

-- with no entry, and the header as it was
unfoldable pub cleared : Draft → Draft
cleared d = record d { target = record { octets = take 12 d.target.octets; places = [] }; counts = no_entries }

-- the octets of the message
unfoldable pub finished : Draft → List ℕ
finished d = take 4 d.target.octets ++ counts_spelling d.counts ++ drop 12 d.target.octets

-- so many octets would pass the limit
abbrev pub is_past : Option ℕ → ℕ → Bool
is_past None octets = false
is_past (Some limit) octets = nat_lt limit octets

abbrev pub IsWithin : Option ℕ → ℕ → Type 0
IsWithin None octets = Unit {0}
IsWithin (Some limit) octets = octets ≤ limit

-- with so many octets more it would pass its limit
abbrev pub passes : Draft → ℕ → Bool
passes d more = is_past (limit_of d) (size d + more)

-- why so many octets more are refused, where so many entries stand: they are counted before any name is compressed
unfoldable pub refusal : ℕ → Draft → ℕ → Option PushError
refusal entries d more =
    if entries == 65535 then Some Count
    else if is_past d.limit (length d.target.octets + more) then Some Limit
    else None

abbrev pub question_refusal : Asked → Draft → Option PushError
question_refusal q d = refusal (counts_in d).questions d (question_size q)

abbrev pub record_refusal : Section → Written → Draft → Option PushError
record_refusal section w d = refusal (entries_in section (counts_in d)) d (record_size w)

-- A push answers this refusal. With none it is done, unless memory runs out.
abbrev pub Pushed : Option PushError → Result (Unit {0}) PushError → Type 0
Pushed (Some e) result = result ≡ Err e
Pushed None (Ok _) = Unit {0}
Pushed None (Err e) = e ≡ NoMemory
