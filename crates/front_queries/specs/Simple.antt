-- Replies whose own octets are what is composed of them, but for their id and their OPT record.
use Rattle.std.specs.Prelude.{ℕ, zero, suc, ◌+◌, ◌-◌, ◌==◌, ◌&&◌, ◌||◌, not, nat_le, nat_lt, Bool, List, [], ◌++◌, length, Option, Some, None, is_some, option_map, option_and_then, slice_index, slice_range, if◌then◌else◌}
use Rattle.std.specs.Cmp.Lexicographic.{pointwise}
use Rattle.dns_names.specs.Name.{spelling}
use Rattle.dns_base.specs.Data.{is_one_name}
use Rattle.dns_base.specs.Forms.{form_of}
use Rattle.dns_base.specs.Header.{Counts, id_of, with_id}
use Rattle.dns_base.specs.Message.{header_of}
use Rattle.dns_base.specs.Numbers.{u16_at}
use Rattle.dns_base.specs.OptRecord.{OptFields}
use Rattle.dns_base.specs.Sections.{counts_spelling}
use Rattle.front_queries.specs.Answers.{opt_for}
use Rattle.front_queries.specs.Query.{Query}
use Rattle.front_queries.specs.Spelled.{opt_octets}
use Rattle.front_queries.specs.declared.simple.Simple.{Simple}

-- Data of this type is written as its octets stand: no name is looked for in it. An OPT record is not written.
abbrev pub is_copied : (rtype : ℕ) → Bool
is_copied rtype = not (is_one_name rtype || (rtype == 6 || (rtype == 14 || (rtype == 15 || (rtype == 33 || (rtype == 41 || is_some (form_of rtype)))))))

-- Fourteen bits of a pointer name the place of the question's name, at which its first two octets say so; the data is written as it stands.
abbrev pub is_of_question : List ℕ → ℕ → Bool
is_of_question octets at = (slice_index octets at == 192 && slice_index octets (at + 1) == 12) && is_copied (u16_at octets (at + 2))

abbrev pub if_within : List ℕ → ℕ → Option ℕ
if_within octets end = if nat_le end (length octets) then Some end else None

-- where the octets stand that follow such a record, if one stands at a place
unfoldable pub simple_end : List ℕ → ℕ → Option ℕ
simple_end octets at =
    if nat_le (at + 12) (length octets)
    then (if is_of_question octets at then if_within octets (at + 12 + u16_at octets (at + 10)) else None)
    else None

-- and those that follow so many of them
unfoldable pub simple_ends : List ℕ → (count at : ℕ) → Option ℕ
simple_ends octets zero at = Some at
simple_ends octets (suc n) at = option_and_then (simple_ends octets n) (simple_end octets at)

-- An OPT record of the root with neither options nor high bits of a response code.
abbrev pub is_plain_opt : List ℕ → ℕ → Bool
is_plain_opt octets at =
    nat_le (at + 11) (length octets)
    && ((slice_index octets at == 0 && u16_at octets (at + 1) == 41) && (slice_index octets (at + 5) == 0 && u16_at octets (at + 9) == 0))

abbrev pub simple : (end additional : ℕ) → Simple
simple end additional = record { end = end; additional = additional }

-- The last record of the additional section, which may be an OPT record.
abbrev pub last_of : List ℕ → (before at : ℕ) → Option Simple
last_of octets before at =
    if is_plain_opt octets at then Some (simple at before) else option_map (λ end. simple end (before + 1)) (simple_end octets at)

-- The records of the additional section from a place on.
abbrev pub additional_from : List ℕ → (count at : ℕ) → Option Simple
additional_from octets count at =
    if count == 0 then Some (simple at 0) else option_and_then (last_of octets (count - 1)) (simple_ends octets (count - 1) at)

-- where the records stand behind the question of a query
abbrev pub question_end : Query → ℕ
question_end q = 12 + length (spelling q.asked.name) + 4

-- The only question is that of the query, with its name as the query spells it. The root has no place that a pointer names.
abbrev pub asks_the_same : Query → List ℕ → Bool
asks_the_same q octets =
    (nat_lt 1 (length (spelling q.asked.name)) && u16_at octets 4 == 1)
    && (nat_le (question_end q) (length octets) && pointwise ◌==◌ (slice_range octets 12 (12 + length (spelling q.asked.name))) (spelling q.asked.name))

-- The records from a place on, in all three sections.
unfoldable pub records_from : List ℕ → ℕ → Option Simple
records_from octets at =
    option_and_then (λ answered. option_and_then (additional_from octets (u16_at octets 10)) (simple_ends octets (u16_at octets 8) answered)) (simple_ends octets (u16_at octets 6) at)

-- Each record of the reply is one of the question's name, but for an OPT record in the last place, and the additional section has room for one more.
unfoldable pub simple_of : Query → List ℕ → Option Simple
simple_of q octets = if asks_the_same q octets && nat_lt (u16_at octets 10) 65535 then records_from octets (question_end q) else None

-- how many OPT records there are, and their octets
abbrev pub opt_count : Option OptFields → ℕ
opt_count None = 0
opt_count (Some opt) = 1

abbrev pub octets_of_opt : Option OptFields → List ℕ
octets_of_opt None = []
octets_of_opt (Some opt) = opt_octets opt

-- one question, as many records as the reply has in its answer and authority sections, and so many in the additional section
abbrev pub counts_for : List ℕ → (additional : ℕ) → Counts
counts_for octets additional = record { questions = 1; answer = u16_at octets 6; authority = u16_at octets 8; additional = additional }

-- The octets of such a reply under the query's id, with this host's OPT record in place of its own.
unfoldable pub patched : Query → List ℕ → Simple → List ℕ
patched q octets s =
    with_id (id_of q.header) (header_of octets)
    ++ (counts_spelling (counts_for octets (s.additional + opt_count (opt_for q 0))) ++ (slice_range octets 12 s.end ++ octets_of_opt (opt_for q 0)))
