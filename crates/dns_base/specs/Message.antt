-- A message, as RFC 1035 4.1 has it: a header of twelve octets, then questions, and three lists of records.
use Rattle.std.specs.Prelude.{ℕ, zero, suc, ◌+◌, List, [], ◌∷◌, length, take, Option, Some, None, Result, Ok, Err, option_and_then, option_map, slice_range, nat_le, ◌==◌, ◌||◌, ◌&&◌, ◌%◌, not, Bool, true, false, slice_index, nat_lt, if◌then◌else◌}
use Rattle.std.specs.Option.{option_map_or}
use Rattle.dns_values.specs.declared.error.ParseError.{ParseError}
use Rattle.dns_base.specs.Numbers.{u16_at, u32_at, ◌>>=◌}
use Rattle.dns_base.specs.Data.{Data, data_at}
use Rattle.dns_base.specs.Header.{Counts, counts_of}
use Rattle.dns_names.specs.Name.{Labels, Found, name_at}

pub record Asked : Type 0 where
  pub name : Labels
  pub rtype : ℕ
  pub class : ℕ

-- a record, with its data as octets
pub record Entry : Type 0 where
  pub owner : Labels
  pub rtype : ℕ
  pub class : ℕ
  pub ttl : ℕ
  pub octets : List ℕ

-- a record, with what its data says
pub record Written : Type 0 where
  pub owner : Labels
  pub rtype : ℕ
  pub class : ℕ
  pub ttl : ℕ
  pub content : Data

-- a record, and what its data says, if it is read
pub record Known : Type 0 where
  pub entry : Entry
  pub says : Option Data

-- a question at a place, and where the octets after it stand
unfoldable pub question_at : List ℕ → ℕ → Option (Asked × ℕ)
question_at octets at = do
  name ← name_at octets at
  if nat_le (name.end + 4) (length octets)
      then Some (record { name = name.labels; rtype = u16_at octets name.end; class = u16_at octets (name.end + 2) }, name.end + 4)
      else None

unfoldable pub record_at : List ℕ → ℕ → Option (Known × ℕ)
record_at octets at = do
  owner ← name_at octets at
  if nat_le (owner.end + 10) (length octets) then record_from octets owner (owner.end + 10) (owner.end + 10 + u16_at octets (owner.end + 8)) else None
  where
    record_from : List ℕ → Found → ℕ → ℕ → Option (Known × ℕ)
    record_from octets owner at end =
        if nat_le end (length octets) then Some (
          record {
            entry = record {
              owner = owner.labels;
              rtype = u16_at octets owner.end;
              class = u16_at octets (owner.end + 2);
              ttl = u32_at octets (owner.end + 4);
              octets = slice_range octets at end;
            };
            says = data_at (u16_at octets owner.end) octets at end;
          },
          end,
        )
        else None

-- so many of them, one behind the other
unfoldable pub list_at : {A : Type 0} → (ℕ → Option (A × ℕ)) → ℕ → ℕ → Option (List A × ℕ)
list_at one zero at = Some ([], at)
list_at one (suc n) at = do
  first ← one at
  others ← list_at one n first.1
  Some (first.0 ∷ others.0, others.1)

-- what a reader of them meets: each that is read, and an error in the place of the first that is not
abbrev pub item_then : {A : Type 0} → (ℕ → List (Result A ParseError)) → Option (A × ℕ) → List (Result A ParseError)
item_then others None = Err (record {}) ∷ []
item_then others (Some (x, end)) = Ok x ∷ others end

unfoldable pub items_at : {A : Type 0} → (ℕ → Option (A × ℕ)) → ℕ → ℕ → List (Result A ParseError)
items_at one zero at = []
items_at one (suc n) at = item_then (λ end. items_at one n end) (one at)

-- the first four octets, where the id and the flags stand
abbrev pub header_of : List ℕ → List ℕ
header_of octets = take 4 octets

pub record Reading : Type 0 where
  pub header : List ℕ
  pub counts : Counts
  pub questions : List Asked
  pub answer : List Known
  pub authority : List Known
  pub additional : List Known

-- where the sections begin: a list and the place behind it
unfoldable pub questions_of : List ℕ → Option (List Asked × ℕ)
questions_of octets = list_at (question_at octets) (u16_at octets 4) 12

unfoldable pub answer_of : List ℕ → Option (List Known × ℕ)
answer_of octets = questions_of octets >>= λ before. list_at (record_at octets) (u16_at octets 6) before.1

unfoldable pub authority_of : List ℕ → Option (List Known × ℕ)
authority_of octets = answer_of octets >>= λ before. list_at (record_at octets) (u16_at octets 8) before.1

unfoldable pub additional_of : List ℕ → Option (List Known × ℕ)
additional_of octets = authority_of octets >>= λ before. list_at (record_at octets) (u16_at octets 10) before.1

-- what a message says, or nothing
unfoldable pub reads : List ℕ → Option Reading
reads octets = if nat_lt (length octets) 12 then None else do
  questions ← questions_of octets
  answer ← answer_of octets
  authority ← authority_of octets
  additional ← additional_of octets
  Some (record {
    header = header_of octets;
    counts = counts_of octets;
    questions = questions.0;
    answer = answer.0;
    authority = authority.0;
    additional = additional.0;
  })

-- the records of the answer section
abbrev pub answer_records : List ℕ → Option (List Known)
answer_records octets = option_map (λ found. found.0) (answer_of octets)

-- what a reader of a section meets, where the sections before it are read
abbrev pub items_behind : {A : Type 0} → List ℕ → ℕ → Option (List A × ℕ) → Option (List (Result Known ParseError))
items_behind octets count before = option_map (λ found. items_at (record_at octets) count found.1) before

unfoldable pub answer_items : List ℕ → Option (List (Result Known ParseError))
answer_items octets = items_behind octets (u16_at octets 6) (questions_of octets)

unfoldable pub authority_items : List ℕ → Option (List (Result Known ParseError))
authority_items octets = items_behind octets (u16_at octets 8) (answer_of octets)

unfoldable pub additional_items : List ℕ → Option (List (Result Known ParseError))
additional_items octets = items_behind octets (u16_at octets 10) (authority_of octets)

-- the first question
unfoldable pub first_question : List ℕ → Option Asked
first_question octets = if u16_at octets 4 == 0 then None else option_map (λ x. x.0) (question_at octets 12)

-- the one question
unfoldable pub sole_question : List ℕ → Option Asked
sole_question octets = if u16_at octets 4 == 1 then option_map (λ x. x.0) (question_at octets 12) else None

-- all of them, where each is read
abbrev pub all_read : {A : Type 0} → List (Result A ParseError) → Option (List A)
all_read [] = Some []
all_read (Ok x ∷ rs) = option_map (λ xs. x ∷ xs) (all_read rs)
all_read (Err e ∷ rs) = None

-- the first question asks for a zone transfer
unfoldable pub is_xfr : List ℕ → Bool
is_xfr octets = option_map_or (λ q. q.rtype == 252 || q.rtype == 251) (first_question octets) false
