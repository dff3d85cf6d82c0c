-- Which messages answer a request.
use Rattle.std.specs.Prelude.{ℕ, List, [], ◌∷◌, Result, Ok, Err, ◌==◌, ◌||◌, ◌&&◌, not, Bool, true, false}
use Rattle.dns_values.specs.declared.error.ParseError.{ParseError}
use Rattle.dns_names.specs.Name.{same_name}
use Rattle.dns_base.specs.Numbers.{u16_at}
use Rattle.dns_base.specs.Header.{id_of, qr_of, tc_of, rcode_of}
use Rattle.dns_base.specs.Message.{Asked, question_at, items_at}

-- without case
abbrev pub same_asked : Asked → Asked → Bool
same_asked a b = same_name a.name b.name && (a.rtype == b.rtype && a.class == b.class)

-- both are read to their ends, and the same item by item
abbrev pub same_items : List (Result Asked ParseError) → List (Result Asked ParseError) → Bool
same_items [] [] = true
same_items (Ok x ∷ xs) (Ok y ∷ ys) = same_asked x y && same_items xs ys
same_items [] (y ∷ ys) = false
same_items (x ∷ xs) [] = false
same_items (Err e ∷ xs) (y ∷ ys) = false
same_items (Ok x ∷ xs) (Err e ∷ ys) = false

abbrev pub question_items : List ℕ → List (Result Asked ParseError)
question_items octets = items_at (question_at octets) (u16_at octets 4) 12

-- no entries in any section
abbrev pub is_bare : List ℕ → Bool
is_bare octets = u16_at octets 4 == 0 && (u16_at octets 6 == 0 && (u16_at octets 8 == 0 && u16_at octets 10 == 0))

-- an answer to a request with this id and these questions
unfoldable pub is_answer : ℕ → List ℕ → List ℕ → Bool
is_answer id base octets =
    qr_of octets && (id_of octets == id
    && ((not (rcode_of octets == 0) && is_bare octets)
    || (u16_at octets 4 == u16_at base 4 && same_items (question_items octets) (question_items base))))

-- what doesn't fit was left out
abbrev pub truncated : List ℕ → Bool
truncated octets = tc_of octets
