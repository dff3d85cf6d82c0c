-- The message of a question.
use Rattle.std.specs.Prelude.{ℕ, List, [], ◌∷◌, ◌++◌, None}
use Rattle.std.specs.Int.{w16, to_be_bytes}
use Rattle.dns_names.specs.Name.{Labels, spelling}
use Rattle.dns_base.specs.Message.{Reading}
use Rattle.dns_base.specs.Draft.{finished, fresh, pushed_question, with_header}

-- the header: of the flags recursion desired alone (RFC 1035 4.1.1)
abbrev pub recursive : List ℕ
recursive = 0 ∷ 0 ∷ 1 ∷ 0 ∷ []

-- what a builder makes of a question of class IN
abbrev pub query_draft : Labels → ℕ → List ℕ
query_draft name rtype = finished (pushed_question (record { name = name; rtype = rtype; class = 1 }) (with_header recursive (fresh None)))

-- the octets: the header, a count of 1 and three of 0, the name spelled out, the type and the class
abbrev pub query_octets : Labels → ℕ → List ℕ
query_octets name rtype = recursive ++ (0 ∷ 1 ∷ 0 ∷ 0 ∷ 0 ∷ 0 ∷ 0 ∷ 0 ∷ []) ++ spelling name ++ to_be_bytes w16 rtype ++ to_be_bytes w16 1

-- what they say
abbrev pub query_reading : Labels → ℕ → Reading
query_reading name rtype = record {
  header = recursive;
  counts = record { questions = 1; answer = 0; authority = 0; additional = 0 };
  questions = record { name = name; rtype = rtype; class = 1 } ∷ [];
  answer = [];
  authority = [];
  additional = [];
}
