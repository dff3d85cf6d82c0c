-- What a number prints is read as that number.
use Rattle.std.proofs.Common.{◌≡◌, ◌<◌, ◌≤◌, ◌==◌, ◌&&◌, ℕ, Bool, true, false, if◌then◌else◌, nat_le, List, [], ◌∷◌, ◌++◌, length, take, codes, decimal, Option, Some, None, unwrap_or, refl, sym, ap, ◌∙◌, arith, subst, IfSome}
use Rattle.std.specs.Str.{bytes_eq, str_eq_ignore_ascii_case, str_to_ascii_lowercase}
use Rattle.std.proofs.Math.Seq.{take-append_seam, drop-append_seam}
use Rattle.std.proofs.lemmas.Bool.{and_parts, and_from, eq-eqb, eqb-true, leb-true, le-leb}
use Rattle.std.proofs.lemmas.List.{length-append}
use Rattle.std.proofs.lemmas.Option.{none-some, same_Some}
use Rattle.dns_values.proofs.Decimals.{decimal_is_read}
use Rattle.dns_values.specs.NumberNames.{type_names, class_names, opcode_names, rcode_names, extended_rcode_names, name_of, number_of, are_within, begins_with, number_of_text, text_of_number, NumberNameLaws}

same_octets : (xs : List ℕ) → bytes_eq xs xs ≡ true
same_octets [] = refl
same_octets (x ∷ xs) = and_from (x == x) (bytes_eq xs xs) (eq-eqb x x refl) (same_octets xs)

begins : (word text : List ℕ) → begins_with word (word ++ text) ≡ true
begins word text =
    and_from (nat_le (length word) (length (word ++ text))) (str_eq_ignore_ascii_case (take (length word) (word ++ text)) word)
    (le-leb _ _ (omega (arith, length-append word text)))
    (rw (take-append_seam word text) (same_octets (str_to_ascii_lowercase word)))

-- a number behind the word
pub numbered_is_read : (names : List (ℕ × List ℕ)) (word : List ℕ) (greatest n : ℕ) → greatest < 65536 → n ≤ greatest → number_of_text names word greatest (word ++ decimal n) ≡ Some n
unfolding number_of_text
numbered_is_read names word greatest n wide fits =
    rw (begins word (decimal n), drop-append_seam word (decimal n)) (decimal_is_read greatest n (omega arith) fits)

abbrev is_that : Option ℕ → ℕ → Bool
is_that None n = false
is_that (Some m) n = m == n

that_one : (o : Option ℕ) (n : ℕ) → is_that o n ≡ true → o ≡ Some n
that_one None n e = absurd (cc)
that_one (Some m) n e = ap Some (eqb-true m n e)

-- whether each name is read as its number
abbrev are_read : List (ℕ × List ℕ) → List ℕ → ℕ → List (ℕ × List ℕ) → Bool
are_read names word greatest [] = true
are_read names word greatest (entry ∷ entries) = is_that (number_of_text names word greatest entry.1) entry.0 && are_read names word greatest entries

at_entry : (names : List (ℕ × List ℕ)) (word : List ℕ) (greatest n m : ℕ) (name text : List ℕ) (others : Option (List ℕ)) (b : Bool) → (m == n) ≡ b → number_of_text names word greatest name ≡ Some m → (others ≡ Some text → number_of_text names word greatest text ≡ Some n) → (if b then Some name else others) ≡ Some text → number_of_text names word greatest text ≡ Some n
at_entry names word greatest n m name text others true same here later found =
    let e : name ≡ text = same_Some _ _ found in
    subst (λ (t : List ℕ). number_of_text names word greatest t ≡ Some n) e (here ∙ ap Some (eqb-true m n same))
at_entry names word greatest n m name text others false same here later found = later found

named_is_read : (names : List (ℕ × List ℕ)) (word : List ℕ) (greatest : ℕ) (entries : List (ℕ × List ℕ)) (n : ℕ) (text : List ℕ) → are_read names word greatest entries ≡ true → name_of entries n ≡ Some text → number_of_text names word greatest text ≡ Some n
named_is_read names word greatest [] n text all e = absurd (none-some _ e)
named_is_read names word greatest (entry ∷ entries) n text all e =
    let both = and_parts (is_that (number_of_text names word greatest entry.1) entry.0) (are_read names word greatest entries) all in
    let here = that_one (number_of_text names word greatest entry.1) entry.0 both.0 in
    at_entry names word greatest n entry.0 entry.1 text (name_of entries n) (entry.0 == n) refl here (named_is_read names word greatest entries n text both.1) e

printed_by : (names : List (ℕ × List ℕ)) (word : List ℕ) (greatest n : ℕ) (o : Option (List ℕ)) → are_read names word greatest names ≡ true → greatest < 65536 → n ≤ greatest → name_of names n ≡ o → number_of_text names word greatest (unwrap_or o (word ++ decimal n)) ≡ Some n
printed_by names word greatest n None all wide fits e = numbered_is_read names word greatest n wide fits
printed_by names word greatest n (Some text) all wide fits e = named_is_read names word greatest names n text all e

pub printed_is_read : (names : List (ℕ × List ℕ)) (word : List ℕ) (greatest n : ℕ) → are_read names word greatest names ≡ true → greatest < 65536 → n ≤ greatest → number_of_text names word greatest (text_of_number names word n) ≡ Some n
unfolding text_of_number
printed_is_read names word greatest n all wide fits = printed_by names word greatest n (name_of names n) all wide fits refl

types_are_read : are_read type_names (codes "TYPE") 65535 type_names ≡ true
unfolding type_names number_of_text
types_are_read = refl

classes_are_read : are_read class_names (codes "CLASS") 65535 class_names ≡ true
unfolding class_names number_of_text
classes_are_read = refl

opcodes_are_read : are_read opcode_names (codes "OPCODE") 15 opcode_names ≡ true
unfolding opcode_names number_of_text
opcodes_are_read = refl

rcodes_are_read : are_read rcode_names (codes "RCODE") 15 rcode_names ≡ true
unfolding rcode_names number_of_text
rcodes_are_read = refl

extended_rcodes_are_read : are_read extended_rcode_names (codes "RCODE") 4095 extended_rcode_names ≡ true
unfolding extended_rcode_names number_of_text
extended_rcodes_are_read = refl

pub number_names : NumberNameLaws
number_names = record {
  types = λ n h. printed_is_read type_names (codes "TYPE") 65535 n types_are_read (omega arith) (omega (arith, h));
  numbered_types = λ n h. numbered_is_read type_names (codes "TYPE") 65535 n (omega arith) (omega (arith, h));
  classes = λ n h. printed_is_read class_names (codes "CLASS") 65535 n classes_are_read (omega arith) (omega (arith, h));
  numbered_classes = λ n h. numbered_is_read class_names (codes "CLASS") 65535 n (omega arith) (omega (arith, h));
  opcodes = λ n h. printed_is_read opcode_names (codes "OPCODE") 15 n opcodes_are_read (omega arith) (omega (arith, h));
  rcodes = λ n h. printed_is_read rcode_names (codes "RCODE") 15 n rcodes_are_read (omega arith) (omega (arith, h));
  extended_rcodes = λ n h. printed_is_read extended_rcode_names (codes "RCODE") 4095 n extended_rcodes_are_read (omega arith) (omega (arith, h));
}

entry_within : (greatest m n : ℕ) (others : Option ℕ) (b : Bool) → m ≤ greatest → (others ≡ Some n → n ≤ greatest) → (if b then Some m else others) ≡ Some n → n ≤ greatest
entry_within greatest m n others true small later e = let same : m ≡ n = same_Some _ _ e in omega arith
entry_within greatest m n others false small later e = later e

named_within : (greatest n : ℕ) (names : List (ℕ × List ℕ)) (text : List ℕ) → are_within greatest names ≡ true → number_of names text ≡ Some n → n ≤ greatest
named_within greatest n [] text all e = absurd (none-some _ e)
named_within greatest n (entry ∷ entries) text all e =
    let both = and_parts (nat_le entry.0 greatest) (are_within greatest entries) all in
    entry_within greatest entry.0 n (number_of entries text) (str_eq_ignore_ascii_case entry.1 text) (leb-true _ _ both.0) (named_within greatest n entries text both.1) e

pub name_within : (greatest : ℕ) (names : List (ℕ × List ℕ)) (text : List ℕ) (r : Option ℕ) → are_within greatest names ≡ true → r ≡ number_of names text → IfSome r (λ n. n ≤ greatest)
name_within greatest names text None all e = tt
name_within greatest names text (Some n) all e = named_within greatest n names text all (sym e)
