-- Words without blanks, joined by single blanks, are parted into the same words, and lines without line feeds into the same lines.
use Rattle.std.proofs.Common.{◌≡◌, ◌<◌, ℕ, List, [], ◌∷◌, ◌++◌, Bool, ◌&&◌, nat_lt, eqb, true, refl, ap, ◌∙◌, arith, append_assoc}
use Rattle.std.specs.List.{AllByRecursion, flat_map, join_with_byte, onto_first}
use Rattle.std.proofs.lemmas.Bool.{and_parts, eq-eqb, ne_eqb, cond-true, cond-false, ltb-true}
use Rattle.dns_script.specs.Reading.{parts, words_of}

-- each octet is above a number
abbrev pub IsAbove : ℕ → List ℕ → Type 0
IsAbove s octets = AllByRecursion (λ octet. s < octet) octets

-- a word has neither blanks nor line feeds
abbrev pub AreWords : List (List ℕ) → Type 0
AreWords words = AllByRecursion (IsAbove 32) words

-- a test for the words that are written out
abbrev pub has_no_blank : List ℕ → Bool
has_no_blank [] = true
has_no_blank (octet ∷ octets) = nat_lt 32 octet && has_no_blank octets

pub is_word : (word : List ℕ) → has_no_blank word ≡ true → IsAbove 32 word
is_word [] e = tt
is_word (octet ∷ octets) e = let both = and_parts (nat_lt 32 octet) (has_no_blank octets) e in (ltb-true _ _ both.0, is_word octets both.1)

pub parts_at : (s : ℕ) (part rest : List ℕ) → IsAbove s part → parts s (part ++ s ∷ rest) ≡ part ∷ parts s rest
parts_at s [] rest all = cond-true (eqb s s) ([] ∷ parts s rest) _ (eq-eqb s s refl)
parts_at s (o ∷ part) rest all =
    cond-false (eqb o s) ([] ∷ parts s (part ++ s ∷ rest)) _ (ne_eqb o s (λ e. absurd (omega (arith, all.0, e)))) ∙ ap (onto_first o) (parts_at s part rest all.1)

pub parts_alone : (s : ℕ) (part : List ℕ) → IsAbove s part → parts s part ≡ part ∷ []
parts_alone s [] all = refl
parts_alone s (o ∷ part) all =
    cond-false (eqb o s) ([] ∷ parts s part) _ (ne_eqb o s (λ e. absurd (omega (arith, all.0, e)))) ∙ ap (onto_first o) (parts_alone s part all.1)

pub words_of_joined : (word : List ℕ) (words : List (List ℕ)) → AreWords (word ∷ words) → words_of (join_with_byte 32 (word ∷ words)) ≡ word ∷ words
words_of_joined word [] all = parts_alone 32 word all.0
words_of_joined word (next ∷ words) all = parts_at 32 word (join_with_byte 32 (next ∷ words)) all.0 ∙ ap (λ ws. word ∷ ws) (words_of_joined next words all.1)

above_joined : (xs ys : List ℕ) → IsAbove 32 xs → IsAbove 10 ys → IsAbove 10 (xs ++ ys)
above_joined [] ys a b = b
above_joined (x ∷ xs) ys a b = (omega (arith, a.0), above_joined xs ys a.1 b)

above_ten : (xs : List ℕ) → IsAbove 32 xs → IsAbove 10 xs
above_ten [] a = tt
above_ten (x ∷ xs) a = (omega (arith, a.0), above_ten xs a.1)

-- words that are joined have no line feed
pub joined_is_line : (words : List (List ℕ)) → AreWords words → IsAbove 10 (join_with_byte 32 words)
joined_is_line [] all = tt
joined_is_line (word ∷ []) all = above_ten word all.0
joined_is_line (word ∷ next ∷ words) all = above_joined word (32 ∷ join_with_byte 32 (next ∷ words)) all.0 (omega arith, joined_is_line (next ∷ words) all.1)

-- lines, each with its line feed
abbrev pub ended : List ℕ → List ℕ
ended l = l ++ 10 ∷ []

pub parts_of_ended : (lines : List (List ℕ)) → AllByRecursion (IsAbove 10) lines → parts 10 (flat_map ended lines) ≡ lines ++ [] ∷ []
parts_of_ended [] all = refl
parts_of_ended (l ∷ lines) all =
    ap (parts 10) (append_assoc l (10 ∷ []) (flat_map ended lines)) ∙ parts_at 10 l (flat_map ended lines) all.0 ∙ ap (λ ls. l ∷ ls) (parts_of_ended lines all.1)
