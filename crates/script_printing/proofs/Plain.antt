-- Octets that stand in a line: ASCII, and no control.
use Rattle.std.proofs.Common.{◌≡◌, ◌<◌, ◌-◌, ◌^◌, ◌==◌, ℕ, suc, zero, Bool, true, false, ◌&&◌, nat_lt, List, [], ◌∷◌, ◌++◌, length, take, slice_index, refl, ap, ◌∙◌, arith, append_assoc, decimal, IsAscii, IsUtf8}
use Rattle.std.specs.Char.{digit_char}
use Rattle.std.specs.List.{AllByRecursion, flat_map, join_with_byte}
use Rattle.std.specs.Str.Lines.{lines, strip_carriage_return}
use Rattle.std.proofs.lemmas.Bool.{and_parts, cases_lt, cond-false, le-ltb, lt-ltb, ltb-true, ne_eqb}
use Rattle.std.proofs.lemmas.Fmt.{IsAscii-decimal}
use Rattle.std.proofs.lemmas.Str.{IsUtf8-from_ascii}
use Rattle.std.proofs.Common.{inl, inr}
use Rattle.dns_script.specs.TextLaws.{AreOctets}
use Rattle.dns_script.specs.Reading.{parts}
use Rattle.dns_script.specs.Words.{hex_word, octet_digits}
use Rattle.dns_script.proofs.Decimals.{decimal_is_word}
use Rattle.dns_script.proofs.Joined.{IsAbove, parts_at}
use Rattle.dns_script.proofs.Parts.{lines_more}
use Rattle.script_printing.specs.Texts.{ended}

-- each octet is one of a line
abbrev pub IsPlain : List ℕ → Type 0
IsPlain octets = AllByRecursion (λ octet. (31 < octet) × (octet < 128)) octets

-- each octet is one of a word
abbrev pub IsWord : List ℕ → Type 0
IsWord octets = AllByRecursion (λ octet. (32 < octet) × (octet < 128)) octets

abbrev pub AreWords : List (List ℕ) → Type 0
AreWords words = AllByRecursion IsWord words

-- a test for the words that are written out
abbrev pub is_word_text : List ℕ → Bool
is_word_text [] = true
is_word_text (octet ∷ octets) = (nat_lt 32 octet && nat_lt octet 128) && is_word_text octets

pub word_text : (word : List ℕ) → is_word_text word ≡ true → IsWord word
word_text [] e = tt
word_text (octet ∷ octets) e =
    let both = and_parts (nat_lt 32 octet && nat_lt octet 128) (is_word_text octets) e in
    let range = and_parts (nat_lt 32 octet) (nat_lt octet 128) both.0 in
    ((ltb-true _ _ range.0, ltb-true _ _ range.1), word_text octets both.1)

-- the same for lines
abbrev pub is_plain_text : List ℕ → Bool
is_plain_text [] = true
is_plain_text (octet ∷ octets) = (nat_lt 31 octet && nat_lt octet 128) && is_plain_text octets

pub plain_text : (line : List ℕ) → is_plain_text line ≡ true → IsPlain line
plain_text [] e = tt
plain_text (octet ∷ octets) e =
    let both = and_parts (nat_lt 31 octet && nat_lt octet 128) (is_plain_text octets) e in
    let range = and_parts (nat_lt 31 octet) (nat_lt octet 128) both.0 in
    ((ltb-true _ _ range.0, ltb-true _ _ range.1), plain_text octets both.1)

pub word_plain : (word : List ℕ) → IsWord word → IsPlain word
word_plain [] h = tt
word_plain (o ∷ word) h = ((omega (arith, h.0.0), h.0.1), word_plain word h.1)

pub plain_append : (xs ys : List ℕ) → IsPlain xs → IsPlain ys → IsPlain (xs ++ ys)
plain_append [] ys h k = k
plain_append (x ∷ xs) ys h k = (h.0, plain_append xs ys h.1 k)

pub word_append : (xs ys : List ℕ) → IsWord xs → IsWord ys → IsWord (xs ++ ys)
word_append [] ys h k = k
word_append (x ∷ xs) ys h k = (h.0, word_append xs ys h.1 k)

pub word_above : (word : List ℕ) → IsWord word → IsAbove 32 word
word_above [] h = tt
word_above (o ∷ word) h = (h.0.0, word_above word h.1)

pub words_above : (words : List (List ℕ)) → AreWords words → AllByRecursion (IsAbove 32) words
words_above [] h = tt
words_above (word ∷ words) h = (word_above word h.0, words_above words h.1)

pub plain_above : (line : List ℕ) → IsPlain line → IsAbove 10 line
plain_above [] h = tt
plain_above (o ∷ line) h = (omega (arith, h.0.0), plain_above line h.1)

pub plain_ascii : (line : List ℕ) → IsPlain line → IsAscii line
plain_ascii [] h i = omega arith
plain_ascii (o ∷ line) h zero = h.0.1
plain_ascii (o ∷ line) h (suc i) = plain_ascii line h.1 i

pub plain_utf8 : (line : List ℕ) → IsPlain line → IsUtf8 line
plain_utf8 line h = IsUtf8-from_ascii line (plain_ascii line h)

no_return : (line : List ℕ) (k : ℕ) → IsPlain line → (slice_index line k == 13) ≡ false
no_return [] k h = refl
no_return (o ∷ line) zero h = ne_eqb o 13 (λ e. absurd (omega (arith, h.0.0, e)))
no_return (o ∷ line) (suc k) h = no_return line k h.1

plain_stripped : (line : List ℕ) → IsPlain line → strip_carriage_return line ≡ line
plain_stripped line h = cond-false (slice_index line (length line - 1) == 13) (take (length line - 1) line) line (no_return line (length line - 1) h)

-- a text of plain lines, each with its line feed, has these lines
pub lines_of_text : (ls : List (List ℕ)) → AllByRecursion IsPlain ls → lines (flat_map ended ls) ≡ ls
lines_of_text [] h = refl
lines_of_text (l ∷ ls) h =
    lines_more (flat_map ended (l ∷ ls)) l (flat_map ended ls) (ap (λ t. parts 10 t) (append_assoc l (10 ∷ []) (flat_map ended ls)) ∙ parts_at 10 l (flat_map ended ls) (plain_above l h.0))
    ∙ ap (λ x. x ∷ lines (flat_map ended ls)) (plain_stripped l h.0)
    ∙ ap (λ t. l ∷ t) (lines_of_text ls h.1)

pub joined_plain : (words : List (List ℕ)) → AreWords words → IsPlain (join_with_byte 32 words)
joined_plain [] h = tt
joined_plain (word ∷ []) h = word_plain word h.0
joined_plain (word ∷ next ∷ words) h = plain_append word (32 ∷ join_with_byte 32 (next ∷ words)) (word_plain word h.0) ((omega arith, omega arith), joined_plain (next ∷ words) h.1)

word_of : (word : List ℕ) → IsAbove 32 word → IsAscii word → IsWord word
word_of [] a b = tt
word_of (o ∷ word) a b = ((a.0, b 0), word_of word a.1 (λ i. b (suc i)))

pub decimal_word : (n : ℕ) → n < 2 ^ 64 → IsWord (decimal n)
decimal_word n h = word_of (decimal n) (decimal_is_word n h) (IsAscii-decimal n h)

digit_fits : (v : ℕ) → v < 16 → (32 < digit_char v) × (digit_char v < 128)
digit_fits v h = elim (cases_lt v 10) [
  | inl lt ↦ rw (lt-ltb v 10 lt) (omega arith, omega arith)
  | inr le ↦ rw (le-ltb v 10 le) (omega arith, omega arith)
]

digits_word : (octets : List ℕ) → AreOctets octets → IsWord (flat_map octet_digits octets)
digits_word [] h = tt
digits_word (o ∷ octets) h = let small = h.0 in (digit_fits _ (omega arith), (digit_fits _ (omega arith), digits_word octets h.1))

pub hex_is_plain_word : (octets : List ℕ) → AreOctets octets → IsWord (hex_word octets)
hex_is_plain_word [] h = ((omega arith, omega arith), tt)
hex_is_plain_word (o ∷ octets) h = digits_word (o ∷ octets) h
