-- Words without blanks, and digits without semicolons.
use Rattle.std.proofs.Common.{◌≡◌, ◌<◌, ◌≤◌, ◌^◌, ℕ, ◌+◌, ◌/◌, ◌%◌, List, [], ◌∷◌, ◌++◌, Bool, true, false, refl, arith, decimal}
use Rattle.std.specs.Prelude.{◌==◌, ◌&&◌, nat_lt, nat_le, codes, unwrap_or}
use Rattle.std.specs.List.{AllByRecursion, flat_map, list_all}
use Rattle.std.specs.Char.{is_ascii_digit}
use Rattle.std.specs.Str.{all_ascii_digits}
use Rattle.std.proofs.lemmas.Bool.{eqb-true, leb-true, lt-leb, lt-ltb, ltb-true, ltb-false}
use Rattle.dns_values.specs.NumberNames.{class_names, class_text, name_of, text_of_number, type_names, type_text}
use Rattle.dns_names.specs.Name.{AreOctets, Labels}
use Rattle.dns_presentation.specs.Names.{absolute_text, ended_label, is_plain, name_octet}
use Rattle.dns_presentation.specs.Octets.{hex_digit, hex_text, numbered_octet}
use Rattle.zone_text.specs.Lines.{is_rare, type_word}
use Rattle.zone_text.proofs.Lacking.{Lacks, decimal_digits, lacks_more, not_octet}

-- each octet is above the blank
abbrev pub is_above : List ℕ → Bool
is_above text = list_all (λ c. nat_lt 32 c) text

both : (a b : Bool) → (a && b) ≡ true → (a ≡ true) × (b ≡ true)
both true true e = (refl, refl)
both true false e = absurd cc
both false b e = absurd cc

pub above_append : (a b : List ℕ) → is_above a ≡ true → is_above b ≡ true → is_above (a ++ b) ≡ true
above_append [] b f g = g
above_append (c ∷ a) b f g = let parts = both (nat_lt 32 c) (is_above a) f in rw (parts.0, above_append a b parts.1 g) refl

pub above_more : (c : ℕ) (text : List ℕ) → 32 < c → is_above text ≡ true → is_above (c ∷ text) ≡ true
above_more c text h f = rw (lt-ltb 32 c h, f) refl

pub above_lacks : (o : ℕ) (text : List ℕ) → o ≤ 32 → is_above text ≡ true → Lacks o text
above_lacks o [] low f = refl
above_lacks o (c ∷ text) low f =
    let parts = both (nat_lt 32 c) (is_above text) f in
    let more : 32 < c = ltb-true 32 c parts.0 in
    lacks_more o c text (omega arith) (above_lacks o text low parts.1)

-- ---- numbers

digits_above : (digits : List ℕ) → all_ascii_digits digits ≡ true → is_above digits ≡ true
digits_above [] h = refl
digits_above (c ∷ digits) h =
    let parts = both (is_ascii_digit c) (all_ascii_digits digits) h in
    let inner = both (nat_le 48 c) (nat_le c 57) parts.0 in
    let low : 48 ≤ c = leb-true 48 c inner.0 in
    above_more c digits (omega arith) (digits_above digits parts.1)

pub decimal_above : (n : ℕ) → n < 2 ^ 64 → is_above (decimal n) ≡ true
decimal_above n h = digits_above (decimal n) (decimal_digits n h)

-- ---- names

pub below_octet : (c o : ℕ) → c < o → (c == o) ≡ false
below_octet c o h = go (c == o) refl
  where
    go : (t : Bool) → (c == o) ≡ t → (c == o) ≡ false
    go true e = let same : c ≡ o = eqb-true c o e in absurd (omega arith)
    go false e = e

plain_above : (n : ℕ) → is_plain n ≡ true → 32 < n
plain_above n e = go (nat_lt 32 n) refl
  where
    go : (t : Bool) → nat_lt 32 n ≡ t → 32 < n
    go true f = ltb-true 32 n f
    go false f =
        let low : n ≤ 32 = ltb-false 32 n f in
        let a : n < 97 = omega arith in
        let b : n < 65 = omega arith in
        let c : n < 48 = omega arith in
        let p : n < 45 = omega arith in
        let q : n < 95 = omega arith in
        let r : n < 42 = omega arith in
        let s : n < 47 = omega arith in
        let no : is_plain n ≡ false = rw (lt-leb 97 n a, lt-leb 65 n b, lt-leb 48 n c, below_octet n 45 p, below_octet n 95 q, below_octet n 42 r, below_octet n 47 s) refl in
        absurd cc

pub numbered_above : (n : ℕ) → n < 256 → is_above (numbered_octet n) ≡ true
numbered_above n h =
    let a : n / 100 < 2 ^ 64 = omega arith in
    let b : n / 10 % 10 < 2 ^ 64 = omega arith in
    let c : n % 10 < 2 ^ 64 = omega arith in
    above_append (92 ∷ decimal (n / 100) ++ decimal (n / 10 % 10)) (decimal (n % 10)) (above_append (92 ∷ decimal (n / 100)) (decimal (n / 10 % 10)) (decimal_above (n / 100) a) (decimal_above (n / 10 % 10) b)) (decimal_above (n % 10) c)

octet_above : (n : ℕ) → n < 256 → is_above (name_octet n) ≡ true
octet_above n h = go (is_plain n) (n == 35) (nat_le 33 n && nat_le n 126) refl refl refl
  where
    go : (b c d : Bool) → is_plain n ≡ b → (n == 35) ≡ c → (nat_le 33 n && nat_le n 126) ≡ d → is_above (name_octet n) ≡ true
    go true c d e g k = rw e (above_more n [] (plain_above n e) refl)
    go false true d e g k = rw (e, g) (numbered_above n h)
    go false false true e g k =
        let low : 33 ≤ n = leb-true 33 n (both (nat_le 33 n) (nat_le n 126) k).0 in
        rw (e, g, k) (above_more n [] (omega arith) refl)
    go false false false e g k = rw (e, g, k) (numbered_above n h)

label_above : (label : List ℕ) → AllByRecursion (λ n. n < 2 ^ 8) label → is_above (flat_map name_octet label) ≡ true
label_above [] h = refl
label_above (n ∷ label) h = above_append (name_octet n) (flat_map name_octet label) (octet_above n h.0) (label_above label h.1)

labels_above : (labels : Labels) → AreOctets labels → is_above (flat_map ended_label labels) ≡ true
labels_above [] h = refl
labels_above (label ∷ labels) h = above_append (ended_label label) (flat_map ended_label labels) (above_append (flat_map name_octet label) (46 ∷ []) (label_above label h.0) refl) (labels_above labels h.1)

pub name_above : (labels : Labels) → AreOctets labels → is_above (absolute_text labels) ≡ true
name_above [] h = refl
name_above (label ∷ labels) h = labels_above (label ∷ labels) h

-- ---- names of classes and types

abbrev are_above : List (ℕ × List ℕ) → Bool
are_above names = list_all (λ (entry : ℕ × List ℕ). is_above entry.1) names

named_above : (names : List (ℕ × List ℕ)) (n : ℕ) (other : List ℕ) → are_above names ≡ true → is_above other ≡ true → is_above (unwrap_or (name_of names n) other) ≡ true
named_above [] n other h f = f
named_above (entry ∷ names) n other h f = go (entry.0 == n) refl (named_above names n other (both (is_above entry.1) (are_above names) h).1 f)
  where
    go : (b : Bool) → (entry.0 == n) ≡ b → is_above (unwrap_or (name_of names n) other) ≡ true → is_above (unwrap_or (name_of (entry ∷ names) n) other) ≡ true
    go true e more = rw e (both (is_above entry.1) (are_above names) h).0
    go false e more = rw e more

classes_above : are_above class_names ≡ true
unfolding class_names
classes_above = refl

types_above : are_above type_names ≡ true
unfolding type_names
types_above = refl

pub class_above : (n : ℕ) → n < 2 ^ 16 → is_above (class_text n) ≡ true
unfolding text_of_number
class_above n h = let few : n < 2 ^ 64 = omega arith in named_above class_names n (codes "CLASS" ++ decimal n) classes_above (above_append (codes "CLASS") (decimal n) refl (decimal_above n few))

type_above : (n : ℕ) → n < 2 ^ 16 → is_above (type_text n) ≡ true
unfolding text_of_number
type_above n h = let few : n < 2 ^ 64 = omega arith in named_above type_names n (codes "TYPE" ++ decimal n) types_above (above_append (codes "TYPE") (decimal n) refl (decimal_above n few))

pub word_above : (n : ℕ) → n < 2 ^ 16 → is_above (type_word n) ≡ true
word_above n h = go (is_rare n) refl
  where
    go : (b : Bool) → is_rare n ≡ b → is_above (type_word n) ≡ true
    go true e = let few : n < 2 ^ 64 = omega arith in rw e (above_append (codes "TYPE") (decimal n) refl (decimal_above n few))
    go false e = rw e (type_above n h)

-- ---- digits

digit_is_other : (d : ℕ) → (hex_digit d == 59) ≡ false
digit_is_other d = go (nat_lt d 10) refl
  where
    go : (t : Bool) → nat_lt d 10 ≡ t → (hex_digit d == 59) ≡ false
    go true e = let few : d < 10 = ltb-true d 10 e in let low : 48 + d < 59 = omega arith in rw e (below_octet (48 + d) 59 low)
    go false e = let many : 10 ≤ d = ltb-false d 10 e in let high : 59 < 55 + d = omega arith in rw e (not_octet (55 + d) 59 high)

pub hex_lacks_semicolon : (octets : List ℕ) → Lacks 59 (hex_text octets)
hex_lacks_semicolon [] = refl
hex_lacks_semicolon (n ∷ octets) = rw (digit_is_other (n / 16), digit_is_other (n % 16)) (hex_lacks_semicolon octets)
