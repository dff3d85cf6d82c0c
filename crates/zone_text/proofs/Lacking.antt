-- Data on one line.
use Rattle.std.proofs.Common.{◌≡◌, ◌<◌, ◌≤◌, ◌^◌, ℕ, zero, suc, ◌+◌, ◌/◌, ◌%◌, List, [], ◌∷◌, ◌++◌, length, length-append, Bool, true, false, refl, ap, sym, ◌∙◌, arith, decimal}
use Rattle.std.specs.Prelude.{◌==◌, ◌&&◌, nat_lt, nat_le}
use Rattle.std.specs.List.{list_any}
use Rattle.std.specs.Char.{is_ascii_digit}
use Rattle.std.specs.Fmt.{digit_glyph, digits, digits_onto}
use Rattle.std.specs.Str.{all_ascii_digits}
use Rattle.std.proofs.lemmas.Bool.{eqb-true, leb-true}
use Rattle.std.proofs.lemmas.Fmt.{digits_decimal}
use Rattle.std.proofs.lemmas.Str.Parse.{IsNumeralModel, numerals_by_value, tells_all_ascii_digits}
use Rattle.std.specs.Str.Parse.{digits_value}
use Rattle.dns_presentation.specs.Generic.{digits_behind, generic_text}
use Rattle.dns_presentation.specs.Octets.{hex_digit, hex_text}
use Rattle.zone_text.specs.Lines.{has_feed, header}

pub long_enough : (octets owner a b c d rdata : List ℕ) → octets ≡ header ++ owner ++ a ++ b ++ c ++ d ++ rdata → length octets < 12 → ⊥
long_enough octets owner a b c d rdata is short =
    let e1 = length-append header owner in
    let e2 = length-append (header ++ owner) a in
    let e3 = length-append (header ++ owner ++ a) b in
    let e4 = length-append (header ++ owner ++ a ++ b) c in
    let e5 = length-append (header ++ owner ++ a ++ b ++ c) d in
    let e6 = length-append (header ++ owner ++ a ++ b ++ c ++ d) rdata in
    let whole = ap length is in
    omega (arith, e1, e2, e3, e4, e5, e6, whole)

-- ---- no line feed, and no other octet that a text lacks

-- a text has no such octet
abbrev pub Lacks : ℕ → List ℕ → Type 0
Lacks o text = list_any (λ c. c == o) text ≡ false

pub lacks_append : (o : ℕ) (a b : List ℕ) → Lacks o a → Lacks o b → Lacks o (a ++ b)
lacks_append o [] b f g = g
lacks_append o (c ∷ a) b f g = go (c == o) refl (λ rest. lacks_append o a b rest g)
  where
    go : (t : Bool) → (c == o) ≡ t → (Lacks o a → Lacks o (a ++ b)) → Lacks o ((c ∷ a) ++ b)
    go true e more = let bad : list_any (λ c. c == o) (c ∷ a) ≡ true = rw e refl in absurd cc
    go false e more =
        let rest : list_any (λ c. c == o) (c ∷ a) ≡ list_any (λ c. c == o) a = rw e refl in
        rw e (more (sym rest ∙ f))

pub not_octet : (c o : ℕ) → o < c → (c == o) ≡ false
not_octet c o h = go (c == o) refl
  where
    go : (t : Bool) → (c == o) ≡ t → (c == o) ≡ false
    go true e = let same : c ≡ o = eqb-true c o e in absurd (omega arith)
    go false e = e

-- an octet above another in front of what lacks that
pub lacks_more : (o c : ℕ) (text : List ℕ) → o < c → Lacks o text → Lacks o (c ∷ text)
lacks_more o c text h f = rw (not_octet c o h) f

digit_above : (d : ℕ) → 10 < hex_digit d
digit_above d = go (nat_lt d 10) refl
  where
    go : (t : Bool) → nat_lt d 10 ≡ t → 10 < hex_digit d
    go true e = rw e (let more : 10 < 48 + d = omega arith in more)
    go false e = rw e (let more : 10 < 55 + d = omega arith in more)

pub hex_no_feed : (octets : List ℕ) → Lacks 10 (hex_text octets)
hex_no_feed [] = refl
hex_no_feed (n ∷ octets) = lacks_more 10 (hex_digit (n / 16)) (hex_digit (n % 16) ∷ hex_text octets) (digit_above (n / 16)) (lacks_more 10 (hex_digit (n % 16)) (hex_text octets) (digit_above (n % 16)) (hex_no_feed octets))

both : (a b : Bool) → (a && b) ≡ true → (a ≡ true) × (b ≡ true)
both true true e = (refl, refl)
both true false e = absurd cc
both false b e = absurd cc

pub digits_lack : (o : ℕ) (digits : List ℕ) → o < 48 → all_ascii_digits digits ≡ true → Lacks o digits
digits_lack o [] low h = refl
digits_lack o (c ∷ digits) low h =
    let parts = both (is_ascii_digit c) (all_ascii_digits digits) h in
    let inner = both (nat_le 48 c) (nat_le c 57) parts.0 in
    let from : 48 ≤ c = leb-true 48 c inner.0 in
    let above : o < c = omega arith in
    lacks_more o c digits above (digits_lack o digits low parts.1)

own : IsNumeralModel (λ ds. all_ascii_digits ds ≡ true) (digits_value 10)
own = numerals_by_value _ tells_all_ascii_digits

pub decimal_digits : (n : ℕ) → n < 2 ^ 64 → all_ascii_digits (decimal n) ≡ true
decimal_digits n h = digits_decimal own n h

glyph_above : (o d : ℕ) → o < 48 → o < digit_glyph false d
glyph_above o d low = go (nat_lt d 10) refl
  where
    go : (t : Bool) → nat_lt d 10 ≡ t → o < digit_glyph false d
    go true e = rw e (let more : o < 48 + d = omega arith in more)
    go false e = rw e (let more : o < 87 + d = omega arith in more)

-- so many digits at most, whatever the number
onto_lacks : (o k n : ℕ) (acc : List ℕ) → o < 48 → Lacks o acc → Lacks o (digits_onto k 10 false n acc)
onto_lacks o zero n acc low f = f
onto_lacks o (suc k) n acc low f = go (n / 10 == 0) refl (onto_lacks o k (n / 10) (digit_glyph false (n % 10) ∷ acc) low (lacks_more o (digit_glyph false (n % 10)) acc (glyph_above o (n % 10) low) f))
  where
    go : (t : Bool) → (n / 10 == 0) ≡ t → Lacks o (digits_onto k 10 false (n / 10) (digit_glyph false (n % 10) ∷ acc)) → Lacks o (digits_onto (suc k) 10 false n acc)
    go true e more = rw e (lacks_more o (digit_glyph false (n % 10)) acc (glyph_above o (n % 10) low) f)
    go false e more = rw e more

pub decimal_lacks : (o n : ℕ) → o < 48 → Lacks o (decimal n)
unfolding digits
decimal_lacks o n low = onto_lacks o 64 n [] low refl

behind_no_feed : (octets : List ℕ) → Lacks 10 (digits_behind octets)
behind_no_feed [] = refl
behind_no_feed (n ∷ octets) = hex_no_feed (n ∷ octets)

generic_no_feed : (octets : List ℕ) → has_feed (generic_text octets) ≡ false
generic_no_feed octets = lacks_append 10 (decimal (length octets)) (digits_behind octets) (decimal_lacks 10 (length octets) (omega arith)) (behind_no_feed octets)

pub generic_is_line : (octets shown : List ℕ) → shown ≡ generic_text octets → has_feed shown ≡ false
generic_is_line octets shown is = ap has_feed is ∙ generic_no_feed octets
