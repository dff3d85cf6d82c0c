-- What a string prints is read as that string.
use Rattle.std.proofs.Common.{◌≡◌, ◌≤◌, ◌<◌, ◌+◌, ◌/◌, ◌%◌, ◌^◌, ℕ, List, [], ◌∷◌, ◌++◌, refl, sym, ◌∙◌, ap, subst, arith, Bool, true, false, append_assoc, inl, inr}
use Rattle.std.specs.Prelude.{Some, option_map, ◌==◌, ◌||◌}
use Rattle.std.specs.List.{AllByRecursion, flat_map}
use Rattle.std.proofs.lemmas.Bool.{eqb-true, le-leb}
use Rattle.std.proofs.lemmas.Fmt.{decimal_digit}
use Rattle.dns_names.specs.Text.{backslash, is_printable, three_digits}
use Rattle.dns_presentation.specs.Octets.{numbered_octet}
use Rattle.dns_presentation.specs.Strings.{quote, string_octet, string_text, with_octet, read_octets, read_escaped, read_numbered, read_string}
use Rattle.dns_presentation.proofs.OctetTexts.{three_are, digit_is, one_of, neither}

by_digits : (n : ℕ) (rest : List ℕ) → n < 256 → read_octets (numbered_octet n ++ rest) ≡ option_map (with_octet n) (read_octets rest)
unfolding read_octets read_escaped read_numbered
by_digits n rest h =
    let a : n / 100 < 10 = omega arith in
    let b : n / 10 % 10 < 10 = omega arith in
    let c : n % 10 < 10 = omega arith in
    let small : three_digits (48 + n / 100) (48 + n / 10 % 10) (48 + n % 10) ≤ 255 = omega arith in
    rw (decimal_digit (n / 100) a, decimal_digit (n / 10 % 10) b, decimal_digit (n % 10) c)
    (rw (digit_is (n / 100) a, digit_is (n / 10 % 10) b, digit_is (n % 10) c, le-leb _ 255 small) (rw (three_are n h) refl))

quoted_quote : (rest : List ℕ) → read_octets (backslash ∷ quote ∷ rest) ≡ option_map (with_octet quote) (read_octets rest)
unfolding read_octets read_escaped
quoted_quote rest = refl

quoted_backslash : (rest : List ℕ) → read_octets (backslash ∷ backslash ∷ rest) ≡ option_map (with_octet backslash) (read_octets rest)
unfolding read_octets read_escaped
quoted_backslash rest = refl

quoted : (n : ℕ) (rest : List ℕ) → ((n == quote) || (n == backslash)) ≡ true
    → read_octets (backslash ∷ n ∷ rest) ≡ option_map (with_octet n) (read_octets rest)
quoted n rest e =
    let P : ℕ → Type 0 = λ n. read_octets (backslash ∷ n ∷ rest) ≡ option_map (with_octet n) (read_octets rest) in
    elim (one_of (n == quote) (n == backslash) e) [
      | inl d ↦ subst P (sym (eqb-true n quote d)) (quoted_quote rest)
      | inr b ↦ subst P (sym (eqb-true n backslash b)) (quoted_backslash rest)
    ]

plain : (n : ℕ) (rest : List ℕ) → ((n == quote) || (n == backslash)) ≡ false → is_printable n ≡ true
    → read_octets (n ∷ rest) ≡ option_map (with_octet n) (read_octets rest)
unfolding read_octets
plain n rest e f =
    let no = neither (n == quote) (n == backslash) e in
    rw (no.0, no.1, f) refl

octet_read : (n : ℕ) (rest : List ℕ) → n < 256 → read_octets (string_octet n ++ rest) ≡ option_map (with_octet n) (read_octets rest)
octet_read n rest h = go ((n == quote) || (n == backslash)) (is_printable n) refl refl
  where
    go : (b c : Bool) → ((n == quote) || (n == backslash)) ≡ b → is_printable n ≡ c
        → read_octets (string_octet n ++ rest) ≡ option_map (with_octet n) (read_octets rest)
    go true c e f = rw e (quoted n rest e)
    go false true e f = rw (e, f) (plain n rest e f)
    go false false e f = rw (e, f) (by_digits n rest h)

at_end : (text : List ℕ) → read_octets (quote ∷ text) ≡ Some ([], text)
unfolding read_octets
at_end text = refl

octets_read : (octets text : List ℕ) → AllByRecursion (λ n. n < 2 ^ 8) octets
    → read_octets ((flat_map string_octet octets ++ (quote ∷ [])) ++ text) ≡ Some (octets, text)
octets_read [] text h = at_end text
octets_read (n ∷ octets) text h =
    ap read_octets (ap (λ x. x ++ text) (append_assoc (string_octet n) (flat_map string_octet octets) (quote ∷ []))
    ∙ append_assoc (string_octet n) (flat_map string_octet octets ++ (quote ∷ [])) text)
    ∙ octet_read n ((flat_map string_octet octets ++ (quote ∷ [])) ++ text) h.0
    ∙ ap (option_map (with_octet n)) (octets_read octets text h.1)

pub string_read : (octets text : List ℕ) → AllByRecursion (λ n. n < 2 ^ 8) octets
    → read_string (string_text octets ++ text) ≡ Some (octets, text)
string_read octets text h = octets_read octets text h
