-- What a name prints among other text is read as that name.
use Rattle.std.proofs.Common.{◌≡◌, ◌≤◌, ◌<◌, ◌+◌, ◌/◌, ◌%◌, ◌^◌, ℕ, List, [], ◌∷◌, ◌++◌, length, refl, sym, ◌∙◌, ap, subst, arith, Bool, true, false, append_assoc, inl, inr}
use Rattle.std.specs.Prelude.{Option, Some, option_map, Ok, ◌==◌, ◌&&◌, ◌||◌, nat_le}
use Rattle.std.specs.List.{AllByRecursion, flat_map}
use Rattle.std.proofs.lemmas.Bool.{eqb-true, leb-true, le-leb, lt-ltb}
use Rattle.std.proofs.lemmas.Fmt.{decimal_digit}
use Rattle.dns_names.specs.Name.{Labels, octet_count, IsLabel, IsLegal, AreOctets}
use Rattle.dns_names.specs.Text.{cut_text, escaped, numbered, onto, dot, backslash, is_dot, is_digit, is_printable, three_digits, undotted, are_full, are_short, full, judged, name_labels, name_of_text}
use Rattle.dns_names.proofs.Shown.{onto_onto, onto_nothing, cut_dot}
use Rattle.dns_presentation.specs.Octets.{numbered_octet}
use Rattle.dns_presentation.specs.Names.{is_plain, name_octet, ended_label, absolute_text}
use Rattle.dns_presentation.proofs.OctetTexts.{three_are, digit_is, one_of, neither, both}

by_digits : (n : ℕ) (rest : List ℕ) → n < 256 → cut_text (numbered_octet n ++ rest) ≡ option_map (onto (n ∷ [])) (cut_text rest)
unfolding cut_text escaped numbered
by_digits n rest h =
    let a : n / 100 < 10 = omega arith in
    let b : n / 10 % 10 < 10 = omega arith in
    let c : n % 10 < 10 = omega arith in
    let small : three_digits (48 + n / 100) (48 + n / 10 % 10) (48 + n % 10) ≤ 255 = omega arith in
    rw (decimal_digit (n / 100) a, decimal_digit (n / 10 % 10) b, decimal_digit (n % 10) c)
    (rw (digit_is (n / 100) a, digit_is (n / 10 % 10) b, digit_is (n % 10) c, le-leb _ 255 small) (rw (three_are n h) refl))

-- a plain character is neither a backslash nor a dot
is_other : (n m : ℕ) → is_plain m ≡ false → is_plain n ≡ true → (n == m) ≡ false
is_other n m e f = go (n == m) refl
  where
    go : (b : Bool) → (n == m) ≡ b → (n == m) ≡ false
    go false g = g
    go true g =
        let P : ℕ → Type 0 = λ k. is_plain k ≡ true in
        let no : is_plain m ≡ true = subst P (eqb-true n m g) f in
        absurd cc

printable : (n : ℕ) → (nat_le 33 n && nat_le n 126) ≡ true → is_printable n ≡ true
printable n e =
    let parts = both (nat_le 33 n) (nat_le n 126) e in
    let above : 33 ≤ n = leb-true 33 n parts.0 in
    let low : 32 ≤ n = omega arith in
    rw (le-leb 32 n low, parts.1) refl

between : (a b n : ℕ) → 32 ≤ a → b ≤ 126 → (nat_le a n && nat_le n b) ≡ true → is_printable n ≡ true
between a b n low high e =
    let parts = both (nat_le a n) (nat_le n b) e in
    let above : a ≤ n = leb-true a n parts.0 in
    let below : n ≤ b = leb-true n b parts.1 in
    let from : 32 ≤ n = omega arith in
    let to : n ≤ 126 = omega arith in
    rw (le-leb 32 n from, le-leb n 126 to) refl

exactly : (n m : ℕ) → is_printable m ≡ true → (n == m) ≡ true → is_printable n ≡ true
exactly n m e f = let P : ℕ → Type 0 = λ k. is_printable k ≡ true in subst P (sym (eqb-true n m f)) e

one_sign : (n : ℕ) → ((n == 45) || ((n == 95) || ((n == 42) || (n == 47)))) ≡ true → is_printable n ≡ true
one_sign n e = elim (one_of (n == 45) ((n == 95) || ((n == 42) || (n == 47))) e) [
  | inl a ↦ exactly n 45 refl a
  | inr r ↦ elim (one_of (n == 95) ((n == 42) || (n == 47)) r) [
    | inl b ↦ exactly n 95 refl b
    | inr s ↦ elim (one_of (n == 42) (n == 47) s) [
      | inl c ↦ exactly n 42 refl c
      | inr d ↦ exactly n 47 refl d
    ]
  ]
]

plain_printable : (n : ℕ) → is_plain n ≡ true → is_printable n ≡ true
plain_printable n e = elim (one_of (nat_le 97 n && nat_le n 122) _ e) [
  | inl a ↦ between 97 122 n (omega arith) (omega arith) a
  | inr r ↦ elim (one_of (nat_le 65 n && nat_le n 90) _ r) [
    | inl b ↦ between 65 90 n (omega arith) (omega arith) b
    | inr s ↦ elim (one_of (nat_le 48 n && nat_le n 57) _ s) [
      | inl c ↦ between 48 57 n (omega arith) (omega arith) c
      | inr d ↦ one_sign n d
    ]
  ]
]

plain : (n : ℕ) (rest : List ℕ) → is_plain n ≡ true → is_printable n ≡ true → cut_text (n ∷ rest) ≡ option_map (onto (n ∷ [])) (cut_text rest)
unfolding cut_text
plain n rest e f = rw (is_other n backslash refl e, is_other n dot refl e, f) refl

quoted : (n : ℕ) (rest : List ℕ) → is_plain n ≡ false → is_printable n ≡ true → cut_text (backslash ∷ n ∷ rest) ≡ option_map (onto (n ∷ [])) (cut_text rest)
unfolding cut_text escaped
quoted n rest e f =
    let lower = neither (nat_le 97 n && nat_le n 122) _ e in
    let upper = neither (nat_le 65 n && nat_le n 90) _ lower.1 in
    let no = neither (is_digit n) _ upper.1 in
    rw (no.0, f) refl

octet_read : (n : ℕ) (rest : List ℕ) → n < 256 → cut_text (name_octet n ++ rest) ≡ option_map (onto (n ∷ [])) (cut_text rest)
octet_read n rest h = go (is_plain n) (n == 35) (nat_le 33 n && nat_le n 126) refl refl refl
  where
    go : (b c d : Bool) → is_plain n ≡ b → (n == 35) ≡ c → (nat_le 33 n && nat_le n 126) ≡ d
        → cut_text (name_octet n ++ rest) ≡ option_map (onto (n ∷ [])) (cut_text rest)
    go true c d e g k = rw e (plain n rest e (plain_printable n e))
    go false true d e g k = rw (e, g) (by_digits n rest h)
    go false false true e g k = rw (e, g, k) (quoted n rest e (printable n k))
    go false false false e g k = rw (e, g, k) (by_digits n rest h)

label_read : (label rest : List ℕ) → AllByRecursion (λ n. n < 2 ^ 8) label
    → cut_text (flat_map name_octet label ++ rest) ≡ option_map (onto label) (cut_text rest)
label_read [] rest h = onto_nothing (cut_text rest)
label_read (n ∷ label) rest h =
    ap cut_text (append_assoc (name_octet n) (flat_map name_octet label) rest) ∙ octet_read n (flat_map name_octet label ++ rest) h.0
    ∙ ap (option_map (onto (n ∷ []))) (label_read label rest h.1) ∙ onto_onto n label (cut_text rest)

ended_read : (label rest : List ℕ) → AllByRecursion (λ n. n < 2 ^ 8) label
    → cut_text (ended_label label ++ rest) ≡ option_map (λ labels. label ∷ labels) (cut_text rest)
ended_read label rest h =
    ap cut_text (append_assoc (flat_map name_octet label) (dot ∷ []) rest) ∙ label_read label (dot ∷ rest) h ∙ cut_dot label rest

nothing_left : cut_text [] ≡ Some ([] ∷ [])
unfolding cut_text
nothing_left = refl

labels_read : (labels : Labels) → AreOctets labels → cut_text (flat_map ended_label labels) ≡ Some (labels ++ ([] ∷ []))
labels_read [] h = nothing_left
labels_read (label ∷ labels) h =
    ended_read label (flat_map ended_label labels) h.0 ∙ ap (option_map (λ labels. label ∷ labels)) (labels_read labels h.1)

-- the empty label behind the last dot is none
undotted_ended : (label : List ℕ) (labels : Labels) → AllByRecursion IsLabel (label ∷ labels) → undotted ((label ∷ labels) ++ ([] ∷ [])) ≡ label ∷ labels
undotted_ended label [] h = refl
undotted_ended label ([] ∷ labels) h = absurd (let x : 0 < 0 = h.1.0.0 in omega arith)
undotted_ended label ((n ∷ next) ∷ labels) h = ap (λ k. label ∷ k) (undotted_ended (n ∷ next) labels h.1)

legal_full : (labels : Labels) → AllByRecursion IsLabel labels → (are_full labels ≡ true) × (are_short labels ≡ true)
legal_full [] h = (refl, refl)
legal_full (l ∷ ls) h =
    let rest = legal_full ls h.1 in
    let some : 0 < length l = h.0.0 in
    let few : length l ≤ 63 = let x : length l < 64 = h.0.1 in omega arith in
    (rw (lt-ltb 0 (length l) some) rest.0, rw (le-leb (length l) 63 few) rest.1)

judged_ok : (labels : Labels) → IsLegal labels → judged (full labels) ≡ Ok labels
judged_ok labels h = let f = legal_full labels h.0 in rw (f.0, f.1, le-leb (octet_count labels) 255 h.1) refl

-- the text of a label that has an octet is no dot
first_is : (label other : List ℕ) (labels others : Labels) → ◌≡◌ {A = Option Labels} (Some (label ∷ labels)) (Some (other ∷ others)) → length label ≡ length other
first_is label other labels others e = let same : label ≡ other = cc in ap length same

no_dot : (text label : List ℕ) (labels : Labels) → cut_text text ≡ Some (label ∷ labels) → 0 < length label → is_dot text ≡ false
unfolding cut_text
no_dot [] label labels e n = refl
no_dot (c ∷ d ∷ text) label labels e n = refl
no_dot (c ∷ []) label labels e n = go (c == dot) refl
  where
    go : (b : Bool) → (c == dot) ≡ b → (c == dot) ≡ false
    go false f = f
    go true f =
        let P : ℕ → Type 0 = λ c. cut_text (c ∷ []) ≡ Some (label ∷ labels) in
        let cut : cut_text (46 ∷ []) ≡ Some (label ∷ labels) = subst P (eqb-true c dot f) e in
        absurd (omega (arith, first_is [] label ([] ∷ []) labels cut))

labels_are : (text label : List ℕ) (labels : Labels) → cut_text text ≡ Some ((label ∷ labels) ++ ([] ∷ [])) → AllByRecursion IsLabel (label ∷ labels)
    → name_labels text ≡ full (label ∷ labels)
unfolding name_labels
labels_are text label labels e h = rw (no_dot text label (labels ++ ([] ∷ [])) e h.0.0, e, undotted_ended label labels h) refl

root_read : name_of_text (dot ∷ []) ≡ Ok []
unfolding name_labels
root_read = refl

pub name_read : (labels : Labels) → IsLegal labels → AreOctets labels → name_of_text (absolute_text labels) ≡ Ok labels
name_read [] h o = root_read
name_read (label ∷ labels) h o =
    ap judged (labels_are (flat_map ended_label (label ∷ labels)) label labels (labels_read (label ∷ labels) o) h.0) ∙ judged_ok (label ∷ labels) h
