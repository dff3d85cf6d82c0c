-- What a name prints is read as that name.
use Rattle.std.proofs.Common.{◌≡◌, ◌≤◌, ◌<◌, ◌+◌, ◌/◌, ◌%◌, ◌^◌, ℕ, suc, List, [], ◌∷◌, ◌++◌, length, get_or, refl, sym, ◌∙◌, ap, subst, arith, Bool, true, false, append_assoc, append-nil, decimal, inl, inr, ◌⊎◌}
use Rattle.std.specs.Prelude.{Option, Some, None, option_map, Ok, ◌==◌, ◌&&◌, ◌||◌, nat_le}
use Rattle.std.specs.List.{AllByRecursion, flat_map}
use Rattle.std.proofs.lemmas.Bool.{eqb-true, leb-true, le-leb, lt-ltb}
use Rattle.std.proofs.lemmas.Fmt.{decimal_digit}
use Rattle.dns_names.specs.Name.{Labels, octet_count, spelling, IsLabel, IsLegal, AreOctets}
use Rattle.dns_names.specs.Text.{cut_text, escaped, numbered, onto, dot, backslash, is_dot, is_digit, three_digits, undotted, are_full, are_short, full, judged, name_labels, relative_labels, name_of_text, relative_of_text, octet_text, label_text, relative_text, name_text}
use Rattle.dns_names.proofs.Texts.{onto_none}

-- the octets behind a backslash, by their digits
three_are : (n : ℕ) → n < 256 → three_digits (48 + n / 100) (48 + n / 10 % 10) (48 + n % 10) ≡ n
three_are n h = omega arith

digit_is : (d : ℕ) → d < 10 → is_digit (48 + d) ≡ true
digit_is d h =
    let low : 48 ≤ 48 + d = omega arith in
    let high : 48 + d ≤ 57 = omega arith in
    rw (le-leb 48 (48 + d) low, le-leb (48 + d) 57 high) refl

by_digits : (n : ℕ) (rest : List ℕ) → n < 256
    → cut_text (backslash ∷ (decimal (n / 100) ++ decimal (n / 10 % 10) ++ decimal (n % 10)) ++ rest) ≡ option_map (onto (n ∷ [])) (cut_text rest)
unfolding cut_text escaped numbered
by_digits n rest h =
    let a : n / 100 < 10 = omega arith in
    let b : n / 10 % 10 < 10 = omega arith in
    let c : n % 10 < 10 = omega arith in
    let small : three_digits (48 + n / 100) (48 + n / 10 % 10) (48 + n % 10) ≤ 255 = omega arith in
    rw (decimal_digit (n / 100) a, decimal_digit (n / 10 % 10) b, decimal_digit (n % 10) c)
    (rw (digit_is (n / 100) a, digit_is (n / 10 % 10) b, digit_is (n % 10) c, le-leb _ 255 small) (rw (three_are n h) refl))

one_of : (a b : Bool) → (a || b) ≡ true → (a ≡ true) ⊎ (b ≡ true)
one_of true b e = inl refl
one_of false b e = inr e

neither : (a b : Bool) → (a || b) ≡ false → (a ≡ false) × (b ≡ false)
neither true b e = absurd cc
neither false b e = (refl, e)

both : (a b : Bool) → (a && b) ≡ true → (a ≡ true) × (b ≡ true)
both true true e = (refl, refl)
both true false e = absurd cc
both false b e = absurd cc

-- a dot and a backslash, behind a backslash
quoted_dot : (rest : List ℕ) → cut_text (backslash ∷ dot ∷ rest) ≡ option_map (onto (dot ∷ [])) (cut_text rest)
unfolding cut_text escaped
quoted_dot rest = refl

quoted_backslash : (rest : List ℕ) → cut_text (backslash ∷ backslash ∷ rest) ≡ option_map (onto (backslash ∷ [])) (cut_text rest)
unfolding cut_text escaped
quoted_backslash rest = refl

quoted : (n : ℕ) (rest : List ℕ) → ((n == dot) || (n == backslash)) ≡ true → cut_text (backslash ∷ n ∷ rest) ≡ option_map (onto (n ∷ [])) (cut_text rest)
quoted n rest e =
    let P : ℕ → Type 0 = λ n. cut_text (backslash ∷ n ∷ rest) ≡ option_map (onto (n ∷ [])) (cut_text rest) in
    elim (one_of (n == dot) (n == backslash) e) [
      | inl d ↦ subst P (sym (eqb-true n dot d)) (quoted_dot rest)
      | inr b ↦ subst P (sym (eqb-true n backslash b)) (quoted_backslash rest)
    ]

-- an octet that stands for itself
plain : (n : ℕ) (rest : List ℕ) → ((n == dot) || (n == backslash)) ≡ false → (nat_le 33 n && nat_le n 126) ≡ true
    → cut_text (n ∷ rest) ≡ option_map (onto (n ∷ [])) (cut_text rest)
unfolding cut_text
plain n rest e f =
    let no = neither (n == dot) (n == backslash) e in
    let shown = both (nat_le 33 n) (nat_le n 126) f in
    let above : 33 ≤ n = leb-true 33 n shown.0 in
    let low : 32 ≤ n = omega arith in
    rw (no.0, no.1, le-leb 32 n low, shown.1) refl

octet_read : (n : ℕ) (rest : List ℕ) → n < 256 → cut_text (octet_text n ++ rest) ≡ option_map (onto (n ∷ [])) (cut_text rest)
octet_read n rest h = go ((n == dot) || (n == backslash)) (nat_le 33 n && nat_le n 126) refl refl
  where
    go : (b c : Bool) → ((n == dot) || (n == backslash)) ≡ b → (nat_le 33 n && nat_le n 126) ≡ c → cut_text (octet_text n ++ rest) ≡ option_map (onto (n ∷ [])) (cut_text rest)
    go true c e f = rw e (quoted n rest e)
    go false true e f = rw (e, f) (plain n rest e f)
    go false false e f = rw (e, f) (by_digits n rest h)

pub onto_onto : (n : ℕ) (label : List ℕ) (o : Option Labels) → option_map (onto (n ∷ [])) (option_map (onto label) o) ≡ option_map (onto (n ∷ label)) o
onto_onto n label None = refl
onto_onto n label (Some []) = refl
onto_onto n label (Some (l ∷ ls)) = refl

pub onto_nothing : (o : Option Labels) → o ≡ option_map (onto []) o
onto_nothing None = refl
onto_nothing (Some ls) = ap Some (sym (onto_none ls))

label_read : (label rest : List ℕ) → AllByRecursion (λ n. n < 2 ^ 8) label → cut_text (label_text label ++ rest) ≡ option_map (onto label) (cut_text rest)
label_read [] rest h = onto_nothing (cut_text rest)
label_read (n ∷ label) rest h =
    ap cut_text (append_assoc (octet_text n) (label_text label) rest) ∙ octet_read n (label_text label ++ rest) h.0
    ∙ ap (option_map (onto (n ∷ []))) (label_read label rest h.1) ∙ onto_onto n label (cut_text rest)

pub cut_end : (label : List ℕ) → option_map (onto label) (cut_text []) ≡ Some (label ∷ [])
unfolding cut_text
cut_end label = ap (λ l. Some (l ∷ [])) (append-nil label)

pub cut_dot : (label text : List ℕ) → option_map (onto label) (cut_text (dot ∷ text)) ≡ option_map (λ labels. label ∷ labels) (cut_text text)
unfolding cut_text
cut_dot label text = go (cut_text text)
  where
    go : (o : Option Labels) → option_map (onto label) (option_map (λ labels. [] ∷ labels) o) ≡ option_map (λ labels. label ∷ labels) o
    go None = refl
    go (Some ls) = ap (λ l. Some (l ∷ ls)) (append-nil label)

behind : Labels → List ℕ
behind labels = flat_map (λ label. dot ∷ label_text label) labels

labels_read : (label : List ℕ) (labels : Labels) → AreOctets (label ∷ labels) → cut_text (label_text label ++ behind labels) ≡ Some (label ∷ labels)
unfolding behind
labels_read label [] h = label_read label [] h.0 ∙ cut_end label
labels_read label (next ∷ labels) h =
    label_read label (behind (next ∷ labels)) h.0 ∙ cut_dot label (label_text next ++ behind labels)
    ∙ ap (option_map (λ labels. label ∷ labels)) (labels_read next labels h.1)

relative_cut : (label : List ℕ) (labels : Labels) → AreOctets (label ∷ labels) → cut_text (relative_text (label ∷ labels)) ≡ Some (label ∷ labels)
unfolding behind
relative_cut label labels h = labels_read label labels h

-- legal labels are full and fit
legal_full : (labels : Labels) → AllByRecursion IsLabel labels → (are_full labels ≡ true) × (are_short labels ≡ true)
legal_full [] h = (refl, refl)
legal_full (l ∷ ls) h =
    let rest = legal_full ls h.1 in
    let some : 0 < length l = h.0.0 in
    let few : length l ≤ 63 = let x : length l < 64 = h.0.1 in omega arith in
    (rw (lt-ltb 0 (length l) some) rest.0, rw (le-leb (length l) 63 few) rest.1)

undotted_full : (labels : Labels) → AllByRecursion IsLabel labels → undotted labels ≡ labels
undotted_full [] h = refl
undotted_full (l ∷ []) h = refl
undotted_full (l ∷ [] ∷ ls) h = absurd (let x : 0 < 0 = h.1.0.0 in omega arith)
undotted_full (l ∷ (x ∷ m) ∷ ls) h = ap (λ k. l ∷ k) (undotted_full ((x ∷ m) ∷ ls) h.1)

judged_ok : (labels : Labels) → IsLegal labels → judged (full labels) ≡ Ok labels
judged_ok labels h = let f = legal_full labels h.0 in rw (f.0, f.1, le-leb (octet_count labels) 255 h.1) refl

-- a text whose first label has an octet is no dot, and not empty
first_is : (label other : List ℕ) (labels others : Labels) → ◌≡◌ {A = Option Labels} (Some (label ∷ labels)) (Some (other ∷ others)) → length label ≡ length other
first_is label other labels others e = let same : label ≡ other = cc in ap length same

no_dot : (text label : List ℕ) (labels : Labels) → cut_text text ≡ Some (label ∷ labels) → 0 < length label → is_dot text ≡ false
unfolding cut_text
no_dot [] label labels e n = refl
no_dot (c ∷ d ∷ text) label labels e n = refl
no_dot (c ∷ []) label labels e n = go (c == dot) refl
  where
    go : (b : Bool) → (c == dot) ≡ b → (c == dot) ≡ false
    go false f = f
    go true f =
        let P : ℕ → Type 0 = λ c. cut_text (c ∷ []) ≡ Some (label ∷ labels) in
        let cut : cut_text (46 ∷ []) ≡ Some (label ∷ labels) = subst P (eqb-true c dot f) e in
        absurd (omega (arith, first_is [] label ([] ∷ []) labels cut))

relative_is : (text label : List ℕ) (labels : Labels) → cut_text text ≡ Some (label ∷ labels) → 0 < length label → relative_labels text ≡ full (label ∷ labels)
unfolding relative_labels cut_text
relative_is [] label labels e n = absurd (omega (arith, first_is [] label [] labels e))
relative_is (c ∷ text) label labels e n = rw e refl

name_is : (text label : List ℕ) (labels : Labels) → cut_text text ≡ Some (label ∷ labels) → AllByRecursion IsLabel (label ∷ labels) → name_labels text ≡ full (label ∷ labels)
unfolding name_labels
name_is text label labels e h = rw (no_dot text label labels e h.0.0, e, undotted_full (label ∷ labels) h) refl

root_read : name_of_text (dot ∷ []) ≡ Ok []
unfolding name_labels
root_read = refl

none_read : relative_of_text [] ≡ Ok []
unfolding relative_labels
none_read = refl

pub name_read : (labels : Labels) → IsLegal labels → AreOctets labels → name_of_text (name_text labels) ≡ Ok labels
name_read [] h o = root_read
name_read (l ∷ ls) h o = ap judged (name_is _ l ls (relative_cut l ls o) h.0) ∙ judged_ok (l ∷ ls) h

pub relative_read : (labels : Labels) → IsLegal labels → AreOctets labels → relative_of_text (relative_text labels) ≡ Ok labels
relative_read [] h o = none_read
relative_read (l ∷ ls) h o = ap judged (relative_is _ l ls (relative_cut l ls o) h.0.0.0) ∙ judged_ok (l ∷ ls) h

-- the octets of a name's spelling are those of its labels
all_get : (octets : List ℕ) → ((i : ℕ) → get_or octets i 0 < 2 ^ 8) → AllByRecursion (λ n. n < 2 ^ 8) octets
all_get [] h = tt
all_get (x ∷ xs) h = (h 0, all_get xs (λ i. h (suc i)))

all_left : (a b : List ℕ) → AllByRecursion (λ n. n < 2 ^ 8) (a ++ b) → AllByRecursion (λ n. n < 2 ^ 8) a × AllByRecursion (λ n. n < 2 ^ 8) b
all_left [] b h = (tt, h)
all_left (x ∷ xs) b h = let rest = all_left xs b h.1 in ((h.0, rest.0), rest.1)

spelled_octets : (labels : Labels) → AllByRecursion (λ n. n < 2 ^ 8) (spelling labels) → AreOctets labels
spelled_octets [] h = tt
spelled_octets (l ∷ ls) h = let parts = all_left l (spelling ls) h.1 in (parts.0, spelled_octets ls parts.1)

pub are_octets : (labels : Labels) (octets : List ℕ) → octets ≡ spelling labels → ((i : ℕ) → get_or octets i 0 < 2 ^ 8) → AreOctets labels
are_octets labels octets e h = let P : List ℕ → Type 0 = λ o. AllByRecursion (λ n. n < 2 ^ 8) o in spelled_octets labels (subst P e (all_get octets h))
