-- What names are found by: the same for two names exactly where they are the same.
use Rattle.std.proofs.Common.{◌≡◌, ℕ, ◌+◌, ◌<◌, List, [], ◌∷◌, ◌++◌, length, map, Bool, true, false, cond, nat_lt, refl, ap, sym, ◌∙◌, arith}
use Rattle.std.proofs.lemmas.Bool.{false_from_ne_true, ltb-false}
use Rattle.std.proofs.lemmas.Bool.Decides.{Decides-eqb}
use Rattle.std.proofs.lemmas.List.{length-map, map-append}
use Rattle.std.proofs.lemmas.Slice.Eq.{bytes_eq-Decides, slice_eq-Decides}
use Rattle.std.specs.Bool.{Decides}
use Rattle.std.specs.Char.{to_ascii_lowercase}
use Rattle.std.specs.Cmp.Lexicographic.{pointwise}
use Rattle.std.specs.List.{AllByRecursion}
use Rattle.std.specs.Prelude.{◌==◌}
use Rattle.std.specs.Str.{bytes_eq}
use Rattle.dns_names.specs.Name.{IsLabel, IsLegal, Labels, labels_at, lowered, octet_count, same_name, spelling}
use Rattle.dns_names.specs.NameHash.{same_lowered}
use Rattle.dns_names.proofs.NameLaws.{spelled_alone}
use Rattle.resolv_lookup.specs.HostTable.{key_of}

-- a label's length is no capital letter
low_length : (n : ℕ) → n < 64 → to_ascii_lowercase n ≡ n
low_length n short = by (nat_lt n 65) refl
  where
    by : (b : Bool) → nat_lt n 65 ≡ b → cond b n (cond (nat_lt n 91) (n + 32) n) ≡ n
    by true e = refl
    by false e = absurd (omega (arith, ltb-false n 65 e))

-- what a name is found by is how it is spelled in lower case
spelled_low : (labels : Labels) → AllByRecursion IsLabel labels → key_of labels ≡ spelling (lowered labels)
spelled_low [] legal = refl
spelled_low (label ∷ labels) legal =
    let long : length (map to_ascii_lowercase label) ≡ length label = length-map label to_ascii_lowercase in
    let head : to_ascii_lowercase (length label) ≡ length (map to_ascii_lowercase label) = low_length (length label) legal.0.1 ∙ sym long in
    let tail : map to_ascii_lowercase (label ++ spelling labels) ≡ map to_ascii_lowercase label ++ spelling (lowered labels) =
    map-append to_ascii_lowercase label (spelling labels) ∙ ap (λ (xs : List ℕ). map to_ascii_lowercase label ++ xs) (spelled_low labels legal.1) in
    cc

low_labels : (labels : Labels) → AllByRecursion IsLabel labels → AllByRecursion IsLabel (lowered labels)
low_labels [] legal = tt
low_labels (label ∷ labels) legal =
    let long : length (map to_ascii_lowercase label) ≡ length label = length-map label to_ascii_lowercase in
    let some : 0 < length label = legal.0.0 in
    let few : length label < 64 = legal.0.1 in
    ((omega arith, omega arith), low_labels labels legal.1)

low_count : (labels : Labels) → octet_count (lowered labels) ≡ octet_count labels
low_count [] = refl
low_count (label ∷ labels) = omega (arith, length-map label to_ascii_lowercase, low_count labels)

low_legal : (labels : Labels) → IsLegal labels → IsLegal (lowered labels)
low_legal labels legal = (low_labels labels legal.0, (let same : octet_count (lowered labels) ≡ octet_count labels = low_count labels in omega arith))

decides_labels : (a b : Labels) → Decides (pointwise (pointwise ◌==◌) a b) (a ≡ b)
decides_labels a b = slice_eq-Decides (λ (x y : List ℕ). slice_eq-Decides Decides-eqb x y (pointwise ◌==◌ x y) refl) a b (pointwise (pointwise ◌==◌) a b) refl

-- names that are the same are found by the same
pub keys_agree : (a b : Labels) → IsLegal a → IsLegal b → same_name a b ≡ true → key_of a ≡ key_of b
keys_agree a b p q same = spelled_low a p.0 ∙ ap spelling (same_lowered a b same) ∙ sym (spelled_low b q.0)

-- and others by others
pub keys_differ : (a b : Labels) → IsLegal a → IsLegal b → same_name a b ≡ false → bytes_eq (key_of b) (key_of a) ≡ false
keys_differ a b p q other = false_from_ne_true _ (λ same. contradicts ((bytes_eq-Decides (key_of b) (key_of a)).0 same))
  where
    contradicts : key_of b ≡ key_of a → ⊥
    contradicts e =
        let x : labels_at (key_of a) 0 ≡ lowered a = (spelled_alone (lowered a) (key_of a) (spelled_low a p.0) (low_legal a p)).1 in
        let y : labels_at (key_of b) 0 ≡ lowered b = (spelled_alone (lowered b) (key_of b) (spelled_low b q.0) (low_legal b q)).1 in
        let low : lowered a ≡ lowered b = sym x ∙ ap (λ (octets : List ℕ). labels_at octets 0) (sym e) ∙ y in
        let is : same_name a b ≡ true = (decides_labels (lowered a) (lowered b)).1 low in
        cc
