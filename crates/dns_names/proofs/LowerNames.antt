-- What a name owns, in lower case.
use Rattle.std.proofs.Common.{◌≡◌, ℕ, ◌+◌, ◌<◌, List, [], ◌∷◌, ◌++◌, ◌⊎◌, inl, inr, length, map, Bool, true, false, cond, nat_lt, refl, ap, sym, ◌∙◌, arith, take, drop, subst}
use Rattle.std.specs.Char.{to_ascii_lowercase}
use Rattle.std.specs.List.{AllByRecursion}
use Rattle.std.proofs.Math.Seq.{take-append_seam}
use Rattle.std.proofs.lemmas.Bool.{ltb-false}
use Rattle.std.proofs.lemmas.List.{length-map, map-append}
use Rattle.dns_names.specs.Name.{IsLabel, IsLegal, IsOwn, Labels, labels_at, lowered, octet_count, spelling}
use Rattle.dns_names.proofs.OwnOctets.{own_none, own_spelled}

-- a label's length is no capital letter
low_length : (n : ℕ) → n < 64 → to_ascii_lowercase n ≡ n
low_length n short = by (nat_lt n 65) refl
  where
    by : (b : Bool) → nat_lt n 65 ≡ b → cond b n (cond (nat_lt n 91) (n + 32) n) ≡ n
    by true e = refl
    by false e = absurd (omega (arith, ltb-false n 65 e))

pub spelled_low : (labels : Labels) → AllByRecursion IsLabel labels → map to_ascii_lowercase (spelling labels) ≡ spelling (lowered labels)
spelled_low [] legal = refl
spelled_low (label ∷ labels) legal =
    let long : length (map to_ascii_lowercase label) ≡ length label = length-map label to_ascii_lowercase in
    let head : to_ascii_lowercase (length label) ≡ length (map to_ascii_lowercase label) = low_length (length label) legal.0.1 ∙ sym long in
    let tail : map to_ascii_lowercase (label ++ spelling labels) ≡ map to_ascii_lowercase label ++ spelling (lowered labels) =
    map-append to_ascii_lowercase label (spelling labels) ∙ ap (λ (xs : List ℕ). map to_ascii_lowercase label ++ xs) (spelled_low labels legal.1) in
    cc

low_labels : (labels : Labels) → AllByRecursion IsLabel labels → AllByRecursion IsLabel (lowered labels)
low_labels [] legal = tt
low_labels (label ∷ labels) legal =
    let long : length (map to_ascii_lowercase label) ≡ length label = length-map label to_ascii_lowercase in
    let some : 0 < length label = legal.0.0 in
    let few : length label < 64 = legal.0.1 in
    ((omega arith, omega arith), low_labels labels legal.1)

low_count : (labels : Labels) → octet_count (lowered labels) ≡ octet_count labels
low_count [] = refl
low_count (label ∷ labels) = omega (arith, length-map label to_ascii_lowercase, low_count labels)

pub low_legal : (labels : Labels) → IsLegal labels → IsLegal (lowered labels)
low_legal labels legal = (low_labels labels legal.0, (let same : octet_count (lowered labels) ≡ octet_count labels = low_count labels in omega arith))

own_in_lower_case : (octets : List ℕ) → IsLegal (labels_at octets 0) → (octets ≡ []) ⊎ (octets ≡ spelling (labels_at octets 0)) → IsOwn (map to_ascii_lowercase octets) × (labels_at (map to_ascii_lowercase octets) 0 ≡ lowered (labels_at octets 0))
own_in_lower_case octets legal (inl none) =
    let here = own_none octets none in
    let low = own_none (map to_ascii_lowercase octets) (ap (map to_ascii_lowercase) none) in
    (low.0, low.1 ∙ sym (ap lowered here.1))
own_in_lower_case octets legal (inr spelled) =
    own_spelled (lowered (labels_at octets 0)) (map to_ascii_lowercase octets) (ap (map to_ascii_lowercase) spelled ∙ spelled_low (labels_at octets 0) legal.0) (low_legal (labels_at octets 0) legal)

-- octets that a name may own, in lower case: a name may own them, and they are that name in lower case
own_lower : (octets : List ℕ) → IsOwn octets → IsOwn (map to_ascii_lowercase octets) × (labels_at (map to_ascii_lowercase octets) 0 ≡ lowered (labels_at octets 0))
own_lower octets own = own_in_lower_case octets own.0 own.1

-- as many octets in the place of those that were
as_many : (n : ℕ) (new old : List ℕ) → new ≡ map to_ascii_lowercase old → length old ≡ n → take n (new ++ drop (length new) old) ≡ map to_ascii_lowercase old
as_many n new old is long =
    let same : length new ≡ n = ap length is ∙ length-map old to_ascii_lowercase ∙ long in
    ap (λ (k : ℕ). take k (new ++ drop (length new) old)) (sym same) ∙ take-append_seam new (drop (length new) old) ∙ is

pub own_in_place : (n : ℕ) (new old : List ℕ) → new ≡ map to_ascii_lowercase old → length old ≡ n → IsOwn old → IsOwn (take n (new ++ drop (length new) old)) × (labels_at (take n (new ++ drop (length new) old)) 0 ≡ lowered (labels_at old 0))
own_in_place n new old is long own =
    let here = own_lower old own in
    let same = as_many n new old is long in
    (subst IsOwn (sym same) here.0, ap (λ (octets : List ℕ). labels_at octets 0) same ∙ here.1)
