-- Names in lower case, and names that have the same octets.
use Rattle.std.proofs.Common.{◌≡◌, ℕ, List, map, Bool, true, false, refl, ap, sym, ◌∙◌}
use Rattle.std.specs.Bool.{Decides}
use Rattle.std.specs.Char.{to_ascii_lowercase}
use Rattle.std.specs.Cmp.Lexicographic.{pointwise}
use Rattle.std.specs.Prelude.{◌==◌, [], ◌∷◌}
use Rattle.std.proofs.lemmas.Bool.Decides.{Decides-eqb}
use Rattle.std.proofs.lemmas.Slice.Eq.{slice_eq-Decides}
use Rattle.std.proofs.lemmas.Str.Ascii.{lowercase-lowercase}
use Rattle.dns_names.specs.Name.{IsLegal, Labels, labels_at, lowered, spelling}
use Rattle.dns_names.proofs.NameLaws.{spelled_alone}

label_low : (label : List ℕ) → map to_ascii_lowercase (map to_ascii_lowercase label) ≡ map to_ascii_lowercase label
label_low [] = refl
label_low (n ∷ label) = let head = lowercase-lowercase n in let tail = label_low label in cc

-- a name in lower case has no more capital letters
pub lowered_low : (labels : Labels) → lowered (lowered labels) ≡ lowered labels
lowered_low [] = refl
lowered_low (label ∷ labels) = let head = label_low label in let tail = lowered_low labels in cc

decides_labels : (a b : Labels) → Decides (pointwise (pointwise ◌==◌) a b) (a ≡ b)
decides_labels a b = slice_eq-Decides (λ (x y : List ℕ). slice_eq-Decides Decides-eqb x y (pointwise ◌==◌ x y) refl) a b (pointwise (pointwise ◌==◌) a b) refl

spelled_apart : (a b : Labels) → IsLegal a → IsLegal b → spelling a ≡ spelling b → a ≡ b
spelled_apart a b p q e =
    let x : labels_at (spelling a) 0 ≡ a = (spelled_alone a (spelling a) refl p).1 in
    let y : labels_at (spelling b) 0 ≡ b = (spelled_alone b (spelling b) refl q).1 in
    sym x ∙ ap (λ (octets : List ℕ). labels_at octets 0) e ∙ y

-- Names are the same exactly where their octets are.
pub same_octets : (a b : Labels) → IsLegal a → IsLegal b → (xs ys : List ℕ) → xs ≡ spelling a → ys ≡ spelling b → (r : Bool) → r ≡ pointwise ◌==◌ xs ys
    → r ≡ pointwise (pointwise ◌==◌) a b
same_octets a b p q xs ys x y r told = by r (slice_eq-Decides Decides-eqb xs ys r told)
  where
    by : (r : Bool) → Decides r (xs ≡ ys) → r ≡ pointwise (pointwise ◌==◌) a b
    by true d = sym ((decides_labels a b).1 (spelled_apart a b p q (sym x ∙ d.0 refl ∙ y)))
    by false d = none (pointwise (pointwise ◌==◌) a b) refl
      where
        none : (s : Bool) → pointwise (pointwise ◌==◌) a b ≡ s → false ≡ s
        none false e = refl
        none true e = d.1 (x ∙ ap spelling ((decides_labels a b).0 e) ∙ sym y)
