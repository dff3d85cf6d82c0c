-- A label that is written out, as it is read.
use Rattle.std.proofs.Common.{◌≡◌, ℕ, ◌+◌, ◌≤◌, List, [], ◌∷◌, ◌++◌, length, refl, ap, sym, subst, arith, Bool, true, false, length-append}
use Rattle.std.specs.Prelude.{Option, Some, nat_lt, slice_get, slice_range}
use Rattle.std.specs.List.{AllByRecursion}
use Rattle.dns_names.specs.declared.name.Head.TheVariants.{Label}
use Rattle.dns_names.specs.Name.{Labels, Says, says_label, IsName, at_label, IsLabel, IsLegal, name_at, octet_count}
use Rattle.dns_names.proofs.NameLaws.{name_is_read, name_labels, few_labels}
use Rattle.dns_base.specs.Compression.{remembered}
use Rattle.dns_base.proofs.Stands.{Stands, first_stands, second_stands, range_stands, stands_within}

octet_here : (front back : List ℕ) (x at : ℕ) → length front ≡ at → slice_get (front ++ (x ∷ back)) at ≡ Some x
octet_here [] back x at e = rw (← e) refl
octet_here (y ∷ front) back x at e = rw (← e) (octet_here front back x (length front) refl)

octet_stands : (o : List ℕ) (x at : ℕ) (xs : List ℕ) → Stands o at (x ∷ xs) → slice_get o at ≡ Some x
octet_stands o x at xs s = rw s.is (octet_here s.front (xs ++ s.back) x at s.long)

label_says : (o label xs : List ℕ) (at : ℕ) → IsLabel label → Stands o at (length label ∷ label ++ xs) → Says o at (Label (length label))
label_says o label xs at h s =
    says_label (length label) (octet_stands o (length label) at (label ++ xs) s) h.0 h.1 (omega (arith, stands_within o (length label ∷ label ++ xs) at s, length-append label xs))

label_is : (o label xs : List ℕ) (at : ℕ) → Stands o at (length label ∷ label ++ xs) → slice_range o (at + 1) (at + 1 + length label) ≡ label
label_is o label xs at s =
    let behind = second_stands o (length label ∷ []) (label ++ xs) at (at + 1) s refl in
    range_stands o label (at + 1) (at + 1 + length label) (first_stands o label xs (at + 1) behind) refl

pub rest_stands : (o label xs : List ℕ) (at : ℕ) → Stands o at (length label ∷ label ++ xs) → Stands o (at + 1 + length label) xs
rest_stands o label xs at s = second_stands o (length label ∷ label) xs at (at + 1 + length label) s (omega arith)

pub name_label : (o label : List ℕ) (rest xs : List ℕ) (at end pointers : ℕ) (labels : Labels) → IsLabel label → Stands o at (length label ∷ label ++ xs) → IsName o (at + 1 + length label) labels end pointers
    → IsName o at (label ∷ labels) end pointers
name_label o label rest xs at end pointers labels h s i =
    subst (λ l. IsName o at (l ∷ labels) end pointers) (label_is o label xs at s) (at_label at (length label) labels end pointers (label_says o label xs at h s) i)

-- what is a name is read, within its limits
pub back_read : (o : List ℕ) (at end pointers : ℕ) (back : Labels) → IsName o at back end pointers → pointers ≤ length back → octet_count back ≤ 255
    → name_at o at ≡ Some (record { labels = back; end = end; pointers = pointers })
back_read o at end pointers back i few short =
    let count = few_labels back (name_labels o at back end pointers i) in
    name_is_read o at back end pointers i (omega arith) short

pub remembered_are : (P : ℕ → Type 0) (at : ℕ) (places : List ℕ) → P at → AllByRecursion P places → AllByRecursion P (remembered at places)
remembered_are P at places h rest = go (nat_lt at 16384) refl
  where
    go : (b : Bool) → nat_lt at 16384 ≡ b → AllByRecursion P (remembered at places)
    go true e = rw e (h, rest)
    go false e = rw e rest

pub shorter : (label : List ℕ) (labels : Labels) → IsLegal (label ∷ labels) → IsLegal labels
shorter label labels h = (h.0.1, omega (arith, h.1))
