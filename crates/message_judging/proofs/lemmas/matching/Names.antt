-- Names and octets that are compared.
use Rattle.std.proofs.Common.{◌≡◌, ℕ, Bool, true, false, ◌&&◌, ◌==◌, List, [], ◌∷◌, refl, sym, ap, ◌∙◌, arith}
use Rattle.std.specs.Prelude.{◌↔◌, IsTrue, Option, Some, None, option_map}
use Rattle.std.specs.Cmp.Lexicographic.{pointwise}
use Rattle.std.proofs.lemmas.Bool.{eqb-true}
use Rattle.std.proofs.lemmas.Bool.Decides.{nat_tests}
use Rattle.dns_names.specs.Name.{Labels, lowered, same_name}
use Rattle.dns_names.specs.NameHash.{same_lowered}
use Rattle.message_judging.specs.matching.Shapes.{same_octets, same_found}

-- what tells the root's name is what compares with it
pub is_root_name : (l : Labels) (b : Bool) → (IsTrue b ↔ (l ≡ [])) → same_name l [] ≡ b
is_root_name [] true e = refl
is_root_name [] false e = absurd (let z = e.1 refl in cc)
is_root_name (x ∷ l) true e = absurd (let z = e.0 refl in cc)
is_root_name (x ∷ l) false e = refl

pub both : (a b : Bool) → (a && b) ≡ true → (a ≡ true) × (b ≡ true)
both true true e = (refl, refl)
both true false e = absurd (cc)
both false b e = absurd (cc)

pub all : (a b : Bool) → a ≡ true → b ≡ true → (a && b) ≡ true
all a b e f = ap (λ a. a && b) e ∙ f

pub same_number : (a b : ℕ) → a ≡ b → (a == b) ≡ true
same_number a b e = grind (arith, nat_tests)

pub number_same : (a b : ℕ) → (a == b) ≡ true → a ≡ b
number_same a b e = eqb-true a b e

pub octets_same : (xs ys : List ℕ) → same_octets xs ys ≡ true → xs ≡ ys
octets_same [] [] e = refl
octets_same [] (y ∷ ys) e = absurd (cc)
octets_same (x ∷ xs) [] e = absurd (cc)
octets_same (x ∷ xs) (y ∷ ys) e = let p = both (x == y) (same_octets xs ys) e in let h = eqb-true x y p.0 in let t = octets_same xs ys p.1 in cc

own_octets : (xs : List ℕ) → same_octets xs xs ≡ true
own_octets [] = refl
own_octets (x ∷ xs) = all (x == x) (same_octets xs xs) (same_number x x refl) (own_octets xs)

pub same_octets_are : (xs ys : List ℕ) → xs ≡ ys → same_octets xs ys ≡ true
same_octets_are xs ys e = ap (same_octets xs) (sym e) ∙ own_octets xs

own_labels : (xs : Labels) → pointwise (pointwise ◌==◌) xs xs ≡ true
own_labels [] = refl
own_labels (x ∷ xs) = all (pointwise ◌==◌ x x) (pointwise (pointwise ◌==◌) xs xs) (own_octets x) (own_labels xs)

pub name_same : (a b : Labels) → same_name a b ≡ true → lowered a ≡ lowered b
name_same a b e = same_lowered a b e

pub same_names_are : (a b : Labels) → lowered a ≡ lowered b → same_name a b ≡ true
same_names_are a b e = ap (pointwise (pointwise ◌==◌) (lowered a)) (sym e) ∙ own_labels (lowered a)

pub found_same : (a b : Option Labels) → same_found a b ≡ true → option_map lowered a ≡ option_map lowered b
found_same (Some a) (Some b) e = ap Some (name_same a b e)
found_same None None e = refl
found_same (Some a) None e = absurd (cc)
found_same None (Some b) e = absurd (cc)

pub same_found_are : (a b : Option Labels) → option_map lowered a ≡ option_map lowered b → same_found a b ≡ true
same_found_are (Some a) (Some b) e = same_names_are a b (let f : Some (lowered a) ≡ Some (lowered b) = e in cc)
same_found_are None None e = refl
same_found_are (Some a) None e = absurd (let f : Some (lowered a) ≡ None = e in cc)
same_found_are None (Some b) e = absurd (let f : None ≡ Some (lowered b) = e in cc)
