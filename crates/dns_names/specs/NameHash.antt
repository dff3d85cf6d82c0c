-- What is hashed of a name: each label in lower case, with its length.
use Rattle.std.specs.Prelude.{◌≡◌, ℕ, Bool, true, false, ◌&&◌, ◌==◌, List, [], ◌∷◌, IsTrue}
use Rattle.std.specs.List.{flat_map}
use Rattle.std.specs.Cmp.Lexicographic.{pointwise}
use Rattle.std.specs.Hash as fed
use Rattle.std.proofs.Common.{refl, ap}
use Rattle.std.proofs.lemmas.Bool.{eqb-true}
use Rattle.dns_names.specs.Name.{Labels, lowered, same_name}

abbrev pub labels_hash : Labels → List (List ℕ)
labels_hash labels = flat_map (fed.slice fed.u8) labels

abbrev pub name_hash : Labels → List (List ℕ)
name_hash labels = labels_hash (lowered labels)

both : (a b : Bool) → (a && b) ≡ true → (a ≡ true) × (b ≡ true)
both true true e = (refl, refl)
both true false e = absurd cc
both false b e = absurd cc

octets_same : (xs ys : List ℕ) → pointwise ◌==◌ xs ys ≡ true → xs ≡ ys
octets_same [] [] e = refl
octets_same [] (y ∷ ys) e = absurd cc
octets_same (x ∷ xs) [] e = absurd cc
octets_same (x ∷ xs) (y ∷ ys) e = let p = both (x == y) (pointwise ◌==◌ xs ys) e in let h = eqb-true x y p.0 in let t = octets_same xs ys p.1 in cc

labels_same : (xs ys : Labels) → pointwise (pointwise ◌==◌) xs ys ≡ true → xs ≡ ys
labels_same [] [] e = refl
labels_same [] (y ∷ ys) e = absurd cc
labels_same (x ∷ xs) [] e = absurd cc
labels_same (x ∷ xs) (y ∷ ys) e =
    let p = both (pointwise ◌==◌ x y) (pointwise (pointwise ◌==◌) xs ys) e in let h = octets_same x y p.0 in let t = labels_same xs ys p.1 in cc

-- Two names are the same exactly where they are equal in lower case.
pub same_lowered : (a b : Labels) → IsTrue (same_name a b) → lowered a ≡ lowered b
same_lowered a b e = labels_same (lowered a) (lowered b) e

pub same_hash : (a b : Labels) → IsTrue (same_name a b) → name_hash a ≡ name_hash b
same_hash a b e = ap labels_hash (same_lowered a b e)
