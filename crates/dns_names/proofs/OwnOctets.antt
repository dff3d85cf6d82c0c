-- What a name owns.
use Rattle.std.proofs.Common.{◌≡◌, ℕ, List, [], ◌∷◌, ◌⊎◌, inl, inr, length, refl, sym, ◌∙◌, ap, subst, arith, eq-eqb}
use Rattle.std.specs.Prelude.{IsTrue, ◌↔◌, ◌==◌}
use Rattle.std.proofs.lemmas.Bool.{eqb-true}
use Rattle.dns_names.specs.Name.{Labels, head_at, walk, name_at, labels_at, octet_count, spelling, IsLegal, IsOwn}
use Rattle.dns_names.proofs.NameLaws.{spelled_alone, spelled_length}
use Rattle.dns_names.proofs.Names.{octets_some}

-- no octets are no labels
none_at : labels_at [] 0 ≡ []
unfolding name_at walk head_at
none_at = refl

no_octets : (octets : List ℕ) → length octets ≡ 0 → octets ≡ []
no_octets [] e = refl
no_octets (x ∷ xs) e = absurd (omega arith)

pub own_none : (octets : List ℕ) → octets ≡ [] → IsOwn octets × (labels_at octets 0 ≡ [])
own_none octets e =
    let none : labels_at octets 0 ≡ [] = ap (λ o. labels_at o 0) e ∙ none_at in
    let P : Labels → Type 0 = λ l. IsLegal l in ((subst P (sym none) (tt, omega arith), inl e), none)

pub root_octets : (octets : List ℕ) (labels : Labels) → length octets ≡ 0 → labels_at octets 0 ≡ labels → ◌≡◌ {A = List ℕ} (0 ∷ []) (spelling labels)
root_octets octets labels e is =
    let none : [] ≡ labels = sym (own_none octets (no_octets octets e)).1 ∙ is in ap spelling none

-- the spelling of a legal name may be owned, and is that name
pub own_spelled : (labels : Labels) (octets : List ℕ) → octets ≡ spelling labels → IsLegal labels → IsOwn octets × (labels_at octets 0 ≡ labels)
own_spelled labels octets e h =
    let same = (spelled_alone labels octets e h).1 in
    let P : Labels → Type 0 = λ l. IsLegal l × ((octets ≡ []) ⊎ (octets ≡ spelling l)) in
    (subst P (sym same) (h, inr e), same)

-- the root alone is spelled by one octet
pub one_octet : (labels : Labels) (octets : List ℕ) → octets ≡ spelling labels → IsTrue (length octets == 1) ↔ (labels ≡ [])
one_octet labels octets e = (λ t. few labels (sym (ap length e ∙ spelled_length labels) ∙ eqb-true (length octets) 1 t), λ n. eq-eqb (length octets) 1 (ap length (e ∙ ap spelling n)))
  where
    few : (ls : Labels) → octet_count ls ≡ 1 → ls ≡ []
    few [] h = refl
    few (l ∷ ls) h = absurd (omega (arith, octets_some ls))
