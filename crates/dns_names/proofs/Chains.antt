-- Names that are chained.
use Rattle.std.proofs.Common.{◌≡◌, ◌≤◌, ◌<◌, ◌+◌, ◌-◌, ℕ, List, [], ◌∷◌, ◌++◌, length, take, sym, ◌∙◌, ap, arith, append_assoc}
use Rattle.std.specs.List.{AllByRecursion}
use Rattle.std.proofs.lemmas.List.{take_at}
use Rattle.dns_names.specs.Name.{Labels, octet_count, spelling, IsLabel, IsLegal}
use Rattle.dns_names.specs.Draft.{written}
use Rattle.dns_names.proofs.Drafts.{written_more, written_root, written_length}
use Rattle.dns_names.proofs.NameLaws.{spelled_length}
use Rattle.dns_names.proofs.Names.{octets_some}

pub octet_more : (a b : Labels) → octet_count (a ++ b) + 1 ≡ octet_count a + octet_count b
octet_more [] b = omega arith
octet_more (l ∷ ls) b = omega (arith, octet_more ls b)

legal_more : (a b : Labels) → AllByRecursion IsLabel a → AllByRecursion IsLabel b → AllByRecursion IsLabel (a ++ b)
legal_more [] b h k = k
legal_more (l ∷ ls) b h k = (h.0, legal_more ls b h.1 k)

-- the octets of a name but for the root's
pub front_octets : (labels : Labels) (octets : List ℕ) → octets ≡ spelling labels → take (length octets - 1) octets ≡ written labels
front_octets labels octets e =
    let apart : octets ≡ written labels ++ 0 ∷ [] = e ∙ sym (written_root labels) in
    let long : length (written labels) ≡ length octets - 1 = omega (arith, ap length e, spelled_length labels, written_length labels) in
    ap (λ o. take (length octets - 1) o) apart ∙ take_at (written labels) (0 ∷ []) (length octets - 1) long

pub some_octets : (labels : Labels) (octets : List ℕ) → octets ≡ spelling labels → 1 ≤ length octets
some_octets labels octets e = omega (arith, ap length e, spelled_length labels, octets_some labels)

pub over : (a b : Labels) (front back : List ℕ) → front ≡ spelling a → back ≡ spelling b → 255 < length front - 1 + length back → 255 < octet_count (a ++ b)
over a b front back e f long =
    omega (arith, ap length e, ap length f, spelled_length a, spelled_length b, octet_more a b, octets_some a)

pub chained : (a b : Labels) (front back octets : List ℕ) → front ≡ spelling a → back ≡ spelling b → length front - 1 + length back ≤ 255
    → IsLegal a → IsLegal b → octets ≡ take (length front - 1) front ++ back → IsLegal (a ++ b) × (octets ≡ spelling (a ++ b))
chained a b front back octets e f fits h k is =
    let count : octet_count (a ++ b) ≤ 255 = omega (arith, ap length e, ap length f, spelled_length a, spelled_length b, octet_more a b, octets_some a) in
    let joined : octets ≡ written a ++ (written b ++ 0 ∷ []) = is ∙ ap (λ o. o ++ back) (front_octets a front e) ∙ ap (λ o. written a ++ o) (f ∙ sym (written_root b)) in
    ((legal_more a b h.0 k.0, count), joined ∙ sym (append_assoc (written a) (written b) (0 ∷ [])) ∙ ap (λ o. o ++ 0 ∷ []) (sym (written_more a b)) ∙ written_root (a ++ b))
