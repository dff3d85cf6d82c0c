-- What a draft says when a label more is whole, and at its end.
use Rattle.std.proofs.Common.{◌≡◌, ◌≤◌, ◌<◌, ◌+◌, ℕ, List, [], ◌∷◌, ◌++◌, length, refl, sym, ◌∙◌, ap, arith, Bool, true, false, append_assoc, append-nil, length-append}
use Rattle.std.specs.Prelude.{IsTrue, ◌&&◌, nat_le, nat_lt, Ok, Err}
use Rattle.std.specs.List.{AllByRecursion}
use Rattle.std.proofs.lemmas.Bool.{leb-true, ltb-true, le-leb, lt-leb}
use Rattle.dns_names.specs.Name.{Labels, octet_count, spelling, IsLabel, IsLegal}
use Rattle.dns_names.specs.Text.{are_full, are_short, judged, full}
use Rattle.dns_names.specs.Draft.{IsDraft, written}
use Rattle.dns_names.specs.declared.draft.Draft.{Draft}
use Rattle.dns_names.specs.declared.fault.NameFault.TheVariants as Fault

and_assoc : (a b c : Bool) → (a && (b && c)) ≡ ((a && b) && c)
and_assoc true b c = refl
and_assoc false b c = refl

and_true : (a : Bool) → (a && true) ≡ a
and_true true = refl
and_true false = refl

both : (a b : Bool) → (a && b) ≡ true → (a ≡ true) × (b ≡ true)
both true true e = (refl, refl)
both true false e = absurd cc
both false b e = absurd cc

full_last : (labels : Labels) (label : List ℕ) → are_full (labels ++ label ∷ []) ≡ (are_full labels && nat_lt 0 (length label))
full_last [] label = and_true (nat_lt 0 (length label))
full_last (l ∷ ls) label = ap (λ b. nat_lt 0 (length l) && b) (full_last ls label) ∙ and_assoc (nat_lt 0 (length l)) (are_full ls) (nat_lt 0 (length label))

short_last : (labels : Labels) (label : List ℕ) → are_short (labels ++ label ∷ []) ≡ (are_short labels && nat_le (length label) 63)
short_last [] label = and_true (nat_le (length label) 63)
short_last (l ∷ ls) label = ap (λ b. nat_le (length l) 63 && b) (short_last ls label) ∙ and_assoc (nat_le (length l) 63) (are_short ls) (nat_le (length label) 63)

pub written_last : (labels : Labels) (label : List ℕ) → written (labels ++ label ∷ []) ≡ written labels ++ (length label ∷ label)
written_last [] label = ap (λ l. length label ∷ l) (append-nil label)
written_last (l ∷ ls) label = ap (λ o. length l ∷ l ++ o) (written_last ls label) ∙ ap (λ o. length l ∷ o) (sym (append_assoc l (written ls) (length label ∷ label)))

pub written_more : (a b : Labels) → written (a ++ b) ≡ written a ++ written b
written_more [] b = refl
written_more (l ∷ ls) b = ap (λ o. length l ∷ l ++ o) (written_more ls b) ∙ ap (λ o. length l ∷ o) (sym (append_assoc l (written ls) (written b)))

pub written_root : (labels : Labels) → written labels ++ 0 ∷ [] ≡ spelling labels
written_root [] = refl
written_root (l ∷ ls) = ap (λ o. length l ∷ o) (append_assoc l (written ls) (0 ∷ []) ∙ ap (λ o. l ++ o) (written_root ls))

pub written_length : (labels : Labels) → length (written labels) + 1 ≡ octet_count labels
written_length [] = refl
written_length (l ∷ ls) = omega (arith, length-append l (written ls), written_length ls)

-- one label more is whole
pub ended : (d e : Draft) (labels : Labels) (label : List ℕ) → IsDraft d labels
    → e.is_full ≡ (d.is_full && nat_lt 0 (length label)) → e.is_short ≡ (d.is_short && nat_le (length label) 63)
    → (IsTrue e.is_short → e.octets.items ≡ d.octets.items ++ (length label ∷ label))
    → IsDraft e (labels ++ label ∷ [])
ended d e labels label is f s k = record {
  full = f ∙ ap (λ b. b && nat_lt 0 (length label)) is.full ∙ sym (full_last labels label);
  short = s ∙ ap (λ b. b && nat_le (length label) 63) is.short ∙ sym (short_last labels label);
  kept = λ t. k t ∙ ap (λ o. o ++ (length label ∷ label)) (is.kept (both d.is_short (nat_le (length label) 63) (sym s ∙ t)).0) ∙ sym (written_last labels label);
}

-- the labels of a draft that is full and short
legal_labels : (labels : Labels) → are_full labels ≡ true → are_short labels ≡ true → AllByRecursion IsLabel labels
legal_labels [] f s = tt
legal_labels (l ∷ ls) f s =
    let f' = both (nat_lt 0 (length l)) (are_full ls) f in
    let s' = both (nat_le (length l) 63) (are_short ls) s in
    let some : 0 < length l = ltb-true 0 (length l) f'.0 in
    let few : length l ≤ 63 = leb-true (length l) 63 s'.0 in
    ((some, omega arith), legal_labels ls f'.1 s'.1)

pub octets_of : (d : Draft) (labels : Labels) → IsDraft d labels → d.is_short ≡ true → length d.octets.items + 1 ≡ octet_count labels
octets_of d labels is s = ap (λ o. length o + 1) (is.kept s) ∙ written_length labels

pub judged_long : (d : Draft) (labels : Labels) → IsDraft d labels → d.is_full ≡ true → d.is_short ≡ true → 254 < length d.octets.items
    → judged (full labels) ≡ Err Fault.Long
judged_long d labels is f s long =
    let over : 255 < octet_count labels = omega (arith, octets_of d labels is s) in
    let f' : are_full labels ≡ true = sym is.full ∙ f in
    let s' : are_short labels ≡ true = sym is.short ∙ s in
    rw (f', s', lt-leb (octet_count labels) 255 over) refl

pub judged_fit : (d : Draft) (labels : Labels) → IsDraft d labels → d.is_full ≡ true → d.is_short ≡ true → length d.octets.items ≤ 254
    → (judged (full labels) ≡ Ok labels) × IsLegal labels
judged_fit d labels is f s short =
    let fits : octet_count labels ≤ 255 = omega (arith, octets_of d labels is s) in
    let f' : are_full labels ≡ true = sym is.full ∙ f in
    let s' : are_short labels ≡ true = sym is.short ∙ s in
    (rw (f', s', le-leb (octet_count labels) 255 fits) refl, (legal_labels labels f' s', fits))

pub spells : (d : Draft) (labels : Labels) (octets : List ℕ) → IsDraft d labels → d.is_short ≡ true → octets ≡ d.octets.items ++ 0 ∷ [] → octets ≡ spelling labels
spells d labels octets is s e = e ∙ ap (λ o. o ++ 0 ∷ []) (is.kept s) ∙ written_root labels
