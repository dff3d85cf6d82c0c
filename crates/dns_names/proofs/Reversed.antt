-- The names of addresses.
use Rattle.std.proofs.Common.{◌≡◌, ◌≤◌, ◌<◌, ◌+◌, ◌*◌, ◌^◌, ℕ, List, [], ◌∷◌, ◌++◌, length, take, map, get_or, refl, sym, ◌∙◌, ap, arith, append_assoc, decimal, subst}
use Rattle.std.specs.List.{AllByRecursion, flat_map}
use Rattle.std.proofs.lemmas.List.{take_more, take_all}
use Rattle.std.proofs.lemmas.Fmt.{decimal_nonempty, length-decimal-le}
use Rattle.dns_names.specs.Name.{Labels, octet_count, spelling, IsLabel, IsLegal}
use Rattle.dns_names.specs.Draft.{written}
use Rattle.dns_names.specs.Reverse.{digit_labels, IsDecimal}
use Rattle.dns_names.proofs.Drafts.{written_last, written_more, written_root}

map_next : (xs : List ℕ) (x : ℕ) → map decimal (xs ++ x ∷ []) ≡ map decimal xs ++ decimal x ∷ []
map_next [] x = refl
map_next (y ∷ ys) x = ap (λ l. decimal y ∷ l) (map_next ys x)

digits_next : (xs : List ℕ) (x : ℕ) → flat_map digit_labels (xs ++ x ∷ []) ≡ flat_map digit_labels xs ++ digit_labels x
digits_next [] x = refl
digits_next (y ∷ ys) x = ap (λ l. digit_labels y ++ l) (digits_next ys x)

-- one address octet more, and one group more
pub octet_next : (xs old new : List ℕ) (i : ℕ) → i < length xs → old ≡ written (map decimal (take i xs))
    → new ≡ old ++ (length (decimal (get_or xs i 0)) ∷ decimal (get_or xs i 0)) → new ≡ written (map decimal (take (i + 1) xs))
octet_next xs old new i h e f =
    f ∙ ap (λ o. o ++ (length (decimal (get_or xs i 0)) ∷ decimal (get_or xs i 0))) e ∙ sym (written_last (map decimal (take i xs)) (decimal (get_or xs i 0)))
    ∙ ap written (sym (ap (map decimal) (take_more xs i 0 h) ∙ map_next (take i xs) (get_or xs i 0)))

pub group_next : (xs old new : List ℕ) (i : ℕ) → i < length xs → old ≡ written (flat_map digit_labels (take i xs))
    → new ≡ old ++ written (digit_labels (get_or xs i 0)) → new ≡ written (flat_map digit_labels (take (i + 1) xs))
group_next xs old new i h e f =
    f ∙ ap (λ o. o ++ written (digit_labels (get_or xs i 0))) e ∙ sym (written_more (flat_map digit_labels (take i xs)) (digit_labels (get_or xs i 0)))
    ∙ ap written (sym (ap (flat_map digit_labels) (take_more xs i 0 h) ∙ digits_next (take i xs) (get_or xs i 0)))

-- two labels behind, and the root
pub ends : (labels : Labels) (first second octets : List ℕ)
    → octets ≡ ((written labels ++ (length first ∷ first)) ++ (length second ∷ second)) ++ 0 ∷ []
    → octets ≡ spelling (labels ++ first ∷ second ∷ [])
ends labels first second octets e =
    e ∙ ap (λ o. (o ++ (length second ∷ second)) ++ 0 ∷ []) (sym (written_last labels first))
    ∙ ap (λ o. o ++ 0 ∷ []) (sym (written_last (labels ++ first ∷ []) second)) ∙ written_root ((labels ++ first ∷ []) ++ second ∷ [])
    ∙ ap spelling (append_assoc labels (first ∷ []) (second ∷ []))

all_last : (labels : Labels) (label : List ℕ) → AllByRecursion IsDecimal labels → IsDecimal label → AllByRecursion IsDecimal (labels ++ label ∷ [])
all_last [] label h k = (k, tt)
all_last (l ∷ ls) label h k = (h.0, all_last ls label h.1 k)

pub decimal_is_short : (n : ℕ) → n < 2 ^ 8 → IsDecimal (decimal n)
decimal_is_short n small =
    let fits : n < 2 ^ 64 = omega arith in
    (decimal_nonempty n fits, length-decimal-le 3 n (omega arith) (omega arith) fits)

pub decimal_next : (xs : List ℕ) (i : ℕ) → i < length xs → IsDecimal (decimal (get_or xs i 0)) → AllByRecursion IsDecimal (map decimal (take i xs))
    → AllByRecursion IsDecimal (map decimal (take (i + 1) xs))
decimal_next xs i h one all =
    let P : Labels → Type 0 = λ l. AllByRecursion IsDecimal l in
    subst P (sym (ap (map decimal) (take_more xs i 0 h) ∙ map_next (take i xs) (get_or xs i 0))) (all_last (map decimal (take i xs)) (decimal (get_or xs i 0)) all one)

decimals_legal : (octets : List ℕ) (back : Labels) → AllByRecursion IsDecimal (map decimal octets) → AllByRecursion IsLabel back
    → AllByRecursion IsLabel (map decimal octets ++ back) × (octet_count (map decimal octets ++ back) ≤ 4 * length octets + octet_count back)
decimals_legal [] back h k = (k, omega arith)
decimals_legal (x ∷ xs) back h k =
    let rest = decimals_legal xs back h.1 k in
    let few : length (decimal x) ≤ 3 = h.0.1 in
    (((h.0.0, omega arith), rest.0), omega arith)

digits_legal : (groups : List ℕ) (back : Labels) → AllByRecursion IsLabel back
    → AllByRecursion IsLabel (flat_map digit_labels groups ++ back) × (octet_count (flat_map digit_labels groups ++ back) ≡ 8 * length groups + octet_count back)
digits_legal [] back k = (k, omega arith)
digits_legal (x ∷ xs) back k =
    let rest = digits_legal xs back k in
    let one : (0 < 1) × (1 < 64) = (omega arith, omega arith) in
    ((one, (one, (one, (one, rest.0)))), omega arith)

whole_list : (xs : List ℕ) (i : ℕ) → length xs ≤ i → take i xs ≡ xs
whole_list xs i h = take_all i xs h

-- the whole name of an address
pub decimal_ends : (xs items all : List ℕ) (i : ℕ) (first second : List ℕ) → items ≡ written (map decimal (take i xs)) → AllByRecursion IsDecimal (map decimal (take i xs))
    → length xs ≤ i → length xs ≤ 4 → IsLabel first → IsLabel second → length first + length second ≤ 20
    → all ≡ ((items ++ (length first ∷ first)) ++ (length second ∷ second)) ++ 0 ∷ []
    → IsLegal (map decimal xs ++ first ∷ second ∷ []) × (all ≡ spelling (map decimal xs ++ first ∷ second ∷ []))
decimal_ends xs items all i first second e h n few one two small f =
    let same : take i xs ≡ xs = whole_list xs i n in
    let P : List ℕ → Type 0 = λ l. AllByRecursion IsDecimal (map decimal l) in
    let legal = decimals_legal xs (first ∷ second ∷ []) (subst P same h) (one, (two, tt)) in
    ((legal.0, omega arith), ends (map decimal xs) first second all (f ∙ ap (λ o. ((o ++ (length first ∷ first)) ++ (length second ∷ second)) ++ 0 ∷ []) (e ∙ ap (λ l. written (map decimal l)) same)))

pub digit_ends : (xs items all : List ℕ) (i : ℕ) (first second : List ℕ) → items ≡ written (flat_map digit_labels (take i xs))
    → length xs ≤ i → length xs ≤ 8 → IsLabel first → IsLabel second → length first + length second ≤ 20
    → all ≡ ((items ++ (length first ∷ first)) ++ (length second ∷ second)) ++ 0 ∷ []
    → IsLegal (flat_map digit_labels xs ++ first ∷ second ∷ []) × (all ≡ spelling (flat_map digit_labels xs ++ first ∷ second ∷ []))
digit_ends xs items all i first second e n few one two small f =
    let same : take i xs ≡ xs = whole_list xs i n in
    let legal = digits_legal xs (first ∷ second ∷ []) (one, (two, tt)) in
    ((legal.0, omega arith), ends (flat_map digit_labels xs) first second all (f ∙ ap (λ o. ((o ++ (length first ∷ first)) ++ (length second ∷ second)) ++ 0 ∷ []) (e ∙ ap (λ l. written (flat_map digit_labels l)) same)))
