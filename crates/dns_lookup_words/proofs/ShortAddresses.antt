-- Addresses whose last numbers may be left out: a text writes one at most, and what their names are.
use Rattle.std.proofs.Common.{◌≡◌, ◌≢◌, ◌⊎◌, inl, inr, ◌+◌, ◌-◌, ◌<◌, ◌≤◌, ◌++◌, ℕ, zero, suc, List, [], ◌∷◌, length, take, drop, slice_index_or, codes, refl, ap, sym, subst, ◌∙◌, append_assoc, length-append, add-one, lit≤, arith}
use Rattle.std.proofs.Math.Seq.{drop-append_seam, take-length}
use Rattle.dns_names.specs.Name.{IsLegal, Labels, spelling}
use Rattle.dns_values.proofs.Addresses.{one_address}
use Rattle.dns_values.specs.Address.{IsAddressText}
use Rattle.dns_values.specs.declared.address.IpAddr.{IpAddr}
use Rattle.dns_values.specs.declared.address.IpAddr.TheVariants.{V4, V6}
use Rattle.dns_lookup_words.specs.ShortAddress.{IsAddressWith, IsDottedText, IsShortAddress, zeros}

one_dotted : (text : List ℕ) (a b : IpAddr) → IsDottedText text a → IsDottedText text b → a ≡ b
one_dotted text (V4 x) (V4 y) h k = one_address text (V4 x) (V4 y) h k
one_dotted text (V4 x) (V6 y) h k = absurd k
one_dotted text (V6 x) b h k = absurd h

one_with : (n : ℕ) (text : List ℕ) (a b : IpAddr) → IsAddressWith n text a → IsAddressWith n text b → a ≡ b
one_with zero text a b h k = one_address text a b h k
one_with (suc n) text a b h k = one_dotted (text ++ zeros (suc n)) a b h k

same_count : (m n : ℕ) → (m < n → ⊥) → (n < m → ⊥) → m ≡ n
same_count m n no_less no_more = omega arith

pub same_missing : (text : List ℕ) (m n : ℕ) (a b : IpAddr) → IsShortAddress text m a → IsShortAddress text n b → m ≡ n
same_missing text m n a b h k = same_count m n (λ less. k.least m less a h.address) (λ more. h.least n more b k.address)

pub same_short : (text : List ℕ) (m n : ℕ) (a b : IpAddr) → IsShortAddress text m a → IsShortAddress text n b → a ≡ b
same_short text m n a b h k = one_with n text a b (subst (λ (x : ℕ). IsAddressWith x text a) (same_missing text m n a b h k) h.address) k.address

six_is_four : (groups octets : List ℕ) → V6 groups ≡ V4 octets → ⊥
six_is_four groups octets e = cc

last_or_less : (m n : ℕ) → m ≤ n + 1 → (m ≤ n) ⊎ (m ≡ n + 1)
last_or_less m n few = grind arith

none_at : (text : List ℕ) (n : ℕ) → ((m : ℕ) → m ≤ n → (ip : IpAddr) → IsAddressWith m text ip → ⊥) → ((ip : IpAddr) → IsDottedText (text ++ zeros (n + 1)) ip → ⊥)
    → (m : ℕ) (ip : IpAddr) → IsAddressWith m text ip → (m ≤ n) ⊎ (m ≡ n + 1) → ⊥
none_at text n none last m ip h (inl few) = none m few ip h
none_at text n none last m ip h (inr same) =
    let e : m ≡ suc n = omega arith in
    let k : IsDottedText (text ++ zeros (suc n)) ip = subst (λ (x : ℕ). IsAddressWith x text ip) e h in
    last ip (rw add-one k)

-- one zero more
pub zeros_more : (text : List ℕ) (n : ℕ) → (text ++ zeros n) ++ codes ".0" ≡ text ++ zeros (n + 1)
zeros_more text n = rw (add-one, append_assoc) refl

-- the first label is taken off
pub tail_legal : (labels : Labels) → IsLegal labels → IsLegal (drop 1 labels)
tail_legal [] h = h
tail_legal (label ∷ labels) h = (h.0.1, omega arith)

-- the octets of a name, of which the first label is left out
first_within_all : (labels : Labels) → 1 + slice_index_or (spelling labels) 0 0 ≤ length (spelling labels)
first_within_all [] = lit≤ tt
first_within_all (label ∷ labels) = omega (arith, length-append label (spelling labels))

pub first_within : (octets : List ℕ) (labels : Labels) → octets ≡ spelling labels → 1 + slice_index_or octets 0 0 ≤ length octets
first_within octets labels e = subst (λ (o : List ℕ). 1 + slice_index_or o 0 0 ≤ length o) (sym e) (first_within_all labels)

take_all : (k : ℕ) (xs : List ℕ) → k ≡ length xs → take k xs ≡ xs
take_all k xs e = ap (λ n. take n xs) e ∙ take-length xs

drop_label : (label rest : List ℕ) → drop (1 + length label) (length label ∷ (label ++ rest)) ≡ rest
drop_label label rest =
    let e : 1 + length label ≡ suc (length label) = omega arith in
    ap (λ n. drop n (length label ∷ (label ++ rest))) e ∙ drop-append_seam label rest

tail_spelled_all : (labels : Labels) → labels ≢ [] → take (length (spelling labels) - (1 + slice_index_or (spelling labels) 0 0)) (drop (1 + slice_index_or (spelling labels) 0 0) (spelling labels)) ≡ spelling (drop 1 labels)
tail_spelled_all [] some = absurd (some refl)
tail_spelled_all (label ∷ labels) some =
    let count : length (spelling (label ∷ labels)) - (1 + length label) ≡ length (spelling labels) = omega (arith, length-append label (spelling labels)) in
    ap (take (length (spelling (label ∷ labels)) - (1 + length label))) (drop_label label (spelling labels)) ∙ take_all _ (spelling labels) count

pub tail_spelled : (octets : List ℕ) (labels : Labels) → octets ≡ spelling labels → labels ≢ [] → take (length octets - (1 + slice_index_or octets 0 0)) (drop (1 + slice_index_or octets 0 0) octets) ≡ spelling (drop 1 labels)
tail_spelled octets labels e some =
    subst (λ (o : List ℕ). take (length o - (1 + slice_index_or o 0 0)) (drop (1 + slice_index_or o 0 0) o) ≡ spelling (drop 1 labels)) (sym e) (tail_spelled_all labels some)

-- one label more is taken off
drop_next : (n : ℕ) (labels : Labels) → drop 1 (drop n labels) ≡ drop (suc n) labels
drop_next zero labels = refl
drop_next (suc n) [] = refl
drop_next (suc n) (label ∷ labels) = drop_next n labels

pub drop_more : (n : ℕ) (labels : Labels) → drop 1 (drop n labels) ≡ drop (n + 1) labels
drop_more n labels = rw add-one (drop_next n labels)

-- no address of IPv4 is one of IPv6
pub not_dotted : (text : List ℕ) (groups : List ℕ) (ip : IpAddr) → IsAddressText text (V6 groups) → IsDottedText text ip → ⊥
not_dotted text groups (V4 octets) h k = six_is_four groups octets (one_address text (V6 groups) (V4 octets) h k)
not_dotted text groups (V6 others) h k = k

pub none_dotted : (text : List ℕ) → ((ip : IpAddr) → IsAddressText text ip → ⊥) → (ip : IpAddr) → IsDottedText text ip → ⊥
none_dotted text none (V4 octets) k = none (V4 octets) k
none_dotted text none (V6 groups) k = k

-- with one zero more it is no address either
pub none_more : (text : List ℕ) (n : ℕ) → ((m : ℕ) → m ≤ n → (ip : IpAddr) → IsAddressWith m text ip → ⊥) → ((ip : IpAddr) → IsDottedText (text ++ zeros (n + 1)) ip → ⊥)
    → (m : ℕ) → m ≤ n + 1 → (ip : IpAddr) → IsAddressWith m text ip → ⊥
none_more text n none last m few ip h = none_at text n none last m ip h (last_or_less m n few)

-- or it is one with the fewest
pub some_more : (text : List ℕ) (n : ℕ) (ip : IpAddr) → n < 3 → ((m : ℕ) → m ≤ n → (ip : IpAddr) → IsAddressWith m text ip → ⊥) → IsDottedText (text ++ zeros (n + 1)) ip → IsShortAddress text (n + 1) ip
some_more text n ip few none h = record {
  few = omega arith;
  address = rw add-one (rw add-one at h);
  least = λ m less other k. none m (omega arith) other k;
}
