-- Where the first octets of two owners differ as numbers, their records are ordered so.
use Rattle.std.proofs.Common.{◌≡◌, ◌<◌, ◌≤◌, ◌*◌, ◌^◌, ℕ, zero, suc, List, [], ◌∷◌, get_or, refl, sym, ap, subst, ◌∙◌, arith, inl, inr}
use Rattle.std.proofs.lemmas.Bool.{cases_lt}
use Rattle.std.specs.declared.cmp.Ordering.TheVariants.{Less, Equal, Greater}
use Rattle.std.specs.Cmp.{nat_cmp_is, ranks}
use Rattle.std.specs.Ordering.{MatchOrdering, nat_cmp, ordering_reverse, ordering_then}
use Rattle.zone_records.specs.Heads.{octets_from}
use Rattle.zone_records.specs.Records.{octets_cmp, record_cmp, record_total, type_cmp}
use Rattle.zone_records.specs.declared.record.ZoneRecord.{ZoneRecord}

abbrev AreOctets : List ℕ → Type 0
AreOctets xs = (i : ℕ) → get_or xs i 0 < 256

-- ---- so many octets are few enough for a number

abbrev pub limit : ℕ → ℕ
limit zero = 1
limit (suc n) = limit n * 256

pub below_limit : (n : ℕ) (xs : List ℕ) → AreOctets xs → octets_from n xs < limit n
below_limit zero xs b = omega arith
below_limit (suc n) xs b = omega (arith, below_limit n xs b, b n)

most : (n : ℕ) → n < 8 → limit n ≤ 2 ^ 56
most zero h = omega arith
most (suc zero) h = omega arith
most (suc (suc zero)) h = omega arith
most (suc (suc (suc zero))) h = omega arith
most (suc (suc (suc (suc zero)))) h = omega arith
most (suc (suc (suc (suc (suc zero))))) h = omega arith
most (suc (suc (suc (suc (suc (suc zero)))))) h = omega arith
most (suc (suc (suc (suc (suc (suc (suc zero))))))) h = omega arith
most (suc (suc (suc (suc (suc (suc (suc (suc n)))))))) h = absurd (omega arith)

pub one_octet_more : (n : ℕ) (xs : List ℕ) → n < 8 → AreOctets xs → octets_from n xs < 2 ^ 56
one_octet_more n xs l b = omega (arith, below_limit n xs b, most n l)

pub room_for : (n head : ℕ) (xs : List ℕ) → head ≡ octets_from n xs → n < 8 → AreOctets xs → head < 2 ^ 56
room_for n head xs e l b = omega (arith, e, one_octet_more n xs l b)

-- ---- what differs first decides

alike_before : (n : ℕ) (xs ys : List ℕ) → AreOctets xs → AreOctets ys → octets_from n xs ≡ octets_from n ys → (i : ℕ) → i < n → get_or xs i 0 ≡ get_or ys i 0
alike_before zero xs ys b c e i l = absurd (omega arith)
alike_before (suc n) xs ys b c e i l =
    let front : octets_from n xs ≡ octets_from n ys = omega (arith, e, b n, c n) in
    let last : get_or xs n 0 ≡ get_or ys n 0 = omega (arith, e, b n, c n) in
    elim (cases_lt i n) [
      | inl less ↦ alike_before n xs ys b c front i less
      | inr more ↦ let same : i ≡ n = omega arith in rw same last
    ]

first_less : (n : ℕ) (xs ys : List ℕ) → ((i : ℕ) → i < n → get_or xs i 0 ≡ get_or ys i 0) → get_or xs n 0 < get_or ys n 0 → octets_cmp xs ys ≡ Less
first_less n xs [] same less = absurd (omega (arith, less))
first_less n [] (y ∷ ys) same less = refl
first_less zero (x ∷ xs) (y ∷ ys) same less = ap (λ o. ordering_then o (octets_cmp xs ys)) (sym (nat_cmp_is x y Less less))
first_less (suc n) (x ∷ xs) (y ∷ ys) same less =
    ap (λ o. ordering_then o (octets_cmp xs ys)) (sym (nat_cmp_is x y Equal (same 0 (omega arith)))) ∙ first_less n xs ys (λ i l. same (suc i) (omega (arith, l))) less

pub less_from : (n : ℕ) (xs ys : List ℕ) → AreOctets xs → AreOctets ys → octets_from n xs < octets_from n ys → octets_cmp xs ys ≡ Less
less_from zero xs ys b c less = absurd (omega (arith, less))
less_from (suc n) xs ys b c less =
    elim (cases_lt (octets_from n xs) (octets_from n ys)) [
      | inl l ↦ less_from n xs ys b c l
      | inr le ↦
          let same : octets_from n xs ≡ octets_from n ys = omega (arith, le, less, b n, c n) in
          let last : get_or xs n 0 < get_or ys n 0 = omega (arith, same, less) in
          first_less n xs ys (alike_before n xs ys b c same) last
    ]

-- ---- records

is_less : (x y : ℕ) → nat_cmp x y ≡ Less → x < y
is_less x y e = subst (λ r. MatchOrdering r (x < y) (x ≡ y) (y < x)) e (ranks x y)

is_greater : (x y : ℕ) → nat_cmp x y ≡ Greater → y < x
is_greater x y e = subst (λ r. MatchOrdering r (x < y) (x ≡ y) (y < x)) e (ranks x y)

pub decided_less : (a b : ZoneRecord) (h k : ℕ) → AreOctets a.owner → AreOctets b.owner → h ≡ octets_from 8 a.owner → k ≡ octets_from 8 b.owner → nat_cmp h k ≡ Less → Less ≡ record_cmp a b
decided_less a b h k s t p q e =
    let less : octets_from 8 a.owner < octets_from 8 b.owner = omega (arith, is_less h k e, p, q) in
    sym (ap (λ o. ordering_then o (type_cmp a b)) (less_from 8 a.owner b.owner s t less))

pub decided_greater : (a b : ZoneRecord) (h k : ℕ) → AreOctets a.owner → AreOctets b.owner → h ≡ octets_from 8 a.owner → k ≡ octets_from 8 b.owner → nat_cmp h k ≡ Greater → Greater ≡ record_cmp a b
decided_greater a b h k s t p q e =
    let more : octets_from 8 b.owner < octets_from 8 a.owner = omega (arith, is_greater h k e, p, q) in
    sym (record_total.antisymm a b ∙ ap (λ o. ordering_reverse (ordering_then o (type_cmp b a))) (less_from 8 b.owner a.owner t s more))
