-- Data that has a form: what is read of it has the form, and what is written is read.
use Rattle.std.proofs.Common.{◌≡◌, ℕ, zero, suc, ◌+◌, ◌-◌, ◌<◌, ◌≤◌, List, [], ◌∷◌, ◌++◌, length, take, drop, refl, ap, sym, ◌∙◌, subst, arith, length-append, append_assoc, Bool, true, false, eq-eqb}
use Rattle.std.specs.Prelude.{Option, Some, None, option_map, slice_range, ◌==◌, ◌&&◌, ◌||◌, if◌then◌else◌, nat_le}
use Rattle.std.proofs.lemmas.Bool.{le-leb, leb-true, eqb-true}
use Rattle.std.proofs.lemmas.List.{length-take-le, length-take, length-drop, drop-take, take-take, drop-append-le}
use Rattle.dns_names.specs.Name.{Labels, Found, name_at, IsLegal, spelling, octet_count}
use Rattle.dns_names.proofs.Heads.{then_ok, none_some}
use Rattle.dns_names.proofs.NameLaws.{spelled_length, read_within}
use Rattle.dns_base.specs.Forms.{Form, NamedData, Second, form_of, strings_size, size_before, second_at, ends_so, parts_to, named_to, second_spelling, named_spelling, second_size, named_size, is_size, is_second, has_form}
use Rattle.dns_base.specs.Data.{Named, data_at, formed_to}
use Rattle.dns_base.specs.Holding.{IsLegalSecond}
use Rattle.dns_base.proofs.Stands.{Stands, first_stands, second_stands, range_stands, name_stands}

mapped : {A B : Type 0} → (f : A → B) (o : Option A) (y : B) → option_map f o ≡ Some y → (x : A) × (o ≡ Some x) × (f x ≡ y)
mapped f None y e = none_some e
mapped f (Some x) y e = (x, refl, cc)

tested : {A : Type 0} → (b : Bool) (o : Option A) (y : A) → (if b then o else None) ≡ Some y → (b ≡ true) × (o ≡ Some y)
tested true o y e = (refl, e)
tested false o y e = none_some e

-- A name ends behind its beginning.

pub name_ends : (octets : List ℕ) (at : ℕ) (read : Labels × ℕ) → Some read ≡ option_map (λ (f : Found). (f.labels, f.end)) (name_at octets at) → at < read.1
name_ends octets at read e =
    let m = mapped (λ (f : Found). (f.labels, f.end)) (name_at octets at) read (sym e) in
    let same : m.0.end ≡ read.1 = ap (λ (r : Labels × ℕ). r.1) m.2 in
    omega (arith, read_within octets at m.0 m.1)

-- how many octets are written

second_long : (second : Option Labels) → length (second_spelling second) ≡ second_size second
second_long None = refl
second_long (Some name) = spelled_length name

pub named_long : (it : NamedData) → length (named_spelling it) ≡ named_size it
named_long it =
    let F : List ℕ = spelling it.first in
    let S : List ℕ = second_spelling it.second in
    omega (arith, length-append (it.before ++ F ++ S) it.behind, length-append (it.before ++ F) S, length-append it.before F, spelled_length it.first, second_long it.second)

-- counted strings, among octets and alone

record Measured (n : ℕ) (octets : List ℕ) (size : ℕ) : Type 0 where
  within : size ≤ length octets
  alone : strings_size n (take size octets) ≡ Some size

measured : (n : ℕ) (octets : List ℕ) (size : ℕ) → strings_size n octets ≡ Some size → Measured n octets size
measured zero octets size e = let none : 0 ≡ size = cc in rw (← none) (record { within = omega arith; alone = refl })
measured (suc n) [] size e = none_some e
measured (suc n) (count ∷ octets) size e =
    let t = tested (nat_le count (length octets)) (option_map (λ size. suc count + size) (strings_size n (drop count octets))) size e in
    let m = mapped (λ size. suc count + size) (strings_size n (drop count octets)) size t.1 in
    let few : count ≤ length octets = leb-true count (length octets) t.0 in
    let rest = measured n (drop count octets) m.0 m.1 in
    let inside : m.0 ≤ length (drop count octets) = rest.within in
    let long : length (drop count octets) ≡ length octets - count = length-drop count octets in
    let kept : count ≤ length (take (count + m.0) octets) = omega (arith, length-take-le (count + m.0) octets (omega arith)) in
    let again : strings_size n (drop count (take (count + m.0) octets)) ≡ Some m.0 = rw (drop-take count m.0 octets) rest.alone in
    let all : strings_size (suc n) (take (suc (count + m.0)) (count ∷ octets)) ≡ Some (suc count + m.0) = rw (le-leb _ _ kept, again) refl in
    let one_more : suc (count + m.0) ≡ suc count + m.0 = omega arith in
    let whole : strings_size (suc n) (take (suc count + m.0) (count ∷ octets)) ≡ Some (suc count + m.0) = subst (λ k. strings_size (suc n) (take k (count ∷ octets)) ≡ Some (suc count + m.0)) one_more all in
    subst (Measured (suc n) (count ∷ octets)) m.2 (record { within = omega arith; alone = whole })

strings_on : (n : ℕ) (octets more : List ℕ) (size : ℕ) → strings_size n octets ≡ Some size → strings_size n (octets ++ more) ≡ Some size
strings_on zero octets more size e = e
strings_on (suc n) [] more size e = none_some e
strings_on (suc n) (count ∷ octets) more size e =
    let t = tested (nat_le count (length octets)) (option_map (λ size. suc count + size) (strings_size n (drop count octets))) size e in
    let m = mapped (λ size. suc count + size) (strings_size n (drop count octets)) size t.1 in
    let few : count ≤ length octets = leb-true count (length octets) t.0 in
    let room : count ≤ length (octets ++ more) = omega (arith, length-append octets more) in
    let rest : strings_size n (drop count (octets ++ more)) ≡ Some m.0 = rw (drop-append-le count octets more few) (strings_on n (drop count octets) more m.0 m.1) in
    rw (le-leb _ _ room, rest) (ap Some m.2)

-- what stands before the first name

record Begun (form : Form) (octets : List ℕ) (size : ℕ) : Type 0 where
  within : size ≤ length octets
  alone : size_before form (take size octets) ≡ Some size

begun : (form : Form) (octets : List ℕ) (size : ℕ) → size_before form octets ≡ Some size → Begun form octets size
begun form octets size e =
    let n : ℕ = form.octets in
    let t = tested (nat_le n (length octets)) (option_map (λ size. n + size) (strings_size form.strings (drop n octets))) size e in
    let m = mapped (λ size. n + size) (strings_size form.strings (drop n octets)) size t.1 in
    let few : n ≤ length octets = leb-true n (length octets) t.0 in
    let rest = measured form.strings (drop n octets) m.0 m.1 in
    let inside : m.0 ≤ length (drop n octets) = rest.within in
    let long : length (drop n octets) ≡ length octets - n = length-drop n octets in
    let kept : n ≤ length (take (n + m.0) octets) = omega (arith, length-take-le (n + m.0) octets (omega arith)) in
    let again : strings_size form.strings (drop n (take (n + m.0) octets)) ≡ Some m.0 = rw (drop-take n m.0 octets) rest.alone in
    let all : size_before form (take (n + m.0) octets) ≡ Some (n + m.0) = rw (le-leb _ _ kept, again) refl in
    subst (Begun form octets) m.2 (record { within = omega arith; alone = all })

size_on : (form : Form) (octets more : List ℕ) (size : ℕ) → size_before form octets ≡ Some size → size_before form (octets ++ more) ≡ Some size
size_on form octets more size e =
    let n : ℕ = form.octets in
    let t = tested (nat_le n (length octets)) (option_map (λ size. n + size) (strings_size form.strings (drop n octets))) size e in
    let m = mapped (λ size. n + size) (strings_size form.strings (drop n octets)) size t.1 in
    let few : n ≤ length octets = leb-true n (length octets) t.0 in
    let room : n ≤ length (octets ++ more) = omega (arith, length-append octets more) in
    let rest : strings_size form.strings (drop n (octets ++ more)) ≡ Some m.0 = rw (drop-append-le n octets more few) (strings_on form.strings (drop n octets) more m.0 m.1) in
    rw (le-leb _ _ room, rest) (ap Some m.2)

-- Data that is read has its form, and is short.

pub record Formed (form : Form) (it : NamedData) : Type 0 where
  pub shaped : has_form (Some form) it ≡ true
  pub short : named_size it < 65536

before_has : (form : Form) (octets : List ℕ) (at end size : ℕ) → size_before form (slice_range octets at end) ≡ Some size
    → is_size (size_before form (slice_range octets at (at + size))) (length (slice_range octets at (at + size))) ≡ true
before_has form octets at end size e =
    let b = begun form (slice_range octets at end) size e in
    let few : size ≤ length (slice_range octets at end) = b.within in
    let inside : size ≤ end - at = omega (arith, length-take (end - at) (drop at octets)) in
    let taken : take size (slice_range octets at end) ≡ take size (drop at octets) = take-take size (end - at) (drop at octets) inside in
    let shift : at + size - at ≡ size = omega arith in
    let same : slice_range octets at (at + size) ≡ take size (slice_range octets at end) = ap (λ k. take k (drop at octets)) shift ∙ sym taken in
    let long : length (take size (slice_range octets at end)) ≡ size = length-take-le size (slice_range octets at end) few in
    rw (same, b.alone, long) (eq-eqb size size refl)

second_has : (has_second : Bool) (octets : List ℕ) (at : ℕ) (s : Second) → second_at has_second octets at ≡ Some s → is_second has_second s.name ≡ true
second_has false octets at s e =
    let made : Second = record { name = None; end = at } in
    let same : made ≡ s = cc in
    subst (λ (s : Second). is_second false s.name ≡ true) same refl
second_has true octets at s e =
    let m = mapped (λ (found : Found). record { name = Some found.labels; end = found.end }) (name_at octets at) s e in
    subst (λ (s : Second). is_second true s.name ≡ true) m.2 refl

behind_has : (has_rest : Bool) (octets : List ℕ) (at end : ℕ) → ends_so has_rest at end ≡ true → (has_rest || length (slice_range octets at end) == 0) ≡ true
behind_has true octets at end e = refl
behind_has false octets at end e =
    let same : at ≡ end = eqb-true at end e in
    let none : length (slice_range octets at end) ≡ 0 = omega (arith, length-take (end - at) (drop at octets)) in
    eq-eqb _ _ none

all_three : (a b c : Bool) → a ≡ true → b ≡ true → c ≡ true → (a && b && c) ≡ true
all_three a b c p q r = rw (p, q, r) refl

parts_have : (form : Form) (octets : List ℕ) (at end : ℕ) (it : NamedData) → parts_to form octets at end ≡ Some it → has_form (Some form) it ≡ true
parts_have form octets at end it e =
    let size = then_ok (size_before form (slice_range octets at end)) _ it e in
    let first = then_ok (name_at octets (at + size.0)) _ it size.2 in
    let second = then_ok (second_at form.has_second octets first.0.end) _ it first.2 in
    let read : NamedData = record {
      before = slice_range octets at (at + size.0);
      first = first.0.labels;
      second = second.0.name;
      behind = slice_range octets second.0.end end;
    } in
    let t = tested (ends_so form.has_rest second.0.end end) (Some read) it second.2 in
    let its = t.1 in
    let same : read ≡ it = cc in
    let shaped : has_form (Some form) read ≡ true = all_three _ _ _ (before_has form octets at end size.0 size.1) (second_has form.has_second octets first.0.end second.0 second.1) (behind_has form.has_rest octets second.0.end end t.0) in
    subst (λ it. has_form (Some form) it ≡ true) same shaped

pub named_formed : (form : Form) (octets : List ℕ) (at end : ℕ) (it : NamedData) → named_to form octets at end ≡ Some it → Formed form it
named_formed form octets at end it e =
    let parts = then_ok (parts_to form octets at end) _ it e in
    let t = tested (nat_le (named_size parts.0) 65535) (Some parts.0) it parts.2 in
    let its = t.1 in
    let same : parts.0 ≡ it = cc in
    let few : named_size parts.0 ≤ 65535 = leb-true _ _ t.0 in
    subst (Formed form) same (record { shaped = parts_have form octets at end parts.0 parts.1; short = omega arith })

-- Data that is written is read.

both_of : (a b : Bool) → (a && b) ≡ true → (a ≡ true) × (b ≡ true)
both_of true true e = (refl, refl)
both_of true false e = absurd cc
both_of false b e = absurd cc

size_is : (o : Option ℕ) (count : ℕ) → is_size o count ≡ true → o ≡ Some count
size_is None count e = absurd cc
size_is (Some size) count e = ap Some (eqb-true size count e)

abbrev no_second : ℕ → Option Second
no_second at = Some (record { name = None; end = at })

second_back : (has_second : Bool) (o : List ℕ) (second : Option Labels) (at : ℕ) → Stands o at (second_spelling second) → IsLegalSecond second → is_second has_second second ≡ true
    → second_at has_second o at ≡ Some (record { name = second; end = at + second_size second })
second_back false o None at s h t = let here : at ≡ at + 0 = omega arith in ap no_second here
second_back false o (Some name) at s h t = absurd cc
second_back true o None at s h t = absurd cc
second_back true o (Some name) at s h t = rw (name_stands o name at s h) refl

ends_back : (has_rest : Bool) (behind : List ℕ) (at end : ℕ) → (has_rest || length behind == 0) ≡ true → at + length behind ≡ end → ends_so has_rest at end ≡ true
ends_back true behind at end t e = le-leb at end (omega arith)
ends_back false behind at end t e = eq-eqb at end (omega (arith, eqb-true (length behind) 0 t))

parts_back : (form : Form) (o : List ℕ) (it : NamedData) (at end : ℕ) → Stands o at (named_spelling it) → IsLegal it.first → IsLegalSecond it.second → has_form (Some form) it ≡ true
    → at + length (named_spelling it) ≡ end → parts_to form o at end ≡ Some it
parts_back form o it at end s legal legal2 t e =
    let B : List ℕ = it.before in
    let F : List ℕ = spelling it.first in
    let S : List ℕ = second_spelling it.second in
    let R : List ℕ = it.behind in
    let sized : Bool = is_size (size_before form it.before) (length it.before) in
    let outer = both_of (sized && is_second form.has_second it.second) (form.has_rest || length it.behind == 0) t in
    let inner = both_of sized (is_second form.has_second it.second) outer.0 in
    let n : ℕ = length B in
    let mid : ℕ = at + n + octet_count it.first in
    let next : ℕ = mid + second_size it.second in
    let front = first_stands o (B ++ F ++ S) R at s in
    let front2 = first_stands o (B ++ F) S at front in
    let l1 : length (B ++ F) ≡ n + octet_count it.first = omega (arith, length-append B F, spelled_length it.first) in
    let l2 : length (B ++ F ++ S) ≡ length (B ++ F) + second_size it.second = omega (arith, length-append (B ++ F) S, second_long it.second) in
    let behind = second_stands o (B ++ F ++ S) R at next s (omega arith) in
    let second = second_stands o (B ++ F) S at mid front (omega arith) in
    let first = second_stands o B F at (at + n) front2 refl in
    let before = first_stands o B F at front2 in
    let ends : next + length R ≡ end = omega (arith, length-append (B ++ F ++ S) R) in
    let whole : slice_range o at end ≡ B ++ (F ++ S ++ R) = range_stands o _ at end s e ∙ simp append_assoc in
    let size : size_before form (slice_range o at end) ≡ Some n = rw whole (size_on form B (F ++ S ++ R) n (size_is _ _ inner.0)) in
    rw (
      size,
      name_stands o it.first (at + n) first legal,
      second_back form.has_second o it.second mid second legal2 inner.1,
      ends_back form.has_rest R next end outer.1 ends,
      range_stands o B at (at + n) before refl,
      range_stands o R next end behind ends,
    ) refl

pub named_back : (f : Option Form) (o : List ℕ) (it : NamedData) (at end : ℕ) → Stands o at (named_spelling it) → IsLegal it.first → IsLegalSecond it.second → has_form f it ≡ true
    → named_size it < 65536 → at + length (named_spelling it) ≡ end → formed_to f o at end ≡ Some (Named it)
named_back None o it at end s legal legal2 t few e = absurd cc
named_back (Some form) o it at end s legal legal2 t few e = rw (parts_back form o it at end s legal legal2 t e, le-leb (named_size it) 65535 (omega arith)) refl

-- No other type's data has a form.

pick : (P : ℕ → Type 0) (n k : ℕ) (b : Bool) → (n == k) ≡ b → P k → ((n == k) ≡ false → P n) → P n
pick P n k true e here there = subst P (sym (eqb-true n k e)) here
pick P n k false e here there = there e

by_type : (P : ℕ → Type 0) → P 17 → P 18 → P 21 → P 24 → P 26 → P 30 → P 35 → (rtype : ℕ) (it : NamedData) → has_form (form_of rtype) it ≡ true → P rtype
by_type P rp afsdb rt sig px nxt naptr n it t =
    pick P n 17 (n == 17) refl rp
    (λ a. pick P n 18 (n == 18) refl afsdb
    (λ b. pick P n 21 (n == 21) refl rt
    (λ c. pick P n 24 (n == 24) refl sig
    (λ d. pick P n 26 (n == 26) refl px
    (λ e. pick P n 30 (n == 30) refl nxt
    (λ f. pick P n 35 (n == 35) refl naptr
    (λ g. let not_so : false ≡ true = rw (a, b, c, d, e, f, g) at t in absurd cc)))))))

pub formed_read : (rtype : ℕ) (it : NamedData) (o : List ℕ) (at end : ℕ) → has_form (form_of rtype) it ≡ true → data_at rtype o at end ≡ formed_to (form_of rtype) o at end
unfolding data_at
formed_read rtype it o at end t = by_type (λ n. data_at n o at end ≡ formed_to (form_of n) o at end) refl refl refl refl refl refl refl rtype it t
