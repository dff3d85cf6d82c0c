-- Pieces of octets, and numbers that are written as they stood.
use Rattle.std.proofs.Common.{◌≡◌, ℕ, zero, suc, ◌+◌, ◌-◌, ◌≤◌, List, [], ◌∷◌, ◌++◌, length, take, drop, get_or, refl, ap, sym, ◌∙◌, arith}
use Rattle.std.specs.Prelude.{slice_range, slice_index}
use Rattle.std.specs.Int.{w16, w32, to_be_bytes}
use Rattle.std.proofs.lemmas.List.{drop-drop, get_or-drop}
use Rattle.std.proofs.lemmas.List.Edits.{length-between, get_or-between}
use Rattle.std.proofs.lemmas.Nat.{be_bytes_2, be_bytes_4}
use Rattle.std.proofs.Math.Seq.{take-add}
use Rattle.dns_base.specs.Numbers.{u16_at, u32_at}
use Rattle.client_request.proofs.Writable.{AreOctets}

-- two pieces, one behind the other
pub joined : (m : List ℕ) (a b c : ℕ) → a ≤ b → b ≤ c → slice_range m a b ++ slice_range m b c ≡ slice_range m a c
joined m a b c first second =
    let whole : c - a ≡ (b - a) + (c - b) = omega arith in
    let there : a + (b - a) ≡ b = omega arith in
    sym (ap (λ n. take n (drop a m)) whole ∙ take-add (b - a) (c - b) (drop a m)
    ∙ ap (λ l. take (b - a) (drop a m) ++ take (c - b) l) (drop-drop (b - a) a m ∙ ap (λ k. drop k m) there))

octets_taken : (n : ℕ) (xs : List ℕ) → AreOctets xs → AreOctets (take n xs)
octets_taken zero xs h i = omega arith
octets_taken (suc n) [] h i = omega arith
octets_taken (suc n) (x ∷ xs) h zero = h 0
octets_taken (suc n) (x ∷ xs) h (suc i) = octets_taken n xs (λ j. h (suc j)) i

octets_dropped : (n : ℕ) (xs : List ℕ) → AreOctets xs → AreOctets (drop n xs)
octets_dropped n xs h i = rw (get_or-drop n xs i 0) (h (n + i))

pub range_octets : (xs : List ℕ) (at end : ℕ) → AreOctets xs → AreOctets (slice_range xs at end)
range_octets xs at end h = octets_taken (end - at) (drop at xs) (octets_dropped at xs h)

pub range_long : (m : List ℕ) (a b n : ℕ) → b ≤ length m → a + n ≡ b → length (slice_range m a b) ≡ n
range_long m a b n within sum = omega (arith, length-between m a b within)

-- a number is written as the octets in which it was read
pub u16_again : (m : List ℕ) (a b : ℕ) → AreOctets m → b ≤ length m → a + 2 ≡ b → to_be_bytes w16 (u16_at m a) ≡ slice_range m a b
u16_again m a b h within sum =
    let is : slice_range m a (a + 2) ≡ slice_range m a b = ap (slice_range m a) sum in
    be_bytes_2 (slice_range m a (a + 2)) (u16_at m a) (ap length is ∙ range_long m a b 2 within sum) (range_octets m a (a + 2) h) refl ∙ is

pub u32_again : (m : List ℕ) (a b : ℕ) → AreOctets m → b ≤ length m → a + 4 ≡ b → to_be_bytes w32 (u32_at m a) ≡ slice_range m a b
u32_again m a b h within sum =
    let is : slice_range m a (a + 4) ≡ slice_range m a b = ap (slice_range m a) sum in
    be_bytes_4 (slice_range m a (a + 4)) (u32_at m a) (ap length is ∙ range_long m a b 4 within sum) (range_octets m a (a + 4) h) refl ∙ is

two_are : (xs : List ℕ) → length xs ≡ 2 → xs ≡ get_or xs 0 0 ∷ get_or xs 1 0 ∷ []
two_are [] e = absurd (omega (arith, e))
two_are (x ∷ []) e = absurd (omega (arith, e))
two_are (x ∷ y ∷ []) e = refl
two_are (x ∷ y ∷ z ∷ xs) e = absurd (omega (arith, e))

-- two octets by themselves
pub two_range : (m : List ℕ) (a b x y : ℕ) → b ≤ length m → a + 2 ≡ b → slice_index m a ≡ x → slice_index m (a + 1) ≡ y → slice_range m a b ≡ x ∷ y ∷ []
two_range m a b x y within sum first second =
    let long : length (slice_range m a b) ≡ 2 = range_long m a b 2 within sum in
    let one : get_or (slice_range m a b) 0 0 ≡ x = get_or-between m a b 0 0 (omega arith) ∙ ap (slice_index m) (omega arith) ∙ first in
    let two : get_or (slice_range m a b) 1 0 ≡ y = get_or-between m a b 1 0 (omega arith) ∙ second in
    two_are (slice_range m a b) long ∙ ap (λ z. z ∷ get_or (slice_range m a b) 1 0 ∷ []) one ∙ ap (λ z. x ∷ z ∷ []) two
