-- Lists of octets, their numbers, and the spellings of names.
use Rattle.std.proofs.Common.{ℕ, zero, suc, ◌-◌, ◌^◌, ◌<◌, List, [], ◌∷◌, ◌++◌, take, drop, arith}
use Rattle.std.specs.Prelude.{replicate, slice_index, slice_range}
use Rattle.std.specs.List.{AllByRecursion}
use Rattle.std.specs.Int.{w16, w32, bytes_high_first, to_be_bytes}

-- each number is one of an octet
abbrev pub OfOctets : List ℕ → Type 0
OfOctets octets = AllByRecursion (λ n. n < 2 ^ 8) octets

pub by_index : (xs : List ℕ) → ((i : ℕ) → slice_index xs i < 256) → OfOctets xs
by_index [] h = tt
by_index (x ∷ xs) h = (h 0, by_index xs (λ i. h (suc i)))

pub at_index : (xs : List ℕ) → OfOctets xs → (i : ℕ) → slice_index xs i < 256
at_index [] h i = omega arith
at_index (x ∷ xs) h zero = h.0
at_index (x ∷ xs) h (suc i) = at_index xs h.1 i

pub all_joined : {A : Type 0} (P : A → Type 0) (xs ys : List A) → AllByRecursion P xs → AllByRecursion P ys → AllByRecursion P (xs ++ ys)
all_joined P [] ys h g = g
all_joined P (x ∷ xs) ys h g = (h.0, all_joined P xs ys h.1 g)

pub joined : (xs ys : List ℕ) → OfOctets xs → OfOctets ys → OfOctets (xs ++ ys)
joined xs ys h g = all_joined (λ n. n < 2 ^ 8) xs ys h g

pub parted : (xs ys : List ℕ) → OfOctets (xs ++ ys) → OfOctets xs × OfOctets ys
parted [] ys h = (tt, h)
parted (x ∷ xs) ys h = let rest = parted xs ys h.1 in ((h.0, rest.0), rest.1)

pub taken : (n : ℕ) (xs : List ℕ) → OfOctets xs → OfOctets (take n xs)
taken zero xs h = tt
taken (suc n) [] h = tt
taken (suc n) (x ∷ xs) h = (h.0, taken n xs h.1)

pub dropped : (n : ℕ) (xs : List ℕ) → OfOctets xs → OfOctets (drop n xs)
dropped zero xs h = h
dropped (suc n) [] h = tt
dropped (suc n) (x ∷ xs) h = dropped n xs h.1

pub ranged : (xs : List ℕ) (from to : ℕ) → OfOctets xs → OfOctets (slice_range xs from to)
ranged xs from to h = taken (to - from) (drop from xs) (dropped from xs h)

pub zeros : (n : ℕ) → OfOctets (replicate n 0)
zeros zero = tt
zeros (suc n) = (omega arith, zeros n)

-- a number in two octets, and in four
bytes : (k n : ℕ) → OfOctets (bytes_high_first k n)
bytes zero n = tt
bytes (suc zero) n = (omega arith, tt)
bytes (suc (suc k)) n = (omega arith, bytes (suc k) n)

pub two : (n : ℕ) → OfOctets (to_be_bytes w16 n)
two n = bytes 2 n

pub four : (n : ℕ) → OfOctets (to_be_bytes w32 n)
four n = bytes 4 n

pub two_before : (n : ℕ) (xs : List ℕ) → OfOctets xs → OfOctets (to_be_bytes w16 n ++ xs)
two_before n xs h = joined (to_be_bytes w16 n) xs (two n) h
