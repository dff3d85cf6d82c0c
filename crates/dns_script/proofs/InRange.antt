-- What a loop has seen of the ranges of a trace.
use Rattle.std.proofs.Common.{ℕ, suc, ◌+◌, ◌<◌, ◌≤◌, List, [], ◌∷◌, ◌++◌, length, get_or, slice_index, take, subst, sym}
use Rattle.std.specs.List.{AllByRecursion}
use Rattle.std.proofs.lemmas.List.{take_more, take_all}
use Rattle.dns_script.specs.TextLaws.{AreOctets}

pub octets_by_index : (octets : List ℕ) → ((i : ℕ) → slice_index octets i < 256) → AreOctets octets
octets_by_index [] h = tt
octets_by_index (octet ∷ octets) h = (h 0, octets_by_index octets (λ i. h (suc i)))

with_last : {X : Type 0} (P : X → Type 0) (xs : List X) (x : X) → AllByRecursion P xs → P x → AllByRecursion P (xs ++ x ∷ [])
with_last P [] x h k = (k, tt)
with_last P (y ∷ xs) x h k = (h.0, with_last P xs x h.1 k)

pub one_more : {X : Type 0} (P : X → Type 0) (xs : List X) (i : ℕ) (d : X) → i < length xs → AllByRecursion P (take i xs) → P (get_or xs i d) → AllByRecursion P (take (i + 1) xs)
one_more P xs i d within h k = subst (AllByRecursion P) (sym (take_more xs i d within)) (with_last P (take i xs) (get_or xs i d) h k)

pub all_taken : {X : Type 0} (P : X → Type 0) (xs : List X) (i : ℕ) → length xs ≤ i → AllByRecursion P (take i xs) → AllByRecursion P xs
all_taken P xs i all h = subst (AllByRecursion P) (take_all i xs all) h
