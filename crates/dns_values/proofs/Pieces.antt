-- What is held after two writes, and what is left after two reads.
use Rattle.std.proofs.Common.{◌≡◌, ℕ, ◌+◌, ◌-◌, ◌<◌, ◌≤◌, List, [], ◌++◌, Option, None, Some, IfSome, length, take, drop, refl, ap, sym, ◌∙◌, append_assoc, arith, length-append, length-drop, take-add, subst}
use Rattle.std.proofs.lemmas.Grind.{common_steps}
use Rattle.std.proofs.lemmas.List.{take_rest, drop-drop, drop_all, take_all}
use Rattle.dns_values.specs.Source.{after_octets}
use Rattle.dns_values.specs.Sink.{with_octets}

with_two : (n m : ℕ) (xs : List ℕ) (old : Option (List ℕ)) →
    with_octets (take m (drop n xs)) (with_octets (take n xs) old) ≡ with_octets (take (n + m) xs) old
with_two n m xs None = refl
with_two n m xs (Some ys) = ap Some (append_assoc ys (take n xs) (take m (drop n xs)) ∙ ap (λ zs. ys ++ zs) (sym (take-add n m xs)))

-- two writes hold what one would
pub written_on : (n m : ℕ) (xs : List ℕ) (old mid new : Option (List ℕ)) → mid ≡ with_octets (take n xs) old →
    new ≡ with_octets (take m (take (length xs - n) (drop n xs))) mid → new ≡ with_octets (take (n + m) xs) old
written_on n m xs old mid new e f =
    f ∙ ap (λ ys. with_octets (take m ys) mid) (take_rest xs n) ∙ ap (with_octets (take m (drop n xs))) e ∙ with_two n m xs old

-- what was read of a source, and what is left of it
abbrev pub Gave : Option (List ℕ) → List ℕ → Option (List ℕ) → Type 0
Gave None ys new = Unit {0}
Gave (Some xs) ys new = (length ys ≤ length xs) × (new ≡ Some (drop (length ys) xs)) × (take (length ys) xs ≡ ys)

pub gave_nothing : (old : Option (List ℕ)) → Gave old [] old
gave_nothing None = tt
gave_nothing (Some xs) = (omega arith, refl, refl)

abbrev none_left : List ℕ
none_left = []

drop_nothing : (n : ℕ) → drop n none_left ≡ none_left
drop_nothing n = drop_all n none_left (omega arith)

length_taken : (n : ℕ) (zs : List ℕ) → n ≤ length zs → length (take n zs) ≡ n
length_taken n zs h = grind (arith, common_steps)

front_of : (n : ℕ) (zs ws : List ℕ) → n ≤ length zs → take n (take n zs ++ ws) ≡ take n zs
front_of n zs ws h = grind (arith, common_steps)

-- at the end all of it was read
pub gave_whole : (n room : ℕ) (ys : List ℕ) (old mid new : Option (List ℕ)) → n ≡ 0 → 0 < room → Gave old ys mid →
    new ≡ after_octets n mid → IfSome mid (λ zs. n ≡ 0 → 0 < room → zs ≡ []) → IfSome old (λ xs. (ys ≡ xs) × (new ≡ Some []))
gave_whole n room ys None mid new z r given e end = tt
gave_whole n room ys (Some xs) mid new z r given e end =
    let at_end = subst (λ o. IfSome o (λ zs. n ≡ 0 → 0 < room → zs ≡ [])) given.1 end z r in
    let none : length (drop (length ys) xs) ≡ 0 = ap length at_end in
    let all : length xs ≤ length ys = omega (arith, length-drop (length ys) xs) in
    (sym given.2 ∙ take_all (length ys) xs all, e ∙ ap (after_octets n) (given.1 ∙ ap Some at_end) ∙ ap Some (drop_nothing n))

-- the next piece
pub gave_more : (n : ℕ) (ys more buf after : List ℕ) (old mid new : Option (List ℕ)) → Gave old ys mid →
    new ≡ after_octets n mid → IfSome mid (λ zs. (n ≤ length zs) × (after ≡ take n zs ++ drop n buf)) →
    more ≡ take n after → Gave old (ys ++ more) new
gave_more n ys more buf after None mid new given e front m = tt
gave_more n ys more buf after (Some xs) mid new given e front m =
    let got = subst (λ o. IfSome o (λ zs. (n ≤ length zs) × (after ≡ take n zs ++ drop n buf))) given.1 front in
    let long : n ≤ length (drop (length ys) xs) = got.0 in
    let fits : n + length ys ≤ length xs = omega (arith, length-drop (length ys) xs, given.0) in
    let part : more ≡ take n (drop (length ys) xs) = m ∙ ap (take n) got.1 ∙ front_of n (drop (length ys) xs) (drop n buf) long in
    let size : length more ≡ n = ap length part ∙ length_taken n (drop (length ys) xs) long in
    let whole : length (ys ++ more) ≡ length ys + n = length-append ys more ∙ ap (λ k. length ys + k) size in (
      omega (arith, whole),
      e ∙ ap (after_octets n) given.1 ∙ ap Some (drop-drop n (length ys) xs ∙ ap (λ k. drop k xs) (sym whole)),
      ap (λ k. take k xs) whole ∙ take-add (length ys) n xs ∙ ap (λ zs. zs ++ take n (drop (length ys) xs)) given.2 ∙ ap (λ zs. ys ++ zs) (sym part),
    )
