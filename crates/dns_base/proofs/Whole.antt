-- Data that is a list of strings or of options, read from its start.
use Rattle.std.proofs.Common.{inl, inr, ◌≡◌, ℕ, zero, suc, ◌+◌, ◌-◌, ◌*◌, ◌<◌, ◌≤◌, List, [], ◌∷◌, length, take, drop, get_or, refl, ap, sym, ◌∙◌, arith, Bool, true, false, drop-cons, add-one, length-drop}
use Rattle.std.proofs.lemmas.List.{take_all}
use Rattle.std.specs.Prelude.{Option, Some, None, Result, Ok, Err, MatchResult}
use Rattle.std.specs.Result.{is_err}
use Rattle.dns_names.proofs.Heads.{chosen, none_some}
use Rattle.dns_base.specs.Data.{Data, Opt, whole, are_strings_after, are_options, are_options_after}

-- a count, and then what it counts
pub string_begins : (xs : List ℕ) (i left next : ℕ) → i < length xs → left ≡ 0 → next ≡ get_or xs i 0 → are_strings_after left (drop i xs) ≡ are_strings_after next (drop (i + 1) xs)
string_begins xs i left next h z e = rw (drop-cons xs i 0 h, z, e, add-one i) refl

pub string_goes_on : (xs : List ℕ) (i left next : ℕ) → i < length xs → 0 < left → next ≡ left - 1 → are_strings_after left (drop i xs) ≡ are_strings_after next (drop (i + 1) xs)
string_goes_on xs i zero next h p e = absurd (omega arith)
string_goes_on xs i (suc n) next h p e = let is : next ≡ n = omega arith in rw (drop-cons xs i 0 h, is, add-one i) refl

options_long : (n : ℕ) (xs : List ℕ) → n ≤ length xs → are_options_after n xs ≡ are_options_after 0 (drop n xs)
options_long zero xs h = refl
options_long (suc n) [] h = absurd (omega arith)
options_long (suc n) (x ∷ xs) h = options_long n xs (omega arith)

options_short : (n : ℕ) (xs : List ℕ) → length xs < n → are_options_after n xs ≡ false
options_short zero xs h = absurd (omega arith)
options_short (suc n) [] h = refl
options_short (suc n) (x ∷ xs) h = options_short n xs (omega arith)

count_of : List ℕ → ℕ
count_of rest = get_or rest 2 0 * 256 + get_or rest 3 0

option_begins : (rest : List ℕ) → 4 ≤ length rest → are_options rest ≡ are_options_after (count_of rest) (drop 4 rest)
unfolding count_of
option_begins [] h = absurd (omega arith)
option_begins (_ ∷ []) h = absurd (omega arith)
option_begins (_ ∷ _ ∷ []) h = absurd (omega arith)
option_begins (_ ∷ _ ∷ _ ∷ []) h = absurd (omega arith)
option_begins (_ ∷ _ ∷ _ ∷ _ ∷ rest) h = refl

pub all_behind : (n : ℕ) (xs : List ℕ) → take (length xs - n) (drop n xs) ≡ drop n xs
all_behind n xs = take_all (length xs - n) (drop n xs) (omega (arith, length-drop n xs))

pub option_short : (rest others : List ℕ) (count : ℕ) → 4 ≤ length rest → others ≡ drop 4 rest → count ≡ get_or rest 2 0 * 256 + get_or rest 3 0 → length others < count → are_options rest ≡ false
unfolding count_of
option_short rest others count h o c s = option_begins rest h ∙ rw (← o, ← c) (options_short count others s)

pub option_long : (rest others after : List ℕ) (count : ℕ) → 4 ≤ length rest → others ≡ drop 4 rest → count ≡ get_or rest 2 0 * 256 + get_or rest 3 0 → count ≤ length others → after ≡ drop count others → are_options rest ≡ are_options after
unfolding count_of
option_long rest others after count h o c s a = option_begins rest h ∙ rw (← o, ← c, a) (options_long count others s)

-- Options that are read are whole.
pub read_whole : {T E : Type 0} (view : T → Data) (r : Result T E) (octets : List ℕ) (says : Option Data) → says ≡ whole are_options Opt octets
    → MatchResult r (λ d. says ≡ Some (view d)) (λ _. says ≡ None) → is_err r ≡ false → are_options octets ≡ true
read_whole view (Ok d) octets says e h ok =
    let f : whole are_options Opt octets ≡ Some (view d) = cc in
    elim (chosen (are_options octets) (Some (Opt octets)) None (Some (view d)) f) [ inl p ↦ p.0 | inr p ↦ none_some p.1 ]
read_whole view (Err x) octets says e h ok = absurd cc
