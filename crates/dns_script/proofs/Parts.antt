-- The parts of octets: the first ends at the first separator.
use Rattle.std.proofs.Common.{◌≡◌, ◌≢◌, ap, ℕ, ◌+◌, ◌-◌, ◌≤◌, eqb, ltb, List, [], ◌∷◌, length, take, drop, get_or, Option, Some, None, refl, sym, ◌∙◌, subst, arith, inl, inr}
use Rattle.std.specs.List.{position, position_or_len}
use Rattle.std.proofs.lemmas.Bool.{cases_lt, lt-ltb, ltb-true, eqb-true, cond-true}
use Rattle.std.proofs.lemmas.List.{take_rest}
use Rattle.std.proofs.lemmas.List.Splits.{length-slice_split, slice_split_first, slice_split_none}
use Rattle.std.proofs.lemmas.List.Sums.{fails_before_first}
use Rattle.std.proofs.lemmas.Option.{cond_some, none-some, some_pair_parts}
use Rattle.std.specs.Prelude.{option_map}
use Rattle.std.specs.Str.{IsUtf8}
use Rattle.std.specs.Str.Lines.{lines, lines_of_parts, strip_carriage_return}
use Rattle.std.proofs.lemmas.Str.{IsUtf8-drop, IsCharBoundary-after_ascii}
use Rattle.std.proofs.lemmas.List.Quantifiers.{position-Some}
use Rattle.dns_script.specs.Reading.{cut, parts}

none_passes : (s : ℕ) (xs : List ℕ) → position (λ o. eqb o s) xs ≡ None → length xs ≤ position_or_len (λ o. eqb o s) xs
none_passes s xs e =
    elim (cases_lt (position_or_len (λ o. eqb o s) xs) (length xs)) [
      | inl lt ↦ absurd (none-some _ (sym e ∙ cond-true (ltb (position_or_len (λ o. eqb o s) xs) (length xs)) (Some (position_or_len (λ o. eqb o s) xs)) None (lt-ltb _ _ lt)))
      | inr le ↦ le
    ]

pub parts_none : (s : ℕ) (xs : List ℕ) → position (λ o. eqb o s) xs ≡ None → parts s xs ≡ xs ∷ []
parts_none s xs e =
    let le = none_passes s xs e in
    slice_split_none (λ o. eqb o s) xs (λ k d h. fails_before_first (λ o. eqb o s) xs k d (omega arith))

pub parts_some : (s : ℕ) (xs : List ℕ) (i : ℕ) → position (λ o. eqb o s) xs ≡ Some i → parts s xs ≡ take i xs ∷ parts s (take (length xs - (i + 1)) (drop (i + 1) xs))
parts_some s xs i e =
    let p = λ (o : ℕ). eqb o s in
    let found = cond_some (ltb (position_or_len p xs) (length xs)) (position_or_len p xs) i e in
    let split : parts s xs ≡ take (position_or_len p xs) xs ∷ parts s (drop (position_or_len p xs + 1) xs) = slice_split_first p xs 0 (ltb-true _ _ found.0) in
    rw take_rest (subst (λ (k : ℕ). parts s xs ≡ take k xs ∷ parts s (drop (k + 1) xs)) found.1 split)

pub parts_not_nil : (s : ℕ) (xs : List ℕ) → parts s xs ≢ []
parts_not_nil s xs e = absurd (omega (arith, length-slice_split (λ o. eqb o s) xs, ap length e))

position_cut : (s : ℕ) (xs name text : List ℕ) → cut s xs ≡ Some (name, text) → (i : ℕ) × (position (λ o. eqb o s) xs ≡ Some i) × (text ≡ drop (i + 1) xs)
position_cut s xs name text e = go (position (λ o. eqb o s) xs) refl e
  where
    go : (o : Option ℕ) → position (λ o. eqb o s) xs ≡ o → option_map {U = List ℕ × List ℕ} (λ at. (take at xs, drop (at + 1) xs)) o ≡ Some (name, text) → (i : ℕ) × (position (λ o. eqb o s) xs ≡ Some i) × (text ≡ drop (i + 1) xs)
    go None p e = absurd (none-some _ e)
    go (Some i) p e = (i, p, sym (some_pair_parts _ _ _ _ e).1)

-- what stands behind a blank of a text is a text
pub utf8_behind : (line name text : List ℕ) → IsUtf8 line → cut 32 line ≡ Some (name, text) → IsUtf8 text
utf8_behind line name text u e =
    let at = position_cut 32 line name text e in
    let found = position-Some (λ o. eqb o 32) line at.0 0 at.1 in
    let blank : get_or line at.0 0 ≡ 32 = eqb-true _ _ found.1 in
    rw at.2 (IsUtf8-drop line (at.0 + 1) u (IsCharBoundary-after_ascii line at.0 u found.0 (omega arith)))

lines_first : (line : List ℕ) (ps : List (List ℕ)) → ps ≢ [] → lines_of_parts (line ∷ ps) ≡ strip_carriage_return line ∷ lines_of_parts ps
lines_first line [] h = absurd (h refl)
lines_first line (p ∷ ps) h = refl

-- a part before a line feed is a line
pub lines_more : (xs line behind : List ℕ) → parts 10 xs ≡ line ∷ parts 10 behind → lines xs ≡ strip_carriage_return line ∷ lines behind
lines_more xs line behind e = ap lines_of_parts e ∙ lines_first line (parts 10 behind) (parts_not_nil 10 behind)
