-- Texts that are cut.
use Rattle.std.proofs.Common.{◌≡◌, ◌<◌, ℕ, ◌+◌, suc, List, [], ◌∷◌, length, Bool, true, false, refl, ap, sym, ◌∙◌, arith, take, drop, Option, None, Some}
use Rattle.std.specs.Prelude.{◌==◌, MatchOption}
use Rattle.std.specs.List.{position_or_len, before_first, after_first}
use Rattle.std.proofs.lemmas.Str.Pattern.{IsSplitOnceResult, split_once_first}
use denote.Ref.{Bor}
use Rattle.zone_text.specs.Words.{behind_last, cut_at, either, onto_first, pieces_at}

abbrev Cut : Type 0
Cut = Option (List ℕ × List ℕ)

abbrev some_parts : List ℕ → List ℕ → Cut
some_parts before behind = Some (before, behind)

parts_are : (a b c d : List ℕ) → a ≡ c → b ≡ d → some_parts a b ≡ some_parts c d
parts_are a b c d e f = ap (λ (x : List ℕ). some_parts x b) e ∙ ap (λ (x : List ℕ). some_parts c x) f

same_parts : (x y : List ℕ × List ℕ) → ◌≡◌ {A = Cut} (Some x) (Some y) → (x.0 ≡ y.0) × (x.1 ≡ y.1)
same_parts x y e = let same : x ≡ y = cc in (ap (λ (p : List ℕ × List ℕ). p.0) same, ap (λ (p : List ℕ × List ℕ). p.1) same)

cut_none : (o : ℕ) (text : List ℕ) → position_or_len (λ c. c == o) text ≡ length text → cut_at o text ≡ None
cut_none o [] h = refl
cut_none o (d ∷ text) h = go (d == o) refl (cut_none o text)
  where
    go : (b : Bool) → (d == o) ≡ b → (position_or_len (λ c. c == o) text ≡ length text → cut_at o text ≡ None) → cut_at o (d ∷ text) ≡ None
    go true e more = let here : position_or_len (λ c. c == o) (d ∷ text) ≡ 0 = rw e refl in absurd (omega (arith, here, h))
    go false e more =
        let there : position_or_len (λ c. c == o) (d ∷ text) ≡ 1 + position_or_len (λ c. c == o) text = rw e refl in
        let rest : position_or_len (λ c. c == o) text ≡ length text = omega (arith, there, h) in
        rw (e, more rest) refl

cut_some : (o : ℕ) (text : List ℕ) → position_or_len (λ c. c == o) text < length text → cut_at o text ≡ Some (before_first (λ c. c == o) text, after_first (λ c. c == o) text)
cut_some o [] h = absurd (omega arith)
cut_some o (d ∷ text) h = go (d == o) refl (cut_some o text)
  where
    go : (b : Bool) → (d == o) ≡ b → (position_or_len (λ c. c == o) text < length text → cut_at o text ≡ Some (before_first (λ c. c == o) text, after_first (λ c. c == o) text)) → cut_at o (d ∷ text) ≡ Some (before_first (λ c. c == o) (d ∷ text), after_first (λ c. c == o) (d ∷ text))
    go true e more = rw e refl
    go false e more =
        let k : ℕ = position_or_len (λ c. c == o) text in
        let there : position_or_len (λ c. c == o) (d ∷ text) ≡ 1 + position_or_len (λ c. c == o) text = rw e refl in
        let rest : position_or_len (λ c. c == o) text < length text = omega (arith, there, h) in
        let one : position_or_len (λ c. c == o) (d ∷ text) ≡ suc (position_or_len (λ c. c == o) text) = omega (arith, there) in
        let two : position_or_len (λ c. c == o) (d ∷ text) + 1 ≡ suc (position_or_len (λ c. c == o) text + 1) = omega (arith, there) in
        let before : take (position_or_len (λ c. c == o) (d ∷ text)) (d ∷ text) ≡ d ∷ before_first (λ c. c == o) text = ap (λ (n : ℕ). take n (d ∷ text)) one in
        let behind : drop (position_or_len (λ c. c == o) (d ∷ text) + 1) (d ∷ text) ≡ after_first (λ c. c == o) text = ap (λ (n : ℕ). drop n (d ∷ text)) two in
        let here : cut_at o (d ∷ text) ≡ some_parts (d ∷ before_first (λ c. c == o) text) (after_first (λ c. c == o) text) = rw (e, more rest) refl in
        here ∙ parts_are _ _ _ _ (sym before) (sym behind)

-- what `split_once` gives
pub cut_is : (o : ℕ) (text : List ℕ) (r : Option (Bor (List ℕ) × Bor (List ℕ))) → IsSplitOnceResult o text r → o < 128 → MatchOption r (cut_at o text ≡ None) (λ x. cut_at o text ≡ Some (x.0.now, x.1.now))
cut_is o text None h low = cut_none o text (split_once_first o text None h low)
cut_is o text (Some x) h low =
    let s = split_once_first o text (Some x) h low in
    cut_some o text s.0 ∙ parts_are (before_first (λ c. c == o) text) (after_first (λ c. c == o) text) x.0.now x.1.now (sym s.1) (sym s.2)

pub cut_shorter : (o : ℕ) (text before behind : List ℕ) → cut_at o text ≡ Some (before, behind) → length behind < length text
cut_shorter o [] before behind h = absurd cc
cut_shorter o (d ∷ text) before behind h = go (d == o) (cut_at o text) refl refl (cut_shorter o text)
  where
    go : (b : Bool) (x : Cut) → (d == o) ≡ b → cut_at o text ≡ x → ((a b : List ℕ) → cut_at o text ≡ Some (a, b) → length b < length text) → length behind < length (d ∷ text)
    go true x e f more =
        let here : cut_at o (d ∷ text) ≡ some_parts [] text = rw e refl in
        let long : length text ≡ length behind = ap length (same_parts ([], text) (before, behind) (sym here ∙ h)).1 in
        omega arith
    go false None e f more =
        let here : cut_at o (d ∷ text) ≡ None = rw (e, f) refl in
        absurd cc
    go false (Some x) e f more =
        let here : cut_at o (d ∷ text) ≡ some_parts (d ∷ x.0) x.1 = rw (e, f) refl in
        let less : length x.1 < length text = more x.0 x.1 f in
        let long : length x.1 ≡ length behind = ap length (same_parts (d ∷ x.0, x.1) (before, behind) (sym here ∙ h)).1 in
        omega arith

-- ---- the last of them

either_none : (found : Option (List ℕ)) → found ≡ either found None
either_none None = refl
either_none (Some x) = refl

pub none_found : (whole found : Option (List ℕ)) → found ≡ None → whole ≡ either whole found
none_found whole found none = either_none whole ∙ ap (either whole) (sym none)

pub all_looked : (o : ℕ) (rest : List ℕ) (whole found : Option (List ℕ)) → length rest < 1 → whole ≡ either (behind_last o rest) found → found ≡ whole
all_looked o [] whole found none so_far = sym so_far
all_looked o (c ∷ rest) whole found none so_far = absurd (omega arith)

either_assoc : (a b c : Option (List ℕ)) → either (either a b) c ≡ either a (either b c)
either_assoc None b c = refl
either_assoc (Some x) b c = refl

pub found_here : (o first : ℕ) (rest behind : List ℕ) (whole found : Option (List ℕ)) → rest ≡ first ∷ behind → (first == o) ≡ true → whole ≡ either (behind_last o rest) found
    → whole ≡ either (behind_last o behind) (Some behind)
found_here o first rest behind whole found is here so_far =
    so_far ∙ (ap (λ (xs : List ℕ). either (behind_last o xs) found) is ∙ (either_assoc (behind_last o behind) _ found ∙ ap (either (behind_last o behind)) (rw here refl)))

pub not_here : (o first : ℕ) (rest behind : List ℕ) (whole found : Option (List ℕ)) → rest ≡ first ∷ behind → (first == o) ≡ false → whole ≡ either (behind_last o rest) found
    → whole ≡ either (behind_last o behind) found
not_here o first rest behind whole found is other so_far =
    so_far ∙ (ap (λ (xs : List ℕ). either (behind_last o xs) found) is ∙ (either_assoc (behind_last o behind) _ found ∙ ap (either (behind_last o behind)) (rw other refl)))

-- ---- pieces

pub pieces_cut : (o : ℕ) (text before behind : List ℕ) → cut_at o text ≡ Some (before, behind) → pieces_at o text ≡ before ∷ pieces_at o behind
pieces_cut o [] before behind h = absurd cc
pieces_cut o (d ∷ text) before behind h = go (d == o) (cut_at o text) refl refl (pieces_cut o text)
  where
    go : (b : Bool) (x : Cut) → (d == o) ≡ b → cut_at o text ≡ x → ((a b : List ℕ) → cut_at o text ≡ Some (a, b) → pieces_at o text ≡ a ∷ pieces_at o b) → pieces_at o (d ∷ text) ≡ before ∷ pieces_at o behind
    go true x e f more =
        let here : cut_at o (d ∷ text) ≡ some_parts [] text = rw e refl in
        let same = same_parts ([], text) (before, behind) (sym here ∙ h) in
        let pieces : pieces_at o (d ∷ text) ≡ [] ∷ pieces_at o text = rw e refl in
        pieces ∙ (ap (λ (p : List ℕ). p ∷ pieces_at o text) same.0 ∙ ap (λ (t : List ℕ). before ∷ pieces_at o t) same.1)
    go false None e f more =
        let here : cut_at o (d ∷ text) ≡ None = rw (e, f) refl in
        absurd cc
    go false (Some x) e f more =
        let here : cut_at o (d ∷ text) ≡ some_parts (d ∷ x.0) x.1 = rw (e, f) refl in
        let same = same_parts (d ∷ x.0, x.1) (before, behind) (sym here ∙ h) in
        let rest : pieces_at o text ≡ x.0 ∷ pieces_at o x.1 = more x.0 x.1 f in
        let pieces : pieces_at o (d ∷ text) ≡ (d ∷ x.0) ∷ pieces_at o x.1 = rw (e, rest) refl in
        pieces ∙ (ap (λ (p : List ℕ). p ∷ pieces_at o x.1) same.0 ∙ ap (λ (t : List ℕ). before ∷ pieces_at o t) same.1)

pub pieces_whole : (o : ℕ) (text : List ℕ) → cut_at o text ≡ None → pieces_at o text ≡ text ∷ []
pieces_whole o [] h = refl
pieces_whole o (d ∷ text) h = go (d == o) (cut_at o text) refl refl (pieces_whole o text)
  where
    go : (b : Bool) (x : Cut) → (d == o) ≡ b → cut_at o text ≡ x → (cut_at o text ≡ None → pieces_at o text ≡ text ∷ []) → pieces_at o (d ∷ text) ≡ (d ∷ text) ∷ []
    go true x e f more =
        let here : cut_at o (d ∷ text) ≡ some_parts [] text = rw e refl in
        absurd cc
    go false None e f more = rw (e, more f) refl
    go false (Some x) e f more =
        let here : cut_at o (d ∷ text) ≡ some_parts (d ∷ x.0) x.1 = rw (e, f) refl in
        absurd cc

onto_some : (c : ℕ) (pieces : List (List ℕ)) → (p : List ℕ) × (ps : List (List ℕ)) × (onto_first c pieces ≡ p ∷ ps)
onto_some c [] = (c ∷ [], [], refl)
onto_some c (p ∷ ps) = (c ∷ p, ps, refl)

pub pieces_some : (o : ℕ) (text : List ℕ) → (p : List ℕ) × (ps : List (List ℕ)) × (pieces_at o text ≡ p ∷ ps)
pieces_some o [] = ([], [], refl)
pieces_some o (d ∷ text) = go (d == o) refl
  where
    go : (b : Bool) → (d == o) ≡ b → (p : List ℕ) × (ps : List (List ℕ)) × (pieces_at o (d ∷ text) ≡ p ∷ ps)
    go true e = ([], pieces_at o text, rw e refl)
    go false e = let some = onto_some d (pieces_at o text) in (some.0, some.1, rw e some.2)
