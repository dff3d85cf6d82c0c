-- The lines of a text, one after another.
use Rattle.std.proofs.Common.{◌≡◌, ◌==◌, ◌<◌, ◌≤◌, ◌+◌, ◌-◌, ℕ, suc, Bool, true, false, List, [], ◌∷◌, length, take, drop, refl, ap, sym, ◌∙◌, arith, Some, None, cond, not, nat_lt}
use Rattle.std.proofs.lemmas.List.{take_rest}
use Rattle.std.proofs.lemmas.Bool.Decides.{nat_tests}
use Rattle.std.specs.List.{position, position_or_len, onto_first}
use Rattle.resolv_conf.specs.Words.{lines_of}

-- how many octets stand before the first line feed
abbrev end_of : List ℕ → ℕ
end_of text = position_or_len (λ c. c == 10) text

fed : (c : ℕ) (text : List ℕ) → (c == 10) ≡ true → end_of (c ∷ text) ≡ 0
fed c text e = ap (λ b. cond (not b) (1 + end_of text) 0) e

not_fed : (c : ℕ) (text : List ℕ) → (c == 10) ≡ false → end_of (c ∷ text) ≡ suc (end_of text)
not_fed c text e = ap (λ b. cond (not b) (1 + end_of text) 0) e ∙ omega arith

lined : (c : ℕ) (text : List ℕ) → (c == 10) ≡ true → lines_of (c ∷ text) ≡ [] ∷ lines_of text
lined c text e = ap (λ b. cond b ([] ∷ lines_of text) (onto_first c (lines_of text))) e

joined : (c : ℕ) (text : List ℕ) → (c == 10) ≡ false → lines_of (c ∷ text) ≡ onto_first c (lines_of text)
joined c text e = ap (λ b. cond b ([] ∷ lines_of text) (onto_first c (lines_of text))) e

line_by : (c : ℕ) (text : List ℕ) (b : Bool) → (c == 10) ≡ b
    → ((c == 10) ≡ false → lines_of text ≡ take (end_of text) text ∷ lines_of (drop (suc (end_of text)) text))
    → lines_of (c ∷ text) ≡ take (end_of (c ∷ text)) (c ∷ text) ∷ lines_of (drop (suc (end_of (c ∷ text))) (c ∷ text))
line_by c text true e inner = lined c text e ∙ sym (ap (λ n. take n (c ∷ text) ∷ lines_of (drop (suc n) (c ∷ text))) (fed c text e))
line_by c text false e inner =
    joined c text e ∙ ap (onto_first c) (inner e)
    ∙ sym (ap (λ n. take n (c ∷ text) ∷ lines_of (drop (suc n) (c ∷ text))) (not_fed c text e))

line_to : (text : List ℕ) → end_of text < length text → lines_of text ≡ take (end_of text) text ∷ lines_of (drop (suc (end_of text)) text)
line_to [] h = absurd (omega arith)
line_to (c ∷ text) h =
    line_by c text (c == 10) refl (λ e. line_to text (let shorter : end_of text < length text = omega (arith, not_fed c text e) in shorter))

whole_by : (c : ℕ) (text : List ℕ) (b : Bool) → (c == 10) ≡ b → end_of (c ∷ text) ≡ suc (length text)
    → ((c == 10) ≡ false → onto_first c (lines_of text) ≡ (c ∷ text) ∷ []) → lines_of (c ∷ text) ≡ (c ∷ text) ∷ []
whole_by c text true e full inner = absurd (omega (arith, fed c text e))
whole_by c text false e full inner = joined c text e ∙ inner e

line_whole : (text : List ℕ) → 0 < length text → end_of text ≡ length text → lines_of text ≡ text ∷ []
line_whole [] h e = absurd (omega arith)
line_whole (c ∷ []) h e = whole_by c [] (c == 10) refl e (λ f. refl)
line_whole (c ∷ d ∷ text) h e =
    whole_by c (d ∷ text) (c == 10) refl e
    (λ f. ap (onto_first c) (line_whole (d ∷ text) (omega arith) (let inner : end_of (d ∷ text) ≡ length (d ∷ text) = omega (arith, not_fed c (d ∷ text) f) in inner)))

found : (end len i : ℕ) → Some i ≡ cond (nat_lt end len) (Some end) None → (end < len) × (i ≡ end)
found end len i e = by_test (nat_lt end len) refl
  where
    by_test : (b : Bool) → nat_lt end len ≡ b → (end < len) × (i ≡ end)
    by_test true f = let g : Some i ≡ Some end = e ∙ ap (λ t. cond t (Some end) None) f in (grind (arith, nat_tests), cc)
    by_test false f = absurd (let g : Some i ≡ None = e ∙ ap (λ t. cond t (Some end) None) f in cc)

pub cut_line : (text : List ℕ) (i : ℕ) → Some i ≡ position (λ c. c == 10) text
    → lines_of text ≡ take i text ∷ lines_of (take (length text - (i + 1)) (drop (i + 1) text))
cut_line text i e =
    let at = found (end_of text) (length text) i e in
    line_to text at.0
    ∙ ap (λ n. take n text ∷ lines_of (drop (suc n) text)) (sym at.1)
    ∙ ap (λ n. take i text ∷ lines_of (drop n text)) (let more : suc i ≡ i + 1 = omega arith in more)
    ∙ ap (λ rest. take i text ∷ lines_of rest) (sym (take_rest text (i + 1)))

at_end : (end len : ℕ) → None ≡ cond (nat_lt end len) (Some end) None → end ≤ len → end ≡ len
at_end end len e h = by_test (nat_lt end len) refl
  where
    by_test : (b : Bool) → nat_lt end len ≡ b → end ≡ len
    by_test true f = absurd (let g : None ≡ Some end = e ∙ ap (λ t. cond t (Some end) None) f in cc)
    by_test false f = grind (arith, nat_tests)

end_within : (text : List ℕ) → end_of text ≤ length text
end_within [] = omega arith
end_within (c ∷ text) = by_test (c == 10) refl (end_within text)
  where
    by_test : (b : Bool) → (c == 10) ≡ b → end_of text ≤ length text → end_of (c ∷ text) ≤ suc (length text)
    by_test true e h = omega (arith, fed c text e)
    by_test false e h = omega (arith, not_fed c text e)

pub last_line : (text : List ℕ) → 0 < length text → None ≡ position (λ c. c == 10) text → lines_of text ≡ text ∷ []
last_line text h e = line_whole text h (at_end (end_of text) (length text) e (end_within text))
