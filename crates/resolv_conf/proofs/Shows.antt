-- The words of an options line.
use Rattle.std.proofs.Common.{◌≡◌, ◌++◌, ◌||◌, ℕ, Bool, true, false, List, [], ◌∷◌, map, refl, ap, ◌∙◌, codes, cond, not, ◌==◌, ◌/◌}
use Rattle.std.specs.Fmt.{decimal}
use Rattle.std.specs.List.{list_any, flat_map}
use Rattle.resolv_conf.specs.declared.show.OptionWord.{OptionWord}
use Rattle.resolv_conf.specs.OptionWord.{shown_word}
use Rattle.resolv_conf.specs.Show.{shown_text, line_text}

any_shown : (words : List OptionWord) → list_any (λ w. w.0) (map shown_word words) ≡ list_any (λ w. w.shown) words
unfolding shown_word
any_shown [] = refl
any_shown (w ∷ words) = ap (λ b. w.shown || b) (any_shown words)

texts_shown : (words : List OptionWord) → flat_map shown_text (map shown_word words) ≡ flat_map (λ w. shown_text (shown_word w)) words
texts_shown [] = refl
texts_shown (w ∷ words) = ap (λ t. shown_text (shown_word w) ++ t) (texts_shown words)

pub none_shown : (words : List OptionWord) → list_any (λ w. w.shown) words ≡ false → line_text (map shown_word words) ≡ []
none_shown words e =
    ap (λ b. cond b (codes "options" ++ flat_map shown_text (map shown_word words) ++ 10 ∷ []) []) (any_shown words ∙ e)

pub some_shown : (words : List OptionWord) → list_any (λ w. w.shown) words ≡ true
    → line_text (map shown_word words) ≡ codes "options" ++ flat_map (λ w. shown_text (shown_word w)) words ++ 10 ∷ []
some_shown words e =
    ap (λ b. cond b (codes "options" ++ flat_map shown_text (map shown_word words) ++ 10 ∷ []) []) (any_shown words ∙ e)
    ∙ ap (λ t. codes "options" ++ t ++ 10 ∷ []) (texts_shown words)

pub beside : {A : Type 0} {x y : A} {xs ys : List A} → x ≡ y → xs ≡ ys → x ∷ xs ≡ y ∷ ys
beside e f = cc

-- the word of a timeout, of these microseconds and seconds
abbrev pub timeout_shown : ℕ → ℕ → Bool × List ℕ
timeout_shown micros secs = (not (micros == 5000000), codes "timeout:" ++ decimal secs)

pub timeout_word : (micros secs timeout : ℕ) → micros ≡ timeout → secs ≡ timeout / 1000000
    → timeout_shown micros secs ≡ timeout_shown timeout (timeout / 1000000)
timeout_word micros secs timeout e f = ap (λ n. timeout_shown n secs) e ∙ ap (timeout_shown timeout) f
