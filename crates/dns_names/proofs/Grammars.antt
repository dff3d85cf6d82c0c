-- A text is cut into labels exactly where it writes them.
use Rattle.std.proofs.Common.{◌≡◌, ℕ, List, [], ◌∷◌, ◌++◌, refl, sym, ◌∙◌, ap, subst, Bool, true, false, append_assoc, append-nil}
use Rattle.std.specs.Prelude.{Option, Some, None, option_map, ◌==◌, ◌&&◌, nat_le, if◌then◌else◌}
use Rattle.std.proofs.lemmas.Bool.{eqb-true, leb-true, le-leb}
use Rattle.dns_names.specs.Name.{Labels}
use Rattle.dns_names.specs.Text.{cut_text, escaped, numbered, onto, dot, backslash, is_digit, is_printable, three_digits}
use Rattle.dns_names.specs.Grammar.{WritesOctet, writes_itself, writes_quoted, writes_number, WritesLabel, writes_none, writes_more, WritesLabels, writes_last, writes_dot}
use Rattle.dns_names.proofs.Shown.{onto_onto, onto_nothing, cut_end, cut_dot}

-- what is written is cut
octet_cut : (front text : List ℕ) (n : ℕ) → WritesOctet front n → cut_text (front ++ text) ≡ option_map (onto (n ∷ [])) (cut_text text)
unfolding cut_text escaped numbered
octet_cut front text n (writes_itself c p d b) = rw (b, d, p) refl
octet_cut front text n (writes_quoted c p d) = rw (d, p) refl
octet_cut front text n (writes_number a b c h k l small) = rw (h, k, l, le-leb (three_digits a b c) 255 small) refl

label_cut : (front text label : List ℕ) → WritesLabel front label → cut_text (front ++ text) ≡ option_map (onto label) (cut_text text)
label_cut front text label writes_none = onto_nothing (cut_text text)
label_cut front text label (writes_more f t n l w ws) =
    ap cut_text (append_assoc f t text) ∙ octet_cut f (t ++ text) n w ∙ ap (option_map (onto (n ∷ []))) (label_cut t text l ws) ∙ onto_onto n l (cut_text text)

pub written_is_cut : (text : List ℕ) (labels : Labels) → WritesLabels text labels → cut_text text ≡ Some labels
written_is_cut text labels (writes_last t l w) = ap cut_text (sym (append-nil t)) ∙ label_cut t [] l w ∙ cut_end l
written_is_cut text labels (writes_dot f t l ls w ws) =
    label_cut f (dot ∷ t) l w ∙ cut_dot l t ∙ ap (option_map (λ labels. l ∷ labels)) (written_is_cut t ls ws)

-- what is cut is written
onto_writes : (front text : List ℕ) (n : ℕ) (labels : Labels) → WritesOctet front n → WritesLabels text labels → WritesLabels (front ++ text) (onto (n ∷ []) labels)
onto_writes front text n labels o (writes_last t l w) = writes_last (front ++ t) (n ∷ l) (writes_more front t n l o w)
onto_writes front text n labels o (writes_dot f t l ls w ws) =
    let P : List ℕ → Type 0 = λ x. WritesLabels x ((n ∷ l) ∷ ls) in
    subst P (append_assoc front f (dot ∷ t)) (writes_dot (front ++ f) t (n ∷ l) ls (writes_more front f n l o w) ws)

octet_then : (front text : List ℕ) (n : ℕ) (labels : Labels) (o : Option Labels) → WritesOctet front n → ((ls : Labels) → o ≡ Some ls → WritesLabels text ls)
    → option_map (onto (n ∷ [])) o ≡ Some labels → WritesLabels (front ++ text) labels
octet_then front text n labels None w each e = absurd cc
octet_then front text n labels (Some ls) w each e =
    let P : Labels → Type 0 = λ x. WritesLabels (front ++ text) x in
    let same : onto (n ∷ []) ls ≡ labels = cc in subst P same (onto_writes front text n ls w (each ls refl))

dot_then : (text : List ℕ) (labels : Labels) (o : Option Labels) → ((ls : Labels) → o ≡ Some ls → WritesLabels text ls)
    → option_map (λ (labels : Labels). [] ∷ labels) o ≡ Some labels → WritesLabels (dot ∷ text) labels
dot_then text labels None each e = absurd cc
dot_then text labels (Some ls) each e =
    let P : Labels → Type 0 = λ x. WritesLabels (dot ∷ text) x in
    let same : [] ∷ ls ≡ labels = cc in subst P same (writes_dot [] text [] ls writes_none (each ls refl))

choice : {A : Type 0} (b : Bool) (x y : Option Labels) (labels : Labels) → (b ≡ true → x ≡ Some labels → A) → (b ≡ false → y ≡ Some labels → A) → (if b then x else y) ≡ Some labels → A
choice true x y labels f g e = f refl e
choice false x y labels f g e = g refl e

both : (a b : Bool) → (a && b) ≡ true → (a ≡ true) × (b ≡ true)
both true true e = (refl, refl)
both true false e = absurd cc
both false b e = absurd cc

mutual
  unfolding cut_text escaped numbered

  pub cut_writes : (text : List ℕ) (labels : Labels) → cut_text text ≡ Some labels → WritesLabels text labels
  cut_writes [] labels e =
      let P : Labels → Type 0 = λ x. WritesLabels [] x in
      let same : ◌≡◌ {A = Labels} ([] ∷ []) labels = cc in subst P same (writes_last [] [] writes_none)
  cut_writes (c ∷ text) labels e =
      let P : ℕ → Type 0 = λ x. WritesLabels (x ∷ text) labels in
      choice (c == backslash) (escaped text) _ labels (λ b f. subst P (sym (eqb-true c backslash b)) (escaped_writes text labels f))
      (λ b. choice (c == dot) (option_map (λ labels. [] ∷ labels) (cut_text text)) _ labels
      (λ d f. subst P (sym (eqb-true c dot d)) (dot_then text labels (cut_text text) (λ ls g. cut_writes text ls g) f))
      (λ d. choice (is_printable c) (option_map (onto (c ∷ [])) (cut_text text)) None labels
      (λ p f. octet_then (c ∷ []) text c labels (cut_text text) (writes_itself c p d b) (λ ls g. cut_writes text ls g) f)
      (λ p f. absurd cc))) e

  escaped_writes : (text : List ℕ) (labels : Labels) → escaped text ≡ Some labels → WritesLabels (backslash ∷ text) labels
  escaped_writes [] labels e = absurd cc
  escaped_writes (c ∷ text) labels e =
      choice (is_digit c) (numbered c text) _ labels (λ d f. numbered_writes c text labels d f)
      (λ d. choice (is_printable c) (option_map (onto (c ∷ [])) (cut_text text)) None labels
      (λ p f. octet_then (backslash ∷ c ∷ []) text c labels (cut_text text) (writes_quoted c p d) (λ ls g. cut_writes text ls g) f)
      (λ p f. absurd cc)) e

  numbered_writes : (a : ℕ) (text : List ℕ) (labels : Labels) → is_digit a ≡ true → numbered a text ≡ Some labels → WritesLabels (backslash ∷ a ∷ text) labels
  numbered_writes a [] labels d e = absurd cc
  numbered_writes a (b ∷ []) labels d e = absurd cc
  numbered_writes a (b ∷ c ∷ text) labels d e =
      choice (is_digit b && is_digit c && nat_le (three_digits a b c) 255) (option_map (onto (three_digits a b c ∷ [])) (cut_text text)) None labels
      (λ t f.
      let first = both (is_digit b && is_digit c) (nat_le (three_digits a b c) 255) t in
      let second = both (is_digit b) (is_digit c) first.0 in
      octet_then (backslash ∷ a ∷ b ∷ c ∷ []) text (three_digits a b c) labels (cut_text text)
      (writes_number a b c d second.0 second.1 (leb-true (three_digits a b c) 255 first.1)) (λ ls g. cut_writes text ls g) f)
      (λ t f. absurd cc) e
