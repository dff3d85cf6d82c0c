-- The grammar of the texts of names, as relations.
use Rattle.std.specs.Prelude.{◌≡◌, ◌≤◌, ℕ, List, [], ◌∷◌, ◌++◌, true, false, Some}
use Rattle.dns_names.specs.Name.{Labels}
use Rattle.dns_names.specs.Text.{dot, backslash, is_digit, is_printable, three_digits, cut_text}
use Rattle.std.specs.Prelude.{◌==◌}

-- An octet of a label: a printable character that is no dot and no backslash, such a character
-- that is no digit behind a backslash, or three digits behind one.
pub data WritesOctet : List ℕ → ℕ → Type 0 where
  writes_itself : (c : ℕ) → is_printable c ≡ true → (c == dot) ≡ false → (c == backslash) ≡ false → WritesOctet (c ∷ []) c
  writes_quoted : (c : ℕ) → is_printable c ≡ true → is_digit c ≡ false → WritesOctet (backslash ∷ c ∷ []) c
  writes_number : (a b c : ℕ) → is_digit a ≡ true → is_digit b ≡ true → is_digit c ≡ true → three_digits a b c ≤ 255
      → WritesOctet (backslash ∷ a ∷ b ∷ c ∷ []) (three_digits a b c)

-- the octets of a label in order
pub data WritesLabel : List ℕ → List ℕ → Type 0 where
  writes_none : WritesLabel [] []
  writes_more : (front text : List ℕ) (n : ℕ) (label : List ℕ) → WritesOctet front n → WritesLabel text label → WritesLabel (front ++ text) (n ∷ label)

-- labels with dots between
pub data WritesLabels : List ℕ → Labels → Type 0 where
  writes_last : (text label : List ℕ) → WritesLabel text label → WritesLabels text (label ∷ [])
  writes_dot : (front text label : List ℕ) (labels : Labels) → WritesLabel front label → WritesLabels text labels
      → WritesLabels (front ++ dot ∷ text) (label ∷ labels)

-- A text is cut into labels exactly where it writes them.
pub record GrammarLaws : Type 0 where
  pub cut_writes : (text : List ℕ) (labels : Labels) → cut_text text ≡ Some labels → WritesLabels text labels
  pub written_is_cut : (text : List ℕ) (labels : Labels) → WritesLabels text labels → cut_text text ≡ Some labels
