-- What a whole text is read as.
use Rattle.std.proofs.Common.{◌≡◌, ◌<◌, ℕ, zero, suc, List, [], ◌∷◌, ◌++◌, length, refl, sym, ◌∙◌, ap, subst, arith, Bool, true, false}
use Rattle.std.specs.Prelude.{Option, Some, None, option_map, Ok, Err, Result, ◌==◌, ◌&&◌, nat_le, if◌then◌else◌}
use Rattle.std.proofs.lemmas.Bool.{eqb-true}
use Rattle.dns_names.specs.Name.{Labels}
use Rattle.dns_names.specs.Text.{cut_text, escaped, numbered, onto, dot, backslash, is_dot, is_digit, is_printable, three_digits, undotted, full, judged, name_labels, relative_labels, name_of_text, relative_of_text, Gives}
use Rattle.dns_names.specs.Draft.{ReadsDraft}
use Rattle.dns_names.specs.declared.fault.NameFault.{NameFault}
use Rattle.dns_names.specs.declared.fault.NameFault.TheVariants as Fault

-- A text that can be cut has a label at least.

either : (b : Bool) (x y : Option Labels) → (x ≡ Some [] → ⊥) → (y ≡ Some [] → ⊥) → (if b then x else y) ≡ Some [] → ⊥
either true x y f g e = f e
either false x y f g e = g e

onto_some : (n : ℕ) (rest : Option Labels) → (rest ≡ Some [] → ⊥) → option_map (onto (n ∷ [])) rest ≡ Some [] → ⊥
onto_some n None f e = absurd cc
onto_some n (Some []) f e = f refl
onto_some n (Some (label ∷ labels)) f e = absurd cc

dot_some : (rest : Option Labels) → option_map (λ (labels : Labels). [] ∷ labels) rest ≡ Some [] → ⊥
dot_some None e = absurd cc
dot_some (Some labels) e = absurd cc

mutual
  unfolding cut_text escaped numbered

  cut_some : (text : List ℕ) → cut_text text ≡ Some [] → ⊥
  cut_some [] e = absurd cc
  cut_some (c ∷ text) e =
      either (c == backslash) (escaped text) _ (λ h. escaped_some text h)
      (either (c == dot) (option_map (λ labels. [] ∷ labels) (cut_text text)) _ (dot_some (cut_text text))
      (either (is_printable c) (option_map (onto (c ∷ [])) (cut_text text)) None (onto_some c (cut_text text) (λ h. cut_some text h)) (λ h. absurd cc))) e

  escaped_some : (text : List ℕ) → escaped text ≡ Some [] → ⊥
  escaped_some [] e = absurd cc
  escaped_some (c ∷ text) e =
      either (is_digit c) (numbered c text) _ (λ h. numbered_some c text h)
      (either (is_printable c) (option_map (onto (c ∷ [])) (cut_text text)) None (onto_some c (cut_text text) (λ h. cut_some text h)) (λ h. absurd cc)) e

  numbered_some : (a : ℕ) (text : List ℕ) → numbered a text ≡ Some [] → ⊥
  numbered_some a [] e = absurd cc
  numbered_some a (b ∷ []) e = absurd cc
  numbered_some a (b ∷ c ∷ text) e =
      either (is_digit b && is_digit c && nat_le (three_digits a b c) 255) (option_map (onto (three_digits a b c ∷ [])) (cut_text text)) None
      (onto_some (three_digits a b c) (cut_text text) (λ h. cut_some text h)) (λ h. absurd cc) e

-- One empty label alone is the empty text's.
not_empty : (b : Bool) (x y : Option Labels) → (x ≡ Some ([] ∷ []) → ⊥) → (y ≡ Some ([] ∷ []) → ⊥) → (if b then x else y) ≡ Some ([] ∷ []) → ⊥
not_empty true x y f g e = f e
not_empty false x y f g e = g e

onto_octets : (n : ℕ) (rest : Option Labels) → option_map (onto (n ∷ [])) rest ≡ Some ([] ∷ []) → ⊥
onto_octets n None e = absurd cc
onto_octets n (Some []) e = absurd cc
onto_octets n (Some (label ∷ labels)) e = absurd cc

dot_more : (rest : Option Labels) → (rest ≡ Some [] → ⊥) → option_map (λ (labels : Labels). [] ∷ labels) rest ≡ Some ([] ∷ []) → ⊥
dot_more None f e = absurd cc
dot_more (Some []) f e = f refl
dot_more (Some (label ∷ labels)) f e = absurd cc

numbered_octets : (a : ℕ) (text : List ℕ) → numbered a text ≡ Some ([] ∷ []) → ⊥
unfolding numbered
numbered_octets a [] e = absurd cc
numbered_octets a (b ∷ []) e = absurd cc
numbered_octets a (b ∷ c ∷ text) e =
    not_empty (is_digit b && is_digit c && nat_le (three_digits a b c) 255) (option_map (onto (three_digits a b c ∷ [])) (cut_text text)) None
    (onto_octets (three_digits a b c) (cut_text text)) (λ h. absurd cc) e

escaped_octets : (text : List ℕ) → escaped text ≡ Some ([] ∷ []) → ⊥
unfolding escaped
escaped_octets [] e = absurd cc
escaped_octets (c ∷ text) e =
    not_empty (is_digit c) (numbered c text) _ (numbered_octets c text)
    (not_empty (is_printable c) (option_map (onto (c ∷ [])) (cut_text text)) None (onto_octets c (cut_text text)) (λ h. absurd cc)) e

cut_octets : (text : List ℕ) → 0 < length text → cut_text text ≡ Some ([] ∷ []) → ⊥
unfolding cut_text
cut_octets [] n e = absurd (omega arith)
cut_octets (c ∷ text) n e =
    not_empty (c == backslash) (escaped text) _ (escaped_octets text)
    (not_empty (c == dot) (option_map (λ labels. [] ∷ labels) (cut_text text)) _ (dot_more (cut_text text) (cut_some text))
    (not_empty (is_printable c) (option_map (onto (c ∷ [])) (cut_text text)) None (onto_octets c (cut_text text)) (λ h. absurd cc))) e

-- What a final dot leaves is no label.
undotted_part : (whole : Labels) (part : List ℕ) → 0 < length part → undotted (whole ++ part ∷ []) ≡ whole ++ part ∷ []
undotted_part [] part n = refl
undotted_part (l ∷ []) [] n = absurd (omega arith)
undotted_part (l ∷ []) (x ∷ part) n = refl
undotted_part (l ∷ [] ∷ []) part n = ap (λ ls. l ∷ ls) (undotted_part ([] ∷ []) part n)
undotted_part (l ∷ (x ∷ m) ∷ []) part n = ap (λ ls. l ∷ ls) (undotted_part ((x ∷ m) ∷ []) part n)
undotted_part (l ∷ [] ∷ k ∷ whole) part n = ap (λ ls. l ∷ ls) (undotted_part ([] ∷ k ∷ whole) part n)
undotted_part (l ∷ (x ∷ m) ∷ k ∷ whole) part n = ap (λ ls. l ∷ ls) (undotted_part ((x ∷ m) ∷ k ∷ whole) part n)

undotted_none : (l : List ℕ) (whole : Labels) → undotted (l ∷ whole ++ [] ∷ []) ≡ l ∷ whole
undotted_none l [] = refl
undotted_none l ([] ∷ []) = ap (λ ls. l ∷ ls) (undotted_none [] [])
undotted_none l ((x ∷ m) ∷ []) = ap (λ ls. l ∷ ls) (undotted_none (x ∷ m) [])
undotted_none l ([] ∷ k ∷ whole) = ap (λ ls. l ∷ ls) (undotted_none [] (k ∷ whole))
undotted_none l ((x ∷ m) ∷ k ∷ whole) = ap (λ ls. l ∷ ls) (undotted_none (x ∷ m) (k ∷ whole))

-- a text that is no dot, cut into whole labels and a last one
pub last_label : (text : List ℕ) (whole : Labels) (part : List ℕ) → is_dot text ≡ false → cut_text text ≡ Some (whole ++ part ∷ []) → 0 < length part
    → full (whole ++ part ∷ []) ≡ name_labels text
unfolding name_labels
last_label text whole part d e n = rw (d, e, undotted_part whole part n) refl

pub final_dot : (text : List ℕ) (whole : Labels) (part : List ℕ) → is_dot text ≡ false → cut_text text ≡ Some (whole ++ part ∷ []) → 0 < length text → length part ≡ 0
    → full whole ≡ name_labels text
unfolding name_labels
final_dot text whole (x ∷ part) d e n z = absurd (omega arith)
final_dot text [] [] d e n z = absurd (cut_octets text n e)
final_dot text (l ∷ whole) [] d e n z = rw (d, e, undotted_none l whole) refl

pub relative_last : (text : List ℕ) (whole : Labels) (part : List ℕ) → cut_text text ≡ Some (whole ++ part ∷ []) → 0 < length text
    → full (whole ++ part ∷ []) ≡ relative_labels text
unfolding relative_labels
relative_last [] whole part e n = absurd (omega arith)
relative_last (c ∷ text) whole part e n = rw e refl

pub gives : (a b : Option Labels) (r : Result Labels NameFault) → a ≡ b → Gives (judged a) r → Gives (judged b) r
gives a b r e h = let P : Option Labels → Type 0 = λ o. Gives (judged o) r in subst P e h

-- the texts that are judged at once
pub empty_name : (text : List ℕ) → length text ≡ 0 → name_of_text text ≡ Err Fault.Parse
unfolding name_labels cut_text
empty_name [] n = refl
empty_name (c ∷ text) n = absurd (omega arith)

pub dot_name : (text : List ℕ) (labels : Labels) → is_dot text ≡ true → labels ≡ [] → name_of_text text ≡ Ok labels
unfolding name_labels
dot_name text labels d n = rw (d, n) refl

pub empty_relative : (text : List ℕ) (labels : Labels) → length text ≡ 0 → labels ≡ [] → relative_of_text text ≡ Ok labels
unfolding relative_labels
empty_relative [] labels z n = rw n refl
empty_relative (c ∷ text) labels z n = absurd (omega arith)

-- a text that is not cut
pub name_fails : (text : List ℕ) (e : NameFault) (r : Result Labels NameFault) → is_dot text ≡ false → ReadsDraft text (Err e) → r ≡ Err e → Gives (name_of_text text) r
unfolding name_labels
name_fails text Fault.Parse r d h s = rw (s, d, h) refl
name_fails text Fault.Long r d h s = absurd h
name_fails text Fault.NoMemory r d h s = rw s tt

pub relative_fails : (text : List ℕ) (e : NameFault) (r : Result Labels NameFault) → 0 < length text → ReadsDraft text (Err e) → r ≡ Err e → Gives (relative_of_text text) r
unfolding relative_labels
relative_fails [] e r n h s = absurd (omega arith)
relative_fails (c ∷ text) Fault.Parse r n h s = rw (s, h) refl
relative_fails (c ∷ text) Fault.Long r n h s = absurd h
relative_fails (c ∷ text) Fault.NoMemory r n h s = rw s tt

-- what a test for no octets says
pub has_some : (b : Bool) (n : ℕ) → b ≡ (n == 0) → b ≡ false → 0 < n
has_some b zero e f = absurd cc
has_some b (suc n) e f = omega arith

pub has_none : (b : Bool) (n : ℕ) → b ≡ (n == 0) → b ≡ true → n ≡ 0
has_none b zero e f = refl
has_none b (suc n) e f = eqb-true (suc n) 0 (sym e ∙ f)
