-- The texts of names, as they are read.
use Rattle.std.proofs.Common.{◌++◌, append_assoc, append-nil, ◌≡◌, ◌≤◌, ◌-◌, ℕ, suc, List, [], ◌∷◌, length, get_or, take, drop, refl, sym, ◌∙◌, ap, arith, true}
use Rattle.std.specs.Prelude.{Option, Some, None, option_map}
use Rattle.std.proofs.lemmas.Bool.{le-leb}
use Rattle.std.proofs.lemmas.List.{take_all}
use Rattle.dns_names.specs.Name.{Labels}
use Rattle.dns_names.specs.Draft.{after_piece}
use Rattle.dns_names.specs.declared.text.Piece.{Piece}
use Rattle.dns_names.specs.declared.text.Piece.TheVariants.{Dot, Octet}
use Rattle.dns_names.specs.Text.{cut_text, numbered, onto, is_digit, three_digits}

-- three digits that write an octet
pub number_is_read : (a : ℕ) (text : List ℕ) → 2 ≤ length text → is_digit (get_or text 0 0) ≡ true → is_digit (get_or text 1 0) ≡ true
    → three_digits a (get_or text 0 0) (get_or text 1 0) ≤ 255
    → numbered a text ≡ option_map (onto (three_digits a (get_or text 0 0) (get_or text 1 0) ∷ [])) (cut_text (take (length text - 2) (drop 2 text)))
unfolding numbered
number_is_read a [] n h k small = absurd (omega arith)
number_is_read a (b ∷ []) n h k small = absurd (omega arith)
number_is_read a (b ∷ c ∷ text) n h k small =
    let whole : take (suc (suc (length text)) - 2) text ≡ text = take_all (suc (suc (length text)) - 2) text (omega arith) in
    rw (h, k, le-leb (three_digits a b c) 255 small) (ap (λ rest. option_map (onto (three_digits a b c ∷ [])) (cut_text rest)) (sym whole))

-- a label that is read, with what is read behind it
pub onto_none : (labels : Labels) → onto [] labels ≡ labels
onto_none [] = refl
onto_none (label ∷ labels) = refl

pub onto_more : (part : List ℕ) (n : ℕ) (labels : Labels) → onto part (onto (n ∷ []) labels) ≡ onto (part ++ n ∷ []) labels
onto_more part n [] = refl
onto_more part n (label ∷ labels) = ap (λ l. l ∷ labels) (sym (append_assoc part (n ∷ []) label))

pub onto_dot : (part : List ℕ) (labels : Labels) → onto part ([] ∷ labels) ≡ part ∷ labels
onto_dot part labels = ap (λ l. l ∷ labels) (append-nil part)

-- What a text is cut into, by the whole labels, the octets of the next and the text behind them.
unfoldable pub resumed : Labels → List ℕ → Option Labels → Option Labels
resumed whole part rest = option_map (λ labels. whole ++ onto part labels) rest

pub at_start : (rest : Option Labels) → resumed [] [] rest ≡ rest
unfolding resumed
at_start None = refl
at_start (Some labels) = ap Some (onto_none labels)

pub at_octet : (whole : Labels) (part : List ℕ) (n : ℕ) (rest : Option Labels) → resumed whole part (option_map (onto (n ∷ [])) rest) ≡ resumed whole (part ++ n ∷ []) rest
unfolding resumed
at_octet whole part n None = refl
at_octet whole part n (Some labels) = ap (λ l. Some (whole ++ l)) (onto_more part n labels)

pub at_dot : (whole : Labels) (part : List ℕ) (rest : Option Labels) → resumed whole part (option_map (λ labels. [] ∷ labels) rest) ≡ resumed (whole ++ part ∷ []) [] rest
unfolding resumed
at_dot whole part None = refl
at_dot whole part (Some labels) =
    let apart : whole ++ (part ∷ labels) ≡ (whole ++ part ∷ []) ++ labels = sym (append_assoc whole (part ∷ []) labels) in
    ap (λ l. Some (whole ++ l)) (onto_dot part labels) ∙ ap Some (apart ∙ ap (λ l. (whole ++ part ∷ []) ++ l) (sym (onto_none labels)))

pub at_end : (whole : Labels) (part : List ℕ) → resumed whole part (cut_text []) ≡ Some (whole ++ part ∷ [])
unfolding resumed cut_text
at_end whole part = ap (λ l. Some (whole ++ l)) (onto_dot part [])

pub at_none : (whole : Labels) (part : List ℕ) → resumed whole part None ≡ None
unfolding resumed
at_none whole part = refl

-- one round of reading: the text so far, its rest, and what is behind the first piece of that
pub go_start : (text part : List ℕ) → part ≡ [] → cut_text text ≡ resumed [] part (cut_text text)
go_start text part e = sym (at_start (cut_text text)) ∙ ap (λ p. resumed [] p (cut_text text)) (sym e)

pub go_dot : (text rest behind part next : List ℕ) (whole : Labels) (piece : Piece) → cut_text text ≡ resumed whole part (cut_text rest)
    → cut_text rest ≡ after_piece piece (cut_text behind) → piece ≡ Dot → next ≡ [] → cut_text text ≡ resumed (whole ++ part ∷ []) next (cut_text behind)
go_dot text rest behind part next whole piece e f d n =
    e ∙ ap (λ r. resumed whole part r) (f ∙ ap (λ p. after_piece p (cut_text behind)) d) ∙ at_dot whole part (cut_text behind)
    ∙ ap (λ p. resumed (whole ++ part ∷ []) p (cut_text behind)) (sym n)

pub go_octet : (text rest behind part next : List ℕ) (whole : Labels) (piece : Piece) (n : ℕ) → cut_text text ≡ resumed whole part (cut_text rest)
    → cut_text rest ≡ after_piece piece (cut_text behind) → piece ≡ Octet n → next ≡ part ++ n ∷ [] → cut_text text ≡ resumed whole next (cut_text behind)
go_octet text rest behind part next whole piece n e f d m =
    e ∙ ap (λ r. resumed whole part r) (f ∙ ap (λ p. after_piece p (cut_text behind)) d) ∙ at_octet whole part n (cut_text behind)
    ∙ ap (λ p. resumed whole p (cut_text behind)) (sym m)

pub go_end : (text rest part : List ℕ) (whole : Labels) → cut_text text ≡ resumed whole part (cut_text rest) → length rest ≡ 0 → cut_text text ≡ Some (whole ++ part ∷ [])
go_end text [] part whole e n = e ∙ at_end whole part
go_end text (c ∷ rest) part whole e n = absurd (omega arith)

pub go_none : (text rest part : List ℕ) (whole : Labels) → cut_text text ≡ resumed whole part (cut_text rest) → cut_text rest ≡ None → cut_text text ≡ None
go_none text rest part whole e n = e ∙ ap (λ r. resumed whole part r) n ∙ at_none whole part
