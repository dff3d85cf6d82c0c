-- What is written of types by bits.
use Rattle.std.proofs.Common.{◌≡◌, ◌<◌, ◌+◌, ℕ, suc, List, [], ◌∷◌, ◌++◌, length, drop, get_or, refl, sym, ◌∙◌, ap, arith, append_assoc, length-drop}
use Rattle.std.proofs.Math.Seq.{drop-cons}
use Rattle.dns_presentation.specs.Types.{octet_types, bits_text}
use Rattle.dns_presentation.proofs.CountedTexts.{append_none}

bits_of : (at octet : ℕ) (octets : List ℕ) → bits_text at (octet ∷ octets) ≡ octet_types at octet ++ bits_text (at + 8) octets
bits_of at octet octets = refl

-- an octet is behind a text, and the rest behind both
pub bits_more : (at i : ℕ) (octets text whole : List ℕ) → i < length octets → text ++ bits_text at (drop i octets) ≡ whole
    → (text ++ octet_types at (get_or octets i 0)) ++ bits_text (at + 8) (drop (i + 1) octets) ≡ whole
bits_more at i octets text whole h e =
    let next : suc i ≡ i + 1 = omega arith in
    let front : drop i octets ≡ get_or octets i 0 ∷ drop (i + 1) octets = drop-cons octets i 0 h ∙ ap (λ k. get_or octets i 0 ∷ drop k octets) next in
    append_assoc text (octet_types at (get_or octets i 0)) (bits_text (at + 8) (drop (i + 1) octets))
    ∙ ap (λ t. text ++ t) (sym (ap (bits_text at) front ∙ bits_of at (get_or octets i 0) (drop (i + 1) octets))) ∙ e

no_bits : (at : ℕ) (octets : List ℕ) → length octets ≡ 0 → bits_text at octets ≡ []
no_bits at [] h = refl
no_bits at (n ∷ octets) h = absurd (omega arith)

pub bits_end : (at i : ℕ) (octets text whole : List ℕ) → i ≡ length octets → text ++ bits_text at (drop i octets) ≡ whole → text ≡ whole
bits_end at i octets text whole h e =
    let none : length (drop i octets) ≡ 0 = omega (arith, length-drop i octets) in
    sym (append_none text) ∙ ap (λ t. text ++ t) (sym (no_bits at (drop i octets) none)) ∙ e
