-- What is written of octets in base 64.
use Rattle.std.proofs.Common.{◌≡◌, ◌≤◌, ℕ, List, [], ◌∷◌, ◌++◌, length, take, drop, refl, ◌∙◌, ap, arith, append_assoc, sym}
use Rattle.dns_presentation.specs.Base64.{base64_text}

base64_split : (octets : List ℕ) → 3 ≤ length octets → base64_text octets ≡ base64_text (take 3 octets) ++ base64_text (drop 3 octets)
base64_split [] h = absurd (omega arith)
base64_split (a ∷ []) h = absurd (omega arith)
base64_split (a ∷ b ∷ []) h = absurd (omega arith)
base64_split (a ∷ b ∷ c ∷ octets) h = refl

-- three octets are behind a text, and the rest behind both
pub three_more : (octets behind text whole : List ℕ) → 3 ≤ length octets → behind ≡ drop 3 octets → text ++ base64_text octets ≡ whole
    → (text ++ base64_text (take 3 octets)) ++ base64_text behind ≡ whole
three_more octets behind text whole h same e =
    ap (λ rest. (text ++ base64_text (take 3 octets)) ++ base64_text rest) same
    ∙ append_assoc text (base64_text (take 3 octets)) (base64_text (drop 3 octets))
    ∙ ap (λ t. text ++ t) (sym (base64_split octets h)) ∙ e
