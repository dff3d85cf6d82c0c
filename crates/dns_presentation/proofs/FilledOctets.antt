-- Octets of which those that lack are 0.
use Rattle.std.proofs.Common.{◌≡◌, ◌<◌, ℕ, zero, suc, List, [], ◌∷◌, length, get_or, refl, ◌∙◌, ap, arith}
use Rattle.dns_presentation.specs.Prefixes.{filled}

-- octets that are at each place what the others are there, or 0
pub is_filled : (n : ℕ) (all octets : List ℕ) → length all ≡ n → ((k : ℕ) → k < n → get_or all k 0 ≡ get_or octets k 0) → all ≡ filled n octets
unfolding filled
is_filled zero [] octets h e = refl
is_filled zero (m ∷ all) octets h e = absurd (omega arith)
is_filled (suc n) [] octets h e = absurd (omega arith)
is_filled (suc n) (m ∷ all) [] h e =
    let few : length all ≡ n = omega arith in
    let first : m ≡ 0 = e 0 (omega arith) in
    ap (λ k. k ∷ all) first ∙ ap (λ rest. 0 ∷ rest) (is_filled n all [] few (λ k less. let more : suc k < suc n = omega arith in e (suc k) more))
is_filled (suc n) (m ∷ all) (octet ∷ octets) h e =
    let few : length all ≡ n = omega arith in
    let first : m ≡ octet = e 0 (omega arith) in
    ap (λ k. k ∷ all) first ∙ ap (λ rest. octet ∷ rest) (is_filled n all octets few (λ k less. let more : suc k < suc n = omega arith in e (suc k) more))

pub four_filled : (octets : List ℕ) → (get_or octets 0 0 ∷ get_or octets 1 0 ∷ get_or octets 2 0 ∷ get_or octets 3 0 ∷ []) ≡ filled 4 octets
unfolding filled
four_filled [] = refl
four_filled (a ∷ []) = refl
four_filled (a ∷ b ∷ []) = refl
four_filled (a ∷ b ∷ c ∷ []) = refl
four_filled (a ∷ b ∷ c ∷ d ∷ octets) = refl
