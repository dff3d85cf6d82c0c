-- The digits of octets, one octet behind the other.
use Rattle.std.proofs.Common.{◌≡◌, ◌<◌, ◌+◌, ◌*◌, ℕ, List, [], ◌∷◌, ◌++◌, length, slice_set, take, length-set, refl, ap, ◌∙◌, append_assoc, arith}
use Rattle.std.proofs.lemmas.Grind.{take-set_at}

-- two digits are stored behind those that stand there
pub two_stored : (digits : List ℕ) (at high low : ℕ) → 2 * at + 1 < length digits
    → take (2 * (at + 1)) (slice_set (slice_set digits (2 * at) high) (2 * at + 1) low) ≡ take (2 * at) digits ++ high ∷ low ∷ []
two_stored digits at high low fits =
    let first : take (2 * at + 1) (slice_set digits (2 * at) high) ≡ take (2 * at) digits ++ high ∷ [] = take-set_at digits (2 * at) _ high refl (omega arith) in
    take-set_at (slice_set digits (2 * at) high) (2 * at + 1) _ low (omega arith) (rw (length-set digits (2 * at) high) fits) ∙ ap (λ front. front ++ low ∷ []) first ∙ append_assoc (take (2 * at) digits) (high ∷ []) (low ∷ [])
