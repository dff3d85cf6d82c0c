-- Texts that are cut at an octet.
use Rattle.std.specs.Prelude.{ℕ, ◌==◌, if◌then◌else◌, List, [], ◌∷◌, Option, None, Some, option_map}

-- what stands before the first such octet, and what stands behind it
abbrev pub cut_at : ℕ → List ℕ → Option (List ℕ × List ℕ)
cut_at octet [] = None
cut_at octet (c ∷ text) = if c == octet then Some ([], text) else option_map (λ x. (c ∷ x.0, x.1)) (cut_at octet text)

-- the first of two that is there
abbrev pub either : Option (List ℕ) → Option (List ℕ) → Option (List ℕ)
either (Some text) other = Some text
either None other = other

-- what stands behind the last such octet, if there is one
abbrev pub behind_last : ℕ → List ℕ → Option (List ℕ)
behind_last octet [] = None
behind_last octet (c ∷ text) = either (behind_last octet text) (if c == octet then Some text else None)

-- an octet before the first of pieces
abbrev pub onto_first : ℕ → List (List ℕ) → List (List ℕ)
onto_first c [] = (c ∷ []) ∷ []
onto_first c (piece ∷ pieces) = (c ∷ piece) ∷ pieces

-- the pieces between such octets; one, the last, stands behind all of them
abbrev pub pieces_at : ℕ → List ℕ → List (List ℕ)
pieces_at octet [] = [] ∷ []
pieces_at octet (c ∷ text) = if c == octet then [] ∷ pieces_at octet text else onto_first c (pieces_at octet text)
