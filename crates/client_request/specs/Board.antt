-- The board: parts for tickets, in the order in which they were put.
use Rattle.std.specs.Prelude.{◌≡◌, ℕ, ◌==◌, true, false, List, [], ◌∷◌, ◌++◌, Option, Some, None, option_map, option_and_then, Result, Ok, slice_get}
use Rattle.std.specs.List.{position, remove}
use Rattle.client_request.specs.declared.error.Error.{Error}
use Rattle.client_request.specs.declared.board.Posted.{Posted}

abbrev pub Part : Type 0
Part = Result (Option (List ℕ)) Error

abbrev pub posted : ℕ → Part → List Posted → List Posted
posted ticket part ps = ps ++ record { ticket = ticket; part = part; is_stale = false } ∷ []

-- an expired message, which stands in for an error
abbrev pub posted_stale : ℕ → List ℕ → List Posted → List Posted
posted_stale ticket message ps = ps ++ record { ticket = ticket; part = Ok (Some message); is_stale = true } ∷ []

abbrev pub place_of : ℕ → List Posted → Option ℕ
place_of ticket ps = position (λ p. p.ticket == ticket) ps

-- the oldest part of a ticket
abbrev pub part_of : ℕ → List Posted → Option Part
part_of ticket ps = option_and_then (λ i. option_map (λ p. p.part) (slice_get ps i)) (place_of ticket ps)

abbrev pub removed_at : List Posted → Option ℕ → List Posted
removed_at ps None = ps
removed_at ps (Some i) = remove ps i

-- without the oldest part of a ticket
abbrev pub without_part : ℕ → List Posted → List Posted
without_part ticket ps = removed_at ps (place_of ticket ps)

-- The part that was put first is taken, and the others stay in their order; none where no part stands.
abbrev pub TakesFirst : Option Posted → (old new : List Posted) → Type 0
TakesFirst None old new = (old ≡ []) × (new ≡ [])
TakesFirst (Some first) old new = old ≡ first ∷ new
