-- What the outs of a row say of the request that the row asks.
use Rattle.std.specs.Prelude.{ℕ, ◌+◌, ◌==◌, ◌&&◌, ◌||◌, not, Bool, true, false, if◌then◌else◌, List, [], ◌∷◌, Option, Some, None, Result}
use Rattle.number_table.specs.Entries.{entry_at}
use Rattle.client_request.specs.declared.error.Error.{Error}
use Rattle.client_request.specs.declared.event.Out.{Out}
use Rattle.client_request.specs.declared.event.Out.TheVariants.{Start, Stale, Reply}
use Rattle.right_trace.specs.{Messages.Octets, Time.one_if, Requests.Asking, Keys.Key}
use Rattle.trace_hits.specs.Point.{is_number, has_key}

-- the reply to request k that an out is
abbrev pub result_for : (k : ℕ) → Out → Option (Result Octets Error)
result_for k (Reply j x) = if j == k then Some x else None
result_for k _ = None

abbrev pub or_else : Option (Result Octets Error) → Option (Result Octets Error) → Option (Result Octets Error)
or_else (Some x) o = Some x
or_else None o = o

-- the first
abbrev pub reply_to : (k : ℕ) → List Out → Option (Result Octets Error)
reply_to k [] = None
reply_to k (o ∷ os) = or_else (result_for k o) (reply_to k os)

-- an out is a reply to another request
abbrev pub is_other : (k : ℕ) → Out → Bool
is_other k (Reply j x) = not (j == k)
is_other k _ = false

abbrev pub others : (k : ℕ) → List Out → ℕ
others k [] = 0
others k (o ∷ os) = one_if (is_other k o) + others k os

-- an out hands request k to a server
abbrev pub hands : (k : ℕ) → Out → Bool
hands k (Start j s v) = j == k
hands k _ = false

abbrev pub is_handed : (k : ℕ) → List Out → Bool
is_handed k [] = false
is_handed k (o ∷ os) = hands k o || is_handed k os

-- the request whose mark as stale an out is
abbrev pub mark_of : Out → Option ℕ
mark_of (Stale k) = Some k
mark_of _ = None

abbrev pub has_mark : (k : ℕ) → List Out → Bool
has_mark k [] = false
has_mark k (o ∷ os) = is_number k (mark_of o) || has_mark k os

-- An out, behind this mark, is no reply to another request than k with this key, or is stale.
abbrev pub spares : List (ℕ × Asking) → Key → (k : ℕ) → (mark : Option ℕ) → Out → Bool
spares table its k mark (Reply j x) = (j == k) || (is_number j mark || not (has_key its (entry_at j table)))
spares table its k mark _ = true

abbrev pub all_spare : List (ℕ × Asking) → Key → (k : ℕ) → (mark : Option ℕ) → List Out → Bool
all_spare table its k mark [] = true
all_spare table its k mark (o ∷ os) = spares table its k mark o && all_spare table its k (mark_of o) os
