-- The order in which the servers are started for a request.
use Rattle.std.specs.Prelude.{ℕ, ◌*◌, ◌==◌, nat_lt, min, Bool, true, false, if◌then◌else◌, List, [], ◌∷◌, length, map, insert, remove, slice_get, unwrap_or, Option, Some, None}
use Rattle.std.specs.List.{position}
use Rattle.client_request.specs.View.{View}
use Rattle.client_choice.specs.Redundant.{probe}
use Rattle.client_choice.specs.declared.job.ListedServer.{ListedServer}
use Rattle.client_choice.specs.declared.candidates.Candidate.{Candidate}

-- a server takes longer than that many thousandths of a microsecond
abbrev pub is_slow : (bound : ℕ) → Candidate → Bool
is_slow bound c = nat_lt bound (c.estimate * 1000)

-- shorter queues come first, then lower estimates, then those that were added earlier
abbrev pub is_earlier : (c d : Candidate) → Bool
is_earlier c d =
    if c.queue == d.queue then
    if c.estimate == d.estimate then nat_lt c.server d.server else nat_lt c.estimate d.estimate
    else nat_lt c.queue d.queue

-- fast ones come before slow ones
abbrev pub by_speed : (is_slow other_is_slow is_earlier : Bool) → Bool
by_speed false true is_earlier = true
by_speed true false is_earlier = false
by_speed false false is_earlier = is_earlier
by_speed true true is_earlier = is_earlier

abbrev pub comes_before : (bound : ℕ) → (c d : Candidate) → Bool
comes_before bound c d = by_speed (is_slow bound c) (is_slow bound d) (is_earlier c d)

-- a server is put before the first that it comes before
abbrev pub placed : (bound : ℕ) → Candidate → List Candidate → List Candidate
placed bound c list = insert list (unwrap_or (position (λ d. comes_before bound c d) list) (length list)) c

-- each is put in its place
abbrev pub placed_all : (bound : ℕ) → List Candidate → List Candidate → List Candidate
placed_all bound [] list = list
placed_all bound (c ∷ others) list = placed_all bound others (placed bound c list)

-- the least of a number and of all estimates
abbrev pub least_from : ℕ → List Candidate → ℕ
least_from least [] = least
least_from least (c ∷ others) = least_from (min least c.estimate) others

-- the least estimate: none is above four hours
abbrev pub least_of : List Candidate → ℕ
least_of list = least_from 14400000000 list

-- A server that nothing is asked of goes first, with the least estimate.
abbrev pub brought_forward : (least place : ℕ) → List Candidate → Option Candidate → List Candidate
brought_forward least place cs None = cs
brought_forward least place cs (Some c) = if c.queue == 0 then record c { estimate = least } ∷ remove cs place else cs

abbrev pub forward : (least place : ℕ) → List Candidate → List Candidate
forward least place cs = brought_forward least place cs (slice_get cs place)

-- where one is to be probed
abbrev pub probed : (least : ℕ) → Option ℕ → List Candidate → List Candidate
probed least None list = list
probed least (Some place) list = forward least place list

abbrev pub entry_of : Candidate → ListedServer
entry_of c = record { server = c.server; estimate = c.estimate }

-- what a request is started at, in order, where a server is slow past so many thousandths of the least estimate
abbrev pub in_order : (factor : ℕ) → List Candidate → View → List ListedServer × View
in_order factor list v =
    let order = placed_all (least_of list * factor) list [] in
    let draw = probe (length order) v in
    (map entry_of (probed (least_of list) draw.0 order), draw.1)
