-- What of the rows of a history waits for the first caller.
use Rattle.std.specs.Prelude.{ℕ, ◌==◌, Bool, true, false, if◌then◌else◌, nat_lt, List, [], ◌∷◌, ◌++◌}
use Rattle.front_peers.specs.declared.event.FrontOut.{FrontOut}
use Rattle.front_peers.specs.declared.event.FrontOut.TheVariants.{Core, Answer, Drop}
use Rattle.front_shared.specs.declared.entry.Entry.{Entry}
use Rattle.client_request.specs.Peers.{first_stream}

-- Whoever made the row of an out may do it: it is an answer by a datagram.
abbrev pub is_for_any : FrontOut → Bool
is_for_any (Answer peer octets) = nat_lt peer first_stream
is_for_any (Core out) = false
is_for_any (Drop peer) = false

-- An out is the first caller's to do, or not.
abbrev pub kept_if : (is_for_any : Bool) → FrontOut → List FrontOut
kept_if true out = []
kept_if false out = out ∷ []

-- those outs that are the first caller's to do, in order
abbrev pub for_first : List FrontOut → List FrontOut
for_first [] = []
for_first (out ∷ outs) = kept_if (is_for_any out) out ++ for_first outs

-- the others
abbrev pub any_if : (is_for_any : Bool) → FrontOut → List FrontOut
any_if true out = out ∷ []
any_if false out = []

abbrev pub for_any : List FrontOut → List FrontOut
for_any [] = []
for_any (out ∷ outs) = any_if (is_for_any out) out ++ for_any outs

-- What waits for the first caller behind a row of a caller: the first caller is told of all that waits, and does all of its own row.
abbrev pub after_row : (caller : ℕ) → (outs waiting : List FrontOut) → List FrontOut
after_row caller outs waiting = if caller == 0 then [] else waiting ++ for_first outs

-- what waits behind these entries
abbrev pub waits_behind : List FrontOut → List Entry → List FrontOut
waits_behind waiting [] = waiting
waits_behind waiting (e ∷ entries) = waits_behind (after_row e.caller e.row.outs waiting) entries

abbrev pub waits_after : List Entry → List FrontOut
waits_after entries = waits_behind [] entries

-- the first caller is told what waits
abbrev pub told_to : (caller : ℕ) → List FrontOut → List FrontOut
told_to caller waiting = if caller == 0 then waiting else []
