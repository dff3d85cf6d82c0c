-- What the outs of a row owe each other: marks stand before replies, and few of them are faults.
use Rattle.std.specs.Prelude.{◌≡◌, ℕ, ◌≤◌, ◌==◌, ◌&&◌, Bool, true, false, nat_le, List, [], ◌∷◌, Ok, Err}
use Rattle.client_request.specs.declared.event.Out.{Out}
use Rattle.client_request.specs.declared.event.Out.TheVariants.{Stale, Reply}
use Rattle.right_trace.specs.Right.{MarksStand, faults}
use Rattle.trace_points.specs.questions.Outs.{Tells}

-- the first of these is an Ok reply to request k
abbrev pub is_reply_to : (k : ℕ) → Out → Bool
is_reply_to k (Reply j (Ok m)) = j == k
is_reply_to k _ = false

abbrev pub followed_seen : (k : ℕ) → List Out → Bool
followed_seen k [] = false
followed_seen k (o ∷ os) = is_reply_to k o

abbrev pub mark_stands : Out → List Out → Bool
mark_stands (Stale k) os = followed_seen k os
mark_stands _ os = true

abbrev pub marks_seen : List Out → Bool
marks_seen [] = true
marks_seen (o ∷ os) = mark_stands o os && marks_seen os

abbrev pub TellsMarks : List Out → Bool → Type 0
TellsMarks os b = Tells (MarksStand os) b

abbrev pub TellsOneFault : List Out → Bool → Type 0
TellsOneFault os b = Tells (faults os ≤ 1) b
