-- Two requests that are asked together, and the turns until both replies.
use Rattle.std.specs.Prelude.{◌≡◌, ◌⊎◌, ℕ, ◌+◌, ◌≤◌, Bool, true, false, ◌&&◌, List, [], ◌∷◌, ◌++◌, length, None, Some, is_some}
use Rattle.client_request.specs.Request.{Request}
use Rattle.client_request.specs.declared.event.Out.{Out}
use Rattle.client_request.specs.declared.event.Row.{Row}
use Rattle.client_steps.specs.Client.{plain_rows}
use Rattle.client_steps.specs.Whole.{machine}
use Rattle.client_loop.specs.declared.both.BothReplies.{BothReplies}
use Rattle.client_loop.specs.Asking.{Asked, Begun, Scene, StopsForNumbers, client_of, rows_of}
use Rattle.client_loop.specs.Replies.{first_reply, or_later, reply_in, reply_of}
use Rattle.client_loop.specs.Turns.{Turn, events_of}

abbrev pub no_replies : BothReplies
no_replies = record { first = None; second = None }

-- of each the earlier one, or else the later one
abbrev pub or_replies : BothReplies → BothReplies → BothReplies
or_replies earlier later = record { first = or_later earlier.first later.first; second = or_later earlier.second later.second }

-- whether both are there
abbrev pub are_there : BothReplies → Bool
are_there replies = is_some replies.first && is_some replies.second

-- what an out replies to the request of a number and to the next one
abbrev pub replies_of : ℕ → Out → BothReplies
replies_of number out = record { first = reply_of number out; second = reply_of (number + 1) out }

-- the first replies to them among outs
abbrev pub replies_in : ℕ → List Out → BothReplies
replies_in number outs = record { first = reply_in number outs; second = reply_in (number + 1) outs }

-- and among rows
abbrev pub first_replies : ℕ → List Row → BothReplies
first_replies number rows = record { first = first_reply number rows; second = first_reply (number + 1) rows }

-- Two requests were asked, the second right behind the first, and then turns were made.
pub record AskedBoth (first second : Request) (old new : Scene) : Type 0 where
  pub row : Row
  pub middle : Scene
  pub begun : Begun first old middle row
  pub timeout : middle.client.timeout ≡ old.client.timeout
  pub asked : Asked second middle new

-- the rows in which they were asked, and those of the turns
abbrev pub all_rows : {first second : Request} {old new : Scene} → AskedBoth first second old new → List Row
all_rows both = both.row ∷ rows_of both.asked.asking both.asked.turns

-- They were asked, no turn was made, and these replies came at once.
pub record AreBegun (number : ℕ) (first second : Request) (old new : Scene) (replies : BothReplies) : Type 0 where
  pub both : AskedBoth first second old new
  pub no_turns : both.asked.turns ≡ []
  pub replies_are : replies ≡ first_replies number (all_rows both)

-- Before each of these turns, whose rows come behind those before, a reply was missing.
abbrev pub AreNeeded : (number : ℕ) → (before : List Row) → List Turn → Type 0
AreNeeded number before [] = Unit {0}
AreNeeded number before (turn ∷ turns) = (are_there (first_replies number before) ≡ false) × AreNeeded number (before ++ turn.row ∷ []) turns

-- Both were asked, and turns were made until both replies were there, or as many as there may be. The rows are the plain client's of their events, and each
-- reply is the first to its request among them.
pub record AreAnswered (number most : ℕ) (first second : Request) (old new : Scene) (replies : BothReplies) : Type 0 where
  pub both : AskedBoth first second old new
  pub replies_are : replies ≡ first_replies number (all_rows both)
  pub needed : AreNeeded number (both.row ∷ both.asked.asking ∷ []) both.asked.turns
  pub few : length both.asked.turns ≤ most
  pub ends : (are_there replies ≡ true) ⊎ (length both.asked.turns ≡ most)
  pub plain : plain_rows machine old.client.timeout (events_of (all_rows both)) (client_of old) ≡ Some (all_rows both)

-- A number would pass 64 bits when the first is asked, or behind that: when the second is asked, or in a turn.
pub data StopForNumbers (first second : Request) (old new : Scene) : Type 0 where
  at_first : StopsForNumbers first old new → StopForNumbers first second old new
  at_second : (middle : Scene) (row : Row) → Begun first old middle row → StopsForNumbers second middle new → StopForNumbers first second old new
