-- Requests that are asked together, and the turns until all replies.
use Rattle.std.specs.Prelude.{◌≡◌, ◌⊎◌, ℕ, zero, suc, ◌+◌, ◌<◌, ◌≤◌, List, [], ◌∷◌, ◌++◌, length, Option, None, Some, Result}
use Rattle.client_request.specs.Request.{Request}
use Rattle.client_request.specs.declared.error.Error.{Error}
use Rattle.client_request.specs.declared.event.Row.{Row}
use Rattle.client_steps.specs.Client.{plain_rows}
use Rattle.client_steps.specs.Whole.{machine}
use Rattle.client_loop.specs.Asking.{Asked, Begun, Scene, StopsForNumbers, client_of, rows_of}
use Rattle.client_loop.specs.Replies.{first_reply, or_later}
use Rattle.client_loop.specs.Turns.{Turn, events_of}

-- what is said of each of so many requests from a number on
abbrev pub of_each : (said : ℕ → Option (Result (List ℕ) Error)) → (number count : ℕ) → List (Option (Result (List ℕ) Error))
of_each said number zero = []
of_each said number (suc count) = said number ∷ of_each said (number + 1) count

-- of each the earlier one, or else the later one
abbrev pub or_each : List (Option (Result (List ℕ) Error)) → List (Option (Result (List ℕ) Error)) → List (Option (Result (List ℕ) Error))
or_each [] later = []
or_each (a ∷ earlier) [] = a ∷ earlier
or_each (a ∷ earlier) (b ∷ later) = or_later a b ∷ or_each earlier later

-- how many stand before the first that is missing
abbrev pub there : List (Option (Result (List ℕ) Error)) → ℕ
there [] = 0
there (Some reply ∷ replies) = suc (there replies)
there (None ∷ replies) = 0

-- of each of so many requests from a number on the first reply among rows
abbrev pub first_replies : (number count : ℕ) → List Row → List (Option (Result (List ℕ) Error))
first_replies number count rows = of_each (λ k. first_reply k rows) number count

-- Requests were asked, one right behind the other, in these rows, and no turn was made.
pub data Opened (old : Scene) : (requests : List Request) → (new : Scene) → (rows : List Row) → Type 0 where
  none : Opened old [] old []
  more : (earlier all : List Request) (request : Request) (middle new : Scene) (before rows : List Row) (row : Row)
      → Opened old earlier middle before → middle.client.timeout ≡ old.client.timeout → Begun request middle new row
      → all ≡ earlier ++ request ∷ [] → rows ≡ before ++ row ∷ [] → Opened old all new rows

-- They were asked so, and these replies came at once.
pub record AllBegun (number : ℕ) (requests : List Request) (replies : List (Option (Result (List ℕ) Error))) (old new : Scene) : Type 0 where
  pub rows : List Row
  pub opened : Opened old requests new rows
  pub replies_are : replies ≡ first_replies number (length requests) rows

-- Requests were asked, one right behind the other, and then turns were made.
pub record AskedAll (requests : List Request) (old new : Scene) : Type 0 where
  pub earlier : List Request
  pub last : Request
  pub requests_are : requests ≡ earlier ++ last ∷ []
  pub middle : Scene
  pub before : List Row
  pub opened : Opened old earlier middle before
  pub timeout : middle.client.timeout ≡ old.client.timeout
  pub asked : Asked last middle new

-- the rows in which they were asked, and those of the turns
abbrev pub all_rows : {requests : List Request} {old new : Scene} → AskedAll requests old new → List Row
all_rows all = all.before ++ rows_of all.asked.asking all.asked.turns

-- Before each of these turns, whose rows come behind those before, a reply was missing.
abbrev pub AreNeeded : (number count : ℕ) → (before : List Row) → List Turn → Type 0
AreNeeded number count before [] = Unit {0}
AreNeeded number count before (turn ∷ turns) = (there (first_replies number count before) < count) × AreNeeded number count (before ++ turn.row ∷ []) turns

-- Turns were made until all replies were there, or as many as there may be. The rows are the plain client's of their events, and each reply is the first to
-- its request among them.
pub record AllAnswered (number most : ℕ) (requests : List Request) (old new : Scene) (replies : List (Option (Result (List ℕ) Error))) : Type 0 where
  pub all : AskedAll requests old new
  pub replies_are : replies ≡ first_replies number (length requests) (all_rows all)
  pub needed : AreNeeded number (length requests) (all.before ++ all.asked.asking ∷ []) all.asked.turns
  pub few : length all.asked.turns ≤ most
  pub ends : (there replies ≡ length requests) ⊎ (length all.asked.turns ≡ most)
  pub plain : plain_rows machine old.client.timeout (events_of (all_rows all)) (client_of old) ≡ Some (all_rows all)

-- All were asked and answered so, within a million turns, or there was none and nothing happened.
pub data AllReplied (number : ℕ) (requests : List Request) (replies : List (Option (Result (List ℕ) Error))) (old new : Scene) : Type 0 where
  no_request : requests ≡ [] → replies ≡ [] → new ≡ old → AllReplied number requests replies old new
  answered : AllAnswered number 1000000 requests old new replies → AllReplied number requests replies old new

-- A number would pass 64 bits when one of the requests is asked, or in a turn behind the last.
pub record StopAll (requests : List Request) (old new : Scene) : Type 0 where
  pub earlier : List Request
  pub request : Request
  pub later : List Request
  pub requests_are : requests ≡ earlier ++ request ∷ later
  pub middle : Scene
  pub rows : List Row
  pub opened : Opened old earlier middle rows
  pub stops : StopsForNumbers request middle new
