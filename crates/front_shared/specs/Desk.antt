-- What lies under the lock of a shared forwarder: there are entries, though only their count is kept.
use Rattle.std.specs.Prelude.{◌≡◌, ◌+◌, ◌<◌, ◌^◌, ℕ, false, List, length, Option, Some, None}
use Rattle.atomic_table.specs.Seated.{TableId}
use Rattle.atomic_table.specs.declared.shared.Seat.{Seat}
use Rattle.joint_history.specs.declared.view.View.{View}
use Rattle.client_request.specs.declared.event.Row.{Row}
use Rattle.client_steps.specs.Whole.{Whole}
use Rattle.front_peers.specs.declared.event.FrontOut.{FrontOut}
use Rattle.front_steps.specs.Steps.{Forwarding}
use Rattle.front_shared.specs.Waiting.{waits_after}
use Rattle.front_shared.specs.History.{AreMade, EndsSo, IsKeeping, Opening, history}
use Rattle.front_shared.specs.declared.entry.Entry.{Entry}
use Rattle.front_shared.specs.declared.entry.Item.{Item}

-- Before its end: the forwarder stands where these entries lead, and what they leave to the first caller waits.
pub record IsCounting (table : TableId) (o : Opening) (forwarder : Forwarding Whole) (left : ℕ → ℕ) (waiting : List FrontOut) (count : ℕ) (seat : Seat (Unit {0}) (View Item)) : Type 0 where
  pub entries : List Entry
  pub trace : List Row
  pub made : AreMade o entries trace forwarder left
  pub lives : forwarder.failed ≡ false
  pub waits : waiting ≡ waits_after entries
  pub count_is : count ≡ length entries
  pub room : count + 1 < 2 ^ 64
  pub keeping : IsKeeping table (history entries None) seat

-- Before or behind its end.
abbrev pub IsDesk : TableId → Opening → Forwarding Whole → (left : ℕ → ℕ) → (waiting : List FrontOut) → (count : ℕ) → (ended : Option ℕ) → Seat (Unit {0}) (View Item) → Type 0
IsDesk table o forwarder left waiting count None seat = IsCounting table o forwarder left waiting count seat
IsDesk table o forwarder left waiting count (Some caller) seat = EndsSo table o caller seat
