-- What lies under the lock of a client of which no journal is kept: there are entries all the same.
use Rattle.std.specs.Prelude.{◌≡◌, ◌+◌, ◌≤◌, ◌^◌, ℕ, List, length, Option, Some, None}
use mathlib.Core.List.{IsPrefix}
use Rattle.atomic_table.specs.Seated.{TableId}
use Rattle.atomic_table.specs.declared.shared.Seat.{Seat}
use Rattle.joint_history.specs.declared.view.View.{View}
use Rattle.client_steps.specs.Whole.{Whole}
use Rattle.client_shared.specs.declared.entry.Entry.{Entry}
use Rattle.client_shared.specs.declared.entry.Item.{Item}
use Rattle.joint_history.specs.Views.{own}
use Rattle.client_shared.specs.History.{Opening, Passed, IsDesk, IsKeeping, Stands, calls, caller_of, history, is_lost}

-- without a loss
pub record IsCounting {W : Type 0} (table : TableId) (o : Opening) (stream : W → ℕ → ℕ) (client : Whole) (words : W) (count : ℕ) (seat : Seat (Unit {0}) (View Item)) : Type 0 where
  pub entries : List Entry
  pub count_is : count ≡ length (history entries None)
  pub keeping : IsKeeping table (history entries None) seat
  pub stands : Stands o stream client (Some words) entries None

pub record IsCounted {W : Type 0} (table : TableId) (o : Opening) (stream : W → ℕ → ℕ) (client : Whole) (words : Option W) (count : ℕ) (lost : Option ℕ) (seat : Seat (Unit {0}) (View Item)) : Type 0 where
  pub entries : List Entry
  pub count_is : count ≡ length (history entries None)
  pub desk : IsDesk table o stream client words entries lost seat

-- A call that there is no number for in the history, which has all but two of those of 64 bits: the pass has seen all of it, and nothing else is changed.
pub record IsFull (old new : Passed) : Type 0 where
  pub number : new.number ≡ old.number
  pub begins : IsPrefix old.seen new.seen
  pub many : 2 ^ 64 ≤ length new.seen + 2
  pub calls_are : calls new ≡ calls old
  pub lost_is : is_lost new ≡ is_lost old
  pub none_between : own caller_of old.number new.seen ≡ own caller_of old.number old.seen
