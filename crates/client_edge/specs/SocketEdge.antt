-- An edge over sockets.
use Rattle.std.specs.Prelude.{ℕ, Bool, true, false, ◌+◌, ◌/◌, min}
use Rattle.socket_places.specs.Books.{Books}

-- what contracts see of it: its books, how often it was polled, and how many faults it gave as events
pub record Kept : Type 0 where
  pub books : Books
  pub polls : ℕ
  pub faults : ℕ

-- so many microseconds in whole milliseconds, rounded up, and at most as many as the system counts
abbrev pub milliseconds : ℕ → ℕ
milliseconds micros = min ((micros + 999) / 1000) 2147483647

-- what the system is to look for, as it counts that: 1 for what came, 4 for what can be taken
abbrev pub events_of : (reads : Bool) → (writes : Bool) → ℕ
events_of true true = 5
events_of true false = 1
events_of false true = 4
events_of false false = 0
