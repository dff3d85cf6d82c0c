-- What a forward pass keeps of servers that an invalid request was handed to.
use Rattle.std.specs.Prelude.{◌≡◌, ℕ, Bool, true, false, if◌then◌else◌, is_some, List, [], Option, Some, None}
use Rattle.number_table.specs.Entries.{puts, entry_at}
use Rattle.client_request.specs.declared.event.{Out.Out, Out.TheVariants.Start, Via.Via}
use Rattle.client_request.specs.declared.event.Via.TheVariants.{Dgram, Stream}
use Rattle.right_trace.specs.{Trace.History, Messages.is_valid}
use Rattle.right_trace.specs.Requests.{Asking, asking, started}
use Rattle.trace_points.specs.declared.due.invalid.Invalid.{Invalid}

abbrev pub nothing : Invalid
nothing = record { datagrams = []; streams = [] }

-- a server gets an invalid request so
abbrev pub notes : Via → (s : ℕ) → Invalid → Invalid
notes Dgram s t = record t { datagrams = puts s tt t.datagrams }
notes Stream s t = record t { streams = puts s tt t.streams }

abbrev pub starts : Via → (s : ℕ) → Option Asking → Invalid → Invalid
starts v s None t = t
starts v s (Some a) t = if is_valid a.request then t else notes v s t

-- what an out makes of it, over what was asked
abbrev pub has_put : Out → List (ℕ × Asking) → Invalid → Invalid
has_put (Start k s v) askings t = starts v s (entry_at k askings) t
has_put _ askings t = t

abbrev pub invalid_seen : Via → (s : ℕ) → Invalid → Bool
invalid_seen Dgram s t = is_some (entry_at s t.datagrams)
invalid_seen Stream s t = is_some (entry_at s t.streams)

-- an invalid request was handed to a server so
pub record SomeInvalid (v : Via) (s : ℕ) (h : History) : Type 0 where
  pub request : ℕ
  pub asking_of : Asking
  pub asked : asking request h ≡ Some asking_of
  pub invalid : is_valid asking_of.request ≡ false
  pub begun : started request s v h ≡ true

-- what is kept is what the definitions say
pub record Known (h : History) (t : Invalid) : Type 0 where
  pub so : (v : Via) (s : ℕ) → invalid_seen v s t ≡ true → SomeInvalid v s h
  pub back : (v : Via) (s : ℕ) → SomeInvalid v s h → invalid_seen v s t ≡ true
