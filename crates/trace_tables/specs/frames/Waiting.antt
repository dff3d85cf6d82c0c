-- What a forward pass keeps of writes that wait for a frame with their id, the frames of the newest row not counted.
use Rattle.std.specs.Prelude.{◌≡◌, ℕ, ◌==◌, Bool, true, false, if◌then◌else◌, nat_lt, length, List, [], ◌∷◌, Option, Some, None}
use Rattle.number_table.specs.Entries.{puts, frees, entry_at}
use Rattle.client_request.specs.declared.event.{Event.Event, Out.Out, Out.TheVariants.Write}
use Rattle.right_trace.specs.Trace.{History, Came, Put}
use Rattle.right_trace.specs.{Time.now, Messages.Octets}
use Rattle.dns_base.specs.Header.{id_of}
use Rattle.right_trace.specs.Writes.{Written, waiting_with}
use Rattle.trace_tables.specs.Lists.{list_or_none, listed, adds}
use Rattle.trace_tables.specs.declared.frames.frames.{Brought.Brought, Frames.Frames}
use Rattle.trace_tables.specs.frames.Frames.{Known as FramesKnown}

-- by id, at one place
abbrev pub AtPlace : Type 0
AtPlace = List (ℕ × List Written)

abbrev pub Waiting : Type 0
Waiting = List (ℕ × AtPlace)

-- the id of a frame that has a whole header
abbrev pub id_read : Octets → Option ℕ
id_read m = if nat_lt (length m) 12 then None else Some (id_of m)

abbrev pub frees_id : Option ℕ → AtPlace → AtPlace
frees_id None t = t
frees_id (Some id) t = puts id [] t

-- a frame with its id frees it
abbrev pub freed_by : List Octets → AtPlace → AtPlace
freed_by [] t = t
freed_by (m ∷ ms) t = freed_by ms (frees_id (id_read m) t)

-- the frames of a row that is over are taken
abbrev pub met : Option Brought → Waiting → Waiting
met None t = t
met (Some b) t = puts b.place (freed_by b.frames (listed b.place t)) (frees b.place t)

-- something is written at a place under an id
abbrev pub writes : (p id : ℕ) → Written → Waiting → Waiting
writes p id x t = puts p (adds id x (listed p t)) (frees p t)

-- what an out makes of it, at a moment
abbrev pub has_put : Out → (moment : ℕ) → Waiting → Waiting
has_put (Write p k i o) n t = writes p i (record { request = k; octets = o; moment = n }) t
has_put _ n t = t

-- what waits at a place under an id
abbrev pub waiting_seen : (p id : ℕ) → Waiting → List Written
waiting_seen p id t = listed id (listed p t)

abbrev pub is_empty : List Written → Bool
is_empty ws = length ws == 0

abbrev pub free_seen : (p id : ℕ) → Waiting → Bool
free_seen p id t = is_empty (waiting_seen p id t)

-- what is kept is what the definitions say
pub record Known (h : History) (t : Waiting) : Type 0 where
  pub waits : (p id : ℕ) → waiting_seen p id t ≡ waiting_with [] p id h

-- it is known before the first row, and goes on over events and outs; what the row before brought is taken with an event
pub record GoesOn : Type 0 where
  pub begins : Known [] []
  pub event : (h : History) (f : Frames) (t : Waiting) → FramesKnown h f → Known h t → (e : Event) → Known (Came e ∷ h) (met f.brought t)
  pub out : (h : History) (n : ℕ) (t : Waiting) → n ≡ now h → Known h t → (o : Out) → Known (Put o ∷ h) (has_put o n t)
