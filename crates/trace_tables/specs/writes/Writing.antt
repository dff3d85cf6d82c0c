-- What a forward pass keeps of the last write at each place: how many of its octets were not taken.
use Rattle.std.specs.Prelude.{◌≡◌, ℕ, ◌+◌, ◌-◌, ◌<◌, ◌≤◌, ◌==◌, ◌&&◌, Bool, true, false, not, if◌then◌else◌, length, List, [], ◌∷◌, Option, Some, None}
use Rattle.number_table.specs.Entries.{puts, entry_at}
use Rattle.client_request.specs.declared.event.{Event.Event, What.What, What.TheVariants.Wrote, Out.Out, Out.TheVariants.Write}
use Rattle.right_trace.specs.Trace.{History, Came, Put}
use Rattle.right_trace.specs.Writes as writes
use Rattle.right_trace.specs.Writes.{writing, is_unwritten}
use Rattle.trace_tables.specs.declared.writes.writing.{Left.Left, Entry.Entry, Writing.Writing}

abbrev pub nothing : Writing
nothing = record { places = []; row = 0 }

-- nothing was written
abbrev pub unused : Left
unused = record { missing = 0; was_free = true; takes = 0; again = false }

-- a row begins, and its event takes n octets
abbrev pub waits : (n : ℕ) → Left → Left
waits n l = record { missing = l.missing - n; was_free = l.missing == 0; takes = n; again = false }

-- what of a new write of so many octets is left
abbrev pub writes_more : (count : ℕ) → Left → Left
writes_more count l = record { missing = count - (if l.was_free && not l.again then l.takes else 0); was_free = l.was_free; takes = l.takes; again = true }

-- what is left in a row, of a place that was last changed in one
abbrev pub left_in : (row : ℕ) → Option Entry → Left
left_in row None = unused
left_in row (Some e) = if e.row == row then e.left else waits 0 e.left

abbrev pub left_seen : (p : ℕ) → Writing → Left
left_seen p t = left_in t.row (entry_at p t.places)

abbrev pub changes : (p : ℕ) → Left → Writing → Writing
changes p l t = record t { places = puts p (record { row = t.row; left = l }) t.places }

-- what an event makes of it, and what an out makes of it
abbrev pub takes_in : What → Writing → Writing
takes_in (Wrote p n) t = record { places = puts p (record { row = t.row + 1; left = waits n (left_seen p t) }) t.places; row = t.row + 1 }
takes_in _ t = record t { row = t.row + 1 }

abbrev pub has_put : Out → Writing → Writing
has_put (Write p k i o) t = changes p (writes_more (length o) (left_seen p t)) t
has_put _ t = t

-- what the definitions say of the last write
abbrev pub left_of : writes.Writing → Left
left_of x = record { missing = x.wanted - x.taken; was_free = x.was_free; takes = x.takes; again = x.again }

-- an entry is of no later row
abbrev pub IsBy : (row : ℕ) → Option Entry → Type 0
IsBy row None = Unit {0}
IsBy row (Some e) = e.row ≤ row

-- what is kept is what the definitions say
pub record Known (h : History) (t : Writing) : Type 0 where
  pub lefts : (p : ℕ) → left_seen p t ≡ left_of (writing p h)
  pub rows : (p : ℕ) → IsBy t.row (entry_at p t.places)

abbrev pub unwritten_seen : (p : ℕ) → Writing → Bool
unwritten_seen p t = not ((left_seen p t).missing == 0)

-- it is known before the first row, goes on over events and outs, and says whether something is unwritten
pub record GoesOn : Type 0 where
  pub begins : Known [] nothing
  pub event : (h : History) (t : Writing) (e : Event) → Known h t → Known (Came e ∷ h) (takes_in e.what t)
  pub out : (h : History) (t : Writing) (o : Out) → Known h t → Known (Put o ∷ h) (has_put o t)
  pub tells : (h : History) (t : Writing) (p : ℕ) → Known h t → unwritten_seen p t ≡ is_unwritten p h
