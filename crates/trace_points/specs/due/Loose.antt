-- What a forward pass keeps of places whose last frame left something unwritten, or had an id that nothing held.
use Rattle.std.specs.Prelude.{◌≡◌, ℕ, ◌&&◌, ◌||◌, not, nat_lt, ◌==◌, Bool, false, if◌then◌else◌, length, List, [], ◌∷◌, Option, Some, None}
use Rattle.number_table.specs.Entries.{puts, entry_at}
use Rattle.dns_base.specs.Header.{id_of}
use Rattle.right_trace.specs.{Trace.History, Messages.Octets, Timers.ended_loose}
use Rattle.right_trace.specs.Frames.{has_frame, last_of, but_last}
use Rattle.trace_tables.specs.declared.frames.frames.Brought.{Brought}
use Rattle.trace_tables.specs.declared.frames.ledger.Ledger.{Ledger}
use Rattle.trace_tables.specs.frames.Frames.{frames_of}
use Rattle.trace_tables.specs.frames.Waiting.{Waiting, free_seen}
use Rattle.trace_tables.specs.declared.writes.writing.Writing.{Writing}
use Rattle.trace_tables.specs.writes.Writing.{unwritten_seen}

-- whether it was so at a place, in the row of the last frame there before the newest row
abbrev pub Loose : Type 0
Loose = List (ℕ × Bool)

abbrev pub or_false : Option Bool → Bool
or_false None = false
or_false (Some b) = b

abbrev pub loose_seen : (p : ℕ) → Loose → Bool
loose_seen p t = or_false (entry_at p t)

-- a frame has a whole header, and that id
abbrev pub has_id_seen : (id : ℕ) → Octets → Bool
has_id_seen id m = not (nat_lt (length m) 12) && (id_of m == id)

abbrev pub brings_seen : (id : ℕ) → List Octets → Bool
brings_seen id [] = false
brings_seen id (m ∷ ms) = has_id_seen id m || brings_seen id ms

-- nothing holds an id at a place once frames are counted
abbrev pub is_unheld : List Octets → (p id : ℕ) → Waiting → Bool
is_unheld ms p id t = brings_seen id ms || free_seen p id t

-- something is unwritten, or the last frame has an id that nothing holds behind others
abbrev pub loose_behind : (before : List Octets) → (last : Octets) → (p : ℕ) → Waiting → Writing → Bool
loose_behind before m p t w = unwritten_seen p w || is_unheld before p (id_of m) t

-- in the row of these frames
abbrev pub loose_end : List Octets → (p : ℕ) → Waiting → Writing → Bool
loose_end [] p t w = false
loose_end (m ∷ ms) p t w = loose_behind (but_last m ms) (last_of m ms) p t w

-- what came in a row that is over
abbrev pub met : Option Brought → Waiting → Writing → Loose → Loose
met None t w l = l
met (Some b) t w l = if has_frame b.frames then puts b.place (loose_end b.frames b.place t w) l else l

-- in the row of the last frame at a place
abbrev pub ends_loose_seen : (p : ℕ) → Ledger → Writing → Loose → Bool
ends_loose_seen p l w t = if has_frame (frames_of p l.frames.brought) then loose_end (frames_of p l.frames.brought) p l.waiting w else loose_seen p t

-- what is kept is what the definitions say
pub record Known (h : History) (t : Loose) : Type 0 where
  pub ended : (p : ℕ) → loose_seen p t ≡ ended_loose p h
