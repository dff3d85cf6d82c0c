-- What was written at a stream place: which writes wait for a frame, and what of the last write is unwritten.
use Rattle.right_trace.specs.Frames.{brings, came_here}
use Rattle.std.specs.Prelude.{◌≡◌, ℕ, ◌+◌, ◌⊎◌, Bool, true, false, not, ◌&&◌, ◌==◌, nat_lt, if◌then◌else◌, List, [], ◌∷◌, length}
use Rattle.client_request.specs.declared.event.What.{What}
use Rattle.client_request.specs.declared.event.What.TheVariants.{Wrote}
use Rattle.client_request.specs.declared.event.Out.{Out}
use Rattle.client_request.specs.declared.event.Out.TheVariants.{Write}
use Rattle.right_trace.specs.Trace.{History, Came, Put}
use Rattle.right_trace.specs.Time.{now, all_ids, count_below}
use Rattle.right_trace.specs.Messages.{Octets}

-- In what follows `ms` are the frames of the newest row that count. Each fold has two names: one with `ms`, and one in which all count.

-- what was written: of which request, as what, and when
pub record Written : Type 0 where
  pub request : ℕ
  pub octets : Octets
  pub moment : ℕ

-- an out writes under this id at p
abbrev pub is_write : (p id : ℕ) → Out → Bool
is_write p id (Write q k i o) = (q == p) && (i == id)
is_write p id _ = false

-- what it writes, at moment n
abbrev pub written_by : Out → (n : ℕ) → List Written → List Written
written_by (Write q k i o) n ws = record { request = k; octets = o; moment = n } ∷ ws
written_by _ n ws = ws

-- All that was written at p under this id with no frame with it in the row of the write or later: these hold the id.
abbrev pub waiting_with : (ms : List Octets) → (p id : ℕ) → History → List Written
waiting_with ms p id [] = []
waiting_with ms p id (Came e ∷ h) = if brings id ms then [] else waiting_with (came_here p h) p id h
waiting_with ms p id (Put o ∷ h) = if is_write p id o && not (brings id ms) then written_by o (now h) (waiting_with ms p id h) else waiting_with ms p id h

abbrev pub waiting : (p id : ℕ) → History → List Written
waiting p id h = waiting_with (came_here p h) p id h

abbrev pub is_any : List Written → Bool
is_any [] = false
is_any (w ∷ ws) = true

-- how many ids are held at p
abbrev pub held_with : (ms : List Octets) → (p : ℕ) → History → ℕ
held_with ms p h = count_below (λ id. is_any (waiting_with ms p id h)) all_ids

abbrev pub held : (p : ℕ) → History → ℕ
held p h = held_with (came_here p h) p h

-- it is one of these
abbrev pub IsWritten : Written → List Written → Type 0
IsWritten x [] = ⊥
IsWritten x (w ∷ ws) = (w ≡ x) ⊎ IsWritten x ws

-- of the last write at a place: its length and how much of it was taken; whether all was taken when the newest row began, what that row's event took, and whether the row has a write there
pub record Writing : Type 0 where
  pub wanted : ℕ
  pub taken : ℕ
  pub was_free : Bool
  pub takes : ℕ
  pub again : Bool

-- how many octets an event says were taken at p
abbrev pub taken_by : (p : ℕ) → What → ℕ
taken_by p (Wrote q n) = if q == p then n else 0
taken_by p _ = 0

-- what of a new write counts as taken: what its row's event took, where nothing else was being written
abbrev pub taken_first : Writing → ℕ
taken_first x = if x.was_free && not x.again then x.takes else 0

-- what an out makes of the last write
abbrev pub on_write : (p : ℕ) → Out → Writing → Writing
on_write p (Write q k i o) x = if q == p then record { wanted = length o; taken = taken_first x; was_free = x.was_free; takes = x.takes; again = true } else x
on_write p _ x = x

-- a row begins, and its event takes n octets
abbrev pub on_wrote : (n : ℕ) → Writing → Writing
on_wrote n x = record { wanted = x.wanted; taken = x.taken + n; was_free = not (nat_lt x.taken x.wanted); takes = n; again = false }

-- the last write at p
abbrev pub writing : (p : ℕ) → History → Writing
writing p [] = record { wanted = 0; taken = 0; was_free = true; takes = 0; again = false }
writing p (Came e ∷ h) = on_wrote (taken_by p e.what) (writing p h)
writing p (Put o ∷ h) = on_write p o (writing p h)

-- less was taken than the length of the last write at p
abbrev pub is_unwritten : (p : ℕ) → History → Bool
is_unwritten p h = nat_lt (writing p h).taken (writing p h).wanted
