-- What comes at a place: datagrams, and frames, of which two octets give the length of what follows (RFC 7766 8).
use Rattle.std.specs.Prelude.{ℕ, zero, suc, pred, ◌+◌, ◌*◌, Bool, true, false, not, ◌&&◌, ◌||◌, ◌==◌, nat_lt, nat_le, if◌then◌else◌, Option, Some, None, List, [], ◌∷◌, ◌++◌, length, take, reverse}
use Rattle.client_request.specs.declared.event.What.{What}
use Rattle.client_request.specs.declared.event.What.TheVariants.{Datagram, Bytes}
use Rattle.client_request.specs.declared.event.Via.TheVariants.{Dgram, Stream}
use Rattle.right_trace.specs.Trace.{History, Came, Put}
use Rattle.right_trace.specs.Messages.{Octets, id_in}
use Rattle.right_trace.specs.Places.{site, is_of_kind, stand, is_alive}

-- what is read of the next frame; what came of its body stands newest first
pub data Reading : Type 0 where
  Length : Reading
  LengthAfter : (high : ℕ) → Reading
  Body : (missing : ℕ) → Octets → Reading

-- what octets leave to be read, and the frames that they complete
pub record Fed : Type 0 where
  pub left : Reading
  pub frames : List Octets

-- a frame is complete when nothing is missing
abbrev pub settled : (missing : ℕ) → Octets → Fed
settled zero got = record { left = Length; frames = reverse got ∷ [] }
settled (suc n) got = record { left = Body (suc n) got; frames = [] }

-- what one octet does
abbrev pub fed_one : Reading → ℕ → Fed
fed_one Length b = record { left = LengthAfter b; frames = [] }
fed_one (LengthAfter high) b = settled (256 * high + b) []
fed_one (Body n got) b = settled (pred n) (b ∷ got)

-- what octets complete behind others
abbrev pub fed_on : (before after : Fed) → Fed
fed_on d e = record { left = e.left; frames = d.frames ++ e.frames }

-- the frames that these octets complete, and what is left
abbrev pub fed : Reading → Octets → Fed
fed x [] = record { left = x; frames = [] }
fed x (b ∷ bs) = fed_on (fed_one x b) (fed (fed_one x b).left bs)

-- p is an alive stream place
abbrev pub is_alive_stream : (p : ℕ) → History → Bool
is_alive_stream p h = is_alive (stand p h) && is_of_kind Stream (site p h)

-- what the octets that came at p since it opened leave of a frame
abbrev pub read_on : (p : ℕ) → What → Bool → Reading → Reading
read_on p (Bytes q o) alive x = if (q == p) && alive then (fed x o).left else x
read_on p _ alive x = x

-- what is read of the next frame at p
abbrev pub reading : (p : ℕ) → History → Reading
reading p [] = Length
reading p (Came e ∷ h) = read_on p e.what (is_alive_stream p h) (reading p h)
reading p (Put o ∷ h) = reading p h

-- what an event brings to place p: a datagram, or the frames that it completes
abbrev pub came : (p : ℕ) → What → (past : History) → List Octets
came p (Datagram q o) past = if (q == p) && (is_alive (stand p past) && is_of_kind Dgram (site p past)) then o ∷ [] else []
came p (Bytes q o) past = if (q == p) && is_alive_stream p past then (fed (reading p past) o).frames else []
came p _ past = []

-- what is read of datagrams: each cut at so many octets, where 12 remain
abbrev pub received : (most : ℕ) → List Octets → List Octets
received n [] = []
received n (o ∷ os) = if nat_le 12 (length (take n o)) then take n o ∷ received n os else received n os

-- what the newest row's event brought to place p
abbrev pub came_here : (p : ℕ) → History → List Octets
came_here p [] = []
came_here p (Came e ∷ h) = came p e.what h
came_here p (Put o ∷ h) = came_here p h

-- a frame is bad where it has no whole header
unfoldable pub is_bad : Octets → Bool
is_bad m = nat_lt (length m) 12

-- a bad frame is among these
abbrev pub has_bad : List Octets → Bool
has_bad [] = false
has_bad (m ∷ ms) = is_bad m || has_bad ms

-- it is no bad frame and has that id
abbrev pub has_id : (id : ℕ) → Octets → Bool
has_id id m = not (is_bad m) && (id_in m == id)

-- a frame with that id is among these
abbrev pub brings : (id : ℕ) → List Octets → Bool
brings id [] = false
brings id (m ∷ ms) = has_id id m || brings id ms

-- the first frame with that id, where no bad frame stands before it
abbrev pub first_with : (id : ℕ) → List Octets → Option Octets
first_with id [] = None
first_with id (m ∷ ms) = if is_bad m then None else (if id_in m == id then Some m else first_with id ms)

-- some frame is among these
abbrev pub has_frame : List Octets → Bool
has_frame [] = false
has_frame (m ∷ ms) = true

-- the last of these frames, and those before it
abbrev pub last_of : Octets → List Octets → Octets
last_of m [] = m
last_of m (n ∷ ms) = last_of n ms

abbrev pub but_last : Octets → List Octets → List Octets
but_last m [] = []
but_last m (n ∷ ms) = m ∷ but_last n ms
