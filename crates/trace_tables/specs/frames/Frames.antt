-- What a forward pass keeps of frames.
use Rattle.std.specs.Prelude.{◌≡◌, ℕ, ◌==◌, ◌&&◌, Bool, true, false, if◌then◌else◌, List, [], ◌∷◌, Option, Some, None}
use Rattle.number_table.specs.Entries.{puts, frees, entry_at}
use Rattle.client_request.specs.declared.event.{What.What, Via.Via, Event.Event, Out.Out}
use Rattle.client_request.specs.declared.event.What.TheVariants.{Datagram, Bytes}
use Rattle.client_request.specs.declared.event.Via.TheVariants.{Dgram, Stream}
use Rattle.right_trace.specs.Trace.{History, Came, Put}
use Rattle.right_trace.specs.{Messages.Octets, Requests.same_via, Places.is_alive}
use Rattle.right_trace.specs.Frames.{Reading, Length, Fed, fed, reading, came_here}
use Rattle.trace_tables.specs.declared.places.Place.{Place}
use Rattle.trace_tables.specs.Known.{Known as PlacesKnown, stand_of}
use Rattle.trace_tables.specs.declared.frames.frames.{Frames.Frames, Brought.Brought}

abbrev pub nothing : Frames
nothing = record { readings = []; brought = None }

-- a place is alive, and of this kind
abbrev pub is_open : Via → Option Place → Bool
is_open v None = false
is_open v (Some x) = is_alive (stand_of x.stand) && same_via x.via v

abbrev pub reading_or_none : Option Reading → Reading
reading_or_none None = Length
reading_or_none (Some x) = x

abbrev pub brings : (p : ℕ) → List Octets → Option Brought
brings p ms = Some (record { place = p; frames = ms })

-- a datagram came
abbrev pub datagram_at : (p : ℕ) → Octets → Bool → Frames → Frames
datagram_at p o here t = record t { brought = if here then brings p (o ∷ []) else None }

abbrev pub fed_at : (p : ℕ) → Fed → Frames → Frames
fed_at p d t = record { readings = puts p d.left (frees p t.readings); brought = brings p d.frames }

-- octets came at a stream
abbrev pub bytes_at : (p : ℕ) → Octets → Bool → Frames → Frames
bytes_at p o true t = fed_at p (fed (reading_or_none (entry_at p t.readings)) o) t
bytes_at p o false t = record t { brought = None }

-- what an event makes of it, over the places as they were
abbrev pub met : What → List (ℕ × Place) → Frames → Frames
met (Datagram p o) places t = datagram_at p o (is_open Dgram (entry_at p places)) t
met (Bytes p o) places t = bytes_at p o (is_open Stream (entry_at p places)) t
met _ places t = record t { brought = None }

abbrev pub frames_of : (p : ℕ) → Option Brought → List Octets
frames_of p None = []
frames_of p (Some b) = if b.place == p then b.frames else []

-- what is kept is what the definitions say
pub record Known (h : History) (t : Frames) : Type 0 where
  pub readings : (p : ℕ) → reading_or_none (entry_at p t.readings) ≡ reading p h
  pub here : (p : ℕ) → frames_of p t.brought ≡ came_here p h

-- it is known before the first row, and goes on over events and outs
pub record GoesOn : Type 0 where
  pub begins : Known [] nothing
  pub event : (h : History) (places : List (ℕ × Place)) (t : Frames) → PlacesKnown h places → Known h t → (e : Event) → Known (Came e ∷ h) (met e.what places t)
  pub out : (h : History) (t : Frames) (o : Out) → Known h t → Known (Put o ∷ h) t
