-- What a forward pass keeps of ids that are held at stream places, the frames of the newest row not counted.
use Rattle.std.specs.Prelude.{◌≡◌, ℕ, ◌==◌, ◌&&◌, not, nat_le, nat_lt, Bool, true, false, is_some, if◌then◌else◌, length, List, [], ◌∷◌, Option, Some, None}
use Rattle.number_table.specs.Entries.{puts, frees, entry_at}
use Rattle.client_request.specs.declared.event.{Event.Event, Out.Out, Out.TheVariants.Write}
use Rattle.right_trace.specs.Trace.{History, Came, Put}
use Rattle.right_trace.specs.Time.{all_ids, id_count}
use Rattle.right_trace.specs.Messages.{Octets}
use Rattle.right_trace.specs.Writes.{is_any, waiting_with, held_with}
use Rattle.trace_tables.specs.declared.frames.frames.{Brought.Brought, Frames.Frames}
use Rattle.trace_tables.specs.frames.{Frames.Known as FramesKnown, Waiting.id_read}
use Rattle.trace_tables.specs.sets.Sets.{Members, Sets, has, size, joins, leaves, Rise, AreSets}
use Rattle.trace_outs.specs.declared.loads.held.Held.{Held}

abbrev pub nothing : Held
nothing = record { ids = []; full = [] }

-- a place at which all ids are held is noted
abbrev pub noted : (p : ℕ) → Bool → Members → Members
noted p true es = puts p tt es
noted p false es = frees p es

abbrev pub checks : (p : ℕ) → Held → Held
checks p t = record t { full = noted p (nat_le 32768 (size p t.ids)) t.full }

abbrev pub frees_id : (p : ℕ) → Option ℕ → Sets → Sets
frees_id p None t = t
frees_id p (Some id) t = leaves p id t

-- frames with their ids free them
abbrev pub frees_all : (p : ℕ) → List Octets → Sets → Sets
frees_all p [] t = t
frees_all p (m ∷ ms) t = frees_all p ms (frees_id p (id_read m) t)

-- the frames of a row that is over are taken
abbrev pub met : Option Brought → Held → Held
met None t = t
met (Some b) t = checks b.place (record t { ids = frees_all b.place b.frames t.ids })

-- what is written holds its id, which is one of 65536
abbrev pub holds : (p id : ℕ) → Held → Held
holds p id t = if nat_lt id 65536 then checks p (record t { ids = joins p id t.ids }) else t

abbrev pub has_put : Out → Held → Held
has_put (Write p k i o) t = holds p i t
has_put _ t = t

abbrev pub full_seen : (p : ℕ) → Held → Bool
full_seen p t = is_some (entry_at p t.full)

-- what is kept is what the definitions say
pub record Known (h : History) (t : Held) : Type 0 where
  pub ids : (p id : ℕ) → has p id t.ids ≡ (nat_lt id all_ids && is_any (waiting_with [] p id h))
  pub sets : AreSets t.ids
  pub full : (p : ℕ) → full_seen p t ≡ nat_le id_count (held_with [] p h)
  pub rise : Rise 0 t.full

-- it is known before the first row, and goes on over events and outs; what the row before brought is taken with an event
pub record GoesOn : Type 0 where
  pub begins : Known [] nothing
  pub event : (h : History) (f : Frames) (t : Held) (e : Event) → FramesKnown h f → Known h t → Known (Came e ∷ h) (met f.brought t)
  pub out : (h : History) (t : Held) (o : Out) → Known h t → Known (Put o ∷ h) (has_put o t)
