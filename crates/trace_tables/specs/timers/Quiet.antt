-- What a forward pass keeps of since when stream places are quiet, the frames of the newest row not counted.
use Rattle.std.specs.Prelude.{◌≡◌, ℕ, ◌==◌, max, Bool, true, false, if◌then◌else◌, List, [], ◌∷◌, Option, Some, None}
use Rattle.number_table.specs.Entries.{puts, entry_at}
use Rattle.client_request.specs.declared.event.{Event.Event, What.What, What.TheVariants.Opened, Out.Out, Out.TheVariants.OpenStream}
use Rattle.right_trace.specs.Trace.{History, Came, Put}
use Rattle.right_trace.specs.Time.{now, newest}
use Rattle.right_trace.specs.{Places.is_opening, Messages.Octets, Frames.has_frame, Timers.quiet_with}
use Rattle.trace_tables.specs.declared.places.Place.{Place}
use Rattle.trace_tables.specs.Known.{Known as PlacesKnown, stand_of}
use Rattle.trace_tables.specs.declared.frames.frames.{Brought.Brought, Frames.Frames}
use Rattle.trace_tables.specs.frames.Frames.{Known as FramesKnown}

-- moments by place
abbrev pub Quiet : Type 0
Quiet = List (ℕ × ℕ)

abbrev pub Places : Type 0
Places = List (ℕ × Place)

abbrev pub moment_or : Option ℕ → ℕ
moment_or None = 0
moment_or (Some n) = n

abbrev pub quiet_seen : (p : ℕ) → Quiet → ℕ
quiet_seen p t = moment_or (entry_at p t)

-- the same with frames of the newest row, at a moment
abbrev pub quiet_counted : (p : ℕ) → List Octets → (moment : ℕ) → Quiet → ℕ
quiet_counted p ms n t = if has_frame ms then n else quiet_seen p t

-- what came in a row that is over, at its moment
abbrev pub taken : Option Brought → (moment : ℕ) → Quiet → Quiet
taken None n t = t
taken (Some b) n t = if has_frame b.frames then puts b.place n t else t

-- a place that was opening has opened
abbrev pub opened_at : (p moment : ℕ) → Option Place → Quiet → Quiet
opened_at p n None t = t
opened_at p n (Some x) t = if is_opening (stand_of x.stand) then puts p n t else t

abbrev pub told : What → Places → (moment : ℕ) → Quiet → Quiet
told (Opened p) places n t = opened_at p n (entry_at p places) t
told _ places n t = t

-- what an event makes of it, over the places as they were, what the row before brought and its moment
abbrev pub met : Event → Places → Option Brought → (moment : ℕ) → Quiet → Quiet
met e places b n t = told e.what places (max e.moment.0 n) (taken b n t)

-- a place is opened in a row whose event tells that it has
abbrev pub opens : What → (p moment : ℕ) → Option Place → Quiet → Quiet
opens w p n (Some x) t = t
opens (Opened q) p n None t = if q == p then puts p n t else t
opens _ p n None t = t

abbrev pub has_put : What → Out → Places → (moment : ℕ) → Quiet → Quiet
has_put w (OpenStream p s) places n t = opens w p n (entry_at p places) t
has_put w _ places n t = t

-- what is kept is what the definitions say
pub record Known (h : History) (t : Quiet) : Type 0 where
  pub since : (p : ℕ) → quiet_seen p t ≡ quiet_with [] p h

pub record GoesOn : Type 0 where
  pub begins : Known [] []
  pub event : (h : History) (places : Places) (f : Frames) (n : ℕ) (t : Quiet) (e : Event) → PlacesKnown h places → FramesKnown h f → n ≡ now h → Known h t → Known (Came e ∷ h) (met e places f.brought n t)
  pub out : (h : History) (places : Places) (n : ℕ) (t : Quiet) (o : Out) → PlacesKnown h places → n ≡ now h → Known h t → Known (Put o ∷ h) (has_put (newest h) o places n t)
  pub counts : (h : History) (n : ℕ) (t : Quiet) (ms : List Octets) (p : ℕ) → n ≡ now h → Known h t → quiet_counted p ms n t ≡ quiet_with ms p h
