-- The books, the frames and what waits, together.
use Rattle.std.specs.Prelude.{List, [], ◌∷◌}
use Rattle.client_request.specs.declared.event.{Event.Event, Out.Out, Row.Row, What.What}
use Rattle.right_trace.specs.Trace.{History, Came, Put, after}
use Rattle.right_trace.specs.Time.{newest}
use Rattle.trace_tables.specs.Books as books
use Rattle.trace_tables.specs.frames.Frames as frames
use Rattle.trace_tables.specs.frames.Waiting as waiting
use Rattle.trace_tables.specs.declared.frames.ledger.Ledger.{Ledger}

abbrev pub nothing : Ledger
nothing = record { books = books.nothing; frames = frames.nothing; waiting = [] }

-- the frames of the row before free ids, and those of this one come over the places as they were
abbrev pub met : Event → Ledger → Ledger
met e l = record { books = books.met e l.books; frames = frames.met e.what l.books.places l.frames; waiting = waiting.met l.frames.brought l.waiting }

abbrev pub has_put : What → Out → Ledger → Ledger
has_put w o l = record { books = books.has_put w o l.books; frames = l.frames; waiting = waiting.has_put o l.books.requests.clock l.waiting }

abbrev pub have_put : What → List Out → Ledger → Ledger
have_put w [] l = l
have_put w (o ∷ os) l = have_put w os (has_put w o l)

abbrev pub after_row : Row → Ledger → Ledger
after_row row l = have_put row.event.what row.outs (met row.event l)

-- what is kept is what the definitions say
pub record Known (h : History) (l : Ledger) : Type 0 where
  pub books : books.Known h l.books
  pub frames : frames.Known h l.frames
  pub waiting : waiting.Known h l.waiting

-- it is known before the first row, and goes on over events, outs and rows
pub record GoesOn : Type 0 where
  pub begins : Known [] nothing
  pub event : (h : History) (l : Ledger) (e : Event) → Known h l → Known (Came e ∷ h) (met e l)
  pub out : (h : History) (l : Ledger) (o : Out) → Known h l → Known (Put o ∷ h) (has_put (newest h) o l)
  pub row : (h : History) (l : Ledger) (row : Row) → Known h l → Known (after row h) (after_row row l)
