-- All that a forward pass keeps for the timers of stream places, beside the ledger.
use Rattle.std.specs.Prelude.{[], ◌∷◌}
use Rattle.client_request.specs.declared.event.{Event.Event, Out.Out, What.What}
use Rattle.right_trace.specs.Trace.{History, Came, Put, Conf}
use Rattle.right_trace.specs.Time.{newest, idle_timeout}
use Rattle.trace_tables.specs.declared.frames.ledger.Ledger.{Ledger}
use Rattle.trace_tables.specs.frames.Ledger as ledger
use Rattle.trace_tables.specs.writes.Writing as writing
use Rattle.trace_tables.specs.timers.Quiet as quiet
use Rattle.trace_tables.specs.idle.Idle as idle
use Rattle.trace_points.specs.exchanges.Asked.{AskedFirst}
use Rattle.trace_points.specs.declared.due.timers.Timers.{Timers}
use Rattle.trace_points.specs.due.Loose as loose
use Rattle.trace_points.specs.due.Invalid as invalid

abbrev pub nothing : Timers
nothing = record { writing = writing.nothing; quiet = []; idle = []; loose = []; invalid = invalid.nothing }

-- what an event makes of it, over the ledger as it was
abbrev pub met : (c : Conf) → Event → Ledger → Timers → Timers
met c e l t = record {
  writing = writing.takes_in e.what t.writing;
  quiet = quiet.met e l.books.places l.frames.brought l.books.requests.clock t.quiet;
  idle = idle.met (idle_timeout c) l.frames.brought t.idle;
  loose = loose.met l.frames.brought l.waiting t.writing t.loose;
  invalid = t.invalid;
}

-- what an out makes of it, over the ledger as it was, in a row with this event
abbrev pub has_put : What → Out → Ledger → Timers → Timers
has_put w o l t = record {
  writing = writing.has_put o t.writing;
  quiet = quiet.has_put w o l.books.places l.books.requests.clock t.quiet;
  idle = t.idle;
  loose = t.loose;
  invalid = invalid.has_put o l.books.requests.askings t.invalid;
}

-- what is kept is what the definitions say
pub record Known (c : Conf) (h : History) (t : Timers) : Type 0 where
  pub writes : writing.Known h t.writing
  pub quiets : quiet.Known h t.quiet
  pub idles : idle.Known c h t.idle
  pub looses : loose.Known h t.loose
  pub invalids : invalid.Known h t.invalid

-- it is known before the first row, and goes on over events and outs
pub record GoesOn (c : Conf) : Type 0 where
  pub begins : Known c [] nothing
  pub event : (h : History) (l : Ledger) (t : Timers) (e : Event) → AskedFirst h → ledger.Known h l → Known c h t → Known c (Came e ∷ h) (met c e l t)
  pub out : (h : History) (l : Ledger) (t : Timers) (o : Out) → ledger.Known h l → Known c h t → Known c (Put o ∷ h) (has_put (newest h) o l t)
