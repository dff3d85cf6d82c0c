-- All that a forward pass over a trace knows at a point of it that a row and the next one need.
use Rattle.std.specs.Prelude.{◌≡◌, List, [], ◌∷◌}
use Rattle.client_request.specs.declared.event.{Event.Event, Out.Out, Row.Row, What.What}
use Rattle.right_trace.specs.Trace.{History, Came, Put, after, Conf}
use Rattle.right_trace.specs.Time.{newest}
use Rattle.trace_tables.specs.frames.Ledger as ledger
use Rattle.trace_points.specs.exchanges.Asked.{AskedFirst}
use Rattle.trace_points.specs.exchanges.Open as open_sends
use Rattle.trace_points.specs.due.Timers as timers
use Rattle.trace_points.specs.declared.pass.pass.Pass.{Pass}

abbrev pub nothing : Pass
nothing = record { ledger = ledger.nothing; sends = []; timers = timers.nothing }

-- what an event makes of it
abbrev pub met : (c : Conf) → Event → Pass → Pass
met c e p = record {
  ledger = ledger.met e p.ledger;
  sends = open_sends.met c (ledger.met e p.ledger).frames.brought (ledger.met e p.ledger).books.requests.askings p.sends;
  timers = timers.met c e p.ledger p.timers;
}

-- what an out makes of it, in a row with this event
abbrev pub has_put : What → Out → Pass → Pass
has_put w o p = record {
  ledger = ledger.has_put w o p.ledger;
  sends = open_sends.has_put o p.ledger.books.requests.clock p.sends;
  timers = timers.has_put w o p.ledger p.timers;
}

abbrev pub have_put : What → List Out → Pass → Pass
have_put w [] p = p
have_put w (o ∷ os) p = have_put w os (has_put w o p)

abbrev pub after_row : (c : Conf) → Row → Pass → Pass
after_row c row p = have_put row.event.what row.outs (met c row.event p)

-- what is kept is what the definitions of a right trace say
pub record Known (c : Conf) (h : History) (p : Pass) : Type 0 where
  pub ledger : ledger.Known h p.ledger
  pub sends : open_sends.Known c h p.sends
  pub timers : timers.Known c h p.timers

-- it is known before the first row, and goes on over events and outs, and over rows
pub record GoesOn (c : Conf) : Type 0 where
  pub begins : Known c [] nothing
  pub event : (h : History) (e : Event) (p : Pass) → AskedFirst h → Known c h p → Known c (Came e ∷ h) (met c e p)
  pub out : (h : History) (o : Out) (p : Pass) → Known c h p → Known c (Put o ∷ h) (has_put (newest h) o p)
  pub row : (past : History) (row : Row) (p : Pass) → AskedFirst past → Known c past p → Known c (after row past) (after_row c row p)
