-- What a forward pass knows at a point of a trace, but for what replies gave.
use Rattle.std.specs.Prelude.{ℕ, Bool, max, []}
use Rattle.client_request.specs.declared.event.{Event.Event, Out.Out, What.What}
use Rattle.right_trace.specs.Trace.{History, Conf}
use Rattle.trace_points.specs.pass.Pass as pass
use Rattle.trace_outs.specs.loads.Loads as loads
use Rattle.trace_outs.specs.loads.Held as held
use Rattle.trace_outs.specs.busy.Waits as waits
use Rattle.trace_outs.specs.busy.Backs as backs
use Rattle.trace_errors.specs.owed.Exchanged as exchanged
use Rattle.trace_judge.specs.declared.tables.Tables.{Tables}

abbrev pub nothing : (exact : Bool) → Tables
nothing exact = record { pass = pass.nothing; loads = loads.nothing exact; held = held.nothing; waits = waits.nothing; backs = []; exchanged = [] }

-- back-offs begin at streams that are used up at a moment
abbrev pub notes_used : (n : ℕ) → Tables → Tables
notes_used n t = record t { backs = backs.are_used n t.pass.ledger.books.places t.held.full t.backs }

-- what an event makes of it
abbrev pub met : (c : Conf) → Event → Tables → Tables
met c e t = notes_used (max e.moment.0 t.pass.ledger.books.requests.clock) (record {
  pass = pass.met c e t.pass;
  loads = loads.met c e.what t.pass.ledger.books.places t.loads;
  held = held.met t.pass.ledger.frames.brought t.held;
  waits = waits.met e.what t.pass.ledger.books.requests t.waits;
  backs = backs.met e.what (max e.moment.0 t.pass.ledger.books.requests.clock) t.pass.ledger.books.places t.backs;
  exchanged = t.exchanged;
})

-- what an out makes of it, in a row with this event, where it is said whether it closes a place that ends badly
abbrev pub has_put : (c : Conf) → What → Out → (bad : Bool) → Tables → Tables
has_put c w o bad t = notes_used t.pass.ledger.books.requests.clock (record {
  pass = pass.has_put w o t.pass;
  loads = loads.has_put c w o t.pass.ledger.books t.loads;
  held = held.has_put o t.held;
  waits = waits.has_put c o t.pass.ledger.books.requests t.waits;
  backs = backs.has_put w o bad t.pass.ledger.books.requests.clock t.pass.ledger.books.places t.backs;
  exchanged = exchanged.has_put o t.exchanged;
})

-- what is kept is what the definitions of a right trace say
pub record Known (c : Conf) (h : History) (t : Tables) : Type 0 where
  pub pass : pass.Known c h t.pass
  pub loads : loads.Known c h t.loads
  pub held : held.Known h t.held
  pub waits : waits.Known c h t.waits
  pub backs : backs.Known c h t.backs
  pub exchanged : exchanged.Known c h t.exchanged
