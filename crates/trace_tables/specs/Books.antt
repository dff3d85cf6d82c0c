-- All that a forward pass keeps, and that it is what the definitions of a right trace say.
use Rattle.std.specs.Prelude.{List, [], ◌∷◌}
use Rattle.client_request.specs.declared.event.{Event.Event, Out.Out, Row.Row, What.What}
use Rattle.right_trace.specs.Trace.{History, Came, Put, after}
use Rattle.right_trace.specs.Time.{newest}
use Rattle.trace_tables.specs.declared.books.Books.{Books}
use Rattle.trace_tables.specs.Known as places_seen
use Rattle.trace_tables.specs.Tables as places
use Rattle.trace_tables.specs.Requests as requests
use Rattle.trace_tables.specs.Sends as sends

abbrev pub nothing : Books
nothing = record { places = []; requests = requests.nothing; sends = sends.nothing }

abbrev pub met : Event → Books → Books
met e b = record { places = places.met e.what b.places; requests = requests.met e b.requests; sends = b.sends }

abbrev pub has_put : What → Out → Books → Books
has_put w o b = record { places = places.has_put w o b.places; requests = requests.has_put o b.requests; sends = sends.has_put o b.requests.clock b.places b.sends }

abbrev pub have_put : What → List Out → Books → Books
have_put w [] b = b
have_put w (o ∷ os) b = have_put w os (has_put w o b)

abbrev pub after_row : Row → Books → Books
after_row row b = have_put row.event.what row.outs (met row.event b)

pub record Known (h : History) (b : Books) : Type 0 where
  pub places : places_seen.Known h b.places
  pub requests : requests.Known h b.requests
  pub sends : sends.Known h b.sends

-- books are known before the first row, and go on over events, outs and rows
pub record GoesOn : Type 0 where
  pub begins : Known [] nothing
  pub event : (h : History) (b : Books) (e : Event) → Known h b → Known (Came e ∷ h) (met e b)
  pub out : (h : History) (b : Books) (o : Out) → Known h b → Known (Put o ∷ h) (has_put (newest h) o b)
  pub row : (h : History) (b : Books) (row : Row) → Known h b → Known (after row h) (after_row row b)
