-- What is kept goes on over events, outs and rows.
use Rattle.std.proofs.Common.{◌≡◌, List, [], ◌∷◌, refl, subst}
use Rattle.client_request.specs.declared.event.{Event.Event, Out.Out, Row.Row, What.What}
use Rattle.right_trace.specs.Trace.{History, Came, Put, put_all, after}
use Rattle.right_trace.specs.Time.{newest}
use Rattle.trace_tables.specs.declared.books.Books.{Books}
use Rattle.trace_tables.specs.Books.{Known, GoesOn, nothing, met, has_put, have_put, after_row}
use Rattle.trace_tables.proofs.Knowing as places
use Rattle.trace_tables.proofs.Asking as requests
use Rattle.trace_tables.proofs.Sending as sends

event : (h : History) (b : Books) (e : Event) → Known h b → Known (Came e ∷ h) (met e b)
event h b e is = record { places = places.event_known h b.places e is.places; requests = requests.known_met h b.requests e is.requests; sends = sends.known_met h b.sends e is.sends }

out : (h : History) (b : Books) (o : Out) → Known h b → Known (Put o ∷ h) (has_put (newest h) o b)
out h b o is = record {
  places = places.out_known h b.places o is.places;
  requests = requests.known_put h b.requests o is.requests;
  sends = sends.known_put h b.places b.requests.clock b.sends o is.places is.requests.time is.sends;
}

pub outs : (w : What) (h : History) (b : Books) (os : List Out) → newest h ≡ w → Known h b → Known (put_all os h) (have_put w os b)
outs w h b [] e is = is
outs w h b (o ∷ os) e is = outs w (Put o ∷ h) (has_put w o b) os e (subst (λ w. Known (Put o ∷ h) (has_put w o b)) e (out h b o is))

pub goes_on : GoesOn
goes_on = record {
  begins = record { places = record { sites = λ p. refl; stands = λ p. refl }; requests = requests.known_nothing; sends = sends.known_nothing };
  event = event;
  out = out;
  row = λ h b row is. outs row.event.what (Came row.event ∷ h) (met row.event b) row.outs refl (event h b row.event is);
}
