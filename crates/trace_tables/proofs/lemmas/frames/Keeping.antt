-- What is kept goes on over events, outs and rows.
use Rattle.std.proofs.Common.{◌≡◌, List, [], ◌∷◌, refl, subst}
use Rattle.client_request.specs.declared.event.{Event.Event, Out.Out, Row.Row, What.What}
use Rattle.right_trace.specs.Trace.{History, Came, Put, put_all, after}
use Rattle.right_trace.specs.Time.{newest}
use Rattle.trace_tables.proofs.Keeping as books
use Rattle.trace_tables.specs.declared.frames.ledger.Ledger.{Ledger}
use Rattle.trace_tables.specs.frames.Ledger.{Known, GoesOn, nothing, met, has_put, have_put, after_row}
use Rattle.trace_tables.proofs.lemmas.frames.Knowing as frames
use Rattle.trace_tables.proofs.lemmas.frames.Writing as waiting

event : (h : History) (l : Ledger) (e : Event) → Known h l → Known (Came e ∷ h) (met e l)
event h l e is = record {
  books = books.goes_on.event h l.books e is.books;
  frames = frames.known_met h l.books.places l.frames is.books.places is.frames e;
  waiting = waiting.goes_on.event h l.frames l.waiting is.frames is.waiting e;
}

out : (h : History) (l : Ledger) (o : Out) → Known h l → Known (Put o ∷ h) (has_put (newest h) o l)
out h l o is = record {
  books = books.goes_on.out h l.books o is.books;
  frames = frames.known_put h l.frames o is.frames;
  waiting = waiting.goes_on.out h l.books.requests.clock l.waiting is.books.requests.time is.waiting o;
}

outs : (w : What) (h : History) (l : Ledger) (os : List Out) → newest h ≡ w → Known h l → Known (put_all os h) (have_put w os l)
outs w h l [] e is = is
outs w h l (o ∷ os) e is = outs w (Put o ∷ h) (has_put w o l) os e (subst (λ w. Known (Put o ∷ h) (has_put w o l)) e (out h l o is))

pub goes_on : GoesOn
goes_on = record {
  begins = record { books = books.goes_on.begins; frames = record { readings = λ p. refl; here = λ p. refl }; waiting = waiting.goes_on.begins };
  event = event;
  out = out;
  row = λ h l row is. outs row.event.what (Came row.event ∷ h) (met row.event l) row.outs refl (event h l row.event is);
}
