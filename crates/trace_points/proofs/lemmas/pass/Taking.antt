-- What is known goes on over events, outs and rows.
use Rattle.std.proofs.Common.{◌≡◌, List, [], ◌∷◌, refl, subst}
use Rattle.client_request.specs.declared.event.{Event.Event, Out.Out, Row.Row, What.What}
use Rattle.right_trace.specs.Trace.{History, Came, Put, put_all, after, Conf}
use Rattle.right_trace.specs.Time.{newest}
use Rattle.trace_tables.specs.frames.Ledger as ledger
use Rattle.trace_tables.proofs.lemmas.frames.Keeping as keeping
use Rattle.trace_points.specs.exchanges.Asked.{AskedFirst}
use Rattle.trace_points.proofs.lemmas.exchanges.Opening as sending
use Rattle.trace_points.proofs.lemmas.due.Keeping as timing
use Rattle.trace_points.specs.declared.pass.pass.Pass.{Pass}
use Rattle.trace_points.specs.pass.Pass.{met, has_put, have_put, after_row, Known, GoesOn}

event : (c : Conf) (h : History) (e : Event) (p : Pass) → AskedFirst h → Known c h p → Known c (Came e ∷ h) (met c e p)
event c h e p first k =
    let l = keeping.goes_on.event h p.ledger e k.ledger in
    record {
      ledger = l;
      sends = (sending.goes_on c).event h e (ledger.met e p.ledger).books.requests (ledger.met e p.ledger).frames p.sends first l.books.requests l.frames k.sends;
      timers = (timing.goes_on c).event h p.ledger p.timers e first k.ledger k.timers;
    }

out : (c : Conf) (h : History) (o : Out) (p : Pass) → Known c h p → Known c (Put o ∷ h) (has_put (newest h) o p)
out c h o p k = record {
  ledger = keeping.goes_on.out h p.ledger o k.ledger;
  sends = (sending.goes_on c).out h p.ledger.books.requests.clock p.sends o k.ledger.books.requests.time k.sends;
  timers = (timing.goes_on c).out h p.ledger p.timers o k.ledger k.timers;
}

outs : (c : Conf) (w : What) (os : List Out) (h : History) (p : Pass) → newest h ≡ w → Known c h p → Known c (put_all os h) (have_put w os p)
outs c w [] h p e k = k
outs c w (o ∷ os) h p e k = outs c w os (Put o ∷ h) (has_put w o p) e (subst (λ w. Known c (Put o ∷ h) (has_put w o p)) e (out c h o p k))

row : (c : Conf) (past : History) (row : Row) (p : Pass) → AskedFirst past → Known c past p → Known c (after row past) (after_row c row p)
row c past r p first k = outs c r.event.what r.outs (Came r.event ∷ past) (met c r.event p) refl (event c past r.event p first k)

pub goes_on : (c : Conf) → GoesOn c
goes_on c = record { begins = record { ledger = keeping.goes_on.begins; sends = (sending.goes_on c).begins; timers = (timing.goes_on c).begins }; event = event c; out = out c; row = row c }
