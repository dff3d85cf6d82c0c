-- What is known goes on over events and outs.
use Rattle.std.proofs.Common.{◌≡◌, ℕ, ◌∷◌, [], Bool, true, false, max, List, None, refl, sym, ap, ◌∙◌, subst}
use Rattle.client_request.specs.declared.event.{Event.Event, Out.Out}
use Rattle.client_request.specs.declared.event.Out.TheVariants.{Close, Reply}
use Rattle.right_trace.specs.Trace.{History, Conf, Came, Put}
use Rattle.right_trace.specs.{Time.newest, Trace.after}
use Rattle.right_trace.specs.Settings.{Settings, defers_nothing}
use Rattle.trace_tables.specs.declared.places.Place.{Place}
use Rattle.trace_tables.specs.Known as places_seen
use Rattle.trace_tables.specs.frames.Here as here_outs
use Rattle.trace_tables.proofs.lemmas.frames.Opening as opening
use Rattle.trace_points.specs.exchanges.Asked.{AskedFirst}
use Rattle.trace_outs.specs.busy.Backs.{TellsEnd}
use Rattle.trace_outs.proofs.lemmas.busy.Backing as backing
use Rattle.trace_outs.proofs.lemmas.busy.Waiting as waiting
use Rattle.trace_outs.proofs.lemmas.loads.Holding as holding
use Rattle.trace_outs.proofs.lemmas.loads.Meeting as loading
use Rattle.trace_errors.proofs.lemmas.owed.Exchanging as exchanging
use Rattle.trace_points.specs.pass.Pass as pass
use Rattle.trace_points.proofs.lemmas.pass.Taking as passing
use Rattle.trace_replies.specs.given.Earlier.{Keeps, Outcome, Steps, Table, Gives, Others}
use Rattle.trace_replies.specs.given.Earlier as replies
use Rattle.trace_tables.specs.declared.requests.Requests.{Requests}
use Rattle.trace_replies.proofs.lemmas.given.Keeping as giving
use Rattle.trace_judge.specs.declared.case.Case.{Case}
use Rattle.trace_judge.specs.declared.course.Course.{Course}
use Rattle.trace_judge.specs.declared.outs.Said.{Said}
use Rattle.trace_judge.specs.declared.tables.Tables.{Tables}
use Rattle.trace_judge.specs.Tables as tables
use Rattle.trace_judge.specs.Known.{BehindRight, CourseKnown, MarkKnown, Known, conf_in, settings_in, event_in}
use Rattle.trace_judge.specs.Outs.{IsSaid}
use Rattle.trace_judge.specs.Course.{Begins, KeepsGiven, Puts}

-- tables

pub tables_begin : (c : Conf) (exact : Bool) → tables.Known c [] (tables.nothing exact)
tables_begin c exact = record {
  pass = (passing.goes_on c).begins;
  loads = (loading.goes_on c).begins exact;
  held = holding.goes_on.begins;
  waits = (waiting.goes_on c).begins;
  backs = (backing.goes_on c).begins;
  exchanged = (exchanging.goes_on c).begins;
}

pub tables_event : (c : Conf) (h : History) (e : Event) (t : Tables) → AskedFirst h → tables.Known c h t → tables.Known c (Came e ∷ h) (tables.met c e t)
tables_event c h e t first k =
    let p = (passing.goes_on c).event h e t.pass first k.pass in
    let d = holding.goes_on.event h t.pass.ledger.frames t.held e k.pass.ledger.frames k.held in
    record {
      pass = p;
      loads = (loading.goes_on c).event h t.pass.ledger.books t.loads e first k.pass.ledger.books k.loads;
      held = d;
      waits = (waiting.goes_on c).event h t.pass.ledger.books.requests t.waits e k.pass.ledger.books.requests k.waits;
      backs = (backing.goes_on c).event h e (max e.moment.0 t.pass.ledger.books.requests.clock) t.pass.ledger.books.places (pass.met c e t.pass).ledger.books.places (tables.met c e t).held t.backs
          (ap (λ n. max e.moment.0 n) k.pass.ledger.books.requests.time) k.pass.ledger.books.places p.ledger.books.places d k.backs;
      exchanged = (exchanging.goes_on c).event h t.exchanged e k.exchanged;
    }

pub tables_out : (c : Conf) (h : History) (o : Out) (bad : Bool) (t : Tables) → TellsEnd c o h bad → tables.Known c h t → tables.Known c (Put o ∷ h) (tables.has_put c (newest h) o bad t)
tables_out c h o bad t is_bad k =
    let p = (passing.goes_on c).out h o t.pass k.pass in
    let d = holding.goes_on.out h t.held o k.held in
    record {
      pass = p;
      loads = (loading.goes_on c).out h t.pass.ledger.books t.loads o k.pass.ledger.books k.loads;
      held = d;
      waits = (waiting.goes_on c).out h t.pass.ledger.books.requests t.waits o k.pass.ledger.books.requests k.waits;
      backs = (backing.goes_on c).out h o bad t.pass.ledger.books.requests.clock t.pass.ledger.books.places (pass.has_put (newest h) o t.pass).ledger.books.places (tables.has_put c (newest h) o bad t).held t.backs
          k.pass.ledger.books.requests.time is_bad k.pass.ledger.books.places p.ledger.books.places d k.backs;
      exchanged = (exchanging.goes_on c).out h t.exchanged o k.exchanged;
    }

-- whether nothing is deferred stands
event_exact : (c : Conf) (e : Event) (t : Tables) → (tables.met c e t).loads.exact ≡ t.loads.exact
event_exact c e t = ((loading.goes_on c).exact e.what t.pass.ledger.books t.loads (Close 0)).0

out_exact : (c : Conf) (h : History) (o : Out) (bad : Bool) (t : Tables) → (tables.has_put c (newest h) o bad t).loads.exact ≡ t.loads.exact
out_exact c h o bad t = ((loading.goes_on c).exact (newest h) t.pass.ledger.books t.loads o).1

-- marks
none_marked : (c : Conf) (s : Settings) (x : History) (e : Event) → MarkKnown c s x (Came e ∷ x) None
none_marked c s x e k before is = absurd (cc)

-- a row begins
pub begins : (c : Conf) (s : Settings) (x : History) (e : Event) (places : List (ℕ × Place)) (old new : Course) → BehindRight c s x → tables.Known c x old.here → old.here.loads.exact ≡ defers_nothing s → replies.Known c s x old.replies
    → places_seen.Known x places → Begins c e old new → CourseKnown c s x (Came e ∷ x) places new
begins c s x e places old new right k exact kr kp b = record {
  here = subst (tables.Known c (Came e ∷ x)) (sym b.here) (tables_event c x e old.here right.asked k);
  exact = ap (λ (t : Tables). t.loads.exact) b.here ∙ (event_exact c e old.here ∙ exact);
  replies = subst (replies.Known c s (Came e ∷ x)) (sym b.replies) (giving.goes_on.event c s x old.replies e right.given kr);
  made = subst (here_outs.Known places (Came e ∷ x)) (sym b.made) (opening.goes_on.begins x places e kp);
  mark = subst (MarkKnown c s x (Came e ∷ x)) (sym b.mark) (none_marked c s x e);
}

-- an out is put
module _ (x h : History) (p : Case) (o : Out) (a : Said) (old new : Course) (k : Known x h p old) (said : IsSaid (conf_in p) (settings_in p) x (event_in p) (after p.row.now x) h o a) (u : Puts p o a old new) where
  out_here : tables.Known (conf_in p) (Put o ∷ h) new.here
  out_here = subst (tables.Known (conf_in p) (Put o ∷ h)) (sym u.here)
      (subst (λ w. tables.Known (conf_in p) (Put o ∷ h) (tables.has_put (conf_in p) w o a.is_bad old.here)) k.within.event (tables_out (conf_in p) h o a.is_bad old.here said.bad k.course.here))

  exact_kept : new.here.loads.exact ≡ defers_nothing (settings_in p)
  exact_kept = ap (λ (t : Tables). t.loads.exact) u.here
      ∙ (subst (λ w. (tables.has_put (conf_in p) w o a.is_bad old.here).loads.exact ≡ old.here.loads.exact) k.within.event (out_exact (conf_in p) h o a.is_bad old.here) ∙ k.course.exact)

  pub puts : Known x (Put o ∷ h) p new
  puts = record {
    within = record { before = k.within.before; event = k.within.event; time = k.within.time };
    past = k.past;
    all = k.all;
    course = record {
      here = out_here;
      exact = exact_kept;
      replies = giving.goes_on.out (conf_in p) (settings_in p) h old.here.pass.ledger.books.requests old.replies new.replies o a.given k.course.here.pass.ledger.books.requests said.given (u.replies (settings_in p)) k.course.replies;
      made = subst (here_outs.Known p.past.now.pass.ledger.books.places (Put o ∷ h)) (sym u.made) (opening.goes_on.out h p.past.now.pass.ledger.books.places old.made o k.course.made);
      mark = subst (MarkKnown (conf_in p) (settings_in p) x (Put o ∷ h)) (sym u.mark) said.mark;
    };
  }

-- what replies gave

pub gives : (s : Settings) (r : Requests) (k : ℕ) (y : Outcome) (old new : Table) → Keeps r k y old new → Steps s r (Reply k y) true old new
gives s r k y old new k' = Gives k y refl refl k'

pub gives_none : (s : Settings) (r : Requests) (o : Out) (t : Table) → Steps s r o false t t
gives_none s r o t = Others (λ k y e g w. (let z : false ≡ true = g in cc)) (λ k. refl)

pub gives_no_reply : (s : Settings) (r : Requests) (o : Out) (given : Bool) (t : Table) → ((k : ℕ) (y : Outcome) → o ≡ Reply k y → ⊥) → Steps s r o given t t
gives_no_reply s r o given t non = Others (λ k y e g w. non k y e) (λ k. refl)

pub gives_here : (o : Out) (k : ℕ) (y : Outcome) (old new : Course) → o ≡ Reply k y → new.here ≡ old.here → new.made ≡ old.made → new.mark ≡ old.mark → Keeps old.here.pass.ledger.books.requests k y old.replies new.replies → KeepsGiven o true old new
gives_here o k y old new is here made mark keeps = record {
  here = here;
  made = made;
  mark = mark;
  replies = λ s. subst (λ o. Steps s old.here.pass.ledger.books.requests o true old.replies new.replies) (sym is) (gives s old.here.pass.ledger.books.requests k y old.replies new.replies keeps);
}

pub gives_nothing : (o : Out) (given : Bool) (t : Course) → ((k : ℕ) (y : Outcome) → o ≡ Reply k y → ⊥) → KeepsGiven o given t t
gives_nothing o given t non = record { here = refl; made = refl; mark = refl; replies = λ s. gives_no_reply s t.here.pass.ledger.books.requests o given t.replies non }
