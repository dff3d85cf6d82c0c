-- The outs of a row, one after another, and what they owe together when the row is done.
use Rattle.std.specs.Prelude.{◌≡◌, ◌≤◌, ◌∷◌, ◌&&◌, Bool, true, List, [], None}
use Rattle.client_request.specs.declared.event.{Event.Event, Out.Out, What.What}
use Rattle.right_trace.specs.Trace.{History, Conf, Put, put_all, after}
use Rattle.right_trace.specs.Settings.{Settings, defers_nothing}
use Rattle.right_trace.specs.Orderly.{PlacesAreMet}
use Rattle.right_trace.specs.Right.{HasServer, WaitingIsBusy, MarksStand, faults}
use Rattle.trace_tables.specs.frames.Here as here_outs
use Rattle.trace_points.specs.questions.Outs.{Tells}
use Rattle.trace_replies.specs.given.Earlier.{Steps}
use Rattle.trace_judge.specs.clauses.Clauses.{EachOwes, MessageOwes, ReplyOwesFirst, ErrorOwes, OtherOwes}
use Rattle.trace_judge.specs.declared.case.Case.{Case}
use Rattle.trace_judge.specs.declared.course.Course.{Course}
use Rattle.trace_judge.specs.declared.outs.{Kept.Kept, Said.Said}
use Rattle.trace_judge.specs.declared.rules.Rules.{Rules}
use Rattle.trace_judge.specs.Tables as tables
use Rattle.trace_judge.specs.Known.{Known, conf_in, settings_in, event_in}
use Rattle.trace_judge.specs.Outs.{IsKept}

abbrev pub both : Kept → Kept → Kept
both a b = record {
  messages = a.messages && b.messages;
  firsts = a.firsts && b.firsts;
  causes = a.causes && b.causes;
  orders = a.orders && b.orders;
}

-- before the first row
pub record IsBegun (exact : Bool) (t : Course) : Type 0 where
  pub here : t.here ≡ tables.nothing exact
  pub replies : t.replies ≡ []

-- a row begins with an event
pub record Begins (c : Conf) (e : Event) (old new : Course) : Type 0 where
  pub here : new.here ≡ tables.met c e old.here
  pub replies : new.replies ≡ old.replies
  pub made : new.made ≡ here_outs.nothing
  pub mark : new.mark ≡ None

-- what a reply gave is kept
pub record KeepsGiven (o : Out) (given : Bool) (old new : Course) : Type 0 where
  pub here : new.here ≡ old.here
  pub made : new.made ≡ old.made
  pub mark : new.mark ≡ old.mark
  pub replies : (s : Settings) → Steps s old.here.pass.ledger.books.requests o given old.replies new.replies

-- an out is put
pub record Puts (p : Case) (o : Out) (a : Said) (old new : Course) : Type 0 where
  pub here : new.here ≡ tables.has_put (conf_in p) (event_in p) o a.is_bad old.here
  pub made : new.made ≡ here_outs.has_put o p.past.now.pass.ledger.books.places old.made
  pub mark : new.mark ≡ a.mark
  pub replies : (s : Settings) → Steps s old.here.pass.ledger.books.requests o a.given old.replies new.replies

-- an out is judged, and put
pub record IsStep (p : Case) (o : Out) (old new : Course) (k : Kept) (x h : History) : Type 0 where
  pub kept : IsKept (conf_in p) (settings_in p) x (event_in p) (after p.row.now x) h o k
  pub known : Known x (Put o ∷ h) p new

abbrev pub StepsTo : Case → Out → (old new : Course) → Kept → Type 0
StepsTo p o old new k = (x h : History) → Known x h p old → IsStep p o old new k x h

-- which clauses outs keep
pub record AreKept (c : Conf) (s : Settings) (x : History) (w : What) (end h : History) (os : List Out) (k : Kept) : Type 0 where
  pub messages : Tells (EachOwes (MessageOwes c s x w) h os) k.messages
  pub firsts : Tells (EachOwes ReplyOwesFirst h os) k.firsts
  pub causes : Tells (EachOwes (ErrorOwes c s x w) h os) k.causes
  pub orders : Tells (EachOwes (OtherOwes c s x w end) h os) k.orders

-- outs are judged and put
pub record IsRun (p : Case) (os : List Out) (old new : Course) (k : Kept) (x h : History) : Type 0 where
  pub kept : AreKept (conf_in p) (settings_in p) x (event_in p) (after p.row.now x) h os k
  pub known : Known x (put_all os h) p new

abbrev pub Runs : Case → List Out → (old new : Course) → Kept → Type 0
Runs p os old new k = (x h : History) → Known x h p old → IsRun p os old new k x h

-- each valid request that waits is busy, where there is a server
abbrev pub EachIsBusy : Conf → History → Type 0
EachIsBusy c h = HasServer c → WaitingIsBusy c h

abbrev pub TellsAllBusy : Rules → Course → Bool → Type 0
TellsAllBusy r t b = (h : History) → tables.Known r.conf h t.here → Tells (WaitingIsBusy r.conf h) b

abbrev pub TellsBusy : Rules → Course → Bool → Type 0
TellsBusy r t b = (h : History) → tables.Known r.conf h t.here → Tells (EachIsBusy r.conf h) b

-- at most one error that an event at a datagram place brings, where nothing is deferred
abbrev pub OneFault : Settings → List Out → Type 0
OneFault s os = defers_nothing s ≡ true → faults os ≤ 1

-- which clauses a row keeps when it is done, whose outs keep these
pub record IsEnd (c : Conf) (s : Settings) (h : History) (os : List Out) (kept k : Kept) : Type 0 where
  pub messages : k.messages ≡ kept.messages
  pub firsts : k.firsts ≡ kept.firsts
  pub causes : Tells ((kept.causes ≡ true) × OneFault s os) k.causes
  pub orders : Tells ((kept.orders ≡ true) × EachIsBusy c h × PlacesAreMet c s h × MarksStand os) k.orders

abbrev pub TellsEnd : Rules → Course → List Out → (kept k : Kept) → Type 0
TellsEnd r t os kept k = (h : History) → tables.Known r.conf h t.here → t.here.loads.exact ≡ defers_nothing r.settings → IsEnd r.conf r.settings h os kept k
