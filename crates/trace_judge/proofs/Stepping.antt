-- Outs, one after another.
use Rattle.std.proofs.Common.{◌≡◌, ◌∷◌, ◌&&◌, Bool, true, List, [], refl, subst}
use Rattle.client_request.specs.declared.event.Out.{Out}
use Rattle.right_trace.specs.Trace.{History, Put, put_all, after}
use Rattle.trace_judge.specs.clauses.Clauses.{EachOwes, MessageOwes, ReplyOwesFirst, ErrorOwes, OtherOwes}
use Rattle.trace_points.specs.questions.Outs.{Tells}
use Rattle.trace_points.proofs.lemmas.questions.Deciding.{both, all}
use Rattle.trace_judge.specs.declared.case.Case.{Case}
use Rattle.trace_judge.specs.declared.course.Course.{Course}
use Rattle.trace_judge.specs.declared.outs.{Kept.Kept, Said.Said}
use Rattle.trace_judge.specs.Known.{Known, conf_in, settings_in, event_in}
use Rattle.trace_judge.specs.Outs.{TellsSaid}
use Rattle.trace_judge.specs.Course.{AreKept, IsRun, IsStep, Puts, Runs, StepsTo}
use Rattle.trace_judge.specs.Course as plain
use Rattle.trace_judge.proofs.Knowing.{puts}

pub steps : (p : Case) (o : Out) (a : Said) (old new : Course) → TellsSaid p old o a → Puts p o a old new → StepsTo p o old new a.kept
steps p o a old new told u x h n = let said = told x h n in record { kept = said.kept; known = puts x h p o a old new n said u }

-- what all outs owe, by those that are done and those that are left
pub record Leads (Owes : History → Out → Type 0) (h0 h : History) (os rest : List Out) (b : Bool) : Type 0 where
  pub so : b ≡ true → EachOwes Owes h rest → EachOwes Owes h0 os
  pub done : EachOwes Owes h0 os → b ≡ true
  pub left : EachOwes Owes h0 os → EachOwes Owes h rest

lead_begins : (Owes : History → Out → Type 0) (h : History) (os : List Out) → Leads Owes h h os os true
lead_begins Owes h os = record { so = λ _ e. e; done = λ _. refl; left = λ e. e }

lead_on : (Owes : History → Out → Type 0) (h0 h : History) (os rest : List Out) (o : Out) (a b : Bool) → Leads Owes h0 h os (o ∷ rest) a → Tells (Owes h o) b → Leads Owes h0 (Put o ∷ h) os rest (a && b)
lead_on Owes h0 h os rest o a b l t = record {
  so = λ e r. (let q = both a b e in l.so q.0 (t.0 q.1, r));
  done = λ e. all a b (l.done e) (t.1 (l.left e).0);
  left = λ e. (l.left e).1;
}

lead_ends : (Owes : History → Out → Type 0) (h0 h : History) (os : List Out) (b : Bool) → Leads Owes h0 h os [] b → Tells (EachOwes Owes h0 os) b
lead_ends Owes h0 h os b l = (λ e. l.so e tt, l.done)

-- outs are run up to a point
pub record IsAmid (p : Case) (os rest : List Out) (start now : Course) (k : Kept) (x h0 : History) : Type 0 where
  pub h : History
  pub known : Known x h p now
  pub ends : put_all rest h ≡ put_all os h0
  pub messages : Leads (MessageOwes (conf_in p) (settings_in p) x (event_in p)) h0 h os rest k.messages
  pub firsts : Leads ReplyOwesFirst h0 h os rest k.firsts
  pub causes : Leads (ErrorOwes (conf_in p) (settings_in p) x (event_in p)) h0 h os rest k.causes
  pub orders : Leads (OtherOwes (conf_in p) (settings_in p) x (event_in p) (after p.row.now x)) h0 h os rest k.orders

abbrev pub Amid : Case → (os rest : List Out) → (start now : Course) → Kept → Type 0
Amid p os rest start now k = (x h0 : History) → Known x h0 p start → IsAmid p os rest start now k x h0

pub begins : (p : Case) (os : List Out) (start : Course) → Amid p os os start start (record { messages = true; firsts = true; causes = true; orders = true })
begins p os start x h n = record {
  h = h;
  known = n;
  ends = refl;
  messages = lead_begins _ h os;
  firsts = lead_begins _ h os;
  causes = lead_begins _ h os;
  orders = lead_begins _ h os;
}

pub goes_on : (p : Case) (os rest : List Out) (o : Out) (start now next : Course) (k its : Kept) → Amid p os (o ∷ rest) start now k → StepsTo p o now next its → Amid p os rest start next (plain.both k its)
goes_on p os rest o start now next k its a s x h0 n =
    let m = a x h0 n in
    let q = s x m.h m.known in
    record {
      h = Put o ∷ m.h;
      known = q.known;
      ends = m.ends;
      messages = lead_on _ h0 m.h os rest o k.messages its.messages m.messages q.kept.messages;
      firsts = lead_on _ h0 m.h os rest o k.firsts its.firsts m.firsts q.kept.firsts;
      causes = lead_on _ h0 m.h os rest o k.causes its.causes m.causes q.kept.causes;
      orders = lead_on _ h0 m.h os rest o k.orders its.orders m.orders q.kept.orders;
    }

pub ends : (p : Case) (os : List Out) (start now : Course) (k : Kept) → Amid p os [] start now k → Runs p os start now k
ends p os start now k a x h0 n =
    let m = a x h0 n in
    record {
      kept = record {
        messages = lead_ends _ h0 m.h os k.messages m.messages;
        firsts = lead_ends _ h0 m.h os k.firsts m.firsts;
        causes = lead_ends _ h0 m.h os k.causes m.causes;
        orders = lead_ends _ h0 m.h os k.orders m.orders;
      };
      known = subst (λ h. Known x h p now) m.ends m.known;
    }
