-- What is said of outs is what the definitions say.
use Rattle.std.proofs.Common.{◌≡◌, ℕ, ◌∷◌, Bool, true, false, Option, Some, None, Ok, Err, refl, sym, ap, ◌∙◌, subst, map}
use Rattle.client_request.specs.declared.error.Error.{Error}
use Rattle.client_request.specs.declared.event.{Out.Out, What.What, Row.Row}
use Rattle.client_request.specs.declared.event.Out.TheVariants.{Close, Reply, Stale}
use Rattle.right_trace.specs.Trace.{History, Conf, Came, Put, after}
use Rattle.right_trace.specs.{Time.newest, Messages.Octets, Settings.Settings, Errors.DirectCause, Stale.MessageIsRight}
use Rattle.trace_outs.specs.busy.Backs.{TellsEnd}
use Rattle.trace_points.specs.due.Timers as timers
use Rattle.trace_points.specs.exchanges.Coming.{AllComing}
use Rattle.trace_tables.specs.declared.frames.ledger.Ledger.{Ledger}
use Rattle.trace_tables.specs.frames.Ledger as ledger
use Rattle.trace_tables.specs.frames.Here as here_outs
use Rattle.trace_points.specs.questions.Configured.{use_of}
use Rattle.trace_judge.specs.clauses.Clauses.{MessageOwes, ReplyOwesFirst, ErrorOwes, OtherOwes}
use Rattle.trace_replies.specs.given.Earlier.{Outcome, IsGivenHere}
use Rattle.trace_replies.specs.given.Earlier as replies
use Rattle.trace_replies.specs.declared.messages.message.Judged.{Judged}
use Rattle.trace_replies.specs.messages.Message.{FailsHere}
use Rattle.trace_outs.specs.Outs.{OutOwes}
use Rattle.trace_outs.specs.Outs as outs
use Rattle.trace_points.specs.questions.Outs.{Tells, TellsFirst}
use Rattle.trace_outs.specs.declared.reasons.point.Point.{Point}
use Rattle.trace_outs.specs.reasons.Point as points
use Rattle.trace_outs.specs.reasons.Closing as closing
use Rattle.trace_judge.specs.declared.case.{Case.Case, Mark.Mark}
use Rattle.trace_judge.specs.declared.course.Course.{Course}
use Rattle.trace_judge.specs.Known.{MarkKnown, Known, conf_in, settings_in, event_in}
use Rattle.trace_judge.specs.Replies as plain
use Rattle.trace_judge.specs.Outs.{IsOther, TellsSaid, TellsOut, TellsBadEnd, TellsBad, TellsMark}
use Rattle.trace_judge.proofs.Telling.{nothing_told}

-- an out that is no mark
not_marked : (c : Conf) (s : Settings) (x h : History) (o : Out) → ((k : ℕ) → o ≡ Stale k → ⊥) → MarkKnown c s x (Put o ∷ h) None
not_marked c s x h o non k before is = absurd (non k (cc))

reply_unmarked : (c : Conf) (s : Settings) (x h : History) (k : ℕ) (y : Outcome) → MarkKnown c s x (Put (Reply k y) ∷ h) None
reply_unmarked c s x h k y = not_marked c s x h (Reply k y) (λ j e. cc)

-- what is told of a reply is told of it under each name
module _ (c : Conf) (s : Settings) (h : History) (given : Bool) where
  abbrev IsGivenBy : Out → Type 0
  IsGivenBy (Reply k y) = Tells (IsGivenHere c s k y h) given
  IsGivenBy _ = Unit {0}

  given_told : (k : ℕ) (y : Outcome) → Tells (IsGivenHere c s k y h) given → replies.IsTold c s (Reply k y) given h
  given_told k y t j z e = subst IsGivenBy e t

module _ (p : Case) (t : Course) (k : ℕ) where
  pub said_ok : (m : Octets) (j : Judged) (first : Bool) → plain.TellsMessage p t k m j → TellsFirst k t.here.pass.ledger.books first
      → TellsSaid p t (Reply k (Ok m)) (record { kept = record { messages = j.is_right; firsts = first; causes = true; orders = true }; given = j.is_fresh; is_bad = false; mark = None })
  said_ok m j first f g x h n =
      let d = f x h n in
      record {
        kept = record {
          messages = subst (λ w. Tells (MessageIsRight (conf_in p) (settings_in p) k m x w h) j.is_right) n.within.event d.right;
          firsts = g h n.course.here.pass.ledger.books;
          causes = nothing_told;
          orders = nothing_told;
        };
        given = given_told (conf_in p) (settings_in p) h j.is_fresh k (Ok m) d.fresh;
        bad = tt;
        mark = reply_unmarked (conf_in p) (settings_in p) x h k (Ok m);
      }

  pub said_error : (e : Error) (causes given first : Bool) → plain.TellsCause p t k e causes → plain.TellsDirect p t k e given → TellsFirst k t.here.pass.ledger.books first
      → TellsSaid p t (Reply k (Err e)) (record { kept = record { messages = true; firsts = first; causes = causes; orders = true }; given = given; is_bad = false; mark = None })
  said_error e causes given first f d g x h n =
      let c = conf_in p in
      let s = settings_in p in
      record {
        kept = record {
          messages = nothing_told;
          firsts = g h n.course.here.pass.ledger.books;
          causes = f x h n;
          orders = nothing_told;
        };
        given = given_told c s h given k (Err e)
            (subst (λ x. Tells (DirectCause c s k x (newest h) h e) given) (sym n.within.before) (subst (λ w. Tells (DirectCause c s k x w h e) given) (sym n.within.event) (d x h n)));
        bad = tt;
        mark = reply_unmarked c s x h k (Err e);
      }

-- of outs that are no replies
module _ (c : Conf) (s : Settings) (x : History) (w : What) (end h : History) where
  other_messages : (o : Out) → IsOther o → Tells (MessageOwes c s x w h o) true
  other_messages (Reply k y) i = absurd i
  other_messages _ i = nothing_told

  other_firsts : (o : Out) → IsOther o → Tells (ReplyOwesFirst h o) true
  other_firsts (Reply k y) i = absurd i
  other_firsts _ i = nothing_told

  other_causes : (o : Out) → IsOther o → Tells (ErrorOwes c s x w h o) true
  other_causes (Reply k y) i = absurd i
  other_causes _ i = nothing_told

  other_orders : (o : Out) (b : Bool) → IsOther o → Tells (OutOwes c x w h end o) b → Tells (OtherOwes c s x w end h o) b
  other_orders (Reply k y) b i t = absurd i
  other_orders _ b i t = t

pub said_other : (p : Case) (t : Course) (o : Out) (orders bad : Bool) (m : Option Mark) → IsOther o → TellsOut p t o orders → TellsBad p t o bad → TellsMark p t o m
    → TellsSaid p t o (record { kept = record { messages = true; firsts = true; causes = true; orders = orders }; given = false; is_bad = bad; mark = m })
said_other p t o orders bad m i f g d x h n =
    let c = conf_in p in
    let s = settings_in p in
    record {
      kept = record {
        messages = other_messages c s x (event_in p) (after p.row.now x) h o i;
        firsts = other_firsts c s x (event_in p) (after p.row.now x) h o i;
        causes = other_causes c s x (event_in p) (after p.row.now x) h o i;
        orders = other_orders c s x (event_in p) (after p.row.now x) h o orders i (f x h n);
      };
      given = λ k y e. absurd (subst IsOther e i);
      bad = g x h n;
      mark = d x h n;
    }

-- what is known at the point
pub record IsAt (p : Case) (t : Course) (q : Point) : Type 0 where
  pub conf : q.conf.now ≡ conf_in p
  pub servers : q.servers.now ≡ p.rules.now.servers.items
  pub row : q.row.now ≡ p.row.now
  pub past : q.past.now ≡ p.past.now.pass.ledger
  pub past_timers : q.past_timers.now ≡ p.past.now.pass.timers
  pub here : q.here.now ≡ t.here.pass.ledger
  pub timers : q.timers.now ≡ t.here.pass.timers
  pub made : q.made.now ≡ t.made
  pub comings : q.comings.now ≡ p.comings.now

module _ (p : Case) (t : Course) (q : Point) (a : IsAt p t q) where
  is_point : (x h : History) → Known x h p t → points.Known (conf_in p) x h (after p.row.now x) q
  is_point x h n = record {
    past = subst (ledger.Known x) (sym a.past) n.past.pass.ledger;
    past_timers = subst (timers.Known (conf_in p) x) (sym a.past_timers) n.past.pass.timers;
    here = subst (ledger.Known h) (sym a.here) n.course.here.pass.ledger;
    timers = subst (timers.Known (conf_in p) h) (sym a.timers) n.course.here.pass.timers;
    made = subst (λ (l : Ledger). here_outs.Known l.books.places h q.made.now) (sym a.past) (subst (here_outs.Known p.past.now.pass.ledger.books.places h) (sym a.made) n.course.made);
    before = n.within.before;
    event = n.within.event ∙ ap (λ (r : Row). r.event.what) (sym a.row);
    behind = ap (λ (r : Row). after r x) (sym a.row);
    conf = a.conf;
    servers = p.rules.now.servers_are ∙ ap (map use_of) (sym a.servers);
    comings = record {
      at = Came p.row.now.event ∷ x;
      time = n.within.time;
      event = ap (λ (r : Row). r.event.what) (sym a.row);
      all = subst (AllComing (conf_in p) None x (Came p.row.now.event ∷ x)) (sym a.comings) n.all;
    };
  }

  pub told_out : (o : Out) (b : Bool) → outs.TellsOut q t.here.loads t.here.held o b → TellsOut p t o b
  told_out o b f x h n = subst (λ (r : Row). Tells (OutOwes (conf_in p) x r.event.what h (after p.row.now x) o) b) a.row (f (conf_in p) x h (after p.row.now x) (is_point x h n) n.course.here.loads n.course.here.held)

  pub told_bad_end : (place : ℕ) (b : Bool) → closing.TellsBadEnd place q b → TellsBadEnd p t place b
  told_bad_end place b f x h n = f (conf_in p) x h (after p.row.now x) (is_point x h n)

-- whether an out closes a place that ends badly
pub not_bad : (p : Case) (t : Course) (o : Out) → ((q : ℕ) → o ≡ Close q → ⊥) → TellsBad p t o false
not_bad p t o non x h n = go o non
  where
    go : (o : Out) → ((q : ℕ) → o ≡ Close q → ⊥) → TellsEnd (conf_in p) o h false
    go (Close q) non = absurd (non q refl)
    go _ non = tt

pub no_mark : (p : Case) (t : Course) (o : Out) → ((k : ℕ) → o ≡ Stale k → ⊥) → TellsMark p t o None
no_mark p t o non x h n = not_marked (conf_in p) (settings_in p) x h o non

pub its_mark : (p : Case) (t : Course) (k : ℕ) (b : Bool) → plain.TellsFails p t k b → TellsMark p t (Stale k) (Some (record { request = k; fails = b }))
its_mark p t k b f x h n j before e =
    let c = conf_in p in
    let s = settings_in p in
    let same : k ≡ j = cc in
    let same_h : h ≡ before = cc in
    let told : Tells (FailsHere c s k x (newest h) h) b = subst (λ w. Tells (FailsHere c s k x w h) b) (sym n.within.event) (f x h n) in
    record {
      mark = record { request = k; fails = b };
      is = refl;
      request = same;
      fails = subst (λ j. Tells (FailsHere c s j x (newest h) before) b) same (subst (λ (g : History). Tells (FailsHere c s k x (newest h) g) b) same_h told);
    }
