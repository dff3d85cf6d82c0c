-- A row, judged behind rows that are right.
use Rattle.std.proofs.Common.{◌≡◌, ◌∷◌, [], Bool, true, false, List, Option, Some, None, refl, sym, ap, ◌∙◌, subst}
use Rattle.client_request.specs.declared.event.{Event.Event, Out.Out, Row.Row}
use Rattle.right_trace.specs.Trace.{History, Conf, Came, after}
use Rattle.right_trace.specs.{Time.now, Settings.Settings, Right.RowRight}
use Rattle.trace_judge.specs.clauses.{Clauses.Keeps, Verdicts.KeepsAll}
use Rattle.trace_judge.specs.clauses.Clauses as clauses
use Rattle.trace_judge.proofs.lemmas.clauses.Rows.{row_right}
use Rattle.trace_points.specs.declared.exchanges.coming.Coming.{Coming}
use Rattle.trace_points.specs.exchanges.Coming.{AllComing}
use Rattle.trace_points.specs.exchanges.Coming as comings
use Rattle.trace_points.proofs.lemmas.exchanges.Asking.{right_rows_ask}
use Rattle.trace_errors.proofs.Telling as erring
use Rattle.trace_replies.proofs.lemmas.firsts.Arriving as arriving
use Rattle.trace_replies.proofs.lemmas.given.Keeping as giving
use Rattle.trace_replies.specs.given.Earlier as replies
use Rattle.trace_points.proofs.lemmas.pass.Taking as passing
use Rattle.trace_errors.proofs.lemmas.promptness.Hearing.{before_row}
use Rattle.trace_errors.proofs.lemmas.promptness.Hearing as hearing
use Rattle.trace_errors.specs.promptness.Prompt as prompts
use Rattle.trace_points.specs.questions.Outs.{Tells}
use Rattle.trace_judge.specs.declared.case.Case.{Case}
use Rattle.trace_judge.specs.declared.course.Course.{Course}
use Rattle.trace_judge.specs.declared.judge.Judge.{Judge}
use Rattle.trace_judge.specs.declared.outs.Kept.{Kept}
use Rattle.trace_judge.specs.declared.past.Past.{Past}
use Rattle.trace_judge.specs.declared.rules.Rules.{Rules}
use Rattle.trace_judge.specs.declared.tables.Tables.{Tables}
use Rattle.trace_judge.specs.declared.verdict.{Clause.Clause, Clause.TheVariants.Events}
use Rattle.trace_judge.specs.Course.{AreKept, IsEnd}
use Rattle.trace_judge.specs.Course as course
use Rattle.trace_judge.specs.Judge.{AtEnd, HasRun, IsJudged, Judges, Known, Runs, TellsComing, TellsPrompt, first_broken}
use Rattle.trace_judge.specs.Judge as plain
use Rattle.trace_judge.specs.Known.{BehindRight, CourseKnown, IsWithin, PastKnown}
use Rattle.trace_judge.specs.Known as within
use Rattle.trace_judge.specs.Past as past
use Rattle.trace_judge.specs.Tables as tables
use Rattle.trace_judge.proofs.Knowing.{begins, tables_begin}

-- what came, as it is found
pub found : (r : Rules) (j : Judge) (xs : List Coming) → comings.TellsComing r.conf None j.past.pass.ledger.books j.past.pass.sends j.course.here.pass.ledger xs → TellsComing r j xs
found r j xs f x h b p t = f x h b p.pass.ledger.books p.pass.sends t.pass.ledger

-- the outs of a row, behind what was known before it
module _ (r : Rules) (row : Row) (old new : Judge) (begun : Course) (p : Case) (k : Kept) where
  pub runs : p.rules.now ≡ r → p.past.now ≡ old.past → p.row.now ≡ row → course.Begins r.conf row.event old.course begun → TellsComing r (record { past = old.past; course = begun }) p.comings.now
      → course.Runs p row.outs begun new.course k → new.past ≡ old.past → Runs r row old new k
  runs rules its_past its_row b cs f same x right n =
      let c = r.conf in
      let s = r.settings in
      let places = old.past.pass.ledger.books.places in
      let started : CourseKnown c s x (Came row.event ∷ x) places begun = begins c s x row.event places old.course begun right n.here n.exact n.replies n.past.pass.ledger.books.places b in
      let all : AllComing c None x (Came row.event ∷ x) p.comings.now = cs x (Came row.event ∷ x) refl n.past started.here in
      let here : within.Known x (Came row.event ∷ x) p begun = record {
        within = record { before = refl; event = ap (λ (q : Row). q.event.what) (sym its_row); time = ap (λ (q : Row). now (Came q.event ∷ x)) its_row };
        past = subst (λ (q : Rules). PastKnown (q.conf) (q.settings) x p.past.now) (sym rules) (subst (PastKnown c s x) (sym its_past) n.past);
        all = subst (λ (q : Rules). AllComing (q.conf) None x (Came p.row.now.event ∷ x) p.comings.now) (sym rules) (subst (λ (q : Row). AllComing c None x (Came q.event ∷ x) p.comings.now) (sym its_row) all);
        course = subst (λ (q : Rules). CourseKnown (q.conf) (q.settings) x (Came row.event ∷ x) p.past.now.pass.ledger.books.places begun) (sym rules)
            (subst (λ (q : Past). CourseKnown c s x (Came row.event ∷ x) q.pass.ledger.books.places begun) (sym its_past) started);
      } in
      let done = f x (Came row.event ∷ x) here in
      record {
        kept = subst (λ (q : Rules). AreKept q.conf q.settings x row.event.what (after row x) (Came row.event ∷ x) row.outs k) rules
            (subst (λ (q : Row). AreKept p.rules.now.conf p.rules.now.settings x q.event.what (after q x) (Came row.event ∷ x) row.outs k) its_row done.kept);
        past = same;
        course = subst (λ (q : Rules). CourseKnown q.conf q.settings x (after row x) places new.course) rules
            (subst (λ (q : Past). CourseKnown p.rules.now.conf p.rules.now.settings x (after row x) q.pass.ledger.books.places new.course) its_past done.known.course);
      }

-- the same of outs by another name
pub runs_of : (r : Rules) (row : Row) (old new : Judge) (begun : Course) (os : List Out) (k : Kept) (p : Case) → course.Runs p os begun new.course k → os ≡ row.outs → p.rules.now ≡ r → p.past.now ≡ old.past → p.row.now ≡ row → course.Begins r.conf row.event old.course begun
    → TellsComing r (record { past = old.past; course = begun }) p.comings.now → new.past ≡ old.past → Runs r row old new k
runs_of r row old new begun os k p f e a b d g cs same = runs r row old new begun p k a b d g cs (subst (λ os. course.Runs p os begun new.course k) e f) same

-- whether the row is prompt
pub prompt : (r : Rules) (row : Row) (xs : List Coming) (j : Judge) (s : Settings) (b : Bool) → s ≡ r.settings → prompts.TellsPrompt r.conf s j.past.pass.ledger j.past.pass.timers j.past.heard j.course.here.pass.ledger j.course.made row xs b → TellsPrompt r row xs j b
prompt r row xs j s b same f x n =
    let f' = subst (λ s. prompts.TellsPrompt r.conf s j.past.pass.ledger j.past.pass.timers j.past.heard j.course.here.pass.ledger j.course.made row xs b) same f in
    f' x n.past.pass.ledger n.past.pass.timers n.past.heard n.course.here.pass.ledger n.course.made n.all

-- what was known before the row goes over it
past_goes : (c : Conf) (s : Settings) (row : Row) (xs : List Coming) (x : History) (p : Past) (t : Course) → BehindRight c s x → RowRight c s x row → PastKnown c s x p → CourseKnown c s x (after row x) p.pass.ledger.books.places t → AllComing c None x (after row x) xs
    → PastKnown c s (after row x) (past.after_row c s row t.here.pass.ledger t.made xs p)
past_goes c s row xs x p t right is k d cs =
    let l = d.here.pass.ledger in
    let heard = hearing.goes_on.row c x row p.pass.ledger t.here.pass.ledger p.pass.timers t.made xs p.heard k.pass.ledger l k.pass.timers d.made cs k.heard in
    record {
      pass = (passing.goes_on c).row x row p.pass right.asked k.pass;
      heard = heard;
      errors = erring.goes_on.row c s x row p.pass.ledger t.here.pass.ledger p.pass.timers p.heard (past.after_row c s row t.here.pass.ledger t.made xs p).heard t.made xs p.errors is k.pass.ledger l k.pass.timers k.heard heard d.made cs k.errors;
      firsts = arriving.goes_on.row c x row p.pass.ledger t.here.pass.ledger p.pass.timers t.made xs p.firsts k.pass.ledger l k.pass.timers d.made cs k.firsts;
    }

behind : (c : Conf) (s : Settings) (x : History) (row : Row) → RowRight c s x row → BehindRight c s x → BehindRight c s (after row x)
behind c s x row is right = record { asked = right_rows_ask.row c s x row is right.asked; given = giving.goes_on.rows c s x row is right.given }

-- the first clause that is not kept
module _ (c : Conf) (s : Settings) (x : History) (row : Row) (j : Judge) where
  first_is : (m f d o q : Bool) → Tells (Keeps clauses.Messages c s x row.event row) m → Tells (Keeps clauses.Firsts c s x row.event row) f → Tells (Keeps clauses.Causes c s x row.event row) d → Tells (Keeps clauses.Orders c s x row.event row) o → Tells (Keeps clauses.Prompts c s x row.event row) q
      → (KeepsAll c s x row.event row → IsJudged c s x row.event row j None) → IsJudged c s x row.event row j (first_broken (record { messages = m; firsts = f; causes = d; orders = o }) q)
  first_is false f d o q a b e g i goes = (refl, λ u. (let z : false ≡ true = a.1 u in cc))
  first_is true false d o q a b e g i goes = ((refl, a.0 refl), λ u. (let z : false ≡ true = b.1 u in cc))
  first_is true true false o q a b e g i goes = ((refl, a.0 refl, b.0 refl), λ u. (let z : false ≡ true = e.1 u in cc))
  first_is true true true false q a b e g i goes = ((refl, a.0 refl, b.0 refl, e.0 refl), λ u. (let z : false ≡ true = g.1 u in cc))
  first_is true true true true false a b e g i goes = ((refl, a.0 refl, b.0 refl, e.0 refl, g.0 refl), λ u. (let z : false ≡ true = i.1 u in cc))
  first_is true true true true true a b e g i goes = goes each
    where
      each : KeepsAll c s x row.event row
      each clauses.Events = refl
      each clauses.Messages = a.0 refl
      each clauses.Firsts = b.0 refl
      each clauses.Causes = e.0 refl
      each clauses.Orders = g.0 refl
      each clauses.Prompts = i.0 refl

-- a row that keeps all goes by
row_goes : (r : Rules) (row : Row) (mid new : Judge) (xs : List Coming) (x : History) → BehindRight r.conf r.settings x → AtEnd r.conf r.settings row xs x mid → plain.Ends r row xs mid new → KeepsAll r.conf r.settings x row.event row → IsJudged r.conf r.settings x row.event row new None
row_goes r row mid new xs x right a u keeps =
    let is = row_right r.conf r.settings x row.event row keeps in (
      keeps,
      behind r.conf r.settings x row is right,
      record {
        past = subst (PastKnown r.conf r.settings (after row x)) (sym u.past) (past_goes r.conf r.settings row xs x mid.past mid.course right is a.past a.course a.all);
        here = subst (λ (t : Course). tables.Known r.conf (after row x) t.here) (sym u.course) a.course.here;
        exact = ap (λ (t : Course). t.here.loads.exact) u.course ∙ a.course.exact;
        replies = subst (λ (t : Course). replies.Known r.conf r.settings (after row x) t.replies) (sym u.course) a.course.replies;
      },
    )

-- a row is judged, its event not asked
module _ (r : Rules) (row : Row) (old mid new : Judge) (run kept : Kept) (xs : List Coming) (q : Bool) where
  pub judges : Runs r row old mid run → course.TellsEnd r mid.course row.outs run kept → TellsComing r mid xs → TellsPrompt r row xs mid q → plain.Ends r row xs mid new
      → Judges r row.event row old new (first_broken kept q)
  judges f e cs g u x right n =
      let c = r.conf in
      let s = r.settings in
      let d = f x right n in
      let pk : PastKnown c s x mid.past = subst (PastKnown c s x) (sym d.past) n.past in
      let ck : CourseKnown c s x (after row x) mid.past.pass.ledger.books.places mid.course = subst (λ (p : Past). CourseKnown c s x (after row x) p.pass.ledger.books.places mid.course) (sym d.past) d.course in
      let all : AllComing c None x (after row x) xs = cs x (after row x) (before_row row x) pk ck.here in
      let b = e (after row x) ck.here ck.exact in
      let m : Tells (Keeps clauses.Messages c s x row.event row) kept.messages = subst (λ t. Tells (Keeps clauses.Messages c s x row.event row) t) (sym b.messages) d.kept.messages in
      let y : Tells (Keeps clauses.Firsts c s x row.event row) kept.firsts = subst (λ t. Tells (Keeps clauses.Firsts c s x row.event row) t) (sym b.firsts) d.kept.firsts in
      let causes : Tells (Keeps clauses.Causes c s x row.event row) kept.causes =
      (λ z. (let w = b.causes.0 z in record { errors = d.kept.causes.0 w.0; one_fault = w.1 }), λ w. b.causes.1 (d.kept.causes.1 w.errors, w.one_fault)) in
      let orders : Tells (Keeps clauses.Orders c s x row.event row) kept.orders =
      (λ z. (let w = b.orders.0 z in record { outs = d.kept.orders.0 w.0; busy = w.1; places = w.2; marks = w.3 }), λ w. b.orders.1 (d.kept.orders.1 w.outs, w.busy, w.places, w.marks)) in
      let end : AtEnd c s row xs x mid = record { past = pk; course = ck; all = all } in
      first_is c s x row new kept.messages kept.firsts kept.causes kept.orders q m y causes orders (g x end) (row_goes r row mid new xs x right end u)

-- the same with the script's event there
pub another_event : (r : Rules) (e : Event) (row : Row) (old new : Judge) → (row.event ≡ e → ⊥) → Judges r e row old new (Some Events)
another_event r e row old new non x right n = (tt, non)

pub same_event : (r : Rules) (e : Event) (row : Row) (old new : Judge) (o : Option Clause) → row.event ≡ e → Judges r row.event row old new o → Judges r e row old new o
same_event r e row old new o is f = subst (λ e. Judges r e row old new o) is f

-- before the first row
pub judge_begins : (r : Rules) (j : Judge) → plain.IsBegun r j → Known r.conf r.settings [] j
judge_begins r j b = record {
  past = subst (PastKnown r.conf r.settings []) (sym b.past) (record { pass = (passing.goes_on r.conf).begins; heard = hearing.goes_on.begins r.conf; errors = erring.goes_on.begins r.conf r.settings; firsts = arriving.goes_on.begins r.conf });
  here = subst (tables.Known r.conf []) (sym b.course.here) (tables_begin r.conf r.defers_nothing);
  exact = ap (λ (t : Tables). t.loads.exact) b.course.here ∙ r.exact_is;
  replies = subst (replies.Known r.conf r.settings []) (sym b.course.replies) (giving.goes_on.begins r.conf r.settings);
}

pub nothing_behind : (c : Conf) (s : Settings) → BehindRight c s []
nothing_behind c s = record { asked = right_rows_ask.begins; given = λ k x n g. absurd g }
