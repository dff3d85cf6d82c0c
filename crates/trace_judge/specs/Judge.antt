-- A row, judged behind rows that are right.
use Rattle.std.specs.Prelude.{◌≡◌, ◌∷◌, Bool, List, Option, Some, None, if◌then◌else◌}
use Rattle.client_request.specs.declared.event.{Event.Event, Row.Row}
use Rattle.right_trace.specs.Trace.{History, Conf, Came, after}
use Rattle.right_trace.specs.{Time.row_before, Right.Prompt}
use Rattle.right_trace.specs.Settings.{Settings, defers_nothing}
use Rattle.trace_points.specs.declared.exchanges.coming.Coming.{Coming}
use Rattle.trace_points.specs.exchanges.Coming.{AllComing}
use Rattle.trace_points.specs.questions.Outs.{Tells}
use Rattle.trace_replies.specs.given.Earlier as replies
use Rattle.trace_judge.specs.clauses.Verdicts.{KeepsAll, BreaksFirst}
use Rattle.trace_judge.specs.declared.judge.Judge.{Judge}
use Rattle.trace_judge.specs.declared.outs.Kept.{Kept}
use Rattle.trace_judge.specs.declared.rules.Rules.{Rules}
use Rattle.trace_judge.specs.declared.verdict.Clause.{Clause}
use Rattle.trace_judge.specs.declared.verdict.Clause.TheVariants.{Messages, Firsts, Causes, Orders, Prompts}
use Rattle.trace_judge.specs.{Course.AreKept, Verdict.clause_of}
use Rattle.trace_judge.specs.Course as course
use Rattle.trace_judge.specs.Known.{BehindRight, PastKnown, CourseKnown}
use Rattle.trace_judge.specs.Past as past
use Rattle.trace_judge.specs.Tables as tables

-- what is known between rows
pub record Known (c : Conf) (s : Settings) (x : History) (j : Judge) : Type 0 where
  pub past : PastKnown c s x j.past
  pub here : tables.Known c x j.course.here
  pub exact : j.course.here.loads.exact ≡ defers_nothing s
  pub replies : replies.Known c s x j.course.replies

-- before the first row
pub record IsBegun (r : Rules) (j : Judge) : Type 0 where
  pub past : j.past ≡ past.nothing
  pub course : course.IsBegun r.defers_nothing j.course

-- the first clause that is not kept, but for a row's event
abbrev pub first_broken : Kept → (prompt : Bool) → Option Clause
first_broken k prompt =
    if k.messages then (if k.firsts then (if k.causes then (if k.orders then (if prompt then None
    else Some Prompts) else Some Orders) else Some Causes) else Some Firsts) else Some Messages

abbrev pub TellsComing : Rules → Judge → List Coming → Type 0
TellsComing r j xs = (x h : History) → row_before h ≡ x → PastKnown r.conf r.settings x j.past → tables.Known r.conf h j.course.here → AllComing r.conf None x h xs

-- the outs of a row are judged and put
pub record HasRun (c : Conf) (s : Settings) (row : Row) (old new : Judge) (k : Kept) (x : History) : Type 0 where
  pub kept : AreKept c s x row.event.what (after row x) (Came row.event ∷ x) row.outs k
  pub past : new.past ≡ old.past
  pub course : CourseKnown c s x (after row x) old.past.pass.ledger.books.places new.course

abbrev pub Runs : Rules → Row → (old new : Judge) → Kept → Type 0
Runs r row old new k = (x : History) → BehindRight r.conf r.settings x → Known r.conf r.settings x old → HasRun r.conf r.settings row old new k x

-- when a row's outs are put
pub record AtEnd (c : Conf) (s : Settings) (row : Row) (xs : List Coming) (x : History) (j : Judge) : Type 0 where
  pub past : PastKnown c s x j.past
  pub course : CourseKnown c s x (after row x) j.past.pass.ledger.books.places j.course
  pub all : AllComing c None x (after row x) xs

abbrev pub TellsPrompt : Rules → Row → List Coming → Judge → Bool → Type 0
TellsPrompt r row xs j b = (x : History) → AtEnd r.conf r.settings row xs x j → Tells (Prompt r.conf r.settings x row) b

-- what was known before a row goes over it
pub record Ends (r : Rules) (row : Row) (xs : List Coming) (old new : Judge) : Type 0 where
  pub course : new.course ≡ old.course
  pub past : new.past ≡ past.after_row r.conf r.settings row old.course.here.pass.ledger old.course.made xs old.past

-- a row is judged
abbrev pub IsJudged : Conf → Settings → (x : History) → Event → Row → Judge → Option Clause → Type 0
IsJudged c s x e row j None = KeepsAll c s x e row × BehindRight c s (after row x) × Known c s (after row x) j
IsJudged c s x e row j (Some cl) = BreaksFirst (clause_of cl) c s x e row

abbrev pub Judges : Rules → Event → Row → (old new : Judge) → Option Clause → Type 0
Judges r e row old new o = (x : History) → BehindRight r.conf r.settings x → Known r.conf r.settings x old → IsJudged r.conf r.settings x e row new o
