-- What is known before a row, and at a point within one.
use Rattle.std.specs.Prelude.{◌≡◌, ℕ, ◌∷◌, List, Option, Some, None}
use Rattle.client_request.specs.declared.event.{Out.TheVariants.Stale, Row.Row, What.What}
use Rattle.right_trace.specs.Trace.{History, Conf, Came, Put}
use Rattle.right_trace.specs.Time.{now, newest, row_before}
use Rattle.right_trace.specs.Settings.{Settings, defers_nothing}
use Rattle.trace_tables.specs.declared.places.Place.{Place}
use Rattle.trace_tables.specs.frames.Here as here_outs
use Rattle.trace_points.specs.exchanges.{Asked.AskedFirst, Coming.AllComing}
use Rattle.trace_points.specs.questions.Outs.{Tells}
use Rattle.trace_errors.specs.promptness.Heard as heards
use Rattle.trace_points.specs.pass.Pass as pass
use Rattle.trace_errors.specs.Earlier as errors
use Rattle.trace_replies.specs.firsts.Firsts as firsts
use Rattle.trace_replies.specs.given.Earlier.{EachWasAsked}
use Rattle.trace_replies.specs.given.Earlier as replies
use Rattle.trace_replies.specs.messages.Message.{FailsHere}
use Rattle.trace_judge.specs.declared.past.Past.{Past}
use Rattle.trace_judge.specs.declared.case.{Case.Case, Mark.Mark}
use Rattle.trace_judge.specs.declared.course.Course.{Course}
use Rattle.trace_judge.specs.Tables as tables

-- `x` is what happened before the row, and `h` what happened up to a point within it.

-- what holds of rows that are right so far, and of which what is kept makes use
pub record BehindRight (c : Conf) (s : Settings) (x : History) : Type 0 where
  pub asked : AskedFirst x
  pub given : EachWasAsked c s x

-- before a row
pub record PastKnown (c : Conf) (s : Settings) (x : History) (p : Past) : Type 0 where
  pub pass : pass.Known c x p.pass
  pub heard : heards.Known c x p.heard
  pub errors : errors.Known c s x p.errors
  pub firsts : firsts.Known c x p.firsts

-- the mark was put last, and says whether a result of its request fails there
pub record IsMark (c : Conf) (s : Settings) (k : ℕ) (x h before : History) (m : Option Mark) : Type 0 where
  pub mark : Mark
  pub is : m ≡ Some mark
  pub request : mark.request ≡ k
  pub fails : Tells (FailsHere c s k x (newest h) before) mark.fails

abbrev pub MarkKnown : Conf → Settings → (x h : History) → Option Mark → Type 0
MarkKnown c s x h m = (k : ℕ) (before : History) → h ≡ (Put (Stale k) ∷ before) → IsMark c s k x h before m

-- a point within a row
pub record IsWithin (row : Row) (x h : History) : Type 0 where
  pub before : row_before h ≡ x
  pub event : newest h ≡ row.event.what
  pub time : now (Came row.event ∷ x) ≡ now h

-- what is known at a point
pub record CourseKnown (c : Conf) (s : Settings) (x h : History) (places : List (ℕ × Place)) (t : Course) : Type 0 where
  pub here : tables.Known c h t.here
  pub exact : t.here.loads.exact ≡ defers_nothing s
  pub replies : replies.Known c s h t.replies
  pub made : here_outs.Known places h t.made
  pub mark : MarkKnown c s x h t.mark

abbrev pub conf_in : Case → Conf
conf_in p = p.rules.now.conf

abbrev pub settings_in : Case → Settings
settings_in p = p.rules.now.settings

abbrev pub event_in : Case → What
event_in p = p.row.now.event.what

-- what is known of a row that is judged, at a point within it
pub record Known (x h : History) (p : Case) (t : Course) : Type 0 where
  pub within : IsWithin p.row.now x h
  pub past : PastKnown (conf_in p) (settings_in p) x p.past.now
  pub all : AllComing (conf_in p) None x (Came p.row.now.event ∷ x) p.comings.now
  pub course : CourseKnown (conf_in p) (settings_in p) x h p.past.now.pass.ledger.books.places t
