-- What the program says of the texts of a script and of a trace.
use Rattle.std.specs.Prelude.{◌≡◌, ◌⊎◌, ◌<◌, ◌≤◌, ◌++◌, ℕ, true, false, List, [], length, Option, Some, None, Result, Ok, Err, IfSome}
use Rattle.std.specs.declared.alloc.Global.{Global}
use Rattle.std.specs.declared.vec.Vec.{Vec}
use Rattle.client_request.specs.declared.event.Row.{Row}
use Rattle.command_parts.specs.Ends.{IsSaid}
use Rattle.dns_values.specs.Source.{Rose}
use Rattle.dns_script.specs.ScriptReading.{IsScript, RefusesLine}
use Rattle.dns_script.specs.TraceReading.{IsTrace, RefusesTraceLine}
use Rattle.dns_script.specs.declared.script.Script.{Script}
use Rattle.trace_judge.specs.clauses.Verdicts.{IsVerdict}
use Rattle.trace_judge.specs.script.Judged.{conf_of, settings_of}
use Rattle.trace_judge.specs.Verdict.{first_lane, verdict_of}
use Rattle.trace_judge.specs.declared.verdict.Clause.{Clause}
use Rattle.trace_judge.specs.declared.verdict.Verdict.TheVariants.{Right, Wrong}
use Rattle.trace_hits.specs.timely.Timely.{IsUntimely}
use Rattle.trace_audit_run.specs.declared.missed.Missed.{Missed}
use Rattle.trace_audit_run.specs.declared.stop.{Stop.Stop, Text.Text}
use Rattle.trace_audit_run.specs.declared.stop.Stop.TheVariants.{Line, Long, NoMemory, Unread}
use Rattle.trace_audit_run.specs.declared.stop.Text.TheVariants as texts
use Rattle.trace_audit_run.specs.declared.texts.Answer.{Answer}
use Rattle.trace_audit_run.specs.declared.words.Asked.{Asked}
use Rattle.trace_audit_run.specs.Missed.{IsMissed, nothing}
use Rattle.trace_audit_run.specs.Lines.{explained_if, missed_hit_line, missed_stale_line, script_line, trace_line, untimely_line, wrong_line}
use Rattle.trace_audit_run.specs.Lines as lines

abbrev pub long_line : List ℕ
long_line = lines.long_line

-- the octets of a text that has at most so many, or that it has more
abbrev pub IsRead : (most : ℕ) → (text : List ℕ) → Option (Vec ℕ Global) → Type 0
IsRead most text None = most < length text
IsRead most text (Some v) = (v.items ≡ text) × (length text ≤ most)

-- a text can't be read, whose count of faults rose, or memory ran out
abbrev pub IsUnread : Text → (faults faults_after : ℕ) → Stop → Type 0
IsUnread text faults faults_after (Unread that) = (that ≡ text) × Rose faults faults_after
IsUnread text faults faults_after NoMemory = Unit {0}
IsUnread text faults faults_after (Long that) = ⊥
IsUnread text faults faults_after (Line that n) = ⊥

-- a line of the script is refused, or memory ran out
abbrev pub RefusesScript : (text : List ℕ) → Stop → Type 0
RefusesScript text (Line texts.Script n) = RefusesLine false text n
RefusesScript text (Line texts.Trace n) = ⊥
RefusesScript text NoMemory = Unit {0}
RefusesScript text (Long that) = ⊥
RefusesScript text (Unread that) = ⊥

-- or one of the trace
abbrev pub RefusesTrace : (text : List ℕ) → Stop → Type 0
RefusesTrace text (Line texts.Trace n) = RefusesTraceLine text n
RefusesTrace text (Line texts.Script n) = ⊥
RefusesTrace text NoMemory = Unit {0}
RefusesTrace text (Long that) = ⊥
RefusesTrace text (Unread that) = ⊥

-- what is said of the rows of a trace by a script: its verdict, which row is the first that is not timely, what a right one misses, and what is missing at the row that is told, where that is asked
pub record IsAnswer (asked : Asked) (script : Script) (rows : List Row) (said : Answer) : Type 0 where
  pub verdict : IsVerdict (verdict_of said.verdict) (conf_of script.conf script.transports) (settings_of script.redundant script.cache) [] (first_lane script.lanes) rows
  pub timely : asked.timely ≡ true → IsUntimely said.untimely (conf_of script.conf script.transports) [] rows
  pub unasked : asked.timely ≡ false → said.untimely ≡ None
  pub missed : asked.missed ≡ true → said.verdict ≡ Right → IsMissed script rows said.missed
  pub unmissed : asked.missed ≡ false → said.missed ≡ nothing
  pub missing : said.missing.items ≡ explained_if asked.explain said.verdict said.untimely rows

-- what is said of the text of a trace by a script
pub record IsJudged (asked : Asked) (script : Script) (text : List ℕ) (said : Answer) : Type 0 where
  pub rows : List Row
  pub is_trace : IsTrace text rows
  pub answer : IsAnswer asked script rows said

-- The texts are a script and a trace, neither too long, and this is said of the trace.
pub record IsAudited (asked : Asked) (a b : List ℕ) (said : Answer) : Type 0 where
  pub script_fits : length a ≤ 16777216
  pub script : Script
  pub is_script : IsScript false a script
  pub trace_fits : length b ≤ 1073741824
  pub judged : IsJudged asked script b said

-- One of the texts is not taken, and this line says why; the trace is looked at only where the script is taken.
pub data IsRefused (a b line : List ℕ) : Type 0 where
  long_script : 16777216 < length a → line ≡ long_line → IsRefused a b line
  bad_script : (n : ℕ) → length a ≤ 16777216 → RefusesLine false a n → line ≡ script_line n → IsRefused a b line
  long_trace : (script : Script) → length a ≤ 16777216 → IsScript false a script → 1073741824 < length b → line ≡ long_line → IsRefused a b line
  bad_trace : (script : Script) (n : ℕ) → length a ≤ 16777216 → IsScript false a script → length b ≤ 1073741824 → RefusesTraceLine b n → line ≡ trace_line n → IsRefused a b line

-- The script is taken.
pub record IsTaken (a : List ℕ) : Type 0 where
  pub fits : length a ≤ 16777216
  pub script : Script
  pub is_script : IsScript false a script

-- why nothing is said: a text is too long, or a line of it is refused; the trace is looked at only where the script is taken
abbrev pub IsStop : (a b : List ℕ) → Stop → Type 0
IsStop a b (Long texts.Script) = 16777216 < length a
IsStop a b (Line texts.Script n) = (length a ≤ 16777216) × RefusesLine false a n
IsStop a b (Long texts.Trace) = IsTaken a × (1073741824 < length b)
IsStop a b (Line texts.Trace n) = IsTaken a × ((length b ≤ 1073741824) × RefusesTraceLine b n)
IsStop a b (Unread text) = Unit {0}
IsStop a b NoMemory = Unit {0}

-- The text at which it stopped, if it could not be read, has a count of faults that rose.
abbrev pub RoseAt : (faults faults_after of_trace of_trace_after : ℕ) → Stop → Type 0
RoseAt faults faults_after of_trace of_trace_after (Unread texts.Script) = Rose faults faults_after
RoseAt faults faults_after of_trace of_trace_after (Unread texts.Trace) = Rose of_trace of_trace_after
RoseAt faults faults_after of_trace of_trace_after (Long text) = Unit {0}
RoseAt faults faults_after of_trace of_trace_after (Line text n) = Unit {0}
RoseAt faults faults_after of_trace of_trace_after NoMemory = Unit {0}

-- It stopped at texts that were read.
abbrev pub IsNoFault : Stop → Type 0
IsNoFault (Unread text) = ⊥
IsNoFault (Long text) = Unit {0}
IsNoFault (Line text n) = Unit {0}
IsNoFault NoMemory = Unit {0}

abbrev pub IsResult : (asked : Asked) (a b : List ℕ) → Result Answer Stop → Type 0
IsResult asked a b (Ok said) = IsAudited asked a b said
IsResult asked a b (Err stop) = IsStop a b stop

-- of each two texts that were read so
abbrev pub Answers : (asked : Asked) (script trace : Option (Vec ℕ Global)) → Result Answer Stop → Type 0
Answers asked script trace r = (a b : List ℕ) → IsRead 16777216 a script → IsRead 1073741824 b trace → IsResult asked a b r

-- of each trace that was read so, by a script that was taken
abbrev pub JudgesIn : (asked : Asked) (script : Script) (trace : Option (Vec ℕ Global)) → Result Answer Stop → Type 0
JudgesIn asked script trace r = (a b : List ℕ) → length a ≤ 16777216 → IsScript false a script → IsRead 1073741824 b trace → IsResult asked a b r

-- what holds of the texts that two sources give, where that is told
abbrev pub over : {S T : Type 0} → (S → Option (List ℕ)) → (T → Option (List ℕ)) → S → T → (List ℕ → List ℕ → Type 0) → Type 0
over left left' script trace P = IfSome (left script) (λ a. IfSome (left' trace) (λ b. P a b))

-- nothing is missed
pub record MissesNone (m : Missed) : Type 0 where
  pub hit : m.hit ≡ None
  pub stale : m.stale ≡ None

-- the trace is right, and no row is told that is not timely or misses anything
pub record IsGood (said : Answer) : Type 0 where
  pub verdict : said.verdict ≡ Right
  pub timely : said.untimely ≡ None
  pub missed : MissesNone said.missed

-- It is said where a hit is missed, or else an expired answer.
pub data MissedIsSaid (m : Missed) (before after : Option (List ℕ)) (faults faults_after : ℕ) : Type 0 where
  IsHit : (row : ℕ) → m.hit ≡ Some row → IsSaid (missed_hit_line row) before after faults faults_after → MissedIsSaid m before after faults faults_after
  IsStale : (row : ℕ) → m.hit ≡ None → m.stale ≡ Some row → IsSaid (missed_stale_line row) before after faults faults_after → MissedIsSaid m before after faults faults_after

-- It is said in which clause the trace is wrong, and where; or where it is not timely; and behind it what is missing there; or where a right and timely one misses a hit, or else an expired answer.
pub data NoIsSaid (said : Answer) (before after : Option (List ℕ)) (faults faults_after : ℕ) : Type 0 where
  IsWrong : (clause : Clause) (row : ℕ) → said.verdict ≡ Wrong clause row → IsSaid (wrong_line clause row ++ said.missing.items) before after faults faults_after → NoIsSaid said before after faults faults_after
  IsLate : (row : ℕ) → said.verdict ≡ Right → said.untimely ≡ Some row → IsSaid (untimely_line row ++ said.missing.items) before after faults faults_after → NoIsSaid said before after faults faults_after
  IsMissing : said.verdict ≡ Right → said.untimely ≡ None → MissedIsSaid said.missed before after faults faults_after → NoIsSaid said before after faults faults_after

-- The trace is right, and timely and misses nothing where that is asked.
pub record IsRight (asked : Asked) (a b : List ℕ) : Type 0 where
  pub answer : Answer
  pub audited : IsAudited asked a b answer
  pub good : IsGood answer

-- The trace is not so, and it is said where.
pub record SaysNo (asked : Asked) (a b : List ℕ) (before after : Option (List ℕ)) (faults faults_after : ℕ) : Type 0 where
  pub answer : Answer
  pub audited : IsAudited asked a b answer
  pub said : NoIsSaid answer before after faults faults_after

-- A text is refused, and it is said why.
pub record RefusalIsSaid (a b : List ℕ) (before after : Option (List ℕ)) (faults faults_after : ℕ) : Type 0 where
  pub line : List ℕ
  pub refused : IsRefused a b line
  pub said : IsSaid line before after faults faults_after
