-- What is answered of the texts of a script and of a trace.
use Rattle.std.proofs.Common.{arith, ◌≡◌, ◌≢◌, ◌⊎◌, inl, inr, ℕ, List, Option, Some, None, Result, Ok, Err, IfOk, IfErr, IfSome, MatchResult, ◌++◌, false, refl, sym, subst}
use Rattle.std.specs.declared.alloc.Global.{Global}
use Rattle.std.specs.declared.vec.Vec.{Vec}
use Rattle.command_parts.specs.Ends.{IsSaid}
use Rattle.dns_values.specs.Source.{Rose}
use Rattle.dns_script.specs.ScriptReading.{IsScript, RefusesLine}
use Rattle.dns_script.specs.TraceReading.{RefusesTraceLine}
use Rattle.dns_script.specs.declared.script.Script.{Script}
use Rattle.trace_audit_run.specs.declared.stop.{Stop.Stop, Text.Text}
use Rattle.trace_audit_run.specs.declared.stop.Stop.TheVariants.{Line, Long, NoMemory, Unread}
use Rattle.trace_audit_run.specs.declared.stop.Text.TheVariants as texts
use Rattle.trace_audit_run.specs.declared.texts.Answer.{Answer}
use Rattle.trace_audit_run.specs.declared.words.Asked.{Asked}
use Rattle.trace_audit_run.specs.Lines.{untimely_line, wrong_line}
use Rattle.trace_audit_run.specs.Stops.{Tells, line_of, status_of}
use Rattle.trace_judge.specs.declared.verdict.Clause.{Clause}
use Rattle.trace_judge.specs.declared.verdict.Verdict.TheVariants.{Right, Wrong}
use Rattle.trace_audit_run.specs.Program.{Answers, IsAudited, IsGood, IsJudged, IsLate, IsMissing, IsNoFault, IsRefused, IsRight, IsStop, IsUnread, IsWrong, JudgesIn, MissedIsSaid, NoIsSaid, RoseAt, SaysNo, IsRead, RefusalIsSaid, RefusesScript, RefusesTrace, bad_script, bad_trace, long_script, long_trace}

module _ (d : Asked) where
  for_long_script : (t : Option (Vec ℕ Global)) → Answers d None t (Err (Long texts.Script))
  for_long_script t a b long read = long

  for_bad_script : (v : Vec ℕ Global) (t : Option (Vec ℕ Global)) (stop : Stop) → RefusesScript v.items stop → Answers d (Some v) t (Err stop)
  for_bad_script v t (Line texts.Script n) r a b is read = (is.1, subst (λ (text : List ℕ). RefusesLine false text n) is.0 r)
  for_bad_script v t (Line texts.Trace n) r a b is read = absurd r
  for_bad_script v t NoMemory r a b is read = tt
  for_bad_script v t (Long that) r a b is read = absurd r
  for_bad_script v t (Unread that) r a b is read = absurd r

  for_taken : (v : Vec ℕ Global) (t : Option (Vec ℕ Global)) (script : Script) (r : Result Answer Stop) → IsScript false v.items script → JudgesIn d script t r → Answers d (Some v) t r
  for_taken v t script r s j a b is read = j a b is.1 (subst (λ (text : List ℕ). IsScript false text script) is.0 s) read

  for_long_trace : (script : Script) → JudgesIn d script None (Err (Long texts.Trace))
  for_long_trace script a b fits s long = (record { fits = fits; script = script; is_script = s }, long)

  for_trace : (w : Vec ℕ Global) (script : Script) (r : Result Answer Stop) → MatchResult r (IsJudged d script w.items) (RefusesTrace w.items) → JudgesIn d script (Some w) r
  for_trace w script (Ok y) j a b fits s read = record {
    script_fits = fits;
    script = script;
    is_script = s;
    trace_fits = read.1;
    judged = subst (λ (text : List ℕ). IsJudged d script text y) read.0 j;
  }
  for_trace w script (Err (Line texts.Trace n)) r a b fits s read = (record { fits = fits; script = script; is_script = s }, (read.1, subst (λ (text : List ℕ). RefusesTraceLine text n) read.0 r))
  for_trace w script (Err (Line texts.Script n)) r a b fits s read = absurd r
  for_trace w script (Err NoMemory) r a b fits s read = tt
  for_trace w script (Err (Long that)) r a b fits s read = absurd r
  for_trace w script (Err (Unread that)) r a b fits s read = absurd r

  -- the same of texts as they are seen where they are judged
  pub script_is_long : (o t : Option (Vec ℕ Global)) → o ≡ None → Answers d o t (Err (Long texts.Script))
  script_is_long o t is = subst (λ (u : Option (Vec ℕ Global)). Answers d u t (Err (Long texts.Script))) (sym is) (for_long_script t)

  pub script_is_bad : (o t : Option (Vec ℕ Global)) (v : Vec ℕ Global) (text : List ℕ) (stop : Stop) → o ≡ Some v → text ≡ v.items → RefusesScript text stop → Answers d o t (Err stop)
  script_is_bad o t v text stop is same r =
      subst (λ (u : Option (Vec ℕ Global)). Answers d u t (Err stop)) (sym is) (for_bad_script v t stop (subst (λ (x : List ℕ). RefusesScript x stop) same r))

  pub script_is_taken : (o t : Option (Vec ℕ Global)) (v : Vec ℕ Global) (text : List ℕ) (script : Script) (r : Result Answer Stop) → o ≡ Some v → text ≡ v.items → IsScript false text script → JudgesIn d script t r → Answers d o t r
  script_is_taken o t v text script r is same s j =
      subst (λ (u : Option (Vec ℕ Global)). Answers d u t r) (sym is) (for_taken v t script r (subst (λ (x : List ℕ). IsScript false x script) same s) j)

  pub trace_is_long : (t : Option (Vec ℕ Global)) (script : Script) → t ≡ None → JudgesIn d script t (Err (Long texts.Trace))
  trace_is_long t script is = subst (λ (u : Option (Vec ℕ Global)). JudgesIn d script u (Err (Long texts.Trace))) (sym is) (for_long_trace script)

  pub trace_is_read : (t : Option (Vec ℕ Global)) (w : Vec ℕ Global) (other : List ℕ) (script : Script) (r : Result Answer Stop) → t ≡ Some w → other ≡ w.items
      → MatchResult r (IsJudged d script other) (RefusesTrace other) → JudgesIn d script t r
  trace_is_read t w other script r is same j =
      subst (λ (u : Option (Vec ℕ Global)). JudgesIn d script u r) (sym is) (for_trace w script r (subst (λ (x : List ℕ). MatchResult r (IsJudged d script x) (RefusesTrace x)) same j))

  trace_no_fault : (text : List ℕ) (stop : Stop) → RefusesTrace text stop → IsNoFault stop
  trace_no_fault text (Line that n) r = tt
  trace_no_fault text NoMemory r = tt
  trace_no_fault text (Long that) r = tt
  trace_no_fault text (Unread that) r = r

  -- how it ends where a trace is refused
  pub judged_no_fault : (script : Script) (text : List ℕ) (r : Result Answer Stop) → MatchResult r (IsJudged d script text) (RefusesTrace text) → IfErr r IsNoFault
  judged_no_fault script text (Ok v) j = tt
  judged_no_fault script text (Err stop) r = trace_no_fault text stop r

-- or a script is
pub script_no_fault : (text : List ℕ) (stop : Stop) → RefusesScript text stop → IsNoFault stop
script_no_fault text (Line that n) r = tt
script_no_fault text NoMemory r = tt
script_no_fault text (Long that) r = tt
script_no_fault text (Unread that) r = r

-- ---- texts that can't be read

no_stop : (text : Text) (f f' : ℕ) (a b : List ℕ) (stop : Stop) → IsUnread text f f' stop → IsStop a b stop
no_stop text f f' a b (Unread that) u = tt
no_stop text f f' a b NoMemory u = tt
no_stop text f f' a b (Long that) u = absurd u
no_stop text f f' a b (Line that n) u = absurd u

pub unread_stops : (text : Text) (f f' : ℕ) (told told' : Option (List ℕ)) (stop : Stop) → IsUnread text f f' stop → IfSome told (λ a. IfSome told' (λ b. IsStop a b stop))
unread_stops text f f' None told' stop u = tt
unread_stops text f f' (Some a) None stop u = tt
unread_stops text f f' (Some a) (Some b) stop u = no_stop text f f' a b stop u

pub script_rose : (f f' g g' : ℕ) (stop : Stop) → IsUnread texts.Script f f' stop → RoseAt f f' g g' stop
script_rose f f' g g' (Unread that) u = subst (λ (t : Text). RoseAt f f' g g' (Unread t)) (sym u.0) u.1
script_rose f f' g g' NoMemory u = tt
script_rose f f' g g' (Long that) u = tt
script_rose f f' g g' (Line that n) u = tt

pub trace_rose : (f f' g g' : ℕ) (stop : Stop) → IsUnread texts.Trace g g' stop → RoseAt f f' g g' stop
trace_rose f f' g g' (Unread that) u = subst (λ (t : Text). RoseAt f f' g g' (Unread t)) (sym u.0) u.1
trace_rose f f' g g' NoMemory u = tt
trace_rose f f' g g' (Long that) u = tt
trace_rose f f' g g' (Line that n) u = tt

none_rose : (f f' g g' : ℕ) (stop : Stop) → IsNoFault stop → RoseAt f f' g g' stop
none_rose f f' g g' (Unread that) h = absurd h
none_rose f f' g g' NoMemory h = tt
none_rose f f' g g' (Long that) h = tt
none_rose f f' g g' (Line that n) h = tt

pub judged_rose : (f f' g g' : ℕ) (r : Result Answer Stop) → IfErr r IsNoFault → IfErr r (RoseAt f f' g g')
judged_rose f f' g g' (Ok v) h = tt
judged_rose f f' g g' (Err stop) h = none_rose f f' g g' stop h

-- ---- texts that were read

both_read : (told told' : Option (List ℕ)) (o o' : Option (Vec ℕ Global)) (P : List ℕ → List ℕ → Type 0) → IfSome told (λ text. IsRead 16777216 text o) → IfSome told' (λ text. IsRead 1073741824 text o') → ((a b : List ℕ) → IsRead 16777216 a o → IsRead 1073741824 b o' → P a b) → IfSome told (λ a. IfSome told' (λ b. P a b))
both_read None told' o o' P r r' f = tt
both_read (Some a) None o o' P r r' f = tt
both_read (Some a) (Some b) o o' P r r' f = f a b r r'

module _ (d : Asked) where
  pub done : (told told' : Option (List ℕ)) (o o' : Option (Vec ℕ Global)) (r : Result Answer Stop) → IfSome told (λ text. IsRead 16777216 text o) → IfSome told' (λ text. IsRead 1073741824 text o') → Answers d o o' r
      → IfOk r (λ v. IfSome told (λ a. IfSome told' (λ b. IsAudited d a b v)))
  done told told' o o' (Ok v) r r' f = both_read told told' o o' (λ a b. IsAudited d a b v) r r' f
  done told told' o o' (Err stop) r r' f = tt

  pub stopped : (told told' : Option (List ℕ)) (o o' : Option (Vec ℕ Global)) (r : Result Answer Stop) → IfSome told (λ text. IsRead 16777216 text o) → IfSome told' (λ text. IsRead 1073741824 text o') → Answers d o o' r
      → IfErr r (λ stop. IfSome told (λ a. IfSome told' (λ b. IsStop a b stop)))
  stopped told told' o o' (Ok v) r r' f = tt
  stopped told told' o o' (Err stop) r r' f = both_read told told' o o' (λ a b. IsStop a b stop) r r' f

-- ---- a stop that was said

module _ (h h' : Option (List ℕ)) (f f' n : ℕ) where
  one_is_said : (a b : List ℕ) (stop : Stop) → IsStop a b stop → (n ≡ status_of stop) ⊎ (n ≡ 6) → (n ≢ 6 → Tells (line_of stop) h h' f f') → n ≡ 1 → RefusalIsSaid a b h h' f f'
  one_is_said a b stop is (inr six) tells one = absurd (omega arith)
  one_is_said a b (Long texts.Script) is (inl same) tells one = record { line = line_of (Long texts.Script); refused = long_script is refl; said = tells (λ six. omega arith) }
  one_is_said a b (Long texts.Trace) is (inl same) tells one = record { line = line_of (Long texts.Trace); refused = long_trace is.0.script is.0.fits is.0.is_script is.1 refl; said = tells (λ six. omega arith) }
  one_is_said a b (Line texts.Script m) is (inl same) tells one = record { line = line_of (Line texts.Script m); refused = bad_script m is.0 is.1 refl; said = tells (λ six. omega arith) }
  one_is_said a b (Line texts.Trace m) is (inl same) tells one = record { line = line_of (Line texts.Trace m); refused = bad_trace is.0.script m is.0.fits is.0.is_script is.1.0 is.1.1 refl; said = tells (λ six. omega arith) }
  one_is_said a b (Unread text) is (inl same) tells one = absurd (omega arith)
  one_is_said a b NoMemory is (inl same) tells one = absurd (omega arith)

  pub refusal_is_said : (told told' : Option (List ℕ)) (stop : Stop) → IfSome told (λ a. IfSome told' (λ b. IsStop a b stop)) → (n ≡ status_of stop) ⊎ (n ≡ 6) → (n ≢ 6 → Tells (line_of stop) h h' f f')
      → n ≡ 1 → IfSome told (λ a. IfSome told' (λ b. RefusalIsSaid a b h h' f f'))
  refusal_is_said None told' stop is st tells one = tt
  refusal_is_said (Some a) None stop is st tells one = tt
  refusal_is_said (Some a) (Some b) stop is st tells one = one_is_said a b stop is st tells one

  pub three_is_silent : (stop : Stop) → (n ≡ status_of stop) ⊎ (n ≡ 6) → (n ≢ 6 → Tells (line_of stop) h h' f f') → n ≡ 3 → h' ≡ h
  three_is_silent stop (inr six) tells three = absurd (omega arith)
  three_is_silent (Unread text) (inl same) tells three = tells (λ six. omega arith)
  three_is_silent (Long text) (inl same) tells three = absurd (omega arith)
  three_is_silent (Line text m) (inl same) tells three = absurd (omega arith)
  three_is_silent NoMemory (inl same) tells three = absurd (omega arith)

pub one_rose : (f f' g g' n : ℕ) (stop : Stop) → RoseAt f f' g g' stop → (n ≡ status_of stop) ⊎ (n ≡ 6) → n ≡ 3 → Rose f f' ⊎ Rose g g'
one_rose f f' g g' n stop rose (inr six) three = absurd (omega arith)
one_rose f f' g g' n (Unread texts.Script) rose (inl same) three = inl rose
one_rose f f' g g' n (Unread texts.Trace) rose (inl same) three = inr rose
one_rose f f' g g' n (Long text) rose (inl same) three = absurd (omega arith)
one_rose f f' g g' n (Line text m) rose (inl same) three = absurd (omega arith)
one_rose f f' g g' n NoMemory rose (inl same) three = absurd (omega arith)

-- a line of usage that was said
pub usage_is_said : (line shown : List ℕ) (result : ℕ) (h h' : Option (List ℕ)) (f f' : ℕ) → shown ≡ line → (result ≢ 6 → IsSaid shown h h' f f') → result ≡ 2 → IsSaid line h h' f f'
usage_is_said line shown result h h' f f' same said two = subst (λ (x : List ℕ). IsSaid x h h' f f') same (said (λ six. omega arith))

-- what is told of a trace that is not right, or not timely
pub wrong_is_said : (said : Answer) (clause : Clause) (row : ℕ) (shown : List ℕ) (h h' : Option (List ℕ)) (f f' : ℕ) → said.verdict ≡ Wrong clause row → shown ≡ said.missing.items → IsSaid (wrong_line clause row ++ shown) h h' f f' → NoIsSaid said h h' f f'
wrong_is_said said clause row shown h h' f f' is same s = IsWrong clause row is (subst (λ (x : List ℕ). IsSaid (wrong_line clause row ++ x) h h' f f') same s)

pub late_is_said : (said : Answer) (row : ℕ) (shown : List ℕ) (h h' : Option (List ℕ)) (f f' : ℕ) → said.verdict ≡ Right → said.untimely ≡ Some row → shown ≡ said.missing.items → IsSaid (untimely_line row ++ shown) h h' f f' → NoIsSaid said h h' f f'
late_is_said said row shown h h' f f' is late same s = IsLate row is late (subst (λ (x : List ℕ). IsSaid (untimely_line row ++ x) h h' f f') same s)

pub missing_is_said : (said : Answer) (h h' : Option (List ℕ)) (f f' : ℕ) → said.verdict ≡ Right → said.untimely ≡ None → MissedIsSaid said.missed h h' f f' → NoIsSaid said h h' f f'
missing_is_said said h h' f f' is timely s = IsMissing is timely s

-- what is told of texts that were read
pub right_is_said : (told told' : Option (List ℕ)) (said : Answer) (d d' : Asked) (result : ℕ) → IfSome told (λ a. IfSome told' (λ b. IsAudited d a b said)) → d ≡ d' → (result ≡ 0 → IsGood said) → result ≡ 0 → IfSome told (λ a. IfSome told' (λ b. IsRight d' a b))
right_is_said None told' said d d' result i same good zero = tt
right_is_said (Some a) None said d d' result i same good zero = tt
right_is_said (Some a) (Some b) said d d' result i same good zero = record { answer = said; audited = subst (λ (d : Asked). IsAudited d a b said) same i; good = good zero }

pub no_is_said : (told told' : Option (List ℕ)) (said : Answer) (d d' : Asked) (result : ℕ) (h h' : Option (List ℕ)) (f f' : ℕ) → IfSome told (λ a. IfSome told' (λ b. IsAudited d a b said)) → d ≡ d'
    → (result ≡ 5 → NoIsSaid said h h' f f') → result ≡ 5 → IfSome told (λ a. IfSome told' (λ b. SaysNo d' a b h h' f f'))
no_is_said None told' said d d' result h h' f f' i same told_no five = tt
no_is_said (Some a) None said d d' result h h' f f' i same told_no five = tt
no_is_said (Some a) (Some b) said d d' result h h' f f' i same told_no five = record { answer = said; audited = subst (λ (d : Asked). IsAudited d a b said) same i; said = told_no five }
