-- What the status says of a script with lanes.
use Rattle.std.proofs.Common.{◌≡◌, ◌≢◌, ◌⊎◌, inl, inr, ℕ, ◌<◌, ◌≤◌, List, ◌++◌, [], length, true, Option, Some, None, subst, ap, sym, ◌∙◌, refl, arith}
use Rattle.std.specs.Prelude.{IfSome, IfOk, IfErr, Result, Ok, Err, Vec, codes}
use Rattle.std.specs.declared.alloc.Global.{Global}
use Rattle.std.specs.Fmt.{decimal}
use Rattle.dns_values.specs.Sink.{with_octets}
use Rattle.dns_values.specs.declared.numbers.Status.{Status}
use Rattle.dns_script.specs.ScriptReading.{IsScript, RefusesLine}
use Rattle.dns_script.specs.TextLaws.{ScriptLaws}
use Rattle.dns_script.specs.declared.script.Script.{Script}
use Rattle.command_parts.specs.Ends.{IsBegun, IsSaid, line_of, status_of}
use Rattle.command_parts.specs.declared.ending.Ending.{Ending}
use Rattle.dnsq_run.specs.Program.{numbers_line}
use Rattle.dnsq_many.specs.Lanes.{IsTextOf, MayStop}
use Rattle.dnsq_many.specs.Many.{IsTaken, IsMade, IsRefused, IsDue, Stops, EndsSo, is_too_long, has_bad_line, is_made, is_refusal, stops}

pub too_long_line : (text : List ℕ) (e : Ending) → 16777216 < length text → line_of e ≡ codes "input too long\n" → IsRefused text (line_of e)
too_long_line text e long is = is_too_long long is

pub bad_line : (text : List ℕ) (e : Ending) (n : ℕ) → length text ≤ 16777216 → RefusesLine true text n
    → line_of e ≡ codes "line " ++ decimal n ++ codes " refused\n" → IsRefused text (line_of e)
bad_line text e n fits bad is = has_bad_line n fits bad is

-- what holds of the octets that were read holds of what the source had
of_source : (told after : Option (List ℕ)) (octets : List ℕ) (P : List ℕ → Type 0) → IfSome told (λ text. (octets ≡ text) × (after ≡ Some [])) → P octets → IfSome told P
of_source None after octets P whole holds = tt
of_source (Some text) after octets P whole holds = subst P whole.0 holds

pub refused_source : (told after : Option (List ℕ)) (octets : List ℕ) (e : Ending) → IfSome told (λ text. (octets ≡ text) × (after ≡ Some []))
    → length octets ≤ 16777216 → (length octets ≤ 16777216 → status_of e ≡ 1 → IsRefused octets (line_of e)) → status_of e ≡ 1 → IfSome told (λ text. IsRefused text (line_of e))
refused_source told after octets e whole fits refused is_one = of_source told after octets (λ text. IsRefused text (line_of e)) whole (refused fits is_one)

stopped_source : (told after : Option (List ℕ)) (octets : List ℕ) (script : Script) → IfSome told (λ text. (octets ≡ text) × (after ≡ Some []))
    → length octets ≤ 16777216 → IsScript true octets script → MayStop script → IfSome told Stops
stopped_source told after octets script whole fits is may =
    of_source told after octets Stops whole (record { taken = record { script = script; is_script = is; fits = fits }; stops = may })

made_source : (told after : Option (List ℕ)) (octets out : List ℕ) (script : Script) → IfSome told (λ text. (octets ≡ text) × (after ≡ Some []))
    → length octets ≤ 16777216 → IsScript true octets script → IsTextOf script out → IfSome told (λ text. IsMade text out × (after ≡ Some []))
made_source None after octets out script whole fits is made = tt
made_source (Some text) after octets out script whole fits is made =
    (subst (λ (t : List ℕ). IsMade t out) whole.0 (record { taken = record { script = script; is_script = is; fits = fits }; made = made }), whole.1)

-- what a script comes to is what its source's text comes to
pub all_stopped : (told after : Option (List ℕ)) (octets : List ℕ) (script : Script) (r : Result (Vec ℕ Global) Ending) → IfSome told (λ text. (octets ≡ text) × (after ≡ Some []))
    → length octets ≤ 16777216 → IsScript true octets script → IfErr r (λ e. status_of e ≡ 7 → MayStop script) → IfErr r (λ e. status_of e ≡ 7 → IfSome told Stops)
all_stopped told after octets script (Ok out) whole fits is may = tt
all_stopped told after octets script (Err e) whole fits is may = λ seven. stopped_source told after octets script whole fits is (may seven)

pub all_made : (told after : Option (List ℕ)) (octets : List ℕ) (script : Script) (r : Result (Vec ℕ Global) Ending) → IfSome told (λ text. (octets ≡ text) × (after ≡ Some []))
    → length octets ≤ 16777216 → IsScript true octets script → IfOk r (λ v. IsTextOf script v.items) → IfOk r (λ v. IfSome told (λ text. IsMade text v.items × (after ≡ Some [])))
all_made told after octets script (Ok out) whole fits is made = made_source told after octets out.items script whole fits is made
all_made told after octets script (Err e) whole fits is made = tt

-- what is told of a text is told otherwise
told_as : (told : Option (List ℕ)) (P Q : List ℕ → Type 0) → ((text : List ℕ) → P text → Q text) → IfSome told P → IfSome told Q
told_as None P Q f h = tt
told_as (Some text) P Q f h = f text h

always : (told : Option (List ℕ)) (Q : List ℕ → Type 0) → ((text : List ℕ) → Q text) → IfSome told Q
always None Q f = tt
always (Some text) Q f = f text

-- what stands in `EndsSo` for a text
abbrev IsDone : (left held after : Option (List ℕ)) → List ℕ → Type 0
IsDone left held after text = ((out : List ℕ) × IsMade text out × (after ≡ with_octets out held)) × (left ≡ Some [])

abbrev IsRefusedSo : (held after : Option (List ℕ)) (faults more : ℕ) → List ℕ → Type 0
IsRefusedSo held after faults more text = (line : List ℕ) × IsRefused text line × IsSaid line held after faults more

abbrev IsCutSo : (held after : Option (List ℕ)) → List ℕ → Type 0
IsCutSo held after text = (out : List ℕ) × IsMade text out × IsBegun out held after

abbrev IsDueSo : (held after : Option (List ℕ)) → List ℕ → Type 0
IsDueSo held after text = (out : List ℕ) × IsDue text out × IsBegun out held after

not_refused : ScriptLaws → (text line : List ℕ) → IsTaken text → ¬ (IsRefused text line)
not_refused laws text line taken (is_too_long long says) = absurd (let fits = taken.fits in omega (arith, fits, long))
not_refused laws text line taken (has_bad_line n fits bad says) = laws.script_is_taken true text taken.script n taken.is_script bad

-- ---- the three ends

not_delivered : (r : ℕ) → (r ≡ 0) ⊎ ((r ≡ 4) ⊎ (r ≡ 6)) → (r ≢ 1) × (r ≢ 2) × (r ≢ 5) × (r ≢ 7)
not_delivered r (inl e) = (λ h. omega arith, λ h. omega arith, λ h. omega arith, λ h. omega arith)
not_delivered r (inr (inl e)) = (λ h. omega arith, λ h. omega arith, λ h. omega arith, λ h. omega arith)
not_delivered r (inr (inr e)) = (λ h. omega arith, λ h. omega arith, λ h. omega arith, λ h. omega arith)

pub delivered_ends : (told left held after : Option (List ℕ)) (faults more : ℕ) (out : List ℕ) (r : ℕ) → IfSome told (λ text. IsMade text out × (left ≡ Some []))
    → (r ≡ 0 → after ≡ with_octets out held) → IsBegun out held after → (r ≡ 0) ⊎ ((r ≡ 4) ⊎ (r ≡ 6)) → EndsSo r told left held after faults more
delivered_ends told left held after faults more out r made done begun others = record {
  asks_nothing = ((not_delivered r others).1, (not_delivered r others).2);
  done = λ is. told_as told (λ text. IsMade text out × (left ≡ Some [])) (IsDone left held after) (λ text m. ((out, m.0, done is), m.1)) made;
  refused = λ is. absurd ((not_delivered r others).0 is);
  complete = always told (λ text. IsTaken text → r ≢ 1) (λ text taken. (not_delivered r others).0);
  cut = λ is. told_as told (λ text. IsMade text out × (left ≡ Some [])) (IsCutSo held after) (λ text m. (out, m.0, begun)) made;
  memory = λ is. inr (told_as told (λ text. IsMade text out × (left ≡ Some [])) (IsDueSo held after) (λ text m. (out, is_made m.0, begun)) made);
  numbers = λ is. absurd ((not_delivered r others).3 is);
}

not_silent : (r : ℕ) → (r ≡ 3) ⊎ (r ≡ 6) → (r ≢ 0) × (r ≢ 1) × (r ≢ 2) × (r ≢ 4) × (r ≢ 5) × (r ≢ 7)
not_silent r (inl e) = (λ h. omega arith, λ h. omega arith, λ h. omega arith, λ h. omega arith, λ h. omega arith, λ h. omega arith)
not_silent r (inr e) = (λ h. omega arith, λ h. omega arith, λ h. omega arith, λ h. omega arith, λ h. omega arith, λ h. omega arith)

pub silent_ends : (told left held : Option (List ℕ)) (faults : ℕ) (r : ℕ) → (r ≡ 3) ⊎ (r ≡ 6) → EndsSo r told left held held faults faults
silent_ends told left held faults r others = record {
  asks_nothing = ((not_silent r others).2, (not_silent r others).4);
  done = λ is. absurd ((not_silent r others).0 is);
  refused = λ is. absurd ((not_silent r others).1 is);
  complete = always told (λ text. IsTaken text → r ≢ 1) (λ text taken. (not_silent r others).1);
  cut = λ is. absurd ((not_silent r others).3 is);
  memory = λ is. inl refl;
  numbers = λ is. absurd ((not_silent r others).5 is);
}

not_said : (status r : ℕ) → (status ≡ 1) ⊎ (status ≡ 7) → (r ≡ status) ⊎ (r ≡ 6) → (r ≢ 0) × (r ≢ 2) × (r ≢ 4) × (r ≢ 5)
not_said status r (inl a) (inl e) = (λ h. omega arith, λ h. omega arith, λ h. omega arith, λ h. omega arith)
not_said status r (inl a) (inr e) = (λ h. omega arith, λ h. omega arith, λ h. omega arith, λ h. omega arith)
not_said status r (inr a) (inl e) = (λ h. omega arith, λ h. omega arith, λ h. omega arith, λ h. omega arith)
not_said status r (inr a) (inr e) = (λ h. omega arith, λ h. omega arith, λ h. omega arith, λ h. omega arith)

-- A status other than 6 that there is in the end is the line's.
was_one : (status r : ℕ) → (r ≡ status) ⊎ (r ≡ 6) → r ≡ 1 → status ≡ 1
was_one status r (inl e) is = sym e ∙ is
was_one status r (inr e) is = absurd (omega arith)

was_seven : (status r : ℕ) → (r ≡ status) ⊎ (r ≡ 6) → r ≡ 7 → status ≡ 7
was_seven status r (inl e) is = sym e ∙ is
was_seven status r (inr e) is = absurd (omega arith)

never_refused : ScriptLaws → (told : Option (List ℕ)) (line : List ℕ) (r : ℕ) → (r ≡ 1 → IfSome told (λ text. IsRefused text line)) → IfSome told (λ text. IsTaken text → r ≢ 1)
never_refused laws None line r h = tt
never_refused laws (Some text) line r h = λ taken is. not_refused laws text line taken (h is)

due : (told held after : Option (List ℕ)) (line : List ℕ) (status : ℕ) → (status ≡ 1) ⊎ (status ≡ 7)
    → (status ≡ 1 → IfSome told (λ text. IsRefused text line)) → (status ≡ 7 → IfSome told (λ text. Stops text)) → (status ≡ 7 → line ≡ numbers_line)
    → IsBegun line held after → IfSome told (IsDueSo held after)
due told held after line status (inl e) refused stopped numbers begun = told_as told (λ text. IsRefused text line) (IsDueSo held after) (λ text h. (line, is_refusal h, begun)) (refused e)
due told held after line status (inr e) refused stopped numbers begun = told_as told (λ text. Stops text) (IsDueSo held after) (λ text h. (line, stops h (numbers e), begun)) (stopped e)

said_ends : ScriptLaws → (told left held after : Option (List ℕ)) (faults more : ℕ) (line : List ℕ) (status r : ℕ) → (status ≡ 1) ⊎ (status ≡ 7) → (r ≡ status) ⊎ (r ≡ 6)
    → (status ≡ 1 → IfSome told (λ text. IsRefused text line)) → (status ≡ 7 → IfSome told (λ text. Stops text)) → (status ≡ 7 → line ≡ numbers_line)
    → IsBegun line held after → (r ≢ 6 → IsSaid line held after faults more) → EndsSo r told left held after faults more
said_ends laws told left held after faults more line status r early same refused stopped numbers begun said = record {
  asks_nothing = ((not_said status r early same).1, (not_said status r early same).3);
  done = λ is. absurd ((not_said status r early same).0 is);
  refused = λ is. told_as told (λ text. IsRefused text line) (IsRefusedSo held after faults more) (λ text h. (line, h, said (λ six. omega arith))) (refused (was_one status r same is));
  complete = never_refused laws told line r (λ is. refused (was_one status r same is));
  cut = λ is. absurd ((not_said status r early same).2 is);
  memory = λ is. inr (due told held after line status early refused stopped numbers begun);
  numbers = λ is. stopped (was_seven status r same is);
}

pub line_ends : ScriptLaws → (told left held after : Option (List ℕ)) (faults more : ℕ) (line : List ℕ) (status r : Status) → (status.0 ≡ 1) ⊎ (status.0 ≡ 7) → (r ≡ status) ⊎ (r.0 ≡ 6)
    → (status.0 ≡ 1 → IfSome told (λ text. IsRefused text line)) → (status.0 ≡ 7 → IfSome told Stops) → (status.0 ≡ 7 → line ≡ numbers_line)
    → IsBegun line held after → (r.0 ≢ 6 → IsSaid line held after faults more) → EndsSo r.0 told left held after faults more
line_ends laws told left held after faults more line status r early same = said_ends laws told left held after faults more line status.0 r.0 early (same_number same)
  where
    same_number : (r ≡ status) ⊎ (r.0 ≡ 6) → (r.0 ≡ status.0) ⊎ (r.0 ≡ 6)
    same_number (inl e) = inl (ap (λ (s : Status). s.0) e)
    same_number (inr e) = inr e
