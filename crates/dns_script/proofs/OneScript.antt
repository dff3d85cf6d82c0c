-- A text says one script, and a script is not refused.
use Rattle.std.proofs.Common.{◌≡◌, ℕ, Bool, true, false, List, [], ◌∷◌, ◌++◌, Option, Some, None, Result, Ok, Err, MatchResult, refl, sym, ap, ◌∙◌, subst, arith, length}
use Rattle.std.specs.Str.Lines.{lines}
use Rattle.std.proofs.lemmas.Option.{same_Some}
use Rattle.dns_names.proofs.Heads.{none_some}
use Rattle.dns_values.proofs.Addresses.{one_address}
use Rattle.resolv_conf.specs.declared.conf.ResolvConf.{ResolvConf}
use Rattle.resolv_conf.specs.Line.{Outcome, LineGives, takes}
use Rattle.resolv_conf.proofs.Outcomes.{one_outcome}
use Rattle.dns_script.specs.declared.settings.Settings.{Settings}
use Rattle.client_request.specs.declared.event.Event.{Event}
use Rattle.dns_script.specs.declared.names.ScriptName.{ScriptName}
use Rattle.dns_script.specs.declared.names.ScriptName.TheVariants as name
use Rattle.dns_script.specs.declared.script.Script.{Script}
use Rattle.dns_script.specs.declared.script.ScriptFault.{ScriptFault}
use Rattle.dns_script.specs.declared.script.ScriptFault.TheVariants as faults
use Rattle.dns_script.specs.declared.script_lines.ScriptReader.{ScriptReader}
use Rattle.dns_script.specs.Names.{script_names}
use Rattle.dns_script.specs.Reading.{cut, named}
use Rattle.dns_script.specs.ScriptReading.{IsScript, ReadsScript, RefusesLine, TakesLine, TakesLines, TakesNamed, TakesParts, TakesSkipped, begun_with, is_skipped, misses_lane, refuses_line}
use Rattle.dns_script.proofs.OneTrace.{first_same, rest_same}

-- a line makes one thing of a configuration
pub conf_is_one : (line : List ℕ) (old one other : ResolvConf) → LineGives line old (takes one) → LineGives line old (takes other) → one ≡ other
conf_is_one line old one other h k = ap (λ (o : Outcome). o.conf) (one_outcome one_address line old (takes one) (takes other) h k)

named_is_one : (kind : Option ScriptName) (text : List ℕ) (s t u : ScriptReader) → TakesNamed kind text s t → TakesNamed kind text s u → t ≡ u
named_is_one None text s t u h k = absurd h
named_is_one (Some name.Conf) text s t u h k = h.after ∙ ap (λ conf. record s { conf = conf }) (conf_is_one text s.conf h.conf k.conf h.taken k.taken) ∙ sym k.after
named_is_one (Some name.Set) text s t u h k = h.after ∙ ap (λ (settings : Settings). record s { settings = settings }) (same_Some h.settings k.settings (sym h.set ∙ k.set)) ∙ sym k.after
named_is_one (Some name.Words) text s t u h k = h.after ∙ ap (λ numbers. record s { words = s.words ++ numbers }) (same_Some h.numbers k.numbers (sym h.read ∙ k.read)) ∙ sym k.after
named_is_one (Some name.At) text s t u h k =
    let event : h.event ≡ k.event = same_Some h.event k.event (sym h.read ∙ k.read) in
    let events : h.events ≡ k.events = same_Some h.events k.events (sym h.lane ∙ k.lane) in
    h.after ∙ ap (λ es. record s { lane = Some (es ++ h.event ∷ []); begun = true }) events ∙ ap (λ e. record s { lane = Some (k.events ++ e ∷ []); begun = true }) event ∙ sym k.after

parts_are_one : (line : List ℕ) (found : Option (List ℕ × List ℕ)) (s t u : ScriptReader) → TakesParts line found s t → TakesParts line found s u → t ≡ u
parts_are_one line None s t u h k = h.1.after ∙ sym k.1.after
parts_are_one line (Some found) s t u h k = named_is_one (named script_names found.0) found.1 s t u h k

skipped_is_one : (skips : Bool) (line : List ℕ) (s t u : ScriptReader) → TakesSkipped skips line s t → TakesSkipped skips line s u → t ≡ u
skipped_is_one true line s t u h k = h ∙ sym k
skipped_is_one false line s t u h k = parts_are_one line (cut 32 line) s t u h k

-- a line makes one thing of what was read before it
line_is_one : (line : List ℕ) (s t u : ScriptReader) → TakesLine line s t → TakesLine line s u → t ≡ u
line_is_one line s t u h k = skipped_is_one (is_skipped line) line s t u h.taken k.taken

lines_are_one : (ls : List (List ℕ)) (s t u : ScriptReader) → TakesLines ls s t → TakesLines ls s u → t ≡ u
lines_are_one [] s t u h k = h ∙ sym k
lines_are_one (line ∷ more) s t u h k =
    let same : h.0 ≡ k.0 = line_is_one line s h.0 k.0 h.1 k.1 in
    lines_are_one more k.0 t u (subst (λ (r : ScriptReader). TakesLines more r t) same h.2) k.2

-- among lines that are taken each is taken
taken_among : (before : List (List ℕ)) (line : List ℕ) (more : List (List ℕ)) (s reader t : ScriptReader) → TakesLines (before ++ line ∷ more) s t → TakesLines before s reader → (next : ScriptReader) × TakesLine line reader next
taken_among [] line more s reader t h k = (h.0, subst (λ (r : ScriptReader). TakesLine line r h.0) (sym k) h.1)
taken_among (b ∷ before) line more s reader t h k =
    let same : h.0 ≡ k.0 = line_is_one b s h.0 k.0 h.1 k.1 in
    taken_among before line more k.0 reader t (subst (λ (r : ScriptReader). TakesLines (before ++ line ∷ more) r t) same h.2) k.2

-- where all lines are taken none is refused
none_refused : (many : Bool) (text : List ℕ) (reader t : ScriptReader) (before : List (List ℕ)) (line : List ℕ) (more : List (List ℕ)) → TakesLines (lines text) (begun_with many) t
    → lines text ≡ before ++ line ∷ more → TakesLines before (begun_with many) reader → ((next : ScriptReader) → ¬ (TakesLine line reader next)) → ⊥
none_refused many text reader t before line more all split led refused =
    let next = taken_among before line more (begun_with many) reader t (subst (λ ls. TakesLines ls (begun_with many) t) split all) led in
    refused next.0 next.1

pub script_is_one : (many : Bool) (text : List ℕ) (one other : Script) → IsScript many text one → IsScript many text other → one ≡ other
script_is_one many text one other h k =
    let reader : h.reader ≡ k.reader = lines_are_one (lines text) (begun_with many) h.reader k.reader h.lines_taken k.lines_taken in
    let lane : h.lane ≡ k.lane = same_Some h.lane k.lane (sym h.last_lane ∙ ap (λ (r : ScriptReader). r.lane) reader ∙ k.last_lane) in
    let made : ScriptReader → List Event → Script = λ r l. record { conf = r.conf; redundant = (r.settings).redundant; cache = (r.settings).cache; transports = (r.settings).transports; words = r.words; lanes = r.lanes ++ l ∷ [] } in
    h.says ∙ ap (λ r. made r h.lane) reader ∙ ap (made k.reader) lane ∙ sym k.says

pub script_is_taken : (many : Bool) (text : List ℕ) (script : Script) (n : ℕ) → IsScript many text script → RefusesLine many text n → ⊥
script_is_taken many text script n h (refuses_line before line more reader split count led refused) = none_refused many text reader h.reader before line more h.lines_taken split led refused
script_is_taken many text script n h (misses_lane reader count led none) =
    let same : reader ≡ h.reader = lines_are_one (lines text) (begun_with many) reader h.reader led h.lines_taken in
    none_some (sym none ∙ ap (λ (r : ScriptReader). r.lane) same ∙ h.last_lane)

-- the first line that is refused stands at one place
first_refused : (one other : List (List ℕ)) (l m : List ℕ) (ls ms : List (List ℕ)) (s r t : ScriptReader) → one ++ l ∷ ls ≡ other ++ m ∷ ms
    → TakesLines one s r → ((next : ScriptReader) → ¬ (TakesLine l r next)) → TakesLines other s t → ((next : ScriptReader) → ¬ (TakesLine m t next)) → length one ≡ length other
first_refused [] [] l m ls ms s r t same led refused read denied = refl
first_refused [] (b ∷ other) l m ls ms s r t same led refused read denied =
    absurd (refused read.0 (subst (λ (x : ScriptReader). TakesLine l x read.0) (sym led) (subst (λ w. TakesLine w s read.0) (sym (first_same l b ls (other ++ m ∷ ms) same)) read.1)))
first_refused (b ∷ one) [] l m ls ms s r t same led refused read denied =
    absurd (denied led.0 (subst (λ (x : ScriptReader). TakesLine m x led.0) (sym read) (subst (λ w. TakesLine w s led.0) (first_same b m (one ++ l ∷ ls) ms same) led.1)))
first_refused (b ∷ one) (c ∷ other) l m ls ms s r t same led refused read denied =
    let start : led.0 ≡ read.0 = line_is_one c s led.0 read.0 (subst (λ w. TakesLine w s led.0) (first_same b c (one ++ l ∷ ls) (other ++ m ∷ ms) same) led.1) read.1 in
    let more = first_refused one other l m ls ms read.0 r t (rest_same b c (one ++ l ∷ ls) (other ++ m ∷ ms) same) (subst (λ (x : ScriptReader). TakesLines one x r) start led.2) refused read.2 denied in
    omega (arith, more)

pub script_is_refused_once : (many : Bool) (text : List ℕ) (m n : ℕ) → RefusesLine many text m → RefusesLine many text n → m ≡ n
script_is_refused_once many text m n (refuses_line a l ls r split count led refused) (refuses_line b o os t split_too number read denied) =
    let same = first_refused a b l o ls os (begun_with many) r t (sym split ∙ split_too) led refused read denied in
    omega (arith, count, number, same)
script_is_refused_once many text m n (refuses_line a l ls r split count led refused) (misses_lane t number all none) = absurd (none_refused many text r t a l ls all split led refused)
script_is_refused_once many text m n (misses_lane t number all none) (refuses_line a l ls r split count led refused) = absurd (none_refused many text r t a l ls all split led refused)
script_is_refused_once many text m n (misses_lane r count led none) (misses_lane t number all missing) = count ∙ sym number

pub script_is_read : (many : Bool) (text : List ℕ) (script : Script) (result : Result Script ScriptFault) → IsScript many text script → ReadsScript many text result
    → MatchResult result (λ s. s ≡ script) (λ e. e ≡ faults.NoMemory)
script_is_read many text script (Ok s) h k = script_is_one many text s script k h
script_is_read many text script (Err (faults.Line n)) h k = absurd (script_is_taken many text script n h k)
script_is_read many text script (Err faults.NoMemory) h k = refl
