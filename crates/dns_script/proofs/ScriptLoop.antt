-- Reading a script line by line.
use Rattle.std.proofs.Common.{◌≡◌, ℕ, ◌+◌, ◌<◌, ◌≤◌, Bool, List, [], ◌∷◌, ◌++◌, length, Some, None, refl, sym, ap, ◌∙◌, append_assoc, append-nil, length-append, subst, arith}
use Rattle.std.specs.Str.Lines.{lines}
use Rattle.client_request.specs.declared.event.Event.{Event}
use Rattle.dns_script.specs.declared.script.Script.{Script}
use Rattle.dns_script.specs.declared.script_lines.ScriptReader.{ScriptReader}
use Rattle.dns_script.specs.ScriptReading.{TakesLine, TakesLines, begun_with, IsScript, RefusesLine, refuses_line, misses_lane}

-- The lines before the rest were taken, and counted.
pub record HasRead (many : Bool) (text rest : List ℕ) (count : ℕ) (reader : ScriptReader) : Type 0 where
  pub before : List (List ℕ)
  pub split : lines text ≡ before ++ lines rest
  pub counted : length before ≡ count
  pub taken : TakesLines before (begun_with many) reader
  pub fits : count + length rest ≤ length text

pub nothing_read : (many : Bool) (text : List ℕ) → HasRead many text text 0 (begun_with many)
nothing_read many text = record { before = []; split = refl; counted = refl; taken = refl; fits = omega arith }

taken_more : (before : List (List ℕ)) (line : List ℕ) (s t u : ScriptReader) → TakesLines before s t → TakesLine line t u → TakesLines (before ++ line ∷ []) s u
taken_more [] line s t u led more = (u, subst (λ (r : ScriptReader). TakesLine line r u) led more, refl)
taken_more (l ∷ before) line s t u led more = (led.0, led.1, taken_more before line led.0 t u led.2 more)

pub line_read : (many : Bool) (text rest behind line : List ℕ) (count : ℕ) (reader next : ScriptReader) → HasRead many text rest count reader → lines rest ≡ line ∷ lines behind → length behind < length rest → TakesLine line reader next → HasRead many text behind (count + 1) next
line_read many text rest behind line count reader next h e shorter more = record {
  before = h.before ++ line ∷ [];
  split = h.split ∙ ap (λ (ls : List (List ℕ)). h.before ++ ls) e ∙ sym (append_assoc h.before (line ∷ []) (lines behind));
  counted = length-append h.before (line ∷ []) ∙ ap (λ (n : ℕ). n + 1) h.counted;
  taken = taken_more h.before line (begun_with many) reader next h.taken more;
  fits = let f = h.fits in omega arith;
}

pub line_refused : (many : Bool) (text rest behind line : List ℕ) (count : ℕ) (reader : ScriptReader) → HasRead many text rest count reader → lines rest ≡ line ∷ lines behind → ((next : ScriptReader) → ¬ (TakesLine line reader next)) → RefusesLine many text (count + 1)
line_refused many text rest behind line count reader h e refused =
    refuses_line h.before line (lines behind) reader (h.split ∙ ap (λ (ls : List (List ℕ)). h.before ++ ls) e) (ap (λ (n : ℕ). n + 1) (sym h.counted)) h.taken refused

all_lines : (many : Bool) (text rest : List ℕ) (count : ℕ) (reader : ScriptReader) (h : HasRead many text rest count reader) → lines rest ≡ [] → h.before ≡ lines text
all_lines many text rest count reader h e = sym (h.split ∙ ap (λ (ls : List (List ℕ)). h.before ++ ls) e ∙ append-nil h.before)

pub all_taken : (many : Bool) (text rest : List ℕ) (count : ℕ) (reader : ScriptReader) → HasRead many text rest count reader → lines rest ≡ [] → TakesLines (lines text) (begun_with many) reader
all_taken many text rest count reader h e = subst (λ (ls : List (List ℕ)). TakesLines ls (begun_with many) reader) (all_lines many text rest count reader h e) h.taken

pub no_lane : (many : Bool) (text rest : List ℕ) (count : ℕ) (reader : ScriptReader) → HasRead many text rest count reader → lines rest ≡ [] → reader.lane ≡ None → RefusesLine many text (count + 1)
no_lane many text rest count reader h e none =
    misses_lane reader (ap (λ (n : ℕ). n + 1) (sym (ap length (sym (all_lines many text rest count reader h e)) ∙ h.counted))) (all_taken many text rest count reader h e) none

pub script_read : (many : Bool) (text rest : List ℕ) (count : ℕ) (reader : ScriptReader) (lane : List Event) (script : Script) → HasRead many text rest count reader → lines rest ≡ [] → reader.lane ≡ Some lane → script ≡ record { conf = reader.conf; redundant = (reader.settings).redundant; cache = (reader.settings).cache; transports = (reader.settings).transports; words = reader.words; lanes = reader.lanes ++ lane ∷ [] } → IsScript many text script
script_read many text rest count reader lane script h e open_lane says = record {
  reader = reader;
  lines_taken = all_taken many text rest count reader h e;
  lane = lane;
  last_lane = open_lane;
  says = says;
}
