-- Reading a trace line by line.
use Rattle.std.proofs.Common.{◌≡◌, ◌≢◌, ℕ, ◌+◌, ◌<◌, ◌≤◌, List, [], ◌∷◌, ◌++◌, length, Option, Some, None, refl, sym, ap, ◌∙◌, append_assoc, length-append, subst, arith}
use Rattle.dns_script.specs.declared.trace_lines.TraceReader.{TraceReader}
use Rattle.dns_script.specs.declared.trace_lines.TraceStage.TheVariants as stage
use Rattle.dns_script.specs.Reading.{◌>>=◌, parts}
use Rattle.dns_script.specs.TraceReading.{IsTrace, RefusesTraceLine, refuses_line, ends_early, nothing_read, with_line, with_lines}
use Rattle.dns_script.proofs.Parts.{parts_not_nil}

-- The lines before the rest were read, and counted.
pub record HasReadTrace (text rest : List ℕ) (count : ℕ) (reader : TraceReader) : Type 0 where
  pub before : List (List ℕ)
  pub split : parts 10 text ≡ before ++ parts 10 rest
  pub counted : length before ≡ count
  pub read : with_lines before nothing_read ≡ Some reader
  pub fits : count + length rest ≤ length text

pub trace_begins : (text : List ℕ) → HasReadTrace text text 0 nothing_read
trace_begins text = record { before = []; split = refl; counted = refl; read = refl; fits = omega arith }

then_lines : (o : Option TraceReader) (f : TraceReader → Option TraceReader) (t : TraceReader) → o >>= f ≡ Some t → (s : TraceReader) × (o ≡ Some s) × (f s ≡ Some t)
then_lines (Some s) f t e = (s, refl, e)
then_lines None f t e = absurd cc

read_more : (before : List (List ℕ)) (line : List ℕ) (s t u : TraceReader) → with_lines before s ≡ Some t → with_line line t ≡ Some u → with_lines (before ++ line ∷ []) s ≡ Some u
read_more [] line s t u led more =
    let same : s ≡ t = cc in
    subst (λ (r : TraceReader). with_line line r >>= with_lines [] ≡ Some u) (sym same) (ap (λ (o : Option TraceReader). o >>= with_lines []) more)
read_more (l ∷ before) line s t u led more =
    let first = then_lines (with_line l s) (with_lines before) t led in
    subst (λ (o : Option TraceReader). o >>= with_lines (before ++ line ∷ []) ≡ Some u) (sym first.1) (read_more before line first.0 t u first.2 more)

pub trace_line_read : (text rest behind line : List ℕ) (count : ℕ) (reader next : TraceReader) → HasReadTrace text rest count reader → parts 10 rest ≡ line ∷ parts 10 behind → length behind < length rest → with_line line reader ≡ Some next → HasReadTrace text behind (count + 1) next
trace_line_read text rest behind line count reader next h e shorter more = record {
  before = h.before ++ line ∷ [];
  split = h.split ∙ ap (λ (ls : List (List ℕ)). h.before ++ ls) e ∙ sym (append_assoc h.before (line ∷ []) (parts 10 behind));
  counted = length-append h.before (line ∷ []) ∙ ap (λ (n : ℕ). n + 1) h.counted;
  read = read_more h.before line nothing_read reader next h.read more;
  fits = let f = h.fits in omega arith;
}

some_parts : (ps : List (List ℕ)) → ps ≢ [] → (next : List ℕ) × (more : List (List ℕ)) × (ps ≡ next ∷ more)
some_parts [] h = absurd (h refl)
some_parts (p ∷ ps) h = (p, ps, refl)

pub trace_line_refused : (text rest behind line : List ℕ) (count : ℕ) (reader : TraceReader) → HasReadTrace text rest count reader → parts 10 rest ≡ line ∷ parts 10 behind → with_line line reader ≡ None → RefusesTraceLine text (count + 1)
trace_line_refused text rest behind line count reader h e refused =
    let tail = some_parts (parts 10 behind) (parts_not_nil 10 behind) in
    refuses_line h.before line tail.0 tail.1 reader
    (h.split ∙ ap (λ (ls : List (List ℕ)). h.before ++ ls) (e ∙ ap (λ (ls : List (List ℕ)). line ∷ ls) tail.2))
    (ap (λ (n : ℕ). n + 1) (sym h.counted)) h.read refused

pub trace_cut_short : (text rest : List ℕ) (count : ℕ) (reader : TraceReader) → HasReadTrace text rest count reader → parts 10 rest ≡ rest ∷ [] → (reader.stage ≡ stage.Ended → rest ≡ [] → ⊥) → RefusesTraceLine text (count + 1)
trace_cut_short text rest count reader h e early =
    ends_early h.before rest reader (h.split ∙ ap (λ (ls : List (List ℕ)). h.before ++ ls) e) (ap (λ (n : ℕ). n + 1) (sym h.counted)) h.read early

pub trace_read : (text rest : List ℕ) (count : ℕ) (reader : TraceReader) → HasReadTrace text rest count reader → parts 10 rest ≡ rest ∷ [] → reader.stage ≡ stage.Ended → rest ≡ [] → IsTrace text reader.rows
trace_read text rest count reader h e ended none = record {
  lines = h.before;
  split = h.split ∙ ap (λ (ls : List (List ℕ)). h.before ++ ls) (e ∙ ap (λ (r : List ℕ). r ∷ []) none);
  reader = reader;
  read = h.read;
  ended = ended;
  says = refl;
}

pub trace_not_ended : (text rest : List ℕ) (count : ℕ) (reader : TraceReader) → HasReadTrace text rest count reader → parts 10 rest ≡ rest ∷ [] → (reader.stage ≡ stage.Ended → ⊥) → RefusesTraceLine text (count + 1)
trace_not_ended text rest count reader h e early = trace_cut_short text rest count reader h e (λ ended none. early ended)

pub trace_has_tail : (text rest : List ℕ) (count : ℕ) (reader : TraceReader) → HasReadTrace text rest count reader → parts 10 rest ≡ rest ∷ [] → (length rest ≡ 0 → ⊥) → RefusesTraceLine text (count + 1)
trace_has_tail text rest count reader h e more = trace_cut_short text rest count reader h e (λ ended none. more (ap length none))
