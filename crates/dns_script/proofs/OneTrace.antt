-- A text says one trace, and a trace's text is not refused.
use Rattle.std.proofs.Common.{◌≡◌, ℕ, List, [], ◌∷◌, ◌++◌, length, get_or, drop, Some, None, Result, Ok, Err, refl, sym, ap, ◌∙◌, subst, arith, length-append}
use Rattle.std.proofs.lemmas.Option.{same_Some}
use Rattle.dns_names.proofs.Heads.{then_ok, none_some}
use Rattle.client_request.specs.declared.event.Row.{Row}
use Rattle.client_request.specs.declared.event.Trace.{Trace}
use Rattle.dns_script.specs.declared.script.ScriptFault.{ScriptFault}
use Rattle.dns_script.specs.declared.script.ScriptFault.TheVariants as faults
use Rattle.dns_script.specs.declared.trace_lines.TraceReader.{TraceReader}
use Rattle.dns_script.specs.TextLaws.{AreRows, ReadsBack}
use Rattle.dns_script.specs.TraceReading.{IsTrace, ReadsTrace, RefusesTraceLine, refuses_line, ends_early, nothing_read, with_line, with_lines}
use Rattle.dns_script.specs.TraceText.{trace_text_of}
use Rattle.dns_script.proofs.PrintedTexts.{text_is_read}

-- equal lists begin with the same and go on with the same
pub first_same : {X : Type 0} (x y : X) (xs ys : List X) → x ∷ xs ≡ y ∷ ys → x ≡ y
first_same x y xs ys e = ap (λ l. get_or l 0 x) e

pub rest_same : {X : Type 0} (x y : X) (xs ys : List X) → x ∷ xs ≡ y ∷ ys → xs ≡ ys
rest_same x y xs ys e = ap (λ l. drop 1 l) e

-- the same before the last, and the same last one
pub last_same : {X : Type 0} (xs ys : List X) (x y : X) → xs ++ x ∷ [] ≡ ys ++ y ∷ [] → (xs ≡ ys) × (x ≡ y)
last_same [] [] x y e = (refl, first_same x y [] [] e)
last_same [] (z ∷ ys) x y e = absurd (omega (arith, ap length e, length-append ys (y ∷ [])))
last_same (z ∷ xs) [] x y e = absurd (omega (arith, ap length e, length-append xs (x ∷ [])))
last_same {X} (a ∷ xs) (b ∷ ys) x y e =
    let more = last_same xs ys x y (rest_same a b (xs ++ x ∷ []) (ys ++ y ∷ []) e) in
    (ap (λ l. l ∷ xs) (first_same a b (xs ++ x ∷ []) (ys ++ y ∷ []) e) ∙ ap (λ l. b ∷ l) more.0, more.1)

pub trace_is_one : (text : List ℕ) (one other : List Row) → IsTrace text one → IsTrace text other → one ≡ other
trace_is_one text one other h k =
    let lines = (last_same h.lines k.lines [] [] (sym h.split ∙ k.split)).0 in
    let reader : h.reader ≡ k.reader = same_Some _ _ (sym h.read ∙ ap (λ ls. with_lines ls nothing_read) lines ∙ k.read) in
    h.says ∙ ap (λ (r : TraceReader). r.rows) reader ∙ sym k.says

-- Lines that are read have none among them that is refused.
refused_among : (before lines : List (List ℕ)) (line next tail : List ℕ) (more : List (List ℕ)) (s reader t : TraceReader)
    → lines ++ tail ∷ [] ≡ before ++ line ∷ next ∷ more → with_lines before s ≡ Some reader → with_line line reader ≡ None → with_lines lines s ≡ Some t → ⊥
refused_among [] [] line next tail more s reader t same led none read = omega (arith, ap length same)
refused_among [] (l ∷ lines) line next tail more s reader t same led none read =
    let first = then_ok (with_line l s) (with_lines lines) t read in
    let start : s ≡ reader = same_Some _ _ led in
    none_some (sym none ∙ ap (λ x. with_line x reader) (sym (first_same l line (lines ++ tail ∷ []) (next ∷ more) same)) ∙ ap (λ r. with_line l r) (sym start) ∙ first.1)
refused_among (b ∷ before) [] line next tail more s reader t same led none read = omega (arith, ap length same, length-append before (line ∷ next ∷ more))
refused_among (b ∷ before) (l ∷ lines) line next tail more s reader t same led none read =
    let one = then_ok (with_line l s) (with_lines lines) t read in
    let other = then_ok (with_line b s) (with_lines before) reader led in
    let start : one.0 ≡ other.0 = same_Some _ _ (sym one.1 ∙ ap (λ x. with_line x s) (first_same l b (lines ++ tail ∷ []) (before ++ line ∷ next ∷ more) same) ∙ other.1) in
    refused_among before lines line next tail more other.0 reader t (rest_same l b (lines ++ tail ∷ []) (before ++ line ∷ next ∷ more) same) other.2 none (subst (λ r. with_lines lines r ≡ Some t) start one.2)

pub trace_is_taken : (text : List ℕ) (rows : List Row) (n : ℕ) → IsTrace text rows → RefusesTraceLine text n → ⊥
trace_is_taken text rows n h (refuses_line before line next more reader split count led none) =
    refused_among before h.lines line next [] more nothing_read reader h.reader (sym h.split ∙ split) led none h.read
trace_is_taken text rows n h (ends_early lines tail reader split count led early) =
    let same = last_same h.lines lines [] tail (sym h.split ∙ split) in
    let ends : h.reader ≡ reader = same_Some _ _ (sym h.read ∙ ap (λ ls. with_lines ls nothing_read) same.0 ∙ led) in
    early (sym (ap (λ (r : TraceReader). r.stage) ends) ∙ h.ended) (sym same.1)

-- the first line that is refused stands at one place
first_refused : (one other : List (List ℕ)) (l m : List ℕ) (ls ms : List (List ℕ)) (s r t : TraceReader) → one ++ l ∷ ls ≡ other ++ m ∷ ms
    → with_lines one s ≡ Some r → with_line l r ≡ None → with_lines other s ≡ Some t → with_line m t ≡ None → length one ≡ length other
first_refused [] [] l m ls ms s r t same led none read missing = refl
first_refused [] (b ∷ other) l m ls ms s r t same led none read missing =
    let first = then_ok (with_line b s) (with_lines other) t read in
    none_some (sym none ∙ ap (λ x. with_line x r) (first_same l b ls (other ++ m ∷ ms) same) ∙ ap (λ x. with_line b x) (sym (same_Some _ _ led)) ∙ first.1)
first_refused (b ∷ one) [] l m ls ms s r t same led none read missing =
    let first = then_ok (with_line b s) (with_lines one) r led in
    none_some (sym missing ∙ ap (λ x. with_line x t) (sym (first_same b m (one ++ l ∷ ls) ms same)) ∙ ap (λ x. with_line b x) (sym (same_Some _ _ read)) ∙ first.1)
first_refused (b ∷ one) (c ∷ other) l m ls ms s r t same led none read missing =
    let first = then_ok (with_line b s) (with_lines one) r led in
    let second = then_ok (with_line c s) (with_lines other) t read in
    let start : first.0 ≡ second.0 = same_Some _ _ (sym first.1 ∙ ap (λ x. with_line x s) (first_same b c (one ++ l ∷ ls) (other ++ m ∷ ms) same) ∙ second.1) in
    let more = first_refused one other l m ls ms second.0 r t (rest_same b c (one ++ l ∷ ls) (other ++ m ∷ ms) same) (subst (λ x. with_lines one x ≡ Some r) start first.2) none second.2 missing in
    omega (arith, more)

pub trace_is_refused_once : (text : List ℕ) (m n : ℕ) → RefusesTraceLine text m → RefusesTraceLine text n → m ≡ n
trace_is_refused_once text m n (refuses_line a l k ls r split count led none) (refuses_line b o p os t cut number read missing) =
    let same = first_refused a b l o (k ∷ ls) (p ∷ os) nothing_read r t (sym split ∙ cut) led none read missing in
    omega (arith, count, number, same)
trace_is_refused_once text m n (refuses_line a l k ls r split count led none) (ends_early b tail t cut number read early) =
    absurd (refused_among a b l k tail ls nothing_read r t (sym cut ∙ split) led none read)
trace_is_refused_once text m n (ends_early b tail t cut number read early) (refuses_line a l k ls r split count led none) =
    absurd (refused_among a b l k tail ls nothing_read r t (sym cut ∙ split) led none read)
trace_is_refused_once text m n (ends_early a top r split count led early) (ends_early b tail t cut number read late) =
    let same = ap length (last_same a b top tail (sym split ∙ cut)).0 in
    omega (arith, count, number, same)

pub text_reads_back : (rows : List Row) (result : Result Trace ScriptFault) → AreRows rows → ReadsTrace (trace_text_of rows) result → ReadsBack rows result
text_reads_back rows (Ok t) h k = trace_is_one (trace_text_of rows) t.rows rows k (text_is_read rows h)
text_reads_back rows (Err (faults.Line n)) h k = absurd (trace_is_taken (trace_text_of rows) rows n (text_is_read rows h) k)
text_reads_back rows (Err faults.NoMemory) h k = refl

-- the same where a text is that of rows
pub reads_back_of : (text : List ℕ) (result : Result Trace ScriptFault) → ReadsTrace text result → (rows : List Row) → AreRows rows → text ≡ trace_text_of rows → ReadsBack rows result
reads_back_of text result k rows h e = text_reads_back rows result h (subst (λ t. ReadsTrace t result) e k)

pub none_left : (octets : List ℕ) → length octets ≡ 0 → octets ≡ []
none_left [] e = refl
none_left (octet ∷ octets) e = absurd (omega (arith, e))
