-- The text that is written of rows is read as them.
use Rattle.std.proofs.Common.{◌≡◌, ℕ, Bool, true, false, not, ◌&&◌, ◌||◌, if◌then◌else◌, List, [], ◌∷◌, ◌++◌, map, Option, Some, None, codes, refl, sym, ap, ◌∙◌, subst, append_assoc, append-nil}
use Rattle.std.specs.List.{AllByRecursion, flat_map, join_with_byte, list_any}
use Rattle.std.specs.Option.{option_to_list}
use Rattle.std.proofs.lemmas.Grind.{flat_map-append}
use Rattle.client_request.specs.declared.event.Event.{Event}
use Rattle.client_request.specs.declared.event.Out.{Out}
use Rattle.client_request.specs.declared.event.Row.{Row}
use Rattle.dns_script.specs.declared.trace_lines.TraceEntry.{TraceEntry}
use Rattle.dns_script.specs.declared.trace_lines.TraceEntry.TheVariants as entry
use Rattle.dns_script.specs.declared.trace_lines.TraceStage.TheVariants as stage
use Rattle.dns_script.specs.declared.trace_lines.TraceReader.{TraceReader}
use Rattle.dns_script.specs.Reading.{◌>>=◌, parts}
use Rattle.dns_script.specs.Lines.{event_line, out_line}
use Rattle.dns_script.specs.TextLaws.{AreRows, IsOut, IsRow}
use Rattle.dns_script.specs.TraceReading.{IsTrace, nothing_read, with_entry, with_lines}
use Rattle.dns_script.specs.TraceText.{first_line, has_stale, have_stale, last_line, row_text, says_stale, trace_text_of}
use Rattle.dns_script.proofs.Joined.{IsAbove, ended, is_word, joined_is_line, parts_of_ended}
use Rattle.dns_script.proofs.PrintedLines.{IsEntry, entry_is_words, entry_read}
use Rattle.dns_script.proofs.TakenLines.{entry_words}
use Rattle.dns_script.proofs.Versions.{allows_itself, or_allowed, or_later, or_none}

-- a line behind the first, without its line feed
abbrev entry_line : TraceEntry → List ℕ
entry_line x = join_with_byte 32 (entry_words x)

abbrev put_lines : List Out → List (List ℕ)
put_lines outs = map (λ o. entry_line (entry.Put o)) outs

abbrev row_lines : Row → List (List ℕ)
row_lines row = entry_line (entry.Came row.event) ∷ put_lines row.outs

abbrev lines_behind : List Row → List (List ℕ)
lines_behind rows = flat_map row_lines rows ++ codes "end" ∷ []

-- the first line, without its line feed
abbrev version : (stale : Bool) → List ℕ
version false = codes "trace 1"
version true = codes "trace 2"

abbrev text_lines : List Row → List (List ℕ)
text_lines rows = version (have_stale rows) ∷ lines_behind rows

-- among the rows, with these behind
abbrev inside : (second stale : Bool) → List Row → Option Row → TraceReader
inside second stale rows row = record { stage = stage.Inside; is_second = second; has_stale = stale; rows = rows; row = row }

abbrev at_end : (second stale : Bool) → List Row → TraceReader
at_end second stale rows = record { stage = stage.Ended; is_second = second; has_stale = stale; rows = rows; row = None }

-- what the last line comes to
abbrev ending : (second stale : Bool) → List Row → Option TraceReader
ending second stale rows = if second && not stale then None else Some (at_end second stale rows)

abbrev with_outs : Event → List Out → Option Row
with_outs event outs = Some (record { event = event; outs = outs })

line_taken : (x : TraceEntry) (second stale : Bool) (rows : List Row) (row : Option Row) (lines : List (List ℕ)) → IsEntry x
    → with_lines (entry_line x ∷ lines) (inside second stale rows row) ≡ with_entry x (inside second stale rows row) >>= with_lines lines
line_taken x second stale rows row lines h = ap (λ o. (o >>= (λ e. with_entry e (inside second stale rows row))) >>= with_lines lines) (entry_read x h)

outs_taken : (second stale : Bool) (outs before : List Out) (event : Event) (rows : List Row) (lines : List (List ℕ)) → AllByRecursion IsOut outs → (list_any says_stale outs && not second) ≡ false
    → with_lines (put_lines outs ++ lines) (inside second stale rows (with_outs event before)) ≡ with_lines lines (inside second (stale || list_any says_stale outs) rows (with_outs event (before ++ outs)))
outs_taken second stale [] before event rows lines h allowed =
    ap (λ os. with_lines lines (inside second stale rows (with_outs event os))) (sym (append-nil before))
    ∙ ap (λ b. with_lines lines (inside second b rows (with_outs event (before ++ [])))) (sym (or_none stale))
outs_taken second stale (o ∷ outs) before event rows lines h allowed =
    let each = or_allowed (says_stale o) (list_any says_stale outs) second allowed in
    let next : TraceReader = inside second (stale || says_stale o) rows (with_outs event (before ++ o ∷ [])) in
    line_taken (entry.Put o) second stale rows (with_outs event before) (put_lines outs ++ lines) h.0
    ∙ ap (λ b. (if b then None else Some next) >>= with_lines (put_lines outs ++ lines)) each.0
    ∙ outs_taken second (stale || says_stale o) outs (before ++ o ∷ []) event rows lines h.1 each.1
    ∙ ap (λ b. with_lines lines (inside second b rows (with_outs event ((before ++ o ∷ []) ++ outs)))) (or_later stale (says_stale o) (list_any says_stale outs))
    ∙ ap (λ os. with_lines lines (inside second (stale || list_any says_stale (o ∷ outs)) rows (with_outs event os))) (append_assoc before (o ∷ []) outs)

row_taken : (second stale : Bool) (row : Row) (rows : List Row) (last : Option Row) (lines : List (List ℕ)) → IsRow row → (has_stale row && not second) ≡ false
    → with_lines (row_lines row ++ lines) (inside second stale rows last) ≡ with_lines lines (inside second (stale || has_stale row) (rows ++ option_to_list last) (Some row))
row_taken second stale row rows last lines h allowed =
    line_taken (entry.Came row.event) second stale rows last (put_lines row.outs ++ lines) (h.moment, h.what)
    ∙ outs_taken second stale row.outs [] row.event (rows ++ option_to_list last) lines h.outs allowed

last_taken : (second stale : Bool) (rows : List Row) → ending second stale rows >>= with_lines [] ≡ ending second (stale || false) (rows ++ [])
last_taken true true rows = ap (λ rs. Some (at_end true true rs)) (sym (append-nil rows))
last_taken true false rows = refl
last_taken false true rows = ap (λ rs. Some (at_end false true rs)) (sym (append-nil rows))
last_taken false false rows = ap (λ rs. Some (at_end false false rs)) (sym (append-nil rows))

rows_taken : (second stale : Bool) (rows before : List Row) (last : Option Row) → AreRows rows → (have_stale rows && not second) ≡ false
    → with_lines (lines_behind rows) (inside second stale before last) ≡ ending second (stale || have_stale rows) ((before ++ option_to_list last) ++ rows)
rows_taken second stale [] before last h allowed = line_taken entry.End second stale before last [] tt ∙ last_taken second stale (before ++ option_to_list last)
rows_taken second stale (row ∷ rows) before last h allowed =
    let each = or_allowed (has_stale row) (have_stale rows) second allowed in
    ap (λ ls. with_lines ls (inside second stale before last)) (append_assoc (row_lines row) (flat_map row_lines rows) (codes "end" ∷ []))
    ∙ row_taken second stale row before last (lines_behind rows) h.0 each.0
    ∙ rows_taken second (stale || has_stale row) rows (before ++ option_to_list last) (Some row) h.1 each.1
    ∙ ap (λ b. ending second b (((before ++ option_to_list last) ++ row ∷ []) ++ rows)) (or_later stale (has_stale row) (have_stale rows))
    ∙ ap (λ rs. ending second (stale || have_stale (row ∷ rows)) rs) (append_assoc (before ++ option_to_list last) (row ∷ []) rows)

put_text : (outs : List Out) → flat_map ended (put_lines outs) ≡ flat_map out_line outs
put_text [] = refl
put_text (o ∷ outs) = ap (λ t. out_line o ++ t) (put_text outs)

rows_text : (rows : List Row) → flat_map ended (flat_map row_lines rows) ≡ flat_map row_text rows
rows_text [] = refl
rows_text (row ∷ rows) =
    flat_map-append ended (row_lines row) (flat_map row_lines rows) ∙ ap (λ t. t ++ flat_map ended (flat_map row_lines rows)) (ap (λ t. event_line row.event ++ t) (put_text row.outs))
    ∙ ap (λ t. row_text row ++ t) (rows_text rows)

version_line : (stale : Bool) → ended (version stale) ≡ first_line stale
version_line false = refl
version_line true = refl

text_of_lines : (rows : List Row) → flat_map ended (text_lines rows) ≡ trace_text_of rows
text_of_lines rows =
    ap (λ l. l ++ flat_map ended (lines_behind rows)) (version_line (have_stale rows))
    ∙ ap (λ t. first_line (have_stale rows) ++ t) (flat_map-append ended (flat_map row_lines rows) (codes "end" ∷ []) ∙ ap (λ t. t ++ last_line) (rows_text rows))
    ∙ sym (append_assoc (first_line (have_stale rows)) (flat_map row_text rows) last_line)

entry_is_line : (x : TraceEntry) → IsEntry x → IsAbove 10 (entry_line x)
entry_is_line x h = joined_is_line (entry_words x) (entry_is_words x h)

puts_are_lines : (outs : List Out) (lines : List (List ℕ)) → AllByRecursion IsOut outs → AllByRecursion (IsAbove 10) lines → AllByRecursion (IsAbove 10) (put_lines outs ++ lines)
puts_are_lines [] lines h more = more
puts_are_lines (o ∷ outs) lines h more = (entry_is_line (entry.Put o) h.0, puts_are_lines outs lines h.1 more)

rows_are_lines : (rows : List Row) → AreRows rows → AllByRecursion (IsAbove 10) (lines_behind rows)
rows_are_lines [] h = (entry_is_line entry.End tt, tt)
rows_are_lines (row ∷ rows) h =
    subst (λ ls. AllByRecursion (IsAbove 10) ls) (sym (append_assoc (row_lines row) (flat_map row_lines rows) (codes "end" ∷ [])))
    (entry_is_line (entry.Came row.event) (h.0.moment, h.0.what), puts_are_lines row.outs (lines_behind rows) h.0.outs (rows_are_lines rows h.1))

first_is_line : (stale : Bool) → IsAbove 10 (version stale)
first_is_line false = joined_is_line (codes "trace" ∷ codes "1" ∷ []) (is_word (codes "trace") refl, (is_word (codes "1") refl, tt))
first_is_line true = joined_is_line (codes "trace" ∷ codes "2" ∷ []) (is_word (codes "trace") refl, (is_word (codes "2") refl, tt))

first_taken : (stale : Bool) (lines : List (List ℕ)) → with_lines (version stale ∷ lines) nothing_read ≡ with_lines lines (inside stale false [] None)
first_taken false lines = refl
first_taken true lines = refl

whole : (stale : Bool) (rows : List Row) → ending stale stale rows ≡ Some (at_end stale stale rows)
whole true rows = refl
whole false rows = refl

pub text_is_read : (rows : List Row) → AreRows rows → IsTrace (trace_text_of rows) rows
text_is_read rows h =
    let stale = have_stale rows in
    record {
      lines = text_lines rows;
      split = ap (parts 10) (sym (text_of_lines rows)) ∙ parts_of_ended (text_lines rows) (first_is_line stale, rows_are_lines rows h);
      reader = at_end stale stale rows;
      read = first_taken stale (lines_behind rows) ∙ rows_taken stale false rows [] None h (allows_itself stale) ∙ whole stale rows;
      ended = refl;
      says = refl;
    }

-- the same of a text that is that of rows
pub printed_is_read : (text : List ℕ) (rows : List Row) → AreRows rows → text ≡ trace_text_of rows → IsTrace text rows
printed_is_read text rows h e = subst (λ t. IsTrace t rows) (sym e) (text_is_read rows h)
