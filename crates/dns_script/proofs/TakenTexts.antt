-- A text that is read is the text of what was read.
use Rattle.std.proofs.Common.{◌≡◌, ℕ, Bool, true, false, not, ◌&&◌, ◌||◌, if◌then◌else◌, List, [], ◌∷◌, ◌++◌, Option, Some, None, codes, refl, sym, ap, ◌∙◌, subst, option_map, bytes_eq, append_assoc, append-nil}
use Rattle.std.specs.List.{flat_map, join_with_byte, list_any}
use Rattle.std.specs.Option.{option_to_list}
use Rattle.std.proofs.lemmas.Grind.{flat_map-append}
use Rattle.std.proofs.lemmas.List.Folds.{list_any-append}
use Rattle.std.proofs.lemmas.List.Splits.{join_with_byte-slice_split}
use Rattle.std.proofs.lemmas.Option.{same_Some}
use Rattle.std.proofs.lemmas.Slice.Eq.{bytes_eq-Decides}
use Rattle.dns_names.proofs.Heads.{then_ok, none_some}
use Rattle.client_request.specs.declared.event.Event.{Event}
use Rattle.client_request.specs.declared.event.Out.{Out}
use Rattle.client_request.specs.declared.event.Row.{Row}
use Rattle.dns_script.specs.declared.trace_lines.TraceEntry.{TraceEntry}
use Rattle.dns_script.specs.declared.trace_lines.TraceEntry.TheVariants as entry
use Rattle.dns_script.specs.declared.trace_lines.TraceStage.TheVariants as stage
use Rattle.dns_script.specs.declared.trace_lines.TraceReader.{TraceReader}
use Rattle.dns_script.specs.Lines.{event_line, out_line}
use Rattle.dns_script.specs.TraceReading.{IsTrace, entry_of, line_at, nothing_read, with_entry, with_line, with_lines}
use Rattle.dns_script.specs.TraceText.{first_line, has_stale, have_stale, last_line, row_text, says_stale, trace_text_of}
use Rattle.dns_script.proofs.Joined.{ended}
use Rattle.dns_script.proofs.TakenLines.{entry_is, entry_words}
use Rattle.dns_script.proofs.Versions.{not_refused, one_stale_more, or_none, still_allowed, version_at_end}

pub ended_lines : (lines : List (List ℕ)) → join_with_byte 10 (lines ++ [] ∷ []) ≡ flat_map ended lines
ended_lines [] = refl
ended_lines (l ∷ []) = sym (append-nil (l ++ 10 ∷ []))
ended_lines (l ∷ m ∷ more) = ap (λ t. l ++ 10 ∷ t) (ended_lines (m ∷ more)) ∙ sym (append_assoc l (10 ∷ []) (flat_map ended (m ∷ more)))

-- the rows so far
abbrev pub rows_so_far : TraceReader → List Row
rows_so_far r = r.rows ++ option_to_list r.row

abbrev bare_row : Event → Row
bare_row event = record { event = event; outs = [] }

abbrev with_out : Row → Out → Row
with_out row out = record row { outs = row.outs ++ out ∷ [] }

-- what a line makes of the reader
abbrev at_last : TraceReader → TraceReader
at_last s = record s { stage = stage.Ended; rows = s.rows ++ option_to_list s.row; row = None }

abbrev with_came : Event → TraceReader → TraceReader
with_came event s = record s { rows = s.rows ++ option_to_list s.row; row = Some (bare_row event) }

abbrev with_put : Out → TraceReader → Row → TraceReader
with_put out s row = record s { row = Some (with_out row out); has_stale = s.has_stale || says_stale out }

abbrev put_more : Out → TraceReader → Option Row → Option TraceReader
put_more out s o = option_map {U = TraceReader} (with_put out s) o

came_text : (rows : List Row) (event : Event) → flat_map row_text (rows ++ bare_row event ∷ []) ≡ flat_map row_text rows ++ event_line event
came_text rows event = flat_map-append row_text rows (bare_row event ∷ []) ∙ ap (λ t. flat_map row_text rows ++ t) (append-nil (event_line event ++ []) ∙ append-nil (event_line event))

put_text : (rows : List Row) (row : Row) (out : Out) → flat_map row_text (rows ++ with_out row out ∷ []) ≡ flat_map row_text (rows ++ row ∷ []) ++ out_line out
put_text rows row out =
    let E : List ℕ = event_line row.event in
    let O : List ℕ = flat_map out_line row.outs in
    let R : List ℕ = flat_map row_text rows in
    let more : flat_map out_line (row.outs ++ out ∷ []) ≡ O ++ out_line out = flat_map-append out_line row.outs (out ∷ []) ∙ ap (λ t. O ++ t) (append-nil (out_line out)) in
    flat_map-append row_text rows (with_out row out ∷ []) ∙ ap (λ t. R ++ t) (append-nil (E ++ flat_map out_line (row.outs ++ out ∷ [])) ∙ ap (λ t. E ++ t) more ∙ sym (append_assoc E O (out_line out)))
    ∙ sym (append_assoc R (E ++ O) (out_line out)) ∙ ap (λ t. t ++ out_line out) (ap (λ t. R ++ t) (sym (append-nil (E ++ O))) ∙ sym (flat_map-append row_text rows (row ∷ [])))

-- what the reader has read, behind the first line
abbrev Told : TraceReader → List (List ℕ) → TraceReader → Type 0
Told s lines t = flat_map row_text (rows_so_far s) ++ flat_map ended lines ≡ flat_map row_text t.rows ++ last_line

nothing_behind : (lines : List (List ℕ)) (s t : TraceReader) → s.stage ≡ stage.Ended → with_lines lines s ≡ Some t → (lines ≡ []) × (s ≡ t)
nothing_behind [] s t end e = (refl, same_Some s t e)
nothing_behind (l ∷ lines) s t end e =
    let next = then_ok (with_line l s) (with_lines lines) t e in
    none_some (subst (λ g. line_at g l s ≡ Some next.0) end next.1)

told_end : (lines : List (List ℕ)) (s next t : TraceReader) → with_entry entry.End s ≡ Some next → with_lines lines next ≡ Some t → flat_map row_text (rows_so_far s) ++ (last_line ++ flat_map ended lines) ≡ flat_map row_text t.rows ++ last_line
told_end lines s next t made e =
    let is = same_Some (at_last s) next (not_refused (s.is_second && not s.has_stale) (Some (at_last s)) next made).1 in
    let rest = nothing_behind lines next t (sym (ap (λ (r : TraceReader). r.stage) is)) e in
    ap (λ ls. flat_map row_text (rows_so_far s) ++ (last_line ++ flat_map ended ls)) rest.0
    ∙ ap (λ (r : TraceReader). flat_map row_text r.rows ++ last_line) (is ∙ rest.1)

told_by : (x : TraceEntry) (lines : List (List ℕ)) (s next t : TraceReader) → s.stage ≡ stage.Inside → with_entry x s ≡ Some next → with_lines lines next ≡ Some t
    → ((r : TraceReader) → r.stage ≡ stage.Inside → with_lines lines r ≡ Some t → Told r lines t)
    → flat_map row_text (rows_so_far s) ++ (ended (join_with_byte 32 (entry_words x)) ++ flat_map ended lines) ≡ flat_map row_text t.rows ++ last_line
told_by entry.End lines s next t inside made e more = told_end lines s next t made e
told_by (entry.Came event) lines s next t inside made e more =
    let is = same_Some (with_came event s) next made in
    sym (append_assoc (flat_map row_text (rows_so_far s)) (event_line event) (flat_map ended lines))
    ∙ ap (λ x. x ++ flat_map ended lines) (sym (came_text (rows_so_far s) event) ∙ ap (λ (r : TraceReader). flat_map row_text (rows_so_far r)) is)
    ∙ more next (sym (ap (λ (r : TraceReader). r.stage) is) ∙ inside) e
told_by (entry.Put out) lines s next t inside made e more = put s.row refl (not_refused (says_stale out && not s.is_second) (put_more out s s.row) next made).1
  where
    put : (o : Option Row) → s.row ≡ o → put_more out s o ≡ Some next
        → flat_map row_text (rows_so_far s) ++ (out_line out ++ flat_map ended lines) ≡ flat_map row_text t.rows ++ last_line
    put None row made = none_some made
    put (Some r) row made =
        let is = same_Some (with_put out s r) next made in
        let so_far : rows_so_far s ≡ s.rows ++ r ∷ [] = ap (λ o. s.rows ++ option_to_list o) row in
        ap (λ rs. flat_map row_text rs ++ (out_line out ++ flat_map ended lines)) so_far
        ∙ sym (append_assoc (flat_map row_text (s.rows ++ r ∷ [])) (out_line out) (flat_map ended lines))
        ∙ ap (λ x. x ++ flat_map ended lines) (sym (put_text s.rows r out) ∙ ap (λ (r : TraceReader). flat_map row_text (rows_so_far r)) is)
        ∙ more next (sym (ap (λ (r : TraceReader). r.stage) is) ∙ inside) e

told : (lines : List (List ℕ)) (s t : TraceReader) → t.stage ≡ stage.Ended → s.stage ≡ stage.Inside → with_lines lines s ≡ Some t → Told s lines t
told [] s t end inside e =
    let same : s ≡ t = same_Some s t e in
    let both : stage.Inside ≡ stage.Ended = sym inside ∙ ap (λ (r : TraceReader). r.stage) same ∙ end in
    absurd cc
told (l ∷ lines) s t end inside e =
    let next = then_ok (with_line l s) (with_lines lines) t e in
    let x = then_ok (entry_of l) (λ x. with_entry x s) next.0 (subst (λ g. line_at g l s ≡ Some next.0) inside next.1) in
    ap (λ w. flat_map row_text (rows_so_far s) ++ (ended w ++ flat_map ended lines)) (entry_is l x.0 x.1)
    ∙ told_by x.0 lines s next.0 t inside x.2 next.2 (λ r within f. told lines r t end within f)

-- ---- the version

-- What was read so far of a text of this version: whether a reply is stale, which none is in a text of the first.
record IsMarked (second : Bool) (r : TraceReader) : Type 0 where
  pub stale : r.has_stale ≡ have_stale (rows_so_far r)
  pub version : r.is_second ≡ second
  pub allowed : r.has_stale ≡ true → second ≡ true

came_marks : (second : Bool) (event : Event) (s : TraceReader) → IsMarked second s → IsMarked second (with_came event s)
came_marks second event s m = record {
  stale = m.stale ∙ sym (or_none (have_stale (rows_so_far s))) ∙ sym (list_any-append has_stale (rows_so_far s) (bare_row event ∷ []));
  version = m.version;
  allowed = m.allowed;
}

put_marks : (second : Bool) (out : Out) (s : TraceReader) (row : Row) → IsMarked second s → s.row ≡ Some row → (says_stale out && not s.is_second) ≡ false → IsMarked second (with_put out s row)
put_marks second out s row m is none = record {
  stale =
      ap (λ b. b || says_stale out) (m.stale ∙ ap (λ o. have_stale (s.rows ++ option_to_list o)) is ∙ list_any-append has_stale s.rows (row ∷ []))
      ∙ one_stale_more (have_stale s.rows) (has_stale row) (says_stale out)
      ∙ ap (λ b. have_stale s.rows || (b || false)) (sym (list_any-append says_stale row.outs (out ∷ [])))
      ∙ sym (list_any-append has_stale s.rows (with_out row out ∷ []));
  version = m.version;
  allowed = still_allowed s.has_stale (says_stale out) second m.allowed (subst (λ b. (says_stale out && not b) ≡ false) m.version none);
}

last_marks : (second : Bool) (lines : List (List ℕ)) (s next t : TraceReader) → IsMarked second s → with_entry entry.End s ≡ Some next → with_lines lines next ≡ Some t → have_stale t.rows ≡ second
last_marks second lines s next t m made e =
    let at = not_refused (s.is_second && not s.has_stale) (Some (at_last s)) next made in
    let is = same_Some (at_last s) next at.1 in
    let rest = nothing_behind lines next t (sym (ap (λ (r : TraceReader). r.stage) is)) e in
    sym (ap (λ (r : TraceReader). have_stale r.rows) (is ∙ rest.1)) ∙ sym m.stale
    ∙ version_at_end s.has_stale second m.allowed (subst (λ b. (b && not s.has_stale) ≡ false) m.version at.0)

marks_by : (x : TraceEntry) (second : Bool) (lines : List (List ℕ)) (s next t : TraceReader) → s.stage ≡ stage.Inside → IsMarked second s → with_entry x s ≡ Some next → with_lines lines next ≡ Some t
    → ((r : TraceReader) → r.stage ≡ stage.Inside → IsMarked second r → with_lines lines r ≡ Some t → have_stale t.rows ≡ second)
    → have_stale t.rows ≡ second
marks_by entry.End second lines s next t inside m made e more = last_marks second lines s next t m made e
marks_by (entry.Came event) second lines s next t inside m made e more =
    let is = same_Some (with_came event s) next made in
    more next (sym (ap (λ (r : TraceReader). r.stage) is) ∙ inside) (subst (IsMarked second) is (came_marks second event s m)) e
marks_by (entry.Put out) second lines s next t inside m made e more = put s.row refl at.1
  where
    at : ((says_stale out && not s.is_second) ≡ false) × (put_more out s s.row ≡ Some next)
    at = not_refused (says_stale out && not s.is_second) (put_more out s s.row) next made

    put : (o : Option Row) → s.row ≡ o → put_more out s o ≡ Some next → have_stale t.rows ≡ second
    put None row made = none_some made
    put (Some r) row made =
        let is = same_Some (with_put out s r) next made in
        more next (sym (ap (λ (r : TraceReader). r.stage) is) ∙ inside) (subst (IsMarked second) is (put_marks second out s r m row at.0)) e

-- The rows of a text have a stale reply exactly in one of the second version.
version_is : (second : Bool) (lines : List (List ℕ)) (s t : TraceReader) → t.stage ≡ stage.Ended → s.stage ≡ stage.Inside → IsMarked second s → with_lines lines s ≡ Some t → have_stale t.rows ≡ second
version_is second [] s t end inside m e =
    let same : s ≡ t = same_Some s t e in
    let both : stage.Inside ≡ stage.Ended = sym inside ∙ ap (λ (r : TraceReader). r.stage) same ∙ end in
    absurd cc
version_is second (l ∷ lines) s t end inside m e =
    let next = then_ok (with_line l s) (with_lines lines) t e in
    let x = then_ok (entry_of l) (λ x. with_entry x s) next.0 (subst (λ g. line_at g l s ≡ Some next.0) inside next.1) in
    marks_by x.0 second lines s next.0 t inside m x.2 next.2 (λ r within marked f. version_is second lines r t end within marked f)

-- ---- the whole text

-- behind the first line of a text of this version
abbrev begun : (second : Bool) → TraceReader
begun second = record nothing_read { stage = stage.Inside; is_second = second }

none_marked : (second : Bool) → IsMarked second (begun second)
none_marked second = record { stale = refl; version = refl; allowed = λ is. absurd cc }

text_from : (second : Bool) (l : List ℕ) (lines : List (List ℕ)) (next t : TraceReader) → ended l ≡ first_line second → begun second ≡ next → with_lines lines next ≡ Some t → t.stage ≡ stage.Ended
    → ended l ++ flat_map ended lines ≡ trace_text_of t.rows
text_from second l lines next t first is e end =
    let read : with_lines lines (begun second) ≡ Some t = subst (λ r. with_lines lines r ≡ Some t) (sym is) e in
    ap (λ w. w ++ flat_map ended lines) first
    ∙ ap (λ t. first_line second ++ t) (told lines (begun second) t end refl read)
    ∙ ap (λ b. first_line b ++ (flat_map row_text t.rows ++ last_line)) (sym (version_is second lines (begun second) t end refl (none_marked second) read))
    ∙ sym (append_assoc (first_line (have_stale t.rows)) (flat_map row_text t.rows) last_line)

lines_are_text : (lines : List (List ℕ)) (t : TraceReader) → with_lines lines nothing_read ≡ Some t → t.stage ≡ stage.Ended → flat_map ended lines ≡ trace_text_of t.rows
lines_are_text [] t e end =
    let both : stage.Begin ≡ stage.Ended = ap (λ (r : TraceReader). r.stage) (same_Some nothing_read t e) ∙ end in
    absurd cc
lines_are_text (l ∷ lines) t e end = by (bytes_eq l (codes "trace 1")) refl (bytes_eq l (codes "trace 2")) refl next.1
  where
    next : (s : TraceReader) × (with_line l nothing_read ≡ Some s) × (with_lines lines s ≡ Some t)
    next = then_ok (with_line l nothing_read) (with_lines lines) t e

    by : (b : Bool) → bytes_eq l (codes "trace 1") ≡ b → (c : Bool) → bytes_eq l (codes "trace 2") ≡ c → (if b then Some (begun false) else (if c then Some (begun true) else None)) ≡ Some next.0
        → ended l ++ flat_map ended lines ≡ trace_text_of t.rows
    by true one c two made = text_from false l lines next.0 t (ap ended ((bytes_eq-Decides l (codes "trace 1")).0 one)) (same_Some _ _ made) next.2 end
    by false one true two made = text_from true l lines next.0 t (ap ended ((bytes_eq-Decides l (codes "trace 2")).0 two)) (same_Some _ _ made) next.2 end
    by false one false two made = none_some made

pub read_is_text : (text : List ℕ) (rows : List Row) → IsTrace text rows → text ≡ trace_text_of rows
read_is_text text rows h =
    sym (join_with_byte-slice_split 10 text) ∙ ap (join_with_byte 10) h.split ∙ ended_lines h.lines ∙ lines_are_text h.lines h.reader h.read h.ended ∙ ap trace_text_of (sym h.says)
