-- The text of a trace, row by row.
use Rattle.std.proofs.Common.{◌≡◌, ℕ, Bool, true, false, ◌||◌, List, [], ◌∷◌, ◌++◌, refl, ap, sym, ◌∙◌, append_assoc, append-nil}
use Rattle.std.specs.List.{flat_map}
use Rattle.client_request.specs.declared.event.Row.{Row}
use Rattle.dns_script.specs.TraceText.{IsOfFirst, behind_first, first_line, has_stale, have_stale, last_line, row_text, trace_text_of}
use Rattle.dns_script.specs.declared.script.Script.{Script}
use Rattle.dnsq_run.specs.Program.{IsPlayed, IsTextOf, IsTold}

rows_told : (rows : List Row) (row : Row) → flat_map row_text (rows ++ row ∷ []) ≡ flat_map row_text rows ++ row_text row
rows_told [] row = append-nil (row_text row)
rows_told (r ∷ rows) row = ap (λ (xs : List ℕ). row_text r ++ xs) (rows_told rows row) ∙ sym (append_assoc (row_text r) (flat_map row_text rows) (row_text row))

or_none : (a : Bool) → (a || false) ≡ a
or_none true = refl
or_none false = refl

or_later : (a b c : Bool) → (a || (b || c)) ≡ ((a || b) || c)
or_later true b c = refl
or_later false b c = refl

stale_so_far : (rows : List Row) (row : Row) → have_stale (rows ++ row ∷ []) ≡ (have_stale rows || has_stale row)
stale_so_far [] row = or_none (has_stale row)
stale_so_far (r ∷ rows) row = ap (λ (b : Bool). has_stale r || b) (stale_so_far rows row) ∙ or_later (has_stale r) (have_stale rows) (has_stale row)

-- One more row is told behind those before.
pub more_told : (text out : List ℕ) (stale after : Bool) (row : Row) → out ≡ text ++ row_text row → after ≡ (stale || has_stale row)
    → (rows : List Row) → IsTextOf text stale rows → IsTextOf out after (rows ++ row ∷ [])
more_told text out stale after row adds is rows so = record {
  octets =
      adds
      ∙ ap (λ (xs : List ℕ). xs ++ row_text row) so.octets
      ∙ append_assoc (first_line false) (flat_map row_text rows) (row_text row)
      ∙ ap (λ (xs : List ℕ). first_line false ++ xs) (sym (rows_told rows row));
  told = is ∙ ap (λ (b : Bool). b || has_stale row) so.told ∙ sym (stale_so_far rows row);
}

-- Such a text begins with the first line of the first version, whatever stands behind.
pub is_of_first : (text more : List ℕ) (stale : Bool) (rows : List Row) → IsTextOf text stale rows → IsOfFirst (text ++ more)
is_of_first text more stale rows so =
    let whole : text ++ more ≡ first_line false ++ (flat_map row_text rows ++ more) = ap (λ (t : List ℕ). t ++ more) so.octets ∙ append_assoc (first_line false) (flat_map row_text rows) more in
    whole ∙ ap (λ (t : List ℕ). first_line false ++ t) (sym (ap behind_first whole))

-- the text with its first line set
pub whole_text : (text out : List ℕ) (stale : Bool) → out ≡ first_line stale ++ behind_first (text ++ last_line) → (rows : List Row) → IsTextOf text stale rows → out ≡ trace_text_of rows
whole_text text out stale set rows so =
    let whole : text ++ last_line ≡ first_line false ++ (flat_map row_text rows ++ last_line) = ap (λ (t : List ℕ). t ++ last_line) so.octets ∙ append_assoc (first_line false) (flat_map row_text rows) last_line in
    set
    ∙ ap (λ (t : List ℕ). first_line stale ++ behind_first t) whole
    ∙ ap (λ (b : Bool). first_line b ++ (flat_map row_text rows ++ last_line)) so.told
    ∙ sym (append_assoc (first_line (have_stale rows)) (flat_map row_text rows) last_line)

-- what was written is told of the script
pub is_told : (script : Script) (text : List ℕ) (rows : List Row) → IsPlayed script rows → text ≡ trace_text_of rows → IsTold script text
is_told script text rows played says = record {
  rows = rows;
  plain = played.plain;
  right = played.right;
  timely = played.timely;
  hits = played.hits;
  stale = played.stale;
  says = says;
}
