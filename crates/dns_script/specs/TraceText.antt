-- The text of a trace.
use Rattle.std.specs.Prelude.{◌≡◌, ℕ, Bool, true, false, List, [], ◌∷◌, ◌++◌, drop, codes}
use Rattle.std.specs.List.{flat_map, list_any}
use Rattle.client_request.specs.declared.event.Out.{Out}
use Rattle.client_request.specs.declared.event.Out.TheVariants.{Stale}
use Rattle.client_request.specs.declared.event.Row.{Row}
use Rattle.dns_script.specs.Lines.{line, event_line, out_line}

-- an event and what was put out for it
abbrev pub row_text : Row → List ℕ
row_text row = event_line row.event ++ flat_map out_line row.outs

-- whether this says that a reply is stale
abbrev pub says_stale : Out → Bool
says_stale (Stale request) = true
says_stale out = false

-- whether a row says so
abbrev pub has_stale : Row → Bool
has_stale row = list_any says_stale row.outs

-- whether one of some rows does
abbrev pub have_stale : List Row → Bool
have_stale rows = list_any has_stale rows

-- A text in which a reply is stale is of the second version, and any other of the first.
abbrev pub first_line : (stale : Bool) → List ℕ
first_line false = line (codes "trace" ∷ codes "1" ∷ [])
first_line true = line (codes "trace" ∷ codes "2" ∷ [])

-- what stands behind the first line of a text, and that the text begins with that of the first version
abbrev pub behind_first : List ℕ → List ℕ
behind_first text = drop 8 text

abbrev pub IsOfFirst : List ℕ → Type 0
IsOfFirst text = text ≡ first_line false ++ behind_first text

abbrev pub last_line : List ℕ
last_line = line (codes "end" ∷ [])

-- the first line, each row in order, and the last line
abbrev pub trace_text_of : List Row → List ℕ
trace_text_of rows = first_line (have_stale rows) ++ flat_map row_text rows ++ last_line
