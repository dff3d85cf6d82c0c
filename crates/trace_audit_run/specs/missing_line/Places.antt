-- Which request was sent or written last at a place.
use Rattle.std.specs.Prelude.{ℕ, ◌==◌, if◌then◌else◌, List, [], ◌∷◌, Option, Some}
use Rattle.client_request.specs.declared.event.{Out.Out, Row.Row}
use Rattle.client_request.specs.declared.event.Out.TheVariants.{Send, Write}

-- the last one, once this is put out
abbrev pub last_with : (p : ℕ) → Out → Option ℕ → Option ℕ
last_with p (Send q k i o) last = if q == p then Some k else last
last_with p (Write q k i o) last = if q == p then Some k else last
last_with p _ last = last

abbrev pub last_among : (p : ℕ) → List Out → Option ℕ → Option ℕ
last_among p [] last = last
last_among p (o ∷ os) last = last_among p os (last_with p o last)

-- the last one in these rows
abbrev pub last_at : (p : ℕ) → List Row → Option ℕ → Option ℕ
last_at p [] last = last
last_at p (row ∷ rows) last = last_at p rows (last_among p row.outs last)
