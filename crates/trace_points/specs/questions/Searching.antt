-- What is found by going through a table of places.
use Rattle.std.specs.Prelude.{◌≡◌, ℕ, ◌==◌, ◌&&◌, ◌||◌, Bool, true, false, List, [], ◌∷◌, Option, Some, None}
use Rattle.number_table.specs.Entries.{entry_at}
use Rattle.client_request.specs.declared.event.Via.TheVariants.{Stream}
use Rattle.right_trace.specs.{Trace.History, Requests.same_via}
use Rattle.right_trace.specs.Places.{Opening, is_at, stand, is_live, is_opening}
use Rattle.trace_tables.specs.declared.places.Place.{Place}
use Rattle.trace_tables.specs.Tables.{Table}
use Rattle.trace_tables.specs.Known.{Known, stand_of, stand_seen}

abbrev pub live_seen : Option Place → Bool
live_seen x = is_live (stand_seen x)

abbrev pub opening_stream : (s : ℕ) → Option Place → Bool
opening_stream s None = false
opening_stream s (Some x) = same_via x.via Stream && (x.server == s) && is_opening (stand_of x.stand)

-- the entry of some key of these passes
abbrev pub some_entry : (Option Place → Bool) → Table → List (ℕ × Place) → Bool
some_entry f t [] = false
some_entry f t (e ∷ es) = f (entry_at e.0 t) || some_entry f t es

-- no stream place of server s is opening, as the definitions of a right trace say it
abbrev pub NoneOpens : (s : ℕ) → History → Type 0
NoneOpens s h = (p : ℕ) → is_at Stream s p h ≡ true → stand p h ≡ Opening → ⊥

abbrev pub SearchDecides : Type 0
SearchDecides = (h : History) (t : Table) (s : ℕ) → Known h t → (some_entry (opening_stream s) t t ≡ false → NoneOpens s h) × (some_entry (opening_stream s) t t ≡ true → NoneOpens s h → ⊥)
