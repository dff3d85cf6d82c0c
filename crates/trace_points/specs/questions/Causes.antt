-- A failed opening as a cause.
use Rattle.std.specs.Prelude.{◌≡◌, ℕ, ◌&&◌, Bool, true, false, if◌then◌else◌, Option, Some, None}
use Rattle.number_table.specs.Entries.{entry_at}
use Rattle.client_request.specs.declared.fault.Fault.{Fault}
use Rattle.client_request.specs.declared.event.{What.What, What.TheVariants.OpenFailed, Via.TheVariants.Dgram}
use Rattle.right_trace.specs.{Trace.History, Requests.same_via, Causes.FailedToOpen}
use Rattle.trace_tables.specs.declared.places.{Place.Place, Stand.Stand}
use Rattle.trace_tables.specs.declared.places.Stand.TheVariants.{Opening, Gone}
use Rattle.trace_tables.specs.declared.requests.Requests.{Requests}
use Rattle.trace_tables.specs.Tables.{Table}
use Rattle.trace_tables.specs.Known as places
use Rattle.trace_tables.specs.Requests as requests

abbrev pub is_opening : Stand → Bool
is_opening Opening = true
is_opening _ = false

abbrev pub is_gone : Stand → Bool
is_gone Gone = true
is_gone _ = false

abbrev pub was_opening : (past : Option Place) → (here : Stand) → Bool
was_opening None x = is_gone x
was_opening (Some place) x = is_opening place.stand

abbrev pub is_blamed : (k : ℕ) → Requests → (past : Option Place) → Place → Bool
is_blamed k r past x = was_opening past x.stand && (same_via x.via Dgram && requests.started_seen k x.server Dgram r)

abbrev pub fault_at : (k : ℕ) → Requests → Fault → (past here : Option Place) → Option Fault
fault_at k r f past None = None
fault_at k r f past (Some x) = if is_blamed k r past x then Some f else None

abbrev pub opening_fault : (past here : Table) → Requests → (k : ℕ) → What → Option Fault
opening_fault past here r k (OpenFailed p f) = fault_at k r f (entry_at p past) (entry_at p here)
opening_fault past here r k _ = None

abbrev pub OpeningDecides : Type 0
OpeningDecides = (past h : History) (tp th : Table) (r : Requests) (w : What) (k : ℕ) (f : Fault) → places.Known past tp → places.Known h th → requests.Known h r
    → (opening_fault tp th r k w ≡ Some f → FailedToOpen k f past w h) × (FailedToOpen k f past w h → opening_fault tp th r k w ≡ Some f)
