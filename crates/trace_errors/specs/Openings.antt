-- What a forward pass keeps of openings that failed, by server and fault, and of requests that servers have by datagrams: each with its row, and of openings the newest.
use Rattle.std.specs.Prelude.{◌≡◌, ℕ, ◌+◌, ◌*◌, ◌≤◌, ◌&&◌, ◌⊎◌, true, if◌then◌else◌, List, [], ◌∷◌, Option, Some, None}
use Rattle.number_table.specs.Entries.{puts, entry_at}
use Rattle.client_request.specs.declared.error.Error.TheVariants as errors
use Rattle.client_request.specs.declared.error.QueryError.TheVariants as query
use Rattle.client_request.specs.declared.fault.Fault.{Fault}
use Rattle.client_request.specs.declared.fault.Fault.TheVariants as fault
use Rattle.client_request.specs.declared.event.{What.What, What.TheVariants.OpenFailed, Out.Out, Out.TheVariants.Start, Row.Row, Via.TheVariants.Dgram}
use Rattle.right_trace.specs.Trace.{History, Conf, after}
use Rattle.right_trace.specs.Requests.{same_via, started}
use Rattle.right_trace.specs.Parts.{IsIn}
use Rattle.trace_tables.specs.declared.places.Place.{Place}
use Rattle.trace_tables.specs.Tables.{Table}
use Rattle.trace_tables.specs.Lists.{listed, adds}
use Rattle.trace_tables.specs.Books as books
use Rattle.trace_tables.specs.declared.books.Books.{Books}
use Rattle.trace_points.specs.questions.Causes.{was_opening}
use Rattle.trace_errors.specs.declared.openings.{Begun.Begun, Refused.Refused, Openings.Openings}
use Rattle.trace_errors.specs.Rows.{WasCaused}

abbrev pub nothing : Openings
nothing = record { refused = []; begun = []; rows = 0 }

-- an out hands a request to a server by datagrams, in this row
abbrev pub begins : Out → (row : ℕ) → List (ℕ × List Begun) → List (ℕ × List Begun)
begins (Start k s v) n t = if same_via v Dgram then adds k (record { server = s; row = n }) t else t
begins _ n t = t

abbrev pub begin_all : List Out → (row : ℕ) → List (ℕ × List Begun) → List (ℕ × List Begun)
begin_all [] n t = t
begin_all (o ∷ os) n t = begin_all os n (begins o n t)

abbrev pub refused_at : Fault → (past here : Option Place) → Option Refused
refused_at f past None = None
refused_at f past (Some x) = if was_opening past x.stand && same_via x.via Dgram then Some (record { server = x.server; fault = f }) else None

-- the server of a datagram place that failed to open in a row, and the fault
abbrev pub refused_by : (past here : Table) → What → Option Refused
refused_by past here (OpenFailed p f) = refused_at f (entry_at p past) (entry_at p here)
refused_by past here _ = None

-- faults by number, and a server and a fault as one number
abbrev pub number_of : Fault → ℕ
number_of fault.Refused = 0
number_of fault.Reset = 1
number_of fault.Unreachable = 2
number_of fault.InUse = 3
number_of fault.Broken = 4
number_of fault.Other = 5
number_of fault.Expired = 6
number_of fault.ShortSend = 7
number_of fault.NothingTaken = 8
number_of fault.EndOfData = 9

abbrev pub key_of : (s : ℕ) → Fault → ℕ
key_of s f = s * 16 + number_of f

abbrev pub refuses : (row : ℕ) → Option Refused → List (ℕ × ℕ) → List (ℕ × ℕ)
refuses n None t = t
refuses n (Some r) t = puts (key_of r.server r.fault) n t

-- what a row makes of it, over the places before it and behind it
abbrev pub after_row : (past here : Table) → Row → Openings → Openings
after_row past here row t = record {
  refused = refuses (t.rows + 1) (refused_by past here row.event.what) t.refused;
  begun = begin_all row.outs (t.rows + 1) t.begun;
  rows = t.rows + 1;
}

-- it is this row or a later one
abbrev pub IsSince : (row : ℕ) → Option ℕ → Type 0
IsSince n None = ⊥
IsSince n (Some m) = n ≤ m

-- at the server of some of these an opening failed with this fault, in its row or later
abbrev pub IsRefusedAmong : Fault → List (ℕ × ℕ) → List Begun → Type 0
IsRefusedAmong f t [] = ⊥
IsRefusedAmong f t (x ∷ xs) = IsSince x.row (entry_at (key_of x.server f) t) ⊎ IsRefusedAmong f t xs

abbrev pub IsRefused : (k : ℕ) → Fault → Openings → Type 0
IsRefused k f t = IsRefusedAmong f t.refused (listed k t.begun)

-- what is kept is what the definitions say, where rows are done
pub record Known (c : Conf) (h : History) (t : Openings) : Type 0 where
  pub so : (k : ℕ) (f : Fault) → IsRefused k f t → WasCaused c k (errors.Dgram (query.Connect f)) h
  pub back : (k : ℕ) (f : Fault) → WasCaused c k (errors.Dgram (query.Connect f)) h → IsRefused k f t
  pub begun_so : (k : ℕ) (x : Begun) → IsIn x (listed k t.begun) → started k x.server Dgram h ≡ true
  pub begun_back : (k s : ℕ) → started k s Dgram h ≡ true → (x : Begun) × IsIn x (listed k t.begun) × (x.server ≡ s)
  pub begun_by : (k : ℕ) (x : Begun) → IsIn x (listed k t.begun) → x.row ≤ t.rows
  pub refused_by : (q n : ℕ) → entry_at q t.refused ≡ Some n → n ≤ t.rows

-- it is known before the first row, and goes on over rows
pub record GoesOn : Type 0 where
  pub begins : (c : Conf) → Known c [] nothing
  pub row : (c : Conf) (past : History) (row : Row) (b b' : Books) (t : Openings) → books.Known past b → books.Known (after row past) b' → Known c past t → Known c (after row past) (after_row b.places b'.places row t)
