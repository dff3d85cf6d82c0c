-- Whether what is written to a stream is right where it is put.
use Rattle.std.specs.Prelude.{◌≡◌, ℕ, ◌&&◌, Bool, true, false, not, Option, Some, None}
use Rattle.number_table.specs.Entries.{entry_at}
use Rattle.client_request.specs.declared.event.Via.TheVariants.{Stream}
use Rattle.right_trace.specs.Trace.{History, Conf}
use Rattle.right_trace.specs.{Messages.Octets, Orderly.MayWrite}
use Rattle.trace_tables.specs.declared.books.Books.{Books}
use Rattle.trace_tables.specs.Books as books
use Rattle.trace_tables.specs.Requests.{replied_seen, started_seen}
use Rattle.trace_tables.specs.declared.frames.ledger.Ledger.{Ledger}
use Rattle.trace_tables.specs.frames.Ledger as ledger
use Rattle.trace_tables.specs.frames.Waiting.{free_seen}
use Rattle.trace_points.specs.questions.Outs.{alive_server, carried, Tells}

-- a request may be written at a place of this server
abbrev pub writes_to : Conf → (past : Books) → (here : Ledger) → (k p id : ℕ) → Octets → Option ℕ → Bool
writes_to c past here k p id octets None = false
writes_to c past here k p id octets (Some s) =
    not (replied_seen k past.requests)
    && (started_seen k s Stream here.books.requests && (free_seen p id here.waiting && carried c Stream octets id (entry_at k here.books.requests.askings)))

abbrev pub write_seen : Conf → (past : Books) → (here : Ledger) → (k p id : ℕ) → Octets → Bool
write_seen c past here k p id octets = writes_to c past here k p id octets (alive_server Stream (entry_at p here.books.places))

-- the answer, of every history that the books and the ledger know
abbrev pub TellsWrite : (c : Conf) (past : Books) → (here : Ledger) → (k p id : ℕ) → Octets → Bool → Type 0
TellsWrite c past here k p id o t = (x h : History) → books.Known x past → ledger.Known h here → Tells (MayWrite c k p id o x h) t
