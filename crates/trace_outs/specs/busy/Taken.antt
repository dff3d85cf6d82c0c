-- Which datagram places others than a request have taken, as it is known.
use Rattle.std.specs.Prelude.{ℕ, Bool}
use Rattle.number_table.specs.Entries.{entry_at}
use Rattle.right_trace.specs.Busy.{is_taken}
use Rattle.trace_tables.specs.declared.books.Books.{Books}
use Rattle.trace_tables.specs.{Known.stand_seen, Lists.listed, Sends.last_of}

-- place p opens, or another request than k was sent there
abbrev pub taken_seen : (k : ℕ) → Books → (p : ℕ) → Bool
taken_seen k b p = is_taken k (stand_seen (entry_at p b.places)) (last_of (listed p b.sends.sent))
