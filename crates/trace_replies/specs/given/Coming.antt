-- Whether a message came for a request in a row and matches it, as a walk over what came finds it.
use Rattle.std.specs.Prelude.{◌≡◌, ℕ, ◌==◌, ◌&&◌, ◌||◌, Bool, false, List, [], ◌∷◌}
use Rattle.right_trace.specs.Trace.{History, Conf}
use Rattle.right_trace.specs.Time.{newest, row_before}
use Rattle.right_trace.specs.{Messages.Octets, Coming.CameFor}
use Rattle.message_judging.specs.matching.Shapes.{same_octets}
use Rattle.trace_tables.specs.declared.books.Books.{Books}
use Rattle.trace_tables.specs.Books as books
use Rattle.trace_tables.specs.declared.frames.ledger.Ledger.{Ledger}
use Rattle.trace_tables.specs.frames.Ledger as ledger
use Rattle.trace_points.specs.declared.exchanges.coming.Coming.{Coming}
use Rattle.trace_points.specs.exchanges.Open.{Open}
use Rattle.trace_points.specs.exchanges.Open as open_sends
use Rattle.trace_errors.specs.promptness.Prompt.{matches}
use Rattle.trace_points.specs.questions.Outs.{Tells}

-- it came for request k with these octets, and matches it
abbrev pub brings : (k : ℕ) → Octets → Coming → Bool
brings k m x = (x.request == k) && (matches x && same_octets x.message m)

abbrev pub some_brings : (k : ℕ) → Octets → List Coming → Bool
some_brings k m [] = false
some_brings k m (x ∷ xs) = brings k m x || some_brings k m xs

-- the answer, of every two histories that the tables know, where the first is what was before the row of the second
abbrev pub TellsCame : Conf → (k : ℕ) → Octets → (past : Books) → Open → (here : Ledger) → Bool → Type 0
TellsCame c k m past sent here b = (x h : History) → row_before h ≡ x → books.Known x past → open_sends.Known c x sent → ledger.Known h here → Tells (CameFor c k m x (newest h) h) b
