-- What came for a request, in this row and before.
use Rattle.std.specs.Prelude.{◌≡◌, ℕ, true}
use Rattle.client_request.specs.Request.{Request}
use Rattle.client_request.specs.declared.event.What.{What}
use Rattle.client_request.specs.declared.event.Via.{Via}
use Rattle.client_request.specs.declared.event.Via.TheVariants.{Stream}
use Rattle.right_trace.specs.Trace.{History, Conf}
use Rattle.right_trace.specs.Time.{now, EarlierRow, OfRow}
use Rattle.right_trace.specs.Messages.{Octets}
use Rattle.right_trace.specs.Places.{closed_here, site, is_of_kind}
use Rattle.right_trace.specs.Timers.{ReadTimerIsDue}
use Rattle.right_trace.specs.Exchanges.{Matches}

-- In what follows `past` is what happened before the row, `w` is the row's event, `h` is what happened up to here, the row's event and its outs so far included, and `end` is what happened when the row is done.

-- The message's place, a stream place, was closed in this row, by h, and its read timer made it due: it may be passed over.
unfoldable pub IsExcused : (c : Conf) (p : ℕ) (past : History) (w : What) (h : History) → Type 0
IsExcused c p past w h = (closed_here p h ≡ true) × ReadTimerIsDue c p (now h) past × (is_of_kind Stream (site p h) ≡ true)

-- A message came for request k in this row on an exchange open for it, and matches it.
pub record CameFor (c : Conf) (k : ℕ) (m : Octets) (past : History) (w : What) (h : History) : Type 0 where
  pub request : Request
  pub via : Via
  pub server : ℕ
  pub place : ℕ
  pub id : ℕ
  pub matches : Matches c request via server place k id m past w h

-- Some message came for request k in this row, and may not be passed over.
pub record SomeCame (c : Conf) (k : ℕ) (past : History) (w : What) (h : History) : Type 0 where
  pub message : Octets
  pub came : CameFor c k message past w h
  pub counts : IsExcused c came.place past w h → ⊥

-- Of all messages that came for request k and match it, m was the first.
pub data CameFirst (c : Conf) (k : ℕ) (m : Octets) (past : History) (w : What) (h : History) : Type 0 where
  FirstHere : CameFor c k m past w h → (EarlierRow (OfRow (SomeCame c k)) h → ⊥) → CameFirst c k m past w h
  FirstEarlier : EarlierRow (λ e. OfRow (CameFor c k m) e × (EarlierRow (OfRow (SomeCame c k)) e → ⊥)) h → CameFirst c k m past w h

-- no message came for it
pub record NoneCame (c : Conf) (k : ℕ) (past : History) (w : What) (h : History) : Type 0 where
  pub here : SomeCame c k past w h → ⊥
  pub before : EarlierRow (OfRow (SomeCame c k)) h → ⊥
