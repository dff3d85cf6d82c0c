-- What a server still owes a request: an exchange that nothing but the request's own reply would end.
use Rattle.std.specs.Prelude.{◌≡◌, ℕ, ◌<◌, true, false, ◌⊎◌, Some, length}
use Rattle.client_request.specs.Request.{Request}
use Rattle.client_request.specs.declared.event.What.{What}
use Rattle.client_request.specs.declared.event.Via.{Via}
use Rattle.right_trace.specs.Trace.{History, Conf}
use Rattle.right_trace.specs.Time.{now}
use Rattle.right_trace.specs.Messages.{Octets, CarriesBy}
use Rattle.right_trace.specs.Requests.{asking, handed as handed_to}
use Rattle.right_trace.specs.Places.{site, stand, Alive, is_told}
use Rattle.right_trace.specs.Frames.{came_here}
use Rattle.right_trace.specs.Exchanges.{waited_for, IsAmong}

-- `past` is what happened before the row, `w` is the row's event, `h` is what happened up to here.

-- Request k was sent at place p of server s under this id, no answer came since (a frame with its id, by stream), and it is waited for; the place is alive, or was when the row began and the event does not tell that it is broken. So a close of the place in this row does not count, but one by the event's fault does.
pub record IsOwed (c : Conf) (s k : ℕ) (past : History) (w : What) (h : History) : Type 0 where
  pub request : Request
  pub via : Via
  pub place : ℕ
  pub id : ℕ
  pub asked : (t : ℕ) × (asking k h ≡ Some (record { request = request; moment = t }))
  pub alive : (stand place h ≡ Alive) ⊎ ((stand place past ≡ Alive) × (is_told place w ≡ false))
  pub at : site place h ≡ Some (record { via = via; server = s })
  pub octets : Octets
  pub sent : IsAmong octets (waited_for c via request s place k id (now h) (came_here place h) h h)
  pub carries : CarriesBy c via octets request id

-- every server has the request, and none owes it an answer
pub record AllAreDone (c : Conf) (k : ℕ) (past : History) (w : What) (h : History) : Type 0 where
  pub handed : (s : ℕ) → s < length c.servers → handed_to k s h ≡ true
  pub over : (s : ℕ) → s < length c.servers → IsOwed c s k past w h → ⊥
