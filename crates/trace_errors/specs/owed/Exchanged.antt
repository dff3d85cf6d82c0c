-- What a forward pass keeps of where a request was sent or written, and under which ids.
use Rattle.std.specs.Prelude.{ℕ, List, [], ◌∷◌}
use Rattle.client_request.specs.Request.{Request}
use Rattle.client_request.specs.declared.event.{Event.Event, Out.Out}
use Rattle.client_request.specs.declared.event.Out.TheVariants.{Send, Write}
use Rattle.right_trace.specs.Trace.{History, Came, Put, Conf}
use Rattle.right_trace.specs.{Messages.Octets, Parts.IsIn, Writes.waiting_with}
use Rattle.right_trace.specs.Exchanges.{unanswered, octets_for, IsAmong}
use Rattle.trace_tables.specs.Lists.{listed, adds}
use Rattle.trace_errors.specs.declared.owed.exchanged.Exchange.{Exchange}

-- by request
abbrev pub Exchanged : Type 0
Exchanged = List (ℕ × List Exchange)

abbrev pub has_put : Out → Exchanged → Exchanged
has_put (Send p k i o) t = adds k (record { place = p; id = i }) t
has_put (Write p k i o) t = adds k (record { place = p; id = i }) t
has_put _ t = t

-- all that may be waited for is kept
pub record Known (c : Conf) (h : History) (t : Exchanged) : Type 0 where
  pub sends : (r : Request) (k p id n : ℕ) (o : Octets) → IsAmong o (unanswered c r p k id n h) → IsIn (record { place = p; id = id }) (listed k t)
  pub writes : (ms : List Octets) (k p id : ℕ) (o : Octets) → IsAmong o (octets_for k (waiting_with ms p id h)) → IsIn (record { place = p; id = id }) (listed k t)

-- it is known before the first row, and goes on over events and outs
pub record GoesOn (c : Conf) : Type 0 where
  pub begins : Known c [] []
  pub event : (h : History) (t : Exchanged) (e : Event) → Known c h t → Known c (Came e ∷ h) t
  pub out : (h : History) (t : Exchanged) (o : Out) → Known c h t → Known c (Put o ∷ h) (has_put o t)
