-- A worked trace of which an event is cut.
use Rattle.std.specs.Prelude.{List, [], ◌∷◌, ◌++◌, take, drop, map}
use Rattle.client_request.specs.declared.event.Event.{Event}
use Rattle.proof_right.specs.examples.Messages.{frame, answer}
use Rattle.proof_right.specs.examples.Streams.{cut_goes_on}
use Rattle.proof_cutting.specs.Told.{IsCut, bytes_at}

-- what happens in a trace in which an answer by datagram is cut, and the request goes on by stream
abbrev pub events : List Event
events = map (λ row. row.event) cut_goes_on

-- the same, but that the frame comes in three pieces: a length and three octets, nothing, and the rest
abbrev pub in_pieces : List Event
in_pieces = take 6 events ++ map (bytes_at (record { 0 = 20004 }) 1) (take 5 (frame (answer 0 0 100)) ∷ [] ∷ drop 5 (frame (answer 0 0 100)) ∷ [])

pub record WorkedCut : Type 0 where
  pub is_cut : IsCut events in_pieces
