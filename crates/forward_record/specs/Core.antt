-- The client within a forwarder, recorded.
use Rattle.std.specs.Prelude.{◌≡◌, ℕ, List, [], ◌∷◌, Bool, Option}
use Rattle.client_request.specs.Request.{Request}
use Rattle.client_request.specs.declared.event.Event.{Event}
use Rattle.client_request.specs.declared.event.Moment.{Moment}
use Rattle.client_request.specs.declared.event.Row.{Row}
use Rattle.client_steps.specs.Whole.{Whole}
use Rattle.dns_record.specs.Recording.{Keeps, Recording, Takes}
use Rattle.front_core.specs.Core.{core_serves}
use Rattle.right_trace.specs.InOctets.{IsInOctets}
use Rattle.right_trace.specs.Timely.{IsAskedInOctets}

-- a client, what records it, and the sink to which it is recorded
pub record RecordedClient (K : Type 0) : Type 0 where
  pub client : Whole
  pub recorder : Recording
  pub sink : K

-- A step of the client, where this is what a sink holds: with the words that were written while the record goes on and those of its own source behind that; its row is
-- recorded, and what is asked and what came is made of octets.
pub record IsRecordedStep {K : Type 0} (held : K → Option (List ℕ)) (old : RecordedClient K) (words : ℕ → ℕ) (event : Event) (row : Row) (new : RecordedClient K) (left : ℕ → ℕ) : Type 0 where
  pub takes : Takes old.recorder.ended old.recorder.words new.recorder.words words left event old.client row new.client
  pub keeps : Keeps (row ∷ []) (held old.sink) old.recorder old.client (held new.sink) new.recorder new.client
  pub timeout : new.client.timeout ≡ old.client.timeout
  pub asked : IsAskedInOctets row.event.what
  pub comes : IsInOctets row.event.what

-- What the cache keeps serves a request that is asked at a moment.
abbrev pub serves : {K : Type 0} → RecordedClient K → Moment → Request → Bool
serves c moment request = core_serves c.client moment request
