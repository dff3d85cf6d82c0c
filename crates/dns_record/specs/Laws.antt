-- What is written of a client is replayed to its rows.
use Rattle.std.specs.Prelude.{ℕ, List, Option}
use Rattle.client_request.specs.declared.event.Row.{Row}
use Rattle.client_steps.specs.Whole.{Whole}
use Rattle.dns_record.specs.declared.ended.Ended.{Ended}
use Rattle.dns_record.specs.Recording.{HasEnded, Opening, RecordedSo}

-- Whatever was recorded, the sink has the record of the first of the rows, whose replay gives them.
abbrev pub RecordLaw : Type 0
RecordLaw = (o : Opening) (rows : List Row) (held : Option (List ℕ)) (left : List ℕ) (size : ℕ) (ended : Option Ended) (client : Whole) → RecordedSo o rows held left size ended client → HasEnded o rows held
