-- Why a record ended, or did not begin, as it is told.
use Rattle.std.specs.Prelude.{ℕ, List, codes}
use Rattle.dns_record.specs.declared.ended.Ended.{Ended}
use Rattle.dns_record.specs.declared.ended.Ended.TheVariants as endings
use Rattle.dns_record.specs.declared.ended.Refused.{Refused}
use Rattle.dns_record.specs.declared.ended.Refused.TheVariants as refusals

abbrev pub ended_text : Ended → List ℕ
ended_text endings.Full = codes "it is full"
ended_text endings.WordsUsed = codes "few of the words that were written ahead are left"
ended_text endings.SinkFailed = codes "it could not be written"
ended_text endings.ServerAdded = codes "a server was added"
ended_text endings.Untold = codes "an event can't be told"
ended_text endings.NoMemory = codes "memory ran out"

abbrev pub refused_text : Refused → List ℕ
refused_text refusals.Server = codes "one server is asked by streams alone, and another is not"
refused_text refusals.Timeout = codes "the time for a request is no whole number of seconds"
refused_text refusals.Settings = codes "a setting of the cache is outside its limits"
refused_text refusals.Transports = codes "a setting of transports is outside its limits"
refused_text refusals.Full = codes "there is no room for what stands before the first event"
refused_text refusals.SinkFailed = codes "it could not be made or written"
refused_text refusals.NoMemory = codes "memory ran out"
