-- The times of a zone, as its file has them.
use Rattle.std.specs.Prelude.{ℕ, ◌+◌, ◌-◌, List, length, nat_lt, find, if◌then◌else◌, Option, None, Some}
use Rattle.dns_base.specs.Numbers.{u32_at}
use Rattle.zone_records.specs.Records.{is_soa}
use Rattle.zone_records.specs.declared.record.ZoneRecord.{ZoneRecord}
use Rattle.zone_refresh.specs.declared.kept.ZoneTimers.{ZoneTimers}

-- the numbers of an SOA, which end its data (RFC 1035 3.3.13)
abbrev pub timers_at : List ℕ → (at : ℕ) → ZoneTimers
timers_at octets at = record {
  serial = record { 0 = u32_at octets at };
  refresh = record { 0 = u32_at octets (at + 4) };
  retry = record { 0 = u32_at octets (at + 8) };
  expire = record { 0 = u32_at octets (at + 12) };
}

abbrev pub timers_of : List ℕ → Option ZoneTimers
timers_of octets = if nat_lt (length octets) 20 then None else Some (timers_at octets (length octets - 20))

abbrev pub timers_in : Option ZoneRecord → Option ZoneTimers
timers_in None = None
timers_in (Some soa) = timers_of soa.rdata

-- those of the first SOA among records
abbrev pub timers_among : List ZoneRecord → Option ZoneTimers
timers_among records = timers_in (find is_soa records)
