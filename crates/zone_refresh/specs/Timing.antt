-- When something is due for a zone that is kept.
use Rattle.std.specs.Prelude.{ℕ, ◌+◌, ◌-◌, ◌*◌, ◌%◌, ◌^◌, ◌&&◌, min, max, nat_le, nat_lt, Bool, false, if◌then◌else◌, Option, None, Some}
use Rattle.zone_refresh.specs.declared.kept.KeptZone.{KeptZone}
use Rattle.zone_refresh.specs.declared.kept.Phase.{Phase}
use Rattle.zone_refresh.specs.declared.kept.Phase.TheVariants.{Waiting, Asking, Fetching}
use Rattle.zone_refresh.specs.declared.kept.ZoneTimers.{ZoneTimers}

-- so many seconds later, in microseconds, as far as 64 bits count them
abbrev pub after_seconds : (now seconds : ℕ) → ℕ
after_seconds now seconds = min (now + seconds * 1000000) (2 ^ 64 - 1)

-- A serial is greater than another (RFC 1982 3.2): behind it by less than half of all.
abbrev pub distance : (serial held : ℕ) → ℕ
distance serial held = (serial + 2 ^ 32 - held) % 2 ^ 32

abbrev pub is_greater : (serial held : ℕ) → Bool
is_greater serial held = nat_lt 0 (distance serial held) && nat_lt (distance serial held) (2 ^ 31)

-- A zone isn't asked for more often than once a second. Before there is one, it is asked for each minute.
abbrev pub pause : (seconds : ℕ) → ℕ
pause seconds = max seconds 1

abbrev pub retry_of : Option ZoneTimers → ℕ
retry_of None = 60
retry_of (Some timers) = pause timers.retry.0

-- since EXPIRE seconds no primary has said that the zone is what it has (RFC 1034 4.3.5, RFC 1035 3.3.13)
abbrev pub expiry : KeptZone → Option ℕ
expiry zone = expires_at zone.confirmed zone.held
  where
    expires_at : ℕ → Option ZoneTimers → Option ℕ
    expires_at confirmed None = None
    expires_at confirmed (Some timers) = Some (after_seconds confirmed timers.expire.0)

abbrev pub is_past : (now : ℕ) → Option ℕ → Bool
is_past now None = false
is_past now (Some moment) = nat_le moment now

abbrev pub has_expired : (now : ℕ) → KeptZone → Bool
has_expired now zone = is_past now (expiry zone)

-- ---- what is due next

abbrev pub least : Option ℕ → Option ℕ → Option ℕ
least None other = other
least (Some a) None = Some a
least (Some a) (Some b) = Some (min a b)

-- where nothing is asked now, the next asking
abbrev pub asking_due : Phase → Option ℕ
asking_due (Waiting due) = Some due
asking_due (Asking primary) = None
asking_due (Fetching primary) = None

-- the expiry, until it is told
abbrev pub telling_due : KeptZone → Option ℕ
telling_due zone = if zone.told then None else expiry zone

abbrev pub next_due : KeptZone → Option ℕ
next_due zone = least (asking_due zone.phase) (telling_due zone)
