-- How many requests each server gets in a burst, and which servers a request may be started at. Times are in microseconds.
use Rattle.std.specs.Prelude.{ℕ, zero, suc, ◌+◌, ◌-◌, nat_lt, Bool, true, if◌then◌else◌, List, [], ◌∷◌, ◌++◌, length, set, slice_get, Option, Some, None}
use Rattle.client_choice.specs.BalancerSettings.{BurstSettings}
use Rattle.client_choice.specs.Servers.{Server}
use Rattle.client_choice.specs.Stats.{estimate}
use Rattle.client_choice.specs.declared.candidates.Candidate.{Candidate}

-- The limit of a server: when its burst began, and how many requests had been started there before.
pub record Limit : Type 0 where
  pub settings : BurstSettings
  pub since : ℕ
  pub before : ℕ

abbrev pub fresh_limit : BurstSettings → Limit
fresh_limit settings = record { settings = settings; since = 0; before = 0 }

-- a burst begins anew where the last one began too long ago
abbrev pub renewed : (now starts : ℕ) → Limit → Limit
renewed now starts l = if nat_lt l.settings.burst_interval (now - l.since) then record l { since = now; before = starts } else l

abbrev pub restarted_by : Option ℕ → (now starts : ℕ) → Limit → Limit
restarted_by None now starts l = l
restarted_by (Some most) now starts l = renewed now starts l

abbrev pub restarted : (now starts : ℕ) → Limit → Limit
restarted now starts l = restarted_by l.settings.max_burst now starts l

-- whether the burst may have a request more
abbrev pub has_room_by : Option ℕ → (in_burst : ℕ) → Bool
has_room_by None in_burst = true
has_room_by (Some most) in_burst = nat_lt in_burst most

abbrev pub has_room : (starts : ℕ) → Limit → Bool
has_room starts l = has_room_by l.settings.max_burst (starts - l.before)

-- the limits, and the servers that a request may be started at
pub record Survey : Type 0 where
  pub limits : List Limit
  pub candidates : List Candidate

abbrev pub survey_of : List Limit → List Candidate → Survey
survey_of limits candidates = record { limits = limits; candidates = candidates }

module _ {U : Type 0} where
  -- what is known of a server
  abbrev pub candidate : (index : ℕ) → Server U → Candidate
  candidate index s = record { server = index; queue = length s.waiting; estimate = estimate s.stats }

  abbrev pub joined : (index : ℕ) → Server U → Limit → List Candidate → List Candidate
  joined index s l candidates = if has_room s.starts l then candidates ++ candidate index s ∷ [] else candidates

  abbrev pub with_limit : (index : ℕ) → Server U → Limit → Survey → Survey
  with_limit index s l y = record { limits = set y.limits index l; candidates = joined index s l y.candidates }

  -- A server is left out where its burst has reached its limit. Before that is tested its burst may begin anew.
  abbrev pub surveys_found : (now index : ℕ) → Option (Server U) → Option Limit → Survey → Survey
  surveys_found now index None limit y = y
  surveys_found now index (Some s) None y = y
  surveys_found now index (Some s) (Some l) y = with_limit index s (restarted now s.starts l) y

  abbrev pub surveys_one : (now index : ℕ) → List (Server U) → Survey → Survey
  surveys_one now index servers y = surveys_found now index (slice_get servers index) (slice_get y.limits index) y

  -- so many servers, from one on
  abbrev pub surveys : (now index count : ℕ) → List (Server U) → Survey → Survey
  surveys now index zero servers y = y
  surveys now index (suc count) servers y = surveys now (index + 1) count servers (surveys_one now index servers y)

  abbrev pub surveyed : ℕ → List (Server U) → List Limit → Survey
  surveyed now servers limits = surveys now 0 (length servers) servers (survey_of limits [])
