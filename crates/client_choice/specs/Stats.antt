-- How long a server is expected to take, by how long it took: times in microseconds.
use Rattle.std.specs.Prelude.{ℕ, ◌+◌, ◌-◌, ◌*◌, ◌/◌, ◌≤◌, ◌≡◌, List, [], ◌∷◌, min, nat_lt, if◌then◌else◌}
use Rattle.client_choice.specs.Roots.{isqrt}

-- the times that a server took, and their squares, each averaged
pub record Stats : Type 0 where
  pub mean : ℕ
  pub square : ℕ

-- nothing is known: 300 milliseconds
abbrev pub fresh : Stats
fresh = record { mean = 300000; square = 0 }

-- a new value counts an eighth
abbrev pub averaged : (old new : ℕ) → ℕ
averaged old new = (7 * old + new) / 8

abbrev pub with_time : ℕ → Stats → Stats
with_time time s = record { mean = averaged s.mean time; square = averaged s.square (time * time) }

-- a time counts as an hour at most
abbrev pub updated : (elapsed : ℕ) → Stats → Stats
updated elapsed s = with_time (min elapsed 3600000000) s

-- a server that gave nothing so far: that counts only once it takes longer than usual
abbrev pub failed : (elapsed : ℕ) → Stats → Stats
failed elapsed s = if nat_lt elapsed s.mean then s else updated elapsed s

-- the mean and three times the deviation
abbrev pub estimate : Stats → ℕ
estimate s = s.mean + 3 * isqrt (s.square - s.mean * s.mean)

-- the averages are those of times of an hour at most
pub record IsInRange (s : Stats) : Type 0 where
  pub mean : s.mean ≤ 3600000000
  pub square : s.square ≤ 3600000000 * 3600000000

-- what is heard of a server: it answered, or another one did while it was waited for
pub data Report : Type 0 where
  Answered : ℕ → Report
  Silent : ℕ → Report

abbrev pub reported : Report → Stats → Stats
reported (Answered elapsed) s = updated elapsed s
reported (Silent elapsed) s = failed elapsed s

abbrev pub all_reported : List Report → Stats → Stats
all_reported [] s = s
all_reported (report ∷ more) s = all_reported more (reported report s)

-- Whatever is heard of a server, no more than four hours are expected; and it can come to nothing.
pub record StatsLaw : Type 0 where
  pub bounded : (reports : List Report) → estimate (all_reported reports fresh) ≤ 14400000000
  pub zero_is_reached : (reports : List Report) × (estimate (all_reported reports fresh) ≡ 0)
