-- How long is backed off, in microseconds.
use Rattle.std.specs.Prelude.{ℕ, ◌+◌, ◌-◌, ◌*◌, ◌/◌, ◌^◌, nat_le, if◌then◌else◌}

-- the longest time after n earlier ones: a second, doubled each time, and a minute after the seventh
abbrev pub retry_bound : ℕ → ℕ
retry_bound n = if nat_le n 6 then 1000000 * 2 ^ n else 60000000

-- the share of it that a word of 64 bits gives
abbrev pub retry_time : (n word : ℕ) → ℕ
retry_time n word = 1 + word * (retry_bound n - 1) / 2 ^ 64
