-- Averages stay in their range, and so does what is expected.
use Rattle.std.specs.Prelude.{ℕ, ◌-◌, ◌*◌, ◌≤◌, ◌≡◌, List, [], ◌∷◌, Bool, true, false, nat_lt, min, replicate, if◌then◌else◌}
use Rattle.std.proofs.Common.{refl, arith}
use Rattle.std.proofs.lemmas.Nat.{mul-le}
use Rattle.client_choice.specs.Roots.{isqrt}
use Rattle.client_choice.specs.Stats.{Stats, IsInRange, Report, Answered, Silent, fresh, averaged, with_time, updated, reported, all_reported, estimate, StatsLaw}
use Rattle.client_choice.proofs.RootLemmas.{isqrt_le}

averaged_le : (old new most : ℕ) → old ≤ most → new ≤ most → averaged old new ≤ most
averaged_le old new most p q = omega arith

-- a time of an hour at most keeps the averages in their range
pub with_time_in_range : (time : ℕ) (s : Stats) → time ≤ 3600000000 → IsInRange s → IsInRange (with_time time s)
with_time_in_range time s h range = record {
  mean = averaged_le s.mean time 3600000000 range.mean h;
  square = averaged_le s.square (time * time) (3600000000 * 3600000000) range.square (mul-le time time 3600000000 3600000000 h h);
}

-- at most four hours are expected
pub estimate_le : (s : Stats) → IsInRange s → estimate s ≤ 14400000000
estimate_le s range =
    let root : isqrt (s.square - s.mean * s.mean) ≤ 3600000000 = isqrt_le (s.square - s.mean * s.mean) 3600000000 (omega (arith, range.square)) in
    omega (arith, range.mean)

updated_in_range : (elapsed : ℕ) (s : Stats) → IsInRange s → IsInRange (updated elapsed s)
updated_in_range elapsed s range = with_time_in_range (min elapsed 3600000000) s (omega arith) range

reported_in_range : (report : Report) (s : Stats) → IsInRange s → IsInRange (reported report s)
reported_in_range (Answered elapsed) s range = updated_in_range elapsed s range
reported_in_range (Silent elapsed) s range = go (nat_lt elapsed s.mean)
  where
    go : (b : Bool) → IsInRange (if b then s else updated elapsed s)
    go true = range
    go false = updated_in_range elapsed s range

bounded : (reports : List Report) (s : Stats) → IsInRange s → estimate (all_reported reports s) ≤ 14400000000
bounded [] s range = estimate_le s range
bounded (report ∷ more) s range = bounded more (reported report s) (reported_in_range report s range)

fresh_in_range : IsInRange fresh
fresh_in_range = record { mean = omega arith; square = omega arith }

none_expected : estimate (record { mean = 0; square = 0 }) ≡ 0
unfolding isqrt
none_expected = refl

-- a hundred answers at once
prompt : List Report
prompt = replicate 100 (Answered 0)

all_prompt : all_reported prompt fresh ≡ record { mean = 0; square = 0 }
unfolding prompt
all_prompt = refl

pub stats_law : StatsLaw
stats_law = record {
  bounded = λ reports. bounded reports fresh fresh_in_range;
  zero_is_reached = (prompt, rw all_prompt none_expected);
}
