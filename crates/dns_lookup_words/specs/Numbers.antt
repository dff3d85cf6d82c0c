-- Numbers among the words.
use Rattle.std.specs.Prelude.{ℕ, ◌==◌, ◌||◌, if◌then◌else◌, List, nat_lt, Option, None, Some, option_and_then}
use Rattle.resolv_conf.specs.Number.{number_of}

-- a number up to the greatest
abbrev pub up_to : ℕ → ℕ → Option ℕ
up_to most n = if nat_lt most n then None else Some n

abbrev pub number_up_to : ℕ → List ℕ → Option ℕ
number_up_to most word = option_and_then (up_to most) (number_of word)

-- a number from 1 to the greatest
abbrev pub in_range : ℕ → ℕ → Option ℕ
in_range most n = if n == 0 || nat_lt most n then None else Some n

abbrev pub number_in : ℕ → List ℕ → Option ℕ
number_in most word = option_and_then (in_range most) (number_of word)
