-- The idle time that a frame says, as a walk over its options.
use Rattle.std.specs.Prelude.{ℕ, Bool, true, false, nat_lt, if◌then◌else◌, length, List, [], ◌∷◌, Option, Some, None, option_and_then}
use Rattle.dns_base.specs.OptRecord.{opt_of}
use Rattle.right_trace.specs.Messages.{Octets, keepalive_in}

-- the time in the options of a message's OPT record
abbrev pub told_by : Octets → Option ℕ
told_by m = option_and_then (λ opt. keepalive_in (length opt.options) opt.options None) (opt_of m)

-- a frame without a whole header says none
abbrev pub told_in : Octets → Option ℕ
told_in m = if nat_lt (length m) 12 then None else told_by m

abbrev pub or_before : Option ℕ → (before : ℕ) → ℕ
or_before None n = n
or_before (Some t) n = t

-- the last that frames say
abbrev pub last_told : List Octets → (before : ℕ) → ℕ
last_told [] n = n
last_told (m ∷ ms) n = last_told ms (or_before (told_in m) n)
