-- The idle time that a server tells: option 11 of its OPT record, edns-tcp-keepalive, in tenths of a second (RFC 7828).
use Rattle.std.specs.Prelude.{ℕ, zero, suc, ◌+◌, ◌*◌, ◌==◌, ◌&&◌, nat_le, if◌then◌else◌, List, [], ◌∷◌, length, slice_index, Option, Some, None, option_map, option_and_then}
use Rattle.dns_base.specs.OptRecord.{opt_of}

-- What is told by then, after one option with a code, a count of octets and what stands behind its head.
abbrev pub told_by : ℕ → ℕ → List ℕ → Option ℕ → Option ℕ
told_by code count octets told =
    if code == 11 && count == 2 && nat_le 2 (length octets) then Some (256 * slice_index octets 0 + slice_index octets 1) else told

-- what is told by options once so many octets are passed over: the last of them counts
abbrev pub told_after : ℕ → List ℕ → Option ℕ → Option ℕ
told_after zero (first ∷ second ∷ high ∷ low ∷ octets) told =
    told_after (256 * high + low) octets (told_by (256 * first + second) (256 * high + low) octets told)
told_after zero [] told = told
told_after zero (_ ∷ []) told = told
told_after zero (_ ∷ _ ∷ []) told = told
told_after zero (_ ∷ _ ∷ _ ∷ []) told = told
told_after (suc n) [] told = told
told_after (suc n) (_ ∷ octets) told = told_after n octets told

abbrev pub tenths_told : List ℕ → Option ℕ
tenths_told options = told_after 0 options None

-- the idle time that a message tells, in microseconds
abbrev pub idle_time_told : List ℕ → Option ℕ
idle_time_told message = option_map (λ tenths. tenths * 100000) (option_and_then (λ opt. tenths_told opt.options) (opt_of message))
