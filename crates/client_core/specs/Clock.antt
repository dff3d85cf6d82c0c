-- The moments of a list, one at each call.
use Rattle.std.specs.Prelude.{ℕ, zero, suc, ◌-◌, nat_lt, if◌then◌else◌, List, [], ◌∷◌, ◌++◌, length, Option, None, Some, slice_get}
use Rattle.std.specs.Option.{option_map_or}
use Rattle.client_request.specs.declared.event.Moment.{Moment}

pub record Moments : Type 0 where
  pub moments : List Moment
  pub calls : ℕ

-- the last of the moments, or 0 where there is none
abbrev pub last_moment : List Moment → ℕ
last_moment ms = option_map_or (λ m. m.0) (slice_get ms (length ms - 1)) 0

-- the moment of a call, counted from 0: the last one again behind the end
abbrev pub moment_at : List Moment → ℕ → ℕ
moment_at ms call = option_map_or (λ m. m.0) (slice_get ms call) (last_moment ms)

-- the moments of so many calls
abbrev pub moments_of : List Moment → ℕ → List ℕ
moments_of ms zero = []
moments_of ms (suc n) = moments_of ms n ++ moment_at ms n ∷ []

-- what is told of them: the moments given so far, as long as their count is kept
abbrev pub told_moments : Moments → Option (List ℕ)
told_moments c = if nat_lt c.calls 18446744073709551615 then Some (moments_of c.moments c.calls) else None
