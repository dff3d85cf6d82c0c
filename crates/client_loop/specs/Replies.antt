-- The reply to a request, among what was put out.
use Rattle.std.specs.Prelude.{◌≡◌, ℕ, ◌==◌, if◌then◌else◌, List, [], ◌∷◌, ◌++◌, Option, None, Some, Result}
use Rattle.client_request.specs.declared.error.Error.{Error}
use Rattle.client_request.specs.declared.event.Out.{Out}
use Rattle.client_request.specs.declared.event.Out.TheVariants.{Reply}
use Rattle.client_request.specs.declared.event.Row.{Row}

-- the reply that an out is to the request of a number, if it is one
abbrev pub reply_of : ℕ → Out → Option (Result (List ℕ) Error)
reply_of number (Reply request result) = if request == number then Some result else None
reply_of number _ = None

-- the first there is
abbrev pub or_later : Option (Result (List ℕ) Error) → Option (Result (List ℕ) Error) → Option (Result (List ℕ) Error)
or_later (Some reply) later = Some reply
or_later None later = later

-- the first reply among outs
abbrev pub reply_in : ℕ → List Out → Option (Result (List ℕ) Error)
reply_in number [] = None
reply_in number (out ∷ outs) = or_later (reply_of number out) (reply_in number outs)

-- the first reply among rows
abbrev pub first_reply : ℕ → List Row → Option (Result (List ℕ) Error)
first_reply number [] = None
first_reply number (row ∷ rows) = or_later (reply_in number row.outs) (first_reply number rows)

-- The last of the rows has the reply, and none before it has one.
pub record EndsWith (number : ℕ) (rows : List Row) (reply : Result (List ℕ) Error) : Type 0 where
  pub before : List Row
  pub last : Row
  pub rows_are : rows ≡ before ++ last ∷ []
  pub none_before : first_reply number before ≡ None
  pub last_replies : reply_in number last.outs ≡ Some reply
