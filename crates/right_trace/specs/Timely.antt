-- When a trace is timely.
use Rattle.std.specs.Prelude.{◌≡◌, ℕ, ◌+◌, ◌<◌, false, Some, List, [], ◌∷◌}
use Rattle.client_request.specs.Carries.{IsOfOctets}
use Rattle.client_request.specs.declared.event.Event.{Event}
use Rattle.client_request.specs.declared.event.What.{What}
use Rattle.client_request.specs.declared.event.What.TheVariants.{Ask}
use Rattle.client_request.specs.declared.event.Row.{Row}
use Rattle.right_trace.specs.Trace.{History, Conf, after}
use Rattle.right_trace.specs.Time.{now}
use Rattle.right_trace.specs.Requests.{Asking, asking, replied}

-- when a row is done, a request without its reply is not yet at its timeout
abbrev pub InTime : (c : Conf) (end : History) → Type 0
InTime c end = (k : ℕ) (a : Asking) → asking k end ≡ Some a → replied k end ≡ false → now end < a.moment + c.timeout

abbrev pub TimelyAfter : (c : Conf) (past : History) → List Row → Type 0
TimelyAfter c past [] = Unit {0}
TimelyAfter c past (row ∷ rows) = InTime c (after row past) × TimelyAfter c (after row past) rows

-- each request has its reply in the first row at or past its timeout, or before
abbrev pub Timely : Conf → List Row → Type 0
Timely c rows = TimelyAfter c [] rows

-- what is asked is made of octets, as every request of the program is
abbrev pub IsAskedInOctets : What → Type 0
IsAskedInOctets (Ask r) = IsOfOctets r
IsAskedInOctets _ = Unit {0}

abbrev pub AllAskedInOctets : List Event → Type 0
AllAskedInOctets [] = Unit {0}
AllAskedInOctets (e ∷ es) = IsAskedInOctets e.what × AllAskedInOctets es
