-- That what comes in events is octets, as it is of every event of the program.
use Rattle.std.specs.Prelude.{ℕ, ◌<◌, List, [], ◌∷◌, slice_index}
use Rattle.client_request.specs.declared.event.Event.{Event}
use Rattle.client_request.specs.declared.event.What.{What}
use Rattle.client_request.specs.declared.event.What.TheVariants.{Datagram, Bytes}

-- what comes in an event is octets
abbrev pub AreOctets : List ℕ → Type 0
AreOctets o = (i : ℕ) → slice_index o i < 256

abbrev pub IsInOctets : What → Type 0
IsInOctets (Datagram p o) = AreOctets o
IsInOctets (Bytes p o) = AreOctets o
IsInOctets _ = Unit {0}

abbrev pub AllInOctets : List Event → Type 0
AllInOctets [] = Unit {0}
AllInOctets (e ∷ es) = IsInOctets e.what × AllInOctets es
