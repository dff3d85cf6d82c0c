-- The table of places that a forward pass keeps.
use Rattle.std.specs.Prelude.{ℕ, ◌==◌, if◌then◌else◌, List, Option, Some, None}
use Rattle.number_table.specs.Entries.{puts, entry_at}
use Rattle.client_request.specs.declared.event.{What.What, Out.Out, Via.Via}
use Rattle.client_request.specs.declared.event.What.TheVariants.{Opened, OpenFailed}
use Rattle.client_request.specs.declared.event.Out.TheVariants.{OpenDgram, OpenStream, Close}
use Rattle.client_request.specs.declared.event.Via.TheVariants.{Dgram, Stream}
use Rattle.trace_tables.specs.declared.places.{Stand.Stand, Place.Place}
use Rattle.trace_tables.specs.declared.places.Stand.TheVariants.{Opening, Alive, Gone}

abbrev pub Table : Type 0
Table = List (ℕ × Place)

-- how a place stands that is opened in a row with this event
abbrev pub begun_stand : What → (p : ℕ) → Stand
begun_stand (Opened q) p = if q == p then Alive else Opening
begun_stand (OpenFailed q f) p = if q == p then Gone else Opening
begun_stand _ p = Opening

-- an out opens a place, if it was not opened before
abbrev pub opens : What → Via → (s p : ℕ) → Option Place → Table → Table
opens w v s p (Some x) t = t
opens w v s p None t = puts p (record { via = v; server = s; stand = begun_stand w p }) t

abbrev pub settled : Stand → (p : ℕ) → Place → Stand → Table → Table
settled x p place Opening t = puts p (record place { stand = x }) t
settled x p place _ t = t

-- a place that opens is alive, or has failed
abbrev pub settles : Stand → (p : ℕ) → Option Place → Table → Table
settles x p None t = t
settles x p (Some place) t = settled x p place place.stand t

-- a place is closed
abbrev pub closes : (p : ℕ) → Option Place → Table → Table
closes p None t = t
closes p (Some place) t = puts p (record place { stand = Gone }) t

-- what an event makes of the places
abbrev pub met : What → Table → Table
met (Opened p) t = settles Alive p (entry_at p t) t
met (OpenFailed p f) t = settles Gone p (entry_at p t) t
met _ t = t

-- what an out makes of them, in a row with this event
abbrev pub has_put : What → Out → Table → Table
has_put w (OpenDgram p s) t = opens w Dgram s p (entry_at p t) t
has_put w (OpenStream p s) t = opens w Stream s p (entry_at p t) t
has_put w (Close p) t = closes p (entry_at p t) t
has_put w _ t = t
