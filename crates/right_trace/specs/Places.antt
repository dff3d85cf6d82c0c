-- What a history tells of each place: its kind and server, and how it stands. A place is the number of one connection.
use Rattle.std.specs.Prelude.{ℕ, Bool, ◌||◌, Option, Some, None, [], ◌∷◌, zero, suc, max, true, false, not, ◌&&◌, ◌==◌, if◌then◌else◌}
use Rattle.client_request.specs.declared.event.What.{What}
use Rattle.client_request.specs.declared.event.What.TheVariants.{Ask, Opened, OpenFailed, SendFailed, ShortSend, Datagram, RecvFailed, Wrote, WriteFailed, Bytes, ReadFailed, Ended, Tick}
use Rattle.client_request.specs.declared.event.Via.TheVariants.{Dgram, Stream}
use Rattle.right_trace.specs.Trace.{History, Came, Put}
use Rattle.right_trace.specs.Time.{newest, count_below}
use Rattle.right_trace.specs.Requests.{started, same_via, waits, asks}
use Rattle.client_request.specs.declared.event.Out.{Out}
use Rattle.client_request.specs.declared.event.Out.TheVariants.{OpenDgram, OpenStream, Close}
use Rattle.client_request.specs.declared.event.Via.{Via}

-- what a place is: of which kind, and of which server
pub record Site : Type 0 where
  pub via : Via
  pub server : ℕ

-- an out opens a place, if it was not opened before
abbrev pub opens_as : Via → (s : ℕ) → Option Site → Option Site
opens_as v s (Some x) = Some x
opens_as v s None = Some (record { via = v; server = s })

-- what an out makes of the kind and server of p
abbrev pub site_on : (p : ℕ) → Out → Option Site → Option Site
site_on p (OpenDgram q s) x = if q == p then opens_as Dgram s x else x
site_on p (OpenStream q s) x = if q == p then opens_as Stream s x else x
site_on p _ x = x

-- the kind and server of place p, by the first out that opened it
abbrev pub site : (p : ℕ) → History → Option Site
site p [] = None
site p (Came e ∷ h) = site p h
site p (Put o ∷ h) = site_on p o (site p h)

-- of this kind and of server s
abbrev pub is_site : Via → (s : ℕ) → Option Site → Bool
is_site v s (Some x) = same_via x.via v && (x.server == s)
is_site v s None = false

-- place p is of this kind and of server s
abbrev pub is_at : Via → (s p : ℕ) → History → Bool
is_at v s p h = is_site v s (site p h)

-- of this kind
abbrev pub is_of_kind : Via → Option Site → Bool
is_of_kind v (Some x) = same_via x.via v
is_of_kind v None = false

-- how a place stands
pub data Stand : Type 0 where
  Unused : Stand
  Opening : Stand
  Alive : Stand
  Gone : Stand

-- what `Opened` makes of a place
abbrev pub opened : Stand → Stand
opened Opening = Alive
opened x = x

-- what `OpenFailed` makes of it
abbrev pub failed : Stand → Stand
failed Opening = Gone
failed x = x

-- what `Close` makes of it
abbrev pub closed : Stand → Stand
closed Opening = Gone
closed Alive = Gone
closed x = x

-- what an event makes of a place
abbrev pub on_event : What → (p : ℕ) → Stand → Stand
on_event (Opened q) p x = if q == p then opened x else x
on_event (OpenFailed q f) p x = if q == p then failed x else x
on_event _ p x = x

-- an out opens a place that is unused; the event of the row counts for it too
abbrev pub begun : What → (p : ℕ) → Stand → Stand
begun w p Unused = on_event w p Opening
begun w p x = x

-- what an out makes of a place, in a row with this event
abbrev pub on_out : What → Out → (p : ℕ) → Stand → Stand
on_out w (OpenDgram q s) p x = if q == p then begun w p x else x
on_out w (OpenStream q s) p x = if q == p then begun w p x else x
on_out w (Close q) p x = if q == p then closed x else x
on_out w _ p x = x

-- how place p stands
abbrev pub stand : (p : ℕ) → History → Stand
stand p [] = Unused
stand p (Came e ∷ h) = on_event e.what p (stand p h)
stand p (Put o ∷ h) = on_out (newest h) o p (stand p h)

-- how place p stands, the newest row's event not counted
abbrev pub stand_untold : (p : ℕ) → History → Stand
stand_untold p [] = Unused
stand_untold p (Came e ∷ h) = stand p h
stand_untold p (Put o ∷ h) = on_out Tick o p (stand_untold p h)

-- it opened, and was not closed
abbrev pub is_alive : Stand → Bool
is_alive Alive = true
is_alive _ = false

-- it was opened, and no event told how that ended
abbrev pub is_opening : Stand → Bool
is_opening Opening = true
is_opening _ = false

-- no out opened it
abbrev pub is_unused : Stand → Bool
is_unused Unused = true
is_unused _ = false

-- it is opening or alive
abbrev pub is_live : Stand → Bool
is_live Opening = true
is_live Alive = true
is_live _ = false

-- an event tells that place p is broken
abbrev pub is_told : (p : ℕ) → What → Bool
is_told p (SendFailed q f) = q == p
is_told p (ShortSend q) = q == p
is_told p (RecvFailed q f) = q == p
is_told p (WriteFailed q f) = q == p
is_told p (ReadFailed q f) = q == p
is_told p (Ended q) = q == p
is_told p (Wrote q zero) = q == p
is_told p _ = false

-- an out opens a place of this number
abbrev pub reach_of : Out → ℕ → ℕ
reach_of (OpenDgram p s) n = max (suc p) n
reach_of (OpenStream p s) n = max (suc p) n
reach_of _ n = n

-- each place that was opened is below this
abbrev pub reach : History → ℕ
reach [] = 0
reach (Came e ∷ h) = reach h
reach (Put o ∷ h) = reach_of o (reach h)

-- how many datagram places of server s are live
abbrev pub live : (s : ℕ) → History → ℕ
live s h = count_below (λ p. is_at Dgram s p h && is_live (stand p h)) (reach h)

-- how many requests wait at server s by datagram, and not by stream
abbrev pub demand : (s : ℕ) → History → ℕ
demand s h = count_below (λ k. waits k h && (started k s Dgram h && not (started k s Stream h))) (asks h)

-- an out closes place p
abbrev pub is_close : (p : ℕ) → Out → Bool
is_close p (Close q) = q == p
is_close p _ = false

-- the newest row closed place p
abbrev pub closed_here : (p : ℕ) → History → Bool
closed_here p [] = false
closed_here p (Came e ∷ h) = false
closed_here p (Put o ∷ h) = is_close p o || closed_here p h

-- the place that an event names
abbrev pub place_of : What → Option ℕ
place_of (Opened p) = Some p
place_of (OpenFailed p f) = Some p
place_of (SendFailed p f) = Some p
place_of (ShortSend p) = Some p
place_of (Datagram p o) = Some p
place_of (RecvFailed p f) = Some p
place_of (Wrote p n) = Some p
place_of (WriteFailed p f) = Some p
place_of (Bytes p o) = Some p
place_of (ReadFailed p f) = Some p
place_of (Ended p) = Some p
place_of (Ask r) = None
place_of Tick = None
