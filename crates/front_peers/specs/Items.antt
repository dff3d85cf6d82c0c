-- What an event of a front comes to, one thing behind another, and the streams of clients.
use Rattle.std.specs.Prelude.{◌≡◌, ℕ, ◌^◌, ◌++◌, zero, suc, max, nat_lt, nat_le, Bool, true, false, List, [], ◌∷◌, length, Option, Some, None, if◌then◌else◌}
use Rattle.std.specs.Option.{option_map_or}
use Rattle.number_table.specs.Entries.{puts, frees, entry_at}
use Rattle.client_request.specs.declared.event.What.{What}
use Rattle.client_request.specs.declared.event.What.TheVariants.{Ask, Tick}
use Rattle.client_stream.specs.Frames.{first_frame, behind_frame}
use Rattle.front_queries.specs.Answers.{framed}
use Rattle.front_queries.specs.Query.{Query}
use Rattle.front_queries.specs.Refusals.{sorted}
use Rattle.front_queries.specs.declared.sorting.Sorted.{Sorted}
use Rattle.front_queries.specs.declared.sorting.Sorted.TheVariants.{Ignored, Refused, Taken}
use Rattle.front_peers.specs.declared.event.FrontEvent.{FrontEvent}
use Rattle.front_peers.specs.declared.event.FrontWhat.{FrontWhat}
use Rattle.front_peers.specs.declared.event.FrontWhat.TheVariants.{Datagram, Accepted, Bytes, Gone, Core}
use Rattle.front_peers.specs.declared.items.Asker.{Asker}
use Rattle.front_peers.specs.declared.items.Item.{Item}
use Rattle.front_peers.specs.declared.items.Item.TheVariants.{Asks, Refuses, Drops, Happens}
use Rattle.front_peers.specs.declared.peers.Stream.{Stream}

-- The streams that are open by the numbers of their peers, the greatest number that was accepted, and the moment of the last event.
pub record Streams : Type 0 where
  pub streams : List (ℕ × Stream)
  pub last : Option ℕ
  pub moment : ℕ

-- no stream was accepted, and no event was told
abbrev pub no_streams : Streams
no_streams = record { streams = []; last = None; moment = 0 }

-- From 2 ^ 62 on numbers are those of streams, and below it of datagrams.
abbrev pub is_stream : (peer : ℕ) → Bool
is_stream peer = nat_le (2 ^ 62) peer

abbrev pub asker : (peer : ℕ) → (by_stream : Bool) → Query → Asker
asker peer by_stream query = record { peer = peer; by_stream = by_stream; query = query }

-- what a datagram comes to
abbrev pub of_datagram : (peer : ℕ) → Sorted → List Item
of_datagram peer Ignored = []
of_datagram peer (Refused octets) = Refuses peer octets ∷ []
of_datagram peer (Taken query) = Asks (asker peer false query) ∷ []

-- What frames come to, and the octets that no frame has taken.
abbrev pub Brought : Type 0
Brought = List Item × List ℕ

abbrev pub with_first : Item → Brought → Brought
with_first item brought = (item ∷ brought.0, brought.1)

-- A frame, and then those behind it. One that is no query drops the stream, and what stands behind it counts for nothing.
abbrev pub of_frame : (peer : ℕ) → Sorted → (behind : List ℕ) → Brought → Brought
of_frame peer Ignored behind later = (Drops peer ∷ [], behind)
of_frame peer (Refused octets) behind later = with_first (Refuses peer (framed octets)) later
of_frame peer (Taken query) behind later = with_first (Asks (asker peer true query)) later

-- the first frame, if one is whole, and then those behind it
abbrev pub first_then : (peer : ℕ) → (kept : List ℕ) → Brought → Option (List ℕ) → Brought
first_then peer kept later None = ([], kept)
first_then peer kept later (Some frame) = of_frame peer (sorted frame) (behind_frame kept) later

-- so many frames, one by one
abbrev pub of_frames : ℕ → (peer : ℕ) → (kept : List ℕ) → Brought
of_frames zero peer kept = ([], kept)
of_frames (suc n) peer kept = first_then peer kept (of_frames n peer (behind_frame kept)) (first_frame kept)

-- what comes behind a frame, where the stream goes on
abbrev pub onward : Bool → (behind : List ℕ) → Brought → Brought
onward true behind later = later
onward false behind later = ([], behind)

-- what a frame comes to stands behind other things, whatever comes behind it
abbrev pub Pushes : (peer : ℕ) → Sorted → (old new : List Item) → (on : Bool) → Type 0
Pushes peer frame old new on =
    (behind : List ℕ) (later : Brought)
    → (old ++ (of_frame peer frame behind later).0 ≡ new ++ (onward on behind later).0) × ((of_frame peer frame behind later).1 ≡ (onward on behind later).1)

-- a stream that keeps these octets is open, and was heard now
abbrev pub hears : (peer : ℕ) → (kept : List ℕ) → Streams → Streams
hears peer kept s = record s { streams = puts peer (record { framer = kept; heard = s.moment }) s.streams }

-- the stream of a peer is open no longer
abbrev pub closes : (peer : ℕ) → Streams → Streams
closes peer s = record s { streams = frees peer s.streams }

-- octets come by the stream of a peer, if it is open; a frame has two octets at least
abbrev pub brings : (peer : ℕ) → (octets : List ℕ) → Streams → Option Stream → List Item × Streams
brings peer octets s None = ([], s)
brings peer octets s (Some stream) =
    let brought = of_frames (length octets) peer (stream.framer ++ octets) in
    (brought.0, hears peer brought.1 (closes peer s))

-- a number is above all that were accepted
abbrev pub is_new : ℕ → Option ℕ → Bool
is_new peer last = option_map_or (λ l. nat_lt l peer) last true

-- who was quiet longer, and since when: of two that were heard at one moment the first
abbrev pub quieter : Option (ℕ × ℕ) → (peer heard : ℕ) → Option (ℕ × ℕ)
quieter None peer heard = Some (peer, heard)
quieter (Some first) peer heard = if nat_lt heard first.1 then Some (peer, heard) else Some first

-- who was quiet longest of some, and of one before them
abbrev pub quietest : Option (ℕ × ℕ) → List (ℕ × Stream) → Option (ℕ × ℕ)
quietest first [] = first
quietest first (e ∷ es) = quietest (quieter first e.0 e.1.heard) es

abbrev pub opens : (peer : ℕ) → Streams → Streams
opens peer s = hears peer [] (record s { last = Some peer })

abbrev pub drops : Option (ℕ × ℕ) → List Item
drops None = []
drops (Some quiet) = Drops quiet.0 ∷ []

-- where so many are open, the one that was quiet longest is dropped (RFC 7766 6.2.3)
abbrev pub makes_room : List (ℕ × Stream) → List Item
makes_room streams = if nat_lt (length streams) 100 then [] else drops (quietest None streams)

-- A stream is accepted, if its number is above all that were.
abbrev pub accepts : (peer : ℕ) → Streams → List Item × Streams
accepts peer s = if is_new peer s.last then (makes_room s.streams, opens peer s) else ([], s)

-- a request that is asked counts as time
abbrev pub unless_ask : What → What
unless_ask (Ask request) = Tick
unless_ask what = what

-- What an event comes to at the moment that is now. A stream that is to be dropped is open until it is.
abbrev pub takes_now : FrontWhat → Streams → List Item × Streams
takes_now (Datagram peer octets) s = if is_stream peer then ([], s) else (of_datagram peer (sorted octets), s)
takes_now (Accepted peer) s = if is_stream peer then accepts peer s else ([], s)
takes_now (Bytes peer octets) s = brings peer octets s (entry_at peer s.streams)
takes_now (Gone peer) s = ([], closes peer s)
takes_now (Core what) s = (Happens (unless_ask what) ∷ [], s)

-- A moment before that of an earlier event counts as that one.
abbrev pub at_moment : (moment : ℕ) → Streams → Streams
at_moment moment s = record s { moment = max s.moment moment }

abbrev pub takes : FrontEvent → Streams → List Item × Streams
takes event s = takes_now event.what (at_moment event.moment.0 s)

-- an answer goes by the stream of a peer
abbrev pub answers_by : (peer : ℕ) → Streams → Option Stream → Streams
answers_by peer s None = s
answers_by peer s (Some stream) = hears peer stream.framer (closes peer s)
