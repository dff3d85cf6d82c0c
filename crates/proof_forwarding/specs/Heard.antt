-- What the rows of a forwarder tell of what DNS clients sent.
use Rattle.std.specs.Prelude.{◌≡◌, ℕ, suc, max, true, Bool, List, [], ◌∷◌, ◌++◌, length, Option, Some, None, is_some, ◌≤◌, ◌==◌, ◌&&◌, if◌then◌else◌}
use Rattle.std.specs.Option.{option_map_or}
use Rattle.front_peers.specs.Items.{is_new, is_stream, of_datagram, of_frames, unless_ask}
use Rattle.front_peers.specs.declared.event.FrontEvent.{FrontEvent}
use Rattle.front_peers.specs.declared.event.FrontOut.{FrontOut}
use Rattle.front_peers.specs.declared.event.FrontOut.TheVariants as out
use Rattle.front_peers.specs.declared.event.FrontRow.{FrontRow}
use Rattle.front_peers.specs.declared.event.FrontWhat.{FrontWhat}
use Rattle.front_peers.specs.declared.event.FrontWhat.TheVariants.{Datagram, Accepted, Bytes, Gone, Core}
use Rattle.front_peers.specs.declared.items.Item.{Item}
use Rattle.front_peers.specs.declared.items.Item.TheVariants.{Drops, Happens}
use Rattle.front_queries.specs.Refusals.{sorted}
use Rattle.right_trace.specs.Time.{count_below}

-- Of each peer whose stream is open the octets that came by it and are no whole message yet, the greatest number of a stream that was accepted, and the greatest moment.
pub record Heard : Type 0 where
  pub kept : ℕ → Option (List ℕ)
  pub last : Option ℕ
  pub now : ℕ

-- no row was made
abbrev pub nothing_heard : Heard
nothing_heard = record { kept = λ peer. None; last = None; now = 0 }

-- this of the stream of a peer, and of each other one what was
abbrev pub with_kept : (peer : ℕ) → Option (List ℕ) → Heard → Heard
with_kept peer octets h = record h { kept = λ p. if p == peer then octets else h.kept p }

-- what is no whole message once more came, if the stream is open
abbrev pub rest_behind : (peer : ℕ) → (octets : List ℕ) → Option (List ℕ) → Option (List ℕ)
rest_behind peer octets None = None
rest_behind peer octets (Some kept) = Some (of_frames (length octets) peer (kept ++ octets)).1

-- A stream is open from where it is accepted, under a number above all before, to where it is gone.
abbrev pub is_accepted : (peer : ℕ) → Heard → Bool
is_accepted peer h = is_stream peer && is_new peer h.last

abbrev pub hears : FrontWhat → Heard → Heard
hears (Datagram peer octets) h = h
hears (Accepted peer) h = if is_accepted peer h then with_kept peer (Some []) (record h { last = Some peer }) else h
hears (Bytes peer octets) h = with_kept peer (rest_behind peer octets (h.kept peer)) h
hears (Gone peer) h = with_kept peer None h
hears (Core what) h = h

abbrev pub told_by : FrontEvent → Heard → Heard
told_by event h = hears event.what (record h { now = max h.now event.moment.0 })

-- or to where it is dropped
abbrev pub closed_by : List FrontOut → Heard → Heard
closed_by [] h = h
closed_by (out.Drop peer ∷ outs) h = closed_by outs (with_kept peer None h)
closed_by (out.Core o ∷ outs) h = closed_by outs h
closed_by (out.Answer peer octets ∷ outs) h = closed_by outs h

-- what is told once a row is done
abbrev pub after_row : FrontRow → Heard → Heard
after_row row h = closed_by row.outs (told_by row.event h)

-- how many streams are open
abbrev pub count_open : Heard → ℕ
count_open h = count_below (λ peer. is_some (h.kept peer)) (option_map_or suc h.last 0)

-- Where a stream is accepted while 100 are open, one of these is dropped (RFC 7766 6.2.3).
pub data MakesRoom (peer : ℕ) (h : Heard) (items : List Item) : Type 0 where
  DropsNone : items ≡ [] → MakesRoom peer h items
  DropsOne : (quiet : ℕ) → items ≡ Drops quiet ∷ [] → is_accepted peer h ≡ true → is_some (h.kept quiet) ≡ true → 100 ≤ count_open h → MakesRoom peer h items

-- what the messages of a stream come to, if it is open
abbrev pub brought : (peer : ℕ) → (octets : List ℕ) → Option (List ℕ) → List Item
brought peer octets None = []
brought peer octets (Some kept) = (of_frames (length octets) peer (kept ++ octets)).0

-- The things that an event comes to, in order: queries, refusals, streams that are dropped, and what happens to the client within.
abbrev pub Comes : FrontWhat → Heard → List Item → Type 0
Comes (Datagram peer octets) h items = items ≡ (if is_stream peer then [] else of_datagram peer (sorted octets))
Comes (Accepted peer) h items = MakesRoom peer h items
Comes (Bytes peer octets) h items = items ≡ brought peer octets (h.kept peer)
Comes (Gone peer) h items = items ≡ []
Comes (Core what) h items = items ≡ Happens (unless_ask what) ∷ []
