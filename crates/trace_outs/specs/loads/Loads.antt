-- What a forward pass keeps of servers: which places of each are live, which requests wait there by datagram, and where these don't match.
use Rattle.std.specs.Prelude.{◌≡◌, ℕ, ◌==◌, ◌&&◌, ◌||◌, not, nat_le, min, Bool, true, false, is_some, if◌then◌else◌, length, List, [], ◌∷◌, Option, Some, None}
use Rattle.number_table.specs.Entries.{puts, frees, entry_at}
use Rattle.client_request.specs.declared.event.{Event.Event, What.What, What.TheVariants.OpenFailed, Out.Out, Via.Via}
use Rattle.client_request.specs.declared.event.Out.TheVariants.{Start, OpenDgram, OpenStream, Close, Reply}
use Rattle.client_request.specs.declared.event.Via.TheVariants.{Dgram, Stream}
use Rattle.right_trace.specs.Trace.{History, Came, Put, Conf}
use Rattle.right_trace.specs.Time.{newest, max_places}
use Rattle.right_trace.specs.Requests.{waits, started, same_via}
use Rattle.right_trace.specs.Places.{is_at, stand, is_live}
use Rattle.right_trace.specs.Orderly.{PlacesAreMet}
use Rattle.right_trace.specs.Settings.{Settings, defers_nothing}
use Rattle.trace_tables.specs.declared.books.Books.{Books}
use Rattle.trace_tables.specs.declared.places.{Place.Place, Stand.Stand}
use Rattle.trace_tables.specs.declared.places.Stand.TheVariants.{Opening, Gone}
use Rattle.trace_tables.specs.declared.requests.{Requests.Requests, Started.Started}
use Rattle.trace_tables.specs.{Tables.begun_stand, Lists.listed}
use Rattle.trace_tables.specs.Requests.{started_seen, replied_seen}
use Rattle.trace_tables.specs.Books as books
use Rattle.trace_points.specs.exchanges.Asked.{AskedFirst}
use Rattle.trace_points.specs.questions.Outs.{Tells}
use Rattle.trace_tables.specs.sets.Sets.{Members, Sets, has, size, joins, leaves, Rise, AreSets}
use Rattle.trace_outs.specs.declared.loads.loads.Loads.{Loads}

-- where nothing is deferred, there are just so many places
abbrev pub nothing : (exact : Bool) → Loads
nothing b = record { dgrams = []; streams = []; demand = []; unmet = []; exact = b }

-- so many live datagram places are right for so many requests
abbrev pub are_met : (c : Conf) (exact : Bool) → (places requests : ℕ) → Bool
are_met c b l n = nat_le l (min (max_places c) n) && (not b || (l == min (max_places c) n))

abbrev pub met_at : (c : Conf) (s : ℕ) → Loads → Bool
met_at c s t = are_met c t.exact (size s t.dgrams) (size s t.demand)

abbrev pub noted : (s : ℕ) → Bool → Members → Members
noted s true es = frees s es
noted s false es = puts s tt es

-- a server is asked anew
abbrev pub checks : (c : Conf) (s : ℕ) → Loads → Loads
checks c s t = record t { unmet = noted s (met_at c s t) t.unmet }

-- a live place is there, and is no more
abbrev pub gives : (c : Conf) → Via → (s p : ℕ) → Loads → Loads
gives c Dgram s p t = checks c s (record t { dgrams = joins s p t.dgrams })
gives c Stream s p t = record t { streams = joins s p t.streams }

abbrev pub takes : (c : Conf) → Via → (s p : ℕ) → Loads → Loads
takes c Dgram s p t = checks c s (record t { dgrams = leaves s p t.dgrams })
takes c Stream s p t = record t { streams = leaves s p t.streams }

-- a request waits at a server, and does no more
abbrev pub waits_at : (c : Conf) (s k : ℕ) → Loads → Loads
waits_at c s k t = checks c s (record t { demand = joins s k t.demand })

abbrev pub goes_from : (c : Conf) (s k : ℕ) → Loads → Loads
goes_from c s k t = checks c s (record t { demand = leaves s k t.demand })

abbrev pub goes_from_all : (c : Conf) (k : ℕ) → List Started → Loads → Loads
goes_from_all c k [] t = t
goes_from_all c k (x ∷ xs) t = goes_from_all c k xs (goes_from c x.server k t)

-- what fails to open is no more, and what is closed
abbrev pub fails_as : (c : Conf) (p : ℕ) → Place → Stand → Loads → Loads
fails_as c p x Opening t = takes c x.via x.server p t
fails_as c p x _ t = t

abbrev pub fails : (c : Conf) (p : ℕ) → Option Place → Loads → Loads
fails c p None t = t
fails c p (Some x) t = fails_as c p x x.stand t

abbrev pub closes : (c : Conf) (p : ℕ) → Option Place → Loads → Loads
closes c p None t = t
closes c p (Some x) t = takes c x.via x.server p t

-- what is opened and does not fail at once is there
abbrev pub opens_as : (c : Conf) → Via → (s p : ℕ) → Stand → Loads → Loads
opens_as c v s p Gone t = t
opens_as c v s p _ t = gives c v s p t

abbrev pub opens : (c : Conf) → What → Via → (s p : ℕ) → Option Place → Loads → Loads
opens c w v s p (Some x) t = t
opens c w v s p None t = opens_as c v s p (begun_stand w p) t

abbrev pub waits_seen : (k : ℕ) → Requests → Bool
waits_seen k r = is_some (entry_at k r.askings) && not (replied_seen k r)

-- a request is handed to a server
abbrev pub starts : (c : Conf) (k s : ℕ) → Via → Requests → Loads → Loads
starts c k s Dgram r t = if waits_seen k r && not (started_seen k s Stream r) then waits_at c s k t else t
starts c k s Stream r t = goes_from c s k t

-- what an event makes of it, over the places as they were
abbrev pub met : (c : Conf) → What → List (ℕ × Place) → Loads → Loads
met c (OpenFailed p f) places t = fails c p (entry_at p places) t
met c _ places t = t

-- what an out makes of it, over the books as they were, in a row with this event
abbrev pub has_put : (c : Conf) → What → Out → Books → Loads → Loads
has_put c w (OpenDgram p s) b t = opens c w Dgram s p (entry_at p b.places) t
has_put c w (OpenStream p s) b t = opens c w Stream s p (entry_at p b.places) t
has_put c w (Close p) b t = closes c p (entry_at p b.places) t
has_put c w (Start k s v) b t = starts c k s v b.requests t
has_put c w (Reply k x) b t = goes_from_all c k (listed k b.requests.starts) t
has_put c w _ b t = t

abbrev pub places_of : Via → Loads → Sets
places_of Dgram t = t.dgrams
places_of Stream t = t.streams

-- request k waits at server s by datagram, and not by stream
abbrev pub is_wanting : (s k : ℕ) → History → Bool
is_wanting s k h = waits k h && (started k s Dgram h && not (started k s Stream h))

-- what is kept is what the definitions say
pub record Known (c : Conf) (h : History) (t : Loads) : Type 0 where
  pub places : (v : Via) (s p : ℕ) → has s p (places_of v t) ≡ (is_at v s p h && is_live (stand p h))
  pub wants : (s k : ℕ) → has s k t.demand ≡ is_wanting s k h
  pub sets : (v : Via) → AreSets (places_of v t)
  pub demand : AreSets t.demand
  pub unmet : (s : ℕ) → is_some (entry_at s t.unmet) ≡ not (met_at c s t)
  pub rise : Rise 0 t.unmet

abbrev pub are_all_met : Loads → Bool
are_all_met t = length t.unmet == 0

abbrev pub TellsMet : Loads → Bool → Type 0
TellsMet t b = (c : Conf) (s : Settings) (h : History) → t.exact ≡ defers_nothing s → Known c h t → Tells (PlacesAreMet c s h) b

-- it is known before the first row, and goes on over events and outs; whether places are met is told
pub record GoesOn (c : Conf) : Type 0 where
  pub begins : (exact : Bool) → Known c [] (nothing exact)
  pub event : (h : History) (b : Books) (t : Loads) (e : Event) → AskedFirst h → books.Known h b → Known c h t → Known c (Came e ∷ h) (met c e.what b.places t)
  pub out : (h : History) (b : Books) (t : Loads) (o : Out) → books.Known h b → Known c h t → Known c (Put o ∷ h) (has_put c (newest h) o b t)
  pub exact : (w : What) (b : Books) (t : Loads) (o : Out) → ((met c w b.places t).exact ≡ t.exact) × ((has_put c w o b t).exact ≡ t.exact)
