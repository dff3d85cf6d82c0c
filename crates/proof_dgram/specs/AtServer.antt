-- Moves by datagrams as moves of a server by datagrams and streams.
use Rattle.std.specs.Prelude.{◌≡◌, ◌≢◌, ℕ, ◌<◌, ◌≤◌, true, false, is_some, [], ◌∷◌, ◌++◌, ◌+◌, Some, None, Result}
use Rattle.client_request.specs.declared.error.Error.{Error}
use Rattle.client_request.specs.declared.event.Out.TheVariants.{Start, Close}
use Rattle.client_request.specs.declared.event.Via.TheVariants.{Dgram, Stream}
use Rattle.client_request.specs.Request.{Request}
use Rattle.client_dgram.specs.Plain.{Tables}
use Rattle.right_trace.specs.Messages.{Octets}
use Rattle.right_trace.specs.Orderly.{use_at}
use Rattle.right_trace.specs.Time.{read_timeout, max_places}
use Rattle.right_trace.specs.Trace.{Conf, ByDatagrams}
use Rattle.proof_right.specs.machine.Part.{Act}
use Rattle.proof_right.specs.machine.Streams as multi
use Rattle.proof_right.specs.machine.Streams.{IsForeign}
use Rattle.proof_right.specs.machine.Dgrams.{Queued, Sent, Ending, Cut, Tryer, Dgrams, staged, leave, Meets}
use Rattle.proof_right.specs.machine.Server.{falls_back}
use Rattle.proof_right.specs.machine.Served.{Served, served, has_moved, has_taken_it, IsInTime, IsSettled, Acts, Starts, Cancels}
use Rattle.proof_parts.specs.Chains.{Chain}
use Rattle.proof_parts.specs.Sights.{Sight}
use Rattle.proof_dgram.specs.Slots.{AreSlots, names_of}
use Rattle.proof_dgram.specs.Steps.{AtOnce, Steps}
use Rattle.proof_dgram.specs.Calls.{Owns, LetsGo, with_request}

-- a server with other datagrams, and one that has taken the row's event so
abbrev pub with_dgrams : Dgrams → Served → Served
with_dgrams d u = has_moved (record u.server { by_dgram = d }) u

abbrev pub taken_by : Dgrams → Served → Served
taken_by d u = has_taken_it (record u.server { by_dgram = d }) u

-- what such moves make of the server
abbrev pub at_server : Served → (Dgrams → Served → Served) → Act Dgrams → Act Served
at_server u after e = record { state = after e.state u; place = e.place; outs = e.outs; posts = e.posts }

-- request k, whose answer was cut, goes on by stream
abbrev pub goes_by_stream : (s k : ℕ) → Tryer → Act Served → Act Served
goes_by_stream s k a e = record { state = has_moved (falls_back k e.state.clock a e.state.server) e.state; place = e.place; outs = e.outs ++ Start k s Stream ∷ []; posts = e.posts }

-- What datagrams do is what the server does.
pub record ServersMove : Type 0 where
  pub steps : (c : Conf) (s place : ℕ) (u : Served) (e : Act Dgrams) → Steps c s u.clock place u.server.by_dgram e → Chain (served c) s place u (at_server u with_dgrams e)
  pub told : (c : Conf) (s place : ℕ) (u : Served) (x : multi.Act) (d : Dgrams) (e : Act Dgrams) → u.taken ≡ false → IsInTime c u.clock u.server → IsForeign u.pending u.server.by_stream → Meets c u.clock u.server.by_dgram u.pending x d → AtOnce place x d e → Acts c s place u (at_server u taken_by e)
  -- a cut answer: its place is closed, its slot may be given on, and the request goes on by stream
  pub cuts : (c : Conf) (s place p k : ℕ) (u : Served) (a : Tryer) (e : Act Dgrams) → u.taken ≡ false → IsInTime c u.clock u.server → IsForeign u.pending u.server.by_stream → Meets c u.clock u.server.by_dgram u.pending (multi.Puts (Close p)) (leave p k a Cut u.server.by_dgram) → IsSettled (leave p k a Cut u.server.by_dgram)
      → Steps c s u.clock place (leave p k a Cut u.server.by_dgram) e → e.state.held k ≡ Some (staged a Cut) → Chain (served c) s place u (goes_by_stream s k (staged a Cut) (at_server u taken_by (record e { outs = Close p ∷ e.outs })))
  pub starts : (c : Conf) (s place k : ℕ) (r : Request) (u : Served) → use_at s c.servers ≡ Some ByDatagrams → u.server.by_dgram.held k ≡ None → Starts c s place k r u (record { state = with_dgrams (with_request k r u.server.by_dgram) u; place = place; outs = Start k s Dgram ∷ []; posts = [] })
  pub lets_go : (s place k : ℕ) (u : Served) (e : Act Dgrams) → LetsGo k place u.server.by_dgram e → Cancels s place k u (at_server u with_dgrams e)

-- Nothing is due and nothing owed: datagrams rest at moment n.
pub record DgramsRest (c : Conf) (n : ℕ) (d : Dgrams) : Type 0 where
  pub waiting : (k : ℕ) (a : Tryer) → d.held k ≡ Some a → a.stage ≡ Queued → d.used ≡ max_places c
  pub reading : (k : ℕ) (a : Tryer) (p id t : ℕ) → d.held k ≡ Some a → a.stage ≡ Sent p id t → n < t + read_timeout c
  pub ending : (k : ℕ) (a : Tryer) (x : Result Octets Error) → d.held k ≡ Some a → a.stage ≢ Ending x
  pub cut : (k : ℕ) (a : Tryer) → d.held k ≡ Some a → a.stage ≢ Cut

-- What is known between the calls of a connection that is tied.
pub record SlotsAreKnown (c : Conf) : Type 0 where
  -- it looks at no timer of others, and at numbers only from below
  pub same : (s : Tables Request) (d : Dgrams) (x y : Sight) → AreSlots c 0 s d x → ((i : ℕ) → Owns s i → y.dues i ≡ x.dues i) → x.timer ≤ y.timer → x.ticket ≤ y.ticket → x.place ≤ y.place → AreSlots c 0 s d y
  pub set : (s : Tables Request) (d : Dgrams) (x : Sight) (i : ℕ) → AreSlots c 0 s d x → Owns s i → (due : ℕ) × (x.dues i ≡ Some due)
  pub named : (s : Tables Request) (d : Dgrams) (x : Sight) (i k : ℕ) → AreSlots c 0 s d x → names_of s i ≡ Some k → (i < x.ticket) × (is_some (d.held k) ≡ true)
  pub held : (s : Tables Request) (d : Dgrams) (x : Sight) (k : ℕ) → AreSlots c 0 s d x → is_some (d.held k) ≡ true → (i : ℕ) × (names_of s i ≡ Some k)
  -- a ticket, and a place, has one request
  pub apart : (s : Tables Request) (d : Dgrams) (x : Sight) (i j k : ℕ) → AreSlots c 0 s d x → names_of s i ≡ Some k → names_of s j ≡ Some k → i ≡ j
  pub placed : (s : Tables Request) (d : Dgrams) (x : Sight) (p k : ℕ) → AreSlots c 0 s d x → d.at p ≡ Some k → p < x.place
  -- where no timer of its own is due it rests
  pub rests : (s : Tables Request) (d : Dgrams) (x : Sight) → AreSlots c 0 s d x → ((i due : ℕ) → Owns s i → x.dues i ≡ Some due → x.now < due) → DgramsRest c x.now d
