-- The moves of a server open no place but the next.
use Rattle.std.proofs.Common.{◌≡◌, ℕ, suc, ◌<◌, ◌≤◌, ◌⊎◌, inl, inr, Bool, true, false, ◌||◌, is_some, Option, Some, None, Err, refl, sym, subst, arith, le_refl, le_trans, lt_of_lt_of_le}
use Rattle.std.proofs.lemmas.Bool.Decides.{nat_tests}
use Rattle.client_request.specs.Request.{Request}
use Rattle.client_request.specs.declared.error.Error.TheVariants as errors
use Rattle.client_request.specs.declared.event.What.{What}
use Rattle.right_trace.specs.Messages.{Octets}
use Rattle.right_trace.specs.Trace.{Conf}
use Rattle.proof_right.specs.machine.Part.{Act, ServerPart}
use Rattle.proof_right.specs.machine.Dgrams as dgrams
use Rattle.proof_right.specs.machine.Dgrams.{Dgrams, Tries}
use Rattle.proof_right.specs.machine.Server as server
use Rattle.proof_right.specs.machine.Server.{Server}
use Rattle.proof_right.specs.machine.Streams as multi
use Rattle.proof_right.specs.machine.Streams.{Conn, Multi, Moves, Takes, TakesFrame, set_conn, end_at, unheard}
use Rattle.right_trace.specs.Updates.{with_at}
use Rattle.proof_right.specs.machine.Served.{Served, served, Acts, Starts, Cancels, Settles, place_after, does, has_moved}
use Rattle.proof_right.specs.machine.Served as part
use Rattle.proof_parts.specs.Chains.{Chain, Stays, Goes, Begins, Calls, then_act}
use Rattle.proof_parts.specs.Places.{is_this, has_place, ServersOpenNext}
use Rattle.proof_parts.specs.Sharing.{Opens, OpensNext}

-- the places by datagram, and those by stream
abbrev dgram_has : Dgrams → ℕ → Bool
dgram_has d p = is_some (d.at p)

abbrev stream_has : Multi → ℕ → Bool
stream_has m p = is_some (m.conns p) || is_this p m.opening

-- no place more
abbrev Within : (new old : ℕ → Bool) → Type 0
Within new old = (p : ℕ) → new p ≡ true → old p ≡ true

-- no place more but the next ones
abbrev Opened : (next after : ℕ) (new old : ℕ → Bool) → Type 0
Opened next after new old = (next ≤ after) × ((p : ℕ) → new p ≡ true → (old p ≡ true) ⊎ ((next ≤ p) × (p < after)))

none_opened : (next : ℕ) (new old : ℕ → Bool) → Within new old → Opened next next new old
none_opened next new old w = (le_refl next, λ p h. inl (w p h))

-- Tables

with_none : {A : Type 0} (k : ℕ) (f : ℕ → Option A) (p : ℕ) → is_some (with_at k None f p) ≡ true → is_some (f p) ≡ true
with_none k f p h = grind (arith, nat_tests)

with_some : {A : Type 0} (k : ℕ) (v w : A) (f : ℕ → Option A) (p : ℕ) → f k ≡ Some w → is_some (with_at k (Some v) f p) ≡ true → is_some (f p) ≡ true
with_some k v w f p e h = grind (arith, nat_tests)

with_next : {A : Type 0} (next : ℕ) (v : A) (f : ℕ → Option A) (p : ℕ) → is_some (with_at next (Some v) f p) ≡ true → (is_some (f p) ≡ true) ⊎ (next ≡ p)
with_next next v f p h = grind (arith, nat_tests)

is_next : (next p : ℕ) → is_this p (Some next) ≡ true → next ≡ p
is_next next p h = grind (arith, nat_tests)

here : (p : ℕ) → is_this p (Some p) ≡ true
here p = grind (arith, nat_tests)

either : (a b : Bool) → (a || b) ≡ true → (a ≡ true) ⊎ (b ≡ true)
either true b h = inl refl
either false b h = inr h

left_of : (a b : Bool) → a ≡ true → (a || b) ≡ true
left_of true b h = refl
left_of false b h = absurd (let z : false ≡ true = h in cc)

right_of : (a b : Bool) → b ≡ true → (a || b) ≡ true
right_of true b h = refl
right_of false b h = h

only : (n p : ℕ) → n ≡ p → (n ≤ p) × (p < suc n)
only n p e = (omega arith, omega arith)

up : (n : ℕ) → n ≤ suc n
up n = omega arith

-- Streams

same_stream : (m : Multi) → Within (stream_has m) (stream_has m)
same_stream m p h = h

sets : (m : Multi) (conns : ℕ → Option Conn) (opening : Option ℕ) → ((p : ℕ) → is_some (conns p) ≡ true → is_some (m.conns p) ≡ true) → opening ≡ m.opening → (p : ℕ) → (is_some (conns p) || is_this p opening) ≡ true → stream_has m p ≡ true
sets m conns opening less same p h = elim (either (is_some (conns p)) (is_this p opening) h) [
  | inl c ↦ left_of (is_some (m.conns p)) (is_this p m.opening) (less p c)
  | inr o ↦ right_of (is_some (m.conns p)) (is_this p m.opening) (subst (λ o. is_this p o ≡ true) same o)
]

set_within : (q : ℕ) (y x : Conn) (m : Multi) → m.conns q ≡ Some x → (p : ℕ) → (is_some (with_at q (Some y) m.conns p) || is_this p m.opening) ≡ true → stream_has m p ≡ true
set_within q y x m at = sets m (with_at q (Some y) m.conns) m.opening (λ p h. with_some q y x m.conns p at h) refl

end_within : (q : ℕ) (m : Multi) → Within (stream_has (end_at q m)) (stream_has m)
end_within q m = sets m (with_at q None m.conns) m.opening (λ p h. with_none q m.conns p h) refl

moves_open : (conf : Conf) (s n next : ℕ) (m : Multi) (x : multi.Act) (k : Multi) → Moves conf s n next m x k → Opened next (place_after x next) (stream_has k) (stream_has m)
moves_open conf s n next m _ _ (multi.Joins k a p x at phase conn) = none_opened next (stream_has m) (stream_has m) (same_stream m)
moves_open conf s n next m _ _ (multi.Expects k a p at phase opening) = none_opened next (stream_has m) (stream_has m) (same_stream m)
moves_open conf s n next m _ _ (multi.Opens k a at phase none full) = (
  up next,
  λ p h. elim (either (is_some (m.conns p)) (is_this p (Some next)) h) [
    | inl c ↦ inl (left_of (is_some (m.conns p)) (is_this p m.opening) c)
    | inr o ↦ inr (only next p (is_next next p o))
  ],
)
moves_open conf s n next m _ _ (multi.Meets k a until at phase calm late soon) = none_opened next (stream_has m) (stream_has m) (same_stream m)
moves_open conf s n next m _ _ (multi.BacksOff k a until at phase late soon) = none_opened next (stream_has m) (stream_has m) (same_stream m)
moves_open conf s n next m _ _ (multi.Writes k a p x id o at phase conn left heard free carries long) = (le_refl next, λ q h. inl (set_within p (multi.written_on id k n o x) x m conn q h))
moves_open conf s n next m _ _ (multi.CannotWrite k a p x at phase conn left valid) = (le_refl next, λ q h. inl (set_within p (multi.taken_on n x) x m conn q h))
moves_open conf s n next m _ _ (multi.FindsNoId k a p x at phase conn left full) = none_opened next (stream_has m) (stream_has m) (same_stream m)
moves_open conf s n next m _ _ (multi.GoesOn k a until at phase late) = none_opened next (stream_has m) (stream_has m) (same_stream m)
moves_open conf s n next m _ _ (multi.TimesOut k a at late) = none_opened next (stream_has m) (stream_has m) (same_stream m)
moves_open conf s n next m _ _ (multi.ReadsNothing p x since conn mode late) = (le_refl next, λ q h. inl (end_within p m q h))
moves_open conf s n next m _ _ (multi.RestsTooLong p x since conn mode late lined) = (le_refl next, λ q h. inl (end_within p m q h))

-- an event opens no place
takes_open : (conf : Conf) (n next : ℕ) (m : Multi) (w : What) (x : multi.Act) (k : Multi) → Takes conf n m w x k → Opened next (place_after x next) (stream_has k) (stream_has m)
takes_open conf n next m _ _ _ (multi.ItOpens p opening) = (
  le_refl next,
  λ q h. inl (elim (either (is_some (with_at p (Some (multi.new_conn conf)) m.conns q)) (is_this q None) h) [
    | inl c ↦ elim (with_next p (multi.new_conn conf) m.conns q c) [
      | inl was ↦ left_of (is_some (m.conns q)) (is_this q m.opening) was
      | inr e ↦ right_of (is_some (m.conns q)) (is_this q m.opening) (subst (λ q. is_this q m.opening ≡ true) e (subst (λ o. is_this p o ≡ true) (sym opening) (here p)))
    ]
    | inr o ↦ absurd (let z : false ≡ true = o in cc)
  ]),
)
takes_open conf n next m _ _ _ (multi.ItDoesNotOpen p f calm opening soon) = (
  le_refl next,
  λ q h. inl (elim (either (is_some (m.conns q)) (is_this q None) h) [
    | inl c ↦ left_of (is_some (m.conns q)) (is_this q m.opening) c
    | inr o ↦ absurd (let z : false ≡ true = o in cc)
  ]),
)
takes_open conf n next m w _ _ (multi.ItFails _ p x conn told) = (le_refl next, λ q h. inl (end_within p m q h))
takes_open conf n next m _ _ _ (multi.SomeWritten p c x o conn less) = (le_refl next, λ q h. inl (set_within p (multi.wrote_on c x) x m conn q h))
takes_open conf n next m _ _ _ (multi.AllWritten p c x conn some all) = (le_refl next, λ q h. inl (set_within p (multi.wrote_on c x) x m conn q h))
takes_open conf n next m _ _ _ (multi.NothingToWrite p c x conn none) = (le_refl next, λ q h. inl (set_within p (multi.heard_on x) x m conn q h))
takes_open conf n next m _ _ _ (multi.OctetsCome p o x conn) = (le_refl next, λ q h. inl (set_within p (multi.fed_by o x) x m conn q h))

-- nor does a frame
frame_opens : (n p next : ℕ) (f : Octets) (m : Multi) (x : multi.Act) (k : Multi) → TakesFrame n p f m x k → Opened next (place_after x next) (stream_has k) (stream_has m)
frame_opens n p next f m _ _ (multi.IsBad x conn bad) = (le_refl next, λ q h. inl (end_within p m q h))
frame_opens n p next f m _ _ (multi.IsUnknown x conn good free) = (le_refl next, λ q h. inl (set_within p (multi.framed f (multi.Active n) x) x m conn q h))
frame_opens n p next f m _ _ (multi.IsLate x y mode conn good held gone leaves) = (le_refl next, λ q h. inl (set_within p (multi.framed f mode x) x m conn q h))
frame_opens n p next f m _ _ (multi.IsResult x y mode a conn good held at phase leaves) = (le_refl next, λ q h. inl (set_within p (multi.framed f mode x) x m conn q h))
frame_opens n p next f m _ _ (multi.IsDropped none) = none_opened next (stream_has m) (stream_has m) (same_stream m)

-- Datagrams

tries_open : (conf : Conf) (s n next : ℕ) (d : Dgrams) (x : multi.Act) (e : Dgrams) → Tries conf s n next d x e → Opened next (place_after x next) (dgram_has e) (dgram_has d)
tries_open conf s n next d _ _ (dgrams.Opens k a held stage room) = (up next, λ p h. elim (with_next next k d.at p h) [ inl was ↦ inl was | inr e ↦ inr (only next p e) ])
tries_open conf s n next d _ _ (dgrams.Retries k a p id t held stage late few) = (le_refl next, λ q h. inl (with_none p d.at q h))
tries_open conf s n next d _ _ (dgrams.StopsTrying k a p id t held stage late many) = (le_refl next, λ q h. inl (with_none p d.at q h))
tries_open conf s n next d _ _ (dgrams.Ends k a x held stage) = none_opened next (dgram_has d) (dgram_has d) (λ p h. h)

meets_opens : (conf : Conf) (n next : ℕ) (d : Dgrams) (w : What) (x : multi.Act) (e : Dgrams) → dgrams.Meets conf n d w x e → Opened next (place_after x next) (dgram_has e) (dgram_has d)
meets_opens conf n next d _ _ _ (dgrams.IsSent k a p id o at held stage carries) = none_opened next (dgram_has d) (dgram_has d) (λ p h. h)
meets_opens conf n next d _ _ _ (dgrams.CannotBeSent k a p e at held stage fault) = (le_refl next, λ q h. inl (with_none p d.at q h))
meets_opens conf n next d _ _ _ (dgrams.DoesNotOpen k a p f at held stage) = (le_refl next, λ q h. inl (with_none p d.at q h))
meets_opens conf n next d _ _ _ (dgrams.NotSent k a p id t f at held stage) = (le_refl next, λ q h. inl (with_none p d.at q h))
meets_opens conf n next d _ _ _ (dgrams.SentShort k a p id t at held stage) = (le_refl next, λ q h. inl (with_none p d.at q h))
meets_opens conf n next d _ _ _ (dgrams.NotReceived k a p id t f at held stage) = (le_refl next, λ q h. inl (with_none p d.at q h))
meets_opens conf n next d _ _ _ (dgrams.IsAnswered k a p id t o at held stage long answers) = (le_refl next, λ q h. inl (with_none p d.at q h))

-- Both

by_dgram : (next after : ℕ) (v : Server) (d : Dgrams) → Opened next after (dgram_has d) (dgram_has v.by_dgram) → Opened next after (λ p. dgram_has d p || stream_has v.by_stream p) (λ p. dgram_has v.by_dgram p || stream_has v.by_stream p)
by_dgram next after v d o = (
  o.0,
  λ p h. elim (either (dgram_has d p) (stream_has v.by_stream p) h) [
    | inl new ↦ elim (o.1 p new) [ inl was ↦ inl (left_of (dgram_has v.by_dgram p) (stream_has v.by_stream p) was) | inr lt ↦ inr lt ]
    | inr old ↦ inl (right_of (dgram_has v.by_dgram p) (stream_has v.by_stream p) old)
  ],
)

by_stream : (next after : ℕ) (v : Server) (m : Multi) → Opened next after (stream_has m) (stream_has v.by_stream) → Opened next after (λ p. dgram_has v.by_dgram p || stream_has m p) (λ p. dgram_has v.by_dgram p || stream_has v.by_stream p)
by_stream next after v m o = (
  o.0,
  λ p h. elim (either (dgram_has v.by_dgram p) (stream_has m p) h) [
    | inl old ↦ inl (left_of (dgram_has v.by_dgram p) (stream_has v.by_stream p) old)
    | inr new ↦ elim (o.1 p new) [ inl was ↦ inl (right_of (dgram_has v.by_dgram p) (stream_has v.by_stream p) was) | inr lt ↦ inr lt ]
  ],
)

settled : (s n next : ℕ) (u : Served) (x : multi.Act) (d : Act Served) (old : ℕ → Bool) → Settles s n next u x d → Opened next (place_after x next) (has_place u) old → Opened next d.place (has_place d.state) old
settled s n next u x _ old (part.AsItIs none) o = o
settled s n next u x _ old (part.WithResult k a y held stage) o = o

acts_open : (conf : Conf) (s next : ℕ) (u : Served) (d : Act Served) → Acts conf s next u d → Opens has_place next u d
acts_open conf s next u d (part.ByDgram x g _ tries settles) = settled s u.clock next (has_moved (record u.server { by_dgram = g }) u) x d (has_place u) settles (by_dgram next (place_after x next) u.server g (tries_open conf s u.clock next u.server.by_dgram x g tries))
acts_open conf s next u _ (part.ByStream x m moves) = by_stream next (place_after x next) u.server m (moves_open conf s u.clock next u.server.by_stream x m moves)
acts_open conf s next u _ (part.FallsBack k a held stage) = (le_refl next, λ p h. inl h)
acts_open conf s next u d (part.TellsDgrams x g _ taken early meets foreign settles) = settled s u.clock next (part.has_taken_it (record u.server { by_dgram = g }) u) x d (has_place u) settles (by_dgram next (place_after x next) u.server g (meets_opens conf u.clock next u.server.by_dgram u.pending x g meets))
acts_open conf s next u _ (part.TellsStreams x m taken other takes ignored) = by_stream next (place_after x next) u.server m (takes_open conf u.clock next u.server.by_stream u.pending x m takes)
acts_open conf s next u _ (part.Reads p o x taken pending conn) = by_stream next next u.server (set_conn p (multi.fed_by o x) u.server.by_stream) (le_refl next, λ q h. inl (set_within p (multi.fed_by o x) x u.server.by_stream conn q h))
acts_open conf s next u _ (part.TakesOne f fs x m frames early takes) = by_stream next (place_after x next) u.server m (frame_opens u.clock u.place next f u.server.by_stream x m takes)
acts_open conf s next u _ (part.ClosesFirst f fs k y m x since frames early takes conn mode late lined) = by_stream next next u.server (end_at u.place m)
    (let o = frame_opens u.clock u.place next f u.server.by_stream (multi.Gives k y) m takes in (le_refl next, λ q h. o.1 q (end_within u.place m q h)))

starts_open : (c : Conf) (s next k : ℕ) (r : Request) (u : Served) (d : Act Served) → Starts c s next k r u d → Opens has_place next u d
starts_open c s next k r u _ (part.IsHanded how _ _ used (server.ToDgrams by free)) = (le_refl next, λ p h. inl h)
starts_open c s next k r u _ (part.IsHanded how _ _ used (server.ToStreams by free)) = (le_refl next, λ p h. inl h)

cancels_open : (s next k : ℕ) (u : Served) (d : Act Served) → Cancels s next k u d → Opens has_place next u d
cancels_open s next k u _ (part.IsGivenUp _ _ (server.Waits a held stage)) = (le_refl next, λ p h. inl h)
cancels_open s next k u _ (part.IsGivenUp _ _ (server.HasPlace a p held stage)) = by_dgram next next u.server (dgrams.forget k (dgrams.leave p k a (dgrams.Ending (Err errors.TimedOut)) u.server.by_dgram)) (le_refl next, λ q h. inl (with_none p u.server.by_dgram.at q h))
cancels_open s next k u _ (part.IsGivenUp _ _ (server.AtStreams none)) = (le_refl next, λ p h. inl h)

-- a row begins
begins_same : (d : Bool) (o : Option Conn) (i : Bool) → (d || (is_some (unheard o) || i)) ≡ (d || (is_some o || i))
begins_same d None i = refl
begins_same d (Some x) i = refl

pub servers_open_next : ServersOpenNext
servers_open_next c = record {
  fresh = λ p. refl;
  begins = λ e a p. begins_same (dgram_has a.server.by_dgram p) (a.server.by_stream.conns p) (is_this p a.server.by_stream.opening);
  acts = λ s place a d acts. acts_open c s place a d acts;
  starts = λ s place k r a d starts. starts_open c s place k r a d starts;
  cancels = λ s place k a d cancels. cancels_open s place k a d cancels;
}

-- Moves one after another

pub then_opens : {U : Type 0} (has : U → ℕ → Bool) (place : ℕ) (a : U) (d e : Act U) → Opens has place a d → Opens has d.place d.state e → Opens has place a (then_act d e)
then_opens has place a d e first more = (
  le_trans first.0 more.0,
  λ p h. elim (more.1 p h) [
    | inl was ↦ elim (first.1 p was) [ inl old ↦ inl old | inr new ↦ inr (new.0, lt_of_lt_of_le new.1 more.0) ]
    | inr new ↦ inr (le_trans first.0 new.0, new.1)
  ],
)

module _ {c : Conf} (P : ServerPart c) (has : P.State → ℕ → Bool) (o : OpensNext P has) (s : ℕ) where
  pub chain_opens : (place : ℕ) (a : P.State) (d : Act P.State) → Chain P s place a d → Opens has place a d
  chain_opens _ _ _ (Stays place a) = (le_refl place, λ p h. inl h)
  chain_opens _ _ _ (Goes place a d e acts rest) = then_opens has place a d e (o.acts s place a d acts) (chain_opens d.place d.state e rest)

  -- a call, and moves behind it
  pub begun_opens : (Call : Act P.State → Type 0) (place : ℕ) (a : P.State) → ((d : Act P.State) → Call d → Opens has place a d) → (d : Act P.State) → Begins Call (Chain P s) d → Opens has place a d
  begun_opens Call place a opens _ (Calls d e call rest) = then_opens has place a d e (opens d call) (chain_opens d.place d.state e rest)
