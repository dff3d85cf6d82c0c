-- Results that a move of its own of one server's part gives: whose they are, and that they are right.
use Rattle.proof_right.proofs.Received.{waits_on}
use Rattle.std.proofs.Common.{◌≡◌, ◌≢◌, ℕ, ◌+◌, ◌≤◌, ◌<◌, Bool, true, false, ◌||◌, ◌⊎◌, inl, inr, Option, Some, None, List, [], ◌∷◌, ◌++◌, is_some, refl, arith, ◌∙◌, sym, subst, subst₂, ap, ◌==◌, length, take}
use Rattle.std.specs.Prelude.{if◌then◌else◌, Result, Ok, Err}
use Rattle.std.proofs.lemmas.Bool.{cases_eq}
use Rattle.std.proofs.lemmas.Bool.Decides.{nat_tests}
use Rattle.client_request.specs.declared.error.Error.{Error}
use Rattle.client_request.specs.declared.event.What.{What}
use Rattle.client_request.specs.declared.event.What.TheVariants.{Bytes, Tick}
use Rattle.client_request.specs.declared.event.Out.TheVariants.{Close}
use Rattle.client_request.specs.declared.event.Via.TheVariants.{Stream}
use Rattle.client_request.specs.Request.{Request}
use Rattle.right_trace.specs.Trace.{History, Conf, Came, Put, put_all}
use Rattle.right_trace.specs.Time.{now, row_before, EarlierRow, stream_timeout, recv_size}
use Rattle.right_trace.specs.Messages.{Octets, answers, id_in, truncated, IsComposingFault}
use Rattle.right_trace.specs.Requests.{is_start, start, replied}
use Rattle.right_trace.specs.Places.{reach}
use Rattle.right_trace.specs.Frames.{came}
use Rattle.right_trace.specs.Exchanges.{Comes}
use Rattle.right_trace.specs.Causes.{Heard, StreamSilence}
use Rattle.proof_right.specs.machine.Streams.{Act, Puts, Gives, Nothing, Phase, Asker, Conn, Multi, Moves, Takes, TakesFrame, result_of}
use Rattle.right_trace.specs.Updates.{with_at}
use Rattle.proof_right.specs.machine.Dgrams.{Stage, Queued, Trying, Sent, Ending, Cut, Tryer, Dgrams, Tries, Meets, stage_of}
use Rattle.proof_right.specs.machine.Served.{Served, IsSettled, IsInTime, holds, outs_of, posts_of, has_moved, does, Acts, Settles, AsItIs, WithResult}
use Rattle.proof_right.specs.machine.Part.{Post, Act as Step, IsPosted}
use Rattle.proof_right.proofs.PartLaws.{PostRight}
use Rattle.proof_right.proofs.server.Kept.{Kept}
use Rattle.proof_right.proofs.server.DgramKept.{StageFits, KeptD}
use Rattle.proof_right.proofs.server.DgramPuts.{silent_on, reply_put}
use Rattle.proof_right.proofs.server.Views.{each_at}
use Rattle.proof_right.proofs.server.Coming.{frame_comes, is_fresh, is_wrong}
use Rattle.proof_right.proofs.server.Cancels.{one_way, no_asker}
use Rattle.proof_right.proofs.server.Fitting.{Fits, bytes_or, no_frames_came, elsewhere}
use Rattle.client_request.specs.declared.error.Error.TheVariants as errors
use Rattle.client_request.specs.declared.error.QueryError.TheVariants as query
use Rattle.client_request.specs.declared.fault.Fault.TheVariants as fault
use Rattle.proof_right.specs.machine.Streams as multi
use Rattle.proof_right.specs.machine.Dgrams as dgrams
use Rattle.proof_right.specs.machine.Server as server
use Rattle.proof_right.specs.machine.Served as served
use Rattle.proof_right.proofs.server.Trying as trying
use Rattle.proof_right.proofs.server.Framing as framing
use Rattle.proof_right.proofs.server.DgramTaken as dgram_taken

-- Who is held before and after, and who is given a result.
pub record Handed (before after : ℕ → Bool) (posts : List Post) : Type 0 where
  pub no_more : (k : ℕ) → after k ≡ true → before k ≡ true
  pub given : (k : ℕ) → before k ≡ true → after k ≡ false → (x : Result Octets Error) × IsPosted (record { request = k; result = x }) posts
  pub was_held : (x : Post) → IsPosted x posts → before x.request ≡ true
  pub let_go : (x : Post) → IsPosted x posts → after x.request ≡ false
  pub once : (k : ℕ) (x y : Result Octets Error) → IsPosted (record { request = k; result = x }) posts → IsPosted (record { request = k; result = y }) posts → x ≡ y

-- nobody
hands_none : (before after : ℕ → Bool) (posts : List Post) → posts ≡ [] → ((k : ℕ) → after k ≡ before k) → Handed before after posts
hands_none before after posts none same = record {
  no_more = λ k e. sym (same k) ∙ e;
  given = λ k e g. absurd (let z : true ≡ false = sym e ∙ (sym (same k) ∙ g) in cc);
  was_held = λ x i. absurd (subst (λ ps. IsPosted x ps) none i);
  let_go = λ x i. absurd (subst (λ ps. IsPosted x ps) none i);
  once = λ k x y i. absurd (subst (λ ps. IsPosted (record { request = k; result = x }) ps) none i);
}

-- request k
hands_one : (before after : ℕ → Bool) (k : ℕ) (y : Result Octets Error) → before k ≡ true → ((j : ℕ) → after j ≡ (if k == j then false else before j)) → Handed before after (record { request = k; result = y } ∷ [])
hands_one before after k y held less = record {
  no_more = λ j e. no_more j (k == j) (sym (less j) ∙ e);
  given = λ j e g. elim (cases_eq k j) [
    | inl is ↦ (y, inl (ap (λ j. record { request = j; result = y }) is))
    | inr ne ↦ absurd (let t : (k == j) ≡ false = grind (arith, nat_tests) in let z : after j ≡ before j = less j ∙ rw t refl in let b : true ≡ false = sym e ∙ (sym z ∙ g) in cc)
  ];
  was_held = λ x i. elim i [ inl e ↦ subst (λ (x : Post). before x.request ≡ true) e held | inr z ↦ absurd z ];
  let_go = λ x i. elim i [ inl e ↦ subst (λ (x : Post). after x.request ≡ false) e gone | inr z ↦ absurd z ];
  once = λ j x z i l. result_is j x i ∙ sym (result_is j z l);
}
  where
    no_more : (j : ℕ) (b : Bool) → (if b then false else before j) ≡ true → before j ≡ true
    no_more j true e = absurd (cc)
    no_more j false e = e

    gone : after k ≡ false
    gone = (let t : (k == k) ≡ true = grind (arith, nat_tests) in less k ∙ rw t refl)

    result_is : (j : ℕ) (x : Result Octets Error) → IsPosted (record { request = j; result = x }) (record { request = k; result = y } ∷ []) → x ≡ y
    result_is j x i = elim i [ inl e ↦ ap (λ (x : Post). x.result) (sym e) | inr z ↦ absurd z ]

-- what maps hold

some_same : {V : Type 0} (k : ℕ) (a b : V) (f : ℕ → Option V) → f k ≡ Some a → (j : ℕ) → is_some (with_at k (Some b) f j) ≡ is_some (f j)
some_same k a b f e j = elim (cases_eq k j) [
  | inl is ↦ (let t : (k == j) ≡ true = grind (arith, nat_tests) in let z : is_some (f j) ≡ true = ap is_some (ap f (sym is) ∙ e) in rw t (sym z))
  | inr ne ↦ (let t : (k == j) ≡ false = grind (arith, nat_tests) in rw t refl)
]

some_less : {V : Type 0} (k : ℕ) (f : ℕ → Option V) (j : ℕ) → is_some (with_at k None f j) ≡ (if k == j then false else is_some (f j))
some_less k f j = go (k == j)
  where
    go : (b : Bool) → is_some (if b then None else f j) ≡ (if b then false else is_some (f j))
    go true = refl
    go false = refl

every_same : (g : Phase → Phase) (x : Option Asker) → is_some (multi.every g x) ≡ is_some x
every_same g None = refl
every_same g (Some a) = refl

-- By stream

abbrev StreamHeld : Act → Multi → Multi → Type 0
StreamHeld (Puts o) m m' = (j : ℕ) → is_some (m'.asks j) ≡ is_some (m.asks j)
StreamHeld (Gives k x) m m' = ((a : Asker) × (m.asks k ≡ Some a)) × ((j : ℕ) → is_some (m'.asks j) ≡ (if k == j then false else is_some (m.asks j)))
StreamHeld Nothing m m' = (j : ℕ) → is_some (m'.asks j) ≡ is_some (m.asks j)

moves_held : (c : Conf) → (s n next : ℕ) (m m' : Multi) (x : Act) → Moves c s n next m x m' → StreamHeld x m m'
moves_held c s n next m _ _ (multi.Joins k a p x ask phase conn) = some_same k a _ m.asks ask
moves_held c s n next m _ _ (multi.Expects k a p ask phase op) = some_same k a _ m.asks ask
moves_held c s n next m _ _ (multi.Opens k a ask phase none full) = some_same k a _ m.asks ask
moves_held c s n next m _ _ (multi.Meets k a until ask phase calm low high) = some_same k a _ m.asks ask
moves_held c s n next m _ _ (multi.BacksOff k a until ask phase low high) = some_same k a _ m.asks ask
moves_held c s n next m _ _ (multi.Writes k a p x id o ask phase conn none quiet unheld carries some) = some_same k a _ m.asks ask
moves_held c s n next m _ _ (multi.CannotWrite k a p x ask phase conn none bad) = some_same k a _ m.asks ask
moves_held c s n next m _ _ (multi.FindsNoId k a p x ask phase conn none full) = some_same k a _ m.asks ask
moves_held c s n next m _ _ (multi.GoesOn k a until ask phase late) = some_same k a _ m.asks ask
moves_held c s n next m _ _ (multi.TimesOut k a ask late) = ((a, ask), some_less k m.asks)
moves_held c s n next m _ _ (multi.ReadsNothing p x since conn mode late) = λ j. every_same (multi.broken_at p) (m.asks j)
moves_held c s n next m _ _ (multi.RestsTooLong p x since conn mode late pumped) = λ j. every_same (multi.broken_at p) (m.asks j)

pub takes_held : (c : Conf) → (n : ℕ) (m m' : Multi) (v : What) (x : Act) → Takes c n m v x m' → (posts_of x ≡ []) × ((j : ℕ) → is_some (m'.asks j) ≡ is_some (m.asks j))
takes_held c n m _ _ _ (multi.ItOpens p op) = (refl, λ j. every_same (multi.expected multi.Free) (m.asks j))
takes_held c n m _ _ _ (multi.ItDoesNotOpen p g calm op lt) = (refl, λ j. every_same (multi.expected multi.Broken) (m.asks j))
takes_held c n m _ _ _ (multi.ItFails w p x conn told) = (refl, λ j. every_same (multi.broken_at p) (m.asks j))
takes_held c n m _ _ _ (multi.SomeWritten p b x o conn lt) = (refl, λ j. refl)
takes_held c n m _ _ _ (multi.AllWritten p b x conn some le) = (refl, λ j. refl)
takes_held c n m _ _ _ (multi.NothingToWrite p b x conn none) = (refl, λ j. refl)
takes_held c n m _ _ _ (multi.OctetsCome p o x conn) = (refl, λ j. refl)

frame_held : (n p : ℕ) (g : Octets) (m m' : Multi) (x : Act) → TakesFrame n p g m x m' → StreamHeld x m m'
frame_held n p g m _ _ (multi.IsBad x conn bad) = λ j. every_same (multi.broken_at p) (m.asks j)
frame_held n p g m _ _ (multi.IsUnknown x conn good none) = λ j. refl
frame_held n p g m _ _ (multi.IsLate x y mode conn good held late leaves) = λ j. refl
frame_held n p g m _ _ (multi.IsResult x y mode a conn good held ask phase leaves) = ((a, ask), some_less y.request m.asks)
frame_held n p g m _ _ (multi.IsDropped none) = λ j. refl

-- By datagram

pub tries_held : (c : Conf) → (s n next : ℕ) (d d' : Dgrams) (x : Act) → IsSettled d → Tries c s n next d x d' → (posts_of x ≡ []) × ((j : ℕ) → is_some (d'.held j) ≡ is_some (d.held j))
tries_held c s n next d _ _ set (dgrams.Opens k a held stage few) = (refl, some_same k a _ d.held held)
tries_held c s n next d _ _ set (dgrams.Retries k a p id t held stage late few) = (refl, some_same k a _ d.held held)
tries_held c s n next d _ _ set (dgrams.StopsTrying k a p id t held stage late six) = (refl, some_same k a _ d.held held)
tries_held c s n next d _ _ set (dgrams.Ends k a x held stage) = absurd (set k a held x stage)

pub meets_held : (c : Conf) → (n : ℕ) (d d' : Dgrams) (v : What) (x : Act) → Meets c n d v x d' → (posts_of x ≡ []) × ((j : ℕ) → is_some (d'.held j) ≡ is_some (d.held j))
meets_held c n d _ _ _ (dgrams.IsSent k a p id o at held stage carries) = (refl, some_same k a _ d.held held)
meets_held c n d _ _ _ (dgrams.CannotBeSent k a p e at held stage bad) = (refl, some_same k a _ d.held held)
meets_held c n d _ _ _ (dgrams.DoesNotOpen k a p g at held stage) = (refl, some_same k a _ d.held held)
meets_held c n d _ _ _ (dgrams.NotSent k a p id t g at held stage) = (refl, some_same k a _ d.held held)
meets_held c n d _ _ _ (dgrams.SentShort k a p id t at held stage) = (refl, some_same k a _ d.held held)
meets_held c n d _ _ _ (dgrams.NotReceived k a p id t g at held stage) = (refl, some_same k a _ d.held held)
meets_held c n d _ _ _ (dgrams.IsAnswered k a p id t o at held stage long ok) = (refl, some_same k a _ d.held held)

module _ (c : Conf) (s next : ℕ) (past : History) (w : What) (u : Served) (h : History) (f : Fits c s past w u h) where
  asks_held : (k : ℕ) → is_some (u.server.by_stream.asks k) ≡ true → holds u k ≡ true
  asks_held k e = go (is_some (u.server.by_dgram.held k))
    where
      go : (b : Bool) → (b || is_some (u.server.by_stream.asks k)) ≡ true
      go true = refl
      go false = e

  -- a request by stream has its result
  stream_one : (k : ℕ) (a : Asker) (asks : ℕ → Option Asker) → u.server.by_stream.asks k ≡ Some a → ((j : ℕ) → is_some (asks j) ≡ (if k == j then false else is_some (u.server.by_stream.asks j))) → (j : ℕ) → (is_some (u.server.by_dgram.held j) || is_some (asks j)) ≡ (if k == j then false else holds u j)
  stream_one k a asks ask less j = elim (cases_eq k j) [
    | inl is ↦ (let t : (k == j) ≡ true = grind (arith, nat_tests) in let z : is_some (asks j) ≡ false = less j ∙ rw t refl in let n : u.server.by_dgram.held j ≡ None = subst (λ j. u.server.by_dgram.held j ≡ None) is (no_tryer (u.server.by_dgram.held k) refl) in rw (t, n, z) refl)
    | inr ne ↦ (let t : (k == j) ≡ false = grind (arith, nat_tests) in let z : is_some (asks j) ≡ is_some (u.server.by_stream.asks j) = less j ∙ rw t refl in rw (t, z) refl)
  ]
    where
      no_tryer : (x : Option Tryer) → u.server.by_dgram.held k ≡ x → u.server.by_dgram.held k ≡ None
      no_tryer None e = e
      no_tryer (Some b) e = absurd (one_way c s past w u h k b a f e ask)

  stream_held : (v : Served) (x : Act) → v.server.by_dgram ≡ u.server.by_dgram → StreamHeld x u.server.by_stream v.server.by_stream → Handed (holds u) (holds v) (posts_of x)
  stream_held v (Puts o) same e = hands_none (holds u) (holds v) [] refl (λ k. rw (same, e k) refl)
  stream_held v Nothing same e = hands_none (holds u) (holds v) [] refl (λ k. rw (same, e k) refl)
  stream_held v (Gives k y) same e = hands_one (holds u) (holds v) k y (asks_held k (ap is_some e.0.1)) (λ j. ap (λ (d : Dgrams). is_some (d.held j) || is_some (v.server.by_stream.asks j)) same ∙ stream_one k (e.0.0) v.server.by_stream.asks e.0.1 e.1 j)

  -- what follows the close of a datagram place
  settles_held : (v : Served) (x : Act) (d : Step Served) → posts_of x ≡ [] → v.server.by_stream ≡ u.server.by_stream → ((j : ℕ) → is_some (v.server.by_dgram.held j) ≡ is_some (u.server.by_dgram.held j)) → Settles s u.clock next v x d → Handed (holds u) (holds d.state) d.posts
  settles_held v x _ none same e (AsItIs set) = hands_none (holds u) (holds v) (posts_of x) none (λ k. rw (same, e k) refl)
  settles_held v x _ none same e (WithResult k a y held stage) = hands_one (holds u) _ k y (was_held k a held) (λ j. less k a held j)
    where
      was : (k : ℕ) (a : Tryer) → v.server.by_dgram.held k ≡ Some a → (x : Option Tryer) → u.server.by_dgram.held k ≡ x → (b : Tryer) × (u.server.by_dgram.held k ≡ Some b)
      was k a held None i = absurd (let z : is_some (v.server.by_dgram.held k) ≡ false = e k ∙ ap is_some i in let y : is_some (v.server.by_dgram.held k) ≡ true = ap is_some held in let b : true ≡ false = sym y ∙ z in cc)
      was k a held (Some b) i = (b, i)

      was_held : (k : ℕ) (a : Tryer) → v.server.by_dgram.held k ≡ Some a → holds u k ≡ true
      was_held k a held = (let b = was k a held (u.server.by_dgram.held k) refl in let z : is_some (u.server.by_dgram.held k) ≡ true = ap is_some b.1 in rw z refl)

      less : (k : ℕ) (a : Tryer) → v.server.by_dgram.held k ≡ Some a → (j : ℕ) → (is_some (with_at k None v.server.by_dgram.held j) || is_some (v.server.by_stream.asks j)) ≡ (if k == j then false else holds u j)
      less k a held j = elim (cases_eq k j) [
        | inl is ↦ (let b = was k a held (u.server.by_dgram.held k) refl in let t : (k == j) ≡ true = grind (arith, nat_tests) in let n : u.server.by_stream.asks j ≡ None = subst (λ j. u.server.by_stream.asks j ≡ None) is (no_asker c s past w u h k (b.0) f b.1) in rw (t, same, n) refl)
        | inr ne ↦ (let t : (k == j) ≡ false = grind (arith, nat_tests) in rw (t, same, e j) refl)
      ]

  -- a request goes on by stream
  falls_held : (k : ℕ) (a : Tryer) → u.server.by_dgram.held k ≡ Some a → (j : ℕ) → holds (has_moved (server.falls_back k u.clock a u.server) u) j ≡ holds u j
  falls_held k a held j = elim (cases_eq k j) [
    | inl is ↦ (let t : (k == j) ≡ true = grind (arith, nat_tests) in let z : is_some (u.server.by_dgram.held j) ≡ true = ap (λ j. is_some (u.server.by_dgram.held j)) (sym is) ∙ ap is_some held in rw (t, z) refl)
    | inr ne ↦ (let t : (k == j) ≡ false = grind (arith, nat_tests) in rw t refl)
  ]

  pub acts_held : (d : Step Served) → Acts c s next u d → Handed (holds u) (holds d.state) d.posts
  acts_held d (served.ByDgram x e _ tries set) = (let t = tries_held c s u.clock next u.server.by_dgram e x f.settled tries in settles_held _ x d t.0 refl t.1 set)
  acts_held _ (served.ByStream x m move) = stream_held (has_moved (record u.server { by_stream = m }) u) x refl (moves_held c s u.clock next u.server.by_stream m x move)
  acts_held _ (served.FallsBack k a held stage) = hands_none (holds u) _ [] refl (falls_held k a held)
  acts_held d (served.TellsDgrams x e _ un soon meets foreign set) = (let t = meets_held c u.clock u.server.by_dgram e u.pending x meets in settles_held _ x d t.0 refl t.1 set)
  acts_held _ (served.TellsStreams x m un plain takes ignored) = (let t = takes_held c u.clock u.server.by_stream m u.pending x takes in hands_none (holds u) _ (posts_of x) t.0 (λ k. (let z = t.1 k in rw z refl)))
  acts_held _ (served.Reads p o x un pend conn) = hands_none (holds u) _ [] refl (λ k. refl)
  acts_held _ (served.TakesOne g gs x m is soon frame) = stream_held (served.frames_left gs m u) x refl (frame_held u.clock u.place g u.server.by_stream m x frame)
  acts_held _ (served.ClosesFirst g gs k y m x since is soon frame conn mode late pumped) = (let e = frame_held u.clock u.place g u.server.by_stream m (Gives k y) frame in stream_held (served.frames_left [] (multi.end_at u.place m) u) (Gives k y) refl (e.0, λ j. every_same (multi.broken_at u.place) (m.asks j) ∙ e.1 j))

-- Results are right.

start_past : (k s t : ℕ) (h : History) → start k s Stream h ≡ Some t → t < now h → start k s Stream (row_before h) ≡ Some t
start_past k s t [] e lt = absurd (cc)
start_past k s t (Came w ∷ h) e lt = e
start_past k s t (Put o ∷ h) e lt = go (is_start k s Stream o) (λ e. start_past k s t h e lt) e
  where
    go : (b : Bool) → (start k s Stream h ≡ Some t → start k s Stream (row_before h) ≡ Some t) → (if b then Some (now h) else start k s Stream h) ≡ Some t → start k s Stream (row_before h) ≡ Some t
    go true ih g = absurd (let z : now h ≡ t = cc in omega arith)
    go false ih g = ih g

earlier_past : (P : History → Type 0) (k s t : ℕ) (h : History) → start k s Stream (row_before h) ≡ Some t → P (row_before h) ⊎ EarlierRow P (row_before h) → EarlierRow P h
earlier_past P k s t [] e x = absurd (cc)
earlier_past P k s t (Came w ∷ h) e x = x
earlier_past P k s t (Put o ∷ h) e x = earlier_past P k s t h e x

-- what a datagram place's close makes end is no timeout of the request
abbrev IsUntimed : Tryer → Type 0
IsUntimed a = (y : Result Octets Error) → a.stage ≡ Ending y → y ≢ Err errors.TimedOut

untimed_at : (k : ℕ) (b : Tryer) (d : Dgrams) → IsSettled d → IsUntimed b → (j : ℕ) (a : Tryer) → with_at k (Some b) d.held j ≡ Some a → IsUntimed a
untimed_at k b d set un = each_at (λ j (a : Tryer). IsUntimed a) k b d.held un (λ j a ne e y g. absurd (set j a e y g))

untimed_err : (b : Tryer) (e : Error) → b.stage ≡ Ending (Err e) → e ≢ errors.TimedOut → IsUntimed b
untimed_err b e is ne y g same = ne (let z : Ending (Err e) ≡ Ending (Err errors.TimedOut) = sym is ∙ (g ∙ ap Ending same) in cc)

tries_untimed : (c : Conf) → (s n next : ℕ) (d d' : Dgrams) (x : Act) → IsSettled d → Tries c s n next d x d' → (j : ℕ) (a : Tryer) → d'.held j ≡ Some a → IsUntimed a
tries_untimed c s n next d _ _ set (dgrams.Opens k b held stage few) = untimed_at k (dgrams.staged b (Trying next)) d set (λ y g. absurd (cc))
tries_untimed c s n next d _ _ set (dgrams.Retries k b p id t held stage late few) = untimed_at k (dgrams.staged b Queued) d set (λ y g. absurd (cc))
tries_untimed c s n next d _ _ set (dgrams.StopsTrying k b p id t held stage late six) = untimed_at k (dgrams.staged b (Ending (Err (errors.Dgram query.Timeout)))) d set (untimed_err (dgrams.staged b (Ending (Err (errors.Dgram query.Timeout)))) (errors.Dgram query.Timeout) refl (λ e. cc))
tries_untimed c s n next d _ _ set (dgrams.Ends k b x held stage) = absurd (set k b held x stage)

composing_untimed : (r : Request) (e : Error) → IsComposingFault r e → e ≢ errors.TimedOut
composing_untimed r e f is = elim f [ inl x ↦ (let z = sym x.0 ∙ is in cc) | inr x ↦ (let z = sym x.0 ∙ is in cc) ]

ok_untimed : (b : Tryer) (m : Octets) (cut : Bool) → b.stage ≡ (if cut then Cut else Ending (Ok m)) → IsUntimed b
ok_untimed b m true is y g same = (let z : Cut ≡ Ending y = sym is ∙ g in cc)
ok_untimed b m false is y g same = (let z : Ending (Ok m) ≡ Ending (Err errors.TimedOut) = sym is ∙ (g ∙ ap Ending same) in cc)

meets_untimed : (c : Conf) → (n : ℕ) (d d' : Dgrams) (v : What) (x : Act) → IsSettled d → Meets c n d v x d' → (j : ℕ) (a : Tryer) → d'.held j ≡ Some a → IsUntimed a
meets_untimed c n d _ _ _ set (dgrams.IsSent k b p id o at held stage carries) = untimed_at k _ d set (λ y g. absurd (cc))
meets_untimed c n d _ _ _ set (dgrams.CannotBeSent k b p e at held stage bad) = untimed_at k (dgrams.staged b (Ending (Err e))) d set (untimed_err (dgrams.staged b (Ending (Err e))) e refl (composing_untimed b.request e bad))
meets_untimed c n d _ _ _ set (dgrams.DoesNotOpen k b p g at held stage) = untimed_at k (dgrams.staged b (Ending (Err (errors.Dgram (query.Connect g))))) d set (untimed_err (dgrams.staged b (Ending (Err (errors.Dgram (query.Connect g))))) (errors.Dgram (query.Connect g)) refl (λ e. cc))
meets_untimed c n d _ _ _ set (dgrams.NotSent k b p id t g at held stage) = untimed_at k (dgrams.staged b (Ending (Err (errors.Dgram (query.Send g))))) d set (untimed_err (dgrams.staged b (Ending (Err (errors.Dgram (query.Send g))))) (errors.Dgram (query.Send g)) refl (λ e. cc))
meets_untimed c n d _ _ _ set (dgrams.SentShort k b p id t at held stage) = untimed_at k (dgrams.staged b (Ending (Err (errors.Dgram (query.Send fault.ShortSend))))) d set (untimed_err (dgrams.staged b (Ending (Err (errors.Dgram (query.Send fault.ShortSend))))) (errors.Dgram (query.Send fault.ShortSend)) refl (λ e. cc))
meets_untimed c n d _ _ _ set (dgrams.NotReceived k b p id t g at held stage) = untimed_at k (dgrams.staged b (Ending (Err (errors.Dgram (query.Receive g))))) d set (untimed_err (dgrams.staged b (Ending (Err (errors.Dgram (query.Receive g))))) (errors.Dgram (query.Receive g)) refl (λ e. cc))
meets_untimed c n d _ _ _ set (dgrams.IsAnswered k b p id t o at held stage long ok) = untimed_at k (dgrams.staged b (stage_of (take (recv_size c) o))) d set (ok_untimed (dgrams.staged b (stage_of (take (recv_size c) o))) (take (recv_size c) o) (truncated (take (recv_size c) o)) refl)

module _ (c : Conf) (s : ℕ) (past : History) (w : What) (u : Served) (h : History) (f : Fits c s past w u h) where
  -- the result that a small move gives is right
  abbrev ActRight : Act → Type 0
  ActRight (Gives k y) = replied k past ≡ false → PostRight c k y past w h
  ActRight (Puts o) = Unit {0}
  ActRight Nothing = Unit {0}

  post_right : (x : Act) → ActRight x → (z : Post) → IsPosted z (posts_of x) → replied z.request past ≡ false → PostRight c z.request z.result past w (put_all (outs_of x) h)
  post_right (Puts o) r z i un = absurd i
  post_right Nothing r z i un = absurd i
  post_right (Gives k y) r z i un = elim i [ inl e ↦ subst (λ (z : Post). replied z.request past ≡ false → PostRight c z.request z.result past w h) e r un | inr b ↦ absurd b ]

  times_out : (k : ℕ) (a : Asker) → u.server.by_stream.asks k ≡ Some a → a.since + stream_timeout c ≤ now h → PostRight c k (Err errors.StreamReadTimeout) past w h
  unfolding stream_timeout
  times_out k a ask late =
      let began = start_past k s a.since h (f.streams.asks k a ask).since (let pos = waits_on c in omega (arith, pos)) in
      let before = f.streams.row.before in
      (StreamSilence (record { server = s; begun = a.since; is_begun = subst (λ past. start k s Stream past ≡ Some a.since) before began; passed = late; silent = λ x. f.silent k a ask (earlier_past (Heard c k s) k s a.since h began (subst (λ past. Heard c k s past ⊎ EarlierRow (Heard c k s) past) (sym before) x)) }), λ e. absurd (cc))

  moves_act : (next : ℕ) (m : Multi) (x : Act) → Moves c s u.clock next u.server.by_stream x m → ActRight x
  moves_act next _ _ (multi.Joins k a p x ask phase conn) = tt
  moves_act next _ _ (multi.Expects k a p ask phase op) = tt
  moves_act next _ _ (multi.Opens k a ask phase none full) = tt
  moves_act next _ _ (multi.Meets k a until ask phase calm low high) = tt
  moves_act next _ _ (multi.BacksOff k a until ask phase low high) = tt
  moves_act next _ _ (multi.Writes k a p x id o ask phase conn none quiet unheld carries some) = tt
  moves_act next _ _ (multi.CannotWrite k a p x ask phase conn none bad) = tt
  moves_act next _ _ (multi.FindsNoId k a p x ask phase conn none full) = tt
  moves_act next _ _ (multi.GoesOn k a until ask phase late) = tt
  moves_act next _ _ (multi.TimesOut k a ask late) = λ un. times_out k a ask (subst (λ n. a.since + stream_timeout c ≤ n) f.clock late)
  moves_act next _ _ (multi.ReadsNothing p x since conn mode late) = tt
  moves_act next _ _ (multi.RestsTooLong p x since conn mode late pumped) = tt

  module _ (g : Octets) (gs : List Octets) (is_next : u.frames ≡ g ∷ gs) (soon : IsInTime c u.clock u.server) (lt : s < length c.servers) where
    frame_act : (m' : Multi) (x : Act) → TakesFrame u.clock u.place g u.server.by_stream x m' → ActRight x
    frame_act _ _ (multi.IsBad x conn bad) = tt
    frame_act _ _ (multi.IsUnknown x conn good none) = tt
    frame_act _ _ (multi.IsLate x y mode conn good held late leaves) = tt
    frame_act _ _ (multi.IsDropped none) = tt
    frame_act _ _ (multi.IsResult x y mode a conn good held ask phase leaves) = λ un. go un (answers a.request (id_in g) g) refl
      where
        p : ℕ
        p = u.place

        kept : Kept c s past w Tick f.fr f.more u.server.by_stream h
        kept = framing.kept c s past w u h f g gs is_next

        more : f.more p ≡ g ∷ gs
        more = (framing.here c s past w u h f g gs is_next x conn).0

        some : (fr ms : List Octets) → ms ≡ g ∷ gs → fr ++ ms ≡ [] → ⊥
        some [] ms e i = (let z = sym e ∙ i in cc)
        some (z ∷ fr) ms e i = cc

        none_came : came p w past ≡ [] → ⊥
        none_came e = some (f.fr p) (f.more p) more ((kept.conns p x conn).frames ∙ (kept.row.came p ∙ e))

        event : (o : Octets) × (w ≡ Bytes p o)
        event = elim (bytes_or w) [
          | inl other ↦ absurd (none_came (no_frames_came c s p w past h kept.row.before (kept.conns p x conn).at other))
          | inr b ↦ elim (cases_eq b.0 p) [
            | inl is ↦ (b.1, b.2 ∙ ap (λ q. Bytes q b.1) is)
            | inr ne ↦ absurd (none_came (subst (λ w. came p w past ≡ []) (sym b.2) (elsewhere b.0 p b.1 past ne)))
          ]
        ]

        comes : replied y.request past ≡ false → Comes c a.request Stream s p y.request (id_in g) g past w h
        comes un = subst (λ w. Comes c a.request Stream s p y.request (id_in g) g past w h) (sym event.1) (frame_comes c s past p event.0 f.fr f.more u.server.by_stream h x g gs y a lt (subst (λ w. Kept c s past w Tick f.fr f.more u.server.by_stream h) event.1 kept) conn more good held ask (let z = soon.asked y.request a ask in let n = f.clock in omega arith) un)

        go : replied y.request past ≡ false → (b : Bool) → answers a.request (id_in g) g ≡ b → PostRight c y.request (if b then Ok g else Err errors.WrongReplyForQuery) past w h
        go un true e = is_fresh c s p y.request (id_in g) a.request g past w h (comes un) e
        go un false e = (is_wrong c s p y.request (id_in g) a.request g past w h (comes un) e, λ i. absurd (cc))

  -- a result of a datagram place
  settles_post : (next : ℕ) (v : Served) (x : Act) (d : Step Served) → posts_of x ≡ [] → KeptD c s past w v.pending v.server.by_dgram (put_all (outs_of x) h) → ((k : ℕ) (a : Tryer) → v.server.by_dgram.held k ≡ Some a → IsUntimed a) → Settles s u.clock next v x d → (z : Post) → IsPosted z d.posts → replied z.request past ≡ false → PostRight c z.request z.result past w (put_all d.outs h)
  settles_post next v x _ none kept untimed (AsItIs set) z i un = absurd (subst (λ ps. IsPosted z ps) none i)
  settles_post next v x _ none kept untimed (WithResult k a y held stage) z i un = elim i [ inl e ↦ subst (λ (z : Post). replied z.request past ≡ false → PostRight c z.request z.result past w (put_all (outs_of x) h)) e (λ un. (let st : StageFits c s k a.request past w v.pending (put_all (outs_of x) h) (Ending y) = subst (λ st. StageFits c s k a.request past w v.pending (put_all (outs_of x) h) st) stage (kept.held k a held).stage in st un (untimed k a held y stage))) un | inr b ↦ absurd b ]

  pub acts_post : (next : ℕ) → next ≡ reach h → s < length c.servers → (d : Step Served) → Acts c s next u d → (z : Post) → IsPosted z d.posts → replied z.request past ≡ false → PostRight c z.request z.result past w (put_all d.outs h)
  acts_post next is lt d (served.ByDgram x e _ tries set) z i un = settles_post next (has_moved (record u.server { by_dgram = e }) u) x d (tries_held c s u.clock next u.server.by_dgram e x f.settled tries).0 (trying.tries_half c s past w u h f e x (subst₂ (λ n next. Tries c s n next u.server.by_dgram x e) f.clock is tries)).dgrams (tries_untimed c s u.clock next u.server.by_dgram e x f.settled tries) set z i un
  acts_post next is lt _ (served.ByStream x m move) z i un = post_right x (moves_act next m x move) z i un
  acts_post next is lt _ (served.FallsBack k a held stage) z i un = absurd i
  acts_post next is lt d (served.TellsDgrams x e _ untaken soon meets foreign set) z i un = settles_post next (served.has_taken_it (record u.server { by_dgram = e }) u) x d (meets_held c u.clock u.server.by_dgram e u.pending x meets).0 (dgram_taken.met c s past w u h f lt untaken soon next is e x meets foreign).dgrams (meets_untimed c u.clock u.server.by_dgram e u.pending x f.settled meets) set z i un
  acts_post next is lt _ (served.TellsStreams x m untaken plain takes ignored) z i un = absurd (subst (λ ps. IsPosted z ps) (takes_held c u.clock u.server.by_stream m u.pending x takes).0 i)
  acts_post next is lt _ (served.Reads p o x untaken pend conn) z i un = absurd i
  acts_post next is lt _ (served.TakesOne g gs x m more soon frame) z i un = post_right x (frame_act g gs more soon lt m x frame) z i un
  acts_post next is lt _ (served.ClosesFirst g gs k y m x since more soon frame conn mode late pumped) z i un = (let r = post_right (Gives k y) (frame_act g gs more soon lt m (Gives k y) frame) z i in reply_put c past w (Close u.place) h z.request z.result (silent_on z.request (Close u.place) h refl) (r un))
