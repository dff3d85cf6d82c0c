-- The moves of its own, of one server's part.
use Rattle.std.proofs.Common.{◌≡◌, ℕ, ◌≤◌, Bool, true, false, Some, List, [], refl, arith, ◌∙◌, sym, subst, ap}
use Rattle.std.specs.Prelude.{if◌then◌else◌, Result, Ok, Err}
use Rattle.client_request.specs.Request.{Request}
use Rattle.client_request.specs.declared.error.Error.{Error}
use Rattle.client_request.specs.declared.event.What.{What}
use Rattle.client_request.specs.declared.event.Via.TheVariants.{Dgram}
use Rattle.right_trace.specs.Trace.{History, Conf}
use Rattle.right_trace.specs.Messages.{Octets, answers, id_in}
use Rattle.right_trace.specs.Places.{place_of}
use Rattle.proof_right.specs.machine.Streams.{Act, Puts, Gives, Nothing, Asker, Conn, Multi, Moves, TakesFrame, result_of}
use Rattle.proof_right.specs.machine.Dgrams.{Stage, Queued, Trying, Sent, Ending, Cut, Tryer, Dgrams, Tries, Meets, IsIgnored}
use Rattle.proof_right.specs.machine.Served.{Served, IsSettled, holds, posts_of, Acts, Settles, AsItIs, WithResult}
use Rattle.proof_right.specs.machine.Part.{Post, Act as Step}
use Rattle.proof_right.proofs.PartLaws.{fault_in, total, Tells}
use Rattle.proof_right.proofs.server.DgramKept.{dgram_site}
use Rattle.proof_right.proofs.server.Views.{each_at}
use Rattle.proof_right.proofs.server.Fitting.{Fits}
use Rattle.proof_right.proofs.server.Keeping.{at_site}
use Rattle.proof_right.proofs.client.Faults.{fault_few}
use Rattle.proof_right.proofs.client.Later.{site_all}
use Rattle.client_request.specs.declared.error.Error.TheVariants as errors
use Rattle.client_request.specs.declared.error.QueryError.TheVariants as query
use Rattle.proof_right.specs.machine.Streams as multi
use Rattle.proof_right.specs.machine.Dgrams as dgrams
use Rattle.proof_right.specs.machine.Served as served

-- what a timer makes end is no fault
tries_end : (c : Conf) → (s n next : ℕ) (d d' : Dgrams) (x : Act) → IsSettled d → Tries c s n next d x d' → (k : ℕ) (a : Tryer) (y : Result Octets Error) → d'.held k ≡ Some a → a.stage ≡ Ending y → fault_in y ≡ 0
tries_end c s n next d _ _ set (dgrams.Opens k b held stage few) k' a y e g = each_at (λ j (a : Tryer). (y : Result Octets Error) → a.stage ≡ Ending y → fault_in y ≡ 0) k (dgrams.staged b (Trying next)) d.held (λ y g. absurd (cc)) (λ j a ne e y g. absurd (set j a e y g)) k' a e y g
tries_end c s n next d _ _ set (dgrams.Retries k b p id t held stage late few) k' a y e g = each_at (λ j (a : Tryer). (y : Result Octets Error) → a.stage ≡ Ending y → fault_in y ≡ 0) k (dgrams.staged b Queued) d.held (λ y g. absurd (cc)) (λ j a ne e y g. absurd (set j a e y g)) k' a e y g
tries_end c s n next d _ _ set (dgrams.StopsTrying k b p id t held stage late six) k' a y e g = each_at (λ j (a : Tryer). (y : Result Octets Error) → a.stage ≡ Ending y → fault_in y ≡ 0) k (dgrams.staged b (Ending (Err (errors.Dgram query.Timeout)))) d.held (λ y g. (let z : Err (errors.Dgram query.Timeout) ≡ y = cc in subst (λ y. fault_in y ≡ 0) z refl)) (λ j a ne e y g. absurd (set j a e y g)) k' a e y g
tries_end c s n next d _ _ set (dgrams.Ends k b x held stage) k' a y e g = absurd (set k b held x stage)

tries_posts : (c : Conf) → (s n next : ℕ) (d d' : Dgrams) (x : Act) → IsSettled d → Tries c s n next d x d' → posts_of x ≡ []
tries_posts c s n next d _ _ set (dgrams.Opens k b held stage few) = refl
tries_posts c s n next d _ _ set (dgrams.Retries k b p id t held stage late few) = refl
tries_posts c s n next d _ _ set (dgrams.StopsTrying k b p id t held stage late six) = refl
tries_posts c s n next d _ _ set (dgrams.Ends k b x held stage) = absurd (set k b held x stage)

-- an event that server s takes by datagram names a place of its own
meets_posts : (c : Conf) → (n : ℕ) (d d' : Dgrams) (w : What) (x : Act) → Meets c n d w x d' → (posts_of x ≡ []) × ((p : ℕ) × (place_of w ≡ Some p) × ((k : ℕ) × (d.at p ≡ Some k)))
meets_posts c n d _ _ _ (dgrams.IsSent k a p id o at held stage carries) = (refl, (p, refl, (k, at)))
meets_posts c n d _ _ _ (dgrams.CannotBeSent k a p e at held stage bad) = (refl, (p, refl, (k, at)))
meets_posts c n d _ _ _ (dgrams.DoesNotOpen k a p g at held stage) = (refl, (p, refl, (k, at)))
meets_posts c n d _ _ _ (dgrams.NotSent k a p id t g at held stage) = (refl, (p, refl, (k, at)))
meets_posts c n d _ _ _ (dgrams.SentShort k a p id t at held stage) = (refl, (p, refl, (k, at)))
meets_posts c n d _ _ _ (dgrams.NotReceived k a p id t g at held stage) = (refl, (p, refl, (k, at)))
meets_posts c n d _ _ _ (dgrams.IsAnswered k a p id t o at held stage long ok) = (refl, (p, refl, (k, at)))

moves_posts : (c : Conf) → (s n next : ℕ) (m m' : Multi) (x : Act) → Moves c s n next m x m' → total (λ (x : Post). fault_in x.result) (posts_of x) ≡ 0
moves_posts c s n next m _ _ (multi.Joins k a p x ask phase conn) = refl
moves_posts c s n next m _ _ (multi.Expects k a p ask phase op) = refl
moves_posts c s n next m _ _ (multi.Opens k a ask phase none full) = refl
moves_posts c s n next m _ _ (multi.Meets k a until ask phase calm low high) = refl
moves_posts c s n next m _ _ (multi.BacksOff k a until ask phase low high) = refl
moves_posts c s n next m _ _ (multi.Writes k a p x id o ask phase conn none quiet unheld carries some) = refl
moves_posts c s n next m _ _ (multi.CannotWrite k a p x ask phase conn none bad) = refl
moves_posts c s n next m _ _ (multi.FindsNoId k a p x ask phase conn none full) = refl
moves_posts c s n next m _ _ (multi.GoesOn k a until ask phase late) = refl
moves_posts c s n next m _ _ (multi.TimesOut k a ask late) = refl
moves_posts c s n next m _ _ (multi.ReadsNothing p x since conn mode late) = refl
moves_posts c s n next m _ _ (multi.RestsTooLong p x since conn mode late pumped) = refl

takes_posts : (c : Conf) → (n : ℕ) (m m' : Multi) (w : What) (x : Act) → multi.Takes c n m w x m' → posts_of x ≡ []
takes_posts c n m _ _ _ (multi.ItOpens p op) = refl
takes_posts c n m _ _ _ (multi.ItDoesNotOpen p g calm op lt) = refl
takes_posts c n m _ _ _ (multi.ItFails w p x conn told) = refl
takes_posts c n m _ _ _ (multi.SomeWritten p b x o conn lt) = refl
takes_posts c n m _ _ _ (multi.AllWritten p b x conn some le) = refl
takes_posts c n m _ _ _ (multi.NothingToWrite p b x conn none) = refl
takes_posts c n m _ _ _ (multi.OctetsCome p o x conn) = refl

no_fault : (r : Request) (id : ℕ) (f : Octets) → fault_in (result_of r id f) ≡ 0
no_fault r id f = go (answers r id f)
  where
    go : (b : Bool) → fault_in (if b then Ok f else Err errors.WrongReplyForQuery) ≡ 0
    go true = refl
    go false = refl

frame_posts : (n p : ℕ) (f : Octets) (m m' : Multi) (x : Act) → TakesFrame n p f m x m' → total (λ (x : Post). fault_in x.result) (posts_of x) ≡ 0
frame_posts n p f m _ _ (multi.IsBad x conn bad) = refl
frame_posts n p f m _ _ (multi.IsUnknown x conn good none) = refl
frame_posts n p f m _ _ (multi.IsLate x y mode conn good held late leaves) = refl
frame_posts n p f m _ _ (multi.IsResult x y mode a conn good held ask phase leaves) = (let z = no_fault a.request (id_in f) f in omega arith)
frame_posts n p f m _ _ (multi.IsDropped none) = refl

none_total : (xs : List Post) → xs ≡ [] → total (λ (x : Post). fault_in x.result) xs ≡ 0
none_total xs e = subst (λ xs. total (λ (x : Post). fault_in x.result) xs ≡ 0) (sym e) refl

module _ (c : Conf) (s next : ℕ) (past : History) (w : What) (u : Served) (h : History) (f : Fits c s past w u h) where
  no_faults : (d : Step Served) → (u.taken ≡ true → d.state.taken ≡ true) → total (λ (x : Post). fault_in x.result) d.posts ≡ 0 → Tells Served (λ u. u.taken) s w u h d
  no_faults d stays none = record { stays = stays; few = omega arith; by_event = λ e. absurd (omega arith) }

  -- results of closing a place
  settles_stays : (v : Served) (x : Act) (d : Step Served) → Settles s u.clock next v x d → d.state.taken ≡ v.taken
  settles_stays v x _ (AsItIs set) = refl
  settles_stays v x _ (WithResult k a y held stage) = refl

  settles_none : (v : Served) (x : Act) (d : Step Served) → posts_of x ≡ [] → ((k : ℕ) (a : Tryer) (y : Result Octets Error) → v.server.by_dgram.held k ≡ Some a → a.stage ≡ Ending y → fault_in y ≡ 0) → Settles s u.clock next v x d → total (λ (x : Post). fault_in x.result) d.posts ≡ 0
  settles_none v x _ none ends (AsItIs set) = none_total (posts_of x) none
  settles_none v x _ none ends (WithResult k a y held stage) = (let z = ends k a y held stage in omega arith)

  settles_few : (v : Served) (x : Act) (d : Step Served) → posts_of x ≡ [] → Settles s u.clock next v x d → total (λ (x : Post). fault_in x.result) d.posts ≤ 1
  settles_few v x _ none (AsItIs set) = (let z = none_total (posts_of x) none in omega arith)
  settles_few v x _ none (WithResult k a y held stage) = (let z = fault_few y in omega arith)

  pub acts_tells : (d : Step Served) → Acts c s next u d → Tells Served (λ u. u.taken) s w u h d
  acts_tells d (served.ByDgram x e _ tries set) = no_faults d (λ t. settles_stays _ x d set ∙ t) (settles_none _ x d (tries_posts c s u.clock next u.server.by_dgram e x f.settled tries) (tries_end c s u.clock next u.server.by_dgram e x f.settled tries) set)
  acts_tells _ (served.ByStream x m move) = no_faults _ (λ t. t) (moves_posts c s u.clock next u.server.by_stream m x move)
  acts_tells _ (served.FallsBack k a held stage) = no_faults _ (λ t. t) refl
  acts_tells d (served.TellsDgrams x e _ un soon meets foreign set) =
      let m = meets_posts c u.clock u.server.by_dgram e u.pending x meets in
      let p = m.1.0 in
      let at = at_site c s past w u.pending u.server.by_dgram h p (m.1.2.0) f.dgrams m.1.2.1 in
      record {
        stays = λ t. settles_stays _ x d set;
        few = settles_few _ x d m.0 set;
        by_event = λ some. (un, settles_stays _ x d set, record { place = p; names = ap place_of (sym (f.untaken un).pending) ∙ m.1.1; via = Dgram; at = site_all p d.outs (dgram_site s) h at });
      }
  acts_tells _ (served.TellsStreams x m un plain takes ignored) = no_faults _ (λ t. refl) (none_total (posts_of x) (takes_posts c u.clock u.server.by_stream m u.pending x takes))
  acts_tells _ (served.Reads p o x un pend conn) = no_faults _ (λ t. refl) refl
  acts_tells _ (served.TakesOne g gs x m is soon frame) = no_faults _ (λ t. t) (frame_posts u.clock u.place g u.server.by_stream m x frame)
  acts_tells _ (served.ClosesFirst g gs k y m x since is soon frame conn mode late pumped) = no_faults _ (λ t. t) (frame_posts u.clock u.place g u.server.by_stream m (Gives k y) frame)
