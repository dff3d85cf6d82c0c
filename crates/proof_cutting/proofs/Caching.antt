-- A cache over a transport is cuttable where the transport is.
use Rattle.std.proofs.Common.{◌≡◌, ℕ, le_of_eq, Bool, true, false, if◌then◌else◌, List, [], ◌∷◌, Option, Some, None, Ok, Err, refl, sym, ap, subst, ◌∙◌}
use Rattle.std.specs.Prelude.{option_and_then}
use Rattle.client_request.specs.Board.{Part}
use Rattle.client_request.specs.Numbered.{puts, frees, entry_at}
use Rattle.client_request.specs.Timers.{TimerList, can_draw}
use Rattle.client_request.specs.View.{View, Transport, more_at, due_timer, answers}
use Rattle.client_request.specs.declared.board.Posted.{Posted}
use Rattle.client_request.specs.declared.error.Error.{Error}
use Rattle.client_request.specs.declared.event.Out.{Out}
use Rattle.client_cache.specs.Plain as caching
use Rattle.client_cache.specs.Keeping.{Outcome, Spare, spare_stands_in}
use Rattle.client_cache.specs.Plain.{Cached, Kept, Job, Reading, Response, onto, gives, gives_part, gives_instead, gives_outcome, gives_result, settles_for, settles, settles_all, settled, settled_after, with_parts, with_table, with_upstream, way_for, goes, hands_on, drops_job, drops_below, response_below, send, takes, hears, ticked, response_of}
use Rattle.client_cache.specs.declared.steps.Way.{Way}
use Rattle.client_cache.specs.declared.steps.Way.TheVariants.{Given, Asks}
use Rattle.right_trace.specs.Errors.{is_failing}
use Rattle.right_trace.specs.Keys.{Key}
use Rattle.proof_cutting.specs.Pieces.{like, IsReady, Both, Neither, Each, Stays, MayClose, Takes, IsCuttable, CancelsQuietly, StandsInAlike}
use Rattle.proof_cutting.specs.Choices.{cached_octets, longer_cached, IsFitCached}
use Rattle.proof_cutting.proofs.Boards.{KeepsBoard, keeps_map, keeps_left}
use Rattle.proof_cutting.proofs.Views.{map_both, weaker}

-- ---- what is settled

-- it is settled alike in a view alike, and leaves a view as it is, but for its board
module _ (before : List Out) (more : Bool) (request : ℕ) where
  gives_instead_like : (ticket : ℕ) (key : Key) (k : Kept) (v : View) (outcome : Outcome) (o : Option (List ℕ))
      → gives_instead ticket key k (like before more request v) outcome o ≡ ((gives_instead ticket key k v outcome o).0, like before more request (gives_instead ticket key k v outcome o).1)
  gives_instead_like ticket key k v outcome None = refl
  gives_instead_like ticket key k v outcome (Some message) = refl

  gives_result_like : (ticket : ℕ) (key : Key) (spare : Option Spare) (k : Kept) (v : View) (outcome : Outcome)
      → gives_result ticket key spare k (like before more request v) outcome ≡ ((gives_result ticket key spare k v outcome).0, like before more request (gives_result ticket key spare k v outcome).1)
  gives_result_like ticket key spare k v outcome = by (is_failing outcome)
    where
      by : (b : Bool) → (if b then gives_instead ticket key k (like before more request v) outcome (spare_stands_in k.settings v.now spare) else gives_outcome ticket key k (like before more request v) outcome)
          ≡ ((if b then gives_instead ticket key k v outcome (spare_stands_in k.settings v.now spare) else gives_outcome ticket key k v outcome).0, like before more request (if b then gives_instead ticket key k v outcome (spare_stands_in k.settings v.now spare) else gives_outcome ticket key k v outcome).1)
      by true = gives_instead_like ticket key k v outcome (spare_stands_in k.settings v.now spare)
      by false = refl

  gives_part_like : (ticket : ℕ) (key : Key) (spare : Option Spare) (k : Kept) (v : View) (part : Part)
      → gives_part ticket key spare k (like before more request v) part ≡ ((gives_part ticket key spare k v part).0, like before more request (gives_part ticket key spare k v part).1)
  gives_part_like ticket key spare k v (Ok None) = refl
  gives_part_like ticket key spare k v (Ok (Some message)) = gives_result_like ticket key spare k v (Ok message)
  gives_part_like ticket key spare k v (Err error) = gives_result_like ticket key spare k v (Err error)

  settles_for_like : (p : Posted) (k : Kept) (v : View) (o : Option Job) → settles_for p k (like before more request v) o ≡ ((settles_for p k v o).0, like before more request (settles_for p k v o).1)
  settles_for_like p k v None = refl
  settles_for_like p k v (Some job) = by job.key
    where
      by : (key : Option Key) → gives job.ticket key job.spare k (like before more request v) p.part ≡ ((gives job.ticket key job.spare k v p.part).0, like before more request (gives job.ticket key job.spare k v p.part).1)
      by None = refl
      by (Some key) = gives_part_like job.ticket key job.spare k v p.part

  settles_all_like : (ps : List Posted) (k : Kept) (v : View) → settles_all ps k (like before more request v) ≡ ((settles_all ps k v).0, like before more request (settles_all ps k v).1)
  settles_all_like [] k v = refl
  settles_all_like (p ∷ ps) k v =
      ap (λ (x : Kept × View). settles_all ps x.0 x.1) (settles_for_like p (record k { waiting = frees p.ticket k.waiting }) v (entry_at p.ticket k.waiting))
      ∙ settles_all_like ps (settles p k v).0 (settles p k v).1

gives_instead_onto : (ticket : ℕ) (key : Key) (k : Kept) (v : View) (outcome : Outcome) (o : Option (List ℕ)) → (gives_instead ticket key k v outcome o).1 ≡ onto (gives_instead ticket key k v outcome o).1.board v
gives_instead_onto ticket key k v outcome None = refl
gives_instead_onto ticket key k v outcome (Some message) = refl

gives_result_onto : (ticket : ℕ) (key : Key) (spare : Option Spare) (k : Kept) (v : View) (outcome : Outcome) → (gives_result ticket key spare k v outcome).1 ≡ onto (gives_result ticket key spare k v outcome).1.board v
gives_result_onto ticket key spare k v outcome = by (is_failing outcome)
  where
    given : Bool → Kept × View
    given b = if b then gives_instead ticket key k v outcome (spare_stands_in k.settings v.now spare) else gives_outcome ticket key k v outcome

    by : (b : Bool) → (given b).1 ≡ onto (given b).1.board v
    by true = gives_instead_onto ticket key k v outcome (spare_stands_in k.settings v.now spare)
    by false = refl

gives_part_onto : (ticket : ℕ) (key : Key) (spare : Option Spare) (k : Kept) (v : View) (part : Part) → (gives_part ticket key spare k v part).1 ≡ onto (gives_part ticket key spare k v part).1.board v
gives_part_onto ticket key spare k v (Ok None) = refl
gives_part_onto ticket key spare k v (Ok (Some message)) = gives_result_onto ticket key spare k v (Ok message)
gives_part_onto ticket key spare k v (Err error) = gives_result_onto ticket key spare k v (Err error)

settles_for_onto : (p : Posted) (k : Kept) (v : View) (o : Option Job) → (settles_for p k v o).1 ≡ onto (settles_for p k v o).1.board v
settles_for_onto p k v None = refl
settles_for_onto p k v (Some job) = by job.key
  where
    by : (key : Option Key) → (gives job.ticket key job.spare k v p.part).1 ≡ onto (gives job.ticket key job.spare k v p.part).1.board v
    by None = refl
    by (Some key) = gives_part_onto job.ticket key job.spare k v p.part

settles_all_onto : (ps : List Posted) (k : Kept) (v : View) → (settles_all ps k v).1 ≡ onto (settles_all ps k v).1.board v
settles_all_onto [] k v = refl
settles_all_onto (p ∷ ps) k v =
    settles_all_onto ps (settles p k v).0 (settles p k v).1
    ∙ ap (onto (settles_all (p ∷ ps) k v).1.board) (settles_for_onto p (record k { waiting = frees p.ticket k.waiting }) v (entry_at p.ticket k.waiting))

-- ---- the cache

module _ {R U P : Type 0} (place : ℕ) (below : Transport R U P) (octets : U → Option (List ℕ)) (longer : List ℕ → U → U) (IsFit : U → (timer : ℕ) → Type 0) (reading : Reading R) (ticket_of : P → ℕ)
    (cut : IsCuttable place below octets longer IsFit) where
  abbrev Over : List ℕ → U × Kept → U × Kept
  Over piece x = (longer piece x.0, x.1)

  -- what is said of a view does not turn on its board
  abbrev OnAny : (A B : U → View → Type 0) → Type 0
  OnAny A B = (u : U) (w : View) (board : List Posted) → A u w → B u (onto board w)

  settled_alike : (piece : List ℕ) (before : List Out) (A B : U → View → Type 0) (k : Kept) (v : View) (more : Bool) (request : ℕ) (a b : Option (U × View)) → OnAny A B → Both (longer piece) before A a b
      → Both (Over piece) before (λ x w. B x.0 w) (settled_after k v a) (settled_after k (like before more request v) b)
  settled_alike piece before A B k v more request a b f both = map_both _ _
      both
      (λ u w more' request' h. rw (settles_all_like before more' request' w.board k (onto v.board w))
      (Each _ _ more' request' (subst (B u) (sym (settles_all_onto w.board k (onto v.board w))) (f u w (settles_all w.board k (onto v.board w)).1.board h))))

  parts_alike : (piece : List ℕ) (before : List Out) (c : Cached U) (A : U → View → Type 0) (B : Cached U → View → Type 0) (a b : Option ((U × Kept) × View))
      → ((x : U × Kept) (w : View) → A x.0 w → B (record c { upstream = x.0; kept = x.1 }) w)
      → Both (Over piece) before (λ x w. A x.0 w) a b → Both (longer_cached longer piece) before B (with_parts c a) (with_parts (longer_cached longer piece c) b)
  parts_alike piece before c A B a b f both = map_both _ _ both (λ x w more' request' h. Each _ _ more' request' (f x w h))

  stays_on : (u : U) (v : View) → OnAny (Stays octets IsFit u (onto [] v)) (Stays octets IsFit u v)
  stays_on u v w x board h = record { fit = h.fit; timer = h.timer; now = h.now; octets = h.octets; more = h.more }

  closes_on : (u : U) (v : View) → OnAny (MayClose octets IsFit u (onto [] v)) (MayClose octets IsFit u v)
  closes_on u v w x board h = record { fit = h.fit; timer = h.timer; now = h.now; octets = h.octets; more = h.more }

  takes_on : (u : U) (v : View) → OnAny (Takes octets IsFit u (onto [] v)) (Takes octets IsFit u v)
  takes_on u v w x board h = record { fit = h.fit; timer = h.timer; now = h.now; octets = h.octets; more = h.more }

  stays_cached : (c : Cached U) (v : View) (x : U × Kept) (w : View) → Stays octets IsFit c.upstream v x.0 w → Stays (cached_octets octets) (IsFitCached IsFit) c v (record c { upstream = x.0; kept = x.1 }) w
  stays_cached c v x w h = record { fit = h.fit; timer = h.timer; now = h.now; octets = h.octets; more = h.more }

  stays_here : (u : U) (v w : View) → IsFit u v.timers.next → w.timers ≡ v.timers → w.now ≡ v.now → w.more ≡ v.more → Stays octets IsFit u v u w
  stays_here u v w fit timers now more = record {
    fit = subst (λ (t : TimerList). IsFit u t.next) (sym timers) fit;
    timer = le_of_eq (ap (λ (t : TimerList). t.next) (sym timers));
    now = now;
    octets = refl;
    more = more;
  }

  goes_alike : (piece : List ℕ) (before : List Out) (more : Bool) (ticket : ℕ) (request : R) (u : U) (k : Kept) (v : View) (way : Way) → IsFit u v.timers.next
      → Both (Over piece) before (λ x w. Stays octets IsFit u v x.0 w) (goes below ticket request u k v way) (goes below ticket request (longer piece u) k (like before more v.request v) way)
  goes_alike piece before more ticket request u k v (Given outcome) fit = Each _ _ more v.request (stays_here u v (answers ticket (caching.part_of outcome) v) fit refl refl refl)
  goes_alike piece before more ticket request u k v (Asks key spare) fit =
      settled_alike piece before (Stays octets IsFit u (onto [] v)) (Stays octets IsFit u v) (record k { waiting = puts v.ticket (record { ticket = ticket; key = key; spare = spare }) k.waiting }) v more v.request _ _ (stays_on u v)
      (cut.sends piece before more request u (onto [] v) fit)

  sends : (piece : List ℕ) (before : List Out) (more : Bool) (request : R) (c : Cached U) (v : View) → IsFit c.upstream v.timers.next
      → Both (longer_cached longer piece) before (Stays (cached_octets octets) (IsFitCached IsFit) c v) (with_parts c (takes reading below request c.upstream c.kept v))
      (with_parts (longer_cached longer piece c) (takes reading below request (longer piece c.upstream) c.kept (like before more v.request v)))
  sends piece before more request c v fit = parts_alike piece before c (Stays octets IsFit c.upstream v) (Stays (cached_octets octets) (IsFitCached IsFit) c v) _ _ (stays_cached c v) (by (can_draw v.ticket))
    where
      ticked_on : (x : U) (w : View) → Stays octets IsFit c.upstream (ticked v) x w → Stays octets IsFit c.upstream v x w
      ticked_on x w h = record { fit = h.fit; timer = h.timer; now = h.now; octets = h.octets; more = h.more }

      by : (b : Bool) → Both (Over piece) before (λ x w. Stays octets IsFit c.upstream v x.0 w) (option_and_then (send reading below v.ticket request c.upstream c.kept) (if b then Some (ticked v) else None))
          (option_and_then (send reading below v.ticket request (longer piece c.upstream) c.kept) (if b then Some (like before more v.request (ticked v)) else None))
      by true = weaker (λ x w h. ticked_on x.0 w h)
          (goes_alike piece before more v.ticket request c.upstream (with_table c.kept (way_for reading request c.kept (ticked v)).1) (ticked v) (way_for reading request c.kept (ticked v)).0 fit)
      by false = Neither

  cancels : (piece : List ℕ) (before : List Out) (more : Bool) (request : ℕ) (r : Response P) (c : Cached U) (v : View) → IsFit c.upstream v.timers.next
      → Both (longer_cached longer piece) before (Stays (cached_octets octets) (IsFitCached IsFit) c v) (with_parts c (drops_below below ticket_of c.upstream c.kept v r.below))
      (with_parts (longer_cached longer piece c) (drops_below below ticket_of (longer piece c.upstream) c.kept (like before more request v) r.below))
  cancels piece before more request r c v fit = parts_alike piece before c (Stays octets IsFit c.upstream v) (Stays (cached_octets octets) (IsFitCached IsFit) c v) _ _ (stays_cached c v) (by r.below)
    where
      job : (response : P) (o : Option Job) → Both (Over piece) before (λ x w. Stays octets IsFit c.upstream v x.0 w) (drops_job below (ticket_of response) response c.upstream c.kept v o)
          (drops_job below (ticket_of response) response (longer piece c.upstream) c.kept (like before more request v) o)
      job response None = Each _ _ more request (stays_here c.upstream v v fit refl refl refl)
      job response (Some j) =
          settled_alike piece before (Stays octets IsFit c.upstream (onto [] v)) (Stays octets IsFit c.upstream v) (record c.kept { waiting = frees (ticket_of response) c.kept.waiting }) v more request _ _ (stays_on c.upstream v)
          (cut.cancels piece before more request response c.upstream (onto [] v) fit)

      by : (o : Option P) → Both (Over piece) before (λ x w. Stays octets IsFit c.upstream v x.0 w) (drops_below below ticket_of c.upstream c.kept v o) (drops_below below ticket_of (longer piece c.upstream) c.kept (like before more request v) o)
      by None = Each _ _ more request (stays_here c.upstream v v fit refl refl refl)
      by (Some response) = job response (entry_at (ticket_of response) c.kept.waiting)

  fires : (piece : List ℕ) (before : List Out) (more : Bool) (request timer : ℕ) (c : Cached U) (v : View) → IsFit c.upstream v.timers.next
      → Both (longer_cached longer piece) before (MayClose (cached_octets octets) (IsFitCached IsFit) c v) (with_parts c (hears below (due_timer timer) c.upstream c.kept v))
      (with_parts (longer_cached longer piece c) (hears below (due_timer timer) (longer piece c.upstream) c.kept (like before more request v)))
  fires piece before more request timer c v fit = parts_alike piece before c (MayClose octets IsFit c.upstream v) (MayClose (cached_octets octets) (IsFitCached IsFit) c v) _ _
      (λ x w h. record { fit = h.fit; timer = h.timer; now = h.now; octets = h.octets; more = h.more })
      (settled_alike piece before (MayClose octets IsFit c.upstream (onto [] v)) (MayClose octets IsFit c.upstream v) c.kept v more request _ _ (closes_on c.upstream v) (cut.fires piece before more request timer c.upstream (onto [] v) fit))

  hears_frame : (piece : List ℕ) (before : List Out) (request : ℕ) (c : Cached U) (v : View) → IsFit c.upstream v.timers.next → IsReady (octets c.upstream) → v.more ≡ false
      → Both (longer_cached longer piece) before (Takes (cached_octets octets) (IsFitCached IsFit) c v) (with_parts c (hears below (more_at place) c.upstream c.kept v))
      (with_parts (longer_cached longer piece c) (hears below (more_at place) (longer piece c.upstream) c.kept (like before false request v)))
  hears_frame piece before request c v fit ready more = parts_alike piece before c (Takes octets IsFit c.upstream v) (Takes (cached_octets octets) (IsFitCached IsFit) c v) _ _
      (λ x w h. record { fit = h.fit; timer = h.timer; now = h.now; octets = h.octets; more = h.more })
      (settled_alike piece before (Takes octets IsFit c.upstream (onto [] v)) (Takes octets IsFit c.upstream v) c.kept v false request _ _ (takes_on c.upstream v) (cut.takes piece before request c.upstream (onto [] v) fit ready more))

  response : (piece : List ℕ) (before : List Out) (more : Bool) (request : ℕ) (r : R) (c : Cached U) (v : View)
      → response_of reading below r (longer piece c.upstream) c.kept (like before more request v) ≡ response_of reading below r c.upstream c.kept v
  response piece before more request r c v = ap (λ (o : Option P). record { ticket = v.ticket; given = false; below = o }) (by (way_for reading r c.kept (ticked v)).0)
    where
      by : (way : Way) → response_below below r (longer piece c.upstream) (like before more request (ticked v)) way ≡ response_below below r c.upstream (ticked v) way
      by (Given outcome) = refl
      by (Asks key spare) = ap Some (cut.response piece before more request r c.upstream (onto [] (ticked v)))

  pub caches_are_cuttable : IsCuttable place (caching.transport reading ticket_of below) (cached_octets octets) (longer_cached longer) (IsFitCached IsFit)
  caches_are_cuttable = record {
    closed = λ piece c none. ap (with_upstream c) (cut.closed piece c.upstream none);
    behind = λ piece c. cut.behind piece c.upstream;
    twice = λ a b c. ap (with_upstream c) (cut.twice a b c.upstream);
    fits = λ piece c n f. cut.fits piece c.upstream n f;
    later = λ c n m le f. cut.later c.upstream n m le f;
    bytes = λ piece c v f more. ap (λ a. with_parts c (settled_after c.kept v a)) (cut.bytes piece c.upstream (onto [] v) f more);
    unheard = λ piece c v f none. ap (λ a. with_parts c (settled_after c.kept v a)) (cut.unheard piece c.upstream (onto [] v) f none);
    rests = λ c v f rest. ap (λ a. with_parts c (settled_after c.kept v a)) (cut.rests c.upstream (onto [] v) f rest);
    response = response;
    sends = sends;
    cancels = cancels;
    fires = fires;
    takes = hears_frame;
  }

-- ---- what stands in for a result

-- It is told by what is kept and the moment.
pub caches_stand_in_alike : {U P : Type 0} (longer : List ℕ → U → U) (ticket_of : P → ℕ) → StandsInAlike (longer_cached longer) (caching.stale ticket_of)
caches_stand_in_alike longer ticket_of piece before more request r c v = refl

-- ---- what a request that is given up leaves of the board

module _ {R U P : Type 0} (below : Transport R U P) (IsFit : U → (timer : ℕ) → Type 0) (reading : Reading R) (ticket_of : P → ℕ) (quiet : CancelsQuietly below IsFit) where
  drops_keeps : (u : U) (k : Kept) (v : View) (o : Option P) → IsFit u v.timers.next → KeepsBoard v (drops_below below ticket_of u k v o)
  drops_keeps u k v None fit = refl
  drops_keeps u k v (Some response) fit = job (entry_at (ticket_of response) k.waiting)
    where
      freed : Kept
      freed = record k { waiting = frees (ticket_of response) k.waiting }

      left : (a : Option (U × View)) → below.cancel response u (onto [] v) ≡ a → KeepsBoard v (settled_after freed v a)
      left None is = tt
      left (Some x) is = ap (λ ps. (settles_all ps freed (onto v.board x.1)).1.board) (quiet response u (onto [] v) x.0 x.1 fit is)

      job : (o : Option Job) → KeepsBoard v (drops_job below (ticket_of response) response u k v o)
      job None = refl
      job (Some j) = left (below.cancel response u (onto [] v)) refl

  pub caches_cancel_quietly : CancelsQuietly (caching.transport reading ticket_of below) (IsFitCached IsFit)
  caches_cancel_quietly r c v w x fit is =
      keeps_left v x w (with_parts c (drops_below below ticket_of c.upstream c.kept v r.below))
      (keeps_map v (λ (y : (U × Kept) × View). (record c { upstream = y.0.0; kept = y.0.1 }, y.1)) (drops_below below ticket_of c.upstream c.kept v r.below) (λ y. refl) (drops_keeps c.upstream c.kept v r.below fit)) is
