-- A fallback over two transports that are cuttable at a place is cuttable there, and posts nothing at once where they do not.
use Rattle.std.proofs.Common.{◌≡◌, ℕ, ◌≤◌, ◌⊎◌, inl, inr, Bool, true, false, if◌then◌else◌, List, [], ◌∷◌, Option, Some, None, refl, sym, ap, subst, ◌∙◌, le_refl, le_trans}
use Rattle.std.specs.Prelude.{option_and_then, option_map}
use Rattle.client_request.specs.Numbered.{entry_at}
use Rattle.client_request.specs.Timers.{can_draw}
use Rattle.client_request.specs.View.{View, Transport, told, more_at, due_timer, answers}
use Rattle.client_request.specs.declared.board.Posted.{Posted}
use Rattle.client_request.specs.declared.event.Out.{Out}
use Rattle.client_request.specs.declared.event.Out.TheVariants.{Start}
use Rattle.client_request.specs.declared.event.Via.TheVariants as via
use Rattle.client_request.specs.declared.event.What.TheVariants.{Bytes}
use Rattle.client_multi.specs.Fallback.{Tables, Parts, After, Settling, is_truncated, onto, starts, admits, waiting_below, without_below, without, with_tables, follows_at, follows_below, follows, settles_whole, settles_job, settles_at, settles, settles_all, gives_rest, collects, settles_dgram, settles_stream, first_job, takes_at, takes, hears_stream, hears, drops_at, drops, Fallback, with_parts, transport}
use Rattle.client_multi.specs.declared.dgram_stream.job.Job.{Job}
use Rattle.client_multi.specs.declared.dgram_stream.job.Job.TheVariants.{Dgram, Stream}
use Rattle.client_stream.specs.Frames.{behind_frame}
use Rattle.proof_cutting.specs.Pieces.{like, stands, IsReady, Both, Neither, Each, Stays, MayClose, Takes, IsCuttable, PostsNothing}
use Rattle.proof_cutting.proofs.Views.{asks_like, next_ticket, weaker, same_both, tickets_both, then_both, map_both}

module _ {R D S P Q : Type 0} {dgram : Transport R D P} {stream : Transport R S Q} {place : ℕ} {octets : S → Option (List ℕ)} {longer : List ℕ → S → S} {IsFit : S → (timer : ℕ) → Type 0} (dgrams : IsCuttable place dgram (λ u. None) (λ piece u. u) (λ u n. Unit {0})) (streams : IsCuttable place stream octets longer IsFit) where
  -- What is left where a request is sent or given up, as `Stays`, but that it sees no more of the views than this.
  abbrev Stands : S → View → S → View → Type 0
  Stands u v w x = IsFit w x.timers.next × (v.timers.next ≤ x.timers.next) × (octets w ≡ octets u) × (x.more ≡ v.more) × (x.now ≡ v.now)

  stands_so : (u : S) (v : View) → IsFit u v.timers.next → Stands u v u v
  stands_so u v fit = (fit, le_refl v.timers.next, refl, refl, refl)

  stands_then : (u : S) (v : View) (w : S) (x : View) (y : S) (z : View) → Stands u v w x → Stands w x y z → Stands u v y z
  stands_then u v w x y z a b = (b.0, le_trans a.1 b.1, b.2 ∙ a.2, b.3 ∙ a.3, b.4 ∙ a.4)

  -- of a frame that was taken, and what was settled behind it
  took : (f : Fallback R D S P Q) (v : View) (y : S) (z : View) (g : Fallback R D S P Q) (x : View) → Takes octets IsFit f.parts.stream (onto [] v) y z → Stands y z g.parts.stream x
      → Takes (λ (f : Fallback R D S P Q). octets f.parts.stream) (λ f n. IsFit f.parts.stream n) f v g x
  took f v y z g x a b = record { fit = b.0; timer = le_trans a.timer b.1; octets = stand a.octets; more = b.3 ∙ (a.more ∙ ap stands (sym b.2)); now = b.4 ∙ a.now }
    where
      stand : (octets y ≡ option_map behind_frame (octets f.parts.stream)) ⊎ (octets y ≡ None) → (octets g.parts.stream ≡ option_map behind_frame (octets f.parts.stream)) ⊎ (octets g.parts.stream ≡ None)
      stand (inl e) = inl (b.2 ∙ e)
      stand (inr e) = inr (b.2 ∙ e)

  -- The stream alone hears octets that come, and that more is to be taken
  module _ (server : ℕ) (s : Parts R D S P Q) (v : View) where
    hears_bytes : (piece : List ℕ) → hears server dgram stream (told (Bytes place piece)) s v ≡ option_and_then (settles_stream server dgram stream [] s v) (stream.step (told (Bytes place piece)) s.stream (onto [] v))
    hears_bytes piece = ap (option_and_then (hears_stream server dgram stream (told (Bytes place piece)) s v)) (dgrams.unheard piece s.dgram (onto [] v) tt refl)

    hears_more : hears server dgram stream (more_at place) s v ≡ option_and_then (settles_stream server dgram stream [] s v) (stream.step (more_at place) s.stream (onto [] v))
    hears_more = ap (option_and_then (hears_stream server dgram stream (more_at place) s v)) (dgrams.rests s.dgram (onto [] v) tt refl)

    rests_so : IsFit s.stream v.timers.next → stands (octets s.stream) ≡ false → hears server dgram stream (more_at place) s v ≡ Some (s, v)
    rests_so fit none = hears_more ∙ ap (option_and_then (settles_stream server dgram stream [] s v)) (streams.rests s.stream (onto [] v) fit none)

    unheard_so : (piece : List ℕ) → IsFit s.stream v.timers.next → octets s.stream ≡ None → hears server dgram stream (told (Bytes place piece)) s v ≡ Some (s, v)
    unheard_so piece fit none = hears_bytes piece ∙ ap (option_and_then (settles_stream server dgram stream [] s v)) (streams.unheard piece s.stream (onto [] v) fit none)

  bytes_so : (server : ℕ) (piece : List ℕ) (s : Parts R D S P Q) (v : View) → IsFit s.stream v.timers.next → v.more ≡ false
      → hears server dgram stream (told (Bytes place piece)) s v ≡ hears server dgram stream (more_at place) (record s { stream = longer piece s.stream }) v
  bytes_so server piece s v fit none =
      hears_bytes server s v piece
      ∙ (ap (option_and_then (settles_stream server dgram stream [] s v)) (streams.bytes piece s.stream (onto [] v) fit none)
      ∙ sym (hears_more server (record s { stream = longer piece s.stream }) v))

  module _ (server : ℕ) (piece : List ℕ) (before : List Out) where
    abbrev longer_parts : Parts R D S P Q → Parts R D S P Q
    longer_parts s = record s { stream = longer piece s.stream }

    abbrev longer_settled : Parts R D S P Q × List Posted → Parts R D S P Q × List Posted
    longer_settled x = (longer_parts x.0, x.1)

    -- two calls agree, and the octets stand
    abbrev Settle : S → View → (first second : Settling R D S P Q) → Type 0
    Settle u v = Both longer_settled before (λ w x. Stands u v w.0.stream x)

    abbrev Agree : S → View → (first second : After R D S P Q) → Type 0
    Agree u v = Both longer_parts before (λ w x. Stands u v w.stream x)

    later : (s : Parts R D S P Q) (v x : View) → IsFit s.stream v.timers.next → v.timers.next ≤ x.timers.next → IsFit s.stream x.timers.next
    later s v x fit le = streams.later s.stream v.timers.next x.timers.next le fit

    -- a request goes to the stream
    starts_like : (more : Bool) (request number : ℕ) (v : View) → starts server number (like before more request v) ≡ like before more number (starts server number v)
    starts_like more request number v = ap (λ (x : View). record x { request = number }) (asks_like before more request (Start number server via.Stream) v)

    follows_so : (ticket number : ℕ) (r : R) (s : Parts R D S P Q) (board : List Posted) (v : View) (more : Bool) (request : ℕ) → IsFit s.stream v.timers.next
        → Settle s.stream v (follows server stream ticket number r s board v) (follows server stream ticket number r (longer_parts s) board (like before more request v))
    follows_so ticket number r s board v more request fit =
        same_both refl (ap (λ x. follows_below server stream ticket r (longer_parts s) x (onto board x)) (starts_like more request number v))
        (by (stream.send r s.stream l) (stream.send r (longer piece s.stream) (like before more number l)) (streams.sends piece before more r s.stream l fit))
      where
        w : View
        w = starts server number v

        l : View
        l = onto board w

        by : (o p : Option (S × View)) → Both (longer piece) before (Stays octets IsFit s.stream l) o p
            → Settle s.stream v (follows_at server stream ticket r s w l o) (follows_at server stream ticket r (longer_parts s) (like before more number w) (like before more number l) p)
        by _ _ Neither = Neither
        by _ _ (Each u x still asked stays) =
            let jobs : Q → Tables R P Q = λ response. admits ticket (Stream w.ticket response) s.tables in
            let first : Parts R D S P Q × List Posted = (record s { stream = u; tables = jobs (stream.response r s.stream l) }, x.board) in
            subst
            (λ response. Settle s.stream v (Some (first, onto w.board x)) (Some ((record s { stream = longer piece u; tables = jobs response }, x.board), onto w.board (like before still asked x))))
            (sym (streams.response piece before more number r s.stream l))
            (Each first (onto w.board x) still asked (stays.fit, stays.timer, stays.octets, stays.more, stays.now))

    -- what was posted is settled
    settles_so : (p : Posted) (s : Parts R D S P Q) (board : List Posted) (v : View) (more : Bool) (request : ℕ) → IsFit s.stream v.timers.next
        → Settle s.stream v (settles server stream p s board v) (settles server stream p (longer_parts s) board (like before more request v))
    settles_so p s board v more request fit = by (waiting_below p.ticket s.tables)
      where
        t : Parts R D S P Q
        t = with_tables (without_below p.ticket s.tables) s

        whole : (ticket number : ℕ) (r : R) (is_cut : Bool)
            → Settle s.stream v (settles_whole server stream ticket number r p.part t board v is_cut) (settles_whole server stream ticket number r p.part (longer_parts t) board (like before more request v) is_cut)
        whole ticket number r true = follows_so ticket number r t board v more request fit
        whole ticket number r false = Each (t, board) (answers ticket p.part v) more request (stands_so s.stream v fit)

        job_so : (ticket : ℕ) (job : Job R P Q) → Settle s.stream v (settles_job server stream ticket p.part t board v job) (settles_job server stream ticket p.part (longer_parts t) board (like before more request v) job)
        job_so ticket (Dgram lower number r response) = whole ticket number r (is_truncated p.part)
        job_so ticket (Stream lower response) = Each (t, board) (answers ticket p.part v) more request (stands_so s.stream v fit)

        by : (waiting : Option (ℕ × Job R P Q)) → Settle s.stream v (settles_at server stream p.part t board v waiting) (settles_at server stream p.part (longer_parts t) board (like before more request v) waiting)
        by None = Each (t, board) v more request (stands_so s.stream v fit)
        by (Some waiting) = job_so waiting.0 waiting.1

    settles_all_so : (posts : List Posted) (s : Parts R D S P Q) (board : List Posted) (v : View) (more : Bool) (request : ℕ) → IsFit s.stream v.timers.next
        → Settle s.stream v (settles_all server stream posts s board v) (settles_all server stream posts (longer_parts s) board (like before more request v))
    settles_all_so [] s board v more request fit = Each (s, board) v more request (stands_so s.stream v fit)
    settles_all_so (p ∷ posts) s board v more request fit =
        let next : (Parts R D S P Q × List Posted) × View → Settling R D S P Q = λ x. settles_all server stream posts x.0.0 x.0.1 x.1 in
        then_both next next (settles_so p s board v more request fit)
        (λ w x more request a. weaker (λ y z b. stands_then s.stream v w.0.stream x y.0.stream z a b) (settles_all_so posts w.0 w.1 x more request a.0))

    collects_so : (from_dgram from_stream : List Posted) (s : Parts R D S P Q) (v : View) (more : Bool) (request : ℕ) → IsFit s.stream v.timers.next
        → Agree s.stream v (collects server stream from_dgram from_stream s v) (collects server stream from_dgram from_stream (longer_parts s) (like before more request v))
    collects_so from_dgram from_stream s v more request fit =
        let rest : (Parts R D S P Q × List Posted) × View → Parts R D S P Q × View = λ x. gives_rest server stream x.0.1 x.0.0 x.1 in
        map_both rest rest (settles_all_so from_dgram s from_stream v more request fit) (λ w x more request a. Each (rest (w, x)).0 (rest (w, x)).1 more request a)

    -- Behind a call of the datagrams what they posted is settled
    settles_dgram_so : (s : Parts R D S P Q) (v : View) (more : Bool) (request : ℕ) {o p : Option (D × View)} → IsFit s.stream v.timers.next → Both (λ u. u) before (Stays (λ u. None) (λ u n. Unit {0}) s.dgram (onto [] v)) o p
        → Agree s.stream v (option_and_then (settles_dgram server dgram stream s v) o) (option_and_then (settles_dgram server dgram stream (longer_parts s) (like before more request v)) p)
    settles_dgram_so s v more request fit both =
        then_both (settles_dgram server dgram stream s v) (settles_dgram server dgram stream (longer_parts s) (like before more request v)) both
        (λ d x more request stays. weaker (λ w y a. stands_then s.stream v s.stream (onto v.board x) w.stream y (later s v x fit stays.timer, stays.timer, refl, stays.more, stays.now) a) (collects_so x.board [] (record s { dgram = d }) (onto v.board x) more request (later s v x fit stays.timer)))

    -- Behind a call of the stream, of which this is left
    abbrev Behind : (S → View → Type 0) → Parts R D S P Q → View → Type 0
    Behind Leaves w x = (y : S) × (z : View) × Leaves y z × Stands y z w.stream x

    settles_stream_so : {Leaves : S → View → Type 0} (from_dgram : List Posted) (s : Parts R D S P Q) (v : View) (more : Bool) (request : ℕ) {o p : Option (S × View)} → ((y : S) (z : View) → Leaves y z → IsFit y z.timers.next) → Both (longer piece) before Leaves o p
        → Both longer_parts before (Behind Leaves) (option_and_then (settles_stream server dgram stream from_dgram s v) o) (option_and_then (settles_stream server dgram stream from_dgram (longer_parts s) (like before more request v)) p)
    settles_stream_so from_dgram s v more request fits both =
        then_both (settles_stream server dgram stream from_dgram s v) (settles_stream server dgram stream from_dgram (longer_parts s) (like before more request v)) both
        (λ y z more request leaves. weaker (λ w x a. (y, z, leaves, a)) (collects_so from_dgram z.board (record s { stream = y }) (onto v.board z) more request (fits y z leaves)))

    -- a request is taken on, and given up
    takes_so : (r : R) (s : Parts R D S P Q) (v : View) (more : Bool) → IsFit s.stream v.timers.next
        → Agree s.stream v (takes server dgram stream r s v) (takes server dgram stream r (longer_parts s) (like before more v.request v))
    takes_so r s v more fit = tickets_both (takes_at server dgram stream v.ticket r s) (takes_at server dgram stream v.ticket r (longer_parts s)) more v.request v (λ drawn. goes)
      where
        w : View
        w = next_ticket v

        admitted : P → Parts R D S P Q
        admitted response = with_tables (admits v.ticket (Dgram w.ticket w.request r response) s.tables) s

        goes : Agree s.stream v (takes_at server dgram stream v.ticket r s w) (takes_at server dgram stream v.ticket r (longer_parts s) (like before more v.request w))
        goes =
            same_both refl
            (ap (λ response. option_and_then (settles_dgram server dgram stream (longer_parts (admitted response)) (like before more v.request w)) (dgram.send r s.dgram (onto [] (like before more v.request w)))) (dgrams.response piece before more v.request r s.dgram (onto [] w)))
            (settles_dgram_so (admitted (dgram.response r s.dgram (onto [] w))) w more v.request fit (dgrams.sends piece before more r s.dgram (onto [] w) tt))

    drops_so : (ticket : ℕ) (s : Parts R D S P Q) (v : View) (more : Bool) (request : ℕ) → IsFit s.stream v.timers.next
        → Agree s.stream v (drops server dgram stream ticket s v) (drops server dgram stream ticket (longer_parts s) (like before more request v))
    drops_so ticket s v more request fit = by (entry_at ticket s.tables.jobs)
      where
        t : Parts R D S P Q
        t = with_tables (without ticket s.tables) s

        by : (job : Option (Job R P Q)) → Agree s.stream v (drops_at server dgram stream t v job) (drops_at server dgram stream (longer_parts t) (like before more request v) job)
        by None = Each t v more request (stands_so s.stream v fit)
        by (Some (Dgram lower number r response)) = settles_dgram_so t v more request fit (dgrams.cancels piece before more request response s.dgram (onto [] v) tt)
        by (Some (Stream lower response)) =
            weaker (λ w x b. stands_then s.stream v b.0 b.1 w.stream x (b.2.fit, b.2.timer, b.2.octets, b.2.more, b.2.now) b.3)
            (settles_stream_so [] t v more request (λ y z stays. stays.fit) (streams.cancels piece before more request response s.stream (onto [] v) fit))

    -- a timer fired
    abbrev Closes : S → View → S → View → Type 0
    Closes u v w x = IsFit w x.timers.next × (v.timers.next ≤ x.timers.next) × ((octets w ≡ octets u) ⊎ (octets w ≡ None)) × (x.more ≡ v.more) × (x.now ≡ v.now)

    fires_so : (timer : ℕ) (s : Parts R D S P Q) (v : View) (more : Bool) (request : ℕ) → IsFit s.stream v.timers.next
        → Both longer_parts before (λ w x. Closes s.stream v w.stream x) (hears server dgram stream (due_timer timer) s v) (hears server dgram stream (due_timer timer) (longer_parts s) (like before more request v))
    fires_so timer s v more request fit =
        then_both (hears_stream server dgram stream (due_timer timer) s v) (hears_stream server dgram stream (due_timer timer) (longer_parts s) (like before more request v))
        (dgrams.fires piece before more request timer s.dgram (onto [] v) tt)
        (λ d x more request a.
        let fits : IsFit s.stream x.timers.next = later s v x fit a.timer in
        weaker (λ w z b. closes s.stream v x b.0 b.1 w.stream z a.timer a.more a.now b.2 b.3)
        (settles_stream_so x.board (record s { dgram = d }) (onto v.board x) more request (λ y z close. close.fit) (streams.fires piece before more request timer s.stream (onto [] (onto v.board x)) fits)))
      where
        closes : (u : S) (v x : View) (y : S) (z : View) (w : S) (l : View) → v.timers.next ≤ x.timers.next → x.more ≡ v.more → x.now ≡ v.now → MayClose octets IsFit u (onto [] (onto v.board x)) y z → Stands y z w l → Closes u v w l
        closes u v x y z w l le same_more same_now a b = (b.0, le_trans (le_trans le a.timer) b.1, stand a.octets, b.3 ∙ (a.more ∙ same_more), b.4 ∙ (a.now ∙ same_now))
          where
            stand : (octets y ≡ octets u) ⊎ (octets y ≡ None) → (octets w ≡ octets u) ⊎ (octets w ≡ None)
            stand (inl e) = inl (b.2 ∙ e)
            stand (inr e) = inr (b.2 ∙ e)

    takes_frame_so : (s : Parts R D S P Q) (v : View) (request : ℕ) → IsFit s.stream v.timers.next → IsReady (octets s.stream) → v.more ≡ false
        → Both longer_parts before (Behind (Takes octets IsFit s.stream (onto [] v))) (hears server dgram stream (more_at place) s v) (hears server dgram stream (more_at place) (longer_parts s) (like before false request v))
    takes_frame_so s v request fit ready none =
        same_both (hears_more server s v) (hears_more server (longer_parts s) (like before false request v))
        (settles_stream_so [] s v false request (λ y z takes. takes.fit) (streams.takes piece before request s.stream (onto [] v) fit ready none))

    abbrev longer_whole : Fallback R D S P Q → Fallback R D S P Q
    longer_whole f = record f { parts = longer_parts f.parts }

    with_parts_so : {Leaves : Parts R D S P Q → View → Type 0} {r t : After R D S P Q} (f : Fallback R D S P Q) → Both longer_parts before Leaves r t
        → Both longer_whole before (λ w x. Leaves w.parts x) (with_parts f r) (with_parts (longer_whole f) t)
    with_parts_so f both = map_both (λ x. (record f { parts = x.0 }, x.1)) (λ x. (record (longer_whole f) { parts = x.0 }, x.1)) both (λ u v more request leaves. Each (record f { parts = u }) v more request leaves)

  pub fallbacks_are_cuttable : IsCuttable place (transport dgram stream) (λ f. octets f.parts.stream) (λ piece f. record f { parts = record f.parts { stream = longer piece f.parts.stream } }) (λ f n. IsFit f.parts.stream n)
  fallbacks_are_cuttable = record {
    closed = λ piece f none. ap (λ (s : S). record f { parts = record f.parts { stream = s } }) (streams.closed piece f.parts.stream none);
    behind = λ piece f. streams.behind piece f.parts.stream;
    twice = λ a b f. ap (λ (s : S). record f { parts = record f.parts { stream = s } }) (streams.twice a b f.parts.stream);
    fits = λ piece f. streams.fits piece f.parts.stream;
    later = λ f. streams.later f.parts.stream;
    bytes = λ piece f v fit none. ap (with_parts f) (bytes_so f.server piece f.parts v fit none);
    rests = λ f v fit none. ap (with_parts f) (rests_so f.server f.parts v fit none);
    unheard = λ piece f v fit none. ap (with_parts f) (unheard_so f.server f.parts v piece fit none);
    response = λ piece before more request r f v. refl;
    sends = λ piece before more r f v fit. weaker (λ w x a. record { fit = a.0; timer = a.1; octets = a.2; more = a.3; now = a.4 }) (with_parts_so f.server piece before f (takes_so f.server piece before r f.parts v more fit));
    cancels = λ piece before more request r f v fit. weaker (λ w x a. record { fit = a.0; timer = a.1; octets = a.2; more = a.3; now = a.4 }) (with_parts_so f.server piece before f (drops_so f.server piece before r.ticket f.parts v more request fit));
    fires = λ piece before more request timer f v fit. weaker (λ w x a. record { fit = a.0; timer = a.1; octets = a.2; more = a.3; now = a.4 }) (with_parts_so f.server piece before f (fires_so f.server piece before timer f.parts v more request fit));
    takes = λ piece before request f v fit ready none. weaker (λ w x a. took f v a.0 a.1 w x a.2 a.3) (with_parts_so f.server piece before f (takes_frame_so f.server piece before f.parts v request fit ready none));
  }

-- ---- nothing is posted

-- what is left has this board
abbrev pub IsOnBoard : {U : Type 0} → List Posted → Option (U × View) → Type 0
IsOnBoard board None = Unit {0}
IsOnBoard board (Some x) = x.1.board ≡ board

on_board : {U : Type 0} (board : List Posted) (o : Option (U × View)) → ((u : U) (x : View) → o ≡ Some (u, x) → x.board ≡ board) → IsOnBoard board o
on_board board None is = tt
on_board board (Some x) is = is x.0 x.1 refl

module _ {R U P : Type 0} {t : Transport R U P} {IsFit : U → (timer : ℕ) → Type 0} (quiet : PostsNothing t IsFit) where
  pub sends_nothing : (r : R) (u : U) (v : View) → IsFit u v.timers.next → IsOnBoard v.board (t.send r u v)
  sends_nothing r u v fit = on_board v.board (t.send r u v) (λ w x is. quiet.sent r u v w x fit is)

  pub cancels_nothing : (r : P) (u : U) (v : View) → IsFit u v.timers.next → IsOnBoard v.board (t.cancel r u v)
  cancels_nothing r u v fit = on_board v.board (t.cancel r u v) (λ w x is. quiet.cancelled r u v w x fit is)

pub map_on_board : {U W : Type 0} (f : U → W) (board : List Posted) (o : Option (U × View)) → IsOnBoard board o → IsOnBoard board (option_map (λ x. (f x.0, x.1)) o)
map_on_board f board None on = tt
map_on_board f board (Some x) on = on

module _ {R D S P Q : Type 0} {dgram : Transport R D P} {stream : Transport R S Q} {IsFit : S → (timer : ℕ) → Type 0} (dgrams : PostsNothing dgram (λ u n. Unit {0})) (streams : PostsNothing stream IsFit) where
  module _ (server : ℕ) where
    settles_dgram_posts : (s : Parts R D S P Q) (v : View) (o : Option (D × View)) → IsOnBoard [] o → IsOnBoard v.board (option_and_then (settles_dgram server dgram stream s v) o)
    settles_dgram_posts s v None none = tt
    settles_dgram_posts s v (Some x) none =
        subst (λ board. IsOnBoard v.board (collects server stream board [] (record s { dgram = x.0 }) (onto v.board x.1))) (sym none) refl

    settles_stream_posts : (s : Parts R D S P Q) (v : View) (o : Option (S × View)) → IsOnBoard [] o → IsOnBoard v.board (option_and_then (settles_stream server dgram stream [] s v) o)
    settles_stream_posts s v None none = tt
    settles_stream_posts s v (Some x) none =
        subst (λ board. IsOnBoard v.board (collects server stream [] board (record s { stream = x.0 }) (onto v.board x.1))) (sym none) refl

    takes_posts : (r : R) (s : Parts R D S P Q) (v : View) → IsOnBoard v.board (takes server dgram stream r s v)
    takes_posts r s v = by (can_draw v.ticket)
      where
        by : (b : Bool) → IsOnBoard v.board (option_and_then (takes_at server dgram stream v.ticket r s) (if b then Some (next_ticket v) else None))
        by true =
            let w : View = next_ticket v in
            settles_dgram_posts (with_tables (admits v.ticket (first_job server dgram stream r s w) s.tables) s) w (dgram.send r s.dgram (onto [] w)) (sends_nothing dgrams r s.dgram (onto [] w) tt)
        by false = tt

    drops_posts : (ticket : ℕ) (s : Parts R D S P Q) (v : View) → IsFit s.stream v.timers.next → IsOnBoard v.board (drops server dgram stream ticket s v)
    drops_posts ticket s v fit = by (entry_at ticket s.tables.jobs)
      where
        t : Parts R D S P Q
        t = with_tables (without ticket s.tables) s

        by : (job : Option (Job R P Q)) → IsOnBoard v.board (drops_at server dgram stream t v job)
        by None = refl
        by (Some (Dgram lower number r response)) = settles_dgram_posts t v (dgram.cancel response s.dgram (onto [] v)) (cancels_nothing dgrams response s.dgram (onto [] v) tt)
        by (Some (Stream lower response)) = settles_stream_posts t v (stream.cancel response s.stream (onto [] v)) (cancels_nothing streams response s.stream (onto [] v) fit)

  pub fallbacks_post_nothing : PostsNothing (transport dgram stream) (λ (f : Fallback R D S P Q) n. IsFit f.parts.stream n)
  fallbacks_post_nothing = record {
    sent = λ r f v w x fit is. subst (IsOnBoard v.board) is (map_on_board (λ (s : Parts R D S P Q). record f { parts = s }) v.board (takes f.server dgram stream r f.parts v) (takes_posts f.server r f.parts v));
    cancelled = λ r f v w x fit is. subst (IsOnBoard v.board) is (map_on_board (λ (s : Parts R D S P Q). record f { parts = s }) v.board (drops f.server dgram stream r.ticket f.parts v) (drops_posts f.server r.ticket f.parts v fit));
  }
