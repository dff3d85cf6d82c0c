-- A frame is taken by one server's part.
use Rattle.std.proofs.Common.{◌≡◌, ◌≢◌, ℕ, ◌+◌, ◌≤◌, ◌<◌, Bool, true, false, Option, Some, None, List, [], ◌∷◌, ◌++◌, refl, arith, ◌∙◌, sym, subst, ap, length}
use Rattle.std.proofs.lemmas.Bool.Decides.{nat_tests}
use Rattle.client_request.specs.declared.event.What.{What}
use Rattle.client_request.specs.declared.event.What.TheVariants.{Tick}
use Rattle.client_request.specs.declared.event.Out.TheVariants.{Close}
use Rattle.client_request.specs.declared.event.Via.TheVariants.{Stream}
use Rattle.right_trace.specs.Trace.{History, Conf, Put}
use Rattle.right_trace.specs.Time.{now}
use Rattle.right_trace.specs.Messages.{Octets, id_in}
use Rattle.right_trace.specs.Places.{reach}
use Rattle.right_trace.specs.Frames.{has_bad}
use Rattle.right_trace.specs.Writes.{Written}
use Rattle.right_trace.specs.Orderly.{BadFrame, IdleTimer}
use Rattle.right_trace.specs.Busy.{ByBadFrame}
use Rattle.proof_right.specs.machine.Streams.{Act, Puts, Gives, Nothing, Asker, Conn, Multi, Mode, Active, framed, LeavesMode, Stays, Rests, TakesFrame}
use Rattle.right_trace.specs.Updates.{with_at}
use Rattle.proof_right.specs.machine.Served.{Served, does, frames_left, outs_of}
use Rattle.right_trace.specs.Right.{ServerOutsRight}
use Rattle.proof_right.proofs.PartLaws.{Keeps, none_more}
use Rattle.proof_right.proofs.server.Kept.{ConnFits, Kept}
use Rattle.proof_right.proofs.server.Views.{each_other, at_here, at_there}
use Rattle.proof_right.proofs.server.DgramKept.{KeptD}
use Rattle.proof_right.proofs.server.Untold.{was_alive}
use Rattle.proof_right.proofs.server.DgramMoves.{kept_put_d}
use Rattle.proof_right.proofs.server.Frames.{put_at, mode_after, mode_unknown, after_frame}
use Rattle.proof_right.proofs.server.Ending.{every_some, conn_below, ends, bad_ends, idle_ends, idle_is_due, may_close}
use Rattle.proof_right.proofs.server.Fitting.{Fits, IsTaken}
use Rattle.proof_right.proofs.server.Moved.{others_all}
use Rattle.proof_right.proofs.server.Keeping.{close_other}
use Rattle.proof_right.specs.machine.Streams as multi

put_here : (p : ℕ) (l : List Octets) (f : ℕ → List Octets) → put_at p l f p ≡ l
put_here p l f = grind (arith, nat_tests)

put_there : (p q : ℕ) (l : List Octets) (f : ℕ → List Octets) → p ≢ q → put_at p l f q ≡ f q
put_there p q l f ne = grind (arith, nat_tests)

mode_new : (m : Multi) (p n : ℕ) (x : Conn) (mode : Mode) → LeavesMode m p x n mode → (since : ℕ) → mode ≡ Active since → since ≡ n
mode_new m p n x _ (Stays y) since e = cc
mode_new m p n x _ (Rests y) since e = absurd (cc)

module _ (c : Conf) (s : ℕ) (past : History) (w : What) (u : Served) (h : History) (f : Fits c s past w u h) (g : Octets) (gs : List Octets) (is_next : u.frames ≡ g ∷ gs) where
  abbrev p : ℕ
  p = u.place

  abbrev m : Multi
  m = u.server.by_stream

  pub is_taken : u.taken ≡ true
  is_taken = go u.taken refl
    where
      go : (b : Bool) → u.taken ≡ b → u.taken ≡ true
      go true e = e
      go false e = absurd (let z = sym (f.untaken e).frames ∙ is_next in cc)

  t : IsTaken f.fr f.more u
  t = f.taken is_taken

  pub kept : Kept c s past w Tick f.fr f.more m h
  kept = subst (λ v. Kept c s past w v f.fr f.more m h) t.pending f.streams

  kept_d : KeptD c s past w Tick u.server.by_dgram h
  kept_d = subst (λ v. KeptD c s past w v u.server.by_dgram h) t.pending f.dgrams

  pub here : (x : Conn) → m.conns p ≡ Some x → (f.more p ≡ g ∷ gs) × (x.heard ≡ true)
  here x e = (let z = t.here x e in (z.0 ∙ is_next, z.1 (λ none. (let y = sym none ∙ is_next in cc))))

  -- a frame at a connection that stays
  stays : (x : Conn) (mode : Mode) (asks : ℕ → Option Asker) → m.conns p ≡ Some x → Kept c s past w Tick (put_at p (f.fr p ++ g ∷ []) f.fr) (put_at p gs f.more) (record m { conns = with_at p (Some (framed g mode x)) m.conns; asks = asks }) h → ((k : ℕ) (a : Asker) → asks k ≡ Some a → m.asks k ≡ Some a) → Fits c s past w (frames_left gs (record m { conns = with_at p (Some (framed g mode x)) m.conns; asks = asks }) u) h
  stays x mode asks conn kept' left = record {
    fr = put_at p (f.fr p ++ g ∷ []) f.fr;
    more = put_at p gs f.more;
    clock = f.clock;
    streams = subst (λ v. Kept c s past w v (put_at p (f.fr p ++ g ∷ []) f.fr) (put_at p gs f.more) (record m { conns = with_at p (Some (framed g mode x)) m.conns; asks = asks }) h) (sym t.pending) kept';
    dgrams = f.dgrams;
    untaken = λ e. absurd (let z = sym is_taken ∙ e in cc);
    taken = λ e. record {
      pending = t.pending;
      here = λ y i. (put_here p gs f.more, λ ne. (let z : framed g mode x ≡ y = (let v = sym (at_here p (Some (framed g mode x)) m.conns) ∙ i in cc) in ap (λ z. z.heard) (sym z) ∙ (here x conn).1));
      others = λ q y ne i. put_there p q gs f.more ne ∙ t.others q y ne (sym (at_there p q (Some (framed g mode x)) m.conns ne) ∙ i);
    };
    free = f.free;
    by_dgram = f.by_dgram;
    settled = f.settled;
    silent = λ k a e y. f.silent k a (left k a e) y;
    one_id = f.one_id;
    begun = f.begun;
    unsent = f.unsent;
  }

  -- the place is closed
  closed : (fs : List Octets) → Kept c s past w Tick f.fr f.more (multi.end_at p m) (Put (Close p) ∷ h) → (x : Conn) → m.conns p ≡ Some x → Fits c s past w (frames_left fs (multi.end_at p m) u) (Put (Close p) ∷ h)
  closed fs kept' x conn = record {
    fr = f.fr;
    more = f.more;
    clock = f.clock;
    streams = subst (λ v. Kept c s past w v f.fr f.more (multi.end_at p m) (Put (Close p) ∷ h)) (sym t.pending) kept';
    dgrams = kept_put_d c s past w u.pending u.server.by_dgram (Close p) h (close_other c s past w u.pending u.server.by_dgram h p f.dgrams (kept.conns p x conn).at (conn_below c s past w Tick f.fr f.more m h p x kept conn)) f.dgrams;
    untaken = λ e. absurd (let z = sym is_taken ∙ e in cc);
    taken = λ e. record { pending = t.pending; here = λ y i. absurd (let z = sym (at_here p None m.conns) ∙ i in cc); others = λ q y ne i. t.others q y ne (sym (at_there p q None m.conns ne) ∙ i) };
    free = f.free;
    by_dgram = f.by_dgram;
    settled = f.settled;
    silent = λ k a e y. (let b = every_some (multi.broken_at p) (m.asks k) a e in f.silent k b.0 b.1 y);
    one_id = f.one_id;
    begun = f.begun;
    unsent = f.unsent;
  }

  frame_keeps_at : (next : ℕ) (m' : Multi) (x : Act) → next ≡ reach h → TakesFrame (now h) p g m x m' → Keeps Served (Fits c) none_more s past w h (does (frames_left gs m' u) next x)
  frame_keeps_at next _ _ is (multi.IsBad x conn bad) =
      let wrong = bad_ends c s past w Tick f.fr f.more m h p x g gs kept conn (here x conn).0 bad in
      record { fits = closed gs (ends c s past w Tick f.fr f.more m h p x kept conn (λ k b e there. ByBadFrame wrong)) x conn; others = λ i y ne z. others_all c s i past w y (Close p ∷ []) h (λ e. ne (sym e)) ((Stream, (kept.conns p x conn).at), tt) z; silent = λ j. refl; handed_on = λ j i. refl; reaches = is }
  frame_keeps_at next _ _ is (multi.IsUnknown x conn good none) =
      let fits : ConnFits c s p past Tick (f.fr p) (f.more p) x h = kept.conns p x conn in
      record { fits = stays x (Active (now h)) m.asks conn (after_frame c s past w f.fr f.more m m.asks p g gs x (Active (now h)) h kept conn (here x conn).0 good (here x conn).1 (λ k b e. (e, λ z i. absurd (cc))) (mode_unknown c s p past (f.fr p) (f.more p) x g h fits none) (λ since e. cc)) (λ k a e. e); others = λ i y ne z. z; silent = λ j. refl; handed_on = λ j i. refl; reaches = is }
  frame_keeps_at next _ _ is (multi.IsLate x y mode conn good held late leaves') =
      let fits : ConnFits c s p past Tick (f.fr p) (f.more p) x h = kept.conns p x conn in
      record {
        fits = stays x mode m.asks conn (after_frame c s past w f.fr f.more m m.asks p g gs x mode h kept conn (here x conn).0 good (here x conn).1
            (λ k b e. (e, λ z i j. (let same : y ≡ z = (let u = sym held ∙ i in cc) in let mine : m.asks y.request ≡ Some b = ap m.asks (ap (λ y. y.request) same ∙ j) ∙ e in late b mine (kept.owners p x conn (id_in g) y held b mine))))
            (mode_after c s p past (f.fr p) (f.more p) m x g mode h fits leaves') (mode_new m p (now h) (framed g mode x) mode leaves')) (λ k a e. e);
        others = λ i y ne z. z;
        silent = λ j. refl;
        handed_on = λ j i. refl;
        reaches = is;
      }
  frame_keeps_at next _ _ is (multi.IsResult x y mode b conn good held ask phase leaves') =
      let fits : ConnFits c s p past Tick (f.fr p) (f.more p) x h = kept.conns p x conn in
      record {
        fits = stays x mode (with_at y.request None m.asks) conn (after_frame c s past w f.fr f.more m (with_at y.request None m.asks) p g gs x mode h kept conn (here x conn).0 good (here x conn).1
            (each_other (λ k b. (m.asks k ≡ Some b) × ((z : Written) → x.ids (id_in g) ≡ Some z → z.request ≢ k)) y.request m.asks (λ k b ne e. (e, λ z i j. (let same : y ≡ z = (let u = sym held ∙ i in cc) in ne (ap (λ y. y.request) same ∙ j)))))
            (mode_after c s p past (f.fr p) (f.more p) m x g mode h fits leaves') (mode_new m p (now h) (framed g mode x) mode leaves')) (each_other (λ k b. m.asks k ≡ Some b) y.request m.asks (λ k b ne e. e));
        others = λ i y ne z. z;
        silent = λ j. refl;
        handed_on = λ j i. refl;
        reaches = is;
      }
  frame_keeps_at next _ _ is (multi.IsDropped none) = record {
    fits = record { fr = f.fr; more = f.more; clock = f.clock; streams = f.streams; dgrams = f.dgrams; untaken = λ e. absurd (let z = sym is_taken ∙ e in cc); taken = λ e. record { pending = t.pending; here = λ y i. absurd (let z = sym none ∙ i in cc); others = t.others }; free = f.free; by_dgram = f.by_dgram; settled = f.settled; silent = f.silent; one_id = f.one_id; begun = f.begun; unsent = f.unsent };
    others = λ i y ne z. z;
    silent = λ j. refl;
    handed_on = λ j i. refl;
    reaches = is;
  }

  pub frame_keeps : (next : ℕ) (m' : Multi) (x : Act) → next ≡ reach h → TakesFrame u.clock p g m x m' → Keeps Served (Fits c) none_more s past w h (does (frames_left gs m' u) next x)
  frame_keeps next m' x is frame = frame_keeps_at next m' x is (subst (λ n. TakesFrame n p g m x m') f.clock frame)

  pub frame_right : (n : ℕ) (m' : Multi) (x : Act) → s < length c.servers → TakesFrame n p g m x m' → (end : History) → ServerOutsRight c past w end h (outs_of x)
  frame_right n _ _ lt (multi.IsBad x conn bad) end = (let wrong = bad_ends c s past w Tick f.fr f.more m h p x g gs kept conn (here x conn).0 bad in ((omega arith, may_close c s p past w h end (kept.conns p x conn).at (BadFrame (ap has_bad (sym (kept.row.came p)) ∙ wrong)), was_alive p h (kept.conns p x conn).alive), tt))
  frame_right n _ _ lt (multi.IsUnknown x conn good none) end = tt
  frame_right n _ _ lt (multi.IsLate x y mode conn good held late leaves') end = tt
  frame_right n _ _ lt (multi.IsResult x y mode b conn good held ask phase leaves') end = tt
  frame_right n _ _ lt (multi.IsDropped none) end = tt

-- An answer that says an idle time of 0: the place is closed with it.
module _ (c : Conf) (s : ℕ) (past : History) (w : What) (u : Served) (h : History) (f : Fits c s past w u h) (is_taken : u.taken ≡ true) (x : Conn) (conn : u.server.by_stream.conns u.place ≡ Some x) (since : ℕ) (mode : x.mode ≡ multi.Idle since) (late : since + x.idle ≤ now h) (pumped : (j : ℕ) (a : Asker) → u.server.by_stream.asks j ≡ Some a → a.phase ≡ multi.Lined u.place → 0 < x.left) where
  tk : IsTaken f.fr f.more u
  tk = f.taken is_taken

  kept_now : Kept c s past w Tick f.fr f.more u.server.by_stream h
  kept_now = subst (λ v. Kept c s past w v f.fr f.more u.server.by_stream h) tk.pending f.streams

  pub idle_right : s < length c.servers → (end : History) → ServerOutsRight c past w end h (Close u.place ∷ [])
  idle_right lt end = ((omega arith, may_close c s u.place past w h end (kept_now.conns u.place x conn).at (IdleTimer (idle_is_due c s past w Tick f.fr f.more u.server.by_stream h u.place x since kept_now conn mode late)), was_alive u.place h (kept_now.conns u.place x conn).alive), tt)

  pub idle_fits : Fits c s past w (frames_left [] (multi.end_at u.place u.server.by_stream) u) (Put (Close u.place) ∷ h)
  idle_fits = record {
    fr = f.fr;
    more = f.more;
    clock = f.clock;
    streams = subst (λ v. Kept c s past w v f.fr f.more (multi.end_at u.place u.server.by_stream) (Put (Close u.place) ∷ h)) (sym tk.pending) (ends c s past w Tick f.fr f.more u.server.by_stream h u.place x kept_now conn (idle_ends c s past w Tick f.fr f.more u.server.by_stream h u.place x since kept_now conn mode late pumped));
    dgrams = kept_put_d c s past w u.pending u.server.by_dgram (Close u.place) h (close_other c s past w u.pending u.server.by_dgram h u.place f.dgrams (kept_now.conns u.place x conn).at (conn_below c s past w Tick f.fr f.more u.server.by_stream h u.place x kept_now conn)) f.dgrams;
    untaken = λ e. absurd (let z = sym is_taken ∙ e in cc);
    taken = λ e. record { pending = tk.pending; here = λ y i. absurd (let z = sym (at_here u.place None u.server.by_stream.conns) ∙ i in cc); others = λ q y ne i. tk.others q y ne (sym (at_there u.place q None u.server.by_stream.conns ne) ∙ i) };
    free = f.free;
    by_dgram = f.by_dgram;
    settled = f.settled;
    silent = λ k a e y. (let b = every_some (multi.broken_at u.place) (u.server.by_stream.asks k) a e in f.silent k b.0 b.1 y);
    one_id = f.one_id;
    begun = f.begun;
    unsent = f.unsent;
  }

  pub idle_others : (i : ℕ) (y : Served) → i ≢ s → Fits c i past w y h → Fits c i past w y (Put (Close u.place) ∷ h)
  idle_others i y ne z = others_all c s i past w y (Close u.place ∷ []) h (λ e. ne (sym e)) ((Stream, (kept_now.conns u.place x conn).at), tt) z
