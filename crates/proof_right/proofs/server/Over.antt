-- A result ends what its request is owed, where all that is owed is owed at the place where the request is.
use Rattle.std.proofs.Common.{◌≡◌, ℕ, ◌+◌, ◌≤◌, ◌<◌, Bool, true, false, inl, inr, Some, List, [], ◌∷◌, ◌++◌, refl, arith, ◌∙◌, sym, subst, subst₂, ap, ◌==◌, Result}
use Rattle.std.proofs.lemmas.Bool.Decides.{nat_tests}
use Rattle.client_request.specs.declared.error.Error.{Error}
use Rattle.client_request.specs.declared.event.What.{What}
use Rattle.client_request.specs.declared.event.What.TheVariants.{Tick}
use Rattle.client_request.specs.declared.event.Via.{Via}
use Rattle.client_request.specs.declared.event.Via.TheVariants.{Dgram, Stream}
use Rattle.right_trace.specs.Trace.{History, Conf, put_all}
use Rattle.right_trace.specs.Time.{now, stream_timeout}
use Rattle.right_trace.specs.Messages.{Octets, id_in}
use Rattle.right_trace.specs.Requests.{start}
use Rattle.right_trace.specs.Places.{reach}
use Rattle.right_trace.specs.Frames.{came_here, is_bad, brings}
use Rattle.right_trace.specs.Writes.{waiting_with}
use Rattle.right_trace.specs.Exchanges.{octets_for, is_before, waited_for, IsAmong}
use Rattle.proof_right.specs.machine.Streams.{Act, Puts, Gives, Nothing, Asker, Conn, Multi, Holding, Moves, TakesFrame}
use Rattle.proof_right.specs.machine.Dgrams.{Ending, Tryer, Dgrams, Tries}
use Rattle.proof_right.specs.machine.Served.{Served, outs_of, posts_of, Acts, Settles, AsItIs, WithResult}
use Rattle.right_trace.specs.Owed.{IsOwed}
use Rattle.proof_right.specs.machine.Part.{Post, Act as Step, IsPosted}
use Rattle.proof_right.proofs.server.Kept.{listed, Kept}
use Rattle.proof_right.proofs.server.FrameLaws.{waits_none, waits_same}
use Rattle.proof_right.proofs.server.Ending.{at_is}
use Rattle.proof_right.proofs.server.Handing.{before_of}
use Rattle.proof_right.proofs.server.OwedFits.{StageOwed, PhaseOwed, OwedFits, owed_stream}
use Rattle.proof_right.proofs.server.Owing.{close_was, tries_owed, meets_owed}
use Rattle.proof_right.proofs.server.Giving.{tries_held, meets_held, takes_held}
use Rattle.proof_right.proofs.server.Fitting.{Fits}
use Rattle.proof_right.specs.machine.Streams as multi
use Rattle.proof_right.specs.machine.Served as served
use Rattle.proof_right.proofs.server.Framing as framing

among_before : (ms : List Octets) (p id k : ℕ) (x : Octets) (h : History) → IsAmong x (octets_for k (waiting_with ms p id h)) → (brings id ms ≡ false) × IsAmong x (octets_for k (waiting_with [] p id h))
among_before ms p id k x h i = go (brings id ms) refl
  where
    go : (b : Bool) → brings id ms ≡ b → (brings id ms ≡ false) × IsAmong x (octets_for k (waiting_with [] p id h))
    go true e = absurd (subst (λ ws. IsAmong x (octets_for k ws)) (waits_none ms p id h e) i)
    go false e = (e, subst (λ ws. IsAmong x (octets_for k ws)) (sym (waits_same ms [] p id h (sym e))) i)

brings_it : (fr : List Octets) (g : Octets) (gs : List Octets) → is_bad g ≡ false → brings (id_in g) (fr ++ g ∷ gs) ≡ true
brings_it [] g gs good = (let z : (id_in g == id_in g) ≡ true = grind (arith, nat_tests) in rw (good, z) refl)
brings_it (m ∷ ms) g gs good = (let i = brings_it ms g gs good in grind arith)

module _ (c : Conf) (s : ℕ) (past : History) (w : What) (u : Served) (h : History) (f : Fits c s past w u h) (wh : OwedFits c s past w u.server h) where
  -- whose result it is
  staged_over : (e : Dgrams) (x : Act) → ((j : ℕ) (a : Tryer) → e.held j ≡ Some a → (o : IsOwed c s j past w (put_all (outs_of x) h)) → StageOwed c w past a.request o.place a.stage) → (j : ℕ) (a : Tryer) → e.held j ≡ Some a → (y : Result Octets Error) → a.stage ≡ Ending y → IsOwed c s j past w (put_all (outs_of x) h) → ⊥
  staged_over e x owed j a held y stage o = subst (λ st. StageOwed c w past a.request o.place st) stage (owed j a held o)

  settles_over : (next : ℕ) (v : Served) (x : Act) (d : Step Served) → posts_of x ≡ [] → ((j : ℕ) (a : Tryer) → v.server.by_dgram.held j ≡ Some a → (y : Result Octets Error) → a.stage ≡ Ending y → IsOwed c s j past w (put_all (outs_of x) h) → ⊥) → Settles s u.clock next v x d → (z : Post) → IsPosted z d.posts → IsOwed c s z.request past w (put_all d.outs h) → ⊥
  settles_over next v x _ none over (AsItIs set) z i o = absurd (subst (λ ps. IsPosted z ps) none i)
  settles_over next v x _ none over (WithResult k a y held stage) z i o = elim i [ inl e ↦ over k a held y stage (subst (λ (z : Post). IsOwed c s z.request past w (put_all (outs_of x) h)) (sym e) o) | inr b ↦ absurd b ]

  -- by stream
  times_out : (k : ℕ) (a : Asker) → u.server.by_stream.asks k ≡ Some a → a.since + stream_timeout c ≤ now h → IsOwed c s k past w h → ⊥
  times_out k a ask late o = go o.via (owed_stream (now h) o.via o.place a.phase (wh.by_stream k a ask o)) o.sent
    where
      go : (v : Via) → v ≡ Stream → IsAmong o.octets (waited_for c v o.request s o.place k o.id (now h) (came_here o.place h) h h) → ⊥
      go Dgram e i = cc
      go Stream e i = (let b = before_of (is_before c (now h) (start k s Stream h)) o.octets _ i in let t = (f.streams.asks k a ask).since in let z : is_before c (now h) (Some a.since) ≡ true = subst (λ t. is_before c (now h) t ≡ true) t b.0 in let y : now h < a.since + stream_timeout c = grind (arith, nat_tests) in omega arith)

  -- the frame is the answer
  module _ (g : Octets) (gs : List Octets) (is_next : u.frames ≡ g ∷ gs) where
    kept : Kept c s past w Tick f.fr f.more u.server.by_stream h
    kept = framing.kept c s past w u h f g gs is_next

    brought : (x : Conn) → u.server.by_stream.conns u.place ≡ Some x → is_bad g ≡ false → brings (id_in g) (came_here u.place h) ≡ true
    brought x conn good =
        let more = (framing.here c s past w u h f g gs is_next x conn).0 in
        let frames : f.fr u.place ++ g ∷ gs ≡ came_here u.place h = ap (λ ms. f.fr u.place ++ ms) (sym more) ∙ (kept.conns u.place x conn).frames in
        subst (λ ms. brings (id_in g) ms ≡ true) frames (brings_it (f.fr u.place) g gs good)

    frame_over : (m : Multi) (j : ℕ) (z : Result Octets Error) (x : Act) → x ≡ Gives j z → TakesFrame u.clock u.place g u.server.by_stream x m → IsOwed c s j past w h → ⊥
    frame_over _ j z _ e (multi.IsBad x conn bad) o = absurd (cc)
    frame_over _ j z _ e (multi.IsUnknown x conn good none) o = absurd (cc)
    frame_over _ j z _ e (multi.IsLate x y mode conn good held late leaves) o = absurd (cc)
    frame_over _ j z _ e (multi.IsDropped none) o = absurd (cc)
    frame_over _ j z _ e (multi.IsResult x y mode a conn good held ask phase leaves) o' =
        let same : y.request ≡ j = cc in
        let o : IsOwed c s y.request past w h = subst (λ j. IsOwed c s j past w h) (sym same) o' in
        let at : PhaseOwed (now h) o.via o.place (Holding u.place (id_in g)) = subst (λ ph. PhaseOwed (now h) o.via o.place ph) phase (wh.by_stream y.request a ask o) in
        go o at.0 at.1
      where
        fit : (id : ℕ) → waiting_with (f.fr u.place) u.place id h ≡ listed (x.ids id)
        fit = (kept.conns u.place x conn).ids

        mine : IsAmong y.octets (octets_for y.request (waiting_with (f.fr u.place) u.place (id_in g) h))
        mine = subst (λ ws. IsAmong y.octets (octets_for y.request ws)) (sym (fit (id_in g) ∙ ap listed held)) (let t : (y.request == y.request) ≡ true = grind (arith, nat_tests) in rw t (inl refl))

        go : (o : IsOwed c s y.request past w h) → o.via ≡ Stream → o.place ≡ u.place → ⊥
        go o via at =
            let i : IsAmong o.octets (waited_for c Stream o.request s o.place y.request o.id (now h) (came_here o.place h) h h) = subst (λ v. IsAmong o.octets (waited_for c v o.request s o.place y.request o.id (now h) (came_here o.place h) h h)) via o.sent in
            let i' : IsAmong o.octets (waited_for c Stream o.request s u.place y.request o.id (now h) (came_here u.place h) h h) = subst (λ q. IsAmong o.octets (waited_for c Stream o.request s q y.request o.id (now h) (came_here q h) h h)) at i in
            let b = before_of (is_before c (now h) (start y.request s Stream h)) o.octets (octets_for y.request (waiting_with (came_here u.place h) u.place o.id h)) i' in
            let left = among_before (came_here u.place h) u.place o.id y.request o.octets h b.1 in
            let all = among_before (f.fr u.place) u.place (id_in g) y.request y.octets h mine in
            let same : o.id ≡ id_in g = f.one_id u.place y.request o.id (id_in g) o.octets y.octets (at_is s u.place h (kept.conns u.place x conn).at) left.1 all.1 in
            let none : brings (id_in g) (came_here u.place h) ≡ false = subst (λ i. brings i (came_here u.place h) ≡ false) same left.0 in
            (let z : true ≡ false = sym (brought x conn good) ∙ none in cc)

  moves_over : (next : ℕ) (m : Multi) (x : Act) → Moves c s u.clock next u.server.by_stream x m → (j : ℕ) (z : Result Octets Error) → x ≡ Gives j z → IsOwed c s j past w h → ⊥
  moves_over next _ _ (multi.TimesOut k a ask late) j z e o = times_out k a ask (subst (λ n. a.since + stream_timeout c ≤ n) f.clock late) (let same : k ≡ j = cc in subst (λ j. IsOwed c s j past w h) (sym same) o)
  moves_over next _ _ (multi.Joins k a p x ask phase conn) j z e o = absurd (cc)
  moves_over next _ _ (multi.Expects k a p ask phase op) j z e o = absurd (cc)
  moves_over next _ _ (multi.Opens k a ask phase none full) j z e o = absurd (cc)
  moves_over next _ _ (multi.Meets k a until ask phase calm low high) j z e o = absurd (cc)
  moves_over next _ _ (multi.BacksOff k a until ask phase low high) j z e o = absurd (cc)
  moves_over next _ _ (multi.Writes k a p x id q ask phase conn none quiet unheld carries some) j z e o = absurd (cc)
  moves_over next _ _ (multi.CannotWrite k a p x ask phase conn none bad) j z e o = absurd (cc)
  moves_over next _ _ (multi.FindsNoId k a p x ask phase conn none full) j z e o = absurd (cc)
  moves_over next _ _ (multi.GoesOn k a until ask phase late) j z e o = absurd (cc)
  moves_over next _ _ (multi.ReadsNothing p x since conn mode late) j z e o = absurd (cc)
  moves_over next _ _ (multi.RestsTooLong p x since conn mode late pumped) j z e o = absurd (cc)

  act_over : (x : Act) → ((j : ℕ) (z : Result Octets Error) → x ≡ Gives j z → IsOwed c s j past w h → ⊥) → (z : Post) → IsPosted z (posts_of x) → IsOwed c s z.request past w (put_all (outs_of x) h) → ⊥
  act_over (Puts q) over z i o = absurd i
  act_over Nothing over z i o = absurd i
  act_over (Gives k y) over z i o = elim i [ inl e ↦ over k y refl (subst (λ (z : Post). IsOwed c s z.request past w h) (sym e) o) | inr b ↦ absurd b ]

  pub acts_over : (next : ℕ) → next ≡ reach h → (d : Step Served) → Acts c s next u d → (z : Post) → IsPosted z d.posts → IsOwed c s z.request past w (put_all d.outs h) → ⊥
  acts_over next is d (served.ByDgram x e _ tries set) z i o = settles_over next (served.has_moved (record u.server { by_dgram = e }) u) x d (tries_held c s u.clock next u.server.by_dgram e x f.settled tries).0 (staged_over e x (tries_owed c s past w u h f wh e x (subst₂ (λ n next. Tries c s n next u.server.by_dgram x e) f.clock is tries))) set z i o
  acts_over next is _ (served.ByStream x m move) z i o = act_over x (moves_over next m x move) z i o
  acts_over next is _ (served.FallsBack k a held stage) z i o = absurd i
  acts_over next is d (served.TellsDgrams x e _ untaken soon meets foreign set) z i o = settles_over next (served.has_taken_it (record u.server { by_dgram = e }) u) x d (meets_held c u.clock u.server.by_dgram e u.pending x meets).0 (staged_over e x (meets_owed c s past w u h f wh u.clock u.pending e x (f.untaken untaken).pending (f.untaken untaken).pending meets)) set z i o
  acts_over next is _ (served.TellsStreams x m untaken plain takes ignored) z i o = absurd (subst (λ ps. IsPosted z ps) (takes_held c u.clock u.server.by_stream m u.pending x takes).0 i)
  acts_over next is _ (served.Reads p q x untaken pend conn) z i o = absurd i
  acts_over next is _ (served.TakesOne g gs x m more soon frame) z i o = act_over x (λ j y e. frame_over g gs more m j y x e frame) z i o
  acts_over next is _ (served.ClosesFirst g gs k y m x since more soon frame conn mode late pumped) z i o = act_over (Gives k y) (λ j v e. frame_over g gs more m j v (Gives k y) e frame) z i ((close_was c s past w u h f wh u.place z.request o).0)
