-- What one server's part expects of the row's event stays so, or its request has it as its result, through each move of its own.
use Rattle.std.proofs.Common.{◌≡◌, ◌≢◌, ℕ, ◌+◌, ◌≤◌, ◌<◌, Bool, true, false, ◌⊎◌, inl, inr, Option, Some, None, List, [], ◌∷◌, refl, arith, ◌∙◌, sym, subst, ap, ◌==◌, length, take}
use Rattle.std.specs.Prelude.{if◌then◌else◌, Result, Ok, Err}
use Rattle.std.proofs.lemmas.Bool.{cases_eq, eqb-true}
use Rattle.std.proofs.lemmas.Bool.Decides.{nat_tests}
use Rattle.client_request.specs.declared.error.Error.{Error}
use Rattle.client_request.specs.declared.event.What.{What}
use Rattle.client_request.specs.declared.event.What.TheVariants.{Datagram, Bytes}
use Rattle.client_request.specs.declared.event.Out.TheVariants.{Start, OpenStream, Write, Close}
use Rattle.client_request.specs.declared.event.Via.TheVariants.{Stream}
use Rattle.right_trace.specs.Trace.{History, Conf, Put, put_all}
use Rattle.right_trace.specs.Time.{now, read_timeout, response_timeout, stream_timeout, recv_size}
use Rattle.right_trace.specs.Messages.{Octets, answers, truncated, id_in}
use Rattle.right_trace.specs.Places.{site, is_of_kind, is_told, reach}
use Rattle.right_trace.specs.Writes.{Written}
use Rattle.right_trace.specs.Frames.{is_bad, first_with, fed}
use Rattle.right_trace.specs.Timers.{ReadTimerIsDue}
use Rattle.proof_right.specs.machine.Streams.{Act, Puts, Gives, Nothing, Phase, Asker, Conn, Multi, Moves, Takes, TakesFrame, result_of}
use Rattle.right_trace.specs.Updates.{with_at}
use Rattle.proof_right.specs.machine.Dgrams.{Stage, Queued, Trying, Sent, Ending, Cut, Tryer, Dgrams, Tries, Meets, stage_of}
use Rattle.proof_right.specs.machine.Served.{Served, holds, outs_of, posts_of, has_moved, does, Acts, Settles, AsItIs, WithResult}
use Rattle.proof_right.proofs.server.Expecting.{Expects, ByDatagram, ByOctets, InFrames}
use Rattle.right_trace.specs.Coming.{IsExcused}
use Rattle.proof_right.specs.machine.Part.{Act as Step, IsPosted}
use Rattle.proof_right.proofs.PartLaws.{Goes}
use Rattle.proof_right.proofs.server.Kept.{HoldsId, PhaseFits, IdleFits, ModeFits}
use Rattle.proof_right.proofs.server.DgramKept.{placed}
use Rattle.proof_right.proofs.server.DgramMoves.{place_below}
use Rattle.proof_right.proofs.server.Views.{at_here, at_there}
use Rattle.proof_right.proofs.server.Cancels.{one_way}
use Rattle.proof_right.proofs.server.Untaken.{Source, InOctets, AmongFrames, IsUntaken, Stays, source_same, still, expects_it}
use Rattle.proof_right.proofs.server.Fitting.{Fits}
use Rattle.client_request.specs.declared.error.Error.TheVariants as errors
use Rattle.proof_right.specs.machine.Streams as multi
use Rattle.proof_right.specs.machine.Dgrams as dgrams
use Rattle.proof_right.specs.machine.Server as server
use Rattle.proof_right.specs.machine.Served as served
use Rattle.proof_right.proofs.server.Late as late
use Rattle.proof_right.proofs.server.Framing as framing

-- the first frame with an id, or one of those behind
first_of_two : (g : Octets) (gs : List Octets) (id : ℕ) (m : Octets) → first_with id (g ∷ gs) ≡ Some m → (is_bad g ≡ false) × (((id_in g ≡ id) × (g ≡ m)) ⊎ ((id_in g ≢ id) × (first_with id gs ≡ Some m)))
first_of_two g gs id m e = go (is_bad g) refl (id_in g == id) refl e
  where
    go : (b : Bool) → is_bad g ≡ b → (d : Bool) → (id_in g == id) ≡ d → (if b then None else (if d then Some g else first_with id gs)) ≡ Some m → (is_bad g ≡ false) × (((id_in g ≡ id) × (g ≡ m)) ⊎ ((id_in g ≢ id) × (first_with id gs ≡ Some m)))
    go true i d j e = absurd (cc)
    go false i true j e = (i, inl (eqb-true (id_in g) id j, cc))
    go false i false j e = (i, inr (ne, e))
      where
        ne : id_in g ≢ id
        ne n = (let z = j in grind (arith, nat_tests))

module _ (c : Conf) (s next : ℕ) (past : History) (w : What) (u : Served) (h : History) (f : Fits c s past w u h) (is_next : next ≡ reach h) where
  -- what becomes of a message that is to be taken
  pub data Fate (p k id : ℕ) (m : Octets) (a : Asker) (d : Step Served) : Type 0 where
    Given : IsPosted (record { request = k; result = result_of a.request id m }) d.posts → Fate p k id m a d
    TimedOut : a.since + stream_timeout c ≤ u.clock → d.state.server.by_stream.asks k ≡ None → Fate p k id m a d
    Remains : (b : Asker) → IsUntaken d.state p k id m b → b.request ≡ a.request → b.since ≡ a.since → Fate p k id m a d
    Excused : IsExcused c p past w (put_all d.outs h) → Fate p k id m a d

  -- a place that its read timer closes
  excused : (p q : ℕ) (z : Conn) (since : ℕ) → q ≡ p → u.server.by_stream.conns q ≡ Some z → z.mode ≡ multi.Active since → since + response_timeout c < now h → IsExcused c p past w (Put (Close q) ∷ h)
  unfolding IsExcused
  excused p q z since is conn mode late = (
    let t : (q == p) ≡ true = grind (arith, nat_tests) in rw t refl,
    subst (λ q. ReadTimerIsDue c q (now h) past) is (f.streams.late q z conn since mode late),
    subst (λ q. is_of_kind Stream (site q h) ≡ true) is (subst (λ x. is_of_kind Stream x ≡ true) (sym (f.streams.conns q z conn).at) refl),
  )

  module _ (p k id : ℕ) (m : Octets) (a : Asker) (x : IsUntaken u p k id m a) where
    abbrev Keeps : Multi → Type 0
    Keeps m' = Stays u (has_moved (record u.server { by_stream = m' }) u) p k a x.conn

    differ : (j : ℕ) (b : Asker) (ph : Phase) → u.server.by_stream.asks j ≡ Some b → b.phase ≡ ph → ((q i : ℕ) → ph ≢ multi.Holding q i) → j ≢ k
    differ j b ph ask phase ne same = ne p id (let z : Some b ≡ Some a = sym ask ∙ (ap u.server.by_stream.asks same ∙ x.ask) in let y : b ≡ a = cc in sym phase ∙ (ap (λ (a : Asker). a.phase) y ∙ x.phase))

    -- its id is held
    its_id : HoldsId u.server.by_stream.conns p id k
    its_id = subst (λ ph. PhaseFits c s k a.request u.server.by_stream.conns u.server.by_stream.opening h ph) x.phase (f.streams.asks k a x.ask).phase

    its_written : (y : Conn) → u.server.by_stream.conns p ≡ Some y → (z : Written) × (y.ids id ≡ Some z) × (z.request ≡ k)
    its_written y conn = (let i = its_id in let z : Some i.conn ≡ Some y = sym i.is_conn ∙ conn in let same : i.conn ≡ y = cc in (i.written, subst (λ (y : Conn). y.ids id ≡ Some i.written) same i.is_held, i.its))

    -- the maps, changed elsewhere
    asks_there : (j : ℕ) (b : Option Asker) → j ≢ k → with_at j b u.server.by_stream.asks k ≡ Some a
    asks_there j b ne = at_there j k b u.server.by_stream.asks ne ∙ x.ask

    conn_set : (q : ℕ) (y z : Conn) → u.server.by_stream.conns q ≡ Some y → z.got ≡ y.got → (v : Conn) × (with_at q (Some z) u.server.by_stream.conns p ≡ Some v) × (v.got ≡ x.conn.got)
    conn_set q y z conn got = elim (cases_eq q p) [
      | inl is ↦ (let n : Some y ≡ Some x.conn = sym conn ∙ (ap u.server.by_stream.conns is ∙ x.is_conn) in let same : y ≡ x.conn = cc in (z, subst (λ q. with_at q (Some z) u.server.by_stream.conns p ≡ Some z) (sym is) (at_here p (Some z) u.server.by_stream.conns), got ∙ ap (λ (y : Conn). y.got) same))
      | inr ne ↦ (x.conn, at_there q p (Some z) u.server.by_stream.conns ne ∙ x.is_conn, refl)
    ]

    other_asks : (j : ℕ) (b : Option Asker) (m' : Multi) → m'.asks ≡ with_at j b u.server.by_stream.asks → m'.conns ≡ u.server.by_stream.conns → j ≢ k → Keeps m'
    other_asks j b m' asks conns ne = record { asker = a; ask = ap (λ f. f k) asks ∙ asks_there j b ne; request = refl; since = refl; phase = refl; conn = x.conn; is_conn = ap (λ f. f p) conns ∙ x.is_conn; got = refl }

    -- a place ends, and it is another
    ended_there : (q : ℕ) → q ≢ p → Keeps (multi.end_at q u.server.by_stream)
    ended_there q ne =
        record { asker = multi.moved a (multi.broken_at q a.phase); ask = ap (multi.every (multi.broken_at q)) x.ask; request = refl; since = refl; phase = stays a.phase x.phase; conn = x.conn; is_conn = at_there q p None u.server.by_stream.conns ne ∙ x.is_conn; got = refl }
      where
        stays : (ph : Phase) → ph ≡ multi.Holding p id → multi.broken_at q ph ≡ ph
        stays ph e = subst (λ ph. multi.broken_at q ph ≡ ph) (sym e) (let z : (p == q) ≡ false = grind (arith, nat_tests) in rw z refl)

    remains : (m' : Multi) (y : Act) → Keeps m' → Fate p k id m a (does (has_moved (record u.server { by_stream = m' }) u) next y)
    remains m' y z = Remains z.asker (still u (has_moved (record u.server { by_stream = m' }) u) p k id m a x refl refl refl refl z) z.request z.since

    moves_go : (m' : Multi) (y : Act) → Moves c s u.clock next u.server.by_stream y m' → Fate p k id m a (does (has_moved (record u.server { by_stream = m' }) u) next y)
    moves_go _ _ (multi.Joins j b q z ask phase conn) = remains _ Nothing (other_asks j (Some (multi.moved b (multi.Lined q))) (multi.move j b (multi.Lined q) u.server.by_stream) refl refl (differ j b multi.Free ask phase (λ q i e. cc)))
    moves_go _ _ (multi.Expects j b q ask phase op) = remains _ Nothing (other_asks j (Some (multi.moved b multi.Expecting)) (multi.move j b multi.Expecting u.server.by_stream) refl refl (differ j b multi.Free ask phase (λ q i e. cc)))
    moves_go _ _ (multi.Opens j b ask phase none full) = remains _ (Puts (OpenStream next s)) (other_asks j (Some (multi.moved b multi.Expecting)) (record (multi.move j b multi.Expecting u.server.by_stream) { opening = Some next }) refl refl (differ j b multi.Free ask phase (λ q i e. cc)))
    moves_go _ _ (multi.Meets j b until ask phase calm low high) = remains _ Nothing (other_asks j (Some (multi.moved b (multi.BackingOff until))) (multi.move j b (multi.BackingOff until) u.server.by_stream) refl refl (differ j b multi.Free ask phase (λ q i e. cc)))
    moves_go _ _ (multi.BacksOff j b until ask phase low high) = remains _ Nothing (other_asks j (Some (multi.moved b (multi.BackingOff until))) (multi.move j b (multi.BackingOff until) u.server.by_stream) refl refl (differ j b multi.Broken ask phase (λ q i e. cc)))
    moves_go _ _ (multi.Writes j b q z i o ask phase conn none quiet unheld carries some) = (let y = conn_set q z (multi.written_on i j u.clock o z) conn refl in remains _ (Puts (Write q j i o)) (record { asker = a; ask = asks_there j _ (differ j b (multi.Lined q) ask phase (λ q i e. cc)); request = refl; since = refl; phase = refl; conn = y.0; is_conn = y.1; got = y.2 }))
    moves_go _ _ (multi.CannotWrite j b q z ask phase conn none bad) = (let y = conn_set q z (multi.taken_on u.clock z) conn refl in remains _ Nothing (record { asker = a; ask = asks_there j _ (differ j b (multi.Lined q) ask phase (λ q i e. cc)); request = refl; since = refl; phase = refl; conn = y.0; is_conn = y.1; got = y.2 }))
    moves_go _ _ (multi.FindsNoId j b q z ask phase conn none full) = remains _ Nothing (other_asks j (Some (multi.moved b multi.Broken)) (multi.move j b multi.Broken u.server.by_stream) refl refl (differ j b (multi.Lined q) ask phase (λ q i e. cc)))
    moves_go _ _ (multi.GoesOn j b until ask phase late) = remains _ Nothing (other_asks j (Some (multi.moved b multi.Free)) (multi.move j b multi.Free u.server.by_stream) refl refl (differ j b (multi.BackingOff until) ask phase (λ q i e. cc)))
    moves_go _ _ (multi.TimesOut j b ask late) = elim (cases_eq j k) [
      | inl is ↦ (let z : Some b ≡ Some a = sym ask ∙ (ap u.server.by_stream.asks is ∙ x.ask) in let same : b ≡ a = cc in TimedOut (subst (λ (b : Asker). b.since + stream_timeout c ≤ u.clock) same late) (subst (λ j. with_at j None u.server.by_stream.asks k ≡ None) (sym is) (at_here k None u.server.by_stream.asks)))
      | inr ne ↦ remains _ (Gives j (Err errors.StreamReadTimeout)) (other_asks j None (multi.drop j u.server.by_stream) refl refl ne)
    ]
    moves_go _ _ (multi.ReadsNothing q z since conn mode late) = elim (cases_eq q p) [
      | inl is ↦ Excused (excused p q z since is conn mode (subst (λ n. since + response_timeout c < n) f.clock late))
      | inr ne ↦ remains _ (Puts (Close q)) (ended_there q ne)
    ]
    moves_go _ _ (multi.RestsTooLong q z since conn mode late pumped) = elim (cases_eq q p) [
      | inl is ↦ absurd (idle q z since is conn mode)
      | inr ne ↦ remains _ (Puts (Close q)) (ended_there q ne)
    ]
      where
        idle : (q : ℕ) (z : Conn) (since : ℕ) → q ≡ p → u.server.by_stream.conns q ≡ Some z → z.mode ≡ multi.Idle since → ⊥
        idle q z since is conn mode =
            let g = (f.streams.conns q z conn).mode in
            let i : IdleFits q since past (f.fr q) z h = subst (λ mode. ModeFits s q past (f.fr q) z h mode) mode g in
            let y = its_written z (ap u.server.by_stream.conns (sym is) ∙ conn) in
            (let v = sym (i.unheld id) ∙ y.1 in cc)

    -- a frame is taken
    pub data FrameFate (g : Octets) (gs : List Octets) (m' : Multi) (y : Act) : Type 0 where
      IsGiven : IsPosted (record { request = k; result = result_of a.request id m }) (posts_of y) → FrameFate g gs m' y
      StaysBehind : first_with id gs ≡ Some m → Keeps m' → FrameFate g gs m' y

    module _ (g : Octets) (gs : List Octets) (is_more : u.frames ≡ g ∷ gs) where
      both : (u.place ≡ p) × (first_with id (g ∷ gs) ≡ Some m)
      both = go x.source
        where
          go : Source u p id m x.conn.got → (u.place ≡ p) × (first_with id (g ∷ gs) ≡ Some m)
          go (InOctets o pend un first) = absurd (let z = framing.is_taken c s past w u h f g gs is_more in let y : true ≡ false = sym z ∙ un in cc)
          go (AmongFrames place tk first) = (place, ap (first_with id) (sym is_more) ∙ first)

      split : (is_bad g ≡ false) × (((id_in g ≡ id) × (g ≡ m)) ⊎ ((id_in g ≢ id) × (first_with id gs ≡ Some m)))
      split = first_of_two g gs id m both.1

      same_conn : (y : Conn) → u.server.by_stream.conns u.place ≡ Some y → u.server.by_stream.conns p ≡ Some y
      same_conn y conn = ap u.server.by_stream.conns (sym both.0) ∙ conn

      framed_stays : (y : Conn) (mode : multi.Mode) → u.server.by_stream.conns u.place ≡ Some y → (v : Conn) × (with_at u.place (Some (multi.framed g mode y)) u.server.by_stream.conns p ≡ Some v) × (v.got ≡ x.conn.got)
      framed_stays y mode conn = conn_set u.place y (multi.framed g mode y) conn refl

      pub frame_goes : (m' : Multi) (y : Act) → TakesFrame u.clock u.place g u.server.by_stream y m' → FrameFate g gs m' y
      frame_goes _ _ (multi.IsBad y conn bad) = absurd (let z = split.0 in let v : true ≡ false = sym bad ∙ z in cc)
      frame_goes _ _ (multi.IsDropped none) = absurd (let z = sym none ∙ (ap u.server.by_stream.conns both.0 ∙ x.is_conn) in cc)
      frame_goes _ _ (multi.IsUnknown y conn good none) = elim split.1 [
        | inl is ↦ absurd (let z = its_written y (same_conn y conn) in let v = sym none ∙ (ap y.ids is.0 ∙ z.1) in cc)
        | inr ne ↦ StaysBehind ne.1 (let v = framed_stays y (multi.Active u.clock) conn in record { asker = a; ask = x.ask; request = refl; since = refl; phase = refl; conn = v.0; is_conn = v.1; got = v.2 })
      ]
      frame_goes _ _ (multi.IsLate y r mode conn good held late' leaves) = elim split.1 [
        | inl is ↦ absurd (let z = its_written y (same_conn y conn) in let v : Some r ≡ Some z.0 = sym held ∙ (ap y.ids is.0 ∙ z.1) in let same : r ≡ z.0 = cc in
            late' a (ap u.server.by_stream.asks (ap (λ (r : Written). r.request) same ∙ z.2) ∙ x.ask) (x.phase ∙ (ap (λ q. multi.Holding q id) (sym both.0) ∙ ap (multi.Holding u.place) (sym is.0))))
        | inr ne ↦ StaysBehind ne.1 (let v = framed_stays y mode conn in record { asker = a; ask = x.ask; request = refl; since = refl; phase = refl; conn = v.0; is_conn = v.1; got = v.2 })
      ]
      frame_goes _ _ (multi.IsResult y r mode b conn good held ask phase leaves) = elim split.1 [
        | inl is ↦
            (let z = its_written y (same_conn y conn) in let v : Some r ≡ Some z.0 = sym held ∙ (ap y.ids is.0 ∙ z.1) in let same : r ≡ z.0 = cc in
            let mine : r.request ≡ k = ap (λ (r : Written). r.request) same ∙ z.2 in
            let e : Some b ≡ Some a = sym ask ∙ (ap u.server.by_stream.asks mine ∙ x.ask) in
            let req : b.request ≡ a.request = (let t : b ≡ a = cc in ap (λ (a : Asker). a.request) t) in
            IsGiven (given b r mine req is.0 is.1))
        | inr ne ↦ StaysBehind ne.1 (let v = framed_stays y mode conn in record { asker = a; ask = asks_there r.request None (apart y r b ask phase ne.0); request = refl; since = refl; phase = refl; conn = v.0; is_conn = v.1; got = v.2 })
      ]
        where
          given : (b : Asker) (r : Written) → r.request ≡ k → b.request ≡ a.request → id_in g ≡ id → g ≡ m → IsPosted (record { request = k; result = result_of a.request id m }) (record { request = r.request; result = result_of b.request (id_in g) g } ∷ [])
          given b r mine req i e =
              let one : IsPosted (record { request = r.request; result = result_of b.request (id_in g) g }) (record { request = r.request; result = result_of b.request (id_in g) g } ∷ []) = inl refl in
              let two : IsPosted (record { request = k; result = result_of b.request (id_in g) g }) (record { request = r.request; result = result_of b.request (id_in g) g } ∷ []) = subst (λ k. IsPosted (record { request = k; result = result_of b.request (id_in g) g }) (record { request = r.request; result = result_of b.request (id_in g) g } ∷ [])) mine one in
              let three : IsPosted (record { request = k; result = result_of b.request (id_in g) m }) (record { request = r.request; result = result_of b.request (id_in g) g } ∷ []) = subst (λ m. IsPosted (record { request = k; result = result_of b.request (id_in g) m }) (record { request = r.request; result = result_of b.request (id_in g) g } ∷ [])) e two in
              let four : IsPosted (record { request = k; result = result_of b.request id m }) (record { request = r.request; result = result_of b.request (id_in g) g } ∷ []) = subst (λ i. IsPosted (record { request = k; result = result_of b.request i m }) (record { request = r.request; result = result_of b.request (id_in g) g } ∷ [])) i three in
              subst (λ q. IsPosted (record { request = k; result = result_of q id m }) (record { request = r.request; result = result_of b.request (id_in g) g } ∷ [])) req four

          apart : (y : Conn) (r : Written) (b : Asker) → u.server.by_stream.asks r.request ≡ Some b → b.phase ≡ multi.Holding u.place (id_in g) → id_in g ≢ id → r.request ≢ k
          apart y r b ask phase ne same = ne (let z : Some b ≡ Some a = sym ask ∙ (ap u.server.by_stream.asks same ∙ x.ask) in let t : b ≡ a = cc in let v : multi.Holding u.place (id_in g) ≡ multi.Holding p id = sym phase ∙ (ap (λ (a : Asker). a.phase) t ∙ x.phase) in cc)

    -- one that is on its way to a stream was held by datagram
    dgram_other : (j : ℕ) (b : Tryer) → u.server.by_dgram.held j ≡ Some b → j ≢ k
    dgram_other j b held same = one_way c s past w u h k b a f (ap u.server.by_dgram.held (sym same) ∙ held) x.ask

    settles_go : (v : Served) (y : Act) (d : Step Served) → v.server.by_stream ≡ u.server.by_stream → v.pending ≡ u.pending → v.taken ≡ u.taken → v.place ≡ u.place → v.frames ≡ u.frames → ((j : ℕ) (b : Tryer) → v.server.by_dgram.held j ≡ Some b → (b' : Tryer) × (u.server.by_dgram.held j ≡ Some b')) → Settles s u.clock next v y d → Fate p k id m a d
    settles_go v y _ same pending taken place frames was (AsItIs set) = Remains a (record { ask = ap (λ (m : Multi). m.asks k) same ∙ x.ask; phase = x.phase; conn = x.conn; is_conn = ap (λ (m : Multi). m.conns p) same ∙ x.is_conn; source = source_same u v p id m x.conn.got x.conn.got pending taken place frames refl x.source }) refl refl
    settles_go v y _ same pending taken place frames was (WithResult j b z held stage) = Remains a (record { ask = ap (λ (m : Multi). m.asks k) same ∙ x.ask; phase = x.phase; conn = x.conn; is_conn = ap (λ (m : Multi). m.conns p) same ∙ x.is_conn; source = source_same u _ p id m x.conn.got x.conn.got pending taken place frames refl x.source }) refl refl

    -- another goes on by stream
    falls_go : (j : ℕ) (b : Tryer) → u.server.by_dgram.held j ≡ Some b → Fate p k id m a (does (has_moved (server.falls_back j u.clock b u.server) u) next (Puts (Start j s Stream)))
    falls_go j b held = Remains a (record { ask = at_there j k _ u.server.by_stream.asks (dgram_other j b held) ∙ x.ask; phase = x.phase; conn = x.conn; is_conn = x.is_conn; source = source_same u _ p id m x.conn.got x.conn.got refl refl refl refl refl x.source }) refl refl

    -- the event is for datagrams
    not_octets : (e : Dgrams) (v : What) (y : Act) → Meets c u.clock u.server.by_dgram v y e → (q : ℕ) (o : Octets) → v ≢ Bytes q o
    not_octets _ _ _ (dgrams.IsSent j b q i o at held stage carries) r z = λ e. cc
    not_octets _ _ _ (dgrams.CannotBeSent j b q e at held stage bad) r z = λ e. cc
    not_octets _ _ _ (dgrams.DoesNotOpen j b q g at held stage) r z = λ e. cc
    not_octets _ _ _ (dgrams.NotSent j b q i t g at held stage) r z = λ e. cc
    not_octets _ _ _ (dgrams.SentShort j b q i t at held stage) r z = λ e. cc
    not_octets _ _ _ (dgrams.NotReceived j b q i t g at held stage) r z = λ e. cc
    not_octets _ _ _ (dgrams.IsAnswered j b q i t o at held stage long ok) r z = λ e. cc

    untaken_none : u.taken ≡ false → ((q : ℕ) (o : Octets) → u.pending ≢ Bytes q o) → ⊥
    untaken_none un plain = go x.source
      where
        go : Source u p id m x.conn.got → ⊥
        go (InOctets o pend un' first) = plain p o pend
        go (AmongFrames place tk first) = (let z : true ≡ false = sym tk ∙ un in cc)

    pub stream_goes : (d : Step Served) → Acts c s next u d → Fate p k id m a d
    stream_goes d (served.ByDgram y e _ tries set) = settles_go _ y d refl refl refl refl refl (late.tries_late c s next past w u h f e y tries).1 set
    stream_goes _ (served.ByStream y m' move) = moves_go m' y move
    stream_goes _ (served.FallsBack j b held stage) = falls_go j b held
    stream_goes d (served.TellsDgrams y e _ un soon meets foreign set) = absurd (untaken_none un (not_octets e u.pending y meets))
    stream_goes _ (served.TellsStreams y m' un plain takes ignored) = absurd (untaken_none un plain)
    stream_goes _ (served.Reads q o y un pend conn) = go x.source
      where
        go : Source u p id m x.conn.got → Fate p k id m a (does (served.reads_at q (fed y.got o).frames (multi.set_conn q (multi.fed_by o y) u.server.by_stream) u) next Nothing)
        go (AmongFrames place tk first) = absurd (let z : true ≡ false = sym tk ∙ un in cc)
        go (InOctets z pend' un' first) =
            let event : Bytes q o ≡ Bytes p z = sym pend ∙ pend' in
            let at : q ≡ p = cc in
            let oct : o ≡ z = cc in
            let n : Some y ≡ Some x.conn = sym conn ∙ (ap u.server.by_stream.conns at ∙ x.is_conn) in
            let same : y ≡ x.conn = cc in
            let f' : first_with id (fed y.got o).frames ≡ Some m = subst (λ (y : Conn). first_with id (fed y.got o).frames ≡ Some m) (sym same) (subst (λ z. first_with id (fed x.conn.got z).frames ≡ Some m) (sym oct) first) in
            Remains a (record { ask = x.ask; phase = x.phase; conn = multi.fed_by o y; is_conn = subst (λ q. with_at q (Some (multi.fed_by o y)) u.server.by_stream.conns p ≡ Some (multi.fed_by o y)) (sym at) (at_here p _ u.server.by_stream.conns); source = AmongFrames at refl f' }) refl refl
    stream_goes _ (served.TakesOne g gs y m' more soon frame) = go (frame_goes g gs more m' y frame)
      where
        go : FrameFate g gs m' y → Fate p k id m a (does (served.frames_left gs m' u) next y)
        go (IsGiven i) = Given i
        go (StaysBehind first z) = Remains z.asker (record { ask = z.ask; phase = z.phase ∙ x.phase; conn = z.conn; is_conn = z.is_conn; source = AmongFrames (both g gs more).0 (framing.is_taken c s past w u h f g gs more) first }) z.request z.since
    stream_goes _ (served.ClosesFirst g gs j r m' y since more soon frame conn mode late' pumped) = go (frame_goes g gs more m' (Gives j r) frame)
      where
        go : FrameFate g gs m' (Gives j r) → Fate p k id m a (record { state = served.frames_left [] (multi.end_at u.place m') u; place = next; outs = Close u.place ∷ []; posts = record { request = j; result = r } ∷ [] })
        go (IsGiven i) = Given i
        go (StaysBehind first z) = absurd
            (let one : Fits c s past w (served.frames_left gs m' u) h = (framing.frame_keeps c s past w u h f g gs more next m' (Gives j r) is_next frame).fits in
            let at = (both g gs more).0 in
            let conn' : m'.conns p ≡ Some y = ap m'.conns (sym at) ∙ conn in
            let fit = (one.streams.conns p y conn').mode in
            let i : IdleFits p since past (one.fr p) y h = subst (λ mode. ModeFits s p past (one.fr p) y h mode) mode fit in
            let hold : HoldsId m'.conns p id k = subst (λ ph. PhaseFits c s k z.asker.request m'.conns m'.opening h ph) (z.phase ∙ x.phase) (one.streams.asks k z.asker z.ask).phase in
            let n : Some hold.conn ≡ Some y = sym hold.is_conn ∙ conn' in
            let same : hold.conn ≡ y = cc in
            let some : y.ids id ≡ Some hold.written = subst (λ (y : Conn). y.ids id ≡ Some hold.written) same hold.is_held in
            let v = sym (i.unheld id) ∙ some in
            cc)

  -- By datagram

  module _ (p k : ℕ) (m : Octets) (a : Tryer) (id t : ℕ) (o : Octets) (pend : u.pending ≡ Datagram p o) (un : u.taken ≡ false) (held : u.server.by_dgram.held k ≡ Some a) (at : u.server.by_dgram.at p ≡ Some k) (stage : a.stage ≡ Sent p id t) (soon : u.clock < t + read_timeout c) (long : 12 ≤ length (take (recv_size c) o)) (same : take (recv_size c) o ≡ m) (ok : answers a.request id m ≡ true) (whole : truncated m ≡ false) where
    abbrev Result' : Step Served → Type 0
    Result' d = IsPosted (record { request = k; result = Ok m }) d.posts ⊎ (Expects c d.state p k m ⊎ IsExcused c p past w (put_all d.outs h))

    differs : (j : ℕ) (b : Tryer) (st : Stage) → u.server.by_dgram.held j ≡ Some b → b.stage ≡ st → (st ≡ Sent p id t → ⊥) → j ≢ k
    differs j b st h' st' ne same = ne (let z : Some b ≡ Some a = sym h' ∙ (ap u.server.by_dgram.held same ∙ held) in let y : b ≡ a = cc in sym st' ∙ (ap (λ (a : Tryer). a.stage) y ∙ stage))

    -- who is timed out is another
    not_late : (j : ℕ) (b : Tryer) (q i n : ℕ) → u.server.by_dgram.held j ≡ Some b → b.stage ≡ Sent q i n → n + read_timeout c ≤ u.clock → j ≢ k
    not_late j b q i n h' st' late' = differs j b (Sent q i n) h' st' (λ e. (let z : n ≡ t = cc in omega arith))

    -- its place is another
    place_differs : (j : ℕ) (b : Tryer) (q i n : ℕ) → u.server.by_dgram.held j ≡ Some b → b.stage ≡ Sent q i n → j ≢ k → q ≢ p
    place_differs j b q i n h' st' ne same = ne (let y = f.dgrams.points j b h' q (ap placed st') in let z : Some j ≡ Some k = sym y ∙ (ap u.server.by_dgram.at same ∙ at) in cc)

    tries_stay : (d : Dgrams) (y : Act) → Tries c s u.clock next u.server.by_dgram y d → (d.held k ≡ Some a) × (d.at p ≡ Some k)
    tries_stay _ _ (dgrams.Opens j b h' st' few) = (at_there j k _ u.server.by_dgram.held (differs j b Queued h' st' (λ e. cc)) ∙ held, at_there next p _ u.server.by_dgram.at (let low = place_below c s past w u.pending u.server.by_dgram h p k f.dgrams at in λ e. omega arith) ∙ at)
    tries_stay _ _ (dgrams.Retries j b q i n h' st' late' few) = (let ne = not_late j b q i n h' st' late' in (at_there j k _ u.server.by_dgram.held ne ∙ held, at_there q p _ u.server.by_dgram.at (place_differs j b q i n h' st' ne) ∙ at))
    tries_stay _ _ (dgrams.StopsTrying j b q i n h' st' late' six) = (let ne = not_late j b q i n h' st' late' in (at_there j k _ u.server.by_dgram.held ne ∙ held, at_there q p _ u.server.by_dgram.at (place_differs j b q i n h' st' ne) ∙ at))
    tries_stay _ _ (dgrams.Ends j b x h' st') = absurd (f.settled j b h' x st')

    settles_stay : (v : Served) (y : Act) (d : Step Served) → v.pending ≡ u.pending → v.taken ≡ u.taken → v.clock ≡ u.clock → v.server.by_dgram.held k ≡ Some a → v.server.by_dgram.at p ≡ Some k → Settles s u.clock next v y d → Result' d
    settles_stay v y _ pe tk ck h' a' (AsItIs set) = inr (inl (ByDatagram a id t o (pe ∙ pend) (tk ∙ un) h' a' stage (subst (λ n. n < t + read_timeout c) (sym ck) soon) long same ok whole))
    settles_stay v y _ pe tk ck h' a' (WithResult j b z h'' st'') = (let ne = ended v j b h' h'' (Ending z) st'' (λ e. cc) in inr (inl (ByDatagram a id t o (pe ∙ pend) (tk ∙ un) (at_there j k None v.server.by_dgram.held ne ∙ h') a' stage (subst (λ n. n < t + read_timeout c) (sym ck) soon) long same ok whole)))
      where
        ended : (v : Served) (j : ℕ) (b : Tryer) → v.server.by_dgram.held k ≡ Some a → v.server.by_dgram.held j ≡ Some b → (st : Stage) → b.stage ≡ st → (st ≡ Sent p id t → ⊥) → j ≢ k
        ended v j b h' h'' st e ne is = ne (let z : Some b ≡ Some a = sym h'' ∙ (ap v.server.by_dgram.held is ∙ h') in let y : b ≡ a = cc in sym e ∙ (ap (λ (a : Tryer). a.stage) y ∙ stage))

    -- another goes on by stream
    falls_stay : (j : ℕ) (b : Tryer) → u.server.by_dgram.held j ≡ Some b → b.stage ≡ Cut → Result' (does (has_moved (server.falls_back j u.clock b u.server) u) next (Puts (Start j s Stream)))
    falls_stay j b h' st' = inr (inl (ByDatagram a id t o pend un (at_there j k None u.server.by_dgram.held (differs j b Cut h' st' (λ e. cc)) ∙ held) at stage soon long same ok whole))

    -- the datagram is taken: it is the result
    answer_ends : (b : Bool) → truncated (take (recv_size c) o) ≡ b → (if b then Cut else Ending (Ok (take (recv_size c) o))) ≡ Ending (Ok m)
    answer_ends true e = absurd (let z : truncated m ≡ true = ap truncated (sym same) ∙ e in let y : true ≡ false = sym z ∙ whole in cc)
    answer_ends false e = ap (λ m. Ending (Ok m)) same

    pub record IsTheAnswer (d : Dgrams) : Type 0 where
      pub tryer : Tryer
      pub is_held : d.held k ≡ Some tryer
      pub ends : tryer.stage ≡ Ending (Ok m)
      pub others : (j : ℕ) (b : Tryer) → j ≢ k → d.held j ≡ Some b → (y : Result Octets Error) → b.stage ≢ Ending y

    is_answer : (d : Dgrams) (v : What) (y : Act) → v ≡ Datagram p o → Meets c u.clock u.server.by_dgram v y d → IsTheAnswer d
    is_answer _ _ _ e (dgrams.IsSent j b q i z at' h' st' carries) = absurd (cc)
    is_answer _ _ _ e (dgrams.CannotBeSent j b q z at' h' st' bad) = absurd (cc)
    is_answer _ _ _ e (dgrams.DoesNotOpen j b q g at' h' st') = absurd (cc)
    is_answer _ _ _ e (dgrams.NotSent j b q i n g at' h' st') = absurd (cc)
    is_answer _ _ _ e (dgrams.SentShort j b q i n at' h' st') = absurd (cc)
    is_answer _ _ _ e (dgrams.NotReceived j b q i n g at' h' st') = absurd (cc)
    is_answer _ _ _ e (dgrams.IsAnswered j b q i n z at' h' st' long' ok') =
        let place : q ≡ p = cc in
        let oct : z ≡ o = cc in
        let who : j ≡ k = (let y : Some j ≡ Some k = sym at' ∙ (ap u.server.by_dgram.at place ∙ at) in cc) in
        record {
          tryer = dgrams.staged b (stage_of (take (recv_size c) z));
          is_held = subst (λ j. with_at j (Some (dgrams.staged b (stage_of (take (recv_size c) z)))) u.server.by_dgram.held k ≡ Some (dgrams.staged b (stage_of (take (recv_size c) z)))) (sym who) (at_here k _ u.server.by_dgram.held);
          ends = subst (λ z. stage_of (take (recv_size c) z) ≡ Ending (Ok m)) (sym oct) (answer_ends (truncated (take (recv_size c) o)) refl);
          others = λ l x ne is. f.settled l x (sym (at_there j l _ u.server.by_dgram.held (λ e. ne (sym e ∙ who))) ∙ is);
        }

    settles_gives : (v : Served) (y : Act) (d : Step Served) → IsTheAnswer v.server.by_dgram → Settles s u.clock next v y d → Result' d
    settles_gives v y _ it (AsItIs set) = absurd (set k it.tryer it.is_held (Ok m) it.ends)
    settles_gives v y _ it (WithResult j b z h' st') = elim (cases_eq j k) [
      | inl is ↦ (let n : Some b ≡ Some it.tryer = sym h' ∙ (ap v.server.by_dgram.held is ∙ it.is_held) in let t' : b ≡ it.tryer = cc in let v' : Ending z ≡ Ending (Ok m) = sym st' ∙ (ap (λ (b : Tryer). b.stage) t' ∙ it.ends) in let r : z ≡ Ok m = cc in inl (inl (ap (λ j. record { request = j; result = z }) is ∙ ap (λ z. record { request = k; result = z }) r)))
      | inr ne ↦ absurd (it.others j b ne h' z st')
    ]

    no_stream : (m' : Multi) (v : What) (y : Act) → v ≡ Datagram p o → Takes c u.clock u.server.by_stream v y m' → ⊥
    no_stream _ _ _ e (multi.ItOpens q op) = cc
    no_stream _ _ _ e (multi.ItDoesNotOpen q g calm op lt) = cc
    no_stream _ _ _ e (multi.ItFails v q x conn told) = (let z : is_told q (Datagram p o) ≡ true = subst (λ v. is_told q v ≡ true) e told in cc)
    no_stream _ _ _ e (multi.SomeWritten q n x z conn lt) = cc
    no_stream _ _ _ e (multi.AllWritten q n x conn some le) = cc
    no_stream _ _ _ e (multi.NothingToWrite q n x conn none) = cc
    no_stream _ _ _ e (multi.OctetsCome q z x conn) = cc

    pub dgram_goes : (d : Step Served) → Acts c s next u d → Result' d
    dgram_goes d (served.ByDgram y e _ tries set) = (let z = tries_stay e y tries in settles_stay _ y d refl refl refl z.0 z.1 set)
    dgram_goes _ (served.ByStream y m' move) = inr (inl (ByDatagram a id t o pend un held at stage soon long same ok whole))
    dgram_goes _ (served.FallsBack j b h' st') = falls_stay j b h' st'
    dgram_goes d (served.TellsDgrams y e _ un' soon' meets foreign set) = settles_gives _ y d (is_answer e u.pending y pend meets) set
    dgram_goes _ (served.TellsStreams y m' un' plain takes ignored) = absurd (no_stream m' u.pending y pend takes)
    dgram_goes _ (served.Reads q z y un' pend' conn) = absurd (let e : Bytes q z ≡ Datagram p o = sym pend' ∙ pend in cc)
    dgram_goes _ (served.TakesOne g gs y m' more soon' frame) = absurd (let z = framing.is_taken c s past w u h f g gs more in let y : true ≡ false = sym z ∙ un in cc)
    dgram_goes _ (served.ClosesFirst g gs j r m' y since more soon' frame conn mode late' pumped) = absurd (let z = framing.is_taken c s past w u h f g gs more in let y : true ≡ false = sym z ∙ un in cc)

  acts_clock : (d : Step Served) → Acts c s next u d → d.state.clock ≡ u.clock
  acts_clock d (served.ByDgram y e _ tries set) = settles_clock _ y d set
    where
      settles_clock : (v : Served) (y : Act) (d : Step Served) → Settles s u.clock next v y d → d.state.clock ≡ v.clock
      settles_clock v y _ (AsItIs set) = refl
      settles_clock v y _ (WithResult j b z h' st') = refl
  acts_clock _ (served.ByStream y m' move) = refl
  acts_clock _ (served.FallsBack j b h' st') = refl
  acts_clock d (served.TellsDgrams y e _ un' soon' meets foreign set) = settles_clock _ y d set
    where
      settles_clock : (v : Served) (y : Act) (d : Step Served) → Settles s u.clock next v y d → d.state.clock ≡ v.clock
      settles_clock v y _ (AsItIs set) = refl
      settles_clock v y _ (WithResult j b z h' st') = refl
  acts_clock _ (served.TellsStreams y m' un' plain takes ignored) = refl
  acts_clock _ (served.Reads q z y un' pend' conn) = refl
  acts_clock _ (served.TakesOne g gs y m' more soon' frame) = refl
  acts_clock _ (served.ClosesFirst g gs j r m' y since more soon' frame conn mode late' pumped) = refl

  -- an answer that is to be taken
  goes_on : (d : Step Served) → Acts c s next u d → (p k id : ℕ) (m : Octets) (a : Asker) (x : IsUntaken u p k id m a) → u.clock < a.since + stream_timeout c → answers a.request id m ≡ true → IsPosted (record { request = k; result = Ok m }) d.posts ⊎ (Expects c d.state p k m ⊎ IsExcused c p past w (put_all d.outs h))
  goes_on d act p k id m a x soon ok = go (stream_goes p k id m a x d act)
    where
      go : Fate p k id m a d → IsPosted (record { request = k; result = Ok m }) d.posts ⊎ (Expects c d.state p k m ⊎ IsExcused c p past w (put_all d.outs h))
      go (Given i) = inl (subst (λ b. IsPosted (record { request = k; result = if b then Ok m else Err errors.WrongReplyForQuery }) d.posts) ok i)
      go (TimedOut late' none) = absurd (omega arith)
      go (Remains b y request since) = inr (inl (expects_it c d.state p k id m b y (let n = acts_clock d act in omega arith) (subst (λ r. answers r id m ≡ true) (sym request) ok)))
      go (Excused e) = inr (inr e)

  pub acts_goes : (d : Step Served) → Acts c s next u d → (p k : ℕ) (m : Octets) → Goes c Served (Expects c) past w h u d p k m
  acts_goes d act p k m (ByDatagram a id t o pend un held at stage soon long same ok whole) = dgram_goes p k m a id t o pend un held at stage soon long same ok whole d act
  acts_goes d act p k m (ByOctets a id o x pend un ask soon phase conn first ok) = goes_on d act p k id m a (record { ask = ask; phase = phase; conn = x; is_conn = conn; source = InOctets o pend un first }) soon ok
  acts_goes d act p k m (InFrames a id x place tk ask soon phase conn first ok) = goes_on d act p k id m a (record { ask = ask; phase = phase; conn = x; is_conn = conn; source = AmongFrames place tk first }) soon ok
