-- What is owed to a request that is held is owed where it is: a fact beside `Fits`, kept by each move.
use Rattle.proof_right.proofs.Received.{received_one}
use Rattle.std.proofs.Common.{◌≡◌, ◌≢◌, ℕ, suc, ◌+◌, ◌≤◌, Bool, true, false, ◌||◌, ◌⊎◌, inl, inr, Option, Some, None, [], ◌∷◌, is_some, refl, arith, ◌∙◌, sym, subst, subst₂, ap, ◌==◌, length, take}
use Rattle.std.specs.Prelude.{if◌then◌else◌, nat_le}
use Rattle.std.proofs.lemmas.Bool.Decides.{nat_tests}
use Rattle.client_request.specs.Request.{Request}
use Rattle.client_request.specs.declared.event.What.{What}
use Rattle.client_request.specs.declared.event.What.TheVariants.{SendFailed, ShortSend, RecvFailed, Datagram, Tick}
use Rattle.client_request.specs.declared.event.Out.TheVariants.{Start, OpenDgram, OpenStream, Send, Write, Resume, Close}
use Rattle.client_request.specs.declared.event.Via.{Via}
use Rattle.client_request.specs.declared.event.Via.TheVariants.{Dgram, Stream}
use Rattle.right_trace.specs.Trace.{History, Conf, Put, put_all}
use Rattle.right_trace.specs.Time.{now, read_timeout, recv_size}
use Rattle.right_trace.specs.Messages.{Octets, answers}
use Rattle.right_trace.specs.Requests.{start, started, handed}
use Rattle.right_trace.specs.Places.{Stand, Unused, Opening, Alive, Gone, closed, stand, is_told, reach}
use Rattle.right_trace.specs.Frames.{came, came_here, received}
use Rattle.right_trace.specs.Exchanges.{has_answer, is_before, unanswered, waited_for, IsAmong}
use Rattle.proof_right.specs.machine.Streams.{Act, Puts, Gives, Nothing, Phase, Free, Expecting, Lined, Holding, Broken, BackingOff, Asker, Conn, Multi, Moves, Takes, TakesFrame}
use Rattle.right_trace.specs.Updates.{with_at}
use Rattle.proof_right.specs.machine.Dgrams.{Stage, Queued, Trying, Sent, Ending, Cut, Tryer, Dgrams, Tries, Meets, stage_of}
use Rattle.proof_right.specs.machine.Server.{Server}
use Rattle.proof_right.specs.machine.Served.{Served, holds, outs_of, Acts, Settles, AsItIs, WithResult}
use Rattle.right_trace.specs.Owed.{IsOwed}
use Rattle.proof_right.specs.machine.Part.{Act as Step}
use Rattle.proof_right.proofs.PartLaws.{this_one}
use Rattle.proof_right.proofs.server.DgramKept.{Old, SentFits, StageFits}
use Rattle.proof_right.proofs.server.Views.{each_at, each_other, at_there}
use Rattle.proof_right.proofs.server.Handing.{before_of, none_started, handed_put}
use Rattle.proof_right.proofs.server.Cancels.{one_way}
use Rattle.proof_right.proofs.server.Staying.{Was, IsNext, nothing_new, owed_put, mute_put, start_put, acts_were}
use Rattle.proof_right.proofs.server.Moved.{now_all}
use Rattle.proof_right.proofs.server.OwedFits.{StageOwed, PhaseOwed, OwedFits}
use Rattle.proof_right.proofs.server.Fitting.{Fits}
use Rattle.proof_right.specs.machine.Streams as multi
use Rattle.proof_right.specs.machine.Dgrams as dgrams
use Rattle.proof_right.specs.machine.Server as server
use Rattle.proof_right.specs.machine.Served as served

broken_owed : (n : ℕ) (v : Via) (p q : ℕ) (ph : Phase) → PhaseOwed n v p ph → PhaseOwed n v p (multi.broken_at q ph)
broken_owed n v p q (Holding r id) o = go (r == q)
  where
    go : (b : Bool) → PhaseOwed n v p (if b then Broken else Holding r id)
    go true = o.0
    go false = o
broken_owed n v p q Broken o = o
broken_owed n v p q (BackingOff until) o = o
broken_owed n v p q Free o = absurd o
broken_owed n v p q Expecting o = absurd o
broken_owed n v p q (Lined r) o = absurd o

expected_owed : (n : ℕ) (v : Via) (p : ℕ) (to ph : Phase) → PhaseOwed n v p ph → PhaseOwed n v p (multi.expected to ph)
expected_owed n v p to (Holding r id) o = o
expected_owed n v p to Broken o = o
expected_owed n v p to (BackingOff until) o = o
expected_owed n v p to Free o = absurd o
expected_owed n v p to Expecting o = absurd o
expected_owed n v p to (Lined r) o = absurd o

le_true : (a b : ℕ) → a ≤ b → nat_le a b ≡ true
le_true a b le = grind (arith, nat_tests)

not_alive : (x : Stand) → closed x ≡ Alive → ⊥
not_alive Unused e = cc
not_alive Opening e = cc
not_alive Alive e = cc
not_alive Gone e = cc

module _ (c : Conf) (s : ℕ) (past : History) (w : What) (u : Served) (h : History) (f : Fits c s past w u h) (g : OwedFits c s past w u.server h) where
  sent_fits : (k : ℕ) (a : Tryer) (p id t : ℕ) → u.server.by_dgram.held k ≡ Some a → a.stage ≡ Sent p id t → SentFits c s p id t k a.request past u.pending h
  sent_fits k a p id t held stage = subst (λ st. StageFits c s k a.request past w u.pending h st) stage (f.dgrams.held k a held).stage

  -- what was owed before
  was_dgram : (h' : History) (k : ℕ) (a : Tryer) → u.server.by_dgram.held k ≡ Some a → (o : IsOwed c s k past w h') → Was c s k past w h h' o → StageOwed c w past a.request o.place a.stage
  was_dgram h' k a held o y = subst (λ p. StageOwed c w past a.request p a.stage) y.2 (g.by_dgram k a held y.0)

  was_stream : (h' : History) (k : ℕ) (a : Asker) → u.server.by_stream.asks k ≡ Some a → (o : IsOwed c s k past w h') → Was c s k past w h h' o → PhaseOwed (now h) o.via o.place a.phase
  was_stream h' k a ask o y = subst₂ (λ v p. PhaseOwed (now h) v p a.phase) y.1 y.2 (g.by_stream k a ask y.0)

  stage_owed : (h' : History) (k : ℕ) (a : Tryer) (st : Stage) → u.server.by_dgram.held k ≡ Some a → a.stage ≡ st → (o : IsOwed c s k past w h') → Was c s k past w h h' o → StageOwed c w past a.request o.place st
  stage_owed h' k a st held stage o y = subst (λ st. StageOwed c w past a.request o.place st) stage (was_dgram h' k a held o y)

  phase_owed : (h' : History) (k : ℕ) (a : Asker) (ph : Phase) → u.server.by_stream.asks k ≡ Some a → a.phase ≡ ph → (o : IsOwed c s k past w h') → Was c s k past w h h' o → PhaseOwed (now h) o.via o.place ph
  phase_owed h' k a ph ask phase o y = subst (λ ph. PhaseOwed (now h) o.via o.place ph) phase (was_stream h' k a ask o y)

  itself : (k : ℕ) (o : IsOwed c s k past w h) → Was c s k past w h h o
  itself k o = (o, refl, refl)

  pub close_was : (p k : ℕ) (o : IsOwed c s k past w (Put (Close p) ∷ h)) → Was c s k past w h (Put (Close p) ∷ h) o
  close_was p k o = mute_put c s past w u h f (Close p) tt tt k s o

  -- By datagram

  by_dgram : (k : ℕ) (a : Tryer) → u.server.by_dgram.held k ≡ Some a → (o : IsOwed c s k past w h) → IsAmong o.octets (unanswered c o.request o.place k o.id (now h) h)
  by_dgram k a held o = go o.via o.sent
    where
      go : (v : Via) → IsAmong o.octets (waited_for c v o.request s o.place k o.id (now h) (came_here o.place h) h h) → IsAmong o.octets (unanswered c o.request o.place k o.id (now h) h)
      go Dgram i = i
      go Stream i = absurd (let b = before_of (is_before c (now h) (start k s Stream h)) o.octets _ i in let n = none_started k s h (f.dgrams.held k a held).unstreamed in let z : is_before c (now h) None ≡ true = subst (λ t. is_before c (now h) t ≡ true) n b.0 in cc)

  stops : (k : ℕ) (a : Tryer) (p id t : ℕ) → u.server.by_dgram.held k ≡ Some a → a.stage ≡ Sent p id t → t + read_timeout c ≤ now h → IsOwed c s k past w h → ⊥
  stops k a p id t held stage late o =
      let at = (stage_owed h k a (Sent p id t) held stage o (itself k o)).0 in
      let i = subst (λ q. IsAmong o.octets (unanswered c o.request q k o.id (now h) h)) at (by_dgram k a held o) in
      let y = ((sent_fits k a p id t held stage).only o.request k o.id (now h) o.octets i).2 in
      omega arith

  -- each request, after a change at k
  each_staged : (h' : History) (k : ℕ) (b : Tryer) → ((o : IsOwed c s k past w h') → StageOwed c w past b.request o.place b.stage) → ((j : ℕ) (o : IsOwed c s j past w h') → k ≢ j → Was c s j past w h h' o) → (j : ℕ) (a : Tryer) → with_at k (Some b) u.server.by_dgram.held j ≡ Some a → (o : IsOwed c s j past w h') → StageOwed c w past a.request o.place a.stage
  each_staged h' k b here was j a e = each_at (λ j (a : Tryer). (o : IsOwed c s j past w h') → StageOwed c w past a.request o.place a.stage) k b u.server.by_dgram.held here (λ j a ne e o. was_dgram h' j a e o (was j o ne)) j a e

  pub tries_owed : (d : Dgrams) (x : Act) → Tries c s (now h) (reach h) u.server.by_dgram x d → (j : ℕ) (a : Tryer) → d.held j ≡ Some a → (o : IsOwed c s j past w (put_all (outs_of x) h)) → StageOwed c w past a.request o.place a.stage
  tries_owed _ _ (dgrams.Opens k b held stage few) = each_staged (Put (OpenDgram (reach h) s) ∷ h) k (dgrams.staged b (Trying (reach h))) (λ o. stage_owed _ k b Queued held stage o (mute_put c s past w u h f (OpenDgram (reach h) s) tt refl k s o)) (λ j o ne. mute_put c s past w u h f (OpenDgram (reach h) s) tt refl j s o)
  tries_owed _ _ (dgrams.Retries k b p id t held stage late few) = each_staged (Put (Close p) ∷ h) k (dgrams.staged b Queued) (λ o. stops k b p id t held stage late (close_was p k o).0) (λ j o ne. close_was p j o)
  tries_owed _ _ (dgrams.StopsTrying k b p id t held stage late six) = each_staged (Put (Close p) ∷ h) k (dgrams.staged b _) (λ o. stops k b p id t held stage late (close_was p k o).0) (λ j o ne. close_was p j o)
  tries_owed _ _ (dgrams.Ends k b x held stage) = absurd (f.settled k b held x stage)

  -- the event tells that its place is broken, and the place is closed
  told : (p k : ℕ) (o : IsOwed c s k past w (Put (Close p) ∷ h)) → o.place ≡ p → is_told p w ≡ true → ⊥
  told p k o at is = elim o.alive [
    | inl e ↦ not_alive (stand o.place h) (let z : (p == o.place) ≡ true = (let y = at in grind (arith, nat_tests)) in subst (λ b. (if b then closed (stand o.place h) else stand o.place h) ≡ Alive) z e)
    | inr e ↦ (let z : is_told p w ≡ false = subst (λ q. is_told q w ≡ false) at e.1 in let y : true ≡ false = sym is ∙ z in cc)
  ]

  is_told_of : (v : What) (k : ℕ) (b : Tryer) (p id t : ℕ) → v ≡ w → is_told p v ≡ true → u.server.by_dgram.held k ≡ Some b → b.stage ≡ Sent p id t → IsOwed c s k past w (Put (Close p) ∷ h) → ⊥
  is_told_of v k b p id t same tells held stage o = (let z = (stage_owed (Put (Close p) ∷ h) k b (Sent p id t) held stage o (close_was p k o)).0 in told p k o z (ap (is_told p) (sym same) ∙ tells))

  answered : (k : ℕ) (a : Tryer) (p id t : ℕ) (m : Octets) → Datagram p m ≡ w → u.pending ≡ w → u.server.by_dgram.held k ≡ Some a → a.stage ≡ Sent p id t → 12 ≤ length (take (recv_size c) m) → answers a.request id (take (recv_size c) m) ≡ true → IsOwed c s k past w h → ⊥
  answered k a p id t m same pend held stage long ok o =
      let z = stage_owed h k a (Sent p id t) held stage o (itself k o) in
      let old : Old c s p id t k a.request (sent_fits k a p id t held stage).octets past = elim (sent_fits k a p id t held stage).lived [ inl e ↦ absurd (let y : Datagram p m ≡ Tick = same ∙ (sym pend ∙ e.0) in cc) | inr o ↦ o ] in
      let it : (p == p) ≡ true = grind (arith, nat_tests) in
      let le : nat_le 12 (length (take (recv_size c) m)) ≡ true = le_true 12 (length (take (recv_size c) m)) long in
      let alive = old.alive in
      let site' = old.at in
      let here : received (recv_size c) (came p (Datagram p m) past) ≡ take (recv_size c) m ∷ [] = rw (it, alive, site', received_one (recv_size c) m le) refl in
      let none : has_answer a.request id (received (recv_size c) (came p (Datagram p m) past)) ≡ false = subst (λ w. has_answer a.request id (received (recv_size c) (came p w past)) ≡ false) (sym same) z.1 in
      let some : has_answer a.request id (take (recv_size c) m ∷ []) ≡ true = rw ok refl in
      (let y : true ≡ false = sym some ∙ (ap (has_answer a.request id) (sym here) ∙ none) in cc)

  pub meets_owed : (n : ℕ) (v : What) (e : Dgrams) (x : Act) → v ≡ w → u.pending ≡ w → Meets c n u.server.by_dgram v x e → (j : ℕ) (a : Tryer) → e.held j ≡ Some a → (o : IsOwed c s j past w (put_all (outs_of x) h)) → StageOwed c w past a.request o.place a.stage
  meets_owed n _ _ _ same pend (dgrams.IsSent k b p id m at held stage carries) = each_staged (Put (Send p k id m) ∷ h) k (record { request = b.request; tries = suc b.tries; stage = Sent p id n })
      (λ o. elim (owed_put c s past w h (nothing_new c s past w u h f) f.begun (Send p k id m) tt k s o) [ inl y ↦ absurd (stage_owed _ k b (Trying p) held stage o y) | inr z ↦ (sym z.2, subst (λ w. has_answer b.request id (received (recv_size c) (came p w past)) ≡ false) same refl) ])
      (λ j o ne. elim (owed_put c s past w h (nothing_new c s past w u h f) f.begun (Send p k id m) tt j s o) [ inl y ↦ y | inr z ↦ absurd (ne z.1) ])
  meets_owed n _ _ _ same pend (dgrams.CannotBeSent k b p e at held stage bad) = each_staged (Put (Close p) ∷ h) k (dgrams.staged b _) (λ o. stage_owed _ k b (Trying p) held stage o (close_was p k o)) (λ j o ne. close_was p j o)
  meets_owed n _ _ _ same pend (dgrams.DoesNotOpen k b p y at held stage) = each_staged h k (dgrams.staged b _) (λ o. stage_owed _ k b (Trying p) held stage o (itself k o)) (λ j o ne. itself j o)
  meets_owed n _ _ _ same pend (dgrams.NotSent k b p id t y at held stage) = each_staged (Put (Close p) ∷ h) k (dgrams.staged b _) (λ o. is_told_of (SendFailed p y) k b p id t same (grind (arith, nat_tests)) held stage o) (λ j o ne. close_was p j o)
  meets_owed n _ _ _ same pend (dgrams.SentShort k b p id t at held stage) = each_staged (Put (Close p) ∷ h) k (dgrams.staged b _) (λ o. is_told_of (ShortSend p) k b p id t same (grind (arith, nat_tests)) held stage o) (λ j o ne. close_was p j o)
  meets_owed n _ _ _ same pend (dgrams.NotReceived k b p id t y at held stage) = each_staged (Put (Close p) ∷ h) k (dgrams.staged b _) (λ o. is_told_of (RecvFailed p y) k b p id t same (grind (arith, nat_tests)) held stage o) (λ j o ne. close_was p j o)
  meets_owed n _ _ _ same pend (dgrams.IsAnswered k b p id t m at held stage long ok) = each_staged (Put (Close p) ∷ h) k (dgrams.staged b (stage_of (take (recv_size c) m))) (λ o. absurd (answered k b p id t m same pend held stage long ok (close_was p k o).0)) (λ j o ne. close_was p j o)

  -- what such a move makes it owe a request by stream: nothing
  abbrev DgramWere : Act → Type 0
  DgramWere x = (k : ℕ) (o : IsOwed c s k past w (put_all (outs_of x) h)) → Was c s k past w h (put_all (outs_of x) h) o ⊎ ((a : Tryer) × (u.server.by_dgram.held k ≡ Some a))

  tries_were : (d : Dgrams) (x : Act) → Tries c s (now h) (reach h) u.server.by_dgram x d → DgramWere x
  tries_were _ _ (dgrams.Opens k b held stage few) j o = inl (mute_put c s past w u h f (OpenDgram (reach h) s) tt refl j s o)
  tries_were _ _ (dgrams.Retries k b p id t held stage late few) j o = inl (close_was p j o)
  tries_were _ _ (dgrams.StopsTrying k b p id t held stage late six) j o = inl (close_was p j o)
  tries_were _ _ (dgrams.Ends k b x held stage) j o = inl (itself j o)

  meets_were : (n : ℕ) (v : What) (e : Dgrams) (x : Act) → Meets c n u.server.by_dgram v x e → DgramWere x
  meets_were n _ _ _ (dgrams.IsSent k b p id m at held stage carries) j o = elim (owed_put c s past w h (nothing_new c s past w u h f) f.begun (Send p k id m) tt j s o) [ inl y ↦ inl y | inr z ↦ inr (b, ap u.server.by_dgram.held (sym z.1) ∙ held) ]
  meets_were n _ _ _ (dgrams.CannotBeSent k b p e at held stage bad) j o = inl (close_was p j o)
  meets_were n _ _ _ (dgrams.DoesNotOpen k b p y at held stage) j o = inl (itself j o)
  meets_were n _ _ _ (dgrams.NotSent k b p id t y at held stage) j o = inl (close_was p j o)
  meets_were n _ _ _ (dgrams.SentShort k b p id t at held stage) j o = inl (close_was p j o)
  meets_were n _ _ _ (dgrams.NotReceived k b p id t y at held stage) j o = inl (close_was p j o)
  meets_were n _ _ _ (dgrams.IsAnswered k b p id t m at held stage long ok) j o = inl (close_was p j o)

  -- both claims, for a state and a history
  pub record Owed (v : Server) (h' : History) : Type 0 where
    pub by_dgram : (k : ℕ) (a : Tryer) → v.by_dgram.held k ≡ Some a → (o : IsOwed c s k past w h') → StageOwed c w past a.request o.place a.stage
    pub by_stream : (k : ℕ) (a : Asker) → v.by_stream.asks k ≡ Some a → (o : IsOwed c s k past w h') → PhaseOwed (now h') o.via o.place a.phase

  stream_still : (x : Act) → DgramWere x → (k : ℕ) (a : Asker) → u.server.by_stream.asks k ≡ Some a → (o : IsOwed c s k past w (put_all (outs_of x) h)) → PhaseOwed (now (put_all (outs_of x) h)) o.via o.place a.phase
  stream_still x were k a ask o = elim (were k o) [ inl y ↦ subst (λ n. PhaseOwed n o.via o.place a.phase) (sym (now_all (outs_of x) h)) (was_stream (put_all (outs_of x) h) k a ask o y) | inr z ↦ absurd (one_way c s past w u h k (z.0) a f z.1 ask) ]

  -- what follows the close of a datagram place
  settles_owed : (next : ℕ) (v : Served) (x : Act) (d : Step Served) → v.server.by_stream ≡ u.server.by_stream → ((j : ℕ) (a : Tryer) → v.server.by_dgram.held j ≡ Some a → (o : IsOwed c s j past w (put_all (outs_of x) h)) → StageOwed c w past a.request o.place a.stage) → DgramWere x → Settles s u.clock next v x d → Owed d.state.server (put_all d.outs h)
  settles_owed next v x _ same owed were (AsItIs set) = record { by_dgram = owed; by_stream = λ k a ask o. stream_still x were k a (sym (ap (λ (m : Multi). m.asks k) same) ∙ ask) o }
  settles_owed next v x _ same owed were (WithResult k a y held stage) = record { by_dgram = each_other (λ j (a : Tryer). (o : IsOwed c s j past w (put_all (outs_of x) h)) → StageOwed c w past a.request o.place a.stage) k v.server.by_dgram.held (λ j a ne e. owed j a e); by_stream = λ k a ask o. stream_still x were k a (sym (ap (λ (m : Multi). m.asks k) same) ∙ ask) o }

  -- a request goes on by stream
  falls_owed : (k : ℕ) (a : Tryer) → u.server.by_dgram.held k ≡ Some a → a.stage ≡ Cut → Owed (server.falls_back k u.clock a u.server) (Put (Start k s Stream) ∷ h)
  falls_owed k a held stage =
      let was : (j : ℕ) (o : IsOwed c s j past w (Put (Start k s Stream) ∷ h)) → Was c s j past w h (Put (Start k s Stream) ∷ h) o = λ j o. start_put c s past w u h f k j s (f.dgrams.held k a held).unstreamed o in
      record {
        by_dgram = each_other (λ j (b : Tryer). (o : IsOwed c s j past w (Put (Start k s Stream) ∷ h)) → StageOwed c w past b.request o.place b.stage) k u.server.by_dgram.held (λ j b ne e o. was_dgram _ j b e o (was j o));
        by_stream = each_at (λ j (b : Asker). (o : IsOwed c s j past w (Put (Start k s Stream) ∷ h)) → PhaseOwed (now h) o.via o.place b.phase) k (record { request = a.request; since = u.clock; phase = Free }) u.server.by_stream.asks (λ o. stage_owed _ k a Cut held stage o (was k o)) (λ j b ne e o. was_stream _ j b e o (was j o));
      }

  -- By stream

  each_phase : (h' : History) (k : ℕ) (b : Asker) → ((o : IsOwed c s k past w h') → PhaseOwed (now h) o.via o.place b.phase) → ((j : ℕ) (o : IsOwed c s j past w h') → k ≢ j → Was c s j past w h h' o) → (j : ℕ) (a : Asker) → with_at k (Some b) u.server.by_stream.asks j ≡ Some a → (o : IsOwed c s j past w h') → PhaseOwed (now h) o.via o.place a.phase
  each_phase h' k b here was j a e = each_at (λ j (a : Asker). (o : IsOwed c s j past w h') → PhaseOwed (now h) o.via o.place a.phase) k b u.server.by_stream.asks here (λ j a ne e o. was_stream h' j a e o (was j o ne)) j a e

  silent : (k : ℕ) (a : Asker) (ph to : Phase) → u.server.by_stream.asks k ≡ Some a → a.phase ≡ ph → ((o : IsOwed c s k past w h) → PhaseOwed (now h) o.via o.place ph → PhaseOwed (now h) o.via o.place to) → (j : ℕ) (b : Asker) → with_at k (Some (multi.moved a to)) u.server.by_stream.asks j ≡ Some b → (o : IsOwed c s j past w h) → PhaseOwed (now h) o.via o.place b.phase
  silent k a ph to ask phase on = each_phase h k (multi.moved a to) (λ o. on o (phase_owed h k a ph ask phase o (itself k o))) (λ j o ne. itself j o)

  every_owed : (fn : Phase → Phase) (h' : History) → ((n : ℕ) (v : Via) (p : ℕ) (ph : Phase) → PhaseOwed n v p ph → PhaseOwed n v p (fn ph)) → ((j : ℕ) (o : IsOwed c s j past w h') → Was c s j past w h h' o) → (j : ℕ) (b : Asker) → multi.every fn (u.server.by_stream.asks j) ≡ Some b → (o : IsOwed c s j past w h') → PhaseOwed (now h) o.via o.place b.phase
  every_owed fn h' on was j b e o = go (u.server.by_stream.asks j) refl e
    where
      go : (x : Option Asker) → u.server.by_stream.asks j ≡ x → multi.every fn x ≡ Some b → PhaseOwed (now h) o.via o.place b.phase
      go None i e = absurd (cc)
      go (Some a) i e = (let z : multi.moved a (fn a.phase) ≡ b = cc in subst (λ (b : Asker). PhaseOwed (now h) o.via o.place b.phase) z (on (now h) o.via o.place a.phase (was_stream h' j a i o (was j o))))

  abbrev StreamOwed : Multi → Act → Type 0
  StreamOwed m x = (j : ℕ) (b : Asker) → m.asks j ≡ Some b → (o : IsOwed c s j past w (put_all (outs_of x) h)) → PhaseOwed (now h) o.via o.place b.phase

  moves_owed : (m : Multi) (x : Act) → Moves c s (now h) (reach h) u.server.by_stream x m → StreamOwed m x
  moves_owed _ _ (multi.Joins k a p x ask phase conn) = silent k a Free (Lined p) ask phase (λ o z. z)
  moves_owed _ _ (multi.Expects k a p ask phase op) = silent k a Free Expecting ask phase (λ o z. z)
  moves_owed _ _ (multi.Opens k a ask phase none full) = each_phase (Put (OpenStream (reach h) s) ∷ h) k (multi.moved a Expecting) (λ o. phase_owed _ k a Free ask phase o (mute_put c s past w u h f (OpenStream (reach h) s) tt refl k s o)) (λ j o ne. mute_put c s past w u h f (OpenStream (reach h) s) tt refl j s o)
  moves_owed _ _ (multi.Meets k a until ask phase calm low high) = silent k a Free (BackingOff until) ask phase (λ o z. absurd z)
  moves_owed _ _ (multi.BacksOff k a until ask phase low high) = silent k a Broken (BackingOff until) ask phase (λ o z. (z, low))
  moves_owed _ _ (multi.Writes k a p x id m ask phase conn none quiet unheld carries some) = each_phase (Put (Write p k id m) ∷ h) k (multi.moved a (Holding p id))
      (λ o. elim (owed_put c s past w h (nothing_new c s past w u h f) f.begun (Write p k id m) tt k s o) [ inl y ↦ absurd (phase_owed _ k a (Lined p) ask phase o y) | inr z ↦ (z.0, sym z.2) ])
      (λ j o ne. elim (owed_put c s past w h (nothing_new c s past w u h f) f.begun (Write p k id m) tt j s o) [ inl y ↦ y | inr z ↦ absurd (ne z.1) ])
  moves_owed _ _ (multi.CannotWrite k a p x ask phase conn none bad) = silent k a (Lined p) Broken ask phase (λ o z. absurd z)
  moves_owed _ _ (multi.FindsNoId k a p x ask phase conn none full) = silent k a (Lined p) Broken ask phase (λ o z. absurd z)
  moves_owed _ _ (multi.GoesOn k a until ask phase late) = silent k a (BackingOff until) Free ask phase (λ o z. (let lt = z.1 in omega arith))
  moves_owed _ _ (multi.TimesOut k a ask late) = each_other (λ j (b : Asker). (o : IsOwed c s j past w h) → PhaseOwed (now h) o.via o.place b.phase) k u.server.by_stream.asks (λ j b ne e o. g.by_stream j b e o)
  moves_owed _ _ (multi.ReadsNothing p x since conn mode late) = every_owed (multi.broken_at p) (Put (Close p) ∷ h) (λ n v q ph. broken_owed n v q p ph) (λ j o. close_was p j o)
  moves_owed _ _ (multi.RestsTooLong p x since conn mode late pumped) = every_owed (multi.broken_at p) (Put (Close p) ∷ h) (λ n v q ph. broken_owed n v q p ph) (λ j o. close_was p j o)

  takes_owed : (n : ℕ) (v : What) (m : Multi) (x : Act) → Takes c n u.server.by_stream v x m → StreamOwed m x
  takes_owed n _ _ _ (multi.ItOpens p op) = every_owed (multi.expected Free) h (λ n v q ph. expected_owed n v q Free ph) (λ j o. itself j o)
  takes_owed n _ _ _ (multi.ItDoesNotOpen p y calm op lt) = every_owed (multi.expected Broken) h (λ n v q ph. expected_owed n v q Broken ph) (λ j o. itself j o)
  takes_owed n _ _ _ (multi.ItFails _ p x conn tells) = every_owed (multi.broken_at p) (Put (Close p) ∷ h) (λ n v q ph. broken_owed n v q p ph) (λ j o. close_was p j o)
  takes_owed n _ _ _ (multi.SomeWritten p k x m conn lt) = λ j b e o. was_stream _ j b e o (mute_put c s past w u h f (Resume p m) tt tt j s o)
  takes_owed n _ _ _ (multi.AllWritten p k x conn some le) = g.by_stream
  takes_owed n _ _ _ (multi.NothingToWrite p k x conn none) = g.by_stream
  takes_owed n _ _ _ (multi.OctetsCome p m x conn) = g.by_stream

  frame_owed : (n : ℕ) (y : Octets) (m : Multi) (x : Act) → TakesFrame n u.place y u.server.by_stream x m → StreamOwed m x
  frame_owed n y _ _ (multi.IsBad x conn bad) = every_owed (multi.broken_at u.place) (Put (Close u.place) ∷ h) (λ n v q ph. broken_owed n v q u.place ph) (λ j o. close_was u.place j o)
  frame_owed n y _ _ (multi.IsUnknown x conn good none) = g.by_stream
  frame_owed n y _ _ (multi.IsLate x z mode conn good held late leaves) = g.by_stream
  frame_owed n y _ _ (multi.IsResult x z mode a conn good held ask phase leaves) = each_other (λ j (b : Asker). (o : IsOwed c s j past w h) → PhaseOwed (now h) o.via o.place b.phase) z.request u.server.by_stream.asks (λ j b ne e o. g.by_stream j b e o)
  frame_owed n y _ _ (multi.IsDropped none) = g.by_stream

  -- what such a move makes it owe a request by datagram: nothing
  abbrev StreamWere : Act → Type 0
  StreamWere x = (k : ℕ) (o : IsOwed c s k past w (put_all (outs_of x) h)) → Was c s k past w h (put_all (outs_of x) h) o ⊎ ((a : Asker) × (u.server.by_stream.asks k ≡ Some a))

  moves_were : (m : Multi) (x : Act) → Moves c s (now h) (reach h) u.server.by_stream x m → StreamWere x
  moves_were _ _ (multi.Joins k a p x ask phase conn) j o = inl (itself j o)
  moves_were _ _ (multi.Expects k a p ask phase op) j o = inl (itself j o)
  moves_were _ _ (multi.Opens k a ask phase none full) j o = inl (mute_put c s past w u h f (OpenStream (reach h) s) tt refl j s o)
  moves_were _ _ (multi.Meets k a until ask phase calm low high) j o = inl (itself j o)
  moves_were _ _ (multi.BacksOff k a until ask phase low high) j o = inl (itself j o)
  moves_were _ _ (multi.Writes k a p x id m ask phase conn none quiet unheld carries some) j o = elim (owed_put c s past w h (nothing_new c s past w u h f) f.begun (Write p k id m) tt j s o) [ inl y ↦ inl y | inr z ↦ inr (a, ap u.server.by_stream.asks (sym z.1) ∙ ask) ]
  moves_were _ _ (multi.CannotWrite k a p x ask phase conn none bad) j o = inl (itself j o)
  moves_were _ _ (multi.FindsNoId k a p x ask phase conn none full) j o = inl (itself j o)
  moves_were _ _ (multi.GoesOn k a until ask phase late) j o = inl (itself j o)
  moves_were _ _ (multi.TimesOut k a ask late) j o = inl (itself j o)
  moves_were _ _ (multi.ReadsNothing p x since conn mode late) j o = inl (close_was p j o)
  moves_were _ _ (multi.RestsTooLong p x since conn mode late pumped) j o = inl (close_was p j o)

  takes_were : (n : ℕ) (v : What) (m : Multi) (x : Act) → Takes c n u.server.by_stream v x m → StreamWere x
  takes_were n _ _ _ (multi.ItOpens p op) j o = inl (itself j o)
  takes_were n _ _ _ (multi.ItDoesNotOpen p y calm op lt) j o = inl (itself j o)
  takes_were n _ _ _ (multi.ItFails _ p x conn tells) j o = inl (close_was p j o)
  takes_were n _ _ _ (multi.SomeWritten p k x m conn lt) j o = inl (mute_put c s past w u h f (Resume p m) tt tt j s o)
  takes_were n _ _ _ (multi.AllWritten p k x conn some le) j o = inl (itself j o)
  takes_were n _ _ _ (multi.NothingToWrite p k x conn none) j o = inl (itself j o)
  takes_were n _ _ _ (multi.OctetsCome p m x conn) j o = inl (itself j o)

  frame_were : (n : ℕ) (y : Octets) (m : Multi) (x : Act) → TakesFrame n u.place y u.server.by_stream x m → StreamWere x
  frame_were n y _ _ (multi.IsBad x conn bad) j o = inl (close_was u.place j o)
  frame_were n y _ _ (multi.IsUnknown x conn good none) j o = inl (itself j o)
  frame_were n y _ _ (multi.IsLate x z mode conn good held late leaves) j o = inl (itself j o)
  frame_were n y _ _ (multi.IsResult x z mode a conn good held ask phase leaves) j o = inl (itself j o)
  frame_were n y _ _ (multi.IsDropped none) j o = inl (itself j o)

  stream_owed : (v : Server) (x : Act) → v.by_dgram ≡ u.server.by_dgram → StreamOwed v.by_stream x → StreamWere x → Owed v (put_all (outs_of x) h)
  stream_owed v x same owed were = record {
    by_dgram = λ k a e o. (let held = sym (ap (λ (d : Dgrams). d.held k) same) ∙ e in elim (were k o) [ inl y ↦ was_dgram (put_all (outs_of x) h) k a held o y | inr z ↦ absurd (one_way c s past w u h k a (z.0) f held z.1) ]);
    by_stream = λ k a e o. subst (λ n. PhaseOwed n o.via o.place a.phase) (sym (now_all (outs_of x) h)) (owed k a e o);
  }

  acts_both : (next : ℕ) → next ≡ reach h → (d : Step Served) → Acts c s next u d → Owed d.state.server (put_all d.outs h)
  acts_both next is d (served.ByDgram x e _ tries set) = (let it = subst₂ (λ n next. Tries c s n next u.server.by_dgram x e) f.clock is tries in settles_owed next _ x d refl (tries_owed e x it) (tries_were e x it) set)
  acts_both next is _ (served.ByStream x m move) = (let it = subst₂ (λ n next. Moves c s n next u.server.by_stream x m) f.clock is move in stream_owed (record u.server { by_stream = m }) x refl (moves_owed m x it) (moves_were m x it))
  acts_both next is _ (served.FallsBack k a held stage) = falls_owed k a held stage
  acts_both next is d (served.TellsDgrams x e _ un soon meets foreign set) = (let v = (f.untaken un).pending in settles_owed next _ x d refl (meets_owed u.clock u.pending e x v v meets) (meets_were u.clock u.pending e x meets) set)
  acts_both next is _ (served.TellsStreams x m un plain takes ignored) = stream_owed (record u.server { by_stream = m }) x refl (takes_owed u.clock u.pending m x takes) (takes_were u.clock u.pending m x takes)
  acts_both next is _ (served.Reads p o x un pend conn) = record { by_dgram = g.by_dgram; by_stream = g.by_stream }
  acts_both next is _ (served.TakesOne y ys x m more soon frame) = stream_owed (record u.server { by_stream = m }) x refl (frame_owed u.clock y m x frame) (frame_were u.clock y m x frame)
  acts_both next is _ (served.ClosesFirst y ys k z m x since more soon frame conn mode late pumped) =
      let one = frame_owed u.clock y m (Gives k z) frame in
      record { by_dgram = λ k a e o. was_dgram (Put (Close u.place) ∷ h) k a e o (close_was u.place k o); by_stream = λ j b e o. (let q = close_was u.place j o in ended m one j b e o q) }
    where
      ended : (m : Multi) → StreamOwed m (Gives k z) → (j : ℕ) (b : Asker) → multi.every (multi.broken_at u.place) (m.asks j) ≡ Some b → (o : IsOwed c s j past w (Put (Close u.place) ∷ h)) → Was c s j past w h (Put (Close u.place) ∷ h) o → PhaseOwed (now h) o.via o.place b.phase
      ended m one j b e o q = go (m.asks j) refl e
        where
          go : (x : Option Asker) → m.asks j ≡ x → multi.every (multi.broken_at u.place) x ≡ Some b → PhaseOwed (now h) o.via o.place b.phase
          go None i e = absurd (cc)
          go (Some a) i e = (let t : multi.moved a (multi.broken_at u.place a.phase) ≡ b = cc in subst (λ (b : Asker). PhaseOwed (now h) o.via o.place b.phase) t (broken_owed (now h) o.via o.place u.place a.phase (subst₂ (λ v p. PhaseOwed (now h) v p a.phase) q.1 q.2 (one j a i q.0))))

  held_handed : (k : ℕ) → holds u k ≡ true → handed k s h ≡ true
  held_handed k e = go (u.server.by_dgram.held k) refl (u.server.by_stream.asks k) refl e
    where
      or_last : (x y : Bool) → y ≡ true → (x || y) ≡ true
      or_last true y e = refl
      or_last false y e = e

      go : (x : Option Tryer) → u.server.by_dgram.held k ≡ x → (y : Option Asker) → u.server.by_stream.asks k ≡ y → (is_some x || is_some y) ≡ true → handed k s h ≡ true
      go (Some a) i y j e = (let z = (f.dgrams.held k a i).has_it in rw z refl)
      go None i (Some b) j e = or_last (started k s Dgram h) (started k s Stream h) (let z = (f.streams.asks k b j).since in rw z refl)
      go None i None j e = absurd (cc)

  pub acts_owed : (next : ℕ) → next ≡ reach h → (d : Step Served) → Acts c s next u d → ((k : ℕ) → handed k s h ≡ true → handed k s (put_all d.outs h) ≡ true) → OwedFits c s past w d.state.server (put_all d.outs h)
  acts_owed next is d act more = (let z = acts_both next is d act in record { begun = λ k o. elim (acts_were c s past w u h f next is d act k s o) [ inl y ↦ more k (g.begun k y.0) | inr y ↦ more k (held_handed k y.1) ]; by_dgram = z.by_dgram; by_stream = z.by_stream })

-- Another server

pub others_owed : (c : Conf) (t : ℕ) (past : History) (w : What) (v : Server) (h h' : History) → now h' ≡ now h → ((k : ℕ) → handed k t h ≡ true → handed k t h' ≡ true) → ((k : ℕ) (o : IsOwed c t k past w h') → Was c t k past w h h' o) → OwedFits c t past w v h → OwedFits c t past w v h'
others_owed c t past w v h h' clock more was g = record {
  begun = λ k o. more k (g.begun k (was k o).0);
  by_dgram = λ k a e o. (let y = was k o in subst (λ p. StageOwed c w past a.request p a.stage) y.2 (g.by_dgram k a e y.0));
  by_stream = λ k a e o. (let y = was k o in subst (λ n. PhaseOwed n o.via o.place a.phase) (sym clock) (subst₂ (λ v p. PhaseOwed (now h) v p a.phase) y.1 y.2 (g.by_stream k a e y.0)));
}

-- A request is handed over, or given up

module _ (c : Conf) (s next k : ℕ) (r : Request) (past : History) (w : What) (u : Served) (h : History) (f : Fits c s past w u h) (g : OwedFits c s past w u.server h) where
  start_was : handed k s h ≡ false → (v : Via) (j t : ℕ) (o : IsOwed c t j past w (Put (Start k s v) ∷ h)) → Was c t j past w h (Put (Start k s v) ∷ h) o
  start_was un v j t o = elim (owed_put c s past w h (nothing_new c s past w u h f) f.begun (Start k s v) (is_next v) j t o) [ inl y ↦ y | inr e ↦ absurd e ]
    where
      or_false : (x y : Bool) → (x || y) ≡ false → y ≡ false
      or_false false y e = e
      or_false true y e = absurd (cc)

      is_next : (v : Via) → IsNext s (Start k s v) h
      is_next Dgram = tt
      is_next Stream = (refl, or_false (started k s Dgram h) (started k s Stream h) un)

  pub starts_were : handed k s h ≡ false → (d : Step Served) → served.Starts c s next k r u d → (j t : ℕ) (o : IsOwed c t j past w (put_all d.outs h)) → Was c t j past w h (put_all d.outs h) o
  starts_were un _ (served.IsHanded how x v used (server.ToDgrams is free)) j t o = start_was un Dgram j t o
  starts_were un _ (served.IsHanded how x v used (server.ToStreams is free)) j t o = start_was un Stream j t o

  pub starts_owed : handed k s h ≡ false → (d : Step Served) → served.Starts c s next k r u d → OwedFits c s past w d.state.server (put_all d.outs h)
  starts_owed un _ (served.IsHanded how x v used (server.ToDgrams is free)) = record {
    begun = λ j o. (let z = g.begun j (start_was un Dgram j s o).0 in handed_put k s Dgram h j s ∙ or_last (this_one k s j s) (handed j s h) z);
    by_dgram = each_at (λ j (a : Tryer). (o : IsOwed c s j past w (Put (Start k s Dgram) ∷ h)) → StageOwed c w past a.request o.place a.stage) k _ u.server.by_dgram.held (λ o. (let z = g.begun k (start_was un Dgram k s o).0 in let y : true ≡ false = sym z ∙ un in cc)) (λ j a ne e o. was_dgram c s past w u h f g _ j a e o (start_was un Dgram j s o));
    by_stream = λ j a e o. was_stream c s past w u h f g _ j a e o (start_was un Dgram j s o);
  }
    where
      or_last : (x y : Bool) → y ≡ true → (x || y) ≡ true
      or_last true y e = refl
      or_last false y e = e
  starts_owed un _ (served.IsHanded how x v used (server.ToStreams is free)) = record {
    begun = λ j o. (let z = g.begun j (start_was un Stream j s o).0 in handed_put k s Stream h j s ∙ or_last (this_one k s j s) (handed j s h) z);
    by_dgram = λ j a e o. was_dgram c s past w u h f g _ j a e o (start_was un Stream j s o);
    by_stream = each_at (λ j (a : Asker). (o : IsOwed c s j past w (Put (Start k s Stream) ∷ h)) → PhaseOwed (now h) o.via o.place a.phase) k _ u.server.by_stream.asks (λ o. (let z = g.begun k (start_was un Stream k s o).0 in let y : true ≡ false = sym z ∙ un in cc)) (λ j a ne e o. was_stream c s past w u h f g _ j a e o (start_was un Stream j s o));
  }
    where
      or_last : (x y : Bool) → y ≡ true → (x || y) ≡ true
      or_last true y e = refl
      or_last false y e = e

module _ (c : Conf) (s next k : ℕ) (past : History) (w : What) (u : Served) (h : History) (f : Fits c s past w u h) (g : OwedFits c s past w u.server h) where
  pub cancels_were : (d : Step Served) → served.Cancels s next k u d → (j t : ℕ) (o : IsOwed c t j past w (put_all d.outs h)) → Was c t j past w h (put_all d.outs h) o
  cancels_were _ (served.IsGivenUp x v (server.Waits a held stage)) j t o = (o, refl, refl)
  cancels_were _ (served.IsGivenUp x v (server.HasPlace a p held stage)) j t o = mute_put c s past w u h f (Close p) tt tt j t o
  cancels_were _ (served.IsGivenUp x v (server.AtStreams none)) j t o = (o, refl, refl)

  pub cancels_owed : (d : Step Served) → served.Cancels s next k u d → OwedFits c s past w d.state.server (put_all d.outs h)
  cancels_owed _ (served.IsGivenUp x v (server.Waits a held stage)) = record { begun = g.begun; by_dgram = each_other (λ j (a : Tryer). (o : IsOwed c s j past w h) → StageOwed c w past a.request o.place a.stage) k u.server.by_dgram.held (λ j a ne e. g.by_dgram j a e); by_stream = g.by_stream }
  cancels_owed _ (served.IsGivenUp x v (server.HasPlace a p held stage)) = record {
    begun = λ j o. g.begun j (close_was c s past w u h f g p j o).0;
    by_dgram = each_other (λ j (b : Tryer). (o : IsOwed c s j past w (Put (Close p) ∷ h)) → StageOwed c w past b.request o.place b.stage) k _ (λ j b ne e o. was_dgram c s past w u h f g _ j b (sym (at_there k j _ u.server.by_dgram.held ne) ∙ e) o (close_was c s past w u h f g p j o));
    by_stream = λ j b e o. was_stream c s past w u h f g _ j b e o (close_was c s past w u h f g p j o);
  }
  cancels_owed _ (served.IsGivenUp x v (server.AtStreams none)) = record { begun = g.begun; by_dgram = g.by_dgram; by_stream = each_other (λ j (a : Asker). (o : IsOwed c s j past w h) → PhaseOwed (now h) o.via o.place a.phase) k u.server.by_stream.asks (λ j a ne e. g.by_stream j a e) }
