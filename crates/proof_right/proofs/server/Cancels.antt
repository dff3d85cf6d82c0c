-- A request is given up, by one server's part.
use Rattle.std.proofs.Common.{◌≡◌, ◌≢◌, ℕ, ◌<◌, Bool, true, false, ◌||◌, ◌⊎◌, inl, inr, Option, Some, None, [], ◌∷◌, refl, arith, ◌∙◌, sym, subst, ap, ◌==◌, length, Err}
use Rattle.std.specs.Prelude.{if◌then◌else◌}
use Rattle.std.proofs.lemmas.Bool.{cases_eq}
use Rattle.std.proofs.lemmas.Bool.Decides.{nat_tests}
use Rattle.client_request.specs.Request.{Request}
use Rattle.client_request.specs.declared.event.What.{What}
use Rattle.client_request.specs.declared.event.Out.TheVariants.{Close}
use Rattle.client_request.specs.declared.event.Via.{Via}
use Rattle.client_request.specs.declared.event.Via.TheVariants.{Dgram, Stream}
use Rattle.right_trace.specs.Trace.{History, Conf, Put, put_all}
use Rattle.right_trace.specs.Time.{now}
use Rattle.right_trace.specs.Messages.{Octets}
use Rattle.right_trace.specs.Requests.{replied, started}
use Rattle.right_trace.specs.Places.{Stand, Unused, Opening, Alive, Gone, closed, stand, is_live}
use Rattle.right_trace.specs.Frames.{came_here}
use Rattle.right_trace.specs.Exchanges.{waited_for, IsAmong, Comes}
use Rattle.right_trace.specs.Orderly.{OfDgram, MayCloseDgram, ItsReply, ReplyBeforeItsSend, RepliedHere}
use Rattle.proof_right.specs.machine.Streams.{Asker}
use Rattle.right_trace.specs.Updates.{with_at}
use Rattle.proof_right.specs.machine.Dgrams.{Stage, Trying, Sent, Tryer}
use Rattle.proof_right.specs.machine.Served.{Served, holds, Cancels, IsGivenUp}
use Rattle.proof_right.proofs.server.Expecting.{Expects, ByDatagram, ByOctets, InFrames}
use Rattle.right_trace.specs.Owed.{IsOwed}
use Rattle.right_trace.specs.Right.{WasLive, ServerOutsRight}
use Rattle.proof_right.specs.machine.Part.{Act}
use Rattle.proof_right.proofs.PartLaws.{Late, Goes}
use Rattle.proof_right.proofs.server.DgramKept.{dgram_site, placed, TryingFits, SentFits, StageFits}
use Rattle.proof_right.proofs.server.Untold.{was_alive}
use Rattle.proof_right.proofs.server.DgramMoves.{standing, dgram_at}
use Rattle.proof_right.proofs.server.Views.{at_there}
use Rattle.proof_right.proofs.server.Fitting.{Fits}
use Rattle.client_request.specs.declared.error.Error.TheVariants as errors
use Rattle.proof_right.specs.machine.Dgrams as dgrams
use Rattle.proof_right.specs.machine.Server as server

-- a request is not held both ways
pub one_way : (c : Conf) (s : ℕ) (past : History) (w : What) (u : Served) (h : History) (k : ℕ) (a : Tryer) (b : Asker) → Fits c s past w u h → u.server.by_dgram.held k ≡ Some a → u.server.by_stream.asks k ≡ Some b → ⊥
one_way c s past w u h k a b f held ask = (let x = (f.dgrams.held k a held).unstreamed in let y = (f.streams.asks k b ask).since in let z : started k s Stream h ≡ true = rw y refl in cc)

pub no_asker : (c : Conf) (s : ℕ) (past : History) (w : What) (u : Served) (h : History) (k : ℕ) (a : Tryer) → Fits c s past w u h → u.server.by_dgram.held k ≡ Some a → u.server.by_stream.asks k ≡ None
no_asker c s past w u h k a f held = go (u.server.by_stream.asks k) refl
  where
    go : (x : Option Asker) → u.server.by_stream.asks k ≡ x → u.server.by_stream.asks k ≡ None
    go None e = e
    go (Some b) e = absurd (one_way c s past w u h k a b f held e)

-- closing a place adds nothing that comes or is owed

comes_close : (c : Conf) (r : Request) (v : Via) (s p k id q : ℕ) (m : Octets) (past : History) (w : What) (h : History) → Comes c r v s p k id m past w (Put (Close q) ∷ h) → Comes c r v s p k id m past w h
comes_close c r v s p k id q m past w h x = (let o = x.is_open in record { is_open = record { stands = o.stands; octets = o.octets; sent = back v o.sent; carries = o.carries }; first = x.first })
  where
    back : (v : Via) → IsAmong x.is_open.octets (waited_for c v r s p k id (now h) [] past (Put (Close q) ∷ h)) → IsAmong x.is_open.octets (waited_for c v r s p k id (now h) [] past h)
    back Dgram i = i
    back Stream i = i

pub still_alive : (b : Bool) (x : Stand) → (if b then closed x else x) ≡ Alive → x ≡ Alive
still_alive true Unused e = absurd (cc)
still_alive true Opening e = absurd (cc)
still_alive true Alive e = refl
still_alive true Gone e = absurd (cc)
still_alive false x e = e

pub owed_close : (c : Conf) (t k q : ℕ) (past : History) (w : What) (h : History) → IsOwed c t k past w (Put (Close q) ∷ h) → IsOwed c t k past w h
owed_close c t k q past w h o = record { request = o.request; via = o.via; place = o.place; id = o.id; asked = o.asked; alive = elim o.alive [ inl e ↦ inl (still_alive (q == o.place) (stand o.place h) e) | inr e ↦ inr e ]; at = o.at; octets = o.octets; sent = back o.via o.sent; carries = o.carries }
  where
    back : (v : Via) → IsAmong o.octets (waited_for c v o.request t o.place k o.id (now h) (came_here o.place h) (Put (Close q) ∷ h) (Put (Close q) ∷ h)) → IsAmong o.octets (waited_for c v o.request t o.place k o.id (now h) (came_here o.place h) h h)
    back Dgram i = i
    back Stream i = i

module _ (c : Conf) (s next k : ℕ) (past : History) (w : What) (u : Served) (h : History) (fits : Fits c s past w u h) where
  neither : (x y : Bool) → x ≡ false → y ≡ false → (x || y) ≡ false
  neither false false a b = refl
  neither true y a b = absurd (cc)
  neither false true a b = absurd (cc)

  pub cancels_held : (d : Act Served) → Cancels s next k u d → (j : ℕ) → holds d.state j ≡ (if k == j then false else holds u j)
  cancels_held _ (IsGivenUp x v (server.Waits a held stage)) j = elim (cases_eq k j) [
    | inl is ↦ (let t : (k == j) ≡ true = grind (arith, nat_tests) in let n : u.server.by_stream.asks j ≡ None = subst (λ j. u.server.by_stream.asks j ≡ None) is (no_asker c s past w u h k a fits held) in rw (t, n) refl)
    | inr ne ↦ (let t : (k == j) ≡ false = grind (arith, nat_tests) in rw t refl)
  ]
  cancels_held _ (IsGivenUp x v (server.HasPlace a p held stage)) j = elim (cases_eq k j) [
    | inl is ↦ (let t : (k == j) ≡ true = grind (arith, nat_tests) in let n : u.server.by_stream.asks j ≡ None = subst (λ j. u.server.by_stream.asks j ≡ None) is (no_asker c s past w u h k a fits held) in rw (t, n) refl)
    | inr ne ↦ (let t : (k == j) ≡ false = grind (arith, nat_tests) in rw t refl)
  ]
  cancels_held _ (IsGivenUp x v (server.AtStreams none)) j = elim (cases_eq k j) [
    | inl is ↦ (let t : (k == j) ≡ true = grind (arith, nat_tests) in let n : u.server.by_dgram.held j ≡ None = subst (λ j. u.server.by_dgram.held j ≡ None) is none in rw (t, n) refl)
    | inr ne ↦ (let t : (k == j) ≡ false = grind (arith, nat_tests) in rw t refl)
  ]

  pub cancels_posts : (d : Act Served) → Cancels s next k u d → d.posts ≡ []
  cancels_posts _ (IsGivenUp x v (server.Waits a held stage)) = refl
  cancels_posts _ (IsGivenUp x v (server.HasPlace a p held stage)) = refl
  cancels_posts _ (IsGivenUp x v (server.AtStreams none)) = refl

  pub cancels_taken : (d : Act Served) → Cancels s next k u d → u.taken ≡ true → d.state.taken ≡ true
  cancels_taken _ (IsGivenUp x v g) e = e

  pub cancels_come : (d : Act Served) → Cancels s next k u d → (t : ℕ) (r : Request) (v : Via) (p j id : ℕ) (m : Octets) → Comes c r v t p j id m past w (put_all d.outs h) → Comes c r v t p j id m past w h
  cancels_come _ (IsGivenUp x v (server.Waits a held stage)) t r via p j id m z = z
  cancels_come _ (IsGivenUp x v (server.HasPlace a q held stage)) t r via p j id m z = comes_close c r via t p j id q m past w h z
  cancels_come _ (IsGivenUp x v (server.AtStreams none)) t r via p j id m z = z

  pub cancels_late : (d : Act Served) → Cancels s next k u d → Late c Served holds (Expects c) s past w h d
  cancels_late d can t r via p j id m z = inl (record { comes = cancels_come d can t r via p j id m z.comes; agrees = z.agrees; whole = z.whole })

  pub cancels_over : (d : Act Served) → Cancels s next k u d → (j t : ℕ) → (IsOwed c t j past w h → ⊥) → IsOwed c t j past w (put_all d.outs h) → ⊥
  cancels_over _ (IsGivenUp x v (server.Waits a held stage)) j t none o = none o
  cancels_over _ (IsGivenUp x v (server.HasPlace a q held stage)) j t none o = none (owed_close c t j q past w h o)
  cancels_over _ (IsGivenUp x v (server.AtStreams free)) j t none o = none o

  place_of : (a : Tryer) (p : ℕ) → (a.stage ≡ Trying p) ⊎ ((id : ℕ) × (t : ℕ) × (a.stage ≡ Sent p id t)) → placed a.stage ≡ Some p
  place_of a p st = elim st [ inl e ↦ ap placed e | inr e ↦ ap placed e.2 ]

  may_close : (a : Tryer) (p : ℕ) (end : History) → u.server.by_dgram.held k ≡ Some a → RepliedHere k past end → (a.stage ≡ Trying p) ⊎ ((id : ℕ) × (t : ℕ) × (a.stage ≡ Sent p id t)) → MayCloseDgram c p past w h end
  may_close a p end held reply (inl e) = (let g = fits.dgrams.held k a held in let f : TryingFits c s p past u.pending h = subst (λ st. StageFits c s k a.request past w u.pending h st) e g.stage in ReplyBeforeItsSend (dgram_site s) f.at f.unsent k g.has_it reply)
  may_close a p end held reply (inr e) = (let g = fits.dgrams.held k a held in let f : SentFits c s p e.0 e.1 k a.request past u.pending h = subst (λ st. StageFits c s k a.request past w u.pending h st) e.2 g.stage in ItsReply _ f.sent reply)

  was_live : (a : Tryer) (p : ℕ) → u.server.by_dgram.held k ≡ Some a → (a.stage ≡ Trying p) ⊎ ((id : ℕ) × (t : ℕ) × (a.stage ≡ Sent p id t)) → WasLive p h
  was_live a p held (inl e) = (let f : TryingFits c s p past u.pending h = subst (λ st. StageFits c s k a.request past w u.pending h st) e (fits.dgrams.held k a held).stage in ap is_live f.untold)
  was_live a p held (inr e) = (let f : SentFits c s p e.0 e.1 k a.request past u.pending h = subst (λ st. StageFits c s k a.request past w u.pending h st) e.2 (fits.dgrams.held k a held).stage in was_alive p h f.stand)

  pub cancels_right : s < length c.servers → (d : Act Served) → Cancels s next k u d → replied k past ≡ false → (end : History) → replied k end ≡ true → ServerOutsRight c past w end h d.outs
  cancels_right known _ (IsGivenUp x v (server.Waits a held stage)) before end after = tt
  cancels_right known _ (IsGivenUp x v (server.HasPlace a p held stage)) before end after =
      let g = fits.dgrams.held k a held in
      let st = standing c s k p a.request past w u.pending h a.stage (place_of a p stage) g.stage in
      ((omega arith, OfDgram s (dgram_at s p h st.1) (may_close a p end held (record { now = after; not_before = before }) stage), was_live a p held stage), tt)
  cancels_right known _ (IsGivenUp x v (server.AtStreams none)) before end after = tt

  pub cancels_goes : (d : Act Served) → Cancels s next k u d → (p j : ℕ) (m : Octets) → j ≢ k → Goes c Served (Expects c) past w h u d p j m
  cancels_goes _ (IsGivenUp x v (server.Waits a held stage)) p j m ne (ByDatagram b id t o pend un held' at st soon long same ok whole) = inr (inl (ByDatagram b id t o pend un (at_there k j None u.server.by_dgram.held (λ e. ne (sym e)) ∙ held') at st soon long same ok whole))
  cancels_goes _ (IsGivenUp x v (server.Waits a held stage)) p j m ne (ByOctets b id o y pend un ask soon ph conn first ok) = inr (inl (ByOctets b id o y pend un ask soon ph conn first ok))
  cancels_goes _ (IsGivenUp x v (server.Waits a held stage)) p j m ne (InFrames b id y pl tk ask soon ph conn first ok) = inr (inl (InFrames b id y pl tk ask soon ph conn first ok))
  cancels_goes _ (IsGivenUp x v (server.HasPlace a q held stage)) p j m ne (ByDatagram b id t o pend un held' at st soon long same ok whole) =
      let apart : q ≢ p = λ e. (let mine = fits.dgrams.points k a held q (place_of a q stage) in let z : Some k ≡ Some j = sym mine ∙ (ap u.server.by_dgram.at e ∙ at) in ne (let y : k ≡ j = cc in sym y)) in
      inr (inl (ByDatagram b id t o pend un (at_there k j None (with_at k (Some (dgrams.staged a (dgrams.Ending (Err errors.TimedOut)))) u.server.by_dgram.held) (λ e. ne (sym e)) ∙ (at_there k j (Some (dgrams.staged a (dgrams.Ending (Err errors.TimedOut)))) u.server.by_dgram.held (λ e. ne (sym e)) ∙ held')) (at_there q p None u.server.by_dgram.at apart ∙ at) st soon long same ok whole))
  cancels_goes _ (IsGivenUp x v (server.HasPlace a q held stage)) p j m ne (ByOctets b id o y pend un ask soon ph conn first ok) = inr (inl (ByOctets b id o y pend un ask soon ph conn first ok))
  cancels_goes _ (IsGivenUp x v (server.HasPlace a q held stage)) p j m ne (InFrames b id y pl tk ask soon ph conn first ok) = inr (inl (InFrames b id y pl tk ask soon ph conn first ok))
  cancels_goes _ (IsGivenUp x v (server.AtStreams none)) p j m ne (ByDatagram b id t o pend un held' at st soon long same ok whole) = inr (inl (ByDatagram b id t o pend un held' at st soon long same ok whole))
  cancels_goes _ (IsGivenUp x v (server.AtStreams none)) p j m ne (ByOctets b id o y pend un ask soon ph conn first ok) = inr (inl (ByOctets b id o y pend un (at_there k j None u.server.by_stream.asks (λ e. ne (sym e)) ∙ ask) soon ph conn first ok))
  cancels_goes _ (IsGivenUp x v (server.AtStreams none)) p j m ne (InFrames b id y pl tk ask soon ph conn first ok) = inr (inl (InFrames b id y pl tk (at_there k j None u.server.by_stream.asks (λ e. ne (sym e)) ∙ ask) soon ph conn first ok))
