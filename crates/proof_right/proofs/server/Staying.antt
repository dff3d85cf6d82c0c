-- What an out makes a server owe: nothing but by a send or a write of its own.
use Rattle.std.proofs.Common.{◌≡◌, ℕ, ◌+◌, ◌≤◌, Bool, true, false, not, ◌&&◌, ◌||◌, ◌⊎◌, inl, inr, Option, Some, List, ◌∷◌, is_some, refl, arith, ◌∙◌, sym, subst, subst₂, ap, ◌==◌}
use Rattle.std.specs.Prelude.{if◌then◌else◌, nat_lt}
use Rattle.std.proofs.lemmas.Bool.{cases_eq, eqb-true}
use Rattle.std.proofs.lemmas.Bool.Decides.{nat_tests}
use Rattle.client_request.specs.Request.{Request}
use Rattle.client_request.specs.declared.event.What.{What}
use Rattle.client_request.specs.declared.event.Out.{Out}
use Rattle.client_request.specs.declared.event.Out.TheVariants.{Start, OpenDgram, OpenStream, Send, Write, Resume, Close, Stale, Reply}
use Rattle.client_request.specs.declared.event.Via.{Via}
use Rattle.client_request.specs.declared.event.Via.TheVariants.{Dgram, Stream}
use Rattle.right_trace.specs.Trace.{History, Conf, Put, put_all}
use Rattle.right_trace.specs.Time.{now, read_timeout}
use Rattle.right_trace.specs.Messages.{Octets}
use Rattle.right_trace.specs.Requests.{is_start, start, started}
use Rattle.right_trace.specs.Places.{Site, site, reach}
use Rattle.right_trace.specs.Writes.{waiting_with}
use Rattle.right_trace.specs.Frames.{came_here, brings}
use Rattle.right_trace.specs.Exchanges.{octets_for, is_before, is_send, unanswered, waited_for, IsAmong}
use Rattle.proof_right.specs.machine.Streams.{Act, Puts, Gives, Nothing, Asker, Multi, Moves, Takes, TakesFrame}
use Rattle.proof_right.specs.machine.Dgrams.{Tryer, Dgrams, Tries, Meets}
use Rattle.proof_right.specs.machine.Served.{Served, holds, outs_of, Acts, Settles, AsItIs, WithResult}
use Rattle.right_trace.specs.Owed.{IsOwed}
use Rattle.proof_right.specs.machine.Part.{Act as Step}
use Rattle.proof_right.proofs.server.Kept.{stream_site}
use Rattle.proof_right.proofs.server.DgramKept.{dgram_site}
use Rattle.proof_right.proofs.server.Ending.{at_is}
use Rattle.proof_right.proofs.server.Keeping.{at_site}
use Rattle.proof_right.proofs.server.Handing.{or_left, before_of, waited_start}
use Rattle.proof_right.proofs.server.Cancels.{still_alive}
use Rattle.proof_right.proofs.server.Begun.{among_before}
use Rattle.proof_right.proofs.server.Fitting.{BegunBy, Fits}
use Rattle.proof_right.specs.machine.Streams as multi
use Rattle.proof_right.specs.machine.Dgrams as dgrams
use Rattle.proof_right.specs.machine.Served as served

-- it was owed before, at the same place
abbrev pub Was : (c : Conf) (t k : ℕ) (past : History) (w : What) (h h' : History) → IsOwed c t k past w h' → Type 0
Was c t k past w h h' x = (y : IsOwed c t k past w h) × (y.via ≡ x.via) × (y.place ≡ x.place)

-- the out sends or writes request k at place p
abbrev pub IsSentBy : Out → (k p : ℕ) → Via → Type 0
IsSentBy (Send q j i o) k p v = (v ≡ Dgram) × (j ≡ k) × (q ≡ p)
IsSentBy (Write q j i o) k p v = (v ≡ Stream) × (j ≡ k) × (q ≡ p)
IsSentBy _ k p v = ⊥

-- a place is opened under the next number, and a request is handed over by stream that was not
abbrev pub IsNext : (s : ℕ) → Out → History → Type 0
IsNext s (Start k i Stream) h = (i ≡ s) × (started k s Stream h ≡ false)
IsNext s (OpenDgram p i) h = p ≡ reach h
IsNext s (OpenStream p i) h = p ≡ reach h
IsNext s _ h = Unit {0}

-- nothing waits at a place to come
abbrev pub IsEmpty : (c : Conf) → History → Type 0
IsEmpty c h = (v : Via) (r : Request) (t p k id n : ℕ) (ms : List Octets) (x : Octets) → reach h ≤ p → IsAmong x (waited_for c v r t p k id n ms h h) → ⊥

module _ (c : Conf) (s : ℕ) (past : History) (w : What) (h : History) (empty : IsEmpty c h) (begun : BegunBy s h) where
  abbrev Stays : Out → Type 0
  Stays o = (k t : ℕ) → (x : IsOwed c t k past w (Put o ∷ h)) → Was c t k past w h (Put o ∷ h) x ⊎ IsSentBy o k x.place x.via

  starts_one : (j i : ℕ) (v : Via) → IsNext s (Start j i v) h → Stays (Start j i v)
  starts_one j i v next k t x = inl (record { request = x.request; via = x.via; place = x.place; id = x.id; asked = x.asked; alive = x.alive; at = x.at; octets = x.octets; sent = back x.via refl x.sent; carries = x.carries }, refl, refl)
    where
      not_new : (v : Via) → IsNext s (Start j i v) h → x.via ≡ Stream → IsAmong x.octets (octets_for k (waiting_with (came_here x.place h) x.place x.id h)) → is_start k t Stream (Start j i v) ≡ true → ⊥
      not_new Dgram n via a e = absurd (cc)
      not_new Stream n via a e =
          let who : j ≡ k = grind (arith, nat_tests) in
          let where' : i ≡ t = grind (arith, nat_tests) in
          let at : site x.place h ≡ Some (stream_site s) = subst (λ t. site x.place h ≡ Some (record { via = Stream; server = t })) (sym where' ∙ n.0) (subst (λ v. site x.place h ≡ Some (record { via = v; server = t })) via x.at) in
          let z = among_before (came_here x.place h) x.place x.id k x.octets h a in
          let b = begun x.place k x.id (z.0) (at_is s x.place h at) z.1 in
          (let y : started k s Stream h ≡ false = subst (λ j. started j s Stream h ≡ false) who n.1 in let z : true ≡ false = sym b ∙ y in cc)

      back : (u : Via) → x.via ≡ u → IsAmong x.octets (waited_for c u x.request t x.place k x.id (now h) (came_here x.place h) (Put (Start j i v) ∷ h) (Put (Start j i v) ∷ h)) → IsAmong x.octets (waited_for c u x.request t x.place k x.id (now h) (came_here x.place h) h h)
      back Dgram e a = a
      back Stream e a = go (is_start k t Stream (Start j i v)) refl
        where
          go : (b : Bool) → is_start k t Stream (Start j i v) ≡ b → IsAmong x.octets (waited_for c Stream x.request t x.place k x.id (now h) (came_here x.place h) h h)
          go true g = absurd (not_new v next e (before_of (is_before c (now h) (start k t Stream (Put (Start j i v) ∷ h))) x.octets (octets_for k (waiting_with (came_here x.place h) x.place x.id h)) a).1 g)
          go false g = waited_start c j i t v Stream x.request x.place k x.id x.octets (came_here x.place h) h h g a

  opens_dgram : (p i : ℕ) → p ≡ reach h → Stays (OpenDgram p i)
  opens_dgram p i next k t x = elim (cases_eq p x.place) [
    | inl is ↦ absurd (empty x.via x.request t x.place k x.id (now h) (came_here x.place h) x.octets (omega arith) (back x.via x.sent))
    | inr ne ↦ (let z : (p == x.place) ≡ false = grind (arith, nat_tests) in inl (record { request = x.request; via = x.via; place = x.place; id = x.id; asked = x.asked; alive = elim x.alive [ inl e ↦ inl (rw z at e) | inr e ↦ inr e ]; at = rw z at x.at; octets = x.octets; sent = back x.via x.sent; carries = x.carries }, refl, refl))
  ]
    where
      back : (v : Via) → IsAmong x.octets (waited_for c v x.request t x.place k x.id (now h) (came_here x.place h) (Put (OpenDgram p i) ∷ h) (Put (OpenDgram p i) ∷ h)) → IsAmong x.octets (waited_for c v x.request t x.place k x.id (now h) (came_here x.place h) h h)
      back Dgram a = a
      back Stream a = a

  opens_stream : (p i : ℕ) → p ≡ reach h → Stays (OpenStream p i)
  opens_stream p i next k t x = elim (cases_eq p x.place) [
    | inl is ↦ absurd (empty x.via x.request t x.place k x.id (now h) (came_here x.place h) x.octets (omega arith) (back x.via x.sent))
    | inr ne ↦ (let z : (p == x.place) ≡ false = grind (arith, nat_tests) in inl (record { request = x.request; via = x.via; place = x.place; id = x.id; asked = x.asked; alive = elim x.alive [ inl e ↦ inl (rw z at e) | inr e ↦ inr e ]; at = rw z at x.at; octets = x.octets; sent = back x.via x.sent; carries = x.carries }, refl, refl))
  ]
    where
      back : (v : Via) → IsAmong x.octets (waited_for c v x.request t x.place k x.id (now h) (came_here x.place h) (Put (OpenStream p i) ∷ h) (Put (OpenStream p i) ∷ h)) → IsAmong x.octets (waited_for c v x.request t x.place k x.id (now h) (came_here x.place h) h h)
      back Dgram a = a
      back Stream a = a

  is_send_of : (p j id q k i : ℕ) (o : Octets) (b : Bool) → (is_send q k i (Send p j id o) && b) ≡ true → (p ≡ q) × (j ≡ k)
  is_send_of p j id q k i o b e = (grind (arith, nat_tests), grind (arith, nat_tests))

  sends_one : (p j id : ℕ) (o : Octets) → Stays (Send p j id o)
  sends_one p j id o k t x = back x.via refl x.sent
    where
      it : IsAmong x.octets (waited_for c x.via x.request t x.place k x.id (now h) (came_here x.place h) h h) → Was c t k past w h (Put (Send p j id o) ∷ h) x ⊎ IsSentBy (Send p j id o) k x.place x.via
      it a = inl (record { request = x.request; via = x.via; place = x.place; id = x.id; asked = x.asked; alive = x.alive; at = x.at; octets = x.octets; sent = a; carries = x.carries }, refl, refl)

      go : (b : Bool) → (is_send x.place k x.id (Send p j id o) && nat_lt (now h) (now h + read_timeout c)) ≡ b → x.via ≡ Dgram → IsAmong x.octets (if b then o ∷ unanswered c x.request x.place k x.id (now h) h else unanswered c x.request x.place k x.id (now h) h) → Was c t k past w h (Put (Send p j id o) ∷ h) x ⊎ IsSentBy (Send p j id o) k x.place x.via
      go true e v a = (let z = is_send_of p j id x.place k x.id o (nat_lt (now h) (now h + read_timeout c)) e in inr (v, z.1, z.0))
      go false e v a = it (subst (λ v. IsAmong x.octets (waited_for c v x.request t x.place k x.id (now h) (came_here x.place h) h h)) (sym v) a)

      back : (v : Via) → x.via ≡ v → IsAmong x.octets (waited_for c v x.request t x.place k x.id (now h) (came_here x.place h) (Put (Send p j id o) ∷ h) (Put (Send p j id o) ∷ h)) → Was c t k past w h (Put (Send p j id o) ∷ h) x ⊎ IsSentBy (Send p j id o) k x.place x.via
      back Dgram v a = go (is_send x.place k x.id (Send p j id o) && nat_lt (now h) (now h + read_timeout c)) refl v a
      back Stream v a = it (subst (λ v. IsAmong x.octets (waited_for c v x.request t x.place k x.id (now h) (came_here x.place h) h h)) (sym v) a)

  writes_one : (p j id : ℕ) (o : Octets) → Stays (Write p j id o)
  writes_one p j id o k t x = back x.via refl x.sent
    where
      it : IsAmong x.octets (waited_for c x.via x.request t x.place k x.id (now h) (came_here x.place h) h h) → Was c t k past w h (Put (Write p j id o) ∷ h) x ⊎ IsSentBy (Write p j id o) k x.place x.via
      it a = inl (record { request = x.request; via = x.via; place = x.place; id = x.id; asked = x.asked; alive = x.alive; at = x.at; octets = x.octets; sent = a; carries = x.carries }, refl, refl)

      go : (bp bi bn bk : Bool) → (p == x.place) ≡ bp → (j == k) ≡ bk → IsAmong x.octets (octets_for k (if (bp && bi) && bn then record { request = j; octets = o; moment = now h } ∷ (waiting_with (came_here x.place h) x.place x.id h) else (waiting_with (came_here x.place h) x.place x.id h))) → ((p ≡ x.place) × (j ≡ k)) ⊎ IsAmong x.octets (octets_for k (waiting_with (came_here x.place h) x.place x.id h))
      go true true true true e g i = inl (eqb-true p x.place e, eqb-true j k g)
      go true true true false e g i = inr (subst (λ b. IsAmong x.octets (if b then o ∷ octets_for k (waiting_with (came_here x.place h) x.place x.id h) else octets_for k (waiting_with (came_here x.place h) x.place x.id h))) g i)
      go true true false bk e g i = inr i
      go true false bn bk e g i = inr i
      go false bi bn bk e g i = inr i

      back : (v : Via) → x.via ≡ v → IsAmong x.octets (waited_for c v x.request t x.place k x.id (now h) (came_here x.place h) (Put (Write p j id o) ∷ h) (Put (Write p j id o) ∷ h)) → Was c t k past w h (Put (Write p j id o) ∷ h) x ⊎ IsSentBy (Write p j id o) k x.place x.via
      back Dgram v a = it (subst (λ v. IsAmong x.octets (waited_for c v x.request t x.place k x.id (now h) (came_here x.place h) h h)) (sym v) a)
      back Stream v a =
          let b = before_of (is_before c (now h) (start k t Stream h)) x.octets (octets_for k (waiting_with (came_here x.place h) x.place x.id (Put (Write p j id o) ∷ h))) a in
          elim (go (p == x.place) (id == x.id) (not (brings x.id (came_here x.place h))) (j == k) refl refl b.1) [ inl new ↦ inr (v, new.1, new.0) | inr old ↦ it (subst (λ v. IsAmong x.octets (waited_for c v x.request t x.place k x.id (now h) (came_here x.place h) h h)) (sym v) (rw b.0 old)) ]

  pub owed_put : (o : Out) → IsNext s o h → Stays o
  owed_put (Start j i v) next k t x = starts_one j i v next k t x
  owed_put (OpenDgram p i) next k t x = opens_dgram p i next k t x
  owed_put (OpenStream p i) next k t x = opens_stream p i next k t x
  owed_put (Send p j id o) next k t x = sends_one p j id o k t x
  owed_put (Write p j id o) next k t x = writes_one p j id o k t x
  owed_put (Resume p o) next k t x = inl (record { request = x.request; via = x.via; place = x.place; id = x.id; asked = x.asked; alive = x.alive; at = x.at; octets = x.octets; sent = back x.via x.sent; carries = x.carries }, refl, refl)
    where
      back : (v : Via) → IsAmong x.octets (waited_for c v x.request t x.place k x.id (now h) (came_here x.place h) (Put (Resume p o) ∷ h) (Put (Resume p o) ∷ h)) → IsAmong x.octets (waited_for c v x.request t x.place k x.id (now h) (came_here x.place h) h h)
      back Dgram a = a
      back Stream a = a
  owed_put (Stale l) next k t x = inl (record { request = x.request; via = x.via; place = x.place; id = x.id; asked = x.asked; alive = x.alive; at = x.at; octets = x.octets; sent = back x.via x.sent; carries = x.carries }, refl, refl)
    where
      back : (v : Via) → IsAmong x.octets (waited_for c v x.request t x.place k x.id (now h) (came_here x.place h) (Put (Stale l) ∷ h) (Put (Stale l) ∷ h)) → IsAmong x.octets (waited_for c v x.request t x.place k x.id (now h) (came_here x.place h) h h)
      back Dgram a = a
      back Stream a = a
  owed_put (Close p) next k t x = inl (record { request = x.request; via = x.via; place = x.place; id = x.id; asked = x.asked; alive = elim x.alive [ inl e ↦ inl (still_alive (p == x.place) _ e) | inr e ↦ inr e ]; at = x.at; octets = x.octets; sent = back x.via x.sent; carries = x.carries }, refl, refl)
    where
      back : (v : Via) → IsAmong x.octets (waited_for c v x.request t x.place k x.id (now h) (came_here x.place h) (Put (Close p) ∷ h) (Put (Close p) ∷ h)) → IsAmong x.octets (waited_for c v x.request t x.place k x.id (now h) (came_here x.place h) h h)
      back Dgram a = a
      back Stream a = a
  owed_put (Reply j y) next k t x = inl (record { request = x.request; via = x.via; place = x.place; id = x.id; asked = x.asked; alive = x.alive; at = x.at; octets = x.octets; sent = back x.via x.sent; carries = x.carries }, refl, refl)
    where
      back : (v : Via) → IsAmong x.octets (waited_for c v x.request t x.place k x.id (now h) (came_here x.place h) (Put (Reply j y) ∷ h) (Put (Reply j y) ∷ h)) → IsAmong x.octets (waited_for c v x.request t x.place k x.id (now h) (came_here x.place h) h h)
      back Dgram a = a
      back Stream a = a

server_is : (s t : ℕ) (u v : Via) (x : Option Site) → x ≡ Some (record { via = u; server = s }) → x ≡ Some (record { via = v; server = t }) → t ≡ s
server_is s t u v x a b = (let z : Some (record { via = u; server = s }) ≡ Some (record { via = v; server = t }) = sym a ∙ b in let y : record { via = u; server = s } ≡ record { via = v; server = t } = cc in sym (ap (λ (x : Site). x.server) y))

module _ (c : Conf) (s : ℕ) (past : History) (w : What) (u : Served) (h : History) (f : Fits c s past w u h) where
  -- nothing waits at a place to come
  pub nothing_new : IsEmpty c h
  nothing_new Dgram r t p k id n ms x le i = subst (λ os. IsAmong x os) ((f.dgrams.new p le).none r k id n) i
  nothing_new Stream r t p k id n ms x le i = (let b = before_of (is_before c n (start k t Stream h)) x (octets_for k (waiting_with ms p id h)) i in subst (λ ws. IsAmong x (octets_for k ws)) ((f.streams.to_come p le).blank.waiting ms id) b.1)

  -- an out of this server owes nothing new but to a request that it holds
  abbrev pub OutStays : Out → Type 0
  OutStays o = (k t : ℕ) → (x : IsOwed c t k past w (Put o ∷ h)) → Was c t k past w h (Put o ∷ h) x ⊎ ((t ≡ s) × (holds u k ≡ true))

  abbrev ActStays : Act → Type 0
  ActStays (Puts o) = OutStays o
  ActStays (Gives k y) = Unit {0}
  ActStays Nothing = Unit {0}

  -- an out that neither sends nor writes
  abbrev IsMute : Out → Type 0
  IsMute (Send p k id o) = ⊥
  IsMute (Write p k id o) = ⊥
  IsMute _ = Unit {0}

  none_sent : (o : Out) → IsMute o → (k p : ℕ) (v : Via) → IsSentBy o k p v → ⊥
  none_sent (Start j i u) m k p v e = e
  none_sent (OpenDgram q i) m k p v e = e
  none_sent (OpenStream q i) m k p v e = e
  none_sent (Send q j id o) m k p v e = m
  none_sent (Write q j id o) m k p v e = m
  none_sent (Resume q o) m k p v e = e
  none_sent (Stale l) m k p v e = e
  none_sent (Close q) m k p v e = e
  none_sent (Reply j y) m k p v e = e

  pub mute_put : (o : Out) → IsMute o → IsNext s o h → (k t : ℕ) → (x : IsOwed c t k past w (Put o ∷ h)) → Was c t k past w h (Put o ∷ h) x
  mute_put o m next k t x = elim (owed_put c s past w h nothing_new f.begun o next k t x) [ inl y ↦ y | inr e ↦ absurd (none_sent o m k x.place x.via e) ]

  mute : (o : Out) → IsMute o → IsNext s o h → OutStays o
  mute o m next k t x = inl (mute_put o m next k t x)

  sends_one' : (p j id : ℕ) (o : Octets) → site p h ≡ Some (dgram_site s) → holds u j ≡ true → OutStays (Send p j id o)
  sends_one' p j id o at mine k t x = elim (owed_put c s past w h nothing_new f.begun (Send p j id o) tt k t x) [ inl y ↦ inl y | inr e ↦ inr (server_is s t Dgram x.via (site x.place h) (ap (λ q. site q h) (sym e.2) ∙ at) x.at, ap (holds u) (sym e.1) ∙ mine) ]

  writes_one' : (p j id : ℕ) (o : Octets) → site p h ≡ Some (stream_site s) → holds u j ≡ true → OutStays (Write p j id o)
  writes_one' p j id o at mine k t x = elim (owed_put c s past w h nothing_new f.begun (Write p j id o) tt k t x) [ inl y ↦ inl y | inr e ↦ inr (server_is s t Stream x.via (site x.place h) (ap (λ q. site q h) (sym e.2) ∙ at) x.at, ap (holds u) (sym e.1) ∙ mine) ]

  pub held_tryer : (k : ℕ) (a : Tryer) → u.server.by_dgram.held k ≡ Some a → holds u k ≡ true
  held_tryer k a e = or_left (is_some (u.server.by_dgram.held k)) (is_some (u.server.by_stream.asks k)) (ap is_some e)

  pub held_asker : (k : ℕ) (a : Asker) → u.server.by_stream.asks k ≡ Some a → holds u k ≡ true
  held_asker k a e = go (is_some (u.server.by_dgram.held k)) (ap is_some e)
    where
      go : (b : Bool) → is_some (u.server.by_stream.asks k) ≡ true → (b || is_some (u.server.by_stream.asks k)) ≡ true
      go true e = refl
      go false e = e

  tries_stay : (d : Dgrams) (x : Act) → Tries c s (now h) (reach h) u.server.by_dgram x d → ActStays x
  tries_stay _ _ (dgrams.Opens k a held stage few) = mute (OpenDgram (reach h) s) tt refl
  tries_stay _ _ (dgrams.Retries k a p id t held stage late few) = mute (Close p) tt tt
  tries_stay _ _ (dgrams.StopsTrying k a p id t held stage late six) = mute (Close p) tt tt
  tries_stay _ _ (dgrams.Ends k a x held stage) = tt

  meets_stay : (d : Dgrams) (v : What) (x : Act) → Meets c u.clock u.server.by_dgram v x d → ActStays x
  meets_stay _ _ _ (dgrams.IsSent k a p id o at held stage carries) = sends_one' p k id o (at_site c s past w u.pending u.server.by_dgram h p k f.dgrams at) (held_tryer k a held)
  meets_stay _ _ _ (dgrams.CannotBeSent k a p e at held stage bad) = mute (Close p) tt tt
  meets_stay _ _ _ (dgrams.DoesNotOpen k a p g at held stage) = tt
  meets_stay _ _ _ (dgrams.NotSent k a p id t g at held stage) = mute (Close p) tt tt
  meets_stay _ _ _ (dgrams.SentShort k a p id t at held stage) = mute (Close p) tt tt
  meets_stay _ _ _ (dgrams.NotReceived k a p id t g at held stage) = mute (Close p) tt tt
  meets_stay _ _ _ (dgrams.IsAnswered k a p id t o at held stage long ok) = mute (Close p) tt tt

  moves_stay : (m : Multi) (x : Act) → Moves c s (now h) (reach h) u.server.by_stream x m → ActStays x
  moves_stay _ _ (multi.Joins k a p x ask phase conn) = tt
  moves_stay _ _ (multi.Expects k a p ask phase op) = tt
  moves_stay _ _ (multi.Opens k a ask phase none full) = mute (OpenStream (reach h) s) tt refl
  moves_stay _ _ (multi.Meets k a until ask phase calm low high) = tt
  moves_stay _ _ (multi.BacksOff k a until ask phase low high) = tt
  moves_stay _ _ (multi.Writes k a p x id o ask phase conn none quiet unheld carries some) = writes_one' p k id o (f.streams.conns p x conn).at (held_asker k a ask)
  moves_stay _ _ (multi.CannotWrite k a p x ask phase conn none bad) = tt
  moves_stay _ _ (multi.FindsNoId k a p x ask phase conn none full) = tt
  moves_stay _ _ (multi.GoesOn k a until ask phase late) = tt
  moves_stay _ _ (multi.TimesOut k a ask late) = tt
  moves_stay _ _ (multi.ReadsNothing p x since conn mode late) = mute (Close p) tt tt
  moves_stay _ _ (multi.RestsTooLong p x since conn mode late pumped) = mute (Close p) tt tt

  takes_stay : (m : Multi) (v : What) (x : Act) → Takes c u.clock u.server.by_stream v x m → ActStays x
  takes_stay _ _ _ (multi.ItOpens p op) = tt
  takes_stay _ _ _ (multi.ItDoesNotOpen p g calm op lt) = tt
  takes_stay _ _ _ (multi.ItFails w p x conn told) = mute (Close p) tt tt
  takes_stay _ _ _ (multi.SomeWritten p c x o conn lt) = mute (Resume p o) tt tt
  takes_stay _ _ _ (multi.AllWritten p c x conn some le) = tt
  takes_stay _ _ _ (multi.NothingToWrite p c x conn none) = tt
  takes_stay _ _ _ (multi.OctetsCome p o x conn) = tt

  frame_stay : (g : Octets) (m : Multi) (x : Act) → TakesFrame u.clock u.place g u.server.by_stream x m → ActStays x
  frame_stay g _ _ (multi.IsBad x conn bad) = mute (Close u.place) tt tt
  frame_stay g _ _ (multi.IsUnknown x conn good none) = tt
  frame_stay g _ _ (multi.IsLate x y mode conn good held late leaves) = tt
  frame_stay g _ _ (multi.IsResult x y mode a conn good held ask phase leaves) = tt
  frame_stay g _ _ (multi.IsDropped none) = tt

  act_stays : (x : Act) → ActStays x → (k t : ℕ) → (o : IsOwed c t k past w (put_all (outs_of x) h)) → Was c t k past w h (put_all (outs_of x) h) o ⊎ ((t ≡ s) × (holds u k ≡ true))
  act_stays (Puts o) st k t i = st k t i
  act_stays (Gives j y) st k t i = inl (i, refl, refl)
  act_stays Nothing st k t i = inl (i, refl, refl)

  abbrev WasIn : (outs : List Out) → Type 0
  WasIn outs = (k t : ℕ) → (o : IsOwed c t k past w (put_all outs h)) → Was c t k past w h (put_all outs h) o ⊎ ((t ≡ s) × (holds u k ≡ true))

  -- what a request that goes on by stream makes it owe: nothing
  pub start_put : (j k t : ℕ) → started j s Stream h ≡ false → (x : IsOwed c t k past w (Put (Start j s Stream) ∷ h)) → Was c t k past w h (Put (Start j s Stream) ∷ h) x
  start_put j k t free x = elim (owed_put c s past w h nothing_new f.begun (Start j s Stream) (refl, free) k t x) [ inl y ↦ y | inr e ↦ absurd e ]

  -- what follows the close of a datagram place
  settles_stay : (next : ℕ) (v : Served) (x : Act) (d : Step Served) → ActStays x → Settles s u.clock next v x d → WasIn d.outs
  settles_stay next v x _ st (AsItIs set) k t i = act_stays x st k t i
  settles_stay next v x _ st (WithResult j a y held stage) k t i = act_stays x st k t i

  -- what a move of its own makes it owe: nothing but to a request that it holds
  pub acts_were : (next : ℕ) → next ≡ reach h → (d : Step Served) → Acts c s next u d → WasIn d.outs
  acts_were next is d (served.ByDgram x e _ tries set) = settles_stay next _ x d (tries_stay e x (subst₂ (λ n next. Tries c s n next u.server.by_dgram x e) f.clock is tries)) set
  acts_were next is _ (served.ByStream x m move) = act_stays x (moves_stay m x (subst₂ (λ n next. Moves c s n next u.server.by_stream x m) f.clock is move))
  acts_were next is _ (served.FallsBack j a held stage) = λ k t i. inl (start_put j k t (f.dgrams.held j a held).unstreamed i)
  acts_were next is d (served.TellsDgrams x e _ un soon meets foreign set) = settles_stay next _ x d (meets_stay e u.pending x meets) set
  acts_were next is _ (served.TellsStreams x m un plain takes ignored) = act_stays x (takes_stay m u.pending x takes)
  acts_were next is _ (served.Reads p o x un pend conn) = λ k t i. inl (i, refl, refl)
  acts_were next is _ (served.TakesOne g gs x m more soon frame) = act_stays x (frame_stay g m x frame)
  acts_were next is _ (served.ClosesFirst g gs j y m x since more soon frame conn mode late pumped) = λ k t i. inl (mute_put (Close u.place) tt tt k t i)

  pub acts_stay : (next : ℕ) → next ≡ reach h → (d : Step Served) → Acts c s next u d → (k t : ℕ) → (t ≡ s → holds u k ≡ false) → (IsOwed c t k past w h → ⊥) → IsOwed c t k past w (put_all d.outs h) → ⊥
  acts_stay next is d act k t free none i = elim (acts_were next is d act k t i) [ inl y ↦ none (y.0) | inr z ↦ (let n = free z.0 in let b : true ≡ false = sym z.1 ∙ n in cc) ]
