-- A request is handed to one server's part.
use Rattle.std.proofs.Common.{◌≡◌, ◌≢◌, ℕ, ◌<◌, Bool, true, false, ◌&&◌, ◌||◌, ◌⊎◌, inl, inr, Option, Some, None, List, [], ◌∷◌, is_some, refl, arith, ◌∙◌, sym, subst, ap, ◌==◌, length}
use Rattle.std.specs.Prelude.{if◌then◌else◌}
use Rattle.std.proofs.lemmas.Bool.{cases_eq}
use Rattle.std.proofs.lemmas.Bool.Decides.{nat_tests}
use Rattle.client_request.specs.Request.{Request}
use Rattle.client_request.specs.declared.event.What.{What}
use Rattle.client_request.specs.declared.event.Out.TheVariants.{Start}
use Rattle.client_request.specs.declared.event.Via.{Via}
use Rattle.client_request.specs.declared.event.Via.TheVariants.{Dgram, Stream}
use Rattle.right_trace.specs.Trace.{History, Conf, Put, put_all}
use Rattle.right_trace.specs.Time.{now}
use Rattle.right_trace.specs.Messages.{Octets}
use Rattle.right_trace.specs.Requests.{asking, same_via, is_start, start, started, handed}
use Rattle.right_trace.specs.Places.{site, reach}
use Rattle.right_trace.specs.Frames.{came_here}
use Rattle.right_trace.specs.Writes.{waiting_with}
use Rattle.right_trace.specs.Exchanges.{octets_for, is_before, waited_for, IsAmong, Comes}
use Rattle.right_trace.specs.Orderly.{use_at, FirstDatagram, FirstStream}
use Rattle.proof_right.specs.machine.Streams.{Act, Puts, Asker, Multi}
use Rattle.right_trace.specs.Updates.{with_at}
use Rattle.proof_right.specs.machine.Dgrams.{Queued, Ending, Tryer}
use Rattle.proof_right.specs.machine.Server.{Server}
use Rattle.proof_right.specs.machine.Served.{Served, holds, has_moved, does, Starts, IsHanded}
use Rattle.proof_right.proofs.server.Expecting.{Expects, ByDatagram, ByOctets, InFrames}
use Rattle.right_trace.specs.Owed.{IsOwed}
use Rattle.right_trace.specs.Right.{ServerOutsRight}
use Rattle.proof_right.specs.machine.Part.{Act as Step, IsPosted}
use Rattle.proof_right.proofs.PartLaws.{Keeps, Gives, Tells, Late, Goes, this_one, or_this}
use Rattle.proof_right.proofs.server.Kept.{Kept}
use Rattle.proof_right.proofs.server.Views.{each_at, at_there}
use Rattle.proof_right.proofs.server.Puts.{kept_put}
use Rattle.proof_right.proofs.server.DgramMoves.{kept_put_d, begins_d}
use Rattle.proof_right.proofs.server.Ending.{at_is}
use Rattle.proof_right.proofs.server.Coming.{site_past}
use Rattle.proof_right.proofs.server.Fitting.{Fits, UnsentBy, BegunBy}
use Rattle.proof_right.proofs.server.Moved.{Moved, fits_after, others_all}
use Rattle.proof_right.proofs.server.Keeping.{quiet_other, same_conns}
use Rattle.proof_right.specs.machine.Streams as multi
use Rattle.proof_right.specs.machine.Server as server
use Rattle.proof_right.proofs.server.Opening as opening

pub or_parts : (x y : Bool) → (x || y) ≡ false → (x ≡ false) × (y ≡ false)
or_parts false false e = (refl, refl)
or_parts true y e = absurd (cc)
or_parts false true e = absurd (cc)

pub or_left : (x y : Bool) → x ≡ true → (x || y) ≡ true
or_left true y e = refl
or_left false y e = absurd (cc)

or_last : (x y : Bool) → y ≡ true → (x || y) ≡ true
or_last true y e = refl
or_last false y e = e

pub none_started : (k s : ℕ) (h : History) → started k s Stream h ≡ false → start k s Stream h ≡ None
none_started k s h e = go (start k s Stream h) refl e
  where
    go : (x : Option ℕ) → start k s Stream h ≡ x → is_some x ≡ false → start k s Stream h ≡ None
    go None f g = f
    go (Some t) f g = absurd (cc)

-- who is handed over, by an out
pub handed_put : (k s : ℕ) (u : Via) (h : History) (j t : ℕ) → handed j t (Put (Start k s u) ∷ h) ≡ (this_one k s j t || handed j t h)
handed_put k s Dgram h j t = go ((k == j) && (s == t))
  where
    go : (b : Bool) → (is_some (if b then Some (now h) else start j t Dgram h) || started j t Stream h) ≡ (b || handed j t h)
    go true = refl
    go false = refl
handed_put k s Stream h j t = go ((k == j) && (s == t))
  where
    true_last : (x : Bool) → (x || true) ≡ true
    true_last true = refl
    true_last false = refl

    go : (b : Bool) → (started j t Dgram h || is_some (if b then Some (now h) else start j t Stream h)) ≡ (b || handed j t h)
    go true = true_last (started j t Dgram h)
    go false = refl

pub before_of : (b : Bool) (x : Octets) (ys : List Octets) → IsAmong x (if b then ys else []) → (b ≡ true) × IsAmong x ys
before_of true x ys i = (refl, i)
before_of false x ys i = absurd i

-- a start of another request or server adds nothing
pub not_start : (k s j t : ℕ) (u : Via) → (t ≡ s → k ≢ j) → is_start j t Stream (Start k s u) ≡ false
not_start k s j t u ne = elim (cases_eq t s) [
  | inl is ↦ (let z : (k == j) ≡ false = (let n = ne is in grind (arith, nat_tests)) in rw z (and_false (same_via u Stream)))
  | inr other ↦ (let z : (s == t) ≡ false = grind (arith, nat_tests) in rw z (and_none (same_via u Stream) (k == j)))
]
  where
    and_false : (b : Bool) → (b && false) ≡ false
    and_false true = refl
    and_false false = refl

    and_none : (a b : Bool) → (a && (b && false)) ≡ false
    and_none true true = refl
    and_none true false = refl
    and_none false b = refl

pub waited_start : (c : Conf) → (k s t : ℕ) (u v : Via) (r : Request) (p j id : ℕ) (x : Octets) (ms : List Octets) (past h : History) → is_start j t Stream (Start k s u) ≡ false → IsAmong x (waited_for c v r t p j id (now h) ms past (Put (Start k s u) ∷ h)) → IsAmong x (waited_for c v r t p j id (now h) ms past h)
waited_start c k s t u Dgram r p j id x ms past h apart i = i
waited_start c k s t u Stream r p j id x ms past h apart i = subst (λ b. IsAmong x (if is_before c (now h) (if b then Some (now h) else start j t Stream h) then octets_for j (waiting_with ms p id h) else [])) apart i

pub owed_start : (c : Conf) (k s j t : ℕ) (u : Via) (past : History) (w : What) (h : History) → is_start j t Stream (Start k s u) ≡ false → IsOwed c t j past w (Put (Start k s u) ∷ h) → IsOwed c t j past w h
owed_start c k s j t u past w h apart o = record { request = o.request; via = o.via; place = o.place; id = o.id; asked = o.asked; alive = o.alive; at = o.at; octets = o.octets; sent = back o.via o.sent; carries = o.carries }
  where
    back : (v : Via) → IsAmong o.octets (waited_for c v o.request t o.place j o.id (now h) (came_here o.place h) (Put (Start k s u) ∷ h) (Put (Start k s u) ∷ h)) → IsAmong o.octets (waited_for c v o.request t o.place j o.id (now h) (came_here o.place h) h h)
    back Dgram i = i
    back Stream i = waited_start c k s t u Stream o.request o.place j o.id o.octets (came_here o.place h) h h apart i

module _ (c : Conf) (s next k t : ℕ) (r : Request) (past : History) (w : What) (u : Served) (h : History) (f : Fits c s past w u h) (asked : asking k h ≡ Some (record { request = r; moment = t })) (unhanded : handed k s h ≡ false) where
  no_dgram : started k s Dgram h ≡ false
  no_dgram = (or_parts (started k s Dgram h) (started k s Stream h) unhanded).0

  no_stream : started k s Stream h ≡ false
  no_stream = (or_parts (started k s Dgram h) (started k s Stream h) unhanded).1

  unheld : (a : Tryer) → u.server.by_dgram.held k ≡ Some a → ⊥
  unheld a e = (let z = (f.dgrams.held k a e).has_it in let y : true ≡ false = sym z ∙ no_dgram in cc)

  unasked : (a : Asker) → u.server.by_stream.asks k ≡ Some a → ⊥
  unasked a e = (let z = (f.streams.asks k a e).since in let st : started k s Stream h ≡ true = rw z refl in let y : true ≡ false = sym st ∙ no_stream in cc)

  unsent_start : (via : Via) → UnsentBy s (Put (Start k s via) ∷ h)
  unsent_start via j e = (let z = or_parts (this_one k s j s) (handed j s h) (sym (handed_put k s via h j s) ∙ e) in f.unsent j z.1)

  begun_start : (via : Via) → BegunBy s (Put (Start k s via) ∷ h)
  begun_start via p j i x at a = still (is_start j s Stream (Start k s via)) (f.begun p j i x at a)
    where
      still : (b : Bool) → started j s Stream h ≡ true → is_some (if b then Some (now h) else start j s Stream h) ≡ true
      still true e = refl
      still false e = e

  handed_in : (how : _) (x : Act) (v : Server) → use_at s c.servers ≡ Some how → server.IsHanded how s u.clock k r u.server x v → Moved c s past w u h f v (does (has_moved v u) next x).outs
  handed_in how _ _ used (server.ToDgrams is free) = record {
    streams = kept_put c s past w u.pending f.fr f.more u.server.by_stream (Start k s Dgram) h (record { conns = λ q x e. refl; opening = λ q e. refl; below = λ q e. absurd (cc); asks = λ j a e. refl; elsewhere = λ q e g. absurd (cc) }) f.streams;
    dgrams = begins_d c s past w u.pending u.server.by_dgram h k r t f.dgrams asked no_stream (f.unsent k unhanded) free;
    conns = same_conns u.server.by_stream.conns;
    asks = λ j a e. inl (a, e);
    held = λ j a e. used ∙ ap Some is;
    settled = each_at (λ j (a : Tryer). (x : _) → a.stage ≢ Ending x) k (record { request = r; tries = 0; stage = Queued }) u.server.by_dgram.held (λ x e. cc) (λ j a ne e. f.settled j a e);
    one_id = f.one_id;
    begun = begun_start Dgram;
    unsent = unsent_start Dgram;
  }
  handed_in how _ _ used (server.ToStreams is free) = record {
    streams = subst (λ n. Kept c s past w u.pending f.fr f.more (record u.server.by_stream { asks = with_at k (Some (record { request = r; since = n; phase = multi.Free })) u.server.by_stream.asks }) (Put (Start k s Stream) ∷ h)) (sym f.clock) (opening.begins c s past w u.pending f.fr f.more u.server.by_stream h k r t f.streams asked (none_started k s h no_stream));
    dgrams = kept_put_d c s past w u.pending u.server.by_dgram (Start k s Stream) h (quiet_other s u.server.by_dgram (Start k s Stream) h (λ j a e. (let ne : k ≢ j = λ i. unheld a (ap u.server.by_dgram.held i ∙ e) in grind (arith, nat_tests))) (λ q. refl) refl) f.dgrams;
    conns = same_conns u.server.by_stream.conns;
    asks = each_at (λ j b. ((b : Asker) × (u.server.by_stream.asks j ≡ Some b)) ⊎ (start j s Stream h ≡ None)) k (record { request = r; since = u.clock; phase = multi.Free }) u.server.by_stream.asks (inr (none_started k s h no_stream)) (λ j b ne e. inl (b, e));
    held = f.by_dgram;
    settled = f.settled;
    one_id = f.one_id;
    begun = begun_start Stream;
    unsent = unsent_start Stream;
  }

  pub starts_keeps : (d : Step Served) → next ≡ reach h → Starts c s next k r u d → Keeps Served (Fits c) (this_one k s) s past w h d
  starts_keeps _ at (IsHanded how x v used (server.ToDgrams is free)) = record { fits = fits_after c s past w u h f v (Start k s Dgram ∷ []) (handed_in how x v used (server.ToDgrams is free)); others = λ i y ne g. others_all c s i past w y (Start k s Dgram ∷ []) h (λ e. ne (sym e)) (refl, tt) g; silent = λ j. refl; handed_on = handed_put k s Dgram h; reaches = at }
  starts_keeps _ at (IsHanded how x v used (server.ToStreams is free)) = record { fits = fits_after c s past w u h f v (Start k s Stream ∷ []) (handed_in how x v used (server.ToStreams is free)); others = λ i y ne g. others_all c s i past w y (Start k s Stream ∷ []) h (λ e. ne (sym e)) (refl, tt) g; silent = λ j. refl; handed_on = handed_put k s Stream h; reaches = at }

  pub starts_right : s < length c.servers → (d : Step Served) → Starts c s next k r u d → (end : History) → ServerOutsRight c past w end h d.outs
  starts_right lt _ (IsHanded how x v used (server.ToDgrams is free)) end = ((omega arith, FirstDatagram (used ∙ ap Some is) no_dgram, (record { request = r; moment = t }, asked)), tt)
  starts_right lt _ (IsHanded how x v used (server.ToStreams is free)) end = ((omega arith, FirstStream (used ∙ ap Some is) no_stream, (record { request = r; moment = t }, asked)), tt)

  or_this_of : (j : ℕ) (b : Bool) → ((k ≡ j) ⊎ (holds u j ≡ true)) → or_this k (holds u) j ≡ true
  or_this_of j b (inl e) = (let z : (k == j) ≡ true = grind (arith, nat_tests) in rw z refl)
  or_this_of j b (inr e) = go (k == j)
    where
      go : (b : Bool) → (if b then true else holds u j) ≡ true
      go true = refl
      go false = e

  this_false : (j : ℕ) → or_this k (holds u) j ≡ false → k ≢ j
  this_false j e is = (let z = or_this_of j true (inl is) in let y : true ≡ false = sym z ∙ e in cc)

  -- who is held afterwards
  holds_after : (how : _) (x : Act) (v : Server) → server.IsHanded how s u.clock k r u.server x v → (j : ℕ) → holds (has_moved v u) j ≡ or_this k (holds u) j
  holds_after how _ _ (server.ToDgrams is free) j = go (k == j) refl
    where
      go : (b : Bool) → (k == j) ≡ b → (is_some (if b then Some (record { request = r; tries = 0; stage = Queued }) else u.server.by_dgram.held j) || is_some (u.server.by_stream.asks j)) ≡ (if b then true else holds u j)
      go true e = refl
      go false e = refl
  holds_after how _ _ (server.ToStreams is free) j = go (k == j)
    where
      true_last : (x : Bool) → (x || true) ≡ true
      true_last true = refl
      true_last false = refl

      go : (b : Bool) → (is_some (u.server.by_dgram.held j) || is_some (if b then Some (record { request = r; since = u.clock; phase = multi.Free }) else u.server.by_stream.asks j)) ≡ (if b then true else holds u j)
      go true = true_last (is_some (u.server.by_dgram.held j))
      go false = refl

  gives_nothing : (d : Step Served) → d.posts ≡ [] → ((j : ℕ) → holds d.state j ≡ or_this k (holds u) j) → ((j i : ℕ) → (i ≡ s → or_this k (holds u) j ≡ false) → (IsOwed c i j past w h → ⊥) → IsOwed c i j past w (put_all d.outs h) → ⊥) → Gives c Served holds (or_this k (holds u)) s past w h d
  gives_nothing d none same over = record {
    no_more = λ j e. sym (same j) ∙ e;
    given = λ j e g. absurd (let z : true ≡ false = sym e ∙ (sym (same j) ∙ g) in cc);
    was_held = λ x e. absurd (subst (λ ps. IsPosted x ps) none e);
    let_go = λ x e. absurd (subst (λ ps. IsPosted x ps) none e);
    once = λ j x y e. absurd (subst (λ ps. IsPosted (record { request = j; result = x }) ps) none e);
    right = λ x e. absurd (subst (λ ps. IsPosted x ps) none e);
    over = λ x e. absurd (subst (λ ps. IsPosted x ps) none e);
    stays_over = over;
  }

  pub starts_gives : (d : Step Served) → Starts c s next k r u d → Gives c Served holds (or_this k (holds u)) s past w h d
  starts_gives _ (IsHanded how x v used (server.ToDgrams is free)) = gives_nothing _ refl (holds_after how x v (server.ToDgrams is free)) (λ j i only none o. none (owed_start c k s j i Dgram past w h refl o))
  starts_gives _ (IsHanded how x v used (server.ToStreams is free)) = gives_nothing _ refl (holds_after how x v (server.ToStreams is free)) (λ j i only none o. none (owed_start c k s j i Stream past w h (not_start k s j i Stream (λ e. this_false j (only e))) o))

  -- nothing comes for it yet
  pub comes_start : (via : Via) (i : ℕ) (q : Request) (v : Via) (p j id : ℕ) (m : Octets) → Comes c q v i p j id m past w (Put (Start k s via) ∷ h) → Comes c q v i p j id m past w h
  comes_start via i q v p j id m x = (let o = x.is_open in record { is_open = record { stands = o.stands; octets = o.octets; sent = back v o.stands.at o.sent; carries = o.carries }; first = x.first })
    where
      ne : site p past ≡ Some (record { via = Stream; server = i }) → IsAmong x.is_open.octets (octets_for j (waiting_with [] p id h)) → i ≡ s → k ≢ j
      ne at a is same =
          let here : site p h ≡ Some (record { via = Stream; server = s }) = subst (λ i. site p h ≡ Some (record { via = Stream; server = i })) is (site_past p (record { via = Stream; server = i }) h (ap (site p) f.streams.row.before ∙ at)) in
          let b = f.begun p j id x.is_open.octets (at_is s p h here) a in
          (let z : started k s Stream h ≡ true = subst (λ k. started k s Stream h ≡ true) (sym same) b in let y : true ≡ false = sym z ∙ no_stream in cc)

      back : (v : Via) → site p past ≡ Some (record { via = v; server = i }) → IsAmong x.is_open.octets (waited_for c v q i p j id (now h) [] past (Put (Start k s via) ∷ h)) → IsAmong x.is_open.octets (waited_for c v q i p j id (now h) [] past h)
      back Dgram at a = a
      back Stream at a = waited_start c k s i via Stream q p j id x.is_open.octets [] past h (not_start k s j i via (ne at (before_of (is_before c (now h) (start j i Stream (Put (Start k s via) ∷ h))) x.is_open.octets (octets_for j (waiting_with [] p id h)) a).1)) a

  pub starts_come : (d : Step Served) → Starts c s next k r u d → (i : ℕ) (q : Request) (v : Via) (p j id : ℕ) (m : Octets) → Comes c q v i p j id m past w (put_all d.outs h) → Comes c q v i p j id m past w h
  starts_come _ (IsHanded how x v used (server.ToDgrams is free)) i q via p j id m z = comes_start Dgram i q via p j id m z
  starts_come _ (IsHanded how x v used (server.ToStreams is free)) i q via p j id m z = comes_start Stream i q via p j id m z

  pub starts_late : (d : Step Served) → Starts c s next k r u d → Late c Served holds (Expects c) s past w h d
  starts_late _ (IsHanded how x v used (server.ToDgrams is free)) i q via p j id m z = inl (record { comes = comes_start Dgram i q via p j id m z.comes; agrees = z.agrees; whole = z.whole })
  starts_late _ (IsHanded how x v used (server.ToStreams is free)) i q via p j id m z = inl (record { comes = comes_start Stream i q via p j id m z.comes; agrees = z.agrees; whole = z.whole })

  pub starts_tells : (d : Step Served) → Starts c s next k r u d → Tells Served (λ u. u.taken) s w u h d
  starts_tells _ (IsHanded how x v used (server.ToDgrams is free)) = record { stays = λ e. e; few = omega arith; by_event = λ e. absurd (omega arith) }
  starts_tells _ (IsHanded how x v used (server.ToStreams is free)) = record { stays = λ e. e; few = omega arith; by_event = λ e. absurd (omega arith) }

  pub starts_goes : (d : Step Served) → Starts c s next k r u d → (p j : ℕ) (m : Octets) → Goes c Served (Expects c) past w h u d p j m
  starts_goes _ (IsHanded how x v used (server.ToDgrams is free)) p j m (ByDatagram b id n o pend un held at st soon long same ok whole) = inr (inl (ByDatagram b id n o pend un (at_there k j _ u.server.by_dgram.held (λ e. unheld b (ap u.server.by_dgram.held e ∙ held)) ∙ held) at st soon long same ok whole))
  starts_goes _ (IsHanded how x v used (server.ToDgrams is free)) p j m (ByOctets b id o y pend un ask soon ph conn first ok) = inr (inl (ByOctets b id o y pend un ask soon ph conn first ok))
  starts_goes _ (IsHanded how x v used (server.ToDgrams is free)) p j m (InFrames b id y pl tk ask soon ph conn first ok) = inr (inl (InFrames b id y pl tk ask soon ph conn first ok))
  starts_goes _ (IsHanded how x v used (server.ToStreams is free)) p j m (ByDatagram b id n o pend un held at st soon long same ok whole) = inr (inl (ByDatagram b id n o pend un held at st soon long same ok whole))
  starts_goes _ (IsHanded how x v used (server.ToStreams is free)) p j m (ByOctets b id o y pend un ask soon ph conn first ok) = inr (inl (ByOctets b id o y pend un (at_there k j _ u.server.by_stream.asks (λ e. unasked b (ap u.server.by_stream.asks e ∙ ask)) ∙ ask) soon ph conn first ok))
  starts_goes _ (IsHanded how x v used (server.ToStreams is free)) p j m (InFrames b id y pl tk ask soon ph conn first ok) = inr (inl (InFrames b id y pl tk (at_there k j _ u.server.by_stream.asks (λ e. unasked b (ap u.server.by_stream.asks e ∙ ask)) ∙ ask) soon ph conn first ok))
