-- What the moves of a connection do to who is where.
use Rattle.std.proofs.Common.{◌≡◌, ℕ, ◌⊎◌, inl, inr, Option, Some, None, sym, ap, subst, ◌∙◌}
use Rattle.client_request.specs.Carries.{IsOfOctets}
use Rattle.client_request.specs.Request.{Request, is_answered}
use Rattle.client_stream.specs.declared.request.AnyRequest.TheVariants.{Single}
use Rattle.client_stream.specs.declared.request.Holder.{Holder}
use Rattle.client_stream.specs.declared.request.Holder.TheVariants.{Waits, GivenUp}
use Rattle.client_stream.specs.declared.request.QueuedRequest.{QueuedRequest}
use Rattle.right_trace.specs.Messages.{Octets, answers}
use Rattle.right_trace.specs.Writes.{Written}
use Rattle.proof_right.specs.machine.Streams.{Lined, Holding, Asker}
use Rattle.right_trace.specs.Updates.{with_at}
use Rattle.proof_parts.specs.Seats.{Seats, IsAway, IsSent, IsLined, IdFits, IsFree, IsHeld, WasGivenUp, AreSeated}
use Rattle.proof_parts.proofs.Keys.{with_here, with_there, was_there, is_or_was, each_number}

-- a request as it was written
record WasSent (p : ℕ) (x : Seats) (i k id : ℕ) (u : Request) : Type 0 where
  sent : IsSent p id k u x.asks
  own : x.ids i ≡ Some id
  record_of : Written
  is : x.written id ≡ Some record_of
  of : record_of.request ≡ k

module _ (p : ℕ) where
  -- what is said of one request stays, where another's phase changes
  sent_on : (id k j : ℕ) (w : Request) (v : Option Asker) (asks : ℕ → Option Asker) → (k ≡ j → ⊥) → IsSent p id j w asks → IsSent p id j w (with_at k v asks)
  sent_on id k j w v asks ne s = record { ask = s.ask; is = with_there k v asks j ne ∙ s.is; phase = s.phase; answered = s.answered }

  lined_on : (k j : ℕ) (w : QueuedRequest Request Request) (v : Option Asker) (asks : ℕ → Option Asker) → (k ≡ j → ⊥) → IsLined p j w asks → IsLined p j w (with_at k v asks)
  lined_on k j w v asks ne l = record { number = l.number; ask = l.ask; is = with_there k v asks j ne ∙ l.is; phase = l.phase; request = l.request; octets = l.octets }

  -- one request is not at two seats
  away_or_sent : (id k j : ℕ) (w : Request) (asks : ℕ → Option Asker) → IsAway p (asks k) → IsSent p id j w asks → k ≡ j → ⊥
  away_or_sent id k j w asks away s e = away.holding s.ask id (ap asks e ∙ s.is) s.phase

  away_or_lined : (k j : ℕ) (w : QueuedRequest Request Request) (asks : ℕ → Option Asker) → IsAway p (asks k) → IsLined p j w asks → k ≡ j → ⊥
  away_or_lined k j w asks away l e = away.lined l.ask (ap asks e ∙ l.is) l.phase

  lined_or_sent : (id k j : ℕ) (w : QueuedRequest Request Request) (u : Request) (asks : ℕ → Option Asker) → IsLined p k w asks → IsSent p id j u asks → k ≡ j → ⊥
  lined_or_sent id k j w u asks l s e =
      let x : Some l.ask ≡ Some s.ask = sym l.is ∙ (ap asks e ∙ s.is) in
      let y : l.ask ≡ s.ask = cc in
      let z : Lined p ≡ Holding p id = sym l.phase ∙ (ap (λ (a : Asker). a.phase) y ∙ s.phase) in
      cc

  module _ (names : ℕ → Option ℕ) where
    -- two tickets of one request are one
    unnamed : (i j k l : ℕ) → names i ≡ Some k → names j ≡ Some l → (k ≡ l → ⊥) → i ≡ j → ⊥
    unnamed i j k l e f ne s = ne (let x = ap names s in cc)

    -- Nobody who is at the place changes
    pub elsewhere : (x : Seats) (k : ℕ) (v : Option Asker) → AreSeated p names x → IsAway p (x.asks k) → IsAway p v → AreSeated p names (record x { asks = with_at k v x.asks })
    elsewhere x k v seated away to = record {
      at_id = λ id. at_id id (seated.at_id id);
      by_ticket = seated.by_ticket;
      queued = λ i w e. (let q = seated.queued i w e in (q.0, q.1, lined_on k q.0 w v x.asks (away_or_lined k q.0 w x.asks away q.2) q.2));
      lined = λ j a e f. elim (is_or_was k v x.asks j a e) [ inl s ↦ absurd (to.lined a s.1 f) | inr s ↦ seated.lined j a s.1 f ];
      holding = λ j a id e f. elim (is_or_was k v x.asks j a e) [ inl s ↦ absurd (to.holding a id s.1 f) | inr s ↦ seated.holding j a id s.1 f ];
      apart = seated.apart;
    }
      where
        at_id : (id : ℕ) → IdFits p names x id → IdFits p names (record x { asks = with_at k v x.asks }) id
        at_id id (IsFree h w) = IsFree h w
        at_id id (IsHeld i j w y h wr rq nm is s) = IsHeld i j w y h wr rq nm is (sent_on id k j w v x.asks (away_or_sent id k j w x.asks away s) s)
        at_id id (WasGivenUp y h wr absent) = WasGivenUp y h wr (λ a e f. elim (is_or_was k v x.asks y.request a e) [ inl s ↦ to.holding a id s.1 f | inr s ↦ absent a s.1 f ])

    -- A request is queued

    pub lines_up : (x : Seats) (i k : ℕ) (w : QueuedRequest Request Request) (b : Asker) → AreSeated p names x → IsAway p (x.asks k) → names i ≡ None → ((j : ℕ) → names j ≡ Some k → ⊥)
        → w.number ≡ k → w.request ≡ Single b.request → b.phase ≡ Lined p → IsOfOctets b.request
        → AreSeated p (with_at i (Some k) names) (record x { queue = with_at i (Some w) x.queue; asks = with_at k (Some b) x.asks })
    lines_up x i k w b seated away new alone number request phase octets = record {
      at_id = λ id. at_id id (seated.at_id id);
      by_ticket = seated.by_ticket;
      queued = λ j z e. elim (is_or_was i (Some w) x.queue j z e) [
        | inl s ↦ (k, subst (λ j. with_at i (Some k) names j ≡ Some k) s.0 (with_here i (Some k) names), here z s.1)
        | inr s ↦ (let q = seated.queued j z s.1 in (q.0, with_there i (Some k) names j s.0 ∙ q.1, lined_on k q.0 z (Some b) x.asks (away_or_lined k q.0 z x.asks away q.2) q.2))
      ];
      lined = λ j a e f. elim (is_or_was k (Some b) x.asks j a e) [
        | inl s ↦ (i, w, with_here i (Some k) names ∙ ap Some s.0, with_here i (Some w) x.queue)
        | inr s ↦ (let l = seated.lined j a s.1 f in (l.0, l.1, with_there i (Some k) names l.0 (unseen l.0 j l.2) ∙ l.2, with_there i (Some w) x.queue l.0 (unseen l.0 j l.2) ∙ l.3))
      ];
      holding = λ j a id e f. elim (is_or_was k (Some b) x.asks j a e) [
        | inl s ↦ absurd (let z : b ≡ a = (let y = s.1 in cc) in let u : Lined p ≡ Holding p id = sym phase ∙ (ap (λ (a : Asker). a.phase) z ∙ f) in cc)
        | inr s ↦ (let l = seated.holding j a id s.1 f in (l.0, l.1, with_there i (Some k) names l.0 (unseen l.0 j l.2) ∙ l.2, l.3))
      ];
      apart = λ j l m e f. elim (is_or_was i (Some k) names j m e) [
        | inl s ↦ elim (is_or_was i (Some k) names l m f) [ inl t ↦ sym s.0 ∙ t.0 | inr t ↦ absurd (alone l (t.1 ∙ sym s.1)) ]
        | inr s ↦ elim (is_or_was i (Some k) names l m f) [ inl t ↦ absurd (alone j (s.1 ∙ sym t.1)) | inr t ↦ seated.apart j l m s.1 t.1 ]
      ];
    }
      where
        unseen : (j l : ℕ) → names j ≡ Some l → i ≡ j → ⊥
        unseen j l e s = let f = ap names s in cc

        here : (z : QueuedRequest Request Request) → Some w ≡ Some z → IsLined p k z (with_at k (Some b) x.asks)
        here z e = subst (λ z. IsLined p k z (with_at k (Some b) x.asks)) (let y : w ≡ z = cc in y) (record { number = number; ask = b; is = with_here k (Some b) x.asks; phase = phase; request = request; octets = octets })

        at_id : (id : ℕ) → IdFits p names x id → IdFits p (with_at i (Some k) names) (record x { queue = with_at i (Some w) x.queue; asks = with_at k (Some b) x.asks }) id
        at_id id (IsFree h wr) = IsFree h wr
        at_id id (IsHeld j l u y h wr rq nm is s) = IsHeld j l u y h wr rq (with_there i (Some k) names j (unseen j l nm) ∙ nm) is (sent_on id k l u (Some b) x.asks (away_or_sent id k l u x.asks away s) s)
        at_id id (WasGivenUp y h wr absent) = WasGivenUp y h wr (λ a e f. elim (is_or_was k (Some b) x.asks y.request a e) [
          | inl s ↦ (let z : b ≡ a = (let q = s.1 in cc) in let u : Lined p ≡ Holding p id = sym phase ∙ (ap (λ (a : Asker). a.phase) z ∙ f) in cc)
          | inr s ↦ absent a s.1 f
        ])

    -- A queued request leaves the place

    pub leaves_queue : (x : Seats) (i k : ℕ) (w : QueuedRequest Request Request) (v : Option Asker) → AreSeated p names x → x.queue i ≡ Some w → names i ≡ Some k → IsAway p v
        → AreSeated p names (record x { queue = with_at i None x.queue; asks = with_at k v x.asks })
    leaves_queue x i k w v seated at named to = record {
      at_id = λ id. at_id id (seated.at_id id);
      by_ticket = seated.by_ticket;
      queued = λ j z e. (let s = was_there i x.queue j z e in let q = seated.queued j z s.1 in (q.0, q.1, lined_on k q.0 z v x.asks (λ f. s.0 (seated.apart i j k named (q.1 ∙ ap Some (sym f)))) q.2));
      lined = λ j a e f. elim (is_or_was k v x.asks j a e) [
        | inl s ↦ absurd (to.lined a s.1 f)
        | inr s ↦ (let l = seated.lined j a s.1 f in (l.0, l.1, l.2, with_there i None x.queue l.0 (unnamed i l.0 k j named l.2 s.0) ∙ l.3))
      ];
      holding = λ j a id e f. elim (is_or_was k v x.asks j a e) [ inl s ↦ absurd (to.holding a id s.1 f) | inr s ↦ seated.holding j a id s.1 f ];
      apart = seated.apart;
    }
      where
        was : IsLined p k w x.asks
        was = let q = seated.queued i w at in subst (λ k. IsLined p k w x.asks) (let e : Some q.0 ≡ Some k = sym q.1 ∙ named in cc) q.2

        at_id : (id : ℕ) → IdFits p names x id → IdFits p names (record x { queue = with_at i None x.queue; asks = with_at k v x.asks }) id
        at_id id (IsFree h wr) = IsFree h wr
        at_id id (IsHeld j l u y h wr rq nm is s) = IsHeld j l u y h wr rq nm is (sent_on id k l u v x.asks (lined_or_sent id k l w u x.asks was s) s)
        at_id id (WasGivenUp y h wr absent) = WasGivenUp y h wr (λ a e f. elim (is_or_was k v x.asks y.request a e) [ inl s ↦ to.holding a id s.1 f | inr s ↦ absent a s.1 f ])

    -- It is written under a free id

    pub writes_there : (x : Seats) (i k id : ℕ) (w : QueuedRequest Request Request) (u : Request) (b : Asker) (y : Written) → AreSeated p names x → x.queue i ≡ Some w → names i ≡ Some k → x.held id ≡ None
        → b.phase ≡ Holding p id → y.request ≡ k → ((o : Octets) → is_answered o u ≡ answers b.request id o)
        → AreSeated p names (record {
          held = with_at id (Some (Waits i u)) x.held;
          ids = with_at i (Some id) x.ids;
          queue = with_at i None x.queue;
          asks = with_at k (Some b) x.asks;
          written = with_at id (Some y) x.written;
        })
    writes_there x i k id w u b y seated at named free phase request answered = record {
      at_id = each_number (λ d. IdFits p names after d) id here (λ d ne. at_id d ne (seated.at_id d));
      by_ticket = λ j d e. elim (is_or_was i (Some id) x.ids j d e) [
        | inl s ↦ (u, subst (λ d. with_at id (Some (Waits i u)) x.held d ≡ Some (Waits j u)) (let f = s.1 in let g : id ≡ d = cc in g) (with_here id (Some (Waits i u)) x.held ∙ ap (λ j. Some (Waits j u)) s.0))
        | inr s ↦ (let t = seated.by_ticket j d s.1 in (t.0, with_there id (Some (Waits i u)) x.held d (taken d j t.0 t.1) ∙ t.1))
      ];
      queued = λ j z e. (let s = was_there i x.queue j z e in let q = seated.queued j z s.1 in (q.0, q.1, lined_on k q.0 z (Some b) x.asks (λ f. s.0 (seated.apart i j k named (q.1 ∙ ap Some (sym f)))) q.2));
      lined = λ j a e f. elim (is_or_was k (Some b) x.asks j a e) [
        | inl s ↦ absurd (let z : b ≡ a = (let q = s.1 in cc) in let g : Holding p id ≡ Lined p = sym phase ∙ (ap (λ (a : Asker). a.phase) z ∙ f) in cc)
        | inr s ↦ (let l = seated.lined j a s.1 f in (l.0, l.1, l.2, with_there i None x.queue l.0 (unnamed i l.0 k j named l.2 s.0) ∙ l.3))
      ];
      holding = λ j a d e f. elim (is_or_was k (Some b) x.asks j a e) [
        | inl s ↦ (i, u, named ∙ ap Some s.0, subst (λ d. with_at id (Some (Waits i u)) x.held d ≡ Some (Waits i u)) (same_id a d s.1 f) (with_here id (Some (Waits i u)) x.held))
        | inr s ↦ (let l = seated.holding j a d s.1 f in (l.0, l.1, l.2, with_there id (Some (Waits i u)) x.held d (taken d l.0 l.1 l.3) ∙ l.3))
      ];
      apart = seated.apart;
    }
      where
        after : Seats
        after = record {
          held = with_at id (Some (Waits i u)) x.held;
          ids = with_at i (Some id) x.ids;
          queue = with_at i None x.queue;
          asks = with_at k (Some b) x.asks;
          written = with_at id (Some y) x.written;
        }

        was : IsLined p k w x.asks
        was = let q = seated.queued i w at in subst (λ k. IsLined p k w x.asks) (let e : Some q.0 ≡ Some k = sym q.1 ∙ named in cc) q.2

        taken : (d j : ℕ) (z : Request) → x.held d ≡ Some (Waits j z) → id ≡ d → ⊥
        taken d j z e s = let f = ap x.held s in cc

        same_id : (a : Asker) (d : ℕ) → Some b ≡ Some a → a.phase ≡ Holding p d → id ≡ d
        same_id a d e f = let z : b ≡ a = cc in let g : Holding p id ≡ Holding p d = sym phase ∙ (ap (λ (a : Asker). a.phase) z ∙ f) in cc

        here : IdFits p names after id
        here = IsHeld i k u y (with_here id (Some (Waits i u)) x.held) (with_here id (Some y) x.written) request named (with_here i (Some id) x.ids) (record { ask = b; is = with_here k (Some b) x.asks; phase = phase; answered = answered })

        at_id : (d : ℕ) → (id ≡ d → ⊥) → IdFits p names x d → IdFits p names after d
        at_id d ne (IsFree h wr) = IsFree (with_there id (Some (Waits i u)) x.held d ne ∙ h) (with_there id (Some y) x.written d ne ∙ wr)
        at_id d ne (IsHeld j l z t h wr rq nm is s) =
            let apart = lined_or_sent d k l w z x.asks was s in
            IsHeld j l z t (with_there id (Some (Waits i u)) x.held d ne ∙ h) (with_there id (Some y) x.written d ne ∙ wr) rq nm (with_there i (Some id) x.ids j (unnamed i j k l named nm apart) ∙ is) (sent_on d k l z (Some b) x.asks apart s)
        at_id d ne (WasGivenUp t h wr absent) = WasGivenUp t (with_there id (Some (Waits i u)) x.held d ne ∙ h) (with_there id (Some y) x.written d ne ∙ wr) (λ a e f. elim (is_or_was k (Some b) x.asks t.request a e) [
          | inl s ↦ ne (same_id a d s.1 f)
          | inr s ↦ absent a s.1 f
        ])

    -- A request that was written leaves the place: its id is free, or held by nobody who waits

    pub leaves_id : (x : Seats) (i k id : ℕ) (u : Request) (h : Option (Holder Request Request)) (v : Option Asker) (written : ℕ → Option Written) → AreSeated p names x → x.held id ≡ Some (Waits i u) → names i ≡ Some k → IsAway p v
        → ((d : ℕ) → (id ≡ d → ⊥) → written d ≡ x.written d)
        → ((h ≡ None) × (written id ≡ None)) ⊎ ((h ≡ Some GivenUp) × (written id ≡ x.written id))
        → AreSeated p names (record { held = with_at id h x.held; ids = with_at i None x.ids; queue = x.queue; asks = with_at k v x.asks; written = written })
    leaves_id x i k id u h v written seated at named to others now = record {
      at_id = each_number (λ d. IdFits p names after d) id (here now) (λ d ne. at_id d ne (seated.at_id d));
      by_ticket = λ j d e. (let s = was_there i x.ids j d e in let t = seated.by_ticket j d s.1 in (t.0, with_there id h x.held d (λ f. s.0 (one_ticket j d t.0 f t.1)) ∙ t.1));
      queued = λ j z e. (let q = seated.queued j z e in (q.0, q.1, lined_on k q.0 z v x.asks (λ f. lined_or_sent id q.0 k z u x.asks q.2 is_sent (sym f)) q.2));
      lined = λ j a e f. elim (is_or_was k v x.asks j a e) [ inl s ↦ absurd (to.lined a s.1 f) | inr s ↦ seated.lined j a s.1 f ];
      holding = λ j a d e f. elim (is_or_was k v x.asks j a e) [
        | inl s ↦ absurd (to.holding a d s.1 f)
        | inr s ↦ (let l = seated.holding j a d s.1 f in (l.0, l.1, l.2, with_there id h x.held d (λ g. unnamed i l.0 k j named l.2 s.0 (one_ticket l.0 d l.1 g l.3)) ∙ l.3))
      ];
      apart = seated.apart;
    }
      where
        after : Seats
        after = record { held = with_at id h x.held; ids = with_at i None x.ids; queue = x.queue; asks = with_at k v x.asks; written = written }

        one_ticket : (j d : ℕ) (z : Request) → id ≡ d → x.held d ≡ Some (Waits j z) → i ≡ j
        one_ticket j d z e f =
            let g : Some (Waits i u) ≡ Some (Waits j z) = sym at ∙ (ap x.held e ∙ f) in
            cc

        was_so : IdFits p names x id → WasSent p x i k id u
        was_so (IsFree f wr) = absurd (let e = sym f ∙ at in cc)
        was_so (WasGivenUp y f wr absent) = absurd (let e : Some GivenUp ≡ Some (Waits i u) = sym f ∙ at in cc)
        was_so (IsHeld j l z y f wr rq nm is s) =
            let e : Some (Waits j z) ≡ Some (Waits i u) = sym f ∙ at in
            let same : j ≡ i = cc in
            let request : z ≡ u = cc in
            let number : l ≡ k = (let g : Some l ≡ Some k = sym nm ∙ (ap names same ∙ named) in cc) in
            record {
              sent = subst (λ z. IsSent p id k z x.asks) request (subst (λ l. IsSent p id l z x.asks) number s);
              own = ap x.ids (sym same) ∙ is;
              record_of = y;
              is = wr;
              of = rq ∙ number;
            }

        was : WasSent p x i k id u
        was = was_so (seated.at_id id)

        is_sent : IsSent p id k u x.asks
        is_sent = was.sent

        here : ((h ≡ None) × (written id ≡ None)) ⊎ ((h ≡ Some GivenUp) × (written id ≡ x.written id)) → IdFits p names after id
        here (inl f) = IsFree (with_here id h x.held ∙ f.0) f.1
        here (inr f) = WasGivenUp was.record_of (with_here id h x.held ∙ f.0) (f.1 ∙ was.is)
            (λ a e g. elim (is_or_was k v x.asks was.record_of.request a e) [ inl s ↦ to.holding a id s.1 g | inr s ↦ s.0 (sym was.of) ])

        at_id : (d : ℕ) → (id ≡ d → ⊥) → IdFits p names x d → IdFits p names after d
        at_id d ne (IsFree f wr) = IsFree (with_there id h x.held d ne ∙ f) (others d ne ∙ wr)
        at_id d ne (IsHeld j l z y f wr rq nm is s) =
            let apart : i ≡ j → ⊥ = λ e. ne (let g : Some id ≡ Some d = sym was.own ∙ (ap x.ids e ∙ is) in cc) in
            IsHeld j l z y (with_there id h x.held d ne ∙ f) (others d ne ∙ wr) rq nm (with_there i None x.ids j apart ∙ is) (sent_on d k l z v x.asks (λ e. apart (seated.apart i j k named (nm ∙ ap Some (sym e)))) s)
        at_id d ne (WasGivenUp y f wr absent) = WasGivenUp y (with_there id h x.held d ne ∙ f) (others d ne ∙ wr) (λ a e g. elim (is_or_was k v x.asks y.request a e) [ inl s ↦ to.holding a d s.1 g | inr s ↦ absent a s.1 g ])

    -- An id that nobody waits at is free

    pub frees_late : (x : Seats) (id : ℕ) → AreSeated p names x → x.held id ≡ Some GivenUp → AreSeated p names (record x { held = with_at id None x.held; written = with_at id None x.written })
    frees_late x id seated at = record {
      at_id = each_number (λ d. IdFits p names after d) id (IsFree (with_here id None x.held) (with_here id None x.written)) (λ d ne. at_id d ne (seated.at_id d));
      by_ticket = λ j d e. (let t = seated.by_ticket j d e in (t.0, with_there id None x.held d (waits d j t.0 t.1) ∙ t.1));
      queued = seated.queued;
      lined = seated.lined;
      holding = λ j a d e f. (let l = seated.holding j a d e f in (l.0, l.1, l.2, with_there id None x.held d (waits d l.0 l.1 l.3) ∙ l.3));
      apart = seated.apart;
    }
      where
        after : Seats
        after = record x { held = with_at id None x.held; written = with_at id None x.written }

        waits : (d j : ℕ) (z : Request) → x.held d ≡ Some (Waits j z) → id ≡ d → ⊥
        waits d j z e s = let f : Some GivenUp ≡ Some (Waits j z) = sym at ∙ (ap x.held s ∙ e) in cc

        at_id : (d : ℕ) → (id ≡ d → ⊥) → IdFits p names x d → IdFits p names after d
        at_id d ne (IsFree f wr) = IsFree (with_there id None x.held d ne ∙ f) (with_there id None x.written d ne ∙ wr)
        at_id d ne (IsHeld j l z y f wr rq nm is s) = IsHeld j l z y (with_there id None x.held d ne ∙ f) (with_there id None x.written d ne ∙ wr) rq nm is s
        at_id d ne (WasGivenUp y f wr absent) = WasGivenUp y (with_there id None x.held d ne ∙ f) (with_there id None x.written d ne ∙ wr) absent

    -- A ticket that is nowhere at the place is named no more

    pub forgets_name : (x : Seats) (i : ℕ) → AreSeated p names x → x.queue i ≡ None → x.ids i ≡ None → AreSeated p (with_at i None names) x
    forgets_name x i seated queue ids = record {
      at_id = λ id. at_id id (seated.at_id id);
      by_ticket = seated.by_ticket;
      queued = λ j w e. (let q = seated.queued j w e in (q.0, with_there i None names j (unqueued j w e) ∙ q.1, q.2));
      lined = λ k a e f. (let l = seated.lined k a e f in (l.0, l.1, with_there i None names l.0 (unqueued l.0 l.1 l.3) ∙ l.2, l.3));
      holding = λ k a id e f. (let l = seated.holding k a id e f in (l.0, l.1, with_there i None names l.0 (unheld l.0 id l.1 l.3 (seated.at_id id)) ∙ l.2, l.3));
      apart = λ j l k e f. (let s = was_there i names j k e in let t = was_there i names l k f in seated.apart j l k s.1 t.1);
    }
      where
        unqueued : (j : ℕ) (w : QueuedRequest Request Request) → x.queue j ≡ Some w → i ≡ j → ⊥
        unqueued j w e s = let f = ap x.queue s in cc

        with_id : (j id : ℕ) → x.ids j ≡ Some id → i ≡ j → ⊥
        with_id j id e s = let f = ap x.ids s in cc

        unheld : (j id : ℕ) (w : Request) → x.held id ≡ Some (Waits j w) → IdFits p names x id → i ≡ j → ⊥
        unheld j id w e (IsFree f wr) s = let g = sym f ∙ e in cc
        unheld j id w e (WasGivenUp y f wr absent) s = let g : Some GivenUp ≡ Some (Waits j w) = sym f ∙ e in cc
        unheld j id w e (IsHeld l k z y f wr rq nm is t) s = let g : Some (Waits l z) ≡ Some (Waits j w) = sym f ∙ e in let m : l ≡ j = cc in with_id l id is (s ∙ sym m)

        at_id : (id : ℕ) → IdFits p names x id → IdFits p (with_at i None names) x id
        at_id id (IsFree f wr) = IsFree f wr
        at_id id (IsHeld j l z y f wr rq nm is s) = IsHeld j l z y f wr rq (with_there i None names j (with_id j id is) ∙ nm) is s
        at_id id (WasGivenUp y f wr absent) = WasGivenUp y f wr absent
