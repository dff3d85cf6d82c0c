-- A message that comes by stream for a request that is held is still to be taken, or its place was closed by its read timer: a fact beside `Fits`.
use Rattle.std.proofs.Common.{◌≡◌, ◌≢◌, ℕ, Bool, true, false, ◌||◌, ◌⊎◌, inl, inr, Option, Some, None, List, [], ◌∷◌, is_some, refl, ◌∙◌, sym, subst, ap}
use Rattle.client_request.specs.Request.{Request}
use Rattle.client_request.specs.declared.event.What.{What}
use Rattle.client_request.specs.declared.event.Event.{Event}
use Rattle.client_request.specs.declared.event.Out.{Out}
use Rattle.client_request.specs.declared.event.Out.TheVariants.{Start, Close}
use Rattle.client_request.specs.declared.event.Via.TheVariants.{Dgram, Stream}
use Rattle.right_trace.specs.Trace.{History, Conf, Came, Put, put_all}
use Rattle.right_trace.specs.Time.{now, newest}
use Rattle.right_trace.specs.Messages.{Octets}
use Rattle.right_trace.specs.Requests.{start, started, asking, handed}
use Rattle.right_trace.specs.Places.{site, closed_here, is_close, reach}
use Rattle.right_trace.specs.Frames.{first_with}
use Rattle.right_trace.specs.Writes.{waiting_with}
use Rattle.right_trace.specs.Timers.{ReadTimerIsDue}
use Rattle.right_trace.specs.Exchanges.{octets_for, is_before, Comes}
use Rattle.right_trace.specs.Causes.{Heard}
use Rattle.proof_right.specs.machine.Streams.{Asker, IsForeign}
use Rattle.proof_right.specs.machine.Dgrams.{Tryer}
use Rattle.proof_right.specs.machine.Served.{Served, holds, row_begun, Acts, RestsNow}
use Rattle.right_trace.specs.Coming.{IsExcused}
use Rattle.proof_right.specs.machine.Part.{Act as Step}
use Rattle.proof_right.proofs.server.Kept.{stream_site}
use Rattle.proof_right.proofs.server.Coming.{site_past, kind_all}
use Rattle.proof_right.proofs.server.Ending.{at_is}
use Rattle.proof_right.proofs.server.Views.{each_other, at_there}
use Rattle.proof_right.proofs.server.Handing.{before_of}
use Rattle.proof_right.proofs.server.Late.{IsQuiet, comes_out}
use Rattle.proof_right.proofs.server.Going.{Fate, Given, TimedOut, Remains, Excused}
use Rattle.proof_right.proofs.server.Moved.{now_all}
use Rattle.proof_right.proofs.server.Untaken.{Source, InOctets, AmongFrames, IsUntaken, source_same}
use Rattle.proof_right.proofs.server.Fitting.{Fits}
use Rattle.proof_right.specs.machine.Server as server
use Rattle.proof_right.specs.machine.Served as served
use Rattle.proof_right.proofs.server.Handing as handing
use Rattle.proof_right.proofs.server.Late as late
use Rattle.proof_right.proofs.server.Giving as giving
use Rattle.proof_right.proofs.server.Going as going
use Rattle.proof_right.proofs.server.Begun as rows_begin

abbrev pub HeardFits : (c : Conf) (s : ℕ) (past : History) (w : What) (u : Served) (h : History) → Type 0
HeardFits c s past w u h = (k : ℕ) (a : Asker) → u.server.by_stream.asks k ≡ Some a → (r : Request) (p id : ℕ) (m : Octets) → Comes c r Stream s p k id m past w h → IsUntaken u p k id m a ⊎ IsExcused c p past w h

-- in the row that is done no message came that a request by stream did not get
pub heard_none : (c : Conf) (s : ℕ) (past : History) (w : What) (u : Served) (h : History) → Fits c s past w u h → HeardFits c s past w u h → RestsNow c u → (k : ℕ) (a : Asker) → u.server.by_stream.asks k ≡ Some a → Heard c k s h → ⊥
unfolding IsExcused
heard_none c s past w u h f g r k a ask x = elim (g k a ask x.request x.place x.id x.message (subst (λ w. Comes c x.request Stream s x.place k x.id x.message past w h) f.streams.row.event (subst (λ past. Comes c x.request Stream s x.place k x.id x.message past (newest h) h) f.streams.row.before x.comes))) [
  | inl y ↦ rested y.conn y.is_conn y.source
  | inr y ↦ x.taken y.0 (subst (λ past. ReadTimerIsDue c x.place (now h) past) (sym f.streams.row.before) y.1)
]
  where
    rested : (conn : _) → u.server.by_stream.conns x.place ≡ Some conn → Source u x.place x.id x.message conn.got → ⊥
    rested conn is (InOctets o pend un first) = (let none = subst (λ w. IsForeign w u.server.by_stream) pend r.foreign in let z = sym none ∙ is in cc)
    rested conn is (AmongFrames place tk first) = (let z : first_with x.id [] ≡ Some x.message = subst (λ fs. first_with x.id fs ≡ Some x.message) r.frames first in cc)

-- a row begins
pub begins_heard : (c : Conf) (s : ℕ) (old past : History) (w : What) (e : Event) (u : Served) → Fits c s old w u past → RestsNow c u → HeardFits c s past e.what (row_begun e u) (Came e ∷ past)
begins_heard c s old past w e u f r k a ask q p id m x = inl (rows_begin.asks_untaken c s old past w e u f r p k id q m x a ask)

-- a place that was closed stays so
closed_all : (p : ℕ) (outs : List Out) (h : History) → closed_here p h ≡ true → closed_here p (put_all outs h) ≡ true
closed_all p [] h e = e
closed_all p (o ∷ outs) h e = closed_all p outs (Put o ∷ h) (or_last (is_close p o) (closed_here p h) e)
  where
    or_last : (x y : Bool) → y ≡ true → (x || y) ≡ true
    or_last true y e = refl
    or_last false y e = e

pub excused_all : (c : Conf) → (p : ℕ) (past : History) (w : What) (outs : List Out) (h : History) → IsExcused c p past w h → IsExcused c p past w (put_all outs h)
unfolding IsExcused
excused_all c p past w outs h x = (closed_all p outs h x.0, subst (λ n. ReadTimerIsDue c p n past) (sym (now_all outs h)) x.1, kind_all p outs h x.2)

-- another server: nothing new comes there
pub others_heard : (c : Conf) (t : ℕ) (past : History) (w : What) (v : Served) (h : History) (outs : List Out) → ((r : Request) (p k id : ℕ) (m : Octets) → Comes c r Stream t p k id m past w (put_all outs h) → Comes c r Stream t p k id m past w h) → HeardFits c t past w v h → HeardFits c t past w v (put_all outs h)
others_heard c t past w v h outs back g k a ask r p id m x = elim (g k a ask r p id m (back r p k id m x)) [ inl y ↦ inl y | inr y ↦ inr (excused_all c p past w outs h y) ]

module _ (c : Conf) (s next : ℕ) (past : History) (w : What) (u : Served) (h : History) (f : Fits c s past w u h) (g : HeardFits c s past w u h) where
  -- what comes for a request was begun by stream
  comes_begun : (r : Request) (p k id : ℕ) (m : Octets) → Comes c r Stream s p k id m past w h → started k s Stream h ≡ true
  comes_begun r p k id m x =
      let at : site p h ≡ Some (stream_site s) = site_past p (stream_site s) h (ap (site p) f.streams.row.before ∙ x.is_open.stands.at) in
      f.begun p k id x.is_open.octets (at_is s p h at) (before_of (is_before c (now h) (start k s Stream h)) x.is_open.octets (octets_for k (waiting_with [] p id h)) x.is_open.sent).1

  -- so it is held by stream, if it is held
  held_so : (r : Request) (p k id : ℕ) (m : Octets) → Comes c r Stream s p k id m past w h → holds u k ≡ true → (a : Asker) × (u.server.by_stream.asks k ≡ Some a)
  held_so r p k id m x held = go (u.server.by_dgram.held k) refl (u.server.by_stream.asks k) refl held
    where
      go : (y : Option Tryer) → u.server.by_dgram.held k ≡ y → (z : Option Asker) → u.server.by_stream.asks k ≡ z → (is_some y || is_some z) ≡ true → (a : Asker) × (u.server.by_stream.asks k ≡ Some a)
      go (Some b) i z j e = absurd (let n = (f.dgrams.held k b i).unstreamed in let y = comes_begun r p k id m x in let z : true ≡ false = sym y ∙ n in cc)
      go None i (Some a) j e = (a, j)
      go None i None j e = absurd (cc)

  same_asker : (v : Served) (p k id : ℕ) (m : Octets) (a b : Asker) → v.server.by_stream.asks k ≡ Some a → IsUntaken v p k id m b → IsUntaken v p k id m a
  same_asker v p k id m a b ask x = subst (λ a. IsUntaken v p k id m a) (let z : Some b ≡ Some a = sym x.ask ∙ ask in let y : b ≡ a = cc in y) x

  pub acts_heard : next ≡ reach h → (d : Step Served) → Acts c s next u d → HeardFits c s past w d.state (put_all d.outs h)
  acts_heard is d act k a ask r p id m x = elim (late.acts_come c s next past w u h f d act s r Stream p k id m x) [
    | inr new ↦ inl (same_asker d.state p k id m a (new.2.0) ask new.2.1)
    | inl old ↦
        (let hands = giving.acts_held c s next past w u h f d act in
        let held = held_so r p k id m old (hands.no_more k (or_last (is_some (d.state.server.by_dgram.held k)) (is_some (d.state.server.by_stream.asks k)) (ap is_some ask))) in
        elim (g k (held.0) held.1 r p id m old) [
          | inr y ↦ inr (excused_all c p past w d.outs h y)
          | inl y ↦ fate (held.0) (going.stream_goes c s next past w u h f is p k id m (held.0) y d act)
        ])
  ]
    where
      or_last : (x y : Bool) → y ≡ true → (x || y) ≡ true
      or_last true y e = refl
      or_last false y e = e

      fate : (b : Asker) → Fate c s next past w u h f is p k id m b d → IsUntaken d.state p k id m a ⊎ IsExcused c p past w (put_all d.outs h)
      fate b (Given i) = absurd (let gone = (giving.acts_held c s next past w u h f d act).let_go _ i in let here = or_last (is_some (d.state.server.by_dgram.held k)) (is_some (d.state.server.by_stream.asks k)) (ap is_some ask) in let z : true ≡ false = sym here ∙ gone in cc)
      fate b (TimedOut late' none) = absurd (let z = sym none ∙ ask in cc)
      fate b (Remains b' y request since) = inl (same_asker d.state p k id m a b' ask y)
      fate b (Excused y) = inr y

  -- the request stays where it is
  stays : (v : Served) (p k id : ℕ) (m : Octets) (a : Asker) → v.server.by_stream.asks k ≡ Some a → v.server.by_stream.conns ≡ u.server.by_stream.conns → v.pending ≡ u.pending → v.taken ≡ u.taken → v.place ≡ u.place → v.frames ≡ u.frames → IsUntaken u p k id m a → IsUntaken v p k id m a
  stays v p k id m a ask conns pending taken place frames x = record { ask = ask; phase = x.phase; conn = x.conn; is_conn = ap (λ f. f p) conns ∙ x.is_conn; source = source_same u v p id m x.conn.got x.conn.got pending taken place frames refl x.source }

  pub starts_heard : (k t : ℕ) (r : Request) (asked : asking k h ≡ Some (record { request = r; moment = t })) (un : handed k s h ≡ false) (d : Step Served) → served.Starts c s next k r u d → HeardFits c s past w d.state (put_all d.outs h)
  starts_heard k t r asked un _ (served.IsHanded how x v used (server.ToDgrams is free)) j a ask q p id m y = elim (g j a ask q p id m (handing.comes_start c s next k t r past w u h f asked un Dgram s q Stream p j id m y)) [ inl z ↦ inl (stays _ p j id m a ask refl refl refl refl refl z) | inr z ↦ inr (excused_all c p past w (Start k s Dgram ∷ []) h z) ]
  starts_heard k t r asked un _ (served.IsHanded how x v used (server.ToStreams is free)) j a ask q p id m y =
      let z = handing.comes_start c s next k t r past w u h f asked un Stream s q Stream p j id m y in
      let ne : k ≢ j = λ e. (let b = comes_begun q p j id m z in let n : started k s Stream h ≡ false = or_false (started k s Dgram h) (started k s Stream h) un in let v : started j s Stream h ≡ false = subst (λ k. started k s Stream h ≡ false) e n in let u : true ≡ false = sym b ∙ v in cc) in
      elim (g j a (sym (at_there k j _ u.server.by_stream.asks ne) ∙ ask) q p id m z) [ inl z ↦ inl (stays _ p j id m a ask refl refl refl refl refl z) | inr z ↦ inr (excused_all c p past w (Start k s Stream ∷ []) h z) ]
    where
      or_false : (x y : Bool) → (x || y) ≡ false → y ≡ false
      or_false false y e = e
      or_false true y e = absurd (cc)

  pub cancels_heard : (k : ℕ) (d : Step Served) → served.Cancels s next k u d → HeardFits c s past w d.state (put_all d.outs h)
  cancels_heard k _ (served.IsGivenUp x v (server.Waits b held stage)) j a ask q p id m y = elim (g j a ask q p id m y) [ inl z ↦ inl (stays _ p j id m a ask refl refl refl refl refl z) | inr z ↦ inr z ]
  cancels_heard k _ (served.IsGivenUp x v (server.HasPlace b l held stage)) j a ask q p id m y = elim (g j a ask q p id m (comes_out c q Stream s p j id m past w (Close l) h tt y)) [ inl z ↦ inl (stays _ p j id m a ask refl refl refl refl refl z) | inr z ↦ inr (excused_all c p past w (Close l ∷ []) h z) ]
  cancels_heard k _ (served.IsGivenUp x v (server.AtStreams none)) j a ask q p id m y = elim (g j a (each_other (λ j a. u.server.by_stream.asks j ≡ Some a) k u.server.by_stream.asks (λ j a ne e. e) j a ask) q p id m y) [ inl z ↦ inl (stays _ p j id m a ask refl refl refl refl refl z) | inr z ↦ inr z ]
