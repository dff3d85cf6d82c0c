-- An event by datagram, for one server's part: what it leaves before its result is given.
use Rattle.std.proofs.Common.{◌≡◌, ℕ, ◌+◌, ◌≤◌, ◌<◌, Bool, true, false, not, ◌&&◌, ◌⊎◌, inl, inr, Some, None, List, [], ◌∷◌, refl, arith, ◌∙◌, sym, subst, ap, ◌==◌, length, take}
use Rattle.std.specs.Prelude.{if◌then◌else◌, nat_le, Ok, Err}
use Rattle.std.proofs.lemmas.Bool.Decides.{nat_tests}
use Rattle.client_request.specs.Request.{Request, is_misformed}
use Rattle.client_request.specs.declared.error.Error.{Error}
use Rattle.client_request.specs.declared.event.What.{What}
use Rattle.client_request.specs.declared.event.What.TheVariants.{Opened, OpenFailed, SendFailed, ShortSend, Datagram, RecvFailed, Tick}
use Rattle.client_request.specs.declared.event.Out.{Out}
use Rattle.client_request.specs.declared.event.Out.TheVariants.{Send, Close}
use Rattle.client_request.specs.declared.event.Via.TheVariants.{Dgram}
use Rattle.right_trace.specs.Trace.{History, Conf, Put, put_all}
use Rattle.right_trace.specs.Time.{now, read_timeout, recv_size, max_tries}
use Rattle.right_trace.specs.Messages.{Octets, answers, truncated, is_valid, base_is_read, passes_count, fits, IsComposingFault}
use Rattle.right_trace.specs.Requests.{asking, replied}
use Rattle.right_trace.specs.Places.{is_site, Gone, Alive, stand, is_live}
use Rattle.right_trace.specs.Frames.{came}
use Rattle.right_trace.specs.Exchanges.{Comes}
use Rattle.right_trace.specs.Causes.{WasOpening, FailedAt, ServerCause, NotOpened, NotSent, SentShort, NotReceived, NotRead, NotComposed}
use Rattle.right_trace.specs.Orderly.{OfDgram, ItsFault, ItsAnswer, InvalidBeforeItsSend}
use Rattle.proof_right.specs.machine.Streams.{Act, Multi, IsForeign}
use Rattle.proof_right.specs.machine.Dgrams.{IsIgnored, Meets, stage_of, Stage, Trying, Sent, Ending, Cut, Tryer, Dgrams, leave}
use Rattle.proof_right.specs.machine.Served.{outs_of}
use Rattle.right_trace.specs.Right.{ServerOutsRight}
use Rattle.proof_right.proofs.server.Kept.{Kept}
use Rattle.proof_right.proofs.server.DgramKept.{dgram_site, owing, placed, TryingFits, Old, SentFits, StageFits, KeptD}
use Rattle.proof_right.proofs.server.Views.{at_here}
use Rattle.proof_right.proofs.server.Puts.{kept_put}
use Rattle.proof_right.proofs.server.DgramPuts.{comes_put}
use Rattle.proof_right.proofs.server.DgramTaking.{ignores, sends_d, fails_d}
use Rattle.proof_right.proofs.server.Taking.{turns, foreign_done}
use Rattle.proof_right.proofs.server.Untold.{was_alive}
use Rattle.proof_right.proofs.server.DgramMoves.{place_below, standing, dgram_at}
use Rattle.proof_right.proofs.server.DgramPlaces.{closes_d}
use Rattle.proof_right.proofs.server.Keeping.{close_foreign}
use Rattle.client_request.specs.declared.error.Error.TheVariants as errors
use Rattle.client_request.specs.declared.error.QueryError.TheVariants as query
use Rattle.client_request.specs.declared.fault.Fault.TheVariants as fault
use Rattle.proof_right.specs.machine.Dgrams as dgrams

invalid : (r : Request) (e : Error) → IsComposingFault r e → is_valid r ≡ false
unfolding is_valid
invalid r e f = go (is_misformed r.base) (base_is_read r) (passes_count r) (fits r) (elim f [ inl x ↦ inl x.1 | inr x ↦ inr x.1 ])
  where
    go : (x y z u : Bool) → (y ≡ false) ⊎ (z ≡ true) → (not x && (y && (not z && u))) ≡ false
    go true y z u e = refl
    go false false z u e = refl
    go false true true u e = refl
    go false true false u (inl e) = absurd (cc)
    go false true false u (inr e) = absurd (cc)

cause_of : (c : Conf) (k t : ℕ) (r : Request) (past : History) (w : What) (h : History) (e : Error) → asking k h ≡ Some (record { request = r; moment = t }) → IsComposingFault r e → ServerCause c k past w h e
cause_of c k t r past w h e asked (inl f) = subst (λ e. ServerCause c k past w h e) (sym f.0) (NotRead (record { asking_of = record { request = r; moment = t }; asked = asked; reason = f.1 }))
cause_of c k t r past w h e asked (inr f) = subst (λ e. ServerCause c k past w h e) (sym f.0) (NotComposed (record { asking_of = record { request = r; moment = t }; asked = asked; reason = f.1 }))

was_sent : (c : Conf) → (s p id t k : ℕ) (r : Request) (past : History) (w : What) (h : History) → (w ≡ Tick → ⊥) → SentFits c s p id t k r past w h → (f : SentFits c s p id t k r past w h) → Old c s p id t k r f.octets past
was_sent c s p id t k r past w h ne g f = elim f.lived [ inl e ↦ absurd (ne e.0) | inr o ↦ o ]

failed_at : (c : Conf) → (s : ℕ) (told : ℕ → What) (p id t k : ℕ) (r : Request) (past : History) (h : History) → (told p ≡ Tick → ⊥) → SentFits c s p id t k r past (told p) h → FailedAt c told k past (told p)
failed_at c s told p id t k r past h ne f = (let o = was_sent c s p id t k r past (told p) h ne f f in record { place = p; server = s; is_told = refl; at = dgram_at s p past o.at; alive = o.alive; has_it = o.begun; request = r; asked = o.asked; send = record { id = id; octets = f.octets }; named_there = o.named; carries = f.carries })

-- A datagram that answers comes for its request.
pub answer_comes : (c : Conf) (s : ℕ) (past : History) (p : ℕ) (o : Octets) (h : History) (k id t : ℕ) (r : Request) → s < length c.servers → replied k past ≡ false → SentFits c s p id t k r past (Datagram p o) h → now h < t + read_timeout c → 12 ≤ length (take (recv_size c) o) → Comes c r Dgram s p k id (take (recv_size c) o) past (Datagram p o) h
answer_comes c s past p o h k id t r has un f early long =
    let old = was_sent c s p id t k r past (Datagram p o) h (λ e. cc) f f in
    let alive = old.alive in
    let at = old.at in
    let it : (p == p) ≡ true = grind (arith, nat_tests) in
    let le : nat_le 12 (length (take (recv_size c) o)) ≡ true = le_true 12 (length (take (recv_size c) o)) long in
    let open' = old.unanswered (now h) early in
    record {
      is_open = record { stands = record { asked = old.asked; waiting = un; alive = alive; at = at; known = has }; octets = f.octets; sent = rw open' (inl refl); carries = f.carries };
      first = rw (it, alive, at, le) refl;
    }
  where
    le_true : (a b : ℕ) → a ≤ b → nat_le a b ≡ true
    le_true a b le = grind (arith, nat_tests)

answered : (c : Conf) (s : ℕ) (past : History) (w : What) (h : History) (p k id : ℕ) (r : Request) (m : Octets) (pend : What) → (replied k past ≡ false → Comes c r Dgram s p k id m past w h) → answers r id m ≡ true → (b : Bool) → truncated m ≡ b → StageFits c s k r past w pend h (if b then Cut else Ending (Ok m))
answered c s past w h p k id r m pend comes ok true cut = λ un. record { request = r; place = p; id = id; message = m; comes = comes un; agrees = ok; cut = cut }
answered c s past w h p k id r m pend comes ok false whole = λ un late. record { request = r; via = Dgram; server = s; place = p; id = id; matches = record { comes = comes un; agrees = ok; whole = ap not whole } }

stage_free : (m : Octets) (b : Bool) → placed (if b then Cut else Ending (Ok m)) ≡ None
stage_free m true = refl
stage_free m false = refl

stage_owes : (m : Octets) (b : Bool) → owing (if b then Cut else Ending (Ok m)) ≡ 0
stage_owes m true = refl
stage_owes m false = refl

module _ (c : Conf) (s : ℕ) (past : History) (known : s < length c.servers) where
  -- what the event leaves, and what it puts out
  pub record Met (w : What) (m : Multi) (d' : Dgrams) (h : History) (outs : List Out) : Type 0 where
    pub streams : Kept c s past w Tick (λ q. []) (λ q. came q w past) m (put_all outs h)
    pub dgrams : KeptD c s past w Tick d' (put_all outs h)
    pub right : ((k : ℕ) (a : Tryer) → d'.held k ≡ Some a → replied k past ≡ false) → (end : History) → ServerOutsRight c past w end h outs

  leaves : (w : What) (m : Multi) (d : Dgrams) (h : History) (k : ℕ) (a : Tryer) (p : ℕ) (st : Stage) → Kept c s past w w (λ q. []) (λ q. came q w past) m h → KeptD c s past w w d h → d.held k ≡ Some a → placed a.stage ≡ Some p → placed st ≡ None → a.tries + owing st ≤ max_tries c → StageFits c s k a.request past w w (Put (Close p) ∷ h) st → IsForeign w m → ((d : Dgrams) → d.at p ≡ None → IsIgnored c w d)
      → (((j : ℕ) (a' : Tryer) → (leave p k a st d).held j ≡ Some a' → replied j past ≡ false) → (end : History) → ServerOutsRight c past w end h (Close p ∷ [])) → Met w m (leave p k a st d) h (Close p ∷ [])
  leaves w m d h k a p st kept keptd held at free few fits foreign ignored right =
      let g = standing c s k p a.request past w w h a.stage at (keptd.held k a held).stage in
      let low = place_below c s past w w d h p k keptd (keptd.points k a held p at) in
      record {
        streams = turns c s past w w (λ q. []) (λ q. came q w past) m (Put (Close p) ∷ h) (kept_put c s past w w (λ q. []) (λ q. came q w past) m (Close p) h (close_foreign c s past w w (λ q. []) (λ q. came q w past) m h p kept g.1 low) kept) (foreign_done w m foreign);
        dgrams = ignores c s past w w (leave p k a st d) (Put (Close p) ∷ h) (closes_d c s past w w d h p k a st keptd held at free few fits) kept.row.before (ignored (leave p k a st d) (at_here p None d.at));
        right = right;
      }

  here_held : (k p : ℕ) (a : Tryer) (st : Stage) (d : Dgrams) → (leave p k a st d).held k ≡ Some (dgrams.staged a st)
  here_held k p a st d = at_here k (Some (dgrams.staged a st)) d.held

  pub meets_met : (w : What) (m : Multi) (d : Dgrams) (h : History) → Kept c s past w w (λ q. []) (λ q. came q w past) m h → KeptD c s past w w d h → ((k : ℕ) (a : Tryer) (p id t : ℕ) → d.held k ≡ Some a → a.stage ≡ Sent p id t → now h < t + read_timeout c) → (d' : Dgrams) (x : Act) → Meets c (now h) d w x d' → IsForeign w m → Met w m d' h (outs_of x)
  meets_met _ m d h kept keptd early _ _ (dgrams.IsSent k a p id o at held stage carries) foreign =
      let w = Opened p in
      let f = keptd.held k a held in
      let try : TryingFits c s p past w h = subst (λ st. StageFits c s k a.request past w w h st) stage f.stage in
      let few : a.tries + 1 ≤ max_tries c = subst (λ st. a.tries + owing st ≤ max_tries c) stage f.few in
      let trials = f.trials in
      let it : (p == p) ≡ true = grind (arith, nat_tests) in
      let alive : stand p h ≡ Alive = try.stand ∙ rw it refl in
      record {
        streams = kept_put c s past w Tick (λ q. []) (λ q. came q w past) m (Send p k id o) h (record { conns = λ q x e. refl; opening = λ q e. refl; below = λ q e. absurd (cc); asks = λ j b e. refl; elsewhere = λ q e g. absurd (cc) }) (turns c s past w w (λ q. []) (λ q. came q w past) m h kept (foreign_done w m foreign));
        dgrams = sends_d c s past w d h p k id a o keptd held stage carries;
        right = λ un end. ((omega arith, (λ i at'. (let z : i ≡ s = at_this i (rw try.at at at') in rw z (omega arith))), record { waits = un k _ (at_here k _ d.held); server = s; at = try.at; alive = alive; begun = f.has_it; request = a.request; asked = f.asked; carries = carries; first = try.unsent }), tt);
      }
    where
      at_this : (i : ℕ) → is_site Dgram i (Some (dgram_site s)) ≡ true → i ≡ s
      at_this i e = (let z : (s == i) ≡ true = e in grind (arith, nat_tests))
  meets_met _ m d h kept keptd early _ _ (dgrams.CannotBeSent k a p e at held stage bad) foreign =
      let w = Opened p in
      let f = keptd.held k a held in
      let try : TryingFits c s p past w h = subst (λ st. StageFits c s k a.request past w w h st) stage f.stage in
      let few : a.tries + 0 ≤ max_tries c = (let z = f.few in omega arith) in
      leaves w m d h k a p (Ending (Err e)) kept keptd held (ap placed stage) refl few (λ un late. (cause_of c k f.asked.0 a.request past w (Put (Close p) ∷ h) e f.asked.1 bad, λ y. (p, refl))) foreign (λ d none x. (let z = sym none ∙ x.2 in cc))
      (λ un end. ((omega arith, OfDgram s (dgram_at s p h try.at) (InvalidBeforeItsSend (dgram_site s) try.at try.unsent k _ f.asked.1 (invalid a.request e bad) f.has_it), ap is_live try.untold), tt))
  meets_met _ m d h kept keptd early _ _ (dgrams.DoesNotOpen k a p g at held stage) foreign =
      let w = OpenFailed p g in
      let f = keptd.held k a held in
      let try : TryingFits c s p past w h = subst (λ st. StageFits c s k a.request past w w h st) stage f.stage in
      let it : (p == p) ≡ true = grind (arith, nat_tests) in
      let gone : stand p h ≡ Gone = try.stand ∙ rw it refl in
      let was : WasOpening p past h = elim try.was [ inl e ↦ inl e | inr e ↦ inr (e, gone) ] in
      record {
        streams = turns c s past w w (λ q. []) (λ q. came q w past) m h kept (foreign_done w m foreign);
        dgrams = fails_d c s past w d h p k g a (Ending (Err (errors.Dgram (query.Connect g)))) keptd held stage refl refl (λ un late. (NotOpened g (record { place = p; server = s; told = refl; was = was; at = dgram_at s p h try.at; has_it = f.has_it }), λ e. absurd (cc)));
        right = λ un end. tt;
      }
  meets_met _ m d h kept keptd early _ _ (dgrams.NotSent k a p id t g at held stage) foreign =
      let w = SendFailed p g in
      let sent : SentFits c s p id t k a.request past w h = subst (λ st. StageFits c s k a.request past w w h st) stage (keptd.held k a held).stage in
      let few : a.tries + 0 ≤ max_tries c = (let z = (keptd.held k a held).few in omega arith) in
      leaves w m d h k a p (Ending (Err (errors.Dgram (query.Send g)))) kept keptd held (ap placed stage) refl few (λ un late. (NotSent g (failed_at c s (λ p. SendFailed p g) p id t k a.request past h (λ e. cc) sent), λ e. absurd (cc))) foreign (λ d none x. (let z = sym none ∙ x.4 in cc))
      (λ un end. ((omega arith, OfDgram s (dgram_at s p h sent.at) (ItsFault (grind (arith, nat_tests))), was_alive p h sent.stand), tt))
  meets_met _ m d h kept keptd early _ _ (dgrams.SentShort k a p id t at held stage) foreign =
      let w = ShortSend p in
      let sent : SentFits c s p id t k a.request past w h = subst (λ st. StageFits c s k a.request past w w h st) stage (keptd.held k a held).stage in
      let few : a.tries + 0 ≤ max_tries c = (let z = (keptd.held k a held).few in omega arith) in
      leaves w m d h k a p (Ending (Err (errors.Dgram (query.Send fault.ShortSend)))) kept keptd held (ap placed stage) refl few (λ un late. (SentShort (failed_at c s ShortSend p id t k a.request past h (λ e. cc) sent), λ e. absurd (cc))) foreign (λ d none x. (let z = sym none ∙ x.4 in cc))
      (λ un end. ((omega arith, OfDgram s (dgram_at s p h sent.at) (ItsFault (grind (arith, nat_tests))), was_alive p h sent.stand), tt))
  meets_met _ m d h kept keptd early _ _ (dgrams.NotReceived k a p id t g at held stage) foreign =
      let w = RecvFailed p g in
      let sent : SentFits c s p id t k a.request past w h = subst (λ st. StageFits c s k a.request past w w h st) stage (keptd.held k a held).stage in
      let few : a.tries + 0 ≤ max_tries c = (let z = (keptd.held k a held).few in omega arith) in
      leaves w m d h k a p (Ending (Err (errors.Dgram (query.Receive g)))) kept keptd held (ap placed stage) refl few (λ un late. (NotReceived g (failed_at c s (λ p. RecvFailed p g) p id t k a.request past h (λ e. cc) sent), λ e. absurd (cc))) foreign (λ d none x. (let z = sym none ∙ x.4 in cc))
      (λ un end. ((omega arith, OfDgram s (dgram_at s p h sent.at) (ItsFault (grind (arith, nat_tests))), was_alive p h sent.stand), tt))
  meets_met _ m d h kept keptd early _ _ (dgrams.IsAnswered k a p id t o at held stage long ok) foreign =
      let w = Datagram p o in
      let sent : SentFits c s p id t k a.request past w h = subst (λ st. StageFits c s k a.request past w w h st) stage (keptd.held k a held).stage in
      let g = take (recv_size c) o in
      let few : a.tries + owing (stage_of g) ≤ max_tries c = (let z = (keptd.held k a held).few in let y = stage_owes g (truncated g) in omega arith) in
      leaves w m d h k a p (stage_of g) kept keptd held (ap placed stage) (stage_free g (truncated g)) few
      (answered c s past w (Put (Close p) ∷ h) p k id a.request g w (λ un. comes_put c a.request Dgram s p k id g past w (Close p) h refl (answer_comes c s past p o h k id t a.request known un sent (early k a p id t held stage) long)) ok (truncated g) refl) foreign
      (λ d none j b id t at. absurd (let z = sym none ∙ at in cc))
      (λ un end. ((omega arith, OfDgram s (dgram_at s p h sent.at) (ItsAnswer _ sent.sent (record { request = a.request; server = s; id = id; message = g; comes = answer_comes c s past p o h k id t a.request known (un k (dgrams.staged a (stage_of g)) (here_held k p a (stage_of g) d)) sent (early k a p id t held stage) long; agrees = ok })), was_alive p h sent.stand), tt))
