-- Each move of one server's part keeps all that is known.
use Rattle.right_trace.specs.Time.{max_tries}
use Rattle.std.proofs.Common.{◌≡◌, ◌≢◌, ℕ, ◌+◌, ◌≤◌, ◌<◌, true, false, ◌⊎◌, inl, inr, Option, Some, None, List, [], ◌∷◌, refl, arith, ◌∙◌, sym, subst, ap, ◌==◌}
use Rattle.std.specs.Prelude.{Err}
use Rattle.std.proofs.lemmas.Bool.{eqb-true}
use Rattle.std.proofs.lemmas.Bool.Decides.{nat_tests}
use Rattle.client_request.specs.declared.event.What.{What}
use Rattle.client_request.specs.declared.event.Out.{Out}
use Rattle.client_request.specs.declared.event.Out.TheVariants.{OpenStream, Close}
use Rattle.client_request.specs.declared.event.Via.TheVariants.{Dgram, Stream}
use Rattle.right_trace.specs.Trace.{History, Conf, ByDatagrams, Put}
use Rattle.right_trace.specs.Messages.{Octets}
use Rattle.right_trace.specs.Requests.{start}
use Rattle.right_trace.specs.Places.{Site, site, is_site, is_of_kind, reach}
use Rattle.right_trace.specs.Orderly.{use_at}
use Rattle.proof_right.specs.machine.Streams.{Act, Asker, Conn, Multi}
use Rattle.right_trace.specs.Updates.{with_at}
use Rattle.proof_right.specs.machine.Dgrams.{Stage, Queued, Trying, Sent, Ending, Cut, Tryer, Dgrams, leave, forget}
use Rattle.proof_right.specs.machine.Server.{Server}
use Rattle.proof_right.specs.machine.Served.{Served, IsSettled, has_moved, does, Cancels, IsGivenUp}
use Rattle.proof_right.specs.machine.Part.{Act as Step}
use Rattle.proof_right.proofs.PartLaws.{Keeps, none_more}
use Rattle.proof_right.proofs.server.Kept.{stream_site, Kept}
use Rattle.proof_right.proofs.server.DgramKept.{dgram_site, placed, KeptD}
use Rattle.proof_right.proofs.server.Views.{each_other, at_here, at_there}
use Rattle.proof_right.proofs.server.Puts.{IsForeignOut, kept_put}
use Rattle.proof_right.proofs.server.DgramPuts.{reaches, concerns, apart_by}
use Rattle.proof_right.proofs.server.DgramMoves.{place_below, standing, IsOther, forgets}
use Rattle.proof_right.proofs.server.DgramPlaces.{closes_d}
use Rattle.proof_right.proofs.server.Fitting.{Fits}
use Rattle.proof_right.proofs.server.Moved.{Moved, fits_after, others_all}
use Rattle.client_request.specs.declared.error.Error.TheVariants as errors
use Rattle.proof_right.specs.machine.Dgrams as dgrams
use Rattle.proof_right.specs.machine.Server as server
use Rattle.proof_right.proofs.server.Silent as silent

-- Outs of the other kind

pub two_kinds : (s : ℕ) (x : Option Site) → x ≡ Some (stream_site s) → x ≡ Some (dgram_site s) → ⊥
two_kinds s x a b = (let z : is_of_kind Stream (Some (stream_site s)) ≡ is_of_kind Stream (Some (dgram_site s)) = ap (is_of_kind Stream) (sym a ∙ b) in let y : true ≡ false = z in cc)

pub close_foreign : (c : Conf) → (s : ℕ) (past : History) (w pend : What) (fr more : ℕ → List Octets) (m : Multi) (h : History) (p : ℕ) → Kept c s past w pend fr more m h → site p h ≡ Some (dgram_site s) → p < reach h → IsForeignOut s m (Close p) h
close_foreign c s past w pend fr more m h p kept at low = record {
  conns = λ q x e. apart q (λ is. two_kinds s (site q h) (kept.conns q x e).at (ap (λ q. site q h) (sym is) ∙ at));
  opening = λ q e. apart q (λ is. two_kinds s (site q h) (kept.opening q e).at (ap (λ q. site q h) (sym is) ∙ at));
  below = λ q e. (let is : p ≡ q = eqb-true p q e in omega arith);
  asks = λ k a e. refl;
  elsewhere = λ q e g. absurd (let is : p ≡ q = eqb-true p q e in let b : site q h ≡ Some (dgram_site s) = ap (λ q. site q h) (sym is) ∙ at in let z : is_site Stream s (Some (dgram_site s)) ≡ true = subst (λ x. is_site Stream s x ≡ true) b g in cc);
}
  where
    apart : (q : ℕ) → p ≢ q → (p == q) ≡ false
    apart q ne = grind (arith, nat_tests)

pub at_site : (c : Conf) (s : ℕ) (past : History) (w pend : What) (d : Dgrams) (h : History) (q k : ℕ) → KeptD c s past w pend d h → d.at q ≡ Some k → site q h ≡ Some (dgram_site s)
at_site c s past w pend d h q k kept at = (let o = kept.slots q k at in (standing c s k q o.owner.request past w pend h o.owner.stage o.its (kept.held k o.owner o.is_held).stage).1)

pub close_other : (c : Conf) (s : ℕ) (past : History) (w pend : What) (d : Dgrams) (h : History) (p : ℕ) → KeptD c s past w pend d h → site p h ≡ Some (stream_site s) → p < reach h → IsOther s d (Close p) h
close_other c s past w pend d h p kept at low = record {
  held = λ k a e. apart_by s k a (Close p) h refl;
  places = λ q k e. apart q (λ is. two_kinds s (site q h) (ap (λ q. site q h) (sym is) ∙ at) (at_site c s past w pend d h q k kept e));
  below = λ q e. (let is : p ≡ q = eqb-true p q e in omega arith);
  elsewhere = λ q e. (let is : p ≡ q = eqb-true p q e in let b : site q h ≡ Some (stream_site s) = ap (λ q. site q h) (sym is) ∙ at in (rw b refl, rw b refl));
  next = inl refl;
}
  where
    apart : (q : ℕ) → p ≢ q → (p == q) ≡ false
    apart q ne = grind (arith, nat_tests)

pub quiet_other : (s : ℕ) (d : Dgrams) (o : Out) (h : History) → ((k : ℕ) (a : Tryer) → d.held k ≡ Some a → concerns k o ≡ false) → ((q : ℕ) → reaches q o ≡ false) → reach (Put o ∷ h) ≡ reach h → IsOther s d o h
quiet_other s d o h held none next = record { held = λ k a e. apart_by s k a o h (held k a e); places = λ q k e. none q; below = λ q e. absurd (let z = none q in cc); elsewhere = λ q e. absurd (let z = none q in cc); next = inl next }

pub open_other : (c : Conf) (s : ℕ) (past : History) (w pend : What) (d : Dgrams) (h : History) → KeptD c s past w pend d h → IsOther s d (OpenStream (reach h) s) h
open_other c s past w pend d h kept = record {
  held = λ k a e. apart_by s k a (OpenStream (reach h) s) h refl;
  places = λ q k e. (let low = place_below c s past w pend d h q k kept e in grind (arith, nat_tests));
  below = λ q e. (let is : reach h ≡ q = eqb-true (reach h) q e in grind arith);
  elsewhere = λ q e. (let is : reach h ≡ q = eqb-true (reach h) q e in let n = (kept.new q (omega arith)).nowhere in (rw (e, n) refl, rw n refl));
  next = inr (grind arith);
}

pub same_conns : (m : ℕ → Option Conn) (q : ℕ) (x : Conn) → m q ≡ Some x → (y : Conn) × (m q ≡ Some y) × (x.heard ≡ y.heard)
same_conns m q x e = (x, e, refl)

module _ (c : Conf) (s : ℕ) (past : History) (w : What) (u : Served) (h : History) (f : Fits c s past w u h) where
  pub settled_less : (k : ℕ) → IsSettled (forget k u.server.by_dgram)
  settled_less k = each_other (λ j (a : Tryer). (x : _) → a.stage ≢ Ending x) k u.server.by_dgram.held (λ j a ne e. f.settled j a e)

  pub by_dgram_less : (k j : ℕ) (a : Tryer) → with_at k None u.server.by_dgram.held j ≡ Some a → use_at s c.servers ≡ Some ByDatagrams
  by_dgram_less k j a e = each_other (λ j (a : Tryer). use_at s c.servers ≡ Some ByDatagrams) k u.server.by_dgram.held (λ j a ne e. f.by_dgram j a e) j a e

  place_of : (a : Tryer) (p : ℕ) → (a.stage ≡ Trying p) ⊎ ((id : ℕ) × (t : ℕ) × (a.stage ≡ Sent p id t)) → placed a.stage ≡ Some p
  place_of a p st = elim st [ inl e ↦ ap placed e | inr e ↦ ap placed e.2 ]

  gives_up : (k : ℕ) (x : Act) (v : Server) → server.IsGivenUp s u.clock k u.server x v → Moved c s past w u h f v (does (has_moved v u) 0 x).outs
  gives_up k _ _ (server.Waits a held stage) = record {
    streams = f.streams;
    dgrams = forgets c s past w u.pending u.server.by_dgram h k a f.dgrams held (ap placed stage);
    conns = same_conns u.server.by_stream.conns;
    asks = λ j b e. inl (b, e);
    held = by_dgram_less k;
    settled = settled_less k;
    one_id = f.one_id;
    begun = f.begun;
    unsent = f.unsent;
  }
  gives_up k _ _ (server.HasPlace a p held stage) =
      let at = place_of a p stage in
      let g = f.dgrams.held k a held in
      let st = standing c s k p a.request past w u.pending h a.stage at g.stage in
      let low = place_below c s past w u.pending u.server.by_dgram h p k f.dgrams (f.dgrams.points k a held p at) in
      let few : a.tries + 0 ≤ max_tries c = (let z = g.few in omega arith) in
      let twice : (j : ℕ) (b : Tryer) → with_at k None (with_at k (Some (dgrams.staged a (Ending (Err errors.TimedOut)))) u.server.by_dgram.held) j ≡ Some b → with_at k None u.server.by_dgram.held j ≡ Some b = λ j b e. each_other (λ j (b : Tryer). with_at k None u.server.by_dgram.held j ≡ Some b) k (with_at k (Some (dgrams.staged a (Ending (Err errors.TimedOut)))) u.server.by_dgram.held) (λ j b ne e. at_there k j None u.server.by_dgram.held ne ∙ (sym (at_there k j _ u.server.by_dgram.held ne) ∙ e)) j b e in
      record {
        streams = kept_put c s past w u.pending f.fr f.more u.server.by_stream (Close p) h (close_foreign c s past w u.pending f.fr f.more u.server.by_stream h p f.streams st.1 low) f.streams;
        dgrams = forgets c s past w u.pending (leave p k a (Ending (Err errors.TimedOut)) u.server.by_dgram) (Put (Close p) ∷ h) k (dgrams.staged a (Ending (Err errors.TimedOut))) (closes_d c s past w u.pending u.server.by_dgram h p k a (Ending (Err errors.TimedOut)) f.dgrams held at refl few (λ un late. absurd (late refl))) (at_here k _ u.server.by_dgram.held) refl;
        conns = same_conns u.server.by_stream.conns;
        asks = λ j b e. inl (b, e);
        held = λ j b e. by_dgram_less k j b (twice j b e);
        settled = λ j b e. settled_less k j b (twice j b e);
        one_id = f.one_id;
        begun = f.begun;
        unsent = f.unsent;
      }
  gives_up k _ _ (server.AtStreams none) = record {
    streams = silent.drops c s past w u.pending f.fr f.more u.server.by_stream h k f.streams;
    dgrams = f.dgrams;
    conns = same_conns u.server.by_stream.conns;
    asks = each_other (λ j b. ((b : Asker) × (u.server.by_stream.asks j ≡ Some b)) ⊎ (start j s Stream h ≡ None)) k u.server.by_stream.asks (λ j b ne e. inl (b, e));
    held = f.by_dgram;
    settled = f.settled;
    one_id = f.one_id;
    begun = f.begun;
    unsent = f.unsent;
  }

  pub cancels_keeps : (next k : ℕ) (d : Step Served) → next ≡ reach h → Cancels s next k u d → Keeps Served (Fits c) none_more s past w h d
  cancels_keeps next k _ is (IsGivenUp x v (server.Waits a held stage)) = record { fits = fits_after c s past w u h f v [] (gives_up k x v (server.Waits a held stage)); others = λ t y ne g. g; silent = λ j. refl; handed_on = λ j t. refl; reaches = is }
  cancels_keeps next k _ is (IsGivenUp x v (server.HasPlace a p held stage)) = record {
    fits = fits_after c s past w u h f v (Close p ∷ []) (gives_up k x v (server.HasPlace a p held stage));
    others = λ t y ne g. others_all c s t past w y (Close p ∷ []) h (λ e. ne (sym e)) ((Dgram, (standing c s k p a.request past w u.pending h a.stage (place_of a p stage) (f.dgrams.held k a held).stage).1), tt) g;
    silent = λ j. refl;
    handed_on = λ j t. refl;
    reaches = is;
  }
  cancels_keeps next k _ is (IsGivenUp x v (server.AtStreams none)) = record { fits = fits_after c s past w u h f v [] (gives_up k x v (server.AtStreams none)); others = λ t y ne g. g; silent = λ j. refl; handed_on = λ j t. refl; reaches = is }
