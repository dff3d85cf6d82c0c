-- The timers by datagram of one server's part keep all that is known.
use Rattle.proof_right.proofs.Received.{reads_on}
use Rattle.std.proofs.Common.{◌≡◌, ◌≢◌, ℕ, ◌+◌, ◌≤◌, ◌<◌, Bool, true, false, inl, inr, Option, Some, None, List, [], ◌∷◌, refl, arith, ◌∙◌, sym, subst, subst₂, ap, ◌==◌, length}
use Rattle.std.specs.Prelude.{if◌then◌else◌, Result, Err}
use Rattle.std.proofs.lemmas.Bool.{cases_eq, eqb-true}
use Rattle.std.proofs.lemmas.Bool.Decides.{nat_tests}
use Rattle.client_request.specs.declared.error.Error.{Error}
use Rattle.client_request.specs.declared.event.What.{What}
use Rattle.client_request.specs.declared.event.Out.{Out}
use Rattle.client_request.specs.declared.event.Out.TheVariants.{OpenDgram, Close}
use Rattle.client_request.specs.declared.event.Via.TheVariants.{Dgram, Stream}
use Rattle.right_trace.specs.Trace.{History, Conf, ByDatagrams, Put, put_all}
use Rattle.right_trace.specs.Time.{now, read_timeout, max_tries}
use Rattle.client_request.specs.Request.{Request}
use Rattle.right_trace.specs.Messages.{Octets}
use Rattle.right_trace.specs.Requests.{replied, handed}
use Rattle.right_trace.specs.Places.{Site, site, is_site, is_at, is_live, stand, opens_as, reach}
use Rattle.right_trace.specs.Causes.{NoAnswer}
use Rattle.right_trace.specs.Orderly.{use_at, OfDgram, ItsTimeout}
use Rattle.proof_right.specs.machine.Streams.{Act, Multi}
use Rattle.right_trace.specs.Updates.{with_at}
use Rattle.proof_right.specs.machine.Dgrams.{Stage, Queued, Trying, Sent, Ending, Cut, Tryer, Dgrams, Tries, leave, forget}
use Rattle.proof_right.specs.machine.Served.{Served, has_moved, outs_of, place_after, Settles, AsItIs, WithResult}
use Rattle.right_trace.specs.Right.{ServerOutsRight}
use Rattle.proof_right.specs.machine.Part.{Act as Step}
use Rattle.proof_right.proofs.PartLaws.{Keeps, none_more}
use Rattle.proof_right.proofs.server.Kept.{Kept}
use Rattle.proof_right.proofs.server.DgramKept.{dgram_site, owing, placed, SentFits, StageFits, KeptD}
use Rattle.proof_right.proofs.server.Views.{each_at, each_other, at_there}
use Rattle.proof_right.proofs.server.Puts.{IsForeignOut, kept_put}
use Rattle.proof_right.proofs.server.DgramMoves.{place_below, standing, dgram_at, forgets}
use Rattle.proof_right.proofs.server.DgramPlaces.{opens_d, closes_d}
use Rattle.proof_right.proofs.server.Ending.{conn_below}
use Rattle.proof_right.proofs.server.Untold.{was_alive}
use Rattle.proof_right.proofs.server.Fitting.{OneId, BegunBy, UnsentBy, Fits}
use Rattle.proof_right.proofs.server.Moved.{fits_after, AreOf, others_all}
use Rattle.proof_right.proofs.server.Keeping.{close_foreign, same_conns}
use Rattle.client_request.specs.declared.error.Error.TheVariants as errors
use Rattle.client_request.specs.declared.error.QueryError.TheVariants as query
use Rattle.proof_right.specs.machine.Dgrams as dgrams

open_foreign : (c : Conf) → (s : ℕ) (past : History) (w pend : What) (fr more : ℕ → List Octets) (m : Multi) (h : History) → Kept c s past w pend fr more m h → IsForeignOut s m (OpenDgram (reach h) s) h
open_foreign c s past w pend fr more m h kept = record {
  conns = λ q x e. (let low = conn_below c s past w pend fr more m h q x kept e in grind (arith, nat_tests));
  opening = λ q e. (let low = kept.below q e in grind (arith, nat_tests));
  below = λ q e. (let is : reach h ≡ q = eqb-true (reach h) q e in grind arith);
  asks = λ k a e. refl;
  elsewhere = λ q e g. absurd (let is : reach h ≡ q = eqb-true (reach h) q e in let n = (kept.to_come q (omega arith)).nowhere in let z : is_site Stream s (Some (dgram_site s)) ≡ true = subst (λ x. is_site Stream s x ≡ true) (let y : site q (Put (OpenDgram (reach h) s) ∷ h) ≡ Some (dgram_site s) = rw (e, n) refl in y) g in cc);
}

lived : (c : Conf) → (s p id t k : ℕ) (r : Request) (past : History) (pend : What) (h : History) → t + read_timeout c ≤ now h → SentFits c s p id t k r past pend h → is_live (stand p past) ≡ true
unfolding read_timeout
lived c s p id t k r past pend h late f = elim f.lived [ inl e ↦ absurd (let z = e.1 in let pos = reads_on c in omega (arith, pos)) | inr o ↦ (let z = o.alive in rw z refl) ]

module _ (c : Conf) (s : ℕ) (past : History) (w : What) (u : Served) (h : History) (f : Fits c s past w u h) where
  -- what a timer leaves before its result is given
  pub record Half (d : Dgrams) (outs : List Out) : Type 0 where
    pub who : ℕ
    pub streams : Kept c s past w u.pending f.fr f.more u.server.by_stream (put_all outs h)
    pub dgrams : KeptD c s past w u.pending d (put_all outs h)
    pub held : (k : ℕ) (a : Tryer) → d.held k ≡ Some a → use_at s c.servers ≡ Some ByDatagrams
    pub others : (k : ℕ) (a : Tryer) → d.held k ≡ Some a → who ≢ k → (x : Result Octets Error) → a.stage ≢ Ending x
    pub one_id : OneId s (put_all outs h)
    pub begun : BegunBy s (put_all outs h)
    pub unsent : UnsentBy s (put_all outs h)
    pub of : AreOf s outs h
    pub no_reply : (j : ℕ) → replied j (put_all outs h) ≡ replied j h
    pub no_start : (j t : ℕ) → handed j t (put_all outs h) ≡ handed j t h

  was_stream : (q : ℕ) (b : Bool) → is_site Stream s (if b then opens_as Dgram s (site q h) else site q h) ≡ true → is_at Stream s q h ≡ true
  was_stream q false e = e
  was_stream q true e = go (site q h) e
    where
      go : (x : Option Site) → is_site Stream s (opens_as Dgram s x) ≡ true → is_site Stream s x ≡ true
      go None e = absurd (cc)
      go (Some y) e = e

  closes : (k : ℕ) (a : Tryer) (p : ℕ) (st : Stage) → u.server.by_dgram.held k ≡ Some a → placed a.stage ≡ Some p → placed st ≡ None → a.tries + owing st ≤ max_tries c → StageFits c s k a.request past w u.pending (Put (Close p) ∷ h) st → Half (leave p k a st u.server.by_dgram) (Close p ∷ [])
  closes k a p st held at free few fits =
      let g = standing c s k p a.request past w u.pending h a.stage at (f.dgrams.held k a held).stage in
      let low = place_below c s past w u.pending u.server.by_dgram h p k f.dgrams (f.dgrams.points k a held p at) in
      record {
        who = k;
        streams = kept_put c s past w u.pending f.fr f.more u.server.by_stream (Close p) h (close_foreign c s past w u.pending f.fr f.more u.server.by_stream h p f.streams g.1 low) f.streams;
        dgrams = closes_d c s past w u.pending u.server.by_dgram h p k a st f.dgrams held at free few fits;
        held = λ j b e. each_at (λ j (b : Tryer). use_at s c.servers ≡ Some ByDatagrams) k (dgrams.staged a st) u.server.by_dgram.held (f.by_dgram k a held) (λ j b ne e. f.by_dgram j b e) j b e;
        others = λ j b e ne. f.settled j b (sym (at_there k j _ u.server.by_dgram.held ne) ∙ e);
        one_id = f.one_id;
        begun = f.begun;
        unsent = f.unsent;
        of = ((Dgram, g.1), tt);
        no_reply = λ j. refl;
        no_start = λ j t. refl;
      }

  pub tries_half : (d : Dgrams) (x : Act) → Tries c s (now h) (reach h) u.server.by_dgram x d → Half d (outs_of x)
  tries_half _ _ (dgrams.Opens k a held stage few) = record {
    who = k;
    streams = kept_put c s past w u.pending f.fr f.more u.server.by_stream (OpenDgram (reach h) s) h (open_foreign c s past w u.pending f.fr f.more u.server.by_stream h f.streams) f.streams;
    dgrams = opens_d c s past w u.pending u.server.by_dgram h k a f.dgrams held stage few f.streams.row.event (f.free (reach h) (omega arith));
    held = λ j b e. each_at (λ j (b : Tryer). use_at s c.servers ≡ Some ByDatagrams) k (dgrams.staged a (Trying (reach h))) u.server.by_dgram.held (f.by_dgram k a held) (λ j b ne e. f.by_dgram j b e) j b e;
    others = λ j b e ne. f.settled j b (sym (at_there k j _ u.server.by_dgram.held ne) ∙ e);
    one_id = λ q l i j y z at b d. f.one_id q l i j y z (was_stream q (reach h == q) at) b d;
    begun = λ q l i y at b. f.begun q l i y (was_stream q (reach h == q) at) b;
    unsent = f.unsent;
    of = ((refl, refl), tt);
    no_reply = λ j. refl;
    no_start = λ j t. refl;
  }
  tries_half _ _ (dgrams.Retries k a p id t held stage late few) = closes k a p Queued held (ap placed stage) refl (omega arith) tt
  tries_half _ _ (dgrams.StopsTrying k a p id t held stage late six) =
      let g = f.dgrams.held k a held in
      let sent : SentFits c s p id t k a.request past u.pending h = subst (λ st. StageFits c s k a.request past w u.pending h st) stage g.stage in
      let few : a.tries + 0 ≤ max_tries c = subst (λ st. a.tries + owing st ≤ max_tries c) stage g.few in
      let trials = g.trials in
      closes k a p (Ending (Err (errors.Dgram query.Timeout))) held (ap placed stage) refl few
      (λ un late'. (NoAnswer (record { server = s; all = omega arith; last = record { place = p; moment = t }; is_last = sent.last; old = late; lived = lived c s p id t k a.request past u.pending h late sent }), λ e. absurd (cc)))
  tries_half _ _ (dgrams.Ends k a x held stage) = absurd (f.settled k a held x stage)

  tries_right : (d : Dgrams) (x : Act) → s < length c.servers → Tries c s (now h) (reach h) u.server.by_dgram x d → (end : History) → ServerOutsRight c past w end h (outs_of x)
  tries_right _ _ lt (dgrams.Opens k a held stage few) end = ((omega arith, lt, (f.streams.to_come (reach h) (omega arith)).nowhere), tt)
  tries_right _ _ lt (dgrams.Retries k a p id t held stage late few) end = (let g : SentFits c s p id t k a.request past u.pending h = subst (λ st. StageFits c s k a.request past w u.pending h st) stage (f.dgrams.held k a held).stage in ((omega arith, OfDgram s (dgram_at s p h g.at) (ItsTimeout _ g.sent late), was_alive p h g.stand), tt))
  tries_right _ _ lt (dgrams.StopsTrying k a p id t held stage late six) end = (let g : SentFits c s p id t k a.request past u.pending h = subst (λ st. StageFits c s k a.request past w u.pending h st) stage (f.dgrams.held k a held).stage in ((omega arith, OfDgram s (dgram_at s p h g.at) (ItsTimeout _ g.sent late), was_alive p h g.stand), tt))
  tries_right _ _ lt (dgrams.Ends k a x held stage) end = absurd (f.settled k a held x stage)

  reaches : (next : ℕ) (d : Dgrams) (x : Act) → next ≡ reach h → Tries c s (now h) (reach h) u.server.by_dgram x d → place_after x next ≡ reach (put_all (outs_of x) h)
  reaches next _ _ is (dgrams.Opens k a held stage few) = (let z = is in grind arith)
  reaches next _ _ is (dgrams.Retries k a p id t held stage late few) = is
  reaches next _ _ is (dgrams.StopsTrying k a p id t held stage late six) = is
  reaches next _ _ is (dgrams.Ends k a x held stage) = is

  pub tries_keeps : (next : ℕ) (e : Dgrams) (x : Act) (d : Step Served) → next ≡ reach h → Tries c s u.clock next u.server.by_dgram x e → Settles s u.clock next (has_moved (record u.server { by_dgram = e }) u) x d → Keeps Served (Fits c) none_more s past w h d
  tries_keeps next e x _ is tries (AsItIs set) =
      let it = subst₂ (λ n next. Tries c s n next u.server.by_dgram x e) f.clock is tries in
      let g = tries_half e x it in
      record {
        fits = fits_after c s past w u h f (record u.server { by_dgram = e }) (outs_of x) (record { streams = g.streams; dgrams = g.dgrams; conns = same_conns u.server.by_stream.conns; asks = λ j b i. inl (b, i); held = g.held; settled = set; one_id = g.one_id; begun = g.begun; unsent = g.unsent });
        others = λ t y ne z. others_all c s t past w y (outs_of x) h (λ e. ne (sym e)) g.of z;
        silent = g.no_reply;
        handed_on = g.no_start;
        reaches = reaches next e x is it;
      }
  tries_keeps next e x _ is tries (WithResult k a y held stage) =
      let it = subst₂ (λ n next. Tries c s n next u.server.by_dgram x e) f.clock is tries in
      let g = tries_half e x it in
      let mine : g.who ≡ k = elim (cases_eq g.who k) [ inl same ↦ same | inr ne ↦ absurd (g.others k a held ne y stage) ] in
      let less : (j : ℕ) (b : Tryer) → with_at k None e.held j ≡ Some b → (k ≢ j) × (e.held j ≡ Some b) = λ j b i. each_other (λ j (b : Tryer). (k ≢ j) × (e.held j ≡ Some b)) k e.held (λ j b ne i. (ne, i)) j b i in
      record {
        fits = fits_after c s past w u h f (record u.server { by_dgram = forget k e }) (outs_of x) (record {
          streams = g.streams;
          dgrams = forgets c s past w u.pending e (put_all (outs_of x) h) k a g.dgrams held (ap placed stage);
          conns = same_conns u.server.by_stream.conns;
          asks = λ j b i. inl (b, i);
          held = λ j b i. g.held j b (less j b i).1;
          settled = λ j b i. (let z = less j b i in g.others j b z.1 (λ same. z.0 (sym mine ∙ same)));
          one_id = g.one_id;
          begun = g.begun;
          unsent = g.unsent;
        });
        others = λ t y ne z. others_all c s t past w y (outs_of x) h (λ e. ne (sym e)) g.of z;
        silent = g.no_reply;
        handed_on = g.no_start;
        reaches = reaches next e x is it;
      }

  pub tries_outs : (next : ℕ) (e : Dgrams) (x : Act) (d : Step Served) → s < length c.servers → next ≡ reach h → Tries c s u.clock next u.server.by_dgram x e → Settles s u.clock next (has_moved (record u.server { by_dgram = e }) u) x d → (end : History) → ServerOutsRight c past w end h d.outs
  tries_outs next e x _ lt is tries (AsItIs set) end = tries_right e x lt (subst₂ (λ n next. Tries c s n next u.server.by_dgram x e) f.clock is tries) end
  tries_outs next e x _ lt is tries (WithResult k a y held stage) end = tries_right e x lt (subst₂ (λ n next. Tries c s n next u.server.by_dgram x e) f.clock is tries) end
