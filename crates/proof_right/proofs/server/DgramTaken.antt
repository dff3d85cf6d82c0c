-- An event that datagrams take, for one server's part.
use Rattle.std.proofs.Common.{◌≡◌, ◌≢◌, ℕ, ◌≤◌, ◌<◌, true, false, ◌⊎◌, inl, inr, Option, Some, None, List, [], ◌∷◌, refl, arith, ◌∙◌, sym, subst, ap, ◌==◌, length}
use Rattle.std.specs.Prelude.{Result}
use Rattle.std.proofs.lemmas.Bool.{cases_eq, eqb-true}
use Rattle.std.proofs.lemmas.Bool.Decides.{nat_tests}
use Rattle.client_request.specs.declared.error.Error.{Error}
use Rattle.client_request.specs.declared.event.What.{What}
use Rattle.client_request.specs.declared.event.What.TheVariants.{Bytes, Tick}
use Rattle.client_request.specs.declared.event.Out.{Out}
use Rattle.client_request.specs.declared.event.Out.TheVariants.{Send, Close}
use Rattle.client_request.specs.declared.event.Via.TheVariants.{Dgram, Stream}
use Rattle.right_trace.specs.Trace.{History, Conf, ByDatagrams, Put, put_all}
use Rattle.right_trace.specs.Time.{now}
use Rattle.right_trace.specs.Messages.{Octets}
use Rattle.right_trace.specs.Requests.{start, replied, handed}
use Rattle.right_trace.specs.Places.{site, is_told, Opening, on_event, reach}
use Rattle.right_trace.specs.Frames.{came}
use Rattle.right_trace.specs.Causes.{Heard, sends}
use Rattle.right_trace.specs.Orderly.{use_at}
use Rattle.proof_right.specs.machine.Streams.{Act, Puts, Asker, Conn, IsForeign}
use Rattle.right_trace.specs.Updates.{with_at}
use Rattle.proof_right.specs.machine.Dgrams.{Meets, Stage, Ending, Cut, Tryer, Dgrams, leave, forget}
use Rattle.proof_right.specs.machine.Served.{Served, IsSettled, IsInTime, Settles, AsItIs, WithResult, has_taken_it, outs_of, place_after}
use Rattle.proof_right.specs.machine.Part.{Act as Step}
use Rattle.proof_right.proofs.PartLaws.{Keeps, none_more}
use Rattle.proof_right.proofs.server.Kept.{Kept}
use Rattle.proof_right.proofs.server.DgramKept.{dgram_site, placed, KeptD}
use Rattle.proof_right.proofs.server.DgramMoves.{place_below, standing, forgets}
use Rattle.proof_right.proofs.server.Views.{each_other, at_there}
use Rattle.proof_right.proofs.server.Fitting.{OneId, BegunBy, UnsentBy, Fits, no_frames_came}
use Rattle.proof_right.proofs.server.Moved.{AreOf, others_all, reach_all, now_all, earlier_all, not_heard}
use Rattle.proof_right.specs.machine.Dgrams as dgrams
use Rattle.proof_right.proofs.server.Meeting as meeting
use Rattle.proof_right.proofs.server.Late as late
use Rattle.proof_right.proofs.server.Taken as taken

-- What such an event is, and what its out says.
record Plain (s : ℕ) (v : What) (d : Dgrams) (h : History) (x : Act) : Type 0 where
  pub who : ℕ
  pub others : (k : ℕ) (a : Tryer) → d.held k ≡ Some a → who ≢ k → (y : Result Octets Error) → a.stage ≢ Ending y
  pub free : (q : ℕ) → reach h ≤ q → on_event v q Opening ≡ Opening
  pub told : (p : ℕ) → is_told p v ≡ true → site p h ≡ Some (dgram_site s)
  pub other : (p : ℕ) (o : Octets) → v ≢ Bytes p o
  pub of : AreOf s (outs_of x) h
  pub no_reply : (j : ℕ) → replied j (put_all (outs_of x) h) ≡ replied j h
  pub no_start : (j t : ℕ) → handed j t (put_all (outs_of x) h) ≡ handed j t h
  pub no_open : reach (put_all (outs_of x) h) ≡ reach h
  pub no_place : (next : ℕ) → place_after x next ≡ next
  pub one_id : OneId s (put_all (outs_of x) h)
  pub begun : BegunBy s (put_all (outs_of x) h)
  pub unsent : UnsentBy s (put_all (outs_of x) h)

module _ (c : Conf) (s : ℕ) (past : History) (w : What) (u : Served) (h : History) (f : Fits c s past w u h) where
  same_place : (p q : ℕ) → (q == p) ≡ true → site q h ≡ Some (dgram_site s) → site p h ≡ Some (dgram_site s)
  same_place p q e at = ap (λ q. site q h) (sym (eqb-true q p e)) ∙ at

  here : (v : What) (d : Dgrams) (k : ℕ) (a : Tryer) (p : ℕ) → KeptD c s past w v d h → d.held k ≡ Some a → placed a.stage ≡ Some p → site p h ≡ Some (dgram_site s)
  here v d k a p kept held at = (standing c s k p a.request past w v h a.stage at (kept.held k a held).stage).1

  calm : (d : Dgrams) (k : ℕ) (b : Tryer) → IsSettled d → (j : ℕ) (a : Tryer) → with_at k (Some b) d.held j ≡ Some a → k ≢ j → (y : Result Octets Error) → a.stage ≢ Ending y
  calm d k b set j a e ne = set j a (sym (at_there k j (Some b) d.held ne) ∙ e)

  closed : (v : What) (d : Dgrams) (k : ℕ) (a : Tryer) (p : ℕ) (st : Stage) → KeptD c s past w v d h → IsSettled d → d.held k ≡ Some a → placed a.stage ≡ Some p → ((q : ℕ) → reach h ≤ q → on_event v q Opening ≡ Opening) → ((q : ℕ) → is_told q v ≡ true → (p == q) ≡ true) → ((q : ℕ) (o : Octets) → v ≢ Bytes q o) → Plain s v (leave p k a st d) h (Puts (Close p))
  closed v d k a p st kept set held at free told other =
      let site' = here v d k a p kept held at in
      record {
        who = k;
        others = λ j b e ne. calm d k (dgrams.staged a st) set j b e ne;
        free = free;
        told = λ q e. same_place q p (told q e) site';
        other = other;
        of = ((Dgram, site'), tt);
        no_reply = λ j. refl;
        no_start = λ j t. refl;
        no_open = refl;
        no_place = λ next. refl;
        one_id = f.one_id;
        begun = f.begun;
        unsent = f.unsent;
      }

  meets_plain : (n : ℕ) (v : What) (d d' : Dgrams) (x : Act) → KeptD c s past w v d h → IsSettled d → Meets c n d v x d' → Plain s v d' h x
  meets_plain n _ d _ _ kept set (dgrams.IsSent k a p id o at held stage carries) =
      let site' = here _ d k a p kept held (ap placed stage) in
      let low = place_below c s past w _ d h p k kept at in
      record {
        who = k;
        others = λ j b e ne. calm d k _ set j b e ne;
        free = λ q le. (let ne : p ≢ q = λ i. omega arith in grind (arith, nat_tests));
        told = λ q e. absurd (cc);
        other = λ q z e. cc;
        of = (site', tt);
        no_reply = λ j. refl;
        no_start = λ j t. refl;
        no_open = refl;
        no_place = λ next. refl;
        one_id = f.one_id;
        begun = f.begun;
        unsent = λ j e. unsent j e (cases_eq k j);
      }
    where
      unsent : (j : ℕ) → handed j s h ≡ false → (k ≡ j) ⊎ (k ≡ j → ⊥) → sends j s (Put (Send p k id o) ∷ h) ≡ 0
      unsent j e (inl is) = absurd (let z = (kept.held k a held).has_it in let y : handed k s h ≡ true = rw z refl in let x : handed k s h ≡ false = ap (λ j. handed j s h) is ∙ e in let b : true ≡ false = sym y ∙ x in cc)
      unsent j e (inr ne) = (let z : (k == j) ≡ false = grind (arith, nat_tests) in rw z (f.unsent j e))
  meets_plain n _ d _ _ kept set (dgrams.CannotBeSent k a p e at held stage bad) =
      let low = place_below c s past w _ d h p k kept at in
      closed _ d k a p _ kept set held (ap placed stage) (λ q le. (let ne : p ≢ q = λ i. omega arith in grind (arith, nat_tests))) (λ q e. absurd (cc)) (λ q z e. cc)
  meets_plain n _ d _ _ kept set (dgrams.DoesNotOpen k a p g at held stage) =
      let low = place_below c s past w _ d h p k kept at in
      record {
        who = k;
        others = λ j b e ne. calm d k _ set j b e ne;
        free = λ q le. (let ne : p ≢ q = λ i. omega arith in grind (arith, nat_tests));
        told = λ q e. absurd (cc);
        other = λ q z e. cc;
        of = tt;
        no_reply = λ j. refl;
        no_start = λ j t. refl;
        no_open = refl;
        no_place = λ next. refl;
        one_id = f.one_id;
        begun = f.begun;
        unsent = f.unsent;
      }
  meets_plain n _ d _ _ kept set (dgrams.NotSent k a p id t g at held stage) = closed _ d k a p _ kept set held (ap placed stage) (λ q le. refl) (λ q e. e) (λ q z e. cc)
  meets_plain n _ d _ _ kept set (dgrams.SentShort k a p id t at held stage) = closed _ d k a p _ kept set held (ap placed stage) (λ q le. refl) (λ q e. e) (λ q z e. cc)
  meets_plain n _ d _ _ kept set (dgrams.NotReceived k a p id t g at held stage) = closed _ d k a p _ kept set held (ap placed stage) (λ q le. refl) (λ q e. e) (λ q z e. cc)
  meets_plain n _ d _ _ kept set (dgrams.IsAnswered k a p id t o at held stage long ok) = closed _ d k a p _ kept set held (ap placed stage) (λ q le. refl) (λ q e. absurd (cc)) (λ q z e. cc)

  -- all facts, once the event is taken
  fits_met : (d : Dgrams) (asks : ℕ → Option Asker) (outs : List Out) → Kept c s past w Tick (λ q. []) (λ q. came q w past) (record u.server.by_stream { asks = asks }) (put_all outs h) → KeptD c s past w Tick d (put_all outs h) → ((q : ℕ) → reach h ≤ q → on_event w q Opening ≡ Opening) → ((p : ℕ) → is_told p w ≡ true → site p h ≡ Some (dgram_site s)) → ((p : ℕ) (o : Octets) → w ≢ Bytes p o)
      → ((k : ℕ) (a : Tryer) → d.held k ≡ Some a → use_at s c.servers ≡ Some ByDatagrams) → IsSettled d → ((k : ℕ) (a : Asker) → asks k ≡ Some a → ((b : Asker) × (u.server.by_stream.asks k ≡ Some b)) ⊎ (start k s Stream h ≡ None)) → OneId s (put_all outs h) → BegunBy s (put_all outs h) → UnsentBy s (put_all outs h)
      → Fits c s past w (has_taken_it (record { by_dgram = d; by_stream = record u.server.by_stream { asks = asks } }) u) (put_all outs h)
  fits_met d asks outs streams keptd free told other by set asked ids begun unsent = record {
    fr = λ q. [];
    more = λ q. came q w past;
    clock = f.clock ∙ sym (now_all outs h);
    streams = streams;
    dgrams = keptd;
    untaken = λ e. absurd (cc);
    taken = λ e. record { pending = refl; here = λ y g. (none u.place y g, λ ne. absurd (ne refl)); others = λ q y ne g. none q y g };
    free = λ q le. (let a = reach_all outs h in free q (omega arith));
    by_dgram = by;
    settled = set;
    silent = λ k a g x. (let y = earlier_all (Heard c k s) outs h x in elim (asked k a g) [ inl b ↦ f.silent k b.0 b.1 y | inr z ↦ not_heard c k s h z y ]);
    one_id = ids;
    begun = begun;
    unsent = unsent;
  }
    where
      none : (q : ℕ) (y : Conn) → u.server.by_stream.conns q ≡ Some y → came q w past ≡ []
      none q y e = no_frames_came c s q w past (put_all outs h) streams.row.before (streams.conns q y e).at other

  module _ (lt : s < length c.servers) (un : u.taken ≡ false) (soon : IsInTime c u.clock u.server) (next : ℕ) (is : next ≡ reach h) (e : Dgrams) (x : Act) (meets : Meets c u.clock u.server.by_dgram u.pending x e) (foreign : IsForeign u.pending u.server.by_stream) where
    v : u.pending ≡ w
    v = (f.untaken un).pending

    pub met : meeting.Met c s past lt w u.server.by_stream e h (outs_of x)
    met = meeting.meets_met c s past lt w u.server.by_stream u.server.by_dgram h (taken.base c s past w u h f un) (taken.base_d c s past w u h f un) (λ k a p id t held stage. (let z = soon.sent k a p id t held stage in let n = f.clock in omega arith)) e x (subst (λ v. Meets c (now h) u.server.by_dgram v x e) v (subst (λ n. Meets c n u.server.by_dgram u.pending x e) f.clock meets)) (subst (λ v. IsForeign v u.server.by_stream) v foreign)

    plain : Plain s w e h x
    plain = meets_plain u.clock w u.server.by_dgram e x (taken.base_d c s past w u h f un) f.settled (subst (λ v. Meets c u.clock u.server.by_dgram v x e) v meets)

    by : (k : ℕ) (a : Tryer) → e.held k ≡ Some a → use_at s c.servers ≡ Some ByDatagrams
    by k a held = (let b = (late.meets_late c s next past w u h f e u.pending x meets).1 k a held in f.by_dgram k (b.0) b.1)

    -- whose place was closed
    mine : (k : ℕ) (a : Tryer) (y : Result Octets Error) → e.held k ≡ Some a → a.stage ≡ Ending y → plain.who ≡ k
    mine k a y held stage = elim (cases_eq plain.who k) [ inl same ↦ same | inr ne ↦ absurd (plain.others k a held ne y stage) ]

    less : (k j : ℕ) (b : Tryer) → with_at k None e.held j ≡ Some b → (k ≢ j) × (e.held j ≡ Some b)
    less k j b i = each_other (λ j (b : Tryer). (k ≢ j) × (e.held j ≡ Some b)) k e.held (λ j b ne i. (ne, i)) j b i

    less_settled : (k : ℕ) → plain.who ≡ k → IsSettled (forget k e)
    less_settled k same j b i = (let z = less k j b i in plain.others j b z.1 (λ i. z.0 (sym same ∙ i)))

    pub meets_keeps : (d : Step Served) → Settles s u.clock next (has_taken_it (record u.server { by_dgram = e }) u) x d → Keeps Served (Fits c) none_more s past w h d
    meets_keeps _ (AsItIs set) = record {
      fits = fits_met e u.server.by_stream.asks (outs_of x) met.streams met.dgrams plain.free plain.told plain.other by set (λ k a i. inl (a, i)) plain.one_id plain.begun plain.unsent;
      others = λ t y ne g. others_all c s t past w y (outs_of x) h (λ e. ne (sym e)) plain.of g;
      silent = plain.no_reply;
      handed_on = plain.no_start;
      reaches = plain.no_place next ∙ (is ∙ sym plain.no_open);
    }
    meets_keeps _ (WithResult k a y held stage) = record {
      fits = fits_met (forget k e) u.server.by_stream.asks (outs_of x) met.streams (forgets c s past w Tick e (put_all (outs_of x) h) k a met.dgrams held (ap placed stage)) plain.free plain.told plain.other (λ j b i. by j b (less k j b i).1) (less_settled k (mine k a y held stage)) (λ k a i. inl (a, i)) plain.one_id plain.begun plain.unsent;
      others = λ t y ne g. others_all c s t past w y (outs_of x) h (λ e. ne (sym e)) plain.of g;
      silent = plain.no_reply;
      handed_on = plain.no_start;
      reaches = plain.no_place next ∙ (is ∙ sym plain.no_open);
    }
