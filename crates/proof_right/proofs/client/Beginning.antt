-- A row begins, and is done.
use Rattle.proof_right.proofs.PartLaws.{machine_of, PostRight, Part}
use Rattle.std.proofs.Common.{◌≡◌, ℕ, zero, suc, ◌+◌, ◌<◌, ◌≤◌, ◌≢◌, Bool, true, false, ◌⊎◌, inl, inr, Option, Some, None, List, [], ◌∷◌, length, is_some, refl, arith, sym, ◌∙◌, ap, subst, ◌==◌, ◌&&◌, ◌||◌}
use Rattle.std.specs.Prelude.{Result, Ok, Err, if◌then◌else◌, not, max}
use Rattle.std.proofs.lemmas.Bool.{cases_eq, cases_lt}
use Rattle.std.proofs.lemmas.Bool.Decides.{nat_tests}
use Rattle.client_request.specs.Request.{Request}
use Rattle.client_request.specs.declared.error.Error.{Error}
use Rattle.client_request.specs.declared.event.Event.{Event}
use Rattle.client_request.specs.declared.event.What.{What}
use Rattle.client_request.specs.declared.event.What.TheVariants.{Ask, Tick}
use Rattle.client_request.specs.declared.event.Via.TheVariants.{Dgram, Stream}
use Rattle.right_trace.specs.Trace.{History, Conf, Came}
use Rattle.right_trace.specs.Time.{now, newest, one_if, count_below, row_before}
use Rattle.right_trace.specs.Messages.{Octets}
use Rattle.right_trace.specs.Requests.{asks, Asking, asking, asking_of, is_ask, replied, waits, started}
use Rattle.right_trace.specs.Places.{is_at, live, demand, stand, is_live, reach}
use Rattle.right_trace.specs.Timely.{IsAskedInOctets, InTime}
use Rattle.right_trace.specs.Right.{WaitingIsBusy}
use Rattle.right_trace.specs.Settings.{Settings, defers_nothing}
use Rattle.right_trace.specs.Validity.{waits_for_others, is_deferred}
use Rattle.right_trace.specs.Coming.{IsExcused, CameFor, SomeCame, CameFirst, FirstHere, FirstEarlier}
use Rattle.right_trace.specs.Errors.{HereOrEarlier, Here, Earlier}
use Rattle.right_trace.specs.Orderly.{PlacesAreMet}
use Rattle.proof_right.specs.machine.Client.{Waiting, Upper, first_message, IsDone, row_begins, begun}
use Rattle.right_trace.specs.Parts.{IsIn}
use Rattle.proof_right.proofs.client.Kept.{AllDiffer, WasReply, Pending, IsTold, IsExpected, IsPosted, IsKeptBack, IsPassedOver, Kept}
use Rattle.client_request.specs.declared.event.Via.{Via}
use Rattle.right_trace.specs.Exchanges.{Matches}
use Rattle.right_trace.specs.Owed.{IsOwed}
use Rattle.proof_right.proofs.client.Lists.{no_message, decide}
use Rattle.proof_right.proofs.client.Serving.{clash, has_some}
use Rattle.right_trace.proofs.Asked.{asking_other, asking_came}

nothing_in : {A : Type 0} (x : A) (xs : List A) → xs ≡ [] → IsIn x xs → ⊥
nothing_in x xs e j = subst (IsIn x) e j

none_below : (f : ℕ → Bool) (n : ℕ) → ((q : ℕ) → f q ≡ false) → count_below f n ≡ 0
none_below f zero all = refl
none_below f (suc n) all = (let i = none_below f n all in let z : one_if (f n) ≡ 0 = ap one_if (all n) in omega arith)

and_no_left : (a b : Bool) → a ≡ false → (a && b) ≡ false
and_no_left true b e = absurd (cc)
and_no_left false b e = refl

and_no_mid : (a b d : Bool) → b ≡ false → (a && (b && d)) ≡ false
and_no_mid true b d e = and_no_left b d e
and_no_mid false b d e = refl

and_both : (a b : Bool) → a ≡ true → b ≡ true → (a && b) ≡ true
and_both a b p q = rw (p, q) refl

pub waits_of : (k : ℕ) (a : Asking) (h : History) → asking k h ≡ Some a → replied k h ≡ false → waits k h ≡ true
waits_of k a h e r = rw (e, r) refl

waits_parts : (k : ℕ) (h : History) → waits k h ≡ true → (is_some (asking k h) ≡ true) × (replied k h ≡ false)
waits_parts k h e = (grind arith, grind arith)

pub waits_not : (s : Settings) (v : Result Octets Error) → defers_nothing s ≡ true → waits_for_others s v ≡ true → ⊥
unfolding is_deferred
waits_not s (Ok m) d e = quiet m (parts s.defers_errors s.defers_refused s.defers_servfail d) e
  where
    parts : (a b c : Bool) → (not a && (not b && not c)) ≡ true → (b ≡ false) × (c ≡ false)
    parts true b c e = absurd (cc)
    parts false true c e = absurd (cc)
    parts false false true e = absurd (cc)
    parts false false false e = (refl, refl)

    go : (b c x y : Bool) → b ≡ false → c ≡ false → ((b && x) || (c && y)) ≡ true → ⊥
    go true c x y p q e = absurd (cc)
    go false true x y p q e = absurd (cc)
    go false false x y p q e = absurd (cc)

    quiet : (m : Octets) → (s.defers_refused ≡ false) × (s.defers_servfail ≡ false) → is_deferred s m ≡ true → ⊥
    quiet m q e = go s.defers_refused s.defers_servfail _ _ q.0 q.1 e
waits_not s (Err v) d e = go s.defers_errors (not s.defers_refused && not s.defers_servfail) d e
  where
    go : (a b : Bool) → (not a && b) ≡ true → a ≡ true → ⊥
    go true b d e = absurd (cc)
    go false b d e = absurd (cc)

module _ (c : Conf) (s : Settings) (compose : Request → Result Octets Error) (P : Part c) where
  pub begun_kept : Kept c s P [] Tick (begun c s compose (machine_of P)) []
  begun_kept = record {
    clock = refl;
    place = refl;
    count = refl;
    pending = λ r e. absurd (cc);
    newest = refl;
    row = refl;
    before = λ k e. e;
    known = λ k a e. e;
    to_come = λ k le. record { unheld = refl; unreplied = refl; unhanded = λ i. refl };
    reqs = λ k a e. absurd (cc);
    holders = λ i k lt e. absurd (clash (P.holds P.fresh k) e (P.fresh_holds k));
    gave = λ i k a lt e. absurd (cc);
    posts = λ y j. absurd j;
    back = λ k a g e. absurd (cc);
    firsts = λ k a e. absurd (cc);
    told = λ r v i p k id m a matches e. absurd (cc);
    leaves = λ y j. absurd j;
    differ = tt;
    waited = λ k e. absurd (cc);
    entries = λ e j. absurd j;
    olds = λ k e o. absurd (cc);
    own = λ y j. absurd j;
    revived = λ y m j. absurd j;
    unmarked = λ k. refl;
    parts = λ i lt. P.fresh_fits i;
    beyond = λ i le. record { no_place = λ p. refl; no_start = λ k v. refl };
  }

  pub begun_done : IsDone c s compose (machine_of P) (begun c s compose (machine_of P))
  begun_done = record { taken = refl; board = refl; leaving = refl; rests = λ i lt. P.fresh_rests; tried_alone = λ i k lt e. absurd (clash (P.holds P.fresh k) e (P.fresh_holds k)); goes_on = λ k a e. absurd (cc); early = λ k a e. absurd (cc) }

  module _ (past : History) (w : What) (x : Upper P.State) (h : History) (kept : Kept c s P past w x h) (done : IsDone c s compose (machine_of P) x) where
    all_asked : x.asked ≡ asks h
    all_asked = (let n = kept.count in let z : one_if (is_ask x.pending) ≡ 0 = ap one_if done.taken in omega arith)

    -- who waits is tried
    pub waits_tried : (k : ℕ) → waits k h ≡ true → is_some (x.held k) ≡ true
    waits_tried k e = elim (kept.waited k e) [
      | inl a ↦ a
      | inr b ↦ absurd (elim b [ inl l ↦ nothing_in (l.0) x.leaving done.leaving l.1 | inr p ↦ clash (is_ask x.pending) p.0 done.taken ])
    ]

    held_waits : (i k : ℕ) → i < length c.servers → P.holds (x.ups i) k ≡ true → waits k h ≡ true
    held_waits i k lt e = (let a = has_some (x.held k) (done.tried_alone i k lt e) in let f = kept.reqs k (a.0) a.1 in waits_of k (record { request = (a.0).request; moment = (a.0).moment }) h f.asked f.unreplied)

    -- each waiting request is busy
    pub busy_here : WaitingIsBusy c h
    busy_here k a asked valid waiting =
        let b = has_some (x.held k) (waits_tried k waiting) in
        let g = done.goes_on k (b.0) b.1 in
        P.busy (g.0) k a past w (x.ups g.0) h g.1 (kept.parts (g.0) g.1) (done.rests (g.0) g.1) g.2 asked valid waiting

    pub places_here : PlacesAreMet c s h
    places_here i = elim (cases_lt i (length c.servers)) [
      | inl lt ↦ (
        P.few_places i past w (x.ups i) h lt (kept.parts i lt) (done.rests i lt) (λ k e. held_waits i k lt e),
        λ quiet. P.just_so_many i past w (x.ups i) h lt (kept.parts i lt) (done.rests i lt) (λ k e. held_waits i k lt e) (λ k waiting over.
            (let b = has_some (x.held k) (waits_tried k waiting) in
            elim (kept.gave i k (b.0) lt b.1 over) [
              | inl q ↦ q
              | inr q ↦ absurd (elim q [ inl o ↦ nothing_in (o.0) x.board done.board o.1 | inr g ↦ waits_not s (g.0).result quiet ((kept.back k (b.0) (g.0) b.1 g.1).waits) ])
            ])),
      )
      | inr le ↦
          (let n = kept.beyond i le in
          let l : live i h ≡ 0 = none_below (λ p. is_at Dgram i p h && is_live (stand p h)) (reach h) (λ p. and_no_left (is_at Dgram i p h) (is_live (stand p h)) (n.no_place p)) in
          let d : demand i h ≡ 0 = none_below (λ k. waits k h && (started k i Dgram h && not (started k i Stream h))) (asks h) (λ k. and_no_mid (waits k h) (started k i Dgram h) (not (started k i Stream h)) (n.no_start k Dgram)) in
          (omega arith, λ q. (omega arith)))
    ]

    pub in_time_here : InTime c h
    in_time_here k a asked un =
        let b = has_some (x.held k) (waits_tried k (waits_of k a h asked un)) in
        let f = kept.reqs k (b.0) b.1 in
        let e = done.early k (b.0) b.1 in
        let z : (b.0).moment ≡ a.moment = (let q : Path (Option Asking) (Some (record { request = (b.0).request; moment = (b.0).moment })) (Some a) = sym f.asked ∙ asked in let v : record { request = (b.0).request; moment = (b.0).moment } ≡ a = cc in ap (λ (y : Asking). y.moment) v) in
        let n = kept.clock in
        omega arith

    -- a row begins
    module _ (e : Event) (octets : IsAskedInOctets e.what) where
      g : History
      g = Came e ∷ h

      asked_still : (k t : ℕ) (r : Request) → asking k h ≡ Some (record { request = r; moment = t }) → asking k (Came e ∷ h) ≡ Some (record { request = r; moment = t })
      asked_still k t r q = asking_came k (record { request = r; moment = t }) e h q

      counts : (v : What) → x.asked + one_if (is_ask v) ≡ (if is_ask v then suc (asks h) else asks h)
      counts v = go (is_ask v)
        where
          go : (b : Bool) → x.asked + one_if b ≡ (if b then suc (asks h) else asks h)
          go true = (let n = all_asked in omega arith)
          go false = (let n = all_asked in omega arith)

      pending : (r : Request) → e.what ≡ Ask r → Pending x.asked (max e.moment.0 x.now) r (Came e ∷ h)
      pending r q = record {
        asked = here e.what q (asks h == x.asked) at_last ∙ ap (λ n. Some (record { request = r; moment = max e.moment.0 n })) (sym kept.clock);
        here = (let z : is_ask e.what ≡ true = ap is_ask q in and_both (is_ask e.what) (asks h == x.asked) z at_last);
        octets = subst IsAskedInOctets q octets;
      }
        where
          at_last : (asks h == x.asked) ≡ true
          at_last = (let n = all_asked in grind (arith, nat_tests))

          here : (v : What) → v ≡ Ask r → (b : Bool) → b ≡ true → (if is_ask v && b then asking_of v (max e.moment.0 (now h)) else asking x.asked h) ≡ Some (record { request = r; moment = max e.moment.0 (now h) })
          here v is b t = rw (is, t) refl

      waits_before : (k : ℕ) → k ≢ asks h → waits k (Came e ∷ h) ≡ true → waits k h ≡ true
      waits_before k ne q = sym (ap (λ o. is_some o && not (replied k h)) (asking_other k e h ne)) ∙ q

      is_asking : (k : ℕ) → k ≡ asks h → (b : Bool) → is_ask e.what ≡ b → waits k (Came e ∷ h) ≡ true → (is_ask e.what ≡ true) ⊎ (waits k h ≡ true)
      is_asking k same true z q = inl z
      is_asking k same false z q = inr (sym (ap (λ b. is_some (if b && (asks h == k) then asking_of e.what (max e.moment.0 (now h)) else asking k h) && not (replied k h)) z) ∙ q)

      given : (k : ℕ) (v : Result Octets Error) → HereOrEarlier true (PostRight c k v) past w h → HereOrEarlier true (PostRight c k v) h e.what (Came e ∷ h)
      given k v (Here p) = Earlier refl (inl (subst (λ w. PostRight c k v (row_before h) w h) (sym kept.newest) (subst (λ g. PostRight c k v g w h) (sym kept.row) p)))
      given k v (Earlier q p) = Earlier refl (inr p)

      was_on : (j n : ℕ) (v : Result Octets Error) → WasReply c s j n h v → WasReply c s j n (Came e ∷ h) v
      was_on j n (Ok m) q = (inr q.0, q.1)
      was_on j n (Err v) q = (inr q.0, q.1)

      pub row_kept : Kept c s P h e.what (row_begins c s compose (machine_of P) e x) (Came e ∷ h)
      row_kept = record {
        clock = ap (max e.moment.0) kept.clock;
        place = kept.place;
        count = counts e.what;
        pending = pending;
        newest = refl;
        row = refl;
        before = λ k q. q;
        known = λ k a q. asking_came k a e h q;
        to_come = λ k le. (let f = kept.to_come k le in record { unheld = f.unheld; unreplied = f.unreplied; unhanded = f.unhanded });
        reqs = λ k a q. (let f = kept.reqs k a q in record { asked = asked_still k a.moment a.request f.asked; below = f.below; unreplied = f.unreplied; octets = f.octets; tried = f.tried });
        holders = λ i k lt q.
            (let held : P.holds (x.ups i) k ≡ true = sym (P.begins_held e (x.ups i) k) ∙ q in
            let f = kept.holders i k lt held in
            let a = done.tried_alone i k lt held in
            let b = has_some (x.held k) a in
            record { handed_over = f.handed_over; not_before = (kept.reqs k (b.0) b.1).unreplied; known = inl a });
        gave = λ i k a lt q over. elim (kept.gave i k a lt q over) [
          | inl o ↦ inl (P.begins_held e (x.ups i) k ∙ o)
          | inr o ↦ elim o [ inl b ↦ absurd (nothing_in (b.0) x.board done.board b.1) | inr n ↦ inr (inr n) ]
        ];
        posts = λ y j. absurd (nothing_in y x.board done.board j);
        back = λ k a z q n. (let f = kept.back k a z q n in record {
          server = f.server;
          handed_over = f.handed_over;
          waits = f.waits;
          right = given k z.result f.right;
          over = P.begins_over z.server k past h w e (x.ups z.server) (kept.parts z.server f.server) (done.rests z.server f.server) f.unheld f.over;
          unheld = P.begins_held e (x.ups z.server) k ∙ f.unheld;
        });
        firsts = λ k a q. (let f = kept.firsts k a q in record { none = λ n z. elim z [ inl this ↦ none_here k a q n this | inr old ↦ f.none n old ]; first = λ m n. first_now k m (f.first m n) });
        told = λ r v i p k id m a matches q. IsExpected (is_told r v i p k id m a matches q);
        leaves = λ y j. absurd (nothing_in y x.leaving done.leaving j);
        differ = subst AllDiffer (sym done.leaving) tt;
        waited = λ k q. elim (cases_eq k (asks h)) [
          | inl same ↦ elim (is_asking k same (is_ask e.what) refl q) [ inl a ↦ inr (inr (a, same ∙ sym all_asked)) | inr old ↦ inl (waits_tried k old) ]
          | inr ne ↦ inl (waits_tried k (waits_before k ne q))
        ];
        entries = λ z j. (let f = kept.entries z j in record { cacheable = f.cacheable; covers = f.covers; below = f.below; asked = (f.asked.0, asked_still z.number (f.asked.0) z.first f.asked.1); moment = later z.moment f.moment; was = was_on z.number z.moment z.result f.was });
        olds = λ k z o. (let d = kept.olds k z o in let f = d.fits in record {
          fits = record { cacheable = f.cacheable; covers = f.covers; below = f.below; asked = (f.asked.0, asked_still z.number (f.asked.0) z.first f.asked.1); moment = later z.moment f.moment; was = was_on z.number z.moment z.result f.was };
          below = d.below;
          covers = λ q t a. d.covers q t (sym (asking_other k e h (λ same. (let lt = d.below in let n = all_asked in omega arith))) ∙ a);
          server = d.server;
        });
        own = λ y j. absurd (nothing_in y x.leaving done.leaving j);
        revived = λ y m j. absurd (nothing_in y x.leaving done.leaving j);
        unmarked = λ k. refl;
        parts = λ i lt. P.begins i past h w e (x.ups i) (kept.parts i lt) (done.rests i lt);
        beyond = λ i le. (let f = kept.beyond i le in record { no_place = f.no_place; no_start = f.no_start });
      }
        where
          -- who has it, or gave it, and owes it nothing
          is_told : (r : Request) (v : Via) (i p k id : ℕ) (m : Octets) (a : Waiting) → Matches c r v i p k id m h e.what (Came e ∷ h) → x.held k ≡ Some a → P.Expects (P.begin e (x.ups i)) p k m
          is_told r v i p k id m a matches q =
              let lt = matches.comes.is_open.stands.known in
              let ex = P.begins_expecting i p k id r v m past h w e (x.ups i) (kept.parts i lt) (done.rests i lt) matches in
              elim (decide (P.holds (x.ups i) k)) [
                | inl has ↦ ex.0 has
                | inr none ↦ absurd (let o = ex.1 none in elim (kept.gave i k a lt q o.0) [
                  | inl has ↦ clash (P.holds (x.ups i) k) has none
                  | inr n ↦ elim n [ inl b ↦ nothing_in (b.0) x.board done.board b.1 | inr g ↦ (let f = kept.back k a (g.0) q g.1 in subst (λ i. IsOwed c i k past w h → ⊥) g.2 f.over o.1) ]
                ])
              ]

          -- a message that came in the row that is done was kept back
          none_here : (k : ℕ) (a : Waiting) → x.held k ≡ Some a → first_message a.kept_back ≡ None → SomeCame c k (row_before h) (newest h) h → ⊥
          none_here k a q n z =
              let f : SomeCame c k past w h = subst (λ w. SomeCame c k past w h) kept.newest (subst (λ g. SomeCame c k g (newest h) h) kept.row z) in
              let b = f.came in
              no_told f.came.server f.came.place f.message f.came.matches.comes.is_open.stands.known f.counts (kept.told b.request b.via b.server b.place k b.id f.message a b.matches q)
            where
              no_told : (i p : ℕ) (m : Octets) → i < length c.servers → (IsExcused c p past w h → ⊥) → IsTold c s P past w x.ups x.board i p k m a h → ⊥
              no_told i p m lt counts (IsExpected z) = P.rested (x.ups i) p k m (done.rests i lt) z
              no_told i p m lt counts (IsPosted z) = nothing_in (record { server = i; request = k; result = Ok m }) x.board done.board z
              no_told i p m lt counts (IsKeptBack g l z) = no_message a.kept_back g m l z n
              no_told i p m lt counts (IsPassedOver z) = counts z

          first_now : (k : ℕ) (m : Octets) → CameFirst c k m past w h → CameFirst c k m h e.what (Came e ∷ h)
          first_now k m (FirstHere z n) = FirstEarlier (inl (subst (λ w. CameFor c k m (row_before h) w h) (sym kept.newest) (subst (λ g. CameFor c k m g w h) (sym kept.row) z), n))
          first_now k m (FirstEarlier z) = FirstEarlier (inr z)

          later : (n : ℕ) → n ≤ now h → n ≤ max e.moment.0 (now h)
          later n le = omega arith
