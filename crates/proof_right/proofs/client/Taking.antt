-- Moves that change the state alone: a result is dropped, kept back or delivered, a request times out, what is stored changes.
use Rattle.std.proofs.Common.{◌≡◌, ℕ, suc, ◌+◌, ◌<◌, ◌≢◌, Bool, true, false, ◌⊎◌, inl, inr, Option, Some, None, List, [], ◌∷◌, ◌++◌, length, is_some, refl, arith, sym, ◌∙◌, ap, subst, subst₂, ◌==◌}
use Rattle.std.specs.Prelude.{Ok, if◌then◌else◌}
use Rattle.std.proofs.lemmas.Bool.{cases_eq}
use Rattle.std.proofs.lemmas.Bool.Decides.{nat_tests}
use Rattle.client_request.specs.Request.{Request}
use Rattle.client_request.specs.Carries.{IsOfOctets}
use Rattle.client_request.specs.declared.event.What.{What}
use Rattle.client_request.specs.declared.event.What.TheVariants.{Ask}
use Rattle.right_trace.specs.Trace.{History, Conf}
use Rattle.right_trace.specs.Time.{one_if, EarlierRow, OfRow}
use Rattle.right_trace.specs.Messages.{Octets}
use Rattle.right_trace.specs.Requests.{asks, Asking, asking, is_ask, is_asked_here, replied, waits, handed}
use Rattle.right_trace.specs.Settings.{Settings}
use Rattle.right_trace.specs.Keys.{KeyCovers, is_cacheable}
use Rattle.right_trace.specs.Validity.{validity_of_message, waits_for_others}
use Rattle.right_trace.specs.Errors.{Here, is_failing, FailsSo}
use Rattle.right_trace.specs.Coming.{SomeCame, FirstHere}
use Rattle.right_trace.proofs.Asked.{asking_below, here_asks, earlier_known}
use Rattle.right_trace.specs.Right.{ReplyRight, HasServer}
use Rattle.proof_right.proofs.PartLaws.{PostRight, Part}
use Rattle.proof_right.specs.machine.Client.{Posted, Given, Waiting, Leaving, Entry, Upper, with_held, with_expired, revive, keeping, leave, answer, newcomer, take_on}
use Rattle.right_trace.specs.Parts.{IsIn}
use Rattle.proof_right.proofs.client.Kept.{needs_for, RequestFits, Leaves, AllDiffer, IsOnBoard, HasGiven, MayStore, EntryFits, OldFits, StaleFits, GivenFits, LeavingFits, IsFirstOf, IsTold, IsExpected, IsPosted, IsKeptBack, IsPassedOver, Kept}
use Rattle.proof_right.proofs.client.Lists.{decide, in_left, in_either, in_more, in_but, leaves_left, leaves_last, leaves_swap, differ_swap, in_here, differ_last, first_none, first_last}
use Rattle.proof_right.proofs.client.Serving.{clash, has_some}

same_request : (r q : Request) (t u : ℕ) → Path (Option Asking) (Some (record { request = r; moment = t })) (Some (record { request = q; moment = u })) → r ≡ q
same_request r q t u e = (let z : record { request = r; moment = t } ≡ record { request = q; moment = u } = cc in ap (λ (x : Asking). x.request) z)

module _ (c : Conf) (s : Settings) (P : Part c) (past : History) (w : What) (x : Upper P.State) (h : History) (kept : Kept c s P past w x h) where
  -- what is stored changes
  pub stored_kept : (es : List Entry) → ((e : Entry) → IsIn e es → EntryFits c s e x.asked h) → Kept c s P past w (record x { stored = es }) h
  stored_kept es fits = record {
    clock = kept.clock;
    place = kept.place;
    count = kept.count;
    pending = kept.pending;
    newest = kept.newest;
    row = kept.row;
    before = kept.before;
    known = kept.known;
    to_come = kept.to_come;
    reqs = kept.reqs;
    holders = kept.holders;
    gave = kept.gave;
    posts = kept.posts;
    back = kept.back;
    firsts = kept.firsts;
    told = kept.told;
    leaves = kept.leaves;
    differ = kept.differ;
    waited = kept.waited;
    entries = fits;
    olds = kept.olds;
    own = kept.own;
    revived = kept.revived;
    unmarked = kept.unmarked;
    parts = kept.parts;
    beyond = kept.beyond;
  }

  -- a result goes from the board, of a request that is not tried, or kept back
  pub board_kept : (before after : List Posted) (y : Posted) → x.board ≡ before ++ y ∷ after → ((a : Waiting) → x.held y.request ≡ Some a → (g : Given) × IsIn g a.kept_back × (g.server ≡ y.server) × (g.result ≡ y.result)) → Kept c s P past w (record x { board = before ++ after }) h
  board_kept before after y is given = record {
    clock = kept.clock;
    place = kept.place;
    count = kept.count;
    pending = kept.pending;
    newest = kept.newest;
    row = kept.row;
    before = kept.before;
    known = kept.known;
    to_come = kept.to_come;
    reqs = kept.reqs;
    holders = kept.holders;
    gave = λ i k a lt e over. elim (kept.gave i k a lt e over) [ inl o ↦ inl o | inr p ↦ inr (elim p [ inl b ↦ (go i k a e b) | inr g ↦ inr g ]) ];
    posts = λ z j. kept.posts z (subst (IsIn z) (sym is) (in_more z y before after j));
    back = kept.back;
    firsts = kept.firsts;
    told = λ r v i p k id m a matches e. told i p k m a e (kept.told r v i p k id m a matches e);
    leaves = kept.leaves;
    differ = kept.differ;
    waited = kept.waited;
    entries = kept.entries;
    olds = kept.olds;
    own = kept.own;
    revived = kept.revived;
    unmarked = kept.unmarked;
    parts = kept.parts;
    beyond = kept.beyond;
  }
    where
      told : (i p k : ℕ) (m : Octets) (a : Waiting) → x.held k ≡ Some a → IsTold c s P past w x.ups x.board i p k m a h → IsTold c s P past w x.ups (before ++ after) i p k m a h
      told i p k m a e (IsExpected z) = IsExpected z
      told i p k m a e (IsPosted o) = elim (in_but (record { server = i; request = k; result = Ok m }) y before after (subst (IsIn (record { server = i; request = k; result = Ok m })) is o)) [
        | inl this ↦ (let q = given a (subst (λ k. x.held k ≡ Some a) (sym (ap (λ (z : Posted). z.request) this)) e) in IsKeptBack (q.0) q.1 (q.3 ∙ ap (λ (z : Posted). z.result) this))
        | inr still ↦ IsPosted still
      ]
      told i p k m a e (IsKeptBack g j z) = IsKeptBack g j z
      told i p k m a e (IsPassedOver z) = IsPassedOver z

      go : (i k : ℕ) (a : Waiting) → x.held k ≡ Some a → IsOnBoard i k x.board → IsOnBoard i k (before ++ after) ⊎ HasGiven i a.kept_back
      go i k a e b = elim (in_but (b.0) y before after (subst (IsIn (b.0)) is b.1)) [
        | inl this ↦
            (let ks : y.request ≡ k = ap (λ (z : Posted). z.request) this ∙ b.3 in
            let is_i : y.server ≡ i = ap (λ (z : Posted). z.server) this ∙ b.2 in
            inr (subst (λ i. HasGiven i a.kept_back) is_i (let q = given a (subst (λ k. x.held k ≡ Some a) (sym ks) e) in (q.0, q.1, q.2))))
        | inr still ↦ inl (b.0, still, b.2, b.3)
      ]

  -- the held functions that change at one request
  held_other : (k j : ℕ) (v : Option Waiting) → k ≢ j → with_held k v x.held j ≡ x.held j
  held_other k j v ne = (let e : (k == j) ≡ false = grind (arith, nat_tests) in ap (λ b. if b then v else x.held j) e)

  held_this : (k j : ℕ) (v : Option Waiting) → k ≡ j → with_held k v x.held j ≡ v
  held_this k j v is = (let e : (k == j) ≡ true = grind (arith, nat_tests) in ap (λ b. if b then v else x.held j) e)

  -- a result that is on the board is kept back
  pub back_kept : (y : Posted) (a : Waiting) → IsIn y x.board → x.held y.request ≡ Some a → waits_for_others s y.result ≡ true
      → Kept c s P past w (record x { held = with_held y.request (Some (keeping (record { server = y.server; result = y.result }) a)) x.held }) h
  back_kept y a j held deferred =
      let g : Given = record { server = y.server; result = y.result } in
      record {
        clock = kept.clock;
        place = kept.place;
        count = kept.count;
        pending = kept.pending;
        newest = kept.newest;
        row = kept.row;
        before = kept.before;
        known = kept.known;
        to_come = λ k le. (let f = kept.to_come k le in record { unheld = held_other y.request k (Some (keeping g a)) (λ e. clash (is_some (x.held k)) (subst (λ k. is_some (x.held k) ≡ true) e (ap is_some held)) (ap is_some f.unheld)) ∙ f.unheld; unreplied = f.unreplied; unhanded = f.unhanded });
        reqs = λ k b e. (let o = old k b e in let f = kept.reqs k (o.0) o.1 in record {
          asked = subst (λ q. asking k h ≡ Some (record { request = q; moment = b.moment })) (sym o.2) (subst (λ n. asking k h ≡ Some (record { request = (o.0).request; moment = n })) (sym o.3) f.asked);
          below = f.below;
          unreplied = f.unreplied;
          octets = subst IsOfOctets (sym o.2) f.octets;
          tried = λ i. ap (λ (q : ℕ → Bool). q i) o.4 ∙ f.tried i;
        });
        holders = λ i k lt e. (let f = kept.holders i k lt e in record { handed_over = f.handed_over; not_before = f.not_before; known = elim f.known [ inl q ↦ inl (some k q) | inr q ↦ inr q ] });
        gave = λ i k b lt e over. (let o = old k b e in elim (kept.gave i k (o.0) lt o.1 over) [ inl q ↦ inl q | inr q ↦ inr (elim q [ inl b ↦ inl b | inr n ↦ inr (n.0, o.5 (n.0) n.1, n.2) ]) ]);
        posts = kept.posts;
        back = λ k b z e n. elim (cases_eq y.request k) [
          | inl is ↦
              (let v : keeping g a ≡ b = (let q : Path (Option Waiting) (Some (keeping g a)) (Some b) = sym (held_this y.request k (Some (keeping g a)) is) ∙ e in cc) in
              let n' : IsIn z (a.kept_back ++ g ∷ []) = subst (IsIn z) (sym (ap (λ (q : Waiting). q.kept_back) v)) n in
              subst (λ k. GivenFits c s P past w x.ups k z h) is (elim (in_either z a.kept_back (g ∷ []) n') [ inl m ↦ kept.back y.request a z held m | inr m ↦ elim m [ inl t ↦ subst (λ z. GivenFits c s P past w x.ups y.request z h) t given | inr t ↦ absurd t ] ]))
          | inr ne ↦ kept.back k b z (sym (held_other y.request k (Some (keeping g a)) ne) ∙ e) n
        ];
        firsts = λ k b e. elim (cases_eq y.request k) [
          | inl is ↦
              (let v : keeping g a ≡ b = (let q : Path (Option Waiting) (Some (keeping g a)) (Some b) = sym (held_this y.request k (Some (keeping g a)) is) ∙ e in cc) in
              subst (λ k. IsFirstOf c s P k b past w h) is (subst (λ b. IsFirstOf c s P y.request b past w h) v firsts_here))
          | inr ne ↦ kept.firsts k b (sym (held_other y.request k (Some (keeping g a)) ne) ∙ e)
        ];
        told = λ r v i p k id m b matches e. elim (cases_eq y.request k) [
          | inl is ↦
              (let q : keeping g a ≡ b = (let q : Path (Option Waiting) (Some (keeping g a)) (Some b) = sym (held_this y.request k (Some (keeping g a)) is) ∙ e in cc) in
              subst (λ b. IsTold c s P past w x.ups x.board i p k m b h) q (told_here i p k m (kept.told r v i p k id m a matches (subst (λ k. x.held k ≡ Some a) is held))))
          | inr ne ↦ kept.told r v i p k id m b matches (sym (held_other y.request k (Some (keeping g a)) ne) ∙ e)
        ];
        leaves = λ z l. (let f = kept.leaves z l in record { unheld = held_other y.request z.request (Some (keeping g a)) (λ e. clash (is_some (x.held z.request)) (subst (λ k. is_some (x.held k) ≡ true) e (ap is_some held)) (ap is_some f.unheld)) ∙ f.unheld; below = f.below; asked = f.asked; unreplied = f.unreplied; right = f.right; free = f.free; stores = f.stores; unstored = f.unstored });
        differ = kept.differ;
        waited = λ k e. elim (kept.waited k e) [ inl q ↦ inl (some k q) | inr q ↦ inr q ];
        entries = kept.entries;
        olds = kept.olds;
        own = kept.own;
        revived = kept.revived;
        unmarked = kept.unmarked;
        parts = kept.parts;
        beyond = kept.beyond;
      }
    where
      firsts_here : IsFirstOf c s P y.request (keeping (record { server = y.server; result = y.result }) a) past w h
      firsts_here = (let f = kept.firsts y.request a held in record {
        none = λ n. f.none (first_none a.kept_back (record { server = y.server; result = y.result } ∷ []) n);
        first = λ m n. elim (first_last a.kept_back (record { server = y.server; result = y.result }) (Ok m) n) [
          | inl old ↦ f.first m old
          | inr new ↦ FirstHere (subst (λ v. PostRight c y.request v past w h) new.1 ((kept.posts y j).right)) (f.none new.0)
        ];
      })

      told_here : (i p k : ℕ) (m : Octets) → IsTold c s P past w x.ups x.board i p k m a h → IsTold c s P past w x.ups x.board i p k m (keeping (record { server = y.server; result = y.result }) a) h
      told_here i p k m (IsExpected z) = IsExpected z
      told_here i p k m (IsPosted z) = IsPosted z
      told_here i p k m (IsKeptBack g j z) = IsKeptBack g (in_left g a.kept_back (record { server = y.server; result = y.result } ∷ []) j) z
      told_here i p k m (IsPassedOver z) = IsPassedOver z

      given : GivenFits c s P past w x.ups y.request (record { server = y.server; result = y.result }) h
      given = (let f = kept.posts y j in record { server = f.server; handed_over = f.handed_over; waits = deferred; right = Here f.right; over = f.over; unheld = f.unheld })

      some : (k : ℕ) → is_some (x.held k) ≡ true → is_some (with_held y.request (Some (keeping (record { server = y.server; result = y.result }) a)) x.held k) ≡ true
      some k e = go (y.request == k)
        where
          go : (b : Bool) → is_some (if b then Some (keeping (record { server = y.server; result = y.result }) a) else x.held k) ≡ true
          go true = refl
          go false = e

      old : (k : ℕ) (b : Waiting) → with_held y.request (Some (keeping (record { server = y.server; result = y.result }) a)) x.held k ≡ Some b
          → (o : Waiting) × (x.held k ≡ Some o) × (b.request ≡ o.request) × (b.moment ≡ o.moment) × (b.tried ≡ o.tried) × ((z : Given) → IsIn z o.kept_back → IsIn z b.kept_back)
      old k b e = elim (cases_eq y.request k) [
        | inl is ↦
            (let g : Given = record { server = y.server; result = y.result } in
            let v : keeping g a ≡ b = (let q : Path (Option Waiting) (Some (keeping g a)) (Some b) = sym (held_this y.request k (Some (keeping g a)) is) ∙ e in cc) in
            (a, subst (λ k. x.held k ≡ Some a) is held, sym (ap (λ (q : Waiting). q.request) v), sym (ap (λ (q : Waiting). q.moment) v), sym (ap (λ (q : Waiting). q.tried) v), λ z n. subst (IsIn z) (ap (λ (q : Waiting). q.kept_back) v) (in_left z a.kept_back (g ∷ []) n)))
        | inr ne ↦ (b, sym (held_other y.request k (Some (keeping (record { server = y.server; result = y.result }) a)) ne) ∙ e, refl, refl, refl, λ z n. n)
      ]

  -- a request that is tried leaves
  pub leave_kept : (y : Leaving) (a : Waiting) → x.held y.request ≡ Some a → y.asked ≡ a.request → ReplyRight c s past w h y.request y.result
      → (needs_for s y ≡ true → (i : ℕ) → i < length c.servers → P.holds (x.ups i) y.request ≡ false)
      → (y.is_stored ≡ true → (is_cacheable y.asked ≡ true) × MayStore c s y.request past w h y.result)
      → (y.is_stored ≡ false → (m : Octets) → y.result ≡ Ok m → is_cacheable y.asked ≡ true → (n : ℕ) → validity_of_message s m ≡ Some n → 0 < n → is_asked_here y.request h ≡ true)
      → (is_failing y.given ≡ true → FailsSo c s y.request past w h y.given)
      → y.stale ≡ None
      → Kept c s P past w (leave y x) h
  leave_kept y a held is right free stores unstored own_cause fresh = record {
    clock = kept.clock;
    place = kept.place;
    count = kept.count;
    pending = kept.pending;
    newest = kept.newest;
    row = kept.row;
    before = kept.before;
    known = kept.known;
    to_come = λ k le. (let f = kept.to_come k le in record { unheld = none k f.unheld; unreplied = f.unreplied; unhanded = f.unhanded });
    reqs = λ k b e. kept.reqs k b (was k b e);
    holders = λ i k lt e. (let f = kept.holders i k lt e in record { handed_over = f.handed_over; not_before = f.not_before; known = elim f.known [ inl q ↦ still k q | inr q ↦ inr (elim q [ inl l ↦ inl (leaves_left k x.leaving (y ∷ []) l) | inr r ↦ inr r ]) ] });
    gave = λ i k b lt e over. kept.gave i k b lt (was k b e) over;
    posts = kept.posts;
    back = λ k b g e n. kept.back k b g (was k b e) n;
    firsts = λ k b e. kept.firsts k b (was k b e);
    told = λ r v i p k id m b matches e. kept.told r v i p k id m b matches (was k b e);
    leaves = λ z l. elim (in_either z x.leaving (y ∷ []) l) [
      | inl o ↦ (let f = kept.leaves z o in record { unheld = none z.request f.unheld; below = f.below; asked = f.asked; unreplied = f.unreplied; right = f.right; free = f.free; stores = f.stores; unstored = f.unstored })
      | inr n ↦ elim n [
        | inl e ↦ subst (λ z. LeavingFits c s P past w (with_held y.request None x.held) x.ups x.asked z h) e new
        | inr z ↦ absurd z
      ]
    ];
    differ = differ_last y x.leaving kept.differ (λ l. clash (is_some (x.held y.request)) (ap is_some held) (ap is_some (subst (λ k. x.held k ≡ None) l.2 ((kept.leaves (l.0) l.1).unheld))));
    waited = λ k e. elim (kept.waited k e) [
      | inl q ↦ elim (still k q) [ inl a ↦ inl a | inr b ↦ elim b [ inl l ↦ inr (inl l) | inr r ↦ absurd (no_wait k e r) ] ]
      | inr q ↦ inr (elim q [ inl l ↦ inl (leaves_left k x.leaving (y ∷ []) l) | inr p ↦ inr p ])
    ];
    entries = kept.entries;
    olds = kept.olds;
    own = λ z l. elim (in_either z x.leaving (y ∷ []) l) [ inl o ↦ kept.own z o | inr n ↦ elim n [ inl e ↦ subst (λ (z : Leaving). is_some (x.expired z.request) ≡ true → is_failing z.given ≡ true → FailsSo c s z.request past w h z.given) e (λ some. own_cause) | inr z ↦ absurd z ] ];
    revived = λ z m l e. elim (in_either z x.leaving (y ∷ []) l) [ inl o ↦ kept.revived z m o e | inr n ↦ elim n [ inl is ↦ absurd (not_stale z m is e) | inr z ↦ absurd z ] ];
    unmarked = kept.unmarked;
    parts = kept.parts;
    beyond = kept.beyond;
  }
    where
      none : (k : ℕ) → x.held k ≡ None → with_held y.request None x.held k ≡ None
      none k e = go (y.request == k)
        where
          go : (b : Bool) → (if b then None else x.held k) ≡ None
          go true = refl
          go false = e

      was : (k : ℕ) (b : Waiting) → with_held y.request None x.held k ≡ Some b → x.held k ≡ Some b
      was k b e = go (y.request == k) e
        where
          go : (z : Bool) → (if z then None else x.held k) ≡ Some b → x.held k ≡ Some b
          go true e = absurd (cc)
          go false e = e

      still : (k : ℕ) → is_some (x.held k) ≡ true → (is_some (with_held y.request None x.held k) ≡ true) ⊎ (Leaves k (x.leaving ++ y ∷ []) ⊎ (replied k h ≡ true))
      still k e = elim (cases_eq y.request k) [
        | inl is ↦ inr (inl (subst (λ k. Leaves k (x.leaving ++ y ∷ [])) is (leaves_last y x.leaving)))
        | inr ne ↦ inl (ap is_some (held_other y.request k None ne) ∙ e)
      ]

      not_stale : (z : Leaving) (m : Octets) → y ≡ z → z.stale ≡ Some m → ⊥
      not_stale z m is e = (let n : Path (Option Octets) None (Some m) = sym fresh ∙ (ap (λ (z : Leaving). z.stale) is ∙ e) in cc)

      no_wait : (k : ℕ) → waits k h ≡ true → replied k h ≡ true → ⊥
      no_wait k e r = grind arith

      new : LeavingFits c s P past w (with_held y.request None x.held) x.ups x.asked y h
      new = (let f = kept.reqs y.request a held in record { unheld = held_this y.request y.request None refl; below = f.below; asked = (a.moment, subst (λ q. asking y.request h ≡ Some (record { request = q; moment = a.moment })) (sym is) f.asked); unreplied = f.unreplied; right = right; free = free; stores = stores; unstored = λ plain. unstored })

  -- what an expired message says is put in the place of a result that fails
  pub revive_kept : (before after : List Leaving) (y : Leaving) (m : Octets) → x.leaving ≡ before ++ y ∷ after → StaleFits c s x.expired (revive m y) m h → Kept c s P past w (record x { leaving = before ++ revive m y ∷ after }) h
  revive_kept before after y m is new = record {
    clock = kept.clock;
    place = kept.place;
    count = kept.count;
    pending = kept.pending;
    newest = kept.newest;
    row = kept.row;
    before = kept.before;
    known = kept.known;
    to_come = kept.to_come;
    reqs = kept.reqs;
    holders = λ i k lt e. (let f = kept.holders i k lt e in record { handed_over = f.handed_over; not_before = f.not_before; known = elim f.known [ inl q ↦ inl q | inr q ↦ inr (elim q [ inl l ↦ inl (on k l) | inr r ↦ inr r ]) ] });
    gave = kept.gave;
    posts = kept.posts;
    back = kept.back;
    firsts = kept.firsts;
    told = kept.told;
    leaves = λ z l. elim (was z l) [ inl e ↦ subst (λ z. LeavingFits c s P past w x.held x.ups x.asked z h) e here | inr o ↦ kept.leaves z o ];
    differ = differ_swap y (revive m y) refl before after (subst AllDiffer is kept.differ);
    waited = λ k e. elim (kept.waited k e) [ inl q ↦ inl q | inr q ↦ inr (elim q [ inl l ↦ inl (on k l) | inr p ↦ inr p ]) ];
    entries = kept.entries;
    olds = kept.olds;
    own = λ z l. elim (was z l) [ inl e ↦ subst (λ (z : Leaving). is_some (x.expired z.request) ≡ true → is_failing z.given ≡ true → FailsSo c s z.request past w h z.given) e (kept.own y there) | inr o ↦ kept.own z o ];
    revived = λ z o l e. elim (was z l) [ inl is_new ↦ subst₂ (λ z o. StaleFits c s x.expired z o h) is_new (same o (ap (λ (z : Leaving). z.stale) is_new ∙ e)) new | inr old ↦ kept.revived z o old e ];
    unmarked = kept.unmarked;
    parts = kept.parts;
    beyond = kept.beyond;
  }
    where
      there : IsIn y x.leaving
      there = subst (IsIn y) (sym is) (in_here y before after)

      on : (k : ℕ) → Leaves k x.leaving → Leaves k (before ++ revive m y ∷ after)
      on k l = leaves_swap k y (revive m y) refl before after (subst (Leaves k) is l)

      was : (z : Leaving) → IsIn z (before ++ revive m y ∷ after) → (revive m y ≡ z) ⊎ IsIn z x.leaving
      was z l = elim (in_but z (revive m y) before after l) [ inl e ↦ inl e | inr n ↦ inr (subst (IsIn z) (sym is) (in_more z y before after n)) ]

      same : (o : Octets) → Path (Option Octets) (Some m) (Some o) → m ≡ o
      same o e = cc

      here : LeavingFits c s P past w x.held x.ups x.asked (revive m y) h
      here = (let f = kept.leaves y there in record { unheld = f.unheld; below = f.below; asked = f.asked; unreplied = f.unreplied; right = f.right; free = f.free; stores = λ e. absurd (cc); unstored = λ plain. absurd (cc) })

  -- the asking is answered at once, or taken on
  no_ask : (r : Request) → x.pending ≡ Ask r → suc x.asked + 0 ≡ asks h
  no_ask r e = (let n = kept.count in let z : one_if (is_ask x.pending) ≡ 1 = ap (λ p. one_if (is_ask p)) e in omega arith)

  pub free_asked : (i : ℕ) → i < length c.servers → P.holds (x.ups i) x.asked ≡ false
  free_asked i lt = elim (decide (P.holds (x.ups i) x.asked)) [ inl y ↦ absurd (clash (handed x.asked i h) ((kept.holders i x.asked lt y).handed_over) ((kept.to_come x.asked (omega arith)).unhanded i)) | inr n ↦ n ]

  pub answer_kept : (r : Request) (y : Leaving) → x.pending ≡ Ask r → y.request ≡ x.asked → y.asked ≡ r → ReplyRight c s past w h y.request y.result
      → (y.is_stored ≡ true → (is_cacheable y.asked ≡ true) × MayStore c s y.request past w h y.result)
      → y.stale ≡ None
      → Kept c s P past w (answer y x) h
  answer_kept r y pend is asks_r right stores fresh = record {
    clock = kept.clock;
    place = kept.place;
    count = no_ask r pend;
    pending = λ q e. absurd (cc);
    newest = kept.newest;
    row = kept.row;
    before = kept.before;
    known = kept.known;
    to_come = λ k le. kept.to_come k (omega arith);
    reqs = λ k b e. (let f = kept.reqs k b e in record { asked = f.asked; below = (let lt = f.below in omega arith); unreplied = f.unreplied; octets = f.octets; tried = f.tried });
    holders = λ i k lt e. (let f = kept.holders i k lt e in record { handed_over = f.handed_over; not_before = f.not_before; known = elim f.known [ inl q ↦ inl q | inr q ↦ inr (elim q [ inl l ↦ inl (leaves_left k x.leaving (y ∷ []) l) | inr z ↦ inr z ]) ] });
    gave = kept.gave;
    posts = kept.posts;
    back = kept.back;
    firsts = kept.firsts;
    told = kept.told;
    leaves = λ z l. elim (in_either z x.leaving (y ∷ []) l) [
      | inl o ↦ (let f = kept.leaves z o in record { unheld = f.unheld; below = (let lt = f.below in omega arith); asked = f.asked; unreplied = f.unreplied; right = f.right; free = f.free; stores = f.stores; unstored = f.unstored })
      | inr n ↦ elim n [ inl e ↦ subst (λ z. LeavingFits c s P past w x.held x.ups (suc x.asked) z h) e new | inr z ↦ absurd z ]
    ];
    differ = differ_last y x.leaving kept.differ (λ l. (let lt = (kept.leaves (l.0) l.1).below in let e : (l.0).request ≡ x.asked = l.2 ∙ is in omega arith));
    waited = λ k e. elim (kept.waited k e) [
      | inl q ↦ inl q
      | inr q ↦ inr (inl (elim q [ inl l ↦ leaves_left k x.leaving (y ∷ []) l | inr p ↦ subst (λ k. Leaves k (x.leaving ++ y ∷ [])) (is ∙ sym p.1) (leaves_last y x.leaving) ]))
    ];
    entries = λ e j. (let f = kept.entries e j in record { cacheable = f.cacheable; covers = f.covers; below = (let lt = f.below in omega arith); asked = f.asked; moment = f.moment; was = f.was });
    olds = λ k e o. (let f = kept.olds k e o in record { fits = f.fits; below = (let lt = f.below in omega arith); covers = f.covers; server = f.server });
    own = λ z l. elim (in_either z x.leaving (y ∷ []) l) [ inl o ↦ kept.own z o | inr n ↦ elim n [ inl e ↦ (λ some. absurd (none_old (subst (λ (z : Leaving). is_some (x.expired z.request) ≡ true) (sym e) some))) | inr z ↦ absurd z ] ];
    revived = λ z m l e. elim (in_either z x.leaving (y ∷ []) l) [ inl o ↦ kept.revived z m o e | inr n ↦ elim n [ inl is ↦ absurd (not_stale z m is e) | inr z ↦ absurd z ] ];
    unmarked = kept.unmarked;
    parts = kept.parts;
    beyond = kept.beyond;
  }
    where
      not_stale : (z : Leaving) (m : Octets) → y ≡ z → z.stale ≡ Some m → ⊥
      not_stale z m is e = (let n : Path (Option Octets) None (Some m) = sym fresh ∙ (ap (λ (z : Leaving). z.stale) is ∙ e) in cc)

      none_old : is_some (x.expired y.request) ≡ true → ⊥
      none_old some = (let e = has_some (x.expired y.request) some in let lt = (kept.olds y.request (e.0) e.1).below in omega arith)

      new : LeavingFits c s P past w x.held x.ups (suc x.asked) y h
      new = (let p = kept.pending r pend in let t = kept.to_come x.asked (omega arith) in record {
        unheld = subst (λ k. x.held k ≡ None) (sym is) t.unheld;
        below = omega arith;
        asked = (x.now, subst (λ k. asking k h ≡ Some (record { request = y.asked; moment = x.now })) (sym is) (subst (λ q. asking x.asked h ≡ Some (record { request = q; moment = x.now })) (sym asks_r) p.asked));
        unreplied = subst (λ k. replied k h ≡ false) (sym is) t.unreplied;
        right = right;
        free = λ needs i lt. subst (λ k. P.holds (x.ups i) k ≡ false) (sym is) (free_asked i lt);
        stores = stores;
        unstored = λ plain e m q ca n v p. subst (λ k. is_asked_here k h ≡ true) (sym is) ((kept.pending r pend).here);
      })

  pub take_kept : (r : Request) (old : Option Entry) → x.pending ≡ Ask r → HasServer c → ((e : Entry) → old ≡ Some e → IsIn e x.stored × KeyCovers e.under r) → Kept c s P past w (take_on r old x) h
  take_kept r old pend server there = record {
    clock = kept.clock;
    place = kept.place;
    count = no_ask r pend;
    pending = λ q e. absurd (cc);
    newest = kept.newest;
    row = kept.row;
    before = kept.before;
    known = kept.known;
    to_come = λ k le. (let f = kept.to_come k (omega arith) in record { unheld = held_other x.asked k (Some (newcomer r x.now)) (λ e. (omega arith)) ∙ f.unheld; unreplied = f.unreplied; unhanded = f.unhanded });
    reqs = λ k b e. elim (cases_eq x.asked k) [
      | inl is ↦
          (let v : newcomer r x.now ≡ b = (let q : Path (Option Waiting) (Some (newcomer r x.now)) (Some b) = sym (held_this x.asked k (Some (newcomer r x.now)) is) ∙ e in cc) in
          let p = kept.pending r pend in
          let t = kept.to_come x.asked (omega arith) in
          subst (λ k. RequestFits k b (suc x.asked) h) is (subst (λ b. RequestFits x.asked b (suc x.asked) h) v (record { asked = p.asked; below = omega arith; unreplied = t.unreplied; octets = p.octets; tried = λ i. sym (t.unhanded i) })))
      | inr ne ↦ (let f = kept.reqs k b (sym (held_other x.asked k (Some (newcomer r x.now)) ne) ∙ e) in record { asked = f.asked; below = (let lt = f.below in omega arith); unreplied = f.unreplied; octets = f.octets; tried = f.tried })
    ];
    holders = λ i k lt e. (let f = kept.holders i k lt e in record { handed_over = f.handed_over; not_before = f.not_before; known = elim f.known [ inl q ↦ inl (some k q) | inr q ↦ inr q ] });
    gave = λ i k b lt e over. elim (cases_eq x.asked k) [
      | inl is ↦ absurd (clash (handed k i h) over (subst (λ k. handed k i h ≡ false) is ((kept.to_come x.asked (omega arith)).unhanded i)))
      | inr ne ↦ kept.gave i k b lt (sym (held_other x.asked k (Some (newcomer r x.now)) ne) ∙ e) over
    ];
    posts = kept.posts;
    back = λ k b g e n. elim (cases_eq x.asked k) [
      | inl is ↦ absurd (let v : newcomer r x.now ≡ b = (let q : Path (Option Waiting) (Some (newcomer r x.now)) (Some b) = sym (held_this x.asked k (Some (newcomer r x.now)) is) ∙ e in cc) in subst (IsIn g) (sym (ap (λ (q : Waiting). q.kept_back) v)) n)
      | inr ne ↦ kept.back k b g (sym (held_other x.asked k (Some (newcomer r x.now)) ne) ∙ e) n
    ];
    firsts = λ k b e. elim (cases_eq x.asked k) [
      | inl is ↦
          (let v : newcomer r x.now ≡ b = (let q : Path (Option Waiting) (Some (newcomer r x.now)) (Some b) = sym (held_this x.asked k (Some (newcomer r x.now)) is) ∙ e in cc) in
          subst (λ k. IsFirstOf c s P k b past w h) is (subst (λ b. IsFirstOf c s P x.asked b past w h) v (record { none = λ n z. never_before z; first = λ m n. absurd (cc) })))
      | inr ne ↦ kept.firsts k b (sym (held_other x.asked k (Some (newcomer r x.now)) ne) ∙ e)
    ];
    told = λ q v i p k id m b matches e. elim (cases_eq x.asked k) [
      | inl is ↦ absurd (not_before (record { request = q; moment = matches.comes.is_open.stands.asked.0 }) (subst (λ k. asking k past ≡ Some (record { request = q; moment = matches.comes.is_open.stands.asked.0 })) (sym is) matches.comes.is_open.stands.asked.1))
      | inr ne ↦ kept.told q v i p k id m b matches (sym (held_other x.asked k (Some (newcomer r x.now)) ne) ∙ e)
    ];
    leaves = λ z l. (let f = kept.leaves z l in record { unheld = held_other x.asked z.request (Some (newcomer r x.now)) (λ e. (let lt = f.below in omega arith)) ∙ f.unheld; below = (let lt = f.below in omega arith); asked = f.asked; unreplied = f.unreplied; right = f.right; free = f.free; stores = f.stores; unstored = f.unstored });
    differ = kept.differ;
    waited = λ k e. elim (kept.waited k e) [
      | inl q ↦ inl (some k q)
      | inr q ↦ elim q [ inl l ↦ inr (inl l) | inr p ↦ inl (ap is_some (held_this x.asked k (Some (newcomer r x.now)) (sym p.1))) ]
    ];
    entries = λ e j. (let f = kept.entries e j in record { cacheable = f.cacheable; covers = f.covers; below = (let lt = f.below in omega arith); asked = f.asked; moment = f.moment; was = f.was });
    olds = λ k e o. elim (cases_eq x.asked k) [ inl is ↦ new_old k e is (sym (old_this k old is) ∙ o) | inr ne ↦ (let f = kept.olds k e (sym (old_other k old ne) ∙ o) in record { fits = f.fits; below = (let lt = f.below in omega arith); covers = f.covers; server = f.server }) ];
    own = λ z l some. kept.own z l (subst (λ v. is_some v ≡ true) (old_other z.request old (not_asked z l)) some);
    revived = λ z m l e. (let f = kept.revived z m l e in record { unstored = f.unstored; fails = f.fails; old = subst (λ v. is_some v ≡ true) (sym (old_other z.request old (not_asked z l))) f.old; server = f.server; first = f.first; request = f.request; message = f.message; age = f.age; supplied = f.supplied; parts = f.parts; valid = f.valid; says = f.says });
    unmarked = kept.unmarked;
    parts = kept.parts;
    beyond = kept.beyond;
  }
    where
      old_other : (k : ℕ) (v : Option Entry) → x.asked ≢ k → with_expired x.asked v x.expired k ≡ x.expired k
      old_other k v ne = (let e : (x.asked == k) ≡ false = grind (arith, nat_tests) in ap (λ b. if b then v else x.expired k) e)

      old_this : (k : ℕ) (v : Option Entry) → x.asked ≡ k → with_expired x.asked v x.expired k ≡ v
      old_this k v is = (let e : (x.asked == k) ≡ true = grind (arith, nat_tests) in ap (λ b. if b then v else x.expired k) e)

      not_asked : (z : Leaving) → IsIn z x.leaving → x.asked ≢ z.request
      not_asked z l e = (let lt = (kept.leaves z l).below in omega arith)

      new_old : (k : ℕ) (e : Entry) → x.asked ≡ k → old ≡ Some e → OldFits c s k e (suc x.asked) h
      new_old k e is o =
          let t = there e o in
          let p = kept.pending r pend in
          record {
            fits = subst (λ k. EntryFits c s e k h) is (kept.entries e t.0);
            below = omega arith;
            covers = λ q u a. subst (KeyCovers e.under) (same_request r q x.now u (sym p.asked ∙ (ap (λ k. asking k h) is ∙ a))) t.1;
            server = server;
          }

      not_before : (a : Asking) → asking x.asked past ≡ Some a → ⊥
      not_before a q = (let lt = asking_below x.asked a past q in let n : asks past ≡ x.asked = subst (λ g. asks g ≡ x.asked) kept.row (here_asks x.asked h ((kept.pending r pend).here)) in omega arith)

      never_before : EarlierRow (OfRow (SomeCame c x.asked)) h → ⊥
      never_before z =
          (let a = earlier_known (OfRow (SomeCame c x.asked)) x.asked h (λ e q. (record { request = q.came.request; moment = q.came.matches.comes.is_open.stands.asked.0 }, q.came.matches.comes.is_open.stands.asked.1)) z in
          not_before (a.0) (subst (λ g. asking x.asked g ≡ Some (a.0)) kept.row a.1))

      some : (k : ℕ) → is_some (x.held k) ≡ true → is_some (with_held x.asked (Some (newcomer r x.now)) x.held k) ≡ true
      some k e = go (x.asked == k)
        where
          go : (b : Bool) → is_some (if b then Some (newcomer r x.now) else x.held k) ≡ true
          go true = refl
          go false = e
