-- A move of a server's part.
use Rattle.std.proofs.Common.{◌≡◌, ℕ, ◌<◌, ◌≤◌, ◌≢◌, Bool, true, false, ◌⊎◌, inl, inr, Option, Some, None, length, is_some, refl, arith, sym, ◌∙◌, ap, subst, ◌&&◌, ◌||◌}
use Rattle.std.specs.Prelude.{Result, Ok, Err, map, not}
use Rattle.std.proofs.lemmas.Bool.{cases_eq}
use Rattle.std.proofs.lemmas.Bool.Decides.{nat_tests}
use Rattle.client_request.specs.Request.{Request}
use Rattle.client_request.specs.Carries.{IsOfOctets}
use Rattle.client_request.specs.declared.error.Error.{Error}
use Rattle.client_request.specs.declared.event.What.{What}
use Rattle.right_trace.specs.Trace.{History, Conf, put_all}
use Rattle.right_trace.specs.Messages.{Octets}
use Rattle.right_trace.specs.Requests.{asking, is_marked, replied, waits, handed}
use Rattle.right_trace.specs.Exchanges.{Matches}
use Rattle.client_request.specs.declared.event.Via.{Via}
use Rattle.right_trace.specs.Settings.{Settings}
use Rattle.right_trace.specs.Time.{OfRow}
use Rattle.right_trace.specs.Owed.{IsOwed, AllAreDone}
use Rattle.right_trace.specs.Coming.{SomeCame, NoneCame}
use Rattle.proof_right.specs.machine.Part.{Post, Act, IsPosted}
use Rattle.proof_right.proofs.PartLaws.{PostRight, Keeps, Goes, Late, Part}
use Rattle.proof_right.specs.machine.Client.{Posted, Given, Waiting, Leaving, Entry, Upper, with_up, first_message, tag, moved}
use Rattle.right_trace.specs.Parts.{IsIn}
use Rattle.proof_right.proofs.client.Kept.{RequestFits, IsOnBoard, HasGiven, needs_all, needs_for, MayStore, EntryFits, ToCome, Nothing, HeldFits, PostFits, GivenFits, LeavingFits, IsFirstOf, IsTold, IsExpected, IsPosted as OnBoard, IsKeptBack, IsPassedOver, Kept}
use Rattle.proof_right.proofs.client.Later.{Carried, post_on, asked_on, fresh_stays, direct_on, given_on, first_on, excused_on, reply_on, fails_on, revived_on, entry_on, old_on}
use Rattle.proof_right.proofs.client.Lists.{decide, in_left, in_right, in_either, in_tagged, tagged_in}

pub no_some : {A : Type 0} (x : Option A) (b : Bool) → is_some x ≡ b → b ≡ false → x ≡ None
no_some None b e f = refl
no_some (Some y) b e f = absurd (let z : true ≡ false = e ∙ f in cc)

pub has_some : {A : Type 0} (x : Option A) → is_some x ≡ true → (a : A) × (x ≡ Some a)
has_some None e = absurd (cc)
has_some (Some y) e = (y, refl)

pub clash : (b : Bool) → b ≡ true → b ≡ false → ⊥
clash b p q = (let z : true ≡ false = sym p ∙ q in absurd (cc))

pub waits_same : (k : ℕ) (h h' : History) → asking k h' ≡ asking k h → replied k h' ≡ replied k h → waits k h' ≡ waits k h
waits_same k h h' a r = ap (λ o. is_some o && not (replied k h')) a ∙ ap (λ b. is_some (asking k h) && not b) r

with_same : {U : Type 0} (i : ℕ) (u : U) (f : ℕ → U) → with_up i u f i ≡ u
with_same i u f = grind (arith, nat_tests)

with_other : {U : Type 0} (i t : ℕ) (u : U) (f : ℕ → U) → t ≢ i → with_up i u f t ≡ f t
with_other i t u f ne = grind (arith, nat_tests)

module _ (c : Conf) (s : Settings) (P : Part c) where
  -- What the move of server i's part is: `hands` says which requests it takes on, `held` what is then known of those that are tried.
  pub record Serves (past : History) (w : What) (x : Upper P.State) (held : ℕ → Option Waiting) (hands : (j t : ℕ) → Bool) (i : ℕ) (h : History) (d : Act P.State) : Type 1 where
    pub is_server : i < length c.servers
    pub keeps : Keeps P.State P.Fits hands i past w h d
    pub on : Carried c past w h (put_all d.outs h)
    pub same_held : (k : ℕ) → is_some (held k) ≡ is_some (x.held k)
    pub retried : (k : ℕ) (b : Waiting) → held k ≡ Some b → (a : Waiting) × (x.held k ≡ Some a) × (b.request ≡ a.request) × (b.moment ≡ a.moment) × (b.kept_back ≡ a.kept_back) × ((t : ℕ) → b.tried t ≡ (hands k t || a.tried t))
    pub hands_new : (k t : ℕ) → hands k t ≡ true → (t ≡ i) × (is_some (x.held k) ≡ true) × (handed k i h ≡ false)
    pub held_from : (k : ℕ) → P.holds d.state k ≡ true → (P.holds (x.ups i) k ≡ true) ⊎ (hands k i ≡ true)
    pub held_to : (k : ℕ) → is_some (x.held k) ≡ true → (P.holds (x.ups i) k ≡ true) ⊎ (hands k i ≡ true) → P.holds d.state k ≡ false → (y : Result Octets Error) × IsPosted (record { request = k; result = y }) d.posts
    pub post_from : (y : Post) → IsPosted y d.posts → (P.holds (x.ups i) y.request ≡ true) ⊎ (hands y.request i ≡ true)
    pub let_go : (y : Post) → IsPosted y d.posts → P.holds d.state y.request ≡ false
    pub right : (y : Post) → IsPosted y d.posts → replied y.request past ≡ false → PostRight c y.request y.result past w (put_all d.outs h)
    pub over : (y : Post) → IsPosted y d.posts → IsOwed c i y.request past w (put_all d.outs h) → ⊥
    pub stays_over : (k t : ℕ) → (t ≡ i → (P.holds (x.ups i) k ≡ false) × (hands k i ≡ false)) → (IsOwed c t k past w h → ⊥) → IsOwed c t k past w (put_all d.outs h) → ⊥
    pub beyond : (t : ℕ) → length c.servers ≤ t → Nothing t h → Nothing t (put_all d.outs h)
    pub unmarked : ((k : ℕ) → is_marked k h ≡ false) → (k : ℕ) → is_marked k (put_all d.outs h) ≡ false
    pub late : Late c P.State P.holds P.Expects i past w h d
    pub goes : (p k : ℕ) (m : Octets) → is_some (x.held k) ≡ true → Goes c P.State P.Expects past w h (x.ups i) d p k m

  module _ (past : History) (w : What) (x : Upper P.State) (held : ℕ → Option Waiting) (hands : (j t : ℕ) → Bool) (i : ℕ) (h : History) (d : Act P.State) (kept : Kept c s P past w x h) (sv : Serves past w x held hands i h d) where
    abbrev h' : History
    h' = put_all d.outs h

    abbrev x' : Upper P.State
    x' = moved i d (record x { held = held })

    -- a server's state now
    at_other : (t k : ℕ) (b : Bool) → t ≢ i → P.holds (x'.ups t) k ≡ b → P.holds (x.ups t) k ≡ b
    at_other t k b ne e = sym (ap (λ u. P.holds u k) (with_other i t d.state x.ups ne)) ∙ e

    from_other : (t k : ℕ) (b : Bool) → t ≢ i → P.holds (x.ups t) k ≡ b → P.holds (x'.ups t) k ≡ b
    from_other t k b ne e = ap (λ u. P.holds u k) (with_other i t d.state x.ups ne) ∙ e

    at_this : (t k : ℕ) (b : Bool) → t ≡ i → P.holds (x'.ups t) k ≡ b → P.holds d.state k ≡ b
    at_this t k b e q = sym (ap (λ u. P.holds u k) (ap x'.ups e ∙ with_same i d.state x.ups)) ∙ q

    from_this : (t k : ℕ) (b : Bool) → t ≡ i → P.holds d.state k ≡ b → P.holds (x'.ups t) k ≡ b
    from_this t k b e q = ap (λ u. P.holds u k) (ap x'.ups e ∙ with_same i d.state x.ups) ∙ q

    handed_still : (k t : ℕ) → handed k t h ≡ true → handed k t h' ≡ true
    handed_still k t e = sv.keeps.handed_on k t ∙ (go (hands k t) (handed k t h) e)
      where
        go : (a b : Bool) → b ≡ true → (a || b) ≡ true
        go true b e = refl
        go false b e = e

    handed_new : (k t : ℕ) → hands k t ≡ true → handed k t h' ≡ true
    handed_new k t e = sv.keeps.handed_on k t ∙ ap (λ a. a || handed k t h) e

    -- it does not hold again what it let go
    unheld_still : (t k : ℕ) → (t ≡ i → hands k i ≡ false) → P.holds (x.ups t) k ≡ false → P.holds (x'.ups t) k ≡ false
    unheld_still t k no_hand e = elim (cases_eq t i) [
      | inl is ↦ elim (decide (P.holds d.state k)) [
        | inl ye ↦ absurd (elim (sv.held_from k ye) [ inl old ↦ clash (P.holds (x.ups i) k) old (subst (λ t. P.holds (x.ups t) k ≡ false) is e) | inr new ↦ clash (hands k i) new (no_hand is) ])
        | inr none ↦ from_this t k false is none
      ]
      | inr ne ↦ from_other t k false ne e
    ]

    hands_none : (k : ℕ) → x.held k ≡ None → (t : ℕ) → hands k t ≡ false
    hands_none k e t = elim (decide (hands k t)) [ inl y ↦ absurd (clash (is_some (x.held k)) ((sv.hands_new k t y).1) (ap is_some e)) | inr n ↦ n ]

    hands_not : (k : ℕ) → handed k i h ≡ true → hands k i ≡ false
    hands_not k e = elim (decide (hands k i)) [ inl y ↦ absurd (clash (handed k i h) e ((sv.hands_new k i y).2)) | inr n ↦ n ]

    hand_at : (k t : ℕ) → handed k t h ≡ true → t ≡ i → hands k i ≡ false
    hand_at k t e is = hands_not k (subst (λ t. handed k t h ≡ true) is e)

    no_reply : (k : ℕ) (b : Bool) → replied k h ≡ b → replied k h' ≡ b
    no_reply k b e = sv.keeps.silent k ∙ e

    to_come : (k : ℕ) → x.asked ≤ k → ToCome held k h'
    to_come k le =
        let f = kept.to_come k le in
        record {
          unheld = no_some (held k) false (sv.same_held k ∙ ap is_some f.unheld) refl;
          unreplied = no_reply k false f.unreplied;
          unhanded = λ t. sv.keeps.handed_on k t ∙ (ap (λ b. b || handed k t h) (hands_none k f.unheld t) ∙ f.unhanded t);
        }

    reqs : (k : ℕ) (b : Waiting) → held k ≡ Some b → RequestFits k b x.asked h'
    reqs k b e =
        let r = sv.retried k b e in
        let a : Waiting = r.0 in
        let f = kept.reqs k a r.1 in
        record {
          asked = subst (λ q. asking k h' ≡ Some (record { request = q; moment = b.moment })) (sym r.2) (subst (λ n. asking k h' ≡ Some (record { request = a.request; moment = n })) (sym r.3) (asked_on c past w h h' sv.on k a.moment a.request f.asked));
          below = f.below;
          unreplied = no_reply k false f.unreplied;
          octets = subst IsOfOctets (sym r.2) f.octets;
          tried = λ t. r.5 t ∙ (ap (λ q. hands k t || q) (f.tried t) ∙ sym (sv.keeps.handed_on k t));
        }

    held_still : (t k : ℕ) → HeldFits c s P past x.held x.leaving t k h → HeldFits c s P past held x.leaving t k h'
    held_still t k f = record {
      handed_over = handed_still k t f.handed_over;
      not_before = f.not_before;
      known = elim f.known [ inl a ↦ inl (sv.same_held k ∙ a) | inr b ↦ inr (elim b [ inl l ↦ inl l | inr r ↦ inr (no_reply k true r) ]) ];
    }

    holders : (t k : ℕ) → t < length c.servers → P.holds (x'.ups t) k ≡ true → HeldFits c s P past held x.leaving t k h'
    holders t k lt held' = elim (cases_eq t i) [
      | inl is ↦ elim (sv.held_from k (at_this t k true is held')) [
        | inl old ↦ held_still t k (kept.holders t k lt (subst (λ t. P.holds (x.ups t) k ≡ true) (sym is) old))
        | inr new ↦ (let q = (sv.hands_new k i new).1 in
            let a = has_some (x.held k) q in
            record { handed_over = subst (λ t. handed k t h' ≡ true) (sym is) (handed_new k i new); not_before = kept.before k ((kept.reqs k (a.0) a.1).unreplied); known = inl (sv.same_held k ∙ q) })
      ]
      | inr ne ↦ held_still t k (kept.holders t k lt (at_other t k true ne held'))
    ]

    on_board : (t k : ℕ) → IsOnBoard t k x.board → IsOnBoard t k x'.board
    on_board t k b = (b.0, in_left (b.0) x.board (map (tag i) d.posts) b.1, b.2, b.3)

    posted : (k : ℕ) (y : Result Octets Error) → IsPosted (record { request = k; result = y }) d.posts → IsOnBoard i k x'.board
    posted k y p = (tag i (record { request = k; result = y }), in_right (tag i (record { request = k; result = y })) x.board (map (tag i) d.posts) (tagged_in i (record { request = k; result = y }) d.posts p), refl, refl)

    gave : (t k : ℕ) (b : Waiting) → t < length c.servers → held k ≡ Some b → handed k t h' ≡ true → (P.holds (x'.ups t) k ≡ true) ⊎ (IsOnBoard t k x'.board ⊎ HasGiven t b.kept_back)
    gave t k b lt e over =
        let r = sv.retried k b e in
        let a : Waiting = r.0 in
        let was : handed k t h ≡ true → (P.holds (x.ups t) k ≡ true) ⊎ (IsOnBoard t k x.board ⊎ HasGiven t a.kept_back) = kept.gave t k a lt r.1 in
        let is_held : is_some (x.held k) ≡ true = ap is_some r.1 in
        let given : HasGiven t a.kept_back → HasGiven t b.kept_back = λ g. subst (HasGiven t) (sym r.4) g in
        elim (cases_eq t i) [
          | inl is ↦ elim (decide (P.holds d.state k)) [
            | inl ye ↦ inl (from_this t k true is ye)
            | inr none ↦
                (let out : (P.holds (x.ups i) k ≡ true) ⊎ (hands k i ≡ true) → IsOnBoard t k x'.board = λ o. (let p = sv.held_to k is_held o none in subst (λ t. IsOnBoard t k x'.board) (sym is) (posted k (p.0) p.1)) in
                elim (decide (hands k t)) [
                  | inl new ↦ inr (inl (out (inr (subst (λ t. hands k t ≡ true) is new))))
                  | inr not_new ↦ elim (was (sym (sv.keeps.handed_on k t ∙ ap (λ q. q || handed k t h) not_new) ∙ over)) [
                    | inl old ↦ inr (inl (out (inl (subst (λ t. P.holds (x.ups t) k ≡ true) is old))))
                    | inr other ↦ inr (elim other [ inl o ↦ inl (on_board t k o) | inr g ↦ inr (given g) ])
                  ]
                ])
          ]
          | inr ne ↦
              (let not_new : hands k t ≡ false = elim (decide (hands k t)) [ inl y ↦ absurd (ne (sv.hands_new k t y).0) | inr n ↦ n ] in
              elim (was (sym (sv.keeps.handed_on k t ∙ ap (λ q. q || handed k t h) not_new) ∙ over)) [
                | inl old ↦ inl (from_other t k true ne old)
                | inr other ↦ inr (elim other [ inl o ↦ inl (on_board t k o) | inr g ↦ inr (given g) ])
              ])
        ]

    posts_fit : (y : Posted) → IsIn y x'.board → PostFits c s P past w x'.ups y h'
    posts_fit y j = elim (in_either y x.board (map (tag i) d.posts) j) [ inl old ↦ from_old old | inr new ↦ from_new new ]
      where
        from_old : IsIn y x.board → PostFits c s P past w x'.ups y h'
        from_old o =
            let f = kept.posts y o in
            record {
              server = f.server;
              handed_over = handed_still y.request y.server f.handed_over;
              right = post_on c past w h h' sv.on y.request y.result f.right;
              over = sv.stays_over y.request y.server (λ is. (subst (λ t. P.holds (x.ups t) y.request ≡ false) is f.unheld, hand_at y.request y.server f.handed_over is)) f.over;
              unheld = unheld_still y.server y.request (hand_at y.request y.server f.handed_over) f.unheld;
            }

        fits : (z : Post) → IsPosted z d.posts → PostFits c s P past w x'.ups (tag i z) h'
        fits z p =
            let before : (handed z.request i h' ≡ true) × (replied z.request past ≡ false) = elim (sv.post_from z p) [
              | inl old ↦ (let f = kept.holders i z.request sv.is_server old in (handed_still z.request i f.handed_over, f.not_before))
              | inr new ↦ (let a = has_some (x.held z.request) ((sv.hands_new z.request i new).1) in (handed_new z.request i new, kept.before z.request ((kept.reqs z.request (a.0) a.1).unreplied)))
            ] in
            record {
              server = sv.is_server;
              handed_over = before.0;
              right = sv.right z p before.1;
              over = sv.over z p;
              unheld = from_this i z.request false refl (sv.let_go z p);
            }

        from_new : IsIn y (map (tag i) d.posts) → PostFits c s P past w x'.ups y h'
        from_new n = (let t = in_tagged i y d.posts n in subst (λ y. PostFits c s P past w x'.ups y h') t.2 (fits (t.0) t.1))

    back : (k : ℕ) (b : Waiting) (g : Given) → held k ≡ Some b → IsIn g b.kept_back → GivenFits c s P past w x'.ups k g h'
    back k b g e j =
        let r = sv.retried k b e in
        let f = kept.back k (r.0) g r.1 (subst (IsIn g) r.4 j) in
        record {
          server = f.server;
          handed_over = handed_still k g.server f.handed_over;
          waits = f.waits;
          right = given_on c past w h h' sv.on k g.result f.right;
          over = sv.stays_over k g.server (λ is. (subst (λ t. P.holds (x.ups t) k ≡ false) is f.unheld, hand_at k g.server f.handed_over is)) f.over;
          unheld = unheld_still g.server k (hand_at k g.server f.handed_over) f.unheld;
        }

    firsts : (k : ℕ) (b : Waiting) → held k ≡ Some b → IsFirstOf c s P k b past w h'
    firsts k b e =
        let r = sv.retried k b e in
        let f = kept.firsts k (r.0) r.1 in
        record {
          none = λ n z. f.none (ap first_message (sym r.4) ∙ n) (sv.on.earlier_back (OfRow (SomeCame c k)) z);
          first = λ m n. first_on c past w h h' sv.on k m (f.first m (ap first_message (sym r.4) ∙ n));
        }

    told : (r : Request) (v : Via) (j p k id : ℕ) (m : Octets) (b : Waiting) → Matches c r v j p k id m past w h' → held k ≡ Some b → IsTold c s P past w x'.ups x'.board j p k m b h'
    told r v j p k id m b matches e = elim (sv.late j r v p k id m matches) [
      | inl before ↦ go (kept.told r v j p k id m a before q.1)
      | inr new ↦ IsExpected (subst (λ j. P.Expects (x'.ups j) p k m) (sym new.0) (subst (λ u. P.Expects u p k m) (sym (with_same i d.state x.ups)) new.2))
    ]
      where
        q : (a : Waiting) × (x.held k ≡ Some a) × (b.request ≡ a.request) × (b.moment ≡ a.moment) × (b.kept_back ≡ a.kept_back) × ((t : ℕ) → b.tried t ≡ (hands k t || a.tried t))
        q = sv.retried k b e

        a : Waiting
        a = q.0

        post : Posted
        post = record { server = j; request = k; result = Ok m }

        go : IsTold c s P past w x.ups x.board j p k m (q.0) h → IsTold c s P past w x'.ups x'.board j p k m b h'
        go (IsExpected ex) = elim (cases_eq j i) [
          | inl same ↦ elim (sv.goes p k m (ap is_some q.1) (subst (λ j. P.Expects (x.ups j) p k m) same ex)) [
            | inl out ↦ OnBoard (subst (λ j. IsIn (record { server = j; request = k; result = Ok m }) x'.board) (sym same) (in_right (record { server = i; request = k; result = Ok m }) x.board (map (tag i) d.posts) (tagged_in i (record { request = k; result = Ok m }) d.posts out)))
            | inr still ↦ elim still [ inl z ↦ IsExpected (subst (λ j. P.Expects (x'.ups j) p k m) (sym same) (subst (λ u. P.Expects u p k m) (sym (with_same i d.state x.ups)) z)) | inr z ↦ IsPassedOver z ]
          ]
          | inr ne ↦ IsExpected (subst (λ u. P.Expects u p k m) (sym (with_other i j d.state x.ups ne)) ex)
        ]
        go (OnBoard o) = OnBoard (in_left post x.board (map (tag i) d.posts) o)
        go (IsKeptBack g j z) = IsKeptBack g (subst (IsIn g) (sym q.4) j) z
        go (IsPassedOver z) = IsPassedOver (excused_on c p past w d.outs h z)

    stored_on : (k : ℕ) (y : Result Octets Error) → MayStore c s k past w h y → MayStore c s k past w h' y
    stored_on k (Ok m) q = (fresh_stays c past w h h' sv.on s k m q.0, q.1)
    stored_on k (Err e) q = (direct_on c past w h h' sv.on s k e q.0, q.1)

    none_still : (k : ℕ) → x.held k ≡ None → ((t : ℕ) → t < length c.servers → P.holds (x.ups t) k ≡ false) → NoneCame c k past w h → NoneCame c k past w h'
    none_still k none free nc = record {
      here = λ z. elim (sv.late z.came.server z.came.request z.came.via z.came.place k z.came.id z.message z.came.matches) [
        | inl before ↦ nc.here (record { message = z.message; came = record { request = z.came.request; via = z.came.via; server = z.came.server; place = z.came.place; id = z.came.id; matches = before }; counts = λ e. z.counts (excused_on c z.came.place past w d.outs h e) })
        | inr new ↦ elim (sv.held_from k new.1) [ inl old ↦ clash (P.holds (x.ups i) k) old (free i sv.is_server) | inr hand ↦ clash (hands k i) hand (hands_none k none i) ]
      ];
      before = λ e. nc.before (sv.on.earlier_back (OfRow (SomeCame c k)) e);
    }

    needs_left : (y : Leaving) → needs_all s y.result ≡ true → needs_for s y ≡ true
    needs_left y e = ap (λ b. b || needs_all s y.given) e

    needs_given : (y : Leaving) → needs_all s y.given ≡ true → needs_for s y ≡ true
    needs_given y e = go (needs_all s y.result)
      where
        go : (b : Bool) → (b || needs_all s y.given) ≡ true
        go true = refl
        go false = e

    done_still : (y : Leaving) → IsIn y x.leaving → needs_for s y ≡ true → AllAreDone c y.request past w h → AllAreDone c y.request past w h'
    done_still y j needs a =
        let f = kept.leaves y j in
        record {
          handed = λ t lt. handed_still y.request t (a.handed t lt);
          over = λ t lt. sv.stays_over y.request t (λ is. (subst (λ t. P.holds (x.ups t) y.request ≡ false) is (f.free needs t lt), hands_none y.request f.unheld i)) (a.over t lt);
        }

    leaves : (y : Leaving) → IsIn y x.leaving → LeavingFits c s P past w held x'.ups x.asked y h'
    leaves y j =
        let f = kept.leaves y j in
        let none = hands_none y.request f.unheld in
        record {
          unheld = no_some (held y.request) false (sv.same_held y.request ∙ ap is_some f.unheld) refl;
          below = f.below;
          asked = (f.asked.0, asked_on c past w h h' sv.on y.request (f.asked.0) y.asked f.asked.1);
          unreplied = no_reply y.request false f.unreplied;
          right = reply_on c past w h h' sv.on s y.request y.result (λ needs nc. none_still y.request f.unheld (λ t lt. f.free (needs_left y needs) t lt) nc) (λ needs a. done_still y j (needs_left y needs) a) f.right;
          free = λ needs t lt. unheld_still t y.request (λ is. none i) (f.free needs t lt);
          stores = λ e. (let q = f.stores e in (q.0, stored_on y.request y.result q.1));
          unstored = λ plain e m r ca n v p. sv.on.here y.request ∙ f.unstored plain e m r ca n v p;
        }

    entries : (e : Entry) → IsIn e x.stored → EntryFits c s e x.asked h'
    entries e j = entry_on c past w h h' sv.on s e x.asked (kept.entries e j)

    parts : (t : ℕ) → t < length c.servers → P.Fits t past w (x'.ups t) h'
    parts t lt = elim (cases_eq t i) [
      | inl is ↦ subst (λ t. P.Fits t past w (x'.ups t) h') (sym is) (subst (λ u. P.Fits i past w u h') (sym (with_same i d.state x.ups)) sv.keeps.fits)
      | inr ne ↦ subst (λ u. P.Fits t past w u h') (sym (with_other i t d.state x.ups ne)) (sv.keeps.others t (x.ups t) ne (kept.parts t lt))
    ]

    pub serves_kept : Kept c s P past w x' h'
    serves_kept = record {
      clock = kept.clock ∙ sym sv.on.clock;
      place = sv.keeps.reaches;
      count = kept.count ∙ sym sv.on.count;
      pending = λ r e. (let p = kept.pending r e in record { asked = asked_on c past w h h' sv.on x.asked x.now r p.asked; here = sv.on.here x.asked ∙ p.here; octets = p.octets });
      newest = sv.on.event ∙ kept.newest;
      row = sv.on.row ∙ kept.row;
      before = λ k e. kept.before k (sym (sv.keeps.silent k) ∙ e);
      known = λ k a e. sv.on.asked k ∙ kept.known k a e;
      to_come = to_come;
      reqs = reqs;
      holders = holders;
      gave = gave;
      posts = posts_fit;
      back = back;
      firsts = firsts;
      told = told;
      leaves = leaves;
      differ = kept.differ;
      waited = λ k e. elim (kept.waited k (sym (waits_same k h h' (sv.on.asked k) (sv.keeps.silent k)) ∙ e)) [ inl a ↦ inl (sv.same_held k ∙ a) | inr b ↦ inr b ];
      entries = entries;
      olds = λ k e o. old_on c past w h h' sv.on s k e x.asked (kept.olds k e o);
      own = λ y j some fails.
          (let f = kept.leaves y j in
          fails_on c past w h h' sv.on s y.request y.given (λ needs nc. none_still y.request f.unheld (λ t lt. f.free (needs_given y needs) t lt) nc) (λ needs a. done_still y j (needs_given y needs) a) (kept.own y j some fails));
      revived = λ y m j e. revived_on c past w h h' sv.on s x.expired y m (kept.revived y m j e);
      unmarked = sv.unmarked kept.unmarked;
      parts = parts;
      beyond = λ t le. sv.beyond t le (kept.beyond t le);
    }
