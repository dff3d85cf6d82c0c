-- A request that is not tried is handed to no server, and what leaves of it is put as it is.
use Rattle.proof_right.proofs.PartLaws.{machine_of, Part}
use Rattle.std.proofs.Common.{◌≡◌, ℕ, ◌<◌, ◌≢◌, Bool, true, false, ◌⊎◌, inl, inr, Option, Some, None, List, [], ◌∷◌, ◌++◌, is_some, refl, arith, sym, ◌∙◌, ap, subst, ◌==◌, ◌&&◌, ◌||◌}
use Rattle.std.specs.Prelude.{Result, Ok, Err, if◌then◌else◌}
use Rattle.std.proofs.lemmas.Bool.{or_right}
use Rattle.std.proofs.lemmas.Bool.Decides.{nat_tests}
use Rattle.client_request.specs.Request.{Request}
use Rattle.client_request.specs.declared.error.Error.{Error}
use Rattle.client_request.specs.declared.event.What.{What}
use Rattle.client_request.specs.declared.event.Out.{Out}
use Rattle.client_request.specs.declared.event.Out.TheVariants.{Stale, Reply}
use Rattle.right_trace.specs.Trace.{History, Conf, Put, put_all}
use Rattle.right_trace.specs.Messages.{Octets, Composes}
use Rattle.right_trace.specs.Settings.{Settings}
use Rattle.right_trace.specs.Requests.{handed, replied}
use Rattle.right_trace.specs.Keys.{is_cacheable}
use Rattle.right_trace.specs.Parts.{IsIn}
use Rattle.right_trace.specs.Right.{Among, ServerOutRight, ServerOutsRight}
use Rattle.proof_right.specs.machine.Client.{Waiting, Leaving, Entry, Upper, Made, with_held, with_expired, told_of, revive, validity_of, outcome, outcome_of, IsOutcome, Caches, Passes, AtOnce, Refused, Viewed, Repeated, Nowhere, Move, Server_moves, Hands_on, Gives_up, Drops, Keeps_back, Delivers, Concludes, Times_out, Revives, Replies, Forgets, Derives, Answers, Takes_on, Moves, Rests, Goes}
use Rattle.proof_right.proofs.client.Kept.{Kept}
use Rattle.proof_right.proofs.client.Later.{put_more}
use Rattle.proof_right.proofs.client.Lists.{in_here, in_more, in_but, in_either}
use Rattle.proof_right.proofs.client.Moving.{acts_right_here, starts_right_here, cancels_right_here}
use Rattle.proof_right.proofs.client.Serving.{clash}
use Rattle.proof_right.proofs.client.Steps.{move_does}
use Rattle.client_request.specs.declared.error.Error.TheVariants as errors

-- nothing had expired of a request that is still to be answered or taken on
pub none_yet : (c : Conf) (s : Settings) (P : Part c) (past : History) (w : What) (x : Upper P.State) (h : History) → Kept c s P past w x h → (k : ℕ) → x.asked ≡ k → x.expired k ≡ None
none_yet c s P past w x h kept k is = go (x.expired k) refl
  where
    go : (o : Option Entry) → x.expired k ≡ o → o ≡ None
    go None e = refl
    go (Some z) e = absurd (let lt = (kept.olds k z e).below in omega arith)

module _ (c : Conf) (s : Settings) (compose : Request → Result Octets Error) (composes : Composes c compose) (P : Part c) (F : Result Octets Error → Bool) (k : ℕ) where
  -- it was asked, is not tried, and no server has it
  pub record Untried (x : Upper P.State) (h : History) : Type 0 where
    pub unheld : x.held k ≡ None
    pub below : k < x.asked
    pub unhanded : (i : ℕ) → handed k i h ≡ false
    pub no_old : x.expired k ≡ None
    pub calm : (y : Leaving) → IsIn y x.leaving → y.request ≡ k → (y.stale ≡ None) × (F y.result ≡ false)

  left : (f : ℕ → Option Waiting) (j : ℕ) → f k ≡ None → with_held j None f k ≡ None
  left f j e = go (j == k)
    where
      go : (b : Bool) → (if b then None else f k) ≡ None
      go true = refl
      go false = e

  other : (f : ℕ → Option Waiting) (j : ℕ) (v : Option Waiting) → j ≢ k → f k ≡ None → with_held j v f k ≡ None
  other f j v ne e = (let z : (j == k) ≡ false = grind (arith, nat_tests) in ap (λ b. if b then v else f k) z ∙ e)

  tried_other : (f : ℕ → Option Waiting) (j : ℕ) (a : Waiting) → f k ≡ None → f j ≡ Some a → j ≢ k
  tried_other f j a e q same = clash (is_some (f k)) (ap is_some (sym (ap f same) ∙ q)) (ap is_some e)

  pub outcome_request : (s : Settings) (j : ℕ) (q : Request) (z : Result Octets Error) (l : Leaving) → IsOutcome s j q z l → l.request ≡ j
  outcome_request s j q z _ (Passes n is none) = refl
  outcome_request s j q z _ Caches = go (is_cacheable q) (validity_of s z)
    where
      go : (b : Bool) (o : Option ℕ) → (outcome_of b o j q z).request ≡ j
      go false o = refl
      go true (Some n) = refl
      go true None = refl

  -- who leaves was tried
  left_calm : (x u : Upper P.State) (j : ℕ) (a : Waiting) (l : Leaving) → j ≢ k → u.leaving ≡ x.leaving → l.request ≡ j → (h : History) → Untried x h → (y : Leaving) → IsIn y (u.leaving ++ l ∷ []) → y.request ≡ k → (y.stale ≡ None) × (F y.result ≡ false)
  left_calm x u j a l ne same is h un y i q = elim (in_either y u.leaving (l ∷ []) i) [
    | inl o ↦ un.calm y (subst (IsIn y) same o) q
    | inr n ↦ elim n [ inl e ↦ absurd (ne (sym is ∙ (ap (λ (y : Leaving). y.request) e ∙ q))) | inr v ↦ absurd v ]
  ]

  module _ {n j : ℕ} {es : List Entry} where
    answered : (r : Request) (y : Leaving) → AtOnce c s compose n j es r y → y.request ≡ j
    answered r _ (Refused e q) = refl
    answered r _ (Viewed e m y parts age composed i q cover is valid says) = refl
    answered r _ (Repeated e v composed i q cover le) = refl
    answered r _ (Nowhere composed none) = outcome_request s j r (Err errors.NoTransportAvailable) (outcome s j r (Err errors.NoTransportAvailable)) Caches

  told_handed : (j : ℕ) (v : Result Octets Error) (o : Option Octets) (i : ℕ) (h : History) → handed k i (put_all (told_of j v o) h) ≡ handed k i h
  told_handed j v None i h = refl
  told_handed j v (Some m) i h = refl

  -- neither a mark of it is put, nor that it fails
  abbrev pub IsCalm : List Out → Type 0
  IsCalm outs = (Among (Stale k) outs → ⊥) × ((v : Result Octets Error) → F v ≡ true → Among (Reply k v) outs → ⊥)

  pub server_calm : (past : History) (w : What) (end : History) (xs : List Out) (h : History) → ServerOutsRight c past w end h xs → IsCalm xs
  server_calm past w end [] h r = (λ a. a, λ e f a. a)
  server_calm past w end (x ∷ xs) h r = (let i = server_calm past w end xs (Put x ∷ h) r.1 in (λ a. elim a [ inl is ↦ subst (ServerOutRight c past w h end) is r.0 | inr b ↦ i.0 b ], λ e f a. elim a [ inl is ↦ subst (ServerOutRight c past w h end) is r.0 | inr b ↦ i.1 e f b ]))

  told_calm : (j : ℕ) (v : Result Octets Error) (o : Option Octets) → (j ≡ k → (o ≡ None) × (F v ≡ false)) → IsCalm (told_of j v o)
  told_calm j v None calm = (λ a. elim a [ inl is ↦ absurd (cc) | inr b ↦ b ], λ e f a. elim a [ inl is ↦ fails e f is | inr b ↦ b ])
    where
      fails : (u : Result Octets Error) → F u ≡ true → Reply j v ≡ Reply k u → ⊥
      fails u f is = (let jk : j ≡ k = cc in let ve : v ≡ u = cc in clash (F u) f (subst (λ v. F v ≡ false) ve (calm jk).1))
  told_calm j v (Some m) calm = (
    λ a. elim a [ inl is ↦ marked is | inr b ↦ elim b [ inl is ↦ absurd (cc) | inr d ↦ d ] ],
    λ e f a. elim a [ inl is ↦ absurd (cc) | inr b ↦ elim b [ inl is ↦ given e is | inr d ↦ d ] ],
  )
    where
      marked : Stale j ≡ Stale k → ⊥
      marked is = (let jk : j ≡ k = cc in let n = (calm jk).0 in absurd (cc))

      given : (u : Result Octets Error) → Reply j (Ok m) ≡ Reply k u → ⊥
      given u is = (let jk : j ≡ k = cc in let n = (calm jk).0 in absurd (cc))

  calm_more : (xs ys : List Out) → IsCalm xs → IsCalm ys → IsCalm (xs ++ ys)
  calm_more xs ys a b = (λ i. elim (among_either (Stale k) xs ys i) [ inl l ↦ a.0 l | inr r ↦ b.0 r ], λ e f i. elim (among_either (Reply k e) xs ys i) [ inl l ↦ a.1 e f l | inr r ↦ b.1 e f r ])
    where
      among_either : (o : Out) (xs ys : List Out) → Among o (xs ++ ys) → Among o xs ⊎ Among o ys
      among_either o [] ys i = inr i
      among_either o (x ∷ xs) ys i = elim i [ inl e ↦ inl (inl e) | inr j ↦ elim (among_either o xs ys j) [ inl l ↦ inl (inr l) | inr r ↦ inr r ] ]

  none_calm : IsCalm []
  none_calm = (λ a. a, λ e f a. a)

  pub move_calm : (past : History) (w : What) (x : Upper P.State) (h : History) → Kept c s P past w x h → (d : Made P.State) → Move c s compose (machine_of P) x d → ((y : Leaving) → IsIn y x.leaving → y.request ≡ k → (y.stale ≡ None) × (F y.result ≡ false)) → IsCalm d.outs
  move_calm past w x h kept _ (Server_moves i d lt act) calm = server_calm past w (put_all d.outs h) d.outs h (acts_right_here c s P past w x h kept i lt d act (put_all d.outs h) (λ k e. e))
  move_calm past w x h kept _ (Hands_on i j a d lt held untried st) calm = server_calm past w (put_all d.outs h) d.outs h (starts_right_here c s P past w x h kept i lt j a held untried d st (put_all d.outs h) (λ k e. e))
  move_calm past w x h kept _ (Gives_up i j d lt held holds can) calm =
      let end : History = Put (Reply j (Err errors.TimedOut)) ∷ put_all d.outs h in
      server_calm past w end d.outs h (cancels_right_here c s P past w x h kept i lt j held holds d can end (λ l e. or_right (j == l) (replied l (put_all d.outs h)) e) (replied_now j (put_all d.outs h)))
    where
      replied_now : (k : ℕ) (g : History) → replied k (Put (Reply k (Err errors.TimedOut)) ∷ g) ≡ true
      replied_now k g = grind (arith, nat_tests)
  move_calm past w x h kept _ (Drops before after y is held) calm = none_calm
  move_calm past w x h kept _ (Keeps_back before after y a is held waits) calm = none_calm
  move_calm past w x h kept _ (Delivers before after y a l is held waits out) calm = none_calm
  move_calm past w x h kept _ (Concludes j a y l held tried free none is out) calm = none_calm
  move_calm past w x h kept _ (Times_out j a held late) calm = none_calm
  move_calm past w x h kept _ (Revives before after y e m is fails old revived) calm = none_calm
  move_calm past w x h kept _ (Replies before after y is) calm = told_calm y.request y.result y.stale (calm y (subst (IsIn y) (sym is) (in_here y before after)))
  move_calm past w x h kept _ (Forgets before after e is) calm = none_calm
  move_calm past w x h kept _ (Derives e j i co) calm = none_calm
  move_calm past w x h kept _ (Answers r y pend at) calm = none_calm
  move_calm past w x h kept _ (Takes_on r o old pend composed lt there) calm = none_calm

  pub move_untried : (past : History) (w : What) (x : Upper P.State) (h : History) → Kept c s P past w x h → (d : Made P.State) → Move c s compose (machine_of P) x d → Untried x h → Untried d.state (put_all d.outs h)
  move_untried past w x h kept _ (Server_moves i d lt act) u = record { unheld = u.unheld; below = u.below; unhanded = λ t. (P.acts_keeps i x.place past w (x.ups i) h d lt (kept.parts i lt) kept.place act).handed_on k t ∙ u.unhanded t; no_old = u.no_old; calm = u.calm }
  move_untried past w x h kept _ (Hands_on i j a d lt held untried st) u =
      let f = kept.reqs j a held in
      let ne = tried_other x.held j a u.unheld held in
      let z : (j == k) ≡ false = grind (arith, nat_tests) in
      record {
        unheld = other x.held j _ ne u.unheld;
        below = u.below;
        unhanded = λ t. (P.starts_keeps i x.place j a.moment a.request past w (x.ups i) h d lt (kept.parts i lt) kept.place f.octets f.asked (sym (f.tried i) ∙ untried) st).handed_on k t ∙ (ap (λ b. (b && (i == t)) || handed k t h) z ∙ u.unhanded t);
        no_old = u.no_old;
        calm = u.calm;
      }
  move_untried past w x h kept _ (Gives_up i j d lt held holds can) u = record { unheld = u.unheld; below = u.below; unhanded = λ t. (P.cancels_keeps i x.place j past w (x.ups i) h d lt (kept.parts i lt) kept.place holds can).handed_on k t ∙ u.unhanded t; no_old = u.no_old; calm = u.calm }
  move_untried past w x h kept _ (Drops before after y is held) u = record { unheld = u.unheld; below = u.below; unhanded = u.unhanded; no_old = u.no_old; calm = u.calm }
  move_untried past w x h kept _ (Keeps_back before after y a is held waits) u = record { unheld = other x.held y.request _ (tried_other x.held y.request a u.unheld held) u.unheld; below = u.below; unhanded = u.unhanded; no_old = u.no_old; calm = u.calm }
  move_untried past w x h kept _ (Delivers before after y a l is held waits out) u = record { unheld = left x.held _ u.unheld; below = u.below; unhanded = u.unhanded; no_old = u.no_old; calm = left_calm x (record x { board = before ++ after }) y.request a l (tried_other x.held y.request a u.unheld held) refl (outcome_request s y.request a.request y.result l out) h u }
  move_untried past w x h kept _ (Concludes j a y l held tried free none is out) u = record { unheld = left x.held _ u.unheld; below = u.below; unhanded = u.unhanded; no_old = u.no_old; calm = left_calm x x j a l (tried_other x.held j a u.unheld held) refl (outcome_request s j a.request y l out) h u }
  move_untried past w x h kept _ (Times_out j a held late) u = record { unheld = left x.held _ u.unheld; below = u.below; unhanded = u.unhanded; no_old = u.no_old; calm = left_calm x x j a (record { request = j; asked = a.request; result = Err errors.TimedOut; given = Err errors.TimedOut; is_stored = false; stale = None }) (tried_other x.held j a u.unheld held) refl refl h u }
  move_untried past w x h kept _ (Replies before after y is) u = record { unheld = u.unheld; below = u.below; unhanded = λ i. told_handed y.request y.result y.stale i h ∙ u.unhanded i; no_old = u.no_old; calm = λ z l. u.calm z (subst (IsIn z) (sym is) (in_more z y before after l)) }
  move_untried past w x h kept _ (Revives before after y e m is fails old revived) u = record { unheld = u.unheld; below = u.below; unhanded = u.unhanded; no_old = u.no_old; calm = λ z l same. elim (in_but z (revive m y) before after l) [ inl here ↦ absurd (let q : Path (Option Entry) None (Some e) = sym u.no_old ∙ (ap x.expired (sym (ap (λ (z : Leaving). z.request) here ∙ same)) ∙ old) in cc) | inr n ↦ u.calm z (subst (IsIn z) (sym is) (in_more z y before after n)) same ] }
  move_untried past w x h kept _ (Forgets before after e is) u = record { unheld = u.unheld; below = u.below; unhanded = u.unhanded; no_old = u.no_old; calm = u.calm }
  move_untried past w x h kept _ (Derives e j i co) u = record { unheld = u.unheld; below = u.below; unhanded = u.unhanded; no_old = u.no_old; calm = u.calm }
  move_untried past w x h kept _ (Answers r y pend at) u = record { unheld = u.unheld; below = (let lt = u.below in omega arith); unhanded = u.unhanded; no_old = u.no_old; calm = λ z l same. elim (in_either z x.leaving (y ∷ []) l) [ inl o ↦ u.calm z o same | inr n ↦ elim n [ inl e ↦ absurd (let b = u.below in let is : x.asked ≡ k = sym (answered r y at) ∙ (ap (λ (z : Leaving). z.request) e ∙ same) in omega arith) | inr v ↦ absurd v ] ] }
  move_untried past w x h kept _ (Takes_on r o old pend composed lt there) u = record { unheld = other x.held x.asked _ (λ same. (let b = u.below in omega arith)) u.unheld; below = (let b = u.below in omega arith); unhanded = u.unhanded; no_old = other_old old (λ same. (let b = u.below in omega arith)) u.no_old; calm = u.calm }
    where
      other_old : (v : Option Entry) → x.asked ≢ k → x.expired k ≡ None → with_expired x.asked v x.expired k ≡ None
      other_old v ne e = (let z : (x.asked == k) ≡ false = grind (arith, nat_tests) in ap (λ b. if b then v else x.expired k) z ∙ e)

  pub moves_untried : (past : History) (w : What) (x : Upper P.State) (h : History) (d : Made P.State) → Kept c s P past w x h → Moves c s compose (machine_of P) x d → Untried x h → ((i : ℕ) → handed k i (put_all d.outs h) ≡ false) × IsCalm d.outs
  moves_untried past w _ h _ kept (Rests x done) u = (u.unhanded, none_calm)
  moves_untried past w _ h _ kept (Goes x d e move more) u =
      let a = move_does c s compose composes P past w x h kept d move in
      let b = moves_untried past w d.state (put_all d.outs h) e a.leaves more (move_untried past w x h kept d move u) in
      (λ i. ap (handed k i) (put_more d.outs e.outs h) ∙ b.0 i, calm_more d.outs e.outs (move_calm past w x h kept d move u.calm) b.1)
