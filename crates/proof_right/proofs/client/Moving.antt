-- The three moves of a server's part, from its laws.
use Rattle.std.proofs.Common.{◌≡◌, ℕ, zero, suc, ◌<◌, ◌≤◌, ◌≢◌, Bool, true, false, ◌⊎◌, inl, inr, Option, Some, None, List, [], ◌∷◌, length, is_some, refl, arith, sym, ◌∙◌, ap, subst, ◌==◌, ◌&&◌, ◌||◌}
use Rattle.std.specs.Prelude.{Err, if◌then◌else◌}
use Rattle.std.proofs.lemmas.Bool.{or_right}
use Rattle.std.proofs.lemmas.Bool.Decides.{nat_tests}
use Rattle.client_request.specs.declared.event.What.{What}
use Rattle.client_request.specs.declared.event.Out.{Out}
use Rattle.client_request.specs.declared.event.Out.TheVariants.{Start, OpenDgram, OpenStream, Send, Write, Resume, Close, Stale, Reply}
use Rattle.client_request.specs.declared.event.Via.{Via}
use Rattle.client_request.specs.declared.event.Via.TheVariants.{Dgram, Stream}
use Rattle.right_trace.specs.Trace.{History, Conf, Use, ByDatagrams, ByStreams, Put, put_all}
use Rattle.right_trace.specs.Time.{now}
use Rattle.right_trace.specs.Requests.{replied, is_reply, is_mark, is_marked, start, started, is_start, same_via, handed}
use Rattle.right_trace.specs.Places.{Site, site, is_site, opens_as}
use Rattle.right_trace.specs.Orderly.{use_at, MayStart, FirstDatagram, FirstStream, AfterCutAnswer}
use Rattle.right_trace.specs.Settings.{Settings}
use Rattle.right_trace.specs.Right.{OutRight, ServerOutRight, ServerOutsRight, OutsRight, MarksStand}
use Rattle.proof_right.specs.machine.Part.{Post, Act, IsPosted}
use Rattle.proof_right.proofs.PartLaws.{Later, Part, none_more, this_one, or_this}
use Rattle.proof_right.specs.machine.Client.{Waiting, Upper, with_held, moved, hand, handing}
use Rattle.proof_right.proofs.client.Kept.{Nothing, Kept}
use Rattle.proof_right.proofs.client.Later.{carried_outs}
use Rattle.proof_right.proofs.client.Lists.{decide}
use Rattle.proof_right.proofs.client.Serving.{Serves, clash, serves_kept}
use Rattle.client_request.specs.declared.error.Error.TheVariants as errors

-- A server that the configuration has not is never used.

pub use_below : (s : ℕ) (us : List Use) (u : Use) → use_at s us ≡ Some u → s < length us
use_below s [] u e = absurd (cc)
use_below zero (v ∷ us) u e = omega arith
use_below (suc s) (v ∷ us) u e = (let z = use_below s us u e in omega arith)

starts_below : (c : Conf) (k i : ℕ) (past : History) (w : What) (h : History) (v : Via) → MayStart c k i past w h v → i < length c.servers
starts_below c k i past w h _ (FirstDatagram e un) = use_below i c.servers ByDatagrams e
starts_below c k i past w h _ (FirstStream e un) = use_below i c.servers ByStreams e
starts_below c k i past w h _ (AfterCutAnswer e un cut) = use_below i c.servers ByDatagrams e

no_stream_site : (t i : ℕ) (x : Option Site) → is_site Dgram t x ≡ false → is_site Dgram t (opens_as Stream i x) ≡ false
no_stream_site t i (Some y) e = e
no_stream_site t i None e = refl

no_site : (t i : ℕ) (x : Option Site) → i ≢ t → is_site Dgram t x ≡ false → is_site Dgram t (opens_as Dgram i x) ≡ false
no_site t i (Some y) ne e = e
no_site t i None ne e = grind (arith, nat_tests)

beyond_one : (c : Conf) (past : History) (w : What) (h end : History) (o : Out) (t : ℕ) → length c.servers ≤ t → ServerOutRight c past w h end o → Nothing t h → Nothing t (Put o ∷ h)
beyond_one c past w h end (Start k i v) t le r n = record { no_place = n.no_place; no_start = λ j u. started_still j u v r.1 }
  where
    not_it : (j : ℕ) (u v : Via) → i < length c.servers → is_start j t u (Start k i v) ≡ false
    not_it j u v lt = (let ne : i ≢ t = λ e. (omega arith) in go (same_via v u) (k == j) ne)
      where
        go : (a b : Bool) → i ≢ t → (a && (b && (i == t))) ≡ false
        go a b ne = grind (arith, nat_tests)

    started_still : (j : ℕ) (u v : Via) → MayStart c k i past w h v → started j t u (Put (Start k i v) ∷ h) ≡ false
    started_still j u v m = (let z = not_it j u v (starts_below c k i past w h v m) in ap (λ b. is_some (if b then Some (now h) else start j t u h)) z ∙ n.no_start j u)
beyond_one c past w h end (OpenDgram q i) t le r n = record { no_place = λ p. go p (q == p); no_start = n.no_start }
  where
    ne : i ≢ t
    ne e = (let lt = r.1 in omega arith)

    go : (p : ℕ) (b : Bool) → is_site Dgram t (if b then opens_as Dgram i (site p h) else site p h) ≡ false
    go p true = no_site t i (site p h) ne (n.no_place p)
    go p false = n.no_place p
beyond_one c past w h end (OpenStream q i) t le r n = record { no_place = λ p. go p (q == p); no_start = n.no_start }
  where
    go : (p : ℕ) (b : Bool) → is_site Dgram t (if b then opens_as Stream i (site p h) else site p h) ≡ false
    go p true = no_stream_site t i (site p h) (n.no_place p)
    go p false = n.no_place p
beyond_one c past w h end (Send p k id o) t le r n = record { no_place = n.no_place; no_start = n.no_start }
beyond_one c past w h end (Write p k id o) t le r n = record { no_place = n.no_place; no_start = n.no_start }
beyond_one c past w h end (Resume p o) t le r n = record { no_place = n.no_place; no_start = n.no_start }
beyond_one c past w h end (Stale l) t le r n = record { no_place = n.no_place; no_start = n.no_start }
beyond_one c past w h end (Close p) t le r n = record { no_place = n.no_place; no_start = n.no_start }
beyond_one c past w h end (Reply k x) t le r n = absurd r

pub beyond_all : (c : Conf) (past : History) (w : What) (end : History) (xs : List Out) (h : History) (t : ℕ) → length c.servers ≤ t → ServerOutsRight c past w end h xs → Nothing t h → Nothing t (put_all xs h)
beyond_all c past w end [] h t le r n = n
beyond_all c past w end (x ∷ xs) h t le r n = beyond_all c past w end xs (Put x ∷ h) t le r.1 (beyond_one c past w h end x t le r.0 n)

-- no mark stands last behind them
mark_one : (c : Conf) (past : History) (w : What) (h end : History) (o : Out) → ServerOutRight c past w h end o → (k : ℕ) → is_mark k o ≡ false
mark_one c past w h end (Start i j v) r k = refl
mark_one c past w h end (OpenDgram q i) r k = refl
mark_one c past w h end (OpenStream q i) r k = refl
mark_one c past w h end (Send p i id o) r k = refl
mark_one c past w h end (Write p i id o) r k = refl
mark_one c past w h end (Resume p o) r k = refl
mark_one c past w h end (Close p) r k = refl
mark_one c past w h end (Stale i) r k = absurd r
mark_one c past w h end (Reply i x) r k = absurd r

pub mark_all : (c : Conf) (past : History) (w : What) (end : History) (xs : List Out) (h : History) → ServerOutsRight c past w end h xs → ((k : ℕ) → is_marked k h ≡ false) → (k : ℕ) → is_marked k (put_all xs h) ≡ false
mark_all c past w end [] h r none = none
mark_all c past w end (x ∷ xs) h r none = mark_all c past w end xs (Put x ∷ h) r.1 (mark_one c past w h end x r.0)

-- and none stands among them
pub marks_stand : (c : Conf) (past : History) (w : What) (end : History) (xs : List Out) (h : History) → ServerOutsRight c past w end h xs → MarksStand xs
marks_stand c past w end [] h r = tt
marks_stand c past w end (Start i j v ∷ xs) h r = marks_stand c past w end xs (Put (Start i j v) ∷ h) r.1
marks_stand c past w end (OpenDgram q i ∷ xs) h r = marks_stand c past w end xs (Put (OpenDgram q i) ∷ h) r.1
marks_stand c past w end (OpenStream q i ∷ xs) h r = marks_stand c past w end xs (Put (OpenStream q i) ∷ h) r.1
marks_stand c past w end (Send p i id o ∷ xs) h r = marks_stand c past w end xs (Put (Send p i id o) ∷ h) r.1
marks_stand c past w end (Write p i id o ∷ xs) h r = marks_stand c past w end xs (Put (Write p i id o) ∷ h) r.1
marks_stand c past w end (Resume p o ∷ xs) h r = marks_stand c past w end xs (Put (Resume p o) ∷ h) r.1
marks_stand c past w end (Close p ∷ xs) h r = marks_stand c past w end xs (Put (Close p) ∷ h) r.1
marks_stand c past w end (Stale i ∷ xs) h r = absurd r.0
marks_stand c past w end (Reply i x ∷ xs) h r = absurd r.0

-- what a server's outs owe is what outs owe
out_right : (c : Conf) (s : Settings) (past : History) (w : What) (h end : History) (o : Out) → ServerOutRight c past w h end o → OutRight c s past w h end o
out_right c s past w h end (Start k i v) r = r
out_right c s past w h end (OpenDgram q i) r = r
out_right c s past w h end (OpenStream q i) r = r
out_right c s past w h end (Send p k id o) r = r
out_right c s past w h end (Write p k id o) r = r
out_right c s past w h end (Resume p o) r = r
out_right c s past w h end (Stale l) r = absurd r
out_right c s past w h end (Close p) r = r
out_right c s past w h end (Reply k x) r = absurd r

pub outs_right : (c : Conf) (s : Settings) (past : History) (w : What) (end : History) (xs : List Out) (h : History) → ServerOutsRight c past w end h xs → OutsRight c s past w end h xs
outs_right c s past w end [] h r = tt
outs_right c s past w end (x ∷ xs) h r = (out_right c s past w h end x r.0, outs_right c s past w end xs (Put x ∷ h) r.1)

-- who is held where a request is handed over
or_this_from : (k j i : ℕ) (held : ℕ → Bool) → or_this k held j ≡ true → (held j ≡ true) ⊎ (this_one k i j i ≡ true)
or_this_from k j i held e = elim (decide (k == j)) [ inl y ↦ inr (let z : (i == i) ≡ true = grind (arith, nat_tests) in rw (y, z) refl) | inr n ↦ inl (sym (ap (λ b. if b then true else held j) n) ∙ e) ]

or_this_to : (k j i : ℕ) (held : ℕ → Bool) → (held j ≡ true) ⊎ (this_one k i j i ≡ true) → or_this k held j ≡ true
or_this_to k j i held (inl e) = go (k == j)
  where
    go : (b : Bool) → (if b then true else held j) ≡ true
    go true = refl
    go false = e
or_this_to k j i held (inr e) = go (k == j) (i == i) e
  where
    go : (b z : Bool) → (b && z) ≡ true → (if b then true else held j) ≡ true
    go true z q = refl
    go false z q = absurd (cc)

or_this_not : (k j i : ℕ) (held : ℕ → Bool) → held j ≡ false → this_one k i j i ≡ false → or_this k held j ≡ false
or_this_not k j i held e f = elim (decide (or_this k held j)) [ inl y ↦ absurd (elim (or_this_from k j i held y) [ inl a ↦ clash (held j) a e | inr b ↦ clash (this_one k i j i) b f ]) | inr n ↦ n ]

module _ (c : Conf) (s : Settings) (P : Part c) (past : History) (w : What) (x : Upper P.State) (h : History) (kept : Kept c s P past w x h) (i : ℕ) (lt : i < length c.servers) where
  pub acts_right_here : (d : Act P.State) → P.Acts i x.place (x.ups i) d → (end : History) → Later (put_all d.outs h) end → ServerOutsRight c past w end h d.outs
  acts_right_here d act = P.acts_right i x.place past w (x.ups i) h d lt (kept.parts i lt) kept.place act (λ k held. (kept.holders i k lt held).not_before)

  acts_serves : (d : Act P.State) → P.Acts i x.place (x.ups i) d → Serves c s P past w x x.held none_more i h d
  acts_serves d act =
      let r = acts_right_here d act (put_all d.outs h) (λ k e. e) in
      let g = P.acts_gives i x.place past w (x.ups i) h d lt (kept.parts i lt) kept.place act in
      record {
        is_server = lt;
        keeps = P.acts_keeps i x.place past w (x.ups i) h d lt (kept.parts i lt) kept.place act;
        on = carried_outs c past w (put_all d.outs h) d.outs h r;
        same_held = λ k. refl;
        retried = λ k b e. (b, e, refl, refl, refl, λ t. refl);
        hands_new = λ k t e. absurd (cc);
        held_from = λ k e. inl (g.no_more k e);
        held_to = λ k is o e. (let o' : P.holds (x.ups i) k ≡ true = elim o [ inl a ↦ a | inr b ↦ absurd (cc) ] in g.given k o' e);
        post_from = λ y p. inl (g.was_held y p);
        let_go = g.let_go;
        right = g.right;
        over = g.over;
        stays_over = λ k t f no. g.stays_over k t (λ e. (f e).0) no;
        beyond = λ t le n. beyond_all c past w (put_all d.outs h) d.outs h t le r n;
        unmarked = mark_all c past w (put_all d.outs h) d.outs h r;
        late = P.acts_late i x.place past w (x.ups i) h d lt (kept.parts i lt) kept.place act;
        goes = λ p k m is. P.acts_goes i x.place past w (x.ups i) h d p k m lt (kept.parts i lt) kept.place act;
      }

  pub acts_kept : (d : Act P.State) → P.Acts i x.place (x.ups i) d → Kept c s P past w (moved i d x) (put_all d.outs h)
  acts_kept d act = serves_kept c s P past w x x.held none_more i h d kept (acts_serves d act)

  -- a request is handed over
  module _ (k : ℕ) (a : Waiting) (held : x.held k ≡ Some a) (untried : a.tried i ≡ false) where
    unhanded : handed k i h ≡ false
    unhanded = sym ((kept.reqs k a held).tried i) ∙ untried

    abbrev hands : (j t : ℕ) → Bool
    hands = this_one k i

    starters : (j : ℕ) → or_this k (P.holds (x.ups i)) j ≡ true → replied j past ≡ false
    starters j e = elim (or_this_from k j i (P.holds (x.ups i)) e) [
      | inl o ↦ (kept.holders i j lt o).not_before
      | inr n ↦ (let is : k ≡ j = one k j n in subst (λ j. replied j past ≡ false) is (kept.before k ((kept.reqs k a held).unreplied)))
    ]
      where
        one : (k j : ℕ) → this_one k i j i ≡ true → k ≡ j
        one k j n = grind (arith, nat_tests)

    pub starts_right_here : (d : Act P.State) → P.Starts i x.place k a.request (x.ups i) d → (end : History) → Later (put_all d.outs h) end → ServerOutsRight c past w end h d.outs
    starts_right_here d st = (let f = kept.reqs k a held in P.starts_right i x.place k a.moment a.request past w (x.ups i) h d lt (kept.parts i lt) kept.place f.octets f.asked unhanded st starters)

    one_at : (j t : ℕ) → hands j t ≡ true → (k ≡ j) × (i ≡ t)
    one_at j t e = (grind (arith, nat_tests), grind (arith, nat_tests))

    starts_serves : (d : Act P.State) → P.Starts i x.place k a.request (x.ups i) d → Serves c s P past w x (with_held k (Some (handing i a)) x.held) hands i h d
    starts_serves d st =
        let f = kept.reqs k a held in
        let r = starts_right_here d st (put_all d.outs h) (λ k e. e) in
        let g = P.starts_gives i x.place k a.moment a.request past w (x.ups i) h d lt (kept.parts i lt) kept.place f.octets f.asked unhanded st in
        record {
          is_server = lt;
          keeps = P.starts_keeps i x.place k a.moment a.request past w (x.ups i) h d lt (kept.parts i lt) kept.place f.octets f.asked unhanded st;
          on = carried_outs c past w (put_all d.outs h) d.outs h r;
          same_held = λ j. same j (k == j) refl;
          retried = λ j b e. again j b (k == j) refl e;
          hands_new = λ j t e. (let o = one_at j t e in (sym o.1, subst (λ j. is_some (x.held j) ≡ true) o.0 (ap is_some held), subst (λ j. handed j i h ≡ false) o.0 unhanded));
          held_from = λ j e. or_this_from k j i (P.holds (x.ups i)) (g.no_more j e);
          held_to = λ j is o e. g.given j (or_this_to k j i (P.holds (x.ups i)) o) e;
          post_from = λ y p. or_this_from k y.request i (P.holds (x.ups i)) (g.was_held y p);
          let_go = g.let_go;
          right = g.right;
          over = g.over;
          stays_over = λ j t q no. g.stays_over j t (λ e. (let z = q e in or_this_not k j i (P.holds (x.ups i)) z.0 z.1)) no;
          beyond = λ t le n. beyond_all c past w (put_all d.outs h) d.outs h t le r n;
          unmarked = mark_all c past w (put_all d.outs h) d.outs h r;
          late = P.starts_late i x.place k a.moment a.request past w (x.ups i) h d lt (kept.parts i lt) kept.place f.octets f.asked unhanded st;
          goes = λ p j m is. P.starts_goes i x.place k a.moment a.request past w (x.ups i) h d p j m lt (kept.parts i lt) kept.place f.octets f.asked unhanded st;
        }
      where
        same : (j : ℕ) (b : Bool) → (k == j) ≡ b → is_some (if b then Some (handing i a) else x.held j) ≡ is_some (x.held j)
        same j true e = (let z : k ≡ j = grind (arith, nat_tests) in sym (subst (λ j. is_some (x.held j) ≡ true) z (ap is_some held)))
        same j false e = refl

        again : (j : ℕ) (b : Waiting) (z : Bool) → (k == j) ≡ z → (if z then Some (handing i a) else x.held j) ≡ Some b
            → (a : Waiting) × (x.held j ≡ Some a) × (b.request ≡ a.request) × (b.moment ≡ a.moment) × (b.kept_back ≡ a.kept_back) × ((t : ℕ) → b.tried t ≡ (hands j t || a.tried t))
        again j b true e q =
            let is : k ≡ j = grind (arith, nat_tests) in
            let v : handing i a ≡ b = cc in
            (a, subst (λ j. x.held j ≡ Some a) is held, sym (ap (λ (y : Waiting). y.request) v), sym (ap (λ (y : Waiting). y.moment) v), sym (ap (λ (y : Waiting). y.kept_back) v), λ t. sym (ap (λ (y : Waiting). y.tried t) v) ∙ ap (λ g. (g && (i == t)) || a.tried t) (sym e))
        again j b false e q = (b, q, refl, refl, refl, λ t. ap (λ g. (g && (i == t)) || b.tried t) (sym e))

    pub starts_kept : (d : Act P.State) → P.Starts i x.place k a.request (x.ups i) d → Kept c s P past w (moved i d (hand k i a x)) (put_all d.outs h)
    starts_kept d st = serves_kept c s P past w x (with_held k (Some (handing i a)) x.held) hands i h d kept (starts_serves d st)

  -- a request is given up
  module _ (k : ℕ) (held : x.held k ≡ None) (holds : P.holds (x.ups i) k ≡ true) where
    pub cancels_right_here : (d : Act P.State) → P.Cancels i x.place k (x.ups i) d → (end : History) → Later (put_all d.outs h) end → replied k end ≡ true → ServerOutsRight c past w end h d.outs
    cancels_right_here d can = P.cancels_right i x.place k past w (x.ups i) h d lt (kept.parts i lt) kept.place holds can ((kept.holders i k lt holds).not_before)

    cancels_serves : (d : Act P.State) → P.Cancels i x.place k (x.ups i) d → Serves c s P past w x x.held none_more i h d
    cancels_serves d can =
        let end : History = Put (Reply k (Err errors.TimedOut)) ∷ put_all d.outs h in
        let r = cancels_right_here d can end (λ j e. or_right (is_reply j (Reply k (Err errors.TimedOut))) (replied j (put_all d.outs h)) e) (grind (arith, nat_tests)) in
        let less = P.cancels_held i x.place k past w (x.ups i) h d lt (kept.parts i lt) kept.place holds can in
        let none = P.cancels_posts i x.place k past w (x.ups i) h d lt (kept.parts i lt) kept.place holds can in
        let no_post : (y : Post) → IsPosted y d.posts → ⊥ = λ y p. subst (IsPosted y) none p in
        record {
          is_server = lt;
          keeps = P.cancels_keeps i x.place k past w (x.ups i) h d lt (kept.parts i lt) kept.place holds can;
          on = carried_outs c past w end d.outs h r;
          same_held = λ j. refl;
          retried = λ j b e. (b, e, refl, refl, refl, λ t. refl);
          hands_new = λ j t e. absurd (cc);
          held_from = λ j e. inl (was j (k == j) (sym (less j) ∙ e));
          held_to = λ j is o e. absurd (gone j is (elim o [ inl a ↦ a | inr b ↦ absurd (cc) ]) (sym (less j) ∙ e));
          post_from = λ y p. absurd (no_post y p);
          let_go = λ y p. absurd (no_post y p);
          right = λ y p q. absurd (no_post y p);
          over = λ y p q. no_post y p;
          stays_over = λ j t f no. P.cancels_over i x.place k past w (x.ups i) h d lt (kept.parts i lt) kept.place holds can j t (λ e. (f e).0) no;
          beyond = λ t le n. beyond_all c past w end d.outs h t le r n;
          unmarked = mark_all c past w end d.outs h r;
          late = P.cancels_late i x.place k past w (x.ups i) h d lt (kept.parts i lt) kept.place holds can;
          goes = λ p j m is. P.cancels_goes i x.place k past w (x.ups i) h d p j m lt (kept.parts i lt) kept.place holds can (λ same. clash (is_some (x.held j)) is (ap is_some (subst (λ j. x.held j ≡ None) (sym same) held)));
        }
      where
        was : (j : ℕ) (b : Bool) → (if b then false else P.holds (x.ups i) j) ≡ true → P.holds (x.ups i) j ≡ true
        was j true e = absurd (cc)
        was j false e = e

        gone : (j : ℕ) → is_some (x.held j) ≡ true → P.holds (x.ups i) j ≡ true → (if k == j then false else P.holds (x.ups i) j) ≡ false → ⊥
        gone j is o e = elim (decide (k == j)) [
          | inl y ↦ (let z : k ≡ j = grind (arith, nat_tests) in clash (is_some (x.held k)) (subst (λ j. is_some (x.held j) ≡ true) (sym z) is) (ap is_some held))
          | inr n ↦ clash (P.holds (x.ups i) j) o (sym (ap (λ b. if b then false else P.holds (x.ups i) j) n) ∙ e)
        ]

    pub cancels_kept : (d : Act P.State) → P.Cancels i x.place k (x.ups i) d → Kept c s P past w (moved i d x) (put_all d.outs h)
    cancels_kept d can = serves_kept c s P past w x x.held none_more i h d kept (cancels_serves d can)
