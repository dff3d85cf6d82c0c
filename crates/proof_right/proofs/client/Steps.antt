-- Moves, rows and runs.
use Rattle.proof_right.proofs.PartLaws.{machine_of, Later, Part, PostRight}
use Rattle.std.proofs.Common.{◌≡◌, ℕ, ◌+◌, ◌<◌, ◌≤◌, true, false, ◌⊎◌, inl, inr, Option, Some, None, List, [], ◌∷◌, ◌++◌, length, is_some, refl, arith, sym, ◌∙◌, ap, subst, ◌==◌}
use Rattle.std.specs.Prelude.{Result, Ok, Err}
use Rattle.std.proofs.lemmas.Bool.{or_right}
use Rattle.std.proofs.lemmas.Bool.Decides.{nat_tests}
use Rattle.client_request.specs.Request.{Request}
use Rattle.client_request.specs.declared.error.Error.{Error}
use Rattle.client_request.specs.declared.event.What.{What}
use Rattle.client_request.specs.declared.event.Out.{Out}
use Rattle.client_request.specs.declared.event.Out.TheVariants.{Start, OpenDgram, OpenStream, Send, Write, Resume, Close, Stale, Reply}
use Rattle.right_trace.specs.Trace.{History, Conf, Put, put_all, after}
use Rattle.right_trace.specs.Messages.{Octets, Composes}
use Rattle.right_trace.specs.Requests.{replied, is_asked_here}
use Rattle.right_trace.specs.Settings.{Settings}
use Rattle.right_trace.specs.Keys.{key_of}
use Rattle.right_trace.specs.Validity.{waits_for_others}
use Rattle.right_trace.specs.Errors.{HereOrEarlier, Deadline, Own, is_failing, FailsSo}
use Rattle.right_trace.specs.Right.{OutsRight, ReplyRight, MarksStand}
use Rattle.proof_right.specs.machine.Client.{Given, Waiting, Leaving, Entry, Upper, Made, unmade, with_held, keeping, leave, answer, take_on, Move, Server_moves, Hands_on, Gives_up, Drops, Keeps_back, Delivers, Concludes, Times_out, Revives, Revived, revive, told_of, Replies, Forgets, Derives, Answers, Takes_on, Moves, Rests, Goes, IsDone}
use Rattle.right_trace.specs.Parts.{IsIn}
use Rattle.proof_right.proofs.client.Kept.{needs_for, Leaves, MayStore, WasReply, EntryFits, StaleFits, Kept}
use Rattle.proof_right.proofs.client.Later.{later_all, put_more}
use Rattle.proof_right.proofs.client.Lists.{in_right, in_here, in_more, in_but, leaves_left, leaves_swap}
use Rattle.proof_right.proofs.client.Serving.{clash}
use Rattle.proof_right.proofs.client.Moving.{outs_right, marks_stand, acts_right_here, acts_kept, starts_right_here, starts_kept, cancels_right_here, cancels_kept}
use Rattle.proof_right.proofs.client.Taking.{stored_kept, board_kept, back_kept, leave_kept, revive_kept, answer_kept, take_kept}
use Rattle.proof_right.proofs.client.Outcomes.{OutcomeFits, delivered_so, delivered_fails, concluded_so, concluded_fails, outcome_needs_for, outcome_plain, best_given, all_done, best_is, at_once, at_once_plain}
use Rattle.proof_right.proofs.client.Replying.{reply_right, told_kept, told_marks}
use Rattle.right_trace.proofs.Asked.{keys_trans, serves}
use Rattle.client_request.specs.declared.error.Error.TheVariants as errors

pub right_more : (c : Conf) (s : Settings) (past : History) (w : What) (end : History) (xs ys : List Out) (h : History) → OutsRight c s past w end h xs → OutsRight c s past w end (put_all xs h) ys → OutsRight c s past w end h (xs ++ ys)
right_more c s past w end [] ys h a b = b
right_more c s past w end (x ∷ xs) ys h a b = (a.0, right_more c s past w end xs ys (Put x ∷ h) a.1 b)

-- marks stand before the same replies
marks_more : (xs ys : List Out) → MarksStand xs → MarksStand ys → MarksStand (xs ++ ys)
marks_more [] ys a b = b
marks_more (Start i j v ∷ xs) ys a b = marks_more xs ys a b
marks_more (OpenDgram q i ∷ xs) ys a b = marks_more xs ys a b
marks_more (OpenStream q i ∷ xs) ys a b = marks_more xs ys a b
marks_more (Send p i id o ∷ xs) ys a b = marks_more xs ys a b
marks_more (Write p i id o ∷ xs) ys a b = marks_more xs ys a b
marks_more (Resume p o ∷ xs) ys a b = marks_more xs ys a b
marks_more (Close p ∷ xs) ys a b = marks_more xs ys a b
marks_more (Stale k ∷ Reply j (Ok m) ∷ xs) ys a b = (a.0, marks_more xs ys a.1 b)
marks_more (Stale k ∷ _) ys a b = absurd a.0
marks_more (Reply k x ∷ xs) ys a b = marks_more xs ys a b

module _ (c : Conf) (s : Settings) (compose : Request → Result Octets Error) (composes : Composes c compose) (P : Part c) where
  -- what leaves is promised its reply by the row's end
  abbrev pub Promised : Upper P.State → History → Type 0
  Promised x end = (k : ℕ) → Leaves k x.leaving → replied k end ≡ true

  pub record Does (past : History) (w : What) (x : Upper P.State) (h : History) (d : Made P.State) : Type 0 where
    pub right : (end : History) → Later (put_all d.outs h) end → Promised x end → OutsRight c s past w end h d.outs
    pub leaves : Kept c s P past w d.state (put_all d.outs h)
    pub promise : (k : ℕ) → Leaves k x.leaving → Leaves k d.state.leaving ⊎ (replied k (put_all d.outs h) ≡ true)
    pub marks : MarksStand d.outs

  state_does : (past : History) (w : What) (x y : Upper P.State) (h : History) → Kept c s P past w y h → ((k : ℕ) → Leaves k x.leaving → Leaves k y.leaving) → Does past w x h (unmade y)
  state_does past w x y h kept f = record { right = λ end later promise. tt; leaves = kept; promise = λ k l. inl (f k l); marks = tt }

  module _ (past : History) (w : What) (x : Upper P.State) (h : History) (kept : Kept c s P past w x h) where
    -- a request that leaves with an outcome
    leaves_so : (k : ℕ) (a : Waiting) (y : Leaving) → x.held k ≡ Some a → OutcomeFits c s past w h k a.request y → (needs_for s y ≡ true → (i : ℕ) → i < length c.servers → P.holds (x.ups i) k ≡ false) → (is_failing y.given ≡ true → FailsSo c s k past w h y.given) → y.stale ≡ None → Kept c s P past w (leave y x) h
    leaves_so k a y held f free own plain = leave_kept c s P past w x h kept y a (subst (λ k. x.held k ≡ Some a) (sym f.request) held) f.asked
        (subst (λ k. ReplyRight c s past w h k y.result) (sym f.request) f.right)
        (λ needs i lt. subst (λ k. P.holds (x.ups i) k ≡ false) (sym f.request) (free needs i lt))
        (λ e. (let q = f.stores e in (q.0, subst (λ k. MayStore c s k past w h y.result) (sym f.request) q.1)))
        (λ e m q ca n v l. subst (λ k. is_asked_here k h ≡ true) (sym f.request) (f.unstored e m q ca n v l))
        (λ fails. subst (λ k. FailsSo c s k past w h y.given) (sym f.request) (own fails)) plain

    pub move_does : (d : Made P.State) → Move c s compose (machine_of P) x d → Does past w x h d
    move_does _ (Server_moves i d lt act) = record {
      right = λ end later promise. outs_right c s past w end d.outs h (acts_right_here c s P past w x h kept i lt d act end later);
      leaves = acts_kept c s P past w x h kept i lt d act;
      promise = λ k l. inl l;
      marks = marks_stand c past w (put_all d.outs h) d.outs h (acts_right_here c s P past w x h kept i lt d act (put_all d.outs h) (λ k e. e));
    }
    move_does _ (Hands_on i k a d lt held untried st) = record {
      right = λ end later promise. outs_right c s past w end d.outs h (starts_right_here c s P past w x h kept i lt k a held untried d st end later);
      leaves = starts_kept c s P past w x h kept i lt k a held untried d st;
      promise = λ k l. inl l;
      marks = marks_stand c past w (put_all d.outs h) d.outs h (starts_right_here c s P past w x h kept i lt k a held untried d st (put_all d.outs h) (λ k e. e));
    }
    move_does _ (Gives_up i k d lt held holds can) = record {
      right = λ end later promise. outs_right c s past w end d.outs h (cancels_right_here c s P past w x h kept i lt k held holds d can end later (elim ((kept.holders i k lt holds).known) [
        | inl z ↦ absurd (clash (is_some (x.held k)) z (ap is_some held))
        | inr z ↦ elim z [ inl l ↦ promise k l | inr r ↦ later k (later_all d.outs h k r) ]
      ]));
      leaves = cancels_kept c s P past w x h kept i lt k held holds d can;
      promise = λ k l. inl l;
      marks = (let end : History = Put (Reply k (Err errors.TimedOut)) ∷ put_all d.outs h in marks_stand c past w end d.outs h (cancels_right_here c s P past w x h kept i lt k held holds d can end (λ j e. or_right (k == j) (replied j (put_all d.outs h)) e) (replied_now k (put_all d.outs h))));
    }
      where
        replied_now : (k : ℕ) (g : History) → replied k (Put (Reply k (Err errors.TimedOut)) ∷ g) ≡ true
        replied_now k g = grind (arith, nat_tests)
    move_does _ (Drops before after y is held) = state_does past w x (record x { board = before ++ after }) h (board_kept c s P past w x h kept before after y is (λ a e. absurd (clash (is_some (x.held y.request)) (ap is_some e) (ap is_some held)))) (λ k l. l)
    move_does _ (Keeps_back before after y a is held waits) =
        let g : Given = record { server = y.server; result = y.result } in
        let b = back_kept c s P past w x h kept y a (subst (IsIn y) (sym is) (in_here y before after)) held waits in
        let x' : Upper P.State = record x { held = with_held y.request (Some (keeping g a)) x.held } in
        state_does past w x (record x' { board = before ++ after }) h (board_kept c s P past w x' h b before after y is (λ b e. (let q : Path (Option Waiting) (Some (keeping g a)) (Some b) = sym (this y.request (Some (keeping g a))) ∙ e in kept_there g a b q))) (λ k l. l)
      where
        this : (k : ℕ) (v : Option Waiting) → with_held k v x.held k ≡ v
        this k v = grind (arith, nat_tests)

        kept_there : (g : Given) (a b : Waiting) → Path (Option Waiting) (Some (keeping g a)) (Some b) → (z : Given) × IsIn z b.kept_back × (z.server ≡ g.server) × (z.result ≡ g.result)
        kept_there g a b e = (let v : keeping g a ≡ b = cc in (g, subst (IsIn g) (ap (λ (z : Waiting). z.kept_back) v) (in_right g a.kept_back (g ∷ []) (inl refl)), refl, refl))
    move_does _ (Delivers before after y a z is held waits out) =
        let f = kept.reqs y.request a held in
        let p = kept.posts y (subst (IsIn y) (sym is) (in_here y before after)) in
        let o = delivered_so c s past w h y.request a.moment a.request f.asked y.result z out (λ z e. kept.known y.request z e) p.right waits in
        let l = leaves_so y.request a z held o (λ needs. absurd (clash (waits_for_others s y.result) (outcome_needs_for s y.request a.request y.result z out needs) waits)) (λ fails. delivered_fails c s past w h y.request y.request a.request y.result z out p.right waits) (outcome_plain s y.request a.request y.result z out) in
        let x' : Upper P.State = leave z x in
        state_does past w x (record x' { board = before ++ after }) h (board_kept c s P past w x' h l before after y is (λ b e. absurd (nobody y.request z b o.request e))) (λ k l. leaves_left k x.leaving (z ∷ []) l)
      where
        nobody : (k : ℕ) (z : Leaving) (b : Waiting) → z.request ≡ k → with_held z.request None x.held k ≡ Some b → ⊥
        nobody k z b e q = (let n : with_held z.request None x.held k ≡ None = grind (arith, nat_tests) in let v : Path (Option Waiting) None (Some b) = sym n ∙ q in absurd (cc))
    move_does _ (Concludes k a y z held tried free none is out) =
        let f = kept.reqs k a held in
        let g = best_given a.kept_back y is in
        let b = kept.back k a (g.0) held g.1 in
        let all = all_done c s compose composes P past w x h kept k a held tried free none in
        let right : HereOrEarlier true (PostRight c k y) past w h = subst (λ y. HereOrEarlier true (PostRight c k y) past w h) g.2 b.right in
        let waits : waits_for_others s y ≡ true = subst (λ y. waits_for_others s y ≡ true) g.2 b.waits in
        let first = best_is c s compose composes P past w x h kept k a y a.request a.moment f.asked held free none is in
        let o = concluded_so c s past w h k a.moment a.request f.asked y z out (λ z e. kept.known k z e) right waits all first in
        state_does past w x (leave z x) h (leaves_so k a z held o (λ needs i lt. free i lt) (λ fails. concluded_fails c s past w h k a.moment a.request f.asked y z out right waits all first) (outcome_plain s k a.request y z out)) (λ j l. leaves_left j x.leaving (z ∷ []) l)
    move_does _ (Times_out k a held late) =
        let f = kept.reqs k a held in
        let y : Leaving = record { request = k; asked = a.request; result = Err errors.TimedOut; given = Err errors.TimedOut; is_stored = false; stale = None } in
        state_does past w x (leave y x) h
        (leave_kept c s P past w x h kept y a held refl (Own (Deadline (record { asking_of = record { request = a.request; moment = a.moment }; asked = f.asked; passed = subst (λ n. a.moment + c.timeout ≤ n) kept.clock late })) (λ q. absurd (cc))) (λ needs. absurd (cc)) (λ e. absurd (cc)) (λ e m q ca n v l. absurd (cc)) (λ fails. record { direct = Deadline (record { asking_of = record { request = a.request; moment = a.moment }; asked = f.asked; passed = subst (λ n. a.moment + c.timeout ≤ n) kept.clock late }); last = λ q. absurd (cc) }) refl)
        (λ j l. leaves_left j x.leaving (y ∷ []) l)
    move_does _ (Replies before after y is) = record {
      right = λ end later promise. reply_right c s P past w x h kept before after y is end;
      leaves = told_kept c s P past w x h kept before after y is;
      promise = λ k l. elim (in_but (l.0) y before after (subst (IsIn (l.0)) is l.1)) [
        | inl e ↦ inr (subst (λ k. replied k (put_all (told_of y.request y.result y.stale) h) ≡ true) (ap (λ (z : Leaving). z.request) e ∙ l.2) (put_it y.request y.result y.stale))
        | inr n ↦ inl (l.0, n, l.2)
      ];
      marks = told_marks y.request y.result y.stale;
    }
      where
        put_one : (k : ℕ) (v : Result Octets Error) (g : History) → replied k (Put (Reply k v) ∷ g) ≡ true
        put_one k v g = grind (arith, nat_tests)

        put_it : (k : ℕ) (v : Result Octets Error) (o : Option Octets) → replied k (put_all (told_of k v o) h) ≡ true
        put_it k v None = put_one k v h
        put_it k v (Some m) = put_one k (Ok m) (Put (Stale k) ∷ h)
    move_does _ (Revives before after y e m is fails old revived) =
        state_does past w x (record x { leaving = before ++ revive m y ∷ after }) h (revive_kept c s P past w x h kept before after y m is (revived_fits y m e (subst (IsIn y) (sym is) (in_here y before after)) fails old revived)) (λ k l. leaves_swap k y (revive m y) refl before after (subst (Leaves k) is l))
      where
        revived_fits : (y : Leaving) (m : Octets) (e : Entry) → IsIn y x.leaving → is_failing y.given ≡ true → x.expired y.request ≡ Some e → Revived s x.now e y.asked m → StaleFits c s x.expired (revive m y) m h
        revived_fits y m e there fails old r =
            let o = kept.olds y.request e old in
            let f = kept.leaves y there in
            let was : WasReply c s e.number e.moment h (Ok r.message) = subst (WasReply c s e.number e.moment h) r.is o.fits.was in
            record {
              unstored = refl;
              fails = fails;
              old = ap is_some old;
              server = o.server;
              first = e.first;
              request = y.asked;
              message = r.message;
              age = r.age;
              supplied = record { number = e.number; earlier = record { asked = f.asked; below = o.fits.below; first_asked = o.fits.asked; covering = serves e.first y.asked e.under o.fits.cacheable o.fits.covers (o.covers y.asked (f.asked.0) f.asked.1) }; moment = e.moment; got = was.0; is_age = r.is_age ∙ kept.clock };
              parts = r.parts;
              valid = record { known = r.known; validity = was.1.0; is_validity = was.1.1; kept = was.1.2; tells = r.tells; allowed = r.allowed; in_time = r.in_time };
              says = r.says;
            }
    move_does _ (Forgets before after e is) = state_does past w x (record x { stored = before ++ after }) h (stored_kept c s P past w x h kept (before ++ after) (λ z j. kept.entries z (subst (IsIn z) (sym is) (in_more z e before after j)))) (λ k l. l)
    move_does _ (Derives e k j covers) = state_does past w x (record x { stored = record e { under = k } ∷ x.stored }) h (stored_kept c s P past w x h kept (record e { under = k } ∷ x.stored) (λ z q. elim q [
      | inl t ↦ subst (λ z. EntryFits c s z x.asked h) t (let f = kept.entries e j in record { cacheable = f.cacheable; covers = keys_trans (key_of e.first) e.under k f.covers covers; below = f.below; asked = f.asked; moment = f.moment; was = f.was })
      | inr o ↦ kept.entries z o
    ])) (λ k l. l)
    move_does _ (Answers r y pend at) =
        let o = at_once c s compose composes P past w x h kept r y pend at in
        state_does past w x (answer y x) h
        (answer_kept c s P past w x h kept r y pend o.request o.asked (subst (λ k. ReplyRight c s past w h k y.result) (sym o.request) o.right) (λ e. (let q = o.stores e in (q.0, subst (λ k. MayStore c s k past w h y.result) (sym o.request) q.1))) (at_once_plain c s compose x.now x.asked x.stored r y at))
        (λ j l. leaves_left j x.leaving (y ∷ []) l)
    move_does _ (Takes_on r o old pend composed lt there) = state_does past w x (take_on r old x) h (take_kept c s P past w x h kept r old pend lt there) (λ k l. l)

  -- all moves of a row
  pub record AllDo (past : History) (w : What) (x : Upper P.State) (h : History) (d : Made P.State) : Type 0 where
    pub right : (end : History) → Later (put_all d.outs h) end → OutsRight c s past w end h d.outs
    pub leaves : Kept c s P past w d.state (put_all d.outs h)
    pub done : IsDone c s compose (machine_of P) d.state
    pub promise : (k : ℕ) → Leaves k x.leaving → replied k (put_all d.outs h) ≡ true
    pub marks : MarksStand d.outs

  pub moves_do : (past : History) (w : What) (x : Upper P.State) (h : History) (d : Made P.State) → Kept c s P past w x h → Moves c s compose (machine_of P) x d → AllDo past w x h d
  moves_do past w _ h _ kept (Rests x done) = record { right = λ end later. tt; leaves = kept; done = done; promise = λ k l. absurd (subst (IsIn (l.0)) done.leaving l.1); marks = tt }
  moves_do past w _ h _ kept (Goes x d e move more) =
      let a = move_does past w x h kept d move in
      let b = moves_do past w d.state (put_all d.outs h) e a.leaves more in
      let both : put_all (d.outs ++ e.outs) h ≡ put_all e.outs (put_all d.outs h) = put_more d.outs e.outs h in
      let promise : (k : ℕ) → Leaves k x.leaving → replied k (put_all e.outs (put_all d.outs h)) ≡ true = λ k l. elim (a.promise k l) [ inl m ↦ b.promise k m | inr r ↦ later_all e.outs (put_all d.outs h) k r ] in
      record {
        right = λ end later.
            (let later' : Later (put_all e.outs (put_all d.outs h)) end = subst (λ g. Later g end) both later in
            right_more c s past w end d.outs e.outs h (a.right end (λ k r. later' k (later_all e.outs (put_all d.outs h) k r)) (λ k l. later' k (promise k l))) (b.right end later'));
        leaves = subst (λ g. Kept c s P past w e.state g) (sym both) b.leaves;
        done = b.done;
        promise = λ k l. subst (λ g. replied k g ≡ true) (sym both) (promise k l);
        marks = marks_more d.outs e.outs a.marks b.marks;
      }
