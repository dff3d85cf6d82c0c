-- Timers fire alike in two clients side by side.
use Rattle.std.proofs.Common.{◌≡◌, ℕ, zero, suc, ◌⊎◌, inl, inr, Bool, Option, Some, None, List, [], refl, sym, ◌∙◌, ap, subst}
use Rattle.std.specs.Prelude.{option_and_then}
use Rattle.client_request.specs.Numbered.{entry_at}
use Rattle.client_request.specs.Request.{Request}
use Rattle.client_request.specs.Timers.{TimerList, due_now, fired, fired_at}
use Rattle.client_request.specs.View.{View, Transport}
use Rattle.client_request.specs.declared.event.Out.{Out}
use Rattle.client_request.specs.declared.timers.Timer.{Timer}
use Rattle.client_steps.specs.Client.{Asked, Client, Machine, client_of, late_reply, replies, times_out, fires_at, fire, fires_first, fires, without_late}
use Rattle.client_steps.specs.Machines.{machine_of}
use Rattle.client_steps.specs.declared.asked.Waiting.{Waiting}
use Rattle.proof_cutting.specs.Pieces.{like, Both, Neither, Each, MayClose, IsCuttable, GivesUpQuietly}
use Rattle.proof_cutting.proofs.Views.{same_both}
use Rattle.proof_cutting.proofs.Replying.{Kept, replies_keep, replies_empty, late_keeps, late_board, late_like}
use Rattle.proof_cutting.proofs.Beside.{beside, Meet, Nowhere, There, Any, first_less, then_meet, settled, unposted}

-- more is known of what the first of two calls leaves
both_also : {U : Type 0} {longer : U → U} {before : List Out} {Leaves Known : U → View → Type 0} {r r' : Option (U × View)} → Both longer before Leaves r r'
    → ((u : U) (v : View) → r ≡ Some (u, v) → Known u v) → Both longer before (λ u v. Leaves u v × Known u v) r r'
both_also Neither f = Neither
both_also (Each u v more request l) f = Each u v more request (l, f u v refl)

next_stays : (now : ℕ) (ts : TimerList) → (fired now ts).next ≡ ts.next
next_stays now ts = by (due_now now ts.set)
  where
    by : (o : Option Timer) → (fired_at ts o).next ≡ ts.next
    by None = refl
    by (Some t) = refl

-- the same, or closed
pub closed_on : {A : Type 0} (o p q : Option A) → (p ≡ o) ⊎ (p ≡ None) → (q ≡ p) ⊎ (q ≡ None) → (q ≡ o) ⊎ (q ≡ None)
closed_on o p q (inl e) (inl f) = inl (f ∙ e)
closed_on o p q (inr e) (inl f) = inr (f ∙ e)
closed_on o p q (inl e) (inr f) = inr f
closed_on o p q (inr e) (inr f) = inr f

module _ {U P : Type 0} (octets_at : U → Option (List ℕ)) (IsFit : U → (timer : ℕ) → Type 0) where
  -- what timers that fire leave: the place may have been closed
  pub record Fired (c d : Client U P) : Type 0 where
    pub fit : IsFit d.layer d.view.timers.next
    pub octets : (octets_at d.layer ≡ octets_at c.layer) ⊎ (octets_at d.layer ≡ None)
    pub more : d.view.more ≡ c.view.more
    pub now : d.view.now ≡ c.view.now
    pub board : c.view.board ≡ [] → d.view.board ≡ []

  pub none_fired : (c : Client U P) → IsFit c.layer c.view.timers.next → Fired c c
  none_fired c fit = record { fit = fit; octets = inl refl; more = refl; now = refl; board = λ e. e }

  pub fired_on : (c d e : Client U P) → Fired c d → Fired d e → Fired c e
  fired_on c d e f g = record {
    fit = g.fit;
    octets = closed_on (octets_at c.layer) (octets_at d.layer) (octets_at e.layer) f.octets g.octets;
    more = g.more ∙ f.more;
    now = g.now ∙ f.now;
    board = λ none. g.board (f.board none);
  }

  -- The transport's own timer fired.
  replied : (a : Asked P) (c : Client U P) (u : U) (v : View) → MayClose octets_at IsFit c.layer c.view u v → Fired c (client_of u (replies (a, v)))
  replied a c u v l =
      let k = replies_keep (a, v) in
      record {
        fit = subst (λ n. IsFit u n) (sym k.timer) l.fit;
        octets = l.octets;
        more = k.more ∙ l.more;
        now = k.now ∙ l.now;
        board = λ none. replies_empty (a, v);
      }

module _ {U P : Type 0} (m : Machine U P) where
  rested_from : (n : ℕ) (c d : Client U P) → fires m n c ≡ Some d → due_now d.view.now d.view.timers.set ≡ None
  rested_from zero c d e = absurd (cc)
  rested_from (suc n) c d e = by (due_now c.view.now c.view.timers.set) refl e (rested_from n)
    where
      after : (r : Option (Client U P)) → option_and_then (fires m n) r ≡ Some d → ((c d : Client U P) → fires m n c ≡ Some d → due_now d.view.now d.view.timers.set ≡ None) → due_now d.view.now d.view.timers.set ≡ None
      after None e ih = absurd (cc)
      after (Some b) e ih = ih b d e

      by : (o : Option Timer) → due_now c.view.now c.view.timers.set ≡ o → fires_first m (fires m n) c o ≡ Some d → ((c d : Client U P) → fires m n c ≡ Some d → due_now d.view.now d.view.timers.set ≡ None)
          → due_now d.view.now d.view.timers.set ≡ None
      by None none e ih = let is : c ≡ d = cc in subst (λ (d : Client U P). due_now d.view.now d.view.timers.set ≡ None) is none
      by (Some t) some e ih = after (fire m t.id (record c { view = record c.view { timers = fired c.view.now c.view.timers } })) e ih

  -- Once timers have fired, none is due.
  pub none_due : (n : ℕ) (c d : Client U P) → fires m n c ≡ Some d → due_now d.view.now d.view.timers.set ≡ None
  none_due n c d e = rested_from n c d e

module _ {U P : Type 0} {place : ℕ} {t : Transport Request U P} {octets : U → Option (List ℕ)} {longer : List ℕ → U → U} {IsFit : U → (timer : ℕ) → Type 0} {stale : P → U → View → Option (List ℕ)} (ticket : P → ℕ)
    (cuttable : IsCuttable place t octets longer IsFit) (quiet : GivesUpQuietly t longer IsFit stale) (piece : List ℕ) (before : List Out) where
  abbrev pub Firing : Client U P → (first second : Option (Client U P)) → Type 0
  Firing c first second = Meet (longer piece) before (Fired octets IsFit c) Any first second

  abbrev Fit : Client U P → Type 0
  Fit c = IsFit c.layer c.view.timers.next

  -- a deadline's request is given up
  late_beside : (more : Bool) (request : ℕ) (c : Client U P) → Fit c → (w : Option (Waiting P))
      → Firing c (times_out (machine_of t ticket stale) c w) (times_out (machine_of t ticket stale) (beside (longer piece) before more request c) w)
  late_beside more request c fit None = There c more request (none_fired octets IsFit c fit) tt
  late_beside more request c fit (Some w) =
      unposted c.asked
      (same_both refl (ap (t.cancel w.response (longer piece c.layer)) alike)
      (both_also (cuttable.cancels piece before more request w.response c.layer given fit_given) (λ u v e. quiet.cancelled w.response c.layer given u v fit_given e)))
      (λ u v l. record { fit = (l.0).fit; octets = inl (l.0).octets; more = (l.0).more ∙ kept.more; now = (l.0).now ∙ kept.now; board = λ none. l.1 ∙ late_board w.number instead c.view ∙ none })
    where
      -- what stands in for its result
      instead : Option (List ℕ)
      instead = stale w.response c.layer c.view

      given : View
      given = late_reply w.number instead c.view

      kept : Kept c.view given
      kept = late_keeps w.number instead c.view

      fit_given : IsFit c.layer given.timers.next
      fit_given = subst (λ n. IsFit c.layer n) (sym kept.timer) fit

      alike : late_reply w.number (stale w.response (longer piece c.layer) (like before more request c.view)) (like before more request c.view) ≡ like before more request given
      alike =
          ap (λ (o : Option (List ℕ)). late_reply w.number o (like before more request c.view)) (quiet.alike piece before more request w.response c.layer c.view)
          ∙ late_like before more request w.number instead c.view

  at_beside : (timer : ℕ) (more : Bool) (request : ℕ) (c : Client U P) → Fit c → (o : Option ℕ)
      → Firing c (fires_at (machine_of t ticket stale) timer c o) (fires_at (machine_of t ticket stale) timer (beside (longer piece) before more request c) o)
  at_beside timer more request c fit None =
      settled (without_late timer None c.asked) (cuttable.fires piece before more request timer c.layer c.view fit) (λ u v l. replied octets IsFit (without_late timer None c.asked) c u v l)
  at_beside timer more request c fit (Some number) =
      let d : Client U P = record c { asked = without_late timer (Some number) c.asked } in
      first_less (late_beside more request d fit (entry_at number c.asked.waiting)) (λ e f. fired_on octets IsFit c d e (record { fit = fit; octets = inl refl; more = refl; now = refl; board = λ none. none }) f)

  one_beside : (timer : ℕ) (more : Bool) (request : ℕ) (c : Client U P) → Fit c → Firing c (fire (machine_of t ticket stale) timer c) (fire (machine_of t ticket stale) timer (beside (longer piece) before more request c))
  one_beside timer more request c fit = at_beside timer more request c fit (entry_at timer c.asked.deadlines)

  -- Timers fire alike.
  pub fires_beside : (n : ℕ) (more : Bool) (request : ℕ) (c : Client U P) → Fit c → Firing c (fires (machine_of t ticket stale) n c) (fires (machine_of t ticket stale) n (beside (longer piece) before more request c))
  fires_beside zero more request c fit = Nowhere
  fires_beside (suc n) more request c fit = by (due_now c.view.now c.view.timers.set) (fires_beside n)
    where
      d : Client U P
      d = record c { view = record c.view { timers = fired c.view.now c.view.timers } }

      fit_first : IsFit c.layer (fired c.view.now c.view.timers).next
      fit_first = subst (λ n. IsFit c.layer n) (sym (next_stays c.view.now c.view.timers)) fit

      by : (o : Option Timer) → ((more : Bool) (request : ℕ) (c : Client U P) → Fit c → Firing c (fires (machine_of t ticket stale) n c) (fires (machine_of t ticket stale) n (beside (longer piece) before more request c)))
          → Firing c (fires_first (machine_of t ticket stale) (fires (machine_of t ticket stale) n) c o) (fires_first (machine_of t ticket stale) (fires (machine_of t ticket stale) n) (beside (longer piece) before more request c) o)
      by None ih = There c more request (none_fired octets IsFit c fit) tt
      by (Some x) ih =
          then_meet (fires (machine_of t ticket stale) n) (fires (machine_of t ticket stale) n) (one_beside x.id more request d fit_first)
          (λ e more' request' f s. first_less (ih more' request' e f.fit)
          (λ g h. fired_on octets IsFit c d g (record { fit = fit_first; octets = inl refl; more = refl; now = refl; board = λ none. none }) (fired_on octets IsFit d e g f h)))
