-- A read timer fires.
use Rattle.std.proofs.Common.{◌≡◌, ℕ, zero, suc, ◌+◌, ◌-◌, ◌<◌, ◌≤◌, inl, inr, Bool, true, false, [], ◌∷◌, Option, Some, None, refl, sym, ap, subst, ◌∙◌, arith, append-nil, append_assoc, le_refl}
use Rattle.std.specs.Prelude.{Result, Err, option_and_then, option_map, if◌then◌else◌}
use Rattle.client_request.specs.Numbered.{frees, entry_at}
use Rattle.client_request.specs.Request.{Request}
use Rattle.client_request.specs.Timers.{can_draw, cancelled}
use Rattle.client_request.specs.View.{View, asks, answers}
use Rattle.client_request.specs.declared.error.Error.{Error}
use Rattle.client_request.specs.declared.error.Error.TheVariants as errors
use Rattle.client_request.specs.declared.error.QueryError.TheVariants as query
use Rattle.client_request.specs.declared.event.Out.TheVariants.{OpenDgram, Close}
use Rattle.client_dgram.specs.Plain.{Tables, leaves, tries_at, gives_on, again, late_stage, at_job, at_ticket, late}
use Rattle.client_dgram.specs.declared.job.Job.{Job}
use Rattle.client_dgram.specs.declared.job.Stage.{Stage}
use Rattle.client_dgram.specs.declared.job.Stage.TheVariants as at
use Rattle.right_trace.specs.Messages.{Octets}
use Rattle.right_trace.specs.Time.{read_timeout, max_places, max_tries}
use Rattle.proof_right.specs.machine.Streams as multi
use Rattle.right_trace.specs.Updates.{with_at}
use Rattle.proof_right.specs.machine.Dgrams as dgrams
use Rattle.proof_right.specs.machine.Dgrams.{Queued, Trying, Ending, Tryer, Dgrams, staged, leave, forget, try_at}
use Rattle.proof_parts.specs.Chains.{still, then_act}
use Rattle.proof_parts.specs.Sights.{sight, due_of, IsFair}
use Rattle.proof_dgram.specs.Slots.{timer_in, slots_of, AreAlike, AreSlots, names_of}
use Rattle.proof_dgram.specs.Steps.{made_by, AsItIs, WithResult, Rests, Steps_on}
use Rattle.proof_dgram.specs.Calls.{Leads, KeepsApart, HasFired}
use Rattle.proof_dgram.proofs.Changing.{same_stage, alike_as, settled}
use Rattle.proof_parts.proofs.Keys.{with_here, with_there, was_there, with_again, is_or_was}
use Rattle.proof_parts.proofs.Tables.{at_frees, frees_nothing, present_below}
use Rattle.proof_parts.proofs.TimerLaws.{due_without, order_without}
use Rattle.proof_dgram.proofs.Naming.{names_less, names_again}
use Rattle.proof_dgram.proofs.Shifting.{gone, come}
use Rattle.proof_dgram.proofs.Tabling.{leaves_sent}
use Rattle.proof_dgram.proofs.Coming.{comes_at}
use Rattle.proof_dgram.proofs.Aftermath.{after_itself, after_fair, goes_on}
use Rattle.proof_dgram.proofs.Closing.{leads_on, IsSentAt, sent_at, off_sent, apart_sent, one_post}
use Rattle.right_trace.specs.Trace.{Conf}
use Rattle.proof_right.proofs.Received.{places_on}

-- timers of others don't matter
pub dues_as : (c : Conf) (n : ℕ) (s : Tables Request) (d : Dgrams) (dues dues' : ℕ → Option ℕ) → AreAlike c n (slots_of s) d dues → ((r u : ℕ) → entry_at r s.timers ≡ Some u → dues' r ≡ dues r) → AreAlike c n (slots_of s) d dues'
dues_as c n s d dues dues' f same = record {
  jobs = λ t j e. (let g = f.jobs t j e in (g.0, g.1, same_stage c (slots_of s) (slots_of s) d d dues dues' t j g.0 (record { held = refl; places = λ p e. (e, refl); timers = λ r e. (e, same r t e); queue = λ i. i }) g.2));
  held = f.held;
  apart = f.apart;
  places = f.places;
  none = f.none;
  timers = f.timers;
  queue = f.queue;
  live = f.live;
  used = f.used;
  few = f.few;
  full = f.full;
}

none_left : (c : Conf) (a b : ℕ) → a + b ≡ suc c.transports.dgram_max_retries → b ≡ 0 → max_tries c ≤ a
unfolding max_tries
none_left c a b e z = omega arith

some_left : (c : Conf) (a b l : ℕ) → a + b ≡ suc c.transports.dgram_max_retries → b ≡ suc l → (a < max_tries c) × (a + l ≡ c.transports.dgram_max_retries)
unfolding max_tries
some_left c a b l e z = (omega arith, omega arith)

module _ (c : Conf) (server : ℕ) (s : Tables Request) (d : Dgrams) (v : View) (i due : ℕ) (f : AreSlots c 0 s d (sight v)) (fair : IsFair v) (set : due_of i v.timers.set ≡ Some due) (is_due : due ≤ v.now) where
  -- the view without the timer that fires
  abbrev vc : View
  vc = record v { timers = cancelled i v.timers }

  abbrev Fires : Option (Tables Request × View) → Type 0
  Fires o = Leads (HasFired c server s d vc) o

  fair_c : IsFair vc
  fair_c = record { order = order_without i 0 v.timers.next v.timers.set fair.order; words = fair.words }

  elsewhere : (r : ℕ) → (i ≡ r → ⊥) → due_of r vc.timers.set ≡ due_of r v.timers.set
  elsewhere r ne = due_without i r 0 v.timers.next v.timers.set fair.order ∙ with_there i None (λ r. due_of r v.timers.set) r ne

  -- it is of another
  passes : entry_at i s.timers ≡ None → Fires (Some (record s { timers = frees i s.timers }, vc))
  passes none = subst (λ ts. HasFired c server s d vc (record s { timers = ts }) vc) (sym (frees_nothing i s.timers none)) (record {
    made = still v.place d;
    steps = Rests v.place d;
    leaves = record {
      outs = sym (append-nil v.outs);
      place = refl;
      slots = record { alike = dues_as c 0 s d (λ r. due_of r v.timers.set) (λ r. due_of r vc.timers.set) f.alike (λ r u e. elsewhere r (λ same. (let z : None ≡ Some u = sym none ∙ (ap (λ r. entry_at r s.timers) same ∙ e) in cc))); jobs = f.jobs; places = f.places; timers = f.timers; queue = f.queue };
      after = after_itself vc fair_c;
      apart = record { owned = λ r o. inl o; others = λ r due none e. e; places = λ p k e. inl (k, e) };
    };
    posts = record { board = []; put = sym (append-nil v.board); gives = λ t. refl };
  })

  module _ (t p : ℕ) (j : Job Request) (its : entry_at i s.timers ≡ Some t) (is : entry_at t s.jobs ≡ Some j) (st : j.stage ≡ at.Sent p i) where
    sent : IsSentAt c s d v t p i j
    sent = sent_at c 0 s d v f t j is p i st

    late_now : sent.moment + read_timeout c ≤ v.now
    late_now = (let z : Some (sent.moment + read_timeout c) ≡ Some due = sym sent.due ∙ set in let same : sent.moment + read_timeout c ≡ due = cc in subst (λ n. n ≤ v.now) (sym same) is_due)

    named : names_of s t ≡ Some j.number
    named = ap (λ o. option_map (λ (j : Job Request). j.number) o) is

    abbrev tables : Tables Request
    tables = leaves p t i s

    -- its own timer was taken out
    apart_c : (e : Tryer) (stage : dgrams.Stage) (s1 : Tables Request) (w : View) → s1.timers ≡ frees i s.timers → w.timers ≡ vc.timers → KeepsApart s d vc s1 (forget j.number (leave p j.number e stage d)) w
    apart_c e stage s1 w timers same = (let a = apart_sent c s d v f fair t p j is i st e stage s1 w timers same in record { owned = a.owned; others = λ r due none e. ap (λ (ts : _). due_of r ts.set) same ∙ e; places = a.places })

    -- it was the last try
    last : j.left ≡ zero → Fires (gives_on server tables (answers t (Err (errors.Dgram query.Timeout)) (asks (Close p) vc)))
    last left =
        let y : Result Octets Error = Err (errors.Dgram query.Timeout) in
        let a = sent.tryer in
        let v1 : View = answers t (Err (errors.Dgram query.Timeout)) (asks (Close p) vc) in
        leads_on _ (HasFired c server s d vc) (gives_on server tables v1)
        (λ u w g. record {
          made = then_act (record { state = forget j.number (leave p j.number a (Ending y) d); place = v.place; outs = Close p ∷ []; posts = record { request = j.number; result = y } ∷ [] }) g.made;
          steps = Steps_on v.place d (multi.Puts (Close p)) (leave p j.number a (Ending y) d) _ g.made (dgrams.StopsTrying j.number a p sent.id sent.moment sent.held sent.stage late_now (none_left c a.tries j.left sent.job.left left)) (WithResult j.number (staged a (Ending y)) y (with_here j.number (Some (staged a (Ending y))) d.held) refl) g.steps;
          leaves = g.leaves;
          posts = one_post c server s d vc _ tables v1 u w t j.number y named refl refl (names_less t v.ticket s.jobs f.jobs) g;
        })
        (goes_on c server s d vc (forget j.number (leave p j.number a (Ending y) d)) (Close p ∷ []) (record { request = j.number; result = y } ∷ []) tables v1 (off_sent c s d v f fair t p j is i st a (Ending y)) refl
        (after_fair vc fair_c v1 refl refl refl refl refl refl fair.words) (apart_c a (Ending y) tables v1 refl refl))

    -- the next try opens a place
    next_try : (l : ℕ) → j.left ≡ suc l → (b : Bool) → Fires (option_and_then (λ w. Some (tries_at server t (record j { left = l }) tables vc.place w)) (if b then Some (record (asks (Close p) vc) { place = v.place + 1 }) else None))
    next_try l left false = tt
    next_try l left true =
        let a = sent.tryer in
        let k = j.number in
        let q = v.place in
        let again : Job Request = record j { left = l } in
        let d1 : Dgrams = leave p k a Queued d in
        let e : Dgrams = try_at q k (staged a Queued) d1 in
        let some = some_left c a.tries j.left l sent.job.left left in
        let out = leaves_sent c 0 s d v f fair t p i j is st sent.here sent.timer in
        let inn = comes_at c 0 tables (gone p k d) vc out t k again (staged a Queued) (at_frees t t 0 v.ticket s.jobs f.jobs ∙ with_here t None (λ u. entry_at u s.jobs)) (present_below t 0 v.ticket j s.jobs f.jobs is) (with_here k None d.held) refl (record { request = sent.job.request; octets = sent.job.octets; left = some.1 }) in
        let alike = alike_as c 0 _ (come q k (staged (staged a Queued) (Trying q)) (gone p k d)) e _ (λ r. with_again k (Some (staged a (Trying q))) (Some (staged a Queued)) d.held r ∙ sym (with_again k (Some (staged a (Trying q))) None d.held r)) (λ r. refl) refl inn.alike in
        record {
          made = then_act (made_by q (multi.Puts (Close p)) d1) (then_act (made_by q (multi.Puts (OpenDgram q server)) e) (still (suc q) e));
          steps = Steps_on q d (multi.Puts (Close p)) d1 _ _ (dgrams.Retries k a p sent.id sent.moment sent.held sent.stage late_now some.0) (AsItIs between)
              (Steps_on q d1 (multi.Puts (OpenDgram q server)) e _ _ (dgrams.Opens k (staged a Queued) (with_here k (Some (staged a Queued)) d.held) refl free) (AsItIs (settled c 0 _ e _ alike)) (Rests (suc q) e));
          leaves = record {
            outs = append_assoc v.outs (Close p ∷ []) (OpenDgram q server ∷ []);
            place = one_more q;
            slots = record { alike = alike; jobs = inn.jobs; places = inn.places; timers = inn.timers; queue = inn.queue };
            after = record { fair = record { order = fair_c.order; words = fair.words }; now = refl; request = refl; more = refl; timer = le_refl v.timers.next; ticket = le_refl v.ticket; place = over q; later = λ r due e. inl e };
            apart = record {
              owned = λ r o. inl (o.0, (was_there i (λ r. entry_at r s.timers) r o.0 (sym (at_frees i r 0 v.timers.next s.timers f.timers) ∙ o.1)).1);
              others = λ r due none e. e;
              places = λ r u e. elim (is_or_was q (Some k) d1.at r u e) [ inl x ↦ inr (subst (λ r. q ≤ r) x.0 (le_refl q)) | inr x ↦ inl (u, (was_there p d.at r u x.1).1) ];
            };
          };
          posts = record { board = []; put = sym (append-nil v.board); gives = names_again t v.ticket j (record again { stage = at.Opening q }) s.jobs f.jobs is refl };
        }
      where
        one_more : (a : ℕ) → a + 1 ≡ suc a
        one_more a = omega arith

        over : (a : ℕ) → a ≤ a + 1
        over a = omega arith

        few : (a b n : ℕ) → 0 < n → a ≡ b + 0 → a ≤ n → b - 1 < n
        few a b n pos e le = omega arith

        free : d.used - 1 < max_places c
        free = few s.used d.used (max_places c) (places_on c) f.alike.used f.alike.few

        between : (u : ℕ) (b : Tryer) → with_at j.number (Some (staged sent.tryer Queued)) d.held u ≡ Some b → (y : Result Octets Error) → b.stage ≡ Ending y → ⊥
        between u b e y g = elim (is_or_was j.number (Some (staged sent.tryer Queued)) d.held u b e) [
          | inl x ↦ (let z : Some (staged sent.tryer Queued) ≡ Some b = x.1 in let same : staged sent.tryer Queued ≡ b = cc in let w : Queued ≡ Ending y = ap (λ (a : Tryer). a.stage) same ∙ g in cc)
          | inr x ↦ settled c 0 (slots_of s) d (λ r. due_of r v.timers.set) f.alike u b x.1 y g
        ]

    tries_left : (l : ℕ) → j.left ≡ l → Fires (again server t j tables (asks (Close p) vc) l)
    tries_left zero e = last e
    tries_left (suc l) e = next_try l e (can_draw v.place)

  at_stage : (t : ℕ) (j : Job Request) → entry_at i s.timers ≡ Some t → entry_at t s.jobs ≡ Some j → (st : Stage) → j.stage ≡ st → timer_in st ≡ Some i → Fires (late_stage server t j (record s { timers = frees i s.timers }) vc st)
  at_stage t j its is at.Queued e g = absurd (cc)
  at_stage t j its is (at.Opening p) e g = absurd (cc)
  at_stage t j its is (at.Sent p r) e g = (let z : Some r ≡ Some i = g in let same : r ≡ i = cc in tries_left t p j its is (e ∙ ap (at.Sent p) same) j.left refl)

  pub fires_does : Fires (late server i s vc)
  fires_does = go (entry_at i s.timers) refl
    where
      go : (o : Option ℕ) → entry_at i s.timers ≡ o → Fires (at_ticket (λ ticket job s v. late_stage server ticket job s v job.stage) (record s { timers = frees i s.timers }) vc o)
      go None e = passes e
      go (Some t) e = (let g = f.alike.timers i t e in subst (λ o. Fires (at_job (λ ticket job s v. late_stage server ticket job s v job.stage) t (record s { timers = frees i s.timers }) vc o)) (sym g.1) (at_stage t g.0 e g.1 g.0.stage refl g.2))
