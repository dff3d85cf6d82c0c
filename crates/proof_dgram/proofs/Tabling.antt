-- The tables themselves, as a job leaves or comes.
use Rattle.std.proofs.Common.{◌≡◌, ℕ, suc, ◌+◌, ◌-◌, ◌<◌, ◌≤◌, inl, inr, List, [], ◌∷◌, ◌++◌, length, Option, Some, None, nat_cmp, refl, sym, ap, subst, ◌∙◌, arith, zero-le}
use Rattle.std.specs.BTreeMap.{is_at}
use Rattle.std.specs.BTreeSet.{insert_key}
use Rattle.std.specs.Set.{remove_key}
use mathlib.Core.Path.{fun_ext}
use Rattle.client_request.specs.Numbered.{puts, frees, entry_at}
use Rattle.client_request.specs.Request.{Request}
use Rattle.client_request.specs.Timers.{cancelled, with_timer}
use Rattle.client_request.specs.View.{View}
use Rattle.client_dgram.specs.Plain.{Tables, leaves}
use Rattle.client_dgram.specs.declared.job.Job.{Job}
use Rattle.client_dgram.specs.declared.job.Stage.TheVariants as at
use Rattle.proof_right.specs.machine.Dgrams.{Queued, Tryer, Dgrams, forget}
use Rattle.right_trace.specs.Updates.{with_at}
use Rattle.proof_parts.specs.Sights.{sight, due_of, IsFair, Rising}
use Rattle.proof_dgram.specs.Slots.{IsIn, place_in, timer_in, Slots, slots_of, IsJobOf, AreAlike, AreSlots}
use Rattle.proof_parts.proofs.Keys.{with_there, was_there}
use Rattle.proof_dgram.proofs.Queueing.{in_from, goes_last, rises_last, in_last, still_in, last_in, rises_removed, was_in, stays_in}
use Rattle.proof_parts.proofs.Tables.{rises_from, rises_below, absent_above, sorted_puts, sorted_frees, fewer_by_frees, puts_path, frees_path}
use Rattle.proof_parts.proofs.TimerLaws.{due_without, due_set}
use Rattle.proof_dgram.proofs.Shifting.{off_place, off_queue, at_queue, gone, waits, leaves_place, leaves_queue, joins_queue}
use Rattle.right_trace.specs.Trace.{Conf}
use Rattle.right_trace.specs.Time.{max_places}

pub same_slots : (x y : Slots) → x.jobs ≡ y.jobs → x.places ≡ y.places → x.timers ≡ y.timers → x.queue ≡ y.queue → x.used ≡ y.used → x.live ≡ y.live → x ≡ y
same_slots x y jobs places timers queue used live = λ i. record { jobs = jobs i; places = places i; timers = timers i; queue = queue i; used = used i; live = live i }

-- what tables with equal parts say
pub alike_in : (c : Conf) (n : ℕ) (x y : Slots) (d : Dgrams) (dues dues' : ℕ → Option ℕ) → x ≡ y → dues ≡ dues' → AreAlike c n y d dues' → AreAlike c n x d dues
alike_in c n x y d dues dues' e t f = subst (λ x. AreAlike c n x d dues) (sym e) (subst (λ dues. AreAlike c n y d dues) (sym t) f)

pub one_less : (a b : ℕ) → suc a ≡ b → a ≡ b - 1
one_less a b e = omega arith

pub above : (a b : ℕ) → suc a ≡ b → 0 < b
above a b e = omega arith

up : (a : ℕ) → a ≤ a + 1
up a = omega arith

-- a timer that is dropped, and one that is set
pub dues_less : (v : View) (r : ℕ) → IsFair v → (λ (i : ℕ). due_of i (cancelled r v.timers).set) ≡ with_at r None (λ i. due_of i v.timers.set)
dues_less v r fair = fun_ext (λ i. due_without r i 0 v.timers.next v.timers.set fair.order)

pub dues_more : (v : View) (due : ℕ) → IsFair v → (λ (i : ℕ). due_of i (with_timer due v.timers).set) ≡ with_at v.timers.next (Some due) (λ i. due_of i v.timers.set)
dues_more v due fair = fun_ext (λ i. due_set due i 0 v.timers.next v.timers.set fair.order)

module _ (c : Conf) (n : ℕ) (s : Tables Request) (d : Dgrams) (v : View) (f : AreSlots c n s d (sight v)) (fair : IsFair v) where
  abbrev dues : ℕ → Option ℕ
  dues i = due_of i v.timers.set

  timer_of : (t i : ℕ) (j : Job Request) → entry_at t s.jobs ≡ Some j → entry_at i s.timers ≡ Some t → timer_in j.stage ≡ Some i
  timer_of t i j is e = (let g = f.alike.timers i t e in let z : Some g.0 ≡ Some j = sym g.1 ∙ is in let same : g.0 ≡ j = cc in ap (λ (j : Job Request). timer_in j.stage) (sym same) ∙ g.2)

  -- A job leaves the place that opens.
  pub leaves_opening : (t p : ℕ) (j : Job Request) → entry_at t s.jobs ≡ Some j → j.stage ≡ at.Opening p → entry_at p s.places ≡ Some t → AreSlots c (suc n) (record s { jobs = frees t s.jobs; places = frees p s.places }) (gone p j.number d) (sight v)
  leaves_opening t p j is st here = record {
    alike = alike_in c (suc n) _ (off_place t p (λ r. entry_at r s.timers) (slots_of s)) (gone p j.number d) dues dues
        (same_slots _ (off_place t p (λ r. entry_at r s.timers) (slots_of s)) (frees_path t 0 v.ticket s.jobs f.jobs) (frees_path p 0 v.place s.places f.places) refl refl refl (one_less (length (frees p s.places)) (length s.places) (fewer_by_frees p t s.places here))) refl
        (leaves_place c n (slots_of s) d dues f.alike t p j is (ap place_in st) (above (length (frees p s.places)) (length s.places) (fewer_by_frees p t s.places here)) (λ r. entry_at r s.timers) dues (λ i u ne e. (e, refl)) (λ i u e. (e, λ same. (let z : None ≡ Some i = sym (ap timer_in st) ∙ timer_of t i j is (e ∙ ap Some (sym same)) in cc))));
    jobs = sorted_frees t 0 v.ticket s.jobs f.jobs;
    places = sorted_frees p 0 v.place s.places f.places;
    timers = f.timers;
    queue = f.queue;
  }

  -- A job leaves the place where it was sent, and its timer goes.
  pub leaves_sent : (t p r : ℕ) (j : Job Request) → entry_at t s.jobs ≡ Some j → j.stage ≡ at.Sent p r → entry_at p s.places ≡ Some t → entry_at r s.timers ≡ Some t → AreSlots c (suc n) (leaves p t r s) (gone p j.number d) (sight (record v { timers = cancelled r v.timers }))
  leaves_sent t p r j is st here its = record {
    alike = alike_in c (suc n) _ (off_place t p (with_at r None (λ r. entry_at r s.timers)) (slots_of s)) (gone p j.number d) (λ i. due_of i (cancelled r v.timers).set) (with_at r None dues)
        (same_slots _ (off_place t p (with_at r None (λ r. entry_at r s.timers)) (slots_of s)) (frees_path t 0 v.ticket s.jobs f.jobs) (frees_path p 0 v.place s.places f.places) (frees_path r 0 v.timers.next s.timers f.timers) refl refl (one_less (length (frees p s.places)) (length s.places) (fewer_by_frees p t s.places here)))
        (dues_less v r fair)
        (leaves_place c n (slots_of s) d dues f.alike t p j is (ap place_in st) (above (length (frees p s.places)) (length s.places) (fewer_by_frees p t s.places here)) (with_at r None (λ r. entry_at r s.timers)) (with_at r None dues)
        (λ i u ne e. (let o : r ≡ i → ⊥ = λ same. ne (let z : Some t ≡ Some u = sym its ∙ (ap (λ r. entry_at r s.timers) same ∙ e) in cc) in (with_there r None (λ r. entry_at r s.timers) i o ∙ e, with_there r None dues i o)))
        (λ i u e. (let w = was_there r (λ r. entry_at r s.timers) i u e in (w.1, λ same. w.0 (let z : Some r ≡ Some i = sym (ap timer_in st) ∙ timer_of t i j is (w.1 ∙ ap Some (sym same)) in cc)))));
    jobs = sorted_frees t 0 v.ticket s.jobs f.jobs;
    places = sorted_frees p 0 v.place s.places f.places;
    timers = sorted_frees r 0 v.timers.next s.timers f.timers;
    queue = f.queue;
  }

  -- A job leaves the queue: the first of it, or any.
  pub leaves_first : (t : ℕ) (q : List ℕ) (j : Job Request) → s.queue ≡ t ∷ q → entry_at t s.jobs ≡ Some j → j.stage ≡ at.Queued → AreSlots c n (record s { queue = q; jobs = frees t s.jobs }) (forget j.number d) (sight v)
  leaves_first t q j e is st = record {
    alike = alike_in c n _ (off_queue t q (slots_of s)) (forget j.number d) dues dues (same_slots _ (off_queue t q (slots_of s)) (frees_path t 0 v.ticket s.jobs f.jobs) refl refl refl refl refl) refl
        (leaves_queue c n (slots_of s) d dues f.alike t j is st q (λ u ne i. still u ne (subst (IsIn u) e i)) (λ u i. (subst (IsIn u) (sym e) (inr i), λ same. (let r = in_from u (suc t) v.ticket q rest.2 i in omega arith))));
    jobs = sorted_frees t 0 v.ticket s.jobs f.jobs;
    places = f.places;
    timers = f.timers;
    queue = rises_from (λ (t : ℕ). t) (suc t) 0 v.ticket q zero-le rest.2;
  }
    where
      rest : Rising (λ t. t) 0 v.ticket (t ∷ q)
      rest = subst (Rising (λ t. t) 0 v.ticket) e f.queue

      still : (u : ℕ) → (t ≡ u → ⊥) → IsIn u (t ∷ q) → IsIn u q
      still u ne (inl same) = absurd (ne same)
      still u ne (inr i) = i

  pub leaves_any : (t : ℕ) (j : Job Request) → entry_at t s.jobs ≡ Some j → j.stage ≡ at.Queued → AreSlots c n (record s { jobs = frees t s.jobs; queue = remove_key (is_at (nat_cmp t)) s.queue }) (forget j.number d) (sight v)
  leaves_any t j is st = record {
    alike = alike_in c n _ (off_queue t (remove_key (is_at (nat_cmp t)) s.queue) (slots_of s)) (forget j.number d) dues dues (same_slots _ (off_queue t (remove_key (is_at (nat_cmp t)) s.queue) (slots_of s)) (frees_path t 0 v.ticket s.jobs f.jobs) refl refl refl refl refl) refl
        (leaves_queue c n (slots_of s) d dues f.alike t j is st (remove_key (is_at (nat_cmp t)) s.queue) (λ u ne i. stays_in u t s.queue ne i) (λ u i. was_in u t 0 v.ticket s.queue f.queue i));
    jobs = sorted_frees t 0 v.ticket s.jobs f.jobs;
    places = f.places;
    timers = f.timers;
    queue = rises_removed t 0 v.ticket s.queue f.queue;
  }

  -- A job comes into the queue, under the next ticket.
  pub comes_last : (k : ℕ) (j : Job Request) (a : Tryer) → d.held k ≡ None → j.number ≡ k → j.stage ≡ at.Queued → a.stage ≡ Queued → IsJobOf c j a c.transports.dgram_max_retries → s.used ≡ max_places c → AreSlots c n (record s { jobs = puts v.ticket j s.jobs; queue = insert_key nat_cmp s.queue v.ticket }) (waits k a d) (sight (record v { ticket = v.ticket + 1 }))
  comes_last k j a unheld number js its_stage fit full = record {
    alike = alike_in c n _ (at_queue v.ticket j (s.queue ++ v.ticket ∷ []) (slots_of s)) (waits k a d) dues dues (same_slots _ (at_queue v.ticket j (s.queue ++ v.ticket ∷ []) (slots_of s)) (puts_path v.ticket j s.jobs) refl refl last refl refl) refl
        (joins_queue c n (slots_of s) d dues f.alike v.ticket k j a (s.queue ++ v.ticket ∷ []) (absent_above 0 v.ticket v.ticket s.jobs (omega arith) f.jobs) unheld number js its_stage fit full (λ u i. still_in u v.ticket s.queue i) (last_in v.ticket s.queue) (λ u ne i. elim (in_last u v.ticket s.queue i) [ inl i ↦ i | inr e ↦ absurd (ne e) ]));
    jobs = sorted_puts v.ticket j 0 (v.ticket + 1) s.jobs zero-le (omega arith) (rises_below (λ (e : ℕ × Job Request). e.0) 0 v.ticket (v.ticket + 1) s.jobs (up v.ticket) f.jobs);
    places = f.places;
    timers = f.timers;
    queue = subst (Rising (λ t. t) 0 (v.ticket + 1)) (sym last) (rises_last 0 v.ticket s.queue zero-le f.queue);
  }
    where
      last : insert_key nat_cmp s.queue v.ticket ≡ s.queue ++ v.ticket ∷ []
      last = goes_last 0 v.ticket s.queue f.queue
