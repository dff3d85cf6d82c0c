-- The tables themselves, as a job comes to a place or is sent where it is.
use Rattle.std.proofs.Common.{◌≡◌, ℕ, suc, ◌+◌, ◌-◌, ◌<◌, ◌≤◌, inl, inr, length, Option, Some, None, refl, sym, ap, ◌∙◌, arith, zero-le}
use mathlib.Core.Path.{fun_ext}
use Rattle.client_request.specs.Numbered.{puts, frees, entry_at}
use Rattle.client_request.specs.Request.{Request}
use Rattle.client_request.specs.Timers.{with_timer}
use Rattle.client_request.specs.View.{View}
use Rattle.client_dgram.specs.Plain.{Tables}
use Rattle.client_dgram.specs.declared.job.Job.{Job}
use Rattle.client_dgram.specs.declared.job.Stage.TheVariants as at
use Rattle.right_trace.specs.Messages.{under}
use Rattle.right_trace.specs.Time.{read_timeout}
use Rattle.proof_right.specs.machine.Dgrams.{Trying, Sent, Tryer, Dgrams, staged}
use Rattle.right_trace.specs.Updates.{with_at}
use Rattle.proof_parts.specs.Sights.{sight, due_of, IsFair}
use Rattle.proof_dgram.specs.Slots.{place_in, timer_in, Slots, slots_of, IsJobOf, AtOpening, AtSent, AreAlike, AreSlots}
use Rattle.proof_dgram.proofs.Changing.{alike_as}
use Rattle.proof_parts.proofs.Keys.{with_here, with_there, with_again, with_same, is_or_was}
use Rattle.proof_parts.proofs.Tables.{rises_below, absent_above, sorted_puts, sorted_frees, more_by_puts, puts_path, frees_path, fewer_by_frees, present_below}
use Rattle.proof_dgram.proofs.Shifting.{off_place, at_place, gone, come, leaves_place, comes_to_place}
use Rattle.proof_dgram.proofs.Tabling.{same_slots, alike_in, dues_more, above}
use Rattle.right_trace.specs.Trace.{Conf}

up : (a b : ℕ) → a < b → a < b + 1
up a b lt = omega arith

next : (a : ℕ) → a < a + 1
next a = omega arith

over : (a : ℕ) → a ≤ a + 1
over a = omega arith

-- A job comes to the next place.
pub comes_at : (c : Conf) (n : ℕ) (s : Tables Request) (d : Dgrams) (v : View) → AreSlots c (suc n) s d (sight v) → (t k : ℕ) (j : Job Request) (a : Tryer) → entry_at t s.jobs ≡ None → t < v.ticket → d.held k ≡ None → j.number ≡ k → IsJobOf c j a c.transports.dgram_max_retries
    → AreSlots c n (record s { jobs = puts t (record j { stage = at.Opening v.place }) s.jobs; places = puts v.place t s.places }) (come v.place k (staged a (Trying v.place)) d) (sight (record v { place = v.place + 1 }))
comes_at c n s d v f t k j a absent lt unheld number fit =
    let p = v.place in
    let i : Job Request = record j { stage = at.Opening p } in
    let new : entry_at p s.places ≡ None = absent_above 0 p p s.places (omega arith) f.places in
    let timers : ℕ → Option ℕ = λ r. entry_at r s.timers in
    let dues : ℕ → Option ℕ = λ r. due_of r v.timers.set in
    let after : Slots = at_place t p i timers (slots_of s) in
    record {
      alike = alike_in c n _ after (come p k (staged a (Trying p)) d) dues dues (same_slots _ after (puts_path t i s.jobs) (puts_path p t s.places) refl refl refl (more_by_puts p t s.places new)) refl
          (comes_to_place c n (slots_of s) d dues f.alike t p k i (staged a (Trying p)) absent unheld new number refl timers dues (λ r u ne e. (e, refl)) (λ r u ne e. e) (λ r e. absurd (none t r absent e))
          (AtOpening p refl refl (with_here p (Some t) (λ q. entry_at q s.places)) (with_here p (Some k) d.at ∙ ap Some (sym number)) (record { request = fit.request; octets = fit.octets; left = fit.left })));
      jobs = sorted_puts t i 0 v.ticket s.jobs zero-le lt f.jobs;
      places = sorted_puts p t 0 (p + 1) s.places zero-le (next p) (rises_below (λ (e : ℕ × ℕ). e.0) 0 p (p + 1) s.places (over p) f.places);
      timers = f.timers;
      queue = f.queue;
    }
  where
    none : (t r : ℕ) → entry_at t s.jobs ≡ None → entry_at r s.timers ≡ Some t → ⊥
    none t r absent e = (let g = f.alike.timers r t e in let z : None ≡ Some g.0 = sym absent ∙ g.1 in cc)

-- A job is sent at its place: the timer is the next one.
pub is_sent : (c : Conf) (s : Tables Request) (d : Dgrams) (v : View) → AreSlots c 0 s d (sight v) → IsFair v → (t p id : ℕ) (j i : Job Request) (a : Tryer) → entry_at t s.jobs ≡ Some j → j.stage ≡ at.Opening p → entry_at p s.places ≡ Some t → d.at p ≡ Some j.number
    → i.number ≡ j.number → i.stage ≡ at.Sent p v.timers.next → i.request ≡ under c id a.request → id < 65536 → a.stage ≡ Sent p id v.now → IsJobOf c i a (suc c.transports.dgram_max_retries)
    → AreSlots c 0 (record s { jobs = puts t i (frees t s.jobs); timers = puts v.timers.next t s.timers }) (record d { held = with_at j.number (Some a) d.held }) (sight (record v { timers = with_timer (v.now + read_timeout c) v.timers }))
is_sent c s d v f fair t p id j i a is st here its same at' rq lt its_stage fit =
    let r = v.timers.next in
    let k = j.number in
    let places : ℕ → Option ℕ = λ q. entry_at q s.places in
    let timers : ℕ → Option ℕ = λ q. entry_at q s.timers in
    let jobs : ℕ → Option (Job Request) = λ u. entry_at u s.jobs in
    let dues : ℕ → Option ℕ = λ q. due_of q v.timers.set in
    let few = fewer_by_frees p t s.places here in
    let off : Slots = off_place t p timers (slots_of s) in
    let out : AreAlike c 1 off (gone p k d) dues = leaves_place c 0 (slots_of s) d dues f.alike t p j is (ap place_in st) (above (length (frees p s.places)) (length s.places) few) timers dues (λ i u ne e. (e, refl)) (λ i u e. (e, λ same. no_timer i (e ∙ ap Some (sym same)))) in
    let d' : Dgrams = come p k a (gone p k d) in
    let on : Slots = at_place t p i (with_at r (Some t) timers) off in
    let dues' : ℕ → Option ℕ = with_at r (Some (v.now + read_timeout c)) dues in
    let new_timer : entry_at r s.timers ≡ None = absent_above 0 r r s.timers (omega arith) f.timers in
    let inn : AreAlike c 0 on d' dues' = comes_to_place c 0 off (gone p k d) dues out t p k i a (with_here t None jobs) (with_here k None d.held) (with_here p None places) same (ap place_in at') (with_at r (Some t) timers) dues'
    (λ q u ne e. (let o : r ≡ q → ⊥ = λ same. (let z : None ≡ Some u = sym new_timer ∙ (ap timers same ∙ e) in cc) in (with_there r (Some t) timers q o ∙ e, with_there r (Some (v.now + read_timeout c)) dues q o)))
    (λ q u ne e. elim (is_or_was r (Some t) timers q u e) [ inl x ↦ absurd (ne (let z : Some t ≡ Some u = x.1 in cc)) | inr x ↦ x.1 ])
    (λ q e. elim (is_or_was r (Some t) timers q t e) [ inl x ↦ ap timer_in at' ∙ ap Some x.0 | inr x ↦ absurd (no_timer q x.1) ])
    (AtSent p r id v.now at' its_stage (with_here p (Some t) (with_at p None places)) (with_here p (Some k) (with_at p None d.at) ∙ ap Some (sym same)) (with_here r (Some t) timers) (with_here r (Some (v.now + read_timeout c)) dues) rq lt fit) in
    let after : Tables Request = record s { jobs = puts t i (frees t s.jobs); timers = puts r t s.timers } in
    let some = above (length (frees p s.places)) (length s.places) few in
    record {
      alike = alike_as c 0 (slots_of after) d' (record d { held = with_at k (Some a) d.held }) (λ q. due_of q (with_timer (v.now + read_timeout c) v.timers).set)
          (λ q. sym (with_again k (Some a) None d.held q)) (λ q. sym (with_again p (Some k) None d.at q ∙ with_same p (Some k) d.at q its)) (again d.used (length s.places) f.alike.live some)
          (alike_in c 0 (slots_of after) on d' (λ q. due_of q (with_timer (v.now + read_timeout c) v.timers).set) dues'
          (same_slots (slots_of after) on (puts_path t i (frees t s.jobs) ∙ ap (with_at t (Some i)) (frees_path t 0 v.ticket s.jobs f.jobs)) (fun_ext (λ q. sym (with_again p (Some t) None places q ∙ with_same p (Some t) places q here))) (puts_path r t s.timers) refl refl (again (length s.places) (length s.places) refl some))
          (dues_more v (v.now + read_timeout c) fair) inn);
      jobs = sorted_puts t i 0 v.ticket (frees t s.jobs) zero-le (present_below t 0 v.ticket j s.jobs f.jobs is) (sorted_frees t 0 v.ticket s.jobs f.jobs);
      places = f.places;
      timers = sorted_puts r t 0 (r + 1) s.timers zero-le (next r) (rises_below (λ (e : ℕ × ℕ). e.0) 0 r (r + 1) s.timers (over r) f.timers);
      queue = f.queue;
    }
  where
    again : (a b : ℕ) → a ≡ b → 0 < b → a ≡ suc (a - 1)
    again a b e lt = omega arith

    no_timer : (q : ℕ) → entry_at q s.timers ≡ Some t → ⊥
    no_timer q e = (let g = f.alike.timers q t e in let z : Some g.0 ≡ Some j = sym g.1 ∙ is in let same : g.0 ≡ j = cc in let y : None ≡ Some q = sym (ap timer_in st) ∙ (ap (λ (j : Job Request). timer_in j.stage) (sym same) ∙ g.2) in cc)
