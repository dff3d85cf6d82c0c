-- The tables of a fallback, as those who wait below come and go.
use Rattle.std.proofs.Common.{◌≡◌, ℕ, true, ◌⊎◌, inl, inr, is_some, Option, Some, None, refl, sym, ap, subst, ◌∙◌, zero-le}
use Rattle.std.specs.Prelude.{option_and_then}
use Rattle.std.proofs.lemmas.Bool.{cases_eq}
use Rattle.client_request.specs.Numbered.{puts, frees, entry_at}
use Rattle.client_request.specs.Request.{Request}
use Rattle.client_dgram.specs.Plain as dgram
use Rattle.client_stream.specs.Plain as stream
use Rattle.client_multi.specs.Fallback.{Tables, lower_of, admits, without, without_job}
use Rattle.client_multi.specs.declared.dgram_stream.job.Job.{Job}
use Rattle.client_multi.specs.declared.dgram_stream.job.Job.TheVariants.{Dgram, Stream}
use Rattle.right_trace.specs.Updates.{with_at}
use Rattle.proof_right.specs.machine.Dgrams.{Tryer, Dgrams}
use Rattle.proof_parts.proofs.Keys.{with_here, with_there, was_there, is_or_was}
use Rattle.proof_parts.proofs.Tables.{at_frees, at_puts, sorted_frees, sorted_puts, rises_below}
use Rattle.proof_dgram.specs.Staying.{AsksTheSame}
use Rattle.proof_dgram.specs.Waiting.{WaitsBelow, AtDgrams, AtStreams, AreWaiting, number_in, numbers_of, ticket_at, Comes, TablesChange}

abbrev Both : Type 0
Both = Tables Request dgram.Asked stream.Asked

abbrev AnyJob : Type 0
AnyJob = Job Request dgram.Asked stream.Asked

moves : (s : Both) (d e : Dgrams) (by_dgram by_stream : ℕ → Option ℕ) (ticket : ℕ) → AreWaiting ticket_at s d by_dgram by_stream ticket → AsksTheSame d e → ((i k : ℕ) → by_dgram i ≡ Some k → is_some (e.held k) ≡ true) → AreWaiting ticket_at s e by_dgram by_stream ticket
moves s d e by_dgram by_stream ticket f same still = record {
  waits = λ t job is. on job (f.waits t job is);
  below = f.below;
  tickets = f.tickets;
  dgrams = f.dgrams;
  streams = f.streams;
  jobs_order = f.jobs_order;
  tickets_order = f.tickets_order;
}
  where
    found : (o : Option Tryer) (k : ℕ) → e.held k ≡ o → is_some o ≡ true → (a : Tryer) × (e.held k ≡ Some a)
    found None k is some = absurd (cc)
    found (Some a) k is some = (a, is)

    on : (job : AnyJob) → WaitsBelow ticket_at d by_dgram by_stream job → WaitsBelow ticket_at e by_dgram by_stream job
    on _ (AtDgrams i k r x a n at held asks) =
        let b = found (e.held k) k refl (still i k n) in
        let c = same k b.0 b.1 in
        let z : Some c.0 ≡ Some a = sym c.1 ∙ held in
        let y : c.0 ≡ a = cc in
        AtDgrams i k r x b.0 n at b.1 (sym c.2 ∙ (ap (λ (a : Tryer). a.request) y ∙ asks))
    on _ (AtStreams i k x n at) = AtStreams i k x n at

module _ (s : Both) (d : Dgrams) (by_dgram by_stream : ℕ → Option ℕ) (ticket : ℕ) (f : AreWaiting ticket_at s d by_dgram by_stream ticket) where
  other_lower : (t u : ℕ) (job other : AnyJob) → entry_at t s.jobs ≡ Some job → entry_at u s.jobs ≡ Some other → (t ≡ u → ⊥) → lower_of job ≡ lower_of other → ⊥
  other_lower t u job other a b ne same = ne (let z : Some t ≡ Some u = sym (f.below t job a) ∙ (ap (λ i. entry_at i s.tickets) same ∙ f.below u other b) in cc)

  -- A request waits at the datagrams no more.
  module _ (t lower k : ℕ) (r : Request) (x : dgram.Asked) (is : entry_at t s.jobs ≡ Some (Dgram lower k r x)) where
    abbrev pub fewer : Both
    fewer = record { jobs = frees t s.jobs; tickets = frees lower s.tickets }

    it_is : without t s ≡ fewer
    it_is = ap (λ o. without_job o (record s { jobs = frees t s.jobs })) is

    was_job : (u : ℕ) (job : AnyJob) → entry_at u (frees t s.jobs) ≡ Some job → (t ≡ u → ⊥) × (entry_at u s.jobs ≡ Some job)
    was_job u job e = was_there t (λ u. entry_at u s.jobs) u job (sym (at_frees t u 0 ticket s.jobs f.jobs_order) ∙ e)

    still_job : (u : ℕ) → (t ≡ u → ⊥) → entry_at u (frees t s.jobs) ≡ entry_at u s.jobs
    still_job u ne = at_frees t u 0 ticket s.jobs f.jobs_order ∙ with_there t None (λ u. entry_at u s.jobs) u ne

    still_ticket : (i : ℕ) → (lower ≡ i → ⊥) → entry_at i (frees lower s.tickets) ≡ entry_at i s.tickets
    still_ticket i ne = at_frees lower i 0 ticket s.tickets f.tickets_order ∙ with_there lower None (λ i. entry_at i s.tickets) i ne

    unlike : (u : ℕ) (job : AnyJob) → (t ≡ u → ⊥) → entry_at u s.jobs ≡ Some job → lower ≡ lower_of job → ⊥
    unlike u job ne e same = other_lower t u (Dgram lower k r x) job is e ne same

    waits_on : (job : AnyJob) → (lower ≡ lower_of job → ⊥) → WaitsBelow ticket_at d by_dgram by_stream job → WaitsBelow ticket_at d (with_at lower None by_dgram) by_stream job
    waits_on _ ne (AtDgrams i l q y a n at held same) = AtDgrams i l q y a (with_there lower None by_dgram i ne ∙ n) at held same
    waits_on _ ne (AtStreams i l y n at) = AtStreams i l y n at

    pub less_waiting : AreWaiting ticket_at fewer d (with_at lower None by_dgram) by_stream ticket
    less_waiting = record {
      waits = λ u job e. (let w = was_job u job e in waits_on job (unlike u job w.0 w.1) (f.waits u job w.1));
      below = λ u job e. (let w = was_job u job e in still_ticket (lower_of job) (unlike u job w.0 w.1) ∙ f.below u job w.1);
      tickets = λ i u e. (let w = was_there lower (λ i. entry_at i s.tickets) i u (sym (at_frees lower i 0 ticket s.tickets f.tickets_order) ∙ e) in let g = f.tickets i u w.1 in (g.0, still_job u (λ same. w.0 (let z : Some (Dgram lower k r x) ≡ Some g.0 = sym is ∙ (ap (λ u. entry_at u s.jobs) same ∙ g.1) in let y : Dgram lower k r x ≡ g.0 = cc in ap lower_of y ∙ g.2)) ∙ g.1, g.2));
      dgrams = λ i l n. (let w = was_there lower by_dgram i l n in let g = f.dgrams i l w.1 in (g.0, g.1, g.2, still_job g.0 (λ same. w.0 (let z : Some (Dgram lower k r x) ≡ Some (Dgram i l g.1 g.2) = sym is ∙ (ap (λ u. entry_at u s.jobs) same ∙ g.3) in cc)) ∙ g.3));
      streams = λ i l n. (let g = f.streams i l n in (g.0, g.1, still_job g.0 (λ same. (let z : Some (Dgram lower k r x) ≡ Some (Stream i g.1) = sym is ∙ (ap (λ u. entry_at u s.jobs) same ∙ g.2) in cc)) ∙ g.2));
      jobs_order = sorted_frees t 0 ticket s.jobs f.jobs_order;
      tickets_order = sorted_frees lower 0 ticket s.tickets f.tickets_order;
    }

    pub less_numbers : (u : ℕ) → numbers_of fewer by_stream u ≡ with_at t None (numbers_of s by_stream) u
    less_numbers u = elim (cases_eq t u) [
      | inl e ↦ subst (λ u. numbers_of fewer by_stream u ≡ with_at t None (numbers_of s by_stream) u) e (ap (λ o. option_and_then (number_in by_stream) o) (at_frees t t 0 ticket s.jobs f.jobs_order ∙ with_here t None (λ u. entry_at u s.jobs)) ∙ sym (with_here t None (numbers_of s by_stream)))
      | inr ne ↦ ap (λ o. option_and_then (number_in by_stream) o) (still_job u ne) ∙ sym (with_there t None (numbers_of s by_stream) u ne)
    ]

    pub less : AreWaiting ticket_at (without t s) d (with_at lower None by_dgram) by_stream ticket × ((u : ℕ) → numbers_of (without t s) by_stream u ≡ with_at t None (numbers_of s by_stream) u)
    less = subst (λ z. AreWaiting ticket_at z d (with_at lower None by_dgram) by_stream ticket × ((u : ℕ) → numbers_of z by_stream u ≡ with_at t None (numbers_of s by_stream) u)) (sym it_is) (less_waiting, less_numbers)

  -- One comes: `nd` and `ns` have the numbers then.
  module _ (later t k : ℕ) (job : AnyJob) (c : Comes t job s ticket later) (nd ns : ℕ → Option ℕ) (here : WaitsBelow ticket_at d nd ns job) (dgrams : (i l : ℕ) → nd i ≡ Some l → (by_dgram i ≡ Some l) ⊎ ((r : Request) × (x : dgram.Asked) × (job ≡ Dgram i l r x))) (streams : (i l : ℕ) → ns i ≡ Some l → (by_stream i ≡ Some l) ⊎ ((x : stream.Asked) × (job ≡ Stream i x)))
      (same_d : (i : ℕ) → (lower_of job ≡ i → ⊥) → nd i ≡ by_dgram i) (same_s : (i : ℕ) → (lower_of job ≡ i → ⊥) → ns i ≡ by_stream i) (its : number_in ns job ≡ Some k) where
    abbrev lower : ℕ
    lower = lower_of job

    now_job : (u : ℕ) → entry_at u (puts t job s.jobs) ≡ with_at t (Some job) (λ u. entry_at u s.jobs) u
    now_job u = at_puts t job u s.jobs

    now_ticket : (i : ℕ) → entry_at i (puts lower t s.tickets) ≡ with_at lower (Some t) (λ i. entry_at i s.tickets) i
    now_ticket i = at_puts lower t i s.tickets

    other : (u : ℕ) (z : AnyJob) → entry_at u s.jobs ≡ Some z → lower ≡ lower_of z → ⊥
    other u z e same = (let y : None ≡ Some u = sym c.1 ∙ (ap (λ i. entry_at i s.tickets) same ∙ f.below u z e) in cc)

    elsewhere : (u : ℕ) (z : AnyJob) → entry_at u s.jobs ≡ Some z → t ≡ u → ⊥
    elsewhere u z e same = (let y : None ≡ Some z = sym c.0 ∙ (ap (λ u. entry_at u s.jobs) same ∙ e) in cc)

    stays_job : (u : ℕ) (z : AnyJob) → entry_at u s.jobs ≡ Some z → entry_at u (puts t job s.jobs) ≡ Some z
    stays_job u z e = now_job u ∙ (with_there t (Some job) (λ u. entry_at u s.jobs) u (elsewhere u z e) ∙ e)

    waits_too : (z : AnyJob) → (lower ≡ lower_of z → ⊥) → WaitsBelow ticket_at d by_dgram by_stream z → WaitsBelow ticket_at d nd ns z
    waits_too _ ne (AtDgrams i l q y a n at held same) = AtDgrams i l q y a (same_d i ne ∙ n) at held same
    waits_too _ ne (AtStreams i l y n at) = AtStreams i l y (same_s i ne ∙ n) at

    here_job : entry_at t (puts t job s.jobs) ≡ Some job
    here_job = now_job t ∙ with_here t (Some job) (λ u. entry_at u s.jobs)

    pub comes_waiting : AreWaiting ticket_at (admits t job s) d nd ns later
    comes_waiting = record {
      waits = λ u z e. elim (is_or_was t (Some job) (λ u. entry_at u s.jobs) u z (sym (now_job u) ∙ e)) [ inl y ↦ subst (WaitsBelow ticket_at d nd ns) (let w : Some job ≡ Some z = y.1 in cc) here | inr y ↦ waits_too z (other u z y.1) (f.waits u z y.1) ];
      below = λ u z e. elim (is_or_was t (Some job) (λ u. entry_at u s.jobs) u z (sym (now_job u) ∙ e)) [
        | inl y ↦ (let w : Some job ≡ Some z = y.1 in let same : job ≡ z = cc in subst (λ z. entry_at (lower_of z) (puts lower t s.tickets) ≡ Some u) same (now_ticket lower ∙ (with_here lower (Some t) (λ i. entry_at i s.tickets) ∙ ap Some y.0)))
        | inr y ↦ now_ticket (lower_of z) ∙ (with_there lower (Some t) (λ i. entry_at i s.tickets) (lower_of z) (other u z y.1) ∙ f.below u z y.1)
      ];
      tickets = λ i u e. elim (is_or_was lower (Some t) (λ i. entry_at i s.tickets) i u (sym (now_ticket i) ∙ e)) [
        | inl y ↦ (let w : Some t ≡ Some u = y.1 in let same : t ≡ u = cc in (job, subst (λ u. entry_at u (puts t job s.jobs) ≡ Some job) same here_job, y.0))
        | inr y ↦ (let g = f.tickets i u y.1 in (g.0, stays_job u g.0 g.1, g.2))
      ];
      dgrams = λ i l n. elim (dgrams i l n) [ inl was ↦ (let g = f.dgrams i l was in (g.0, g.1, g.2, stays_job g.0 (Dgram i l g.1 g.2) g.3)) | inr y ↦ (t, y.0, y.1, here_job ∙ ap Some y.2) ];
      streams = λ i l n. elim (streams i l n) [ inl was ↦ (let g = f.streams i l was in (g.0, g.1, stays_job g.0 (Stream i g.1) g.2)) | inr y ↦ (t, y.0, here_job ∙ ap Some y.1) ];
      jobs_order = sorted_puts t job 0 later s.jobs zero-le c.2 (rises_below (λ (e : ℕ × AnyJob). e.0) 0 ticket later s.jobs c.4 f.jobs_order);
      tickets_order = sorted_puts lower t 0 later s.tickets zero-le c.3 (rises_below (λ (e : ℕ × ℕ). e.0) 0 ticket later s.tickets c.4 f.tickets_order);
    }

    pub comes_numbers : (u : ℕ) → numbers_of (admits t job s) ns u ≡ with_at t (Some k) (numbers_of s by_stream) u
    comes_numbers u = elim (cases_eq t u) [
      | inl e ↦ subst (λ u. numbers_of (admits t job s) ns u ≡ with_at t (Some k) (numbers_of s by_stream) u) e (ap (λ o. option_and_then (number_in ns) o) here_job ∙ (its ∙ sym (with_here t (Some k) (numbers_of s by_stream))))
      | inr ne ↦ ap (λ o. option_and_then (number_in ns) o) (now_job u ∙ with_there t (Some job) (λ u. entry_at u s.jobs) u ne) ∙ (go (entry_at u s.jobs) refl ∙ sym (with_there t (Some k) (numbers_of s by_stream) u ne))
    ]
      where
        one : (z : AnyJob) → (lower ≡ lower_of z → ⊥) → number_in ns z ≡ number_in by_stream z
        one (Dgram i l r y) ne = refl
        one (Stream i y) ne = same_s i ne

        go : (o : Option AnyJob) → entry_at u s.jobs ≡ o → option_and_then (number_in ns) o ≡ option_and_then (number_in by_stream) o
        go None e = refl
        go (Some z) e = one z (other u z e)

  pub comes_by_dgram : (later t lower k : ℕ) (r : Request) (x : dgram.Asked) (a : Tryer) → Comes t (Dgram lower k r x) s ticket later → by_dgram lower ≡ None → x.ticket ≡ lower → d.held k ≡ Some a → a.request ≡ r
      → AreWaiting ticket_at (admits t (Dgram lower k r x) s) d (with_at lower (Some k) by_dgram) by_stream later × ((u : ℕ) → numbers_of (admits t (Dgram lower k r x) s) by_stream u ≡ with_at t (Some k) (numbers_of s by_stream) u)
  comes_by_dgram later t lower k r x a c free at held asks =
      let nd = with_at lower (Some k) by_dgram in
      let here = AtDgrams lower k r x a (with_here lower (Some k) by_dgram) at held asks in
      let ds : (i l : ℕ) → nd i ≡ Some l → (by_dgram i ≡ Some l) ⊎ ((r' : Request) × (x' : dgram.Asked) × (Dgram lower k r x ≡ Dgram i l r' x')) = λ i l n. elim (is_or_was lower (Some k) by_dgram i l n) [ inl y ↦ inr (r, x, (let z : Some k ≡ Some l = y.1 in let same : k ≡ l = cc in ap (λ i. Dgram i k r x) y.0 ∙ ap (λ k. Dgram i k r x) same)) | inr y ↦ inl y.1 ] in
      let same : (i : ℕ) → (lower ≡ i → ⊥) → nd i ≡ by_dgram i = λ i ne. with_there lower (Some k) by_dgram i ne in
      (comes_waiting later t k (Dgram lower k r x) c nd by_stream here ds (λ i l n. inl n) same (λ i ne. refl) refl, comes_numbers later t k (Dgram lower k r x) c nd by_stream here ds (λ i l n. inl n) same (λ i ne. refl) refl)

  pub comes_by_stream : (later t lower k : ℕ) (x : stream.Asked) → Comes t (Stream lower x) s ticket later → by_stream lower ≡ None → ticket_at x ≡ lower
      → AreWaiting ticket_at (admits t (Stream lower x) s) d by_dgram (with_at lower (Some k) by_stream) later × ((u : ℕ) → numbers_of (admits t (Stream lower x) s) (with_at lower (Some k) by_stream) u ≡ with_at t (Some k) (numbers_of s by_stream) u)
  comes_by_stream later t lower k x c free at =
      let ns = with_at lower (Some k) by_stream in
      let here = AtStreams lower k x (with_here lower (Some k) by_stream) at in
      let ss : (i l : ℕ) → ns i ≡ Some l → (by_stream i ≡ Some l) ⊎ ((x' : stream.Asked) × (Stream lower x ≡ Stream i x')) = λ i l n. elim (is_or_was lower (Some k) by_stream i l n) [ inl y ↦ inr (x, ap (λ i. Stream i x) y.0) | inr y ↦ inl y.1 ] in
      let same : (i : ℕ) → (lower ≡ i → ⊥) → ns i ≡ by_stream i = λ i ne. with_there lower (Some k) by_stream i ne in
      let its = with_here lower (Some k) by_stream in
      (comes_waiting later t k (Stream lower x) c by_dgram ns here (λ i l n. inl n) ss (λ i ne. refl) same its, comes_numbers later t k (Stream lower x) c by_dgram ns here (λ i l n. inl n) ss (λ i ne. refl) same its)

pub tables_change : TablesChange
tables_change = record {
  moves = moves;
  less = λ s d by_dgram by_stream ticket t lower k r x f is. less s d by_dgram by_stream ticket f t lower k r x is;
  by_dgram = λ s d by_dgram by_stream ticket later t lower k r x a f c free none at held asks. comes_by_dgram s d by_dgram by_stream ticket f later t lower k r x a c free at held asks;
  by_stream = λ s d by_dgram by_stream ticket later t lower k x f c none free at. comes_by_stream s d by_dgram by_stream ticket f later t lower k x c free at;
}
