-- A request in hand: it is in no table but that of jobs, and is to be handed on or to back off.
use Rattle.std.proofs.Common.{◌≡◌, ℕ, ◌≤◌, ◌⊎◌, inl, inr, List, ◌∷◌, Option, Some, None, refl, sym, ap, subst, ◌∙◌, arith}
use Rattle.std.specs.Prelude.{option_map}
use Rattle.client_request.specs.Numbered.{puts, entry_at}
use Rattle.client_request.specs.Request.{Request}
use Rattle.client_request.specs.View.{View}
use Rattle.client_multi.specs.Links.{Link}
use Rattle.client_multi.specs.declared.multi_stream.job.Job.{Job}
use Rattle.client_multi.specs.declared.multi_stream.job.Stage.TheVariants.{Waiting, Resting, Held}
use Rattle.client_stream.specs.declared.line.LineStage.{LineStage}
use Rattle.right_trace.specs.Messages.{Octets}
use Rattle.proof_right.specs.machine.Streams.{Phase, Free, Expecting, Broken, Mode, Asker, Multi}
use Rattle.right_trace.specs.Updates.{with_at}
use Rattle.proof_parts.specs.Connections.{timer_of, dues}
use Rattle.proof_parts.specs.Lines.{StageFits as LineStageFits, IsNew, IsActive, IsIdle}
use Rattle.proof_parts.specs.Seats.{IsAway}
use Rattle.proof_parts.specs.Sights.{IsFair}
use Rattle.proof_parts.proofs.GoingOn.{none_next}
use Rattle.proof_parts.proofs.Keys.{with_here, with_there, each_number}
use Rattle.proof_parts.proofs.Tables.{at_puts}
use Rattle.proof_multi.specs.Servers.{Desk, Server, numbers, UnderWay, IsListed, IsLoose, IsThere, under, JobFits, LinkFits, IsNone, IsSome, Stands}
use Rattle.proof_multi.proofs.Desks.{desk_with, away_so}
use Rattle.proof_multi.proofs.Going.{waits_now}
use Rattle.right_trace.specs.Trace.{Conf}

pub same_job : (o : Option (Job Request)) (a b : Job Request) → o ≡ Some a → o ≡ Some b → a ≡ b
same_job o a b e f = let g : Some a ≡ Some b = sym e ∙ f in cc

pub same_asker : (o : Option Asker) (a b : Asker) → o ≡ Some a → o ≡ Some b → a ≡ b
same_asker o a b e f = let g : Some a ≡ Some b = sym e ∙ f in cc

pub same_link : (o : Option (Link Request)) (a b : Link Request) → o ≡ Some a → o ≡ Some b → a ≡ b
same_link o a b e f = let g : Some a ≡ Some b = sym e ∙ f in cc

-- an entry beside one that is put
pub puts_beside : {A : Type 0} → (t : ℕ) (v : A) (w : Option A) (es : List (ℕ × A)) (u : ℕ) → (t ≡ u → ⊥) → entry_at u (puts t v es) ≡ with_at t w (λ j. entry_at j es) u
puts_beside t v w es u ne = at_puts t v u es ∙ (with_there t (Some v) (λ j. entry_at j es) u ne ∙ sym (with_there t w (λ j. entry_at j es) u ne))

pub puts_here : {A : Type 0} → (t : ℕ) (v : A) (es : List (ℕ × A)) → entry_at t (puts t v es) ≡ Some v
puts_here t v es = at_puts t v t es ∙ with_here t (Some v) (λ j. entry_at j es)

pub puts_there : {A : Type 0} → (t : ℕ) (v : A) (es : List (ℕ × A)) (u : ℕ) → (t ≡ u → ⊥) → entry_at u (puts t v es) ≡ entry_at u es
puts_there t v es u ne = at_puts t v u es ∙ with_there t (Some v) (λ j. entry_at j es) u ne

-- numbers stay where one job changes and keeps its own
pub numbers_stay : (t : ℕ) (d e : Desk) → ((u : ℕ) → (t ≡ u → ⊥) → e.jobs u ≡ d.jobs u) → (a b : Job Request) → d.jobs t ≡ Some a → e.jobs t ≡ Some b → b.number ≡ a.number → (u : ℕ) → numbers e u ≡ numbers d u
numbers_stay t d e beside a b was is same u = each_number (λ u. numbers e u ≡ numbers d u) t
    (ap (option_map (λ (job : Job Request). job.number)) is ∙ (ap Some same ∙ sym (ap (option_map (λ (job : Job Request). job.number)) was)))
    (λ u ne. ap (option_map (λ (job : Job Request). job.number)) (beside u ne)) u

pub line_due : (c : Conf) (f : ℕ → Option ℕ) (idle : ℕ) (at : LineStage) (mode : Mode) (i : ℕ) → LineStageFits c f idle at mode → timer_of at ≡ Some i → (due : ℕ) × (f i ≡ Some due)
line_due c f idle at mode i (IsNew e g) own = absurd (let z = sym (ap timer_of e) ∙ own in cc)
line_due c f idle at mode i (IsActive timer since e g h) own = (_, ap f (let z : Some timer ≡ Some i = sym (ap timer_of e) ∙ own in let s : timer ≡ i = cc in sym s) ∙ h)
line_due c f idle at mode i (IsIdle timer since e g h) own = (_, ap f (let z : Some timer ≡ Some i = sym (ap timer_of e) ∙ own in let s : timer ≡ i = cc in sym s) ∙ h)

-- the timer of a connection is set
pub link_due : (c : Conf) (d : Desk) (m : Multi) (frames : ℕ → List Octets) (f : ℕ → Option ℕ) (ticket p : ℕ) (l : Link Request) (i : ℕ) → LinkFits c d m frames f ticket p → d.links p ≡ Some l → timer_of l.line.stage ≡ Some i → (due : ℕ) × (f i ≡ Some due)
link_due c d m frames f ticket p l i (IsNone a b away) is own = absurd (let z = sym a ∙ is in cc)
link_due c d m frames f ticket p l i (IsSome k x a link) is own =
    line_due c f k.line.idle_time k.line.stage x.mode i link.line.fits.stage (ap (λ (l : Link Request). timer_of l.line.stage) (same_link (d.links p) k l a is) ∙ own)

-- a timer that is set has a number that was drawn
pub not_next : (v : View) (i due : ℕ) → IsFair v → dues v i ≡ Some due → v.timers.next ≡ i → ⊥
not_next v i due fair set e = let none = none_next v i fair (at_most v.timers.next i e) in let z : None ≡ Some due = sym none ∙ set in cc
  where
    at_most : (a b : ℕ) → a ≡ b → a ≤ b
    at_most a b e = omega arith

pub record InHand (c : Conf) (t : ℕ) (job : Job Request) (ph : Phase) (y : UnderWay) (s : Server) (m : Multi) (v : View) : Type 0 where
  pub here : (desk_with t (waits_now job) s).jobs t ≡ Some (waits_now job)
  pub its : JobFits c y (desk_with t (waits_now job) s) m (dues v) t (waits_now job)
  pub phase : its.ask.phase ≡ ph
  pub loose : (ph ≡ Free) ⊎ (ph ≡ Broken)
  pub away : (p : ℕ) → IsAway p (m.asks job.number)
  pub ends : (i : ℕ) → entry_at i s.timers ≡ Some t → job.end ≡ i
  pub inner : (i : ℕ) → entry_at i s.inner ≡ Some t → ⊥
  pub waiting : IsListed t s.waiting → ⊥
  pub own : (u : ℕ) (other : Job Request) → (desk_with t (waits_now job) s).jobs u ≡ Some other → other.number ≡ job.number → t ≡ u
  pub number : (other : Job Request) → (desk_with t (waits_now job) s).jobs t ≡ Some other → other.number ≡ job.number

module _ (c : Conf) (frames : ℕ → List Octets) (t : ℕ) (job : Job Request) (ph : Phase) (todo : List (ℕ × Phase)) (y : UnderWay) (s : Server) (m : Multi) (v : View) (is_y : y.todo ≡ (t, ph) ∷ todo) (st : Stands c y (desk_with t (waits_now job) s) s m frames v) where
  abbrev d : Desk
  d = desk_with t (waits_now job) s

  here : d.jobs t ≡ Some (waits_now job)
  here = with_here t (Some (waits_now job)) (λ j. entry_at j s.jobs)

  its : JobFits c y d m (dues v) t (waits_now job)
  its = st.server.tables.jobs t (waits_now job) here

  todo_of : (j : Job Request) × (a : Asker) × (d.jobs t ≡ Some j) × (j.stage ≡ Waiting) × (m.asks j.number ≡ Some a) × (a.phase ≡ ph) × ((ph ≡ Free) ⊎ (ph ≡ Broken))
  todo_of = st.server.tables.todo t ph (subst (λ (xs : List (ℕ × Phase)). IsLoose t ph xs) (sym is_y) (inl (refl, refl)))

  phase : its.ask.phase ≡ ph
  phase =
      let o = todo_of in
      let j : o.0 ≡ waits_now job = same_job (d.jobs t) o.0 (waits_now job) o.2 here in
      ap (λ (a : Asker). a.phase) (same_asker (m.asks job.number) its.ask o.1 its.is (ap (λ (j : Job Request). m.asks j.number) (sym j) ∙ o.4)) ∙ o.5

  none_there : (p : ℕ) → IsAway p (m.asks job.number)
  none_there p = away_so p (m.asks job.number) its.ask its.is (λ h. elim todo_of.6 [ inl b ↦ subst (IsThere p) (phase ∙ b) h | inr b ↦ subst (IsThere p) (phase ∙ b) h ])

  pub hand_of : InHand c t job ph y s m v
  hand_of = record {
    here = here;
    its = its;
    phase = phase;
    loose = todo_of.6;
    away = none_there;
    ends = λ i is. (let o = st.server.tables.timers i t is in let j = same_job (d.jobs t) o.0 (waits_now job) o.1 here in
        elim o.2 [ inl e ↦ sym (ap (λ (j : Job Request). j.end) j) ∙ e | inr e ↦ absurd (let z : Waiting ≡ Resting i = sym (ap (λ (j : Job Request). j.stage) j) ∙ e in cc) ]);
    inner = λ i is. (let o = st.server.tables.inner i t is in let j = same_job (d.jobs t) o.0 (waits_now job) o.2 here in let z : Waiting ≡ Held o.1 (under i) = sym (ap (λ (j : Job Request). j.stage) j) ∙ o.3 in cc);
    waiting = λ l. (let o = st.server.tables.waiting t l in
        let j : o.0 ≡ waits_now job = same_job (d.jobs t) o.0 (waits_now job) o.2 here in
        let a : its.ask ≡ o.1 = same_asker (m.asks job.number) its.ask o.1 its.is (ap (λ (j : Job Request). m.asks j.number) (sym j) ∙ o.4) in
        let e : ph ≡ Expecting = sym phase ∙ (ap (λ (a : Asker). a.phase) a ∙ o.5) in
        elim todo_of.6 [ inl b ↦ (let z : Free ≡ Expecting = sym b ∙ e in cc) | inr b ↦ (let z : Broken ≡ Expecting = sym b ∙ e in cc) ]);
    own = λ u other is same. st.server.tables.apart t u (waits_now job) other here is (sym same);
    number = λ other is. ap (λ (j : Job Request). j.number) (same_job (d.jobs t) other (waits_now job) is here);
  }
