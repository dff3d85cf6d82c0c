-- A server looks at no timer but its own.
use Rattle.std.proofs.Common.{◌≡◌, ℕ, ◌≤◌, inl, inr, List, Option, Some, refl, ◌∙◌, lt_of_lt_of_le}
use Rattle.client_request.specs.Request.{Request}
use Rattle.client_multi.specs.Links.{Link}
use Rattle.client_multi.specs.declared.multi_stream.job.Job.{Job}
use Rattle.client_multi.specs.declared.multi_stream.job.Stage.{Stage}
use Rattle.right_trace.specs.Messages.{Octets}
use Rattle.proof_right.specs.machine.Streams.{Phase, Multi}
use Rattle.proof_parts.specs.Connections.{timer_of}
use Rattle.proof_parts.specs.Sights.{Sight}
use Rattle.proof_parts.proofs.Tables.{rises_below}
use Rattle.proof_multi.specs.Servers.{Desk, Server, AreOrderly, names_at, UnderWay, StageFits, AtWaiting, AtResting, AtHeld, HasFailed, IsToHand, LinkFits, IsNone, IsSome, AreTables, IsServer, Owns}
use Rattle.proof_multi.proofs.Desks.{link_stays, names_apart}
use Rattle.right_trace.specs.Trace.{Conf}

module _ (c : Conf) (y : UnderWay) (d : Desk) (m : Multi) (f g : ℕ → Option ℕ) where
  stage_so : ((i t : ℕ) → d.timers i ≡ Some t → g i ≡ f i) → (t : ℕ) (at : Stage) (phase : Phase) → StageFits y d f t at phase → StageFits y d g t at phase
  stage_so due t at phase (AtWaiting a b l) = AtWaiting a b l
  stage_so due t at phase (AtResting i until a b o h) = AtResting i until a b o (due i t o ∙ h)
  stage_so due t at phase (AtHeld p i a b o) = AtHeld p i a b o
  stage_so due t at phase (HasFailed p i a b o h) = HasFailed p i a b o h
  stage_so due t at phase (IsToHand l w h) = IsToHand l w h

  pub tables_retimed : ((i t : ℕ) → d.timers i ≡ Some t → g i ≡ f i) → AreTables c y d m f → AreTables c y d m g
  tables_retimed due s = record {
    jobs = λ t job is. (let j = s.jobs t job is in record { ask = j.ask; is = j.is; request = j.request; octets = j.octets; end = j.end; over = due job.end t j.end ∙ j.over; stage = stage_so due t job.stage j.ask.phase j.stage });
    asked = s.asked;
    apart = s.apart;
    timers = s.timers;
    inner = s.inner;
    waiting = s.waiting;
    todo = s.todo;
    failing = s.failing;
    opening = s.opening;
    calm = s.calm;
  }

  pub link_retimed : (frames : ℕ → List Octets) (ticket next p : ℕ) → AreTables c y d m f → ((l : Link Request) (i : ℕ) → d.links p ≡ Some l → timer_of l.line.stage ≡ Some i → g i ≡ f i) → ticket ≤ next → LinkFits c d m frames f ticket p → LinkFits c d m frames g next p
  link_retimed frames ticket next p s due later (IsNone a b away) = IsNone a b away
  link_retimed frames ticket next p s due later (IsSome l x a link) = IsSome l x a (link_stays c p l (names_at d) (names_at d) m m x (frames p) f g ticket next link refl (λ k. inl refl) (λ i j b nm is there. nm) (names_apart d s.apart s.inner) (λ i own. due l i a own) later)

  pub server_retimed : (frames : ℕ → List Octets) (ticket next : ℕ) → ((i : ℕ) → Owns d i → g i ≡ f i) → ticket ≤ next → IsServer c y d m frames f ticket → IsServer c y d m frames g next
  server_retimed frames ticket next due later s = record {
    tables = tables_retimed (λ i t at. due i (inl (t, at))) s.tables;
    links = λ p. link_retimed frames ticket next p s.tables (λ l i at own. due i (inr (p, l, at, own))) later (s.links p);
    watched = s.watched;
  }

-- numbers that were drawn before are below later ones
pub order_up : (s : Server) (x y : Sight) → AreOrderly s x → x.timer ≤ y.timer → x.ticket ≤ y.ticket → x.place ≤ y.place → AreOrderly s y
order_up s x y o timer ticket place = record {
  jobs = rises_below (λ (e : ℕ × Job Request). e.0) 0 x.ticket y.ticket s.jobs ticket o.jobs;
  timers = rises_below (λ (e : ℕ × ℕ). e.0) 0 x.timer y.timer s.timers timer o.timers;
  inner = rises_below (λ (e : ℕ × ℕ). e.0) 0 x.ticket y.ticket s.inner ticket o.inner;
  waiting = rises_below (λ (t : ℕ). t) 0 x.ticket y.ticket s.waiting ticket o.waiting;
  connections = rises_below (λ (e : ℕ × Link Request). e.0) 0 x.place y.place s.connections place o.connections;
  watches = rises_below (λ (e : ℕ × ℕ). e.0) 0 x.timer y.timer s.watches timer o.watches;
  opening = λ p e. (let q = o.opening p e in (lt_of_lt_of_le q.0 place, q.1));
}
