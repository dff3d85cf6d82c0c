-- Timers fire until none is due.
use Rattle.std.proofs.Common.{◌≡◌, ℕ, zero, suc, ◌+◌, ◌<◌, true, is_some, [], Option, Some, None, refl, sym, ap, subst, subst₂, arith, append-nil}
use Rattle.std.specs.Prelude.{option_and_then}
use Rattle.client_request.specs.Timers.{due_now, fired_at, cancelled}
use Rattle.client_request.specs.View.{View}
use Rattle.client_request.specs.declared.event.What.{What}
use Rattle.client_request.specs.declared.timers.Timer.{Timer}
use Rattle.proof_parts.specs.ClientTie.{Arrives}
use Rattle.proof_parts.specs.PartTie.{Phase, Untold, Told, Passed}
use Rattle.proof_parts.specs.Sights.{sight, IsEarly}
use Rattle.proof_client.specs.Above.{Tying}
use Rattle.client_steps.specs.Client.{fire, fires, fires_first, fires_all, most_timers}
use Rattle.client_steps.specs.Machines.{machine_of}
use Rattle.client_steps.proofs.TimerLaws.{due_listed, listed_due, fires_now, rests_now}
use Rattle.proof_client.proofs.Calling.{PlainClient, IsTied, Comes, comes_then}
use Rattle.proof_client.proofs.Firing.{IfSome, some_then, some_on, AreInTime, MayFire, one_fires}
use Rattle.proof_client.proofs.Holding.{State, Kept}
use Rattle.proof_client.proofs.Leading.{leads_later}

module _ (g : Tying) where
  -- moves at which nobody is asked keep those in time who are tried
  pub keeps_time : (phase : Phase) (e : What) (v : View) (x : State g) (b : Kept g) (d : PlainClient g) → (c : Comes g phase e v x b d) → AreInTime g x → AreInTime g c.end
  keeps_time phase e v x b d c early k a h =
      let l = leads_later g.st g.P g.B x b c.outs c.end c.beside c.leads in
      let m = l.held c.asked k a h in
      in_time x.now c.end.now (m.0).moment a.moment (g.c).timeout (early k m.0 m.1) l.now m.2
    where
      in_time : (n n' a b t : ℕ) → n < a + t → n' ≡ n → b ≡ a → n' < b + t
      in_time n n' a b t lt e f = omega arith

  pub may_fire : (phase : Phase) (e : What) (v : View) (x : State g) (b : Kept g) (d : PlainClient g) → (c : Comes g phase e v x b d) → MayFire g phase x → MayFire g phase c.end
  may_fire (Untold w) e v x b d c may = tt
  may_fire (Told p left) e v x b d c may = keeps_time (Told p left) e v x b d c may
  may_fire (Passed w) e v x b d c may = keeps_time (Passed w) e v x b d c may

  -- timers have fired until none was due
  pub record Rested (phase : Phase) (e : What) (v : View) (from : State g) (b : Kept g) (d : PlainClient g) : Type 0 where
    pub comes : Comes g phase e v from b d
    pub early : IsEarly d.view

  pub stays : (phase : Phase) (e : What) (d : PlainClient g) (x : State g) (b : Kept g) → IsTied g phase e d x b → Comes g phase e d.view x b d
  stays phase e d x b tied = record { outs = []; end = x; beside = b; leads = Arrives x b; tied = tied; asked = refl; put = sym (append-nil d.view.outs) }

  module _ (phase : Phase) (e : What) where
    -- what comes of so many timers
    abbrev FiresDo : ℕ → Type 0
    FiresDo n = (d : PlainClient g) (x : State g) (b : Kept g) → IsTied g phase e d x b → MayFire g phase x → IfSome g (Rested phase e d.view x b) (fires (machine_of g.T g.ticket g.stale) n d)

    fires_do : (n : ℕ) → FiresDo n
    fires_do zero d x b tied may = tt
    fires_do (suc n) d x b tied may = by (due_now d.view.now d.view.timers.set) refl (fires_do n)
      where
        by : (y : Option Timer) → due_now d.view.now d.view.timers.set ≡ y → FiresDo n → IfSome g (Rested phase e d.view x b) (fires_first (machine_of g.T g.ticket g.stale) (fires (machine_of g.T g.ticket g.stale) n) d y)
        by None none ih = record {
          comes = stays phase e d x b tied;
          early = λ i due s. (let l = listed_due i due d.view.timers.set s in subst (λ due. d.view.now < due) l.2 (rests_now d.view.now d.view.timers.set none l.0 l.1));
        }
        by (Some t) some ih =
            let first = fires_now d.view.now d.view.timers.set t some in
            let is = due_listed t 0 d.view.timers.next d.view.timers.set tied.fits.fair.order first.0 in
            let v0 : View = record d.view { timers = cancelled t.id d.view.timers } in
            subst (λ y. IfSome g (Rested phase e d.view x b) (option_and_then (fires (machine_of g.T g.ticket g.stale) n) (fire (machine_of g.T g.ticket g.stale) t.id (record d { view = record d.view { timers = fired_at d.view.timers y } })))) (sym some)
            (some_then g (Comes g phase e v0 x b) (Rested phase e d.view x b) (fires (machine_of g.T g.ticket g.stale) n) (fire (machine_of g.T g.ticket g.stale) t.id (record d { view = v0 }))
            (one_fires g phase e d.layer d.asked d.view x b tied.fits tied.board t.id t.due is first.1 may)
            (λ d1 c. some_on g (Rested phase e d1.view c.end c.beside) (Rested phase e d.view x b) (fires (machine_of g.T g.ticket g.stale) n d1)
            (ih d1 c.end c.beside c.tied (may_fire phase e v0 x b d1 c may))
            (λ d2 r. record { comes = comes_then g phase e d.view d1.view x b d2 c.end c.beside c.outs c.leads c.asked c.put r.comes; early = r.early })))

    pub all_fire : (d : PlainClient g) (x : State g) (b : Kept g) → IsTied g phase e d x b → MayFire g phase x → IfSome g (Rested phase e d.view x b) (fires_all (machine_of g.T g.ticket g.stale) d)
    all_fire d x b tied may = fires_do most_timers d x b tied may

  -- where no timer is due, those who are tried are in time
  pub are_in_time : (phase : Phase) (e : What) (d : PlainClient g) (x : State g) (b : Kept g) → IsTied g phase e d x b → IsEarly d.view → AreInTime g x
  are_in_time phase e d x b t early k a h =
      let n = g.tie.held phase d.layer (sight d.view) x b k t.fits.tied (is_there (x.held k) a h) in
      let m = t.fits.holds.kept.named n.0 k n.1 in
      let w = t.fits.holds.kept.kept n.0 m.0 m.1 in
      subst₂ (λ n due. n < due) (sym t.fits.holds.now) (w.timely a (subst (λ k. x.held k ≡ Some a) (sym m.2) h)) (early (m.0).timer w.due w.set)
    where
      is_there : {A : Type 0} → (o : Option A) (a : A) → o ≡ Some a → is_some o ≡ true
      is_there o a e = ap is_some e
