-- Every list of rows that the client makes above a tied transport is a run.
use Rattle.std.proofs.Common.{◌≡◌, ℕ, ◌<◌, max, false, is_some, List, [], ◌∷◌, ◌++◌, Option, Some, None, refl, sym, ap, subst, ◌∙◌, arith, append_assoc, append-nil, le_refl}
use Rattle.std.specs.Prelude.{option_and_then, option_map}
use Rattle.client_request.specs.Composed.{composed}
use Rattle.client_request.specs.View.{View}
use Rattle.client_request.specs.declared.event.Event.{Event}
use Rattle.client_request.specs.declared.event.Out.{Out}
use Rattle.client_request.specs.declared.event.Row.{Row}
use Rattle.client_request.specs.declared.event.What.{What}
use Rattle.client_request.specs.declared.event.What.TheVariants.{Ask, Opened, OpenFailed, SendFailed, ShortSend, Datagram, RecvFailed, Wrote, WriteFailed, Bytes, ReadFailed, Ended, Tick}
use Rattle.right_trace.specs.Requests.{is_ask}
use Rattle.right_trace.specs.Timely.{IsAskedInOctets, AllAskedInOctets}
use Rattle.proof_right.specs.machine.Client.{IsDone, IsStep, IsRun, Ends, Goes_on, row_begins, begun}
use Rattle.proof_parts.specs.ClientTie.{Arrives, AllBeside, RunBeside}
use Rattle.right_trace.specs.InOctets.{IsInOctets, AllInOctets}
use Rattle.proof_parts.specs.PartTie.{Phase, Untold, Told, MayEnd, MayLeave}
use Rattle.proof_parts.specs.Sights.{sight, IsEarly}
use Rattle.proof_client.specs.Above.{Tying, begins_with, AreWords, ClientsAboveTiesRun}
use Rattle.client_steps.specs.Client.{at_moment, rested, row_of, row_and_rest, then_rows, fires_all, tells, brings, happens, client_step, plain_rows}
use Rattle.client_steps.specs.Machines.{machine_of}
use Rattle.proof_client.proofs.Asking.{Happened, asks_it}
use Rattle.proof_client.proofs.Calling.{PlainClient, IsTied, Comes}
use Rattle.proof_client.proofs.Firing.{IfSome, AreInTime, some_then, some_on}
use Rattle.proof_client.proofs.Hearing.{IsHeard, tells_it, bytes_do, holds_as}
use Rattle.proof_client.proofs.Holding.{State, Kept}
use Rattle.proof_client.proofs.Leading.{leads_on, all_moves}
use Rattle.proof_client.proofs.Looping.{Rested, all_fire, keeps_time, are_in_time}

either_way : (a b : ℕ) → max a b ≡ max b a
either_way a b = omega arith

-- the place that an event of the transport is about
abbrev about : What → ℕ
about (Ask r) = 0
about (Opened p) = p
about (OpenFailed p f) = p
about (SendFailed p f) = p
about (ShortSend p) = p
about (Datagram p o) = p
about (RecvFailed p f) = p
about (Wrote p n) = p
about (WriteFailed p f) = p
about (Bytes p o) = p
about (ReadFailed p f) = p
about (Ended p) = p
about Tick = 0

module _ (g : Tying) where
  happened_of : (at : ℕ) (e : What) (v : View) (from : State g) (b : Kept g) (d : PlainClient g) → is_ask e ≡ false → AreInTime g from → Comes g (Told at 0) e v from b d → Happened g v from b d
  happened_of at e v from b d taken early c = record {
    phase = Told at 0;
    may_end = refl;
    pending = e;
    taken = taken;
    outs = c.outs;
    end = c.end;
    beside = c.beside;
    leads = c.leads;
    may_fire = keeps_time g (Told at 0) e v from b d c early;
    tied = c.tied;
    put = c.put;
  }

  -- what an event does
  happens_do : (w : What) (d : PlainClient g) (x : State g) (b : Kept g) → IsAskedInOctets w → IsTied g (Untold w) w d x b → IsEarly d.view → IfSome g (Happened g d.view x b) (happens (machine_of g.T g.ticket g.stale) (g.c).timeout w d)
  happens_do (Ask r) d x b octets t early = asks_it g r d.layer d.asked d.view x b t.fits octets t.board
  happens_do (Bytes p o) d x b octets t early =
      let in_time : AreInTime g x = are_in_time g (Untold (Bytes p o)) (Bytes p o) d x b t early in
      some_on g (Comes g (Told p 0) (Bytes p o) d.view x b) (Happened g d.view x b) (brings (machine_of g.T g.ticket g.stale) p o d) (bytes_do g (Bytes p o) p o d x b t early in_time)
      (λ d1 c. happened_of p (Bytes p o) d.view x b d1 refl in_time c)
  happens_do Tick d x b octets t early = record {
    phase = Untold Tick;
    may_end = tt;
    pending = Tick;
    taken = refl;
    outs = [];
    end = x;
    beside = b;
    leads = Arrives x b;
    may_fire = tt;
    tied = t;
    put = sym (append-nil d.view.outs);
  }
  happens_do w d x b octets t early =
      let in_time : AreInTime g x = are_in_time g (Untold w) w d x b t early in
      some_on g (IsHeard g w (MayLeave w) d.view x b) (Happened g d.view x b) (tells (machine_of g.T g.ticket g.stale) w d) (tells_it g w w (about w) d x b refl t early)
      (λ d1 h. happened_of h.at w d.view x b d1 refl in_time (subst (λ l. Comes g (Told h.at l) w d.view x b d1) h.may_be h.comes))

  -- A row is done when no timer is due.
  is_done : (phase : Phase) (e : What) (d : PlainClient g) (x : State g) (b : Kept g) → MayEnd phase → is_ask e ≡ false → IsTied g phase e d x b → IsEarly d.view → IsDone g.c g.st composed g.P x
  is_done phase e d x b end taken t early = record {
    taken = subst (λ w. is_ask w ≡ false) (sym t.fits.holds.pending) taken;
    board = g.tie.taken phase d.layer (sight d.view) x b t.fits.tied;
    leaving = t.fits.leaving;
    rests = λ i lt. g.tie.rests phase d.layer d.view x b i end early t.fits.tied lt;
    tried_alone = λ i k lt e. g.tie.tried_alone phase d.layer (sight d.view) x b i k t.fits.tied lt e;
    goes_on = λ k a e. g.tie.waits phase d.layer (sight d.view) x b k t.fits.tied (ap is_some e);
    early = are_in_time g phase e d x b t early;
  }

  -- a row begins
  begins_so : (e : Event) (phase : Phase) (w : What) (d : PlainClient g) (x : State g) (b : Kept g) → MayEnd phase → IsInOctets e.what → IsTied g phase w d x b → IsTied g (Untold e.what) e.what (at_moment e.moment.0 d) (row_begins g.c g.st composed g.P e x) b
  begins_so e phase w d x b end octets t = record {
    fits = record {
      holds = record {
        now = ap (λ n. max e.moment.0 n) t.fits.holds.now ∙ either_way e.moment.0 d.view.now;
        asked = t.fits.holds.asked;
        pending = refl;
        kept = t.fits.holds.kept;
        waiting = t.fits.holds.waiting;
        deadlines = t.fits.holds.deadlines;
        foreign = t.fits.holds.foreign;
      };
      leaving = t.fits.leaving;
      fair = record { order = t.fits.fair.order; words = t.fits.fair.words };
      tied = g.tie.same (Untold e.what) d.layer (record (sight d.view) { now = max e.moment.0 d.view.now }) (sight (record d.view { now = max d.view.now e.moment.0 })) (row_begins g.c g.st composed g.P e x) b
          (g.tie.begins phase d.layer (sight d.view) x b e end octets t.fits.leaving t.fits.tied)
          (either_way d.view.now e.moment.0) (λ i o. refl) (le_refl d.view.timers.next) (le_refl d.view.ticket) refl;
    };
    board = t.board;
  }

  rests_so : (phase : Phase) (w : What) (d : PlainClient g) (x : State g) (b : Kept g) → IsTied g phase w d x b → IsTied g phase w (rested d) x b
  rests_so phase w d x b t = record {
    fits = record {
      holds = holds_as g w (g.names d.layer) d.layer d.asked d.view (rested d).view x refl refl t.fits.holds;
      leaving = t.fits.leaving;
      fair = record { order = t.fits.fair.order; words = t.fits.fair.words };
      tied = t.fits.tied;
    };
    board = t.board;
  }

  -- what a step of the plain client is to the machine
  pub record IsStepped (e : Event) (from : State g) (b : Kept g) (d : PlainClient g) : Type 0 where
    pub phase : Phase
    pub may_end : MayEnd phase
    pub pending : What
    pub end : State g
    pub kept : Kept g
    pub step : IsStep g.c g.st composed g.P from (row_of e d) end
    pub beside : AllBeside g.st g.P g.B (row_begins g.c g.st composed g.P e from) step.made step.moves b kept
    pub tied : IsTied g phase pending (rested d) end kept

  -- Timers fire, the event happens, and timers fire again.
  pub steps_do : (e : Event) (phase : Phase) (w : What) (d : PlainClient g) (x : State g) (b : Kept g) → IsAskedInOctets e.what → IsInOctets e.what → MayEnd phase → IsTied g phase w d x b → d.view.outs ≡ []
      → IfSome g (IsStepped e x b) (client_step (machine_of g.T g.ticket g.stale) (g.c).timeout e d)
  steps_do e phase w d x b asked octets end t none =
      let d0 : PlainClient g = at_moment e.moment.0 d in
      let x0 : State g = row_begins g.c g.st composed g.P e x in
      some_then g (Happened g d0.view x0 b) (IsStepped e x b) (fires_all (machine_of g.T g.ticket g.stale)) (option_and_then (happens (machine_of g.T g.ticket g.stale) (g.c).timeout e.what) (fires_all (machine_of g.T g.ticket g.stale) d0))
      (some_then g (Rested g (Untold e.what) e.what d0.view x0 b) (Happened g d0.view x0 b) (happens (machine_of g.T g.ticket g.stale) (g.c).timeout e.what) (fires_all (machine_of g.T g.ticket g.stale) d0)
      (all_fire g (Untold e.what) e.what d0 x0 b (begins_so e phase w d x b end octets t) tt)
      (λ d1 r. some_on g (Happened g d1.view r.comes.end r.comes.beside) (Happened g d0.view x0 b) (happens (machine_of g.T g.ticket g.stale) (g.c).timeout e.what d1) (happens_do e.what d1 r.comes.end r.comes.beside asked r.comes.tied r.early)
      (λ d2 h. record {
        phase = h.phase;
        may_end = h.may_end;
        pending = h.pending;
        taken = h.taken;
        outs = r.comes.outs ++ h.outs;
        end = h.end;
        beside = h.beside;
        leads = leads_on g.st g.P g.B x0 b r.comes.outs r.comes.end r.comes.beside h.outs h.end h.beside r.comes.leads h.leads;
        may_fire = h.may_fire;
        tied = h.tied;
        put = h.put ∙ (ap (λ (o : List Out). o ++ h.outs) r.comes.put ∙ append_assoc d0.view.outs r.comes.outs h.outs);
      })))
      (λ d2 h. some_on g (Rested g h.phase h.pending d2.view h.end h.beside) (IsStepped e x b) (fires_all (machine_of g.T g.ticket g.stale) d2) (all_fire g h.phase h.pending d2 h.end h.beside h.tied h.may_fire)
      (λ d3 r. (let l = leads_on g.st g.P g.B x0 b h.outs h.end h.beside r.comes.outs r.comes.end r.comes.beside h.leads r.comes.leads in
      let m = all_moves g.st g.P g.B x0 b (h.outs ++ r.comes.outs) r.comes.end r.comes.beside l (is_done h.phase h.pending d3 r.comes.end r.comes.beside h.may_end h.taken r.comes.tied r.early) in
      record {
        phase = h.phase;
        may_end = h.may_end;
        pending = h.pending;
        end = r.comes.end;
        kept = r.comes.beside;
        step = record {
          made = record { state = r.comes.end; outs = h.outs ++ r.comes.outs };
          moves = m.0;
          outs = r.comes.put ∙ ap (λ (o : List Out). o ++ r.comes.outs) (h.put ∙ ap (λ (o : List Out). o ++ h.outs) none);
          leaves = refl;
        };
        beside = m.1;
        tied = rests_so h.phase h.pending d3 r.comes.end r.comes.beside r.comes.tied;
      })))

  -- rows are a run
  abbrev pub IsRunOf : State g → Kept g → List Row → Type 0
  IsRunOf x b rows = (run : IsRun g.c g.st composed g.P x rows) × RunBeside g.st g.P g.B x rows run b

  abbrev pub RunsFrom : State g → Kept g → Option (List Row) → Type 0
  RunsFrom x b None = Unit {0}
  RunsFrom x b (Some rows) = IsRunOf x b rows

  -- a client that ended a row
  abbrev GoesOn : List Event → Type 0
  GoesOn es = (phase : Phase) (w : What) (d : PlainClient g) (x : State g) (b : Kept g) → MayEnd phase → IsTied g phase w d x b → d.view.outs ≡ [] → RunsFrom x b (plain_rows (machine_of g.T g.ticket g.stale) (g.c).timeout es d)

  rows_run : (es : List Event) → AllAskedInOctets es → AllInOctets es → GoesOn es
  rows_run [] asked octets phase w d x b end t none = (Ends x, tt)
  rows_run (e ∷ es) asked octets phase w d x b end t none = by (client_step (machine_of g.T g.ticket g.stale) (g.c).timeout e d) (steps_do e phase w d x b asked.0 octets.0 end t none) (rows_run es asked.1 octets.1)
    where
      by : (o : Option (PlainClient g)) → IfSome g (IsStepped e x b) o → GoesOn es → RunsFrom x b (option_and_then (then_rows (plain_rows (machine_of g.T g.ticket g.stale) (g.c).timeout es)) (option_map (row_and_rest e) o))
      by None s ih = tt
      by (Some d1) s ih = rest (plain_rows (machine_of g.T g.ticket g.stale) (g.c).timeout es (rested d1)) (ih s.phase s.pending (rested d1) s.end s.kept s.may_end s.tied refl)
        where
          rest : (o : Option (List Row)) → RunsFrom s.end s.kept o → RunsFrom x b (option_map (λ rows. row_of e d1 ∷ rows) o)
          rest None r = tt
          rest (Some rows) r = (Goes_on x (row_of e d1) s.end rows s.step r.0, (s.kept, s.beside, r.1))

  -- nothing is tied to nothing
  pub starts : (words : ℕ → ℕ) → AreWords words → IsTied g (Told 0 0) Tick (begins_with words g.first) (begun g.c g.st composed g.P) (g.B).first
  starts words small = record {
    fits = record {
      holds = record {
        now = refl;
        asked = refl;
        pending = refl;
        kept = record {
          kept = λ i w e. absurd (cc);
          named = λ i k e. absurd (never i (g.tie.named (Told 0 0) g.first (sight view) (begun g.c g.st composed g.P) (g.B).first i k tied e).0);
          late = λ t i e. absurd (cc);
        };
        waiting = (0, tt);
        deadlines = (0, tt);
        foreign = λ i t d o. cc;
      };
      leaving = refl;
      fair = record { order = tt; words = small };
      tied = tied;
    };
    board = refl;
  }
    where
      view : View
      view = record { now = 0; words = words; outs = []; board = []; timers = record { next = 0; set = [] }; ticket = 0; place = 0; request = 0; more = false }

      tied : g.Tied (Told 0 0) g.first (sight view) (begun g.c g.st composed g.P) (g.B).first
      tied = g.tie.fresh (sight view) refl refl

      never : (i : ℕ) → i < 0 → ⊥
      never i lt = omega arith

  -- Every list of rows is a run.
  tied_clients_run : (words : ℕ → ℕ) (events : List Event) (rows : List Row) → AreWords words → AllAskedInOctets events → AllInOctets events
      → plain_rows (machine_of g.T g.ticket g.stale) (g.c).timeout events (begins_with words g.first) ≡ Some rows → IsRunOf (begun g.c g.st composed g.P) (g.B).first rows
  tied_clients_run words events rows small asked octets e =
      subst (RunsFrom (begun g.c g.st composed g.P) (g.B).first) e (rows_run events asked octets (Told 0 0) Tick (begins_with words g.first) (begun g.c g.st composed g.P) (g.B).first refl (starts words small) refl)

pub clients_above_ties_run : ClientsAboveTiesRun
clients_above_ties_run g words events rows small asked octets e = tied_clients_run g words events rows small asked octets e
