-- The transport is told what happened, and takes frames.
use Rattle.std.proofs.Common.{◌≡◌, ℕ, zero, suc, ◌≤◌, Bool, true, false, if◌then◌else◌, List, length, map, Option, Some, refl, sym, subst, ◌∙◌, arith}
use Rattle.std.proofs.lemmas.Bool.Decides.{nat_tests}
use Rattle.std.specs.Prelude.{option_and_then, nat_lt}
use Rattle.client_request.specs.Timers.{TimerList}
use Rattle.client_request.specs.View.{View, Heard, told, more_at}
use Rattle.client_request.specs.declared.event.What.{What}
use Rattle.client_request.specs.declared.event.What.TheVariants.{Bytes}
use Rattle.proof_parts.specs.ClientTie.{Tells, reply_of}
use Rattle.proof_parts.specs.PartTie.{Phase, Untold, Told, MayLeave, place_in, Leads as IfLeft}
use Rattle.proof_parts.specs.Sights.{due_of, IsFair, IsEarly}
use Rattle.proof_client.specs.Above.{Tying}
use Rattle.client_steps.specs.Client.{client_of, calm, hears, tells, next_frame, more_frames, brings, fires_all, replies}
use Rattle.client_steps.specs.Machines.{machine_of}
use Rattle.proof_client.proofs.Calling.{after_call, stand_on, PlainClient, IsTied, Comes, comes_of, comes_then}
use Rattle.proof_client.proofs.Desk.{AreKept}
use Rattle.proof_client.proofs.Firing.{IfSome, some_then, some_on, heard, left_on, AreInTime}
use Rattle.proof_client.proofs.Giving.{named_before}
use Rattle.proof_client.proofs.Holding.{Requests, State, Kept, IsFor, Holds, desk_of}
use Rattle.proof_client.proofs.Looping.{Rested, stays, all_fire, keeps_time}

module _ (g : Tying) where
  -- another view of the same moment, with the same timers
  pub holds_as : (e : What) (named : ℕ → Option ℕ) (u : g.V) (a : Requests g) (v w : View) (x : State g) → w.now ≡ v.now → w.timers ≡ v.timers → Holds g e named u a v x → Holds g e named u a w x
  holds_as e named u a v w x now timers h = record {
    now = h.now ∙ sym now;
    asked = h.asked;
    pending = h.pending;
    kept = subst (λ (ts : TimerList). AreKept (g.c).timeout (IsFor g u) a.next (record (desk_of g named a v x) { dues = λ i. due_of i ts.set })) (sym timers) h.kept;
    waiting = h.waiting;
    deadlines = h.deadlines;
    foreign = h.foreign;
  }

  as_fair : (d : PlainClient g) → IsFair d.view → IsFair (record d.view { more = false })
  as_fair d fair = record { order = fair.order; words = fair.words }

  -- What comes of a client that heard something: more frames stand, or none.
  pub record IsHeard (e : What) (MayBe : (place left : ℕ) → Type 0) (v : View) (from : State g) (b : Kept g) (d : PlainClient g) : Type 0 where
    pub at : ℕ
    pub left : ℕ
    pub may_be : MayBe at left
    pub stands : d.view.more ≡ nat_lt 0 left
    pub comes : Comes g (Told at left) e v from b d

  module _ (e : What) where
    hears_it : (h : Heard) (phase : Phase) (MayBe : (place left : ℕ) → Type 0) (d : PlainClient g) (x : State g) (b : Kept g) (t : IsTied g phase e d x b)
        → IfLeft (Tells g.st g.P g.B g.T g.IsHanded g.Tied g.names g.Owns x b d.layer (record d.view { more = false }) MayBe) (g.T.step h d.layer (record d.view { more = false }))
        → IfSome g (IsHeard e MayBe d.view x b) (hears (machine_of g.T g.ticket g.stale) h (calm d))
    hears_it h phase MayBe d x b t l =
        heard g (IsHeard e MayBe d.view x b) d.asked (g.T.step h u v)
        (left_on (Tells g.st g.P g.B g.T g.IsHanded g.Tied g.names g.Owns x b u v MayBe) (λ w y. IsHeard e MayBe d.view x b (client_of w (replies (d.asked, y)))) (g.T.step h u v)
        (λ w y l. (let c = after_call g (Told l.at l.left) e (g.names u) u d.asked v x x b w y
        (holds_as e (g.names u) u d.asked d.view v x refl refl t.fits.holds) t.fits.leaving (as_fair d t.fits.fair) t.board l.leaves
        (stand_on g d.asked u w (named_before (g.names u) l.leaves.board (map reply_of l.leaves.leaving) (g.names w) l.leaves.gives)) in
        let k = comes_of g (Told l.at l.left) e w v y.more x b (replies (d.asked, y)) c in
        record {
          at = l.at;
          left = l.left;
          may_be = l.may_be;
          stands = c.more ∙ l.more;
          comes = record { outs = k.outs; end = k.end; beside = k.beside; leads = k.leads; tied = k.tied; asked = k.asked; put = k.put };
        }))
        l)
      where
        u : g.V
        u = d.layer

        v : View
        v = record d.view { more = false }

    -- it is told
    pub tells_it : (w : What) (p : ℕ) (d : PlainClient g) (x : State g) (b : Kept g) → place_in w ≡ Some p → IsTied g (Untold w) e d x b → IsEarly d.view → IfSome g (IsHeard e (MayLeave w) d.view x b) (tells (machine_of g.T g.ticket g.stale) w d)
    tells_it w p d x b at t early = hears_it (told w) (Untold w) (MayLeave w) d x b t
        (g.tie.tells d.layer (record d.view { more = false }) x b w p t.fits.tied t.fits.leaving (as_fair d t.fits.fair) early refl at)

    -- a frame is taken
    takes_it : (p n : ℕ) (d : PlainClient g) (x : State g) (b : Kept g) → IsTied g (Told p (suc n)) e d x b → IfSome g (IsHeard e (λ q left. (q ≡ p) × (left ≤ n)) d.view x b) (next_frame (machine_of g.T g.ticket g.stale) p d)
    takes_it p n d x b t = hears_it (more_at p) (Told p (suc n)) (λ q left. (q ≡ p) × (left ≤ n)) d x b t
        (g.tie.takes d.layer (record d.view { more = false }) x b p n t.fits.tied t.fits.leaving (as_fair d t.fits.fair) refl)

    -- One more frame of p was taken, and so many are left at most.
    record IsTaken (p most : ℕ) (v : View) (from : State g) (b : Kept g) (d : PlainClient g) : Type 0 where
      pub left : ℕ
      pub few : left ≤ most
      pub stands : d.view.more ≡ nat_lt 0 left
      pub comes : Comes g (Told p left) e v from b d

    -- the frames behind the first
    pub frames_do : (p n left : ℕ) (d : PlainClient g) (x : State g) (b : Kept g) → IsTied g (Told p left) e d x b → AreInTime g x → left ≤ n → d.view.more ≡ nat_lt 0 left → IfSome g (Comes g (Told p 0) e d.view x b) (more_frames (machine_of g.T g.ticket g.stale) p n d)
    frames_do p zero left d x b t early le more = stays g (Told p 0) e d x b (subst (λ l. IsTied g (Told p l) e d x b) (none left le) t)
      where
        none : (l : ℕ) → l ≤ 0 → l ≡ 0
        none l le = omega arith
    frames_do p (suc n) zero d x b t early le more =
        subst (λ (s : Bool). IfSome g (Comes g (Told p 0) e d.view x b) (if s then option_and_then (more_frames (machine_of g.T g.ticket g.stale) p n) (option_and_then (next_frame (machine_of g.T g.ticket g.stale) p) (fires_all (machine_of g.T g.ticket g.stale) d)) else Some d)) (sym more)
        (stays g (Told p 0) e d x b t)
    frames_do p (suc n) (suc l) d x b t early le more =
        subst (λ (s : Bool). IfSome g (Comes g (Told p 0) e d.view x b) (if s then option_and_then (more_frames (machine_of g.T g.ticket g.stale) p n) (option_and_then (next_frame (machine_of g.T g.ticket g.stale) p) (fires_all (machine_of g.T g.ticket g.stale) d)) else Some d)) (sym (more ∙ some l))
        (some_then g (IsTaken p l d.view x b) (Comes g (Told p 0) e d.view x b) (more_frames (machine_of g.T g.ticket g.stale) p n) (option_and_then (next_frame (machine_of g.T g.ticket g.stale) p) (fires_all (machine_of g.T g.ticket g.stale) d))
        (some_then g (Rested g (Told p (suc l)) e d.view x b) (IsTaken p l d.view x b) (next_frame (machine_of g.T g.ticket g.stale) p) (fires_all (machine_of g.T g.ticket g.stale) d) (all_fire g (Told p (suc l)) e d x b t early)
        (λ d1 r. some_on g (IsHeard e (λ q left. (q ≡ p) × (left ≤ l)) d1.view r.comes.end r.comes.beside) (IsTaken p l d.view x b) (next_frame (machine_of g.T g.ticket g.stale) p d1) (takes_it p l d1 r.comes.end r.comes.beside r.comes.tied)
        (λ d2 h. record {
          left = h.left;
          few = h.may_be.1;
          stands = h.stands;
          comes = comes_then g (Told p h.left) e d.view d1.view x b d2 r.comes.end r.comes.beside r.comes.outs r.comes.leads r.comes.asked r.comes.put (subst (λ q. Comes g (Told q h.left) e d1.view r.comes.end r.comes.beside d2) h.may_be.0 h.comes);
        })))
        (λ d2 k. some_on g (Comes g (Told p 0) e d2.view k.comes.end k.comes.beside) (Comes g (Told p 0) e d.view x b) (more_frames (machine_of g.T g.ticket g.stale) p n d2)
        (frames_do p n k.left d2 k.comes.end k.comes.beside k.comes.tied (keeps_time g (Told p k.left) e d.view x b d2 k.comes early) (fewer k.left l n k.few le) k.stands)
        (λ d3 c. comes_then g (Told p 0) e d.view d2.view x b d3 k.comes.end k.comes.beside k.comes.outs k.comes.leads k.comes.asked k.comes.put c)))
      where
        some : (l : ℕ) → nat_lt 0 (suc l) ≡ true
        some l = grind (arith, nat_tests)

        fewer : (a l n : ℕ) → a ≤ l → suc l ≤ suc n → a ≤ n
        fewer a l n le lt = omega arith

    -- octets come at a place
    pub bytes_do : (p : ℕ) (o : List ℕ) (d : PlainClient g) (x : State g) (b : Kept g) → IsTied g (Untold (Bytes p o)) e d x b → IsEarly d.view → AreInTime g x → IfSome g (Comes g (Told p 0) e d.view x b) (brings (machine_of g.T g.ticket g.stale) p o d)
    bytes_do p o d x b t early in_time =
        some_then g (IsHeard e (MayLeave (Bytes p o)) d.view x b) (Comes g (Told p 0) e d.view x b) (more_frames (machine_of g.T g.ticket g.stale) p (length o)) (tells (machine_of g.T g.ticket g.stale) (Bytes p o) d) (tells_it (Bytes p o) p d x b refl t early)
        (λ d1 h. (let c = subst (λ q. Comes g (Told q h.left) e d.view x b d1) (sym h.may_be.0) h.comes in
        some_on g (Comes g (Told p 0) e d1.view c.end c.beside) (Comes g (Told p 0) e d.view x b) (more_frames (machine_of g.T g.ticket g.stale) p (length o) d1)
        (frames_do p (length o) h.left d1 c.end c.beside c.tied (keeps_time g (Told p h.left) e d.view x b d1 c in_time) h.may_be.1 h.stands)
        (λ d2 k. comes_then g (Told p 0) e d.view d1.view x b d2 c.end c.beside c.outs c.leads c.asked c.put k)))
