-- A request that is over is given up by the choice: each server that still owes it a result gives it up.
use Rattle.std.proofs.Common.{◌≡◌, ℕ, ◌<◌, List, [], ◌++◌, length, Option, Some, None, refl, sym, ap, subst, subst₂, ◌∙◌, arith, append-nil}
use mathlib.Core.Path.{fun_ext}
use Rattle.std.specs.Prelude.{option_map}
use Rattle.client_request.specs.Numbered.{entry_at, frees}
use Rattle.client_request.specs.Request.{Request}
use Rattle.client_request.specs.View.{View}
use Rattle.client_request.specs.declared.event.Out.{Out}
use Rattle.client_choice.specs.Choice.{Choice, drops, drops_job, drops_each, unset, stopped, unarmed, disarmed}
use Rattle.proof_right.specs.machine.Client.{Waiting}
use Rattle.right_trace.specs.Updates.{with_at}
use Rattle.proof_parts.specs.Lines.{Sorted}
use Rattle.proof_parts.specs.PartTie.{Phase, Leads as IfLeft}
use Rattle.proof_parts.specs.Sights.{sight}
use Rattle.proof_parts.proofs.Keys.{each_number, with_here, with_there, with_same}
use Rattle.proof_parts.proofs.Tables.{at_frees, sorted_frees, frees_path}
use Rattle.proof_choice.specs.Choosing.{Choosing}
use Rattle.proof_parts.specs.WholeTie.{HasLeft}
use Rattle.proof_choice.specs.Doing.{numbers_of, nobody, IsStill, HasDropped, CancellingIsMoves}
use Rattle.proof_choice.specs.Servers.{State, Listed, AreApartAt}
use Rattle.proof_choice.specs.Requests.{Others, Beside, Work, IsKept, desk_of, Stands}
use Rattle.proof_choice.proofs.Asides.{gone_aside}
use Rattle.proof_choice.proofs.Changing.{ended}
use Rattle.proof_choice.proofs.Disarming.{goes_stopped, again_path, disarms}
use Rattle.proof_choice.proofs.Dropping.{AreOff, all_off, follows_of, follows_then}
use Rattle.proof_choice.proofs.Ending.{outs_of, board_of, more_of}
use Rattle.proof_choice.proofs.Resting.{over_any}

module _ (g : Choosing) (others : Others) (phase : ℕ → Phase) (t : ℕ) (job : Work g) (left : ℕ → Option ℕ) (named : ℕ → ℕ → Option ℕ) (c : Choice Request g.U g.R) (v : View) (x y : State g)
    (is_still : IsStill g others phase (nobody g) left named c v x) (is : entry_at t c.jobs ≡ Some job) (has_left : HasLeft job.number x y) where
  abbrev count : ℕ
  count = length (g.c).servers

  abbrev beside : Beside
  beside = record { others = others; left = left }

  abbrev st : Stands g (record { others = others; left = left }) phase (length (g.c).servers) (λ j. entry_at j c.jobs) named 0 [] c v x
  st = is_still.stands

  abbrev table : (hi : ℕ) × Sorted 0 hi c.jobs
  table = is_still.sorted

  abbrev tab : ℕ → Option (Work g)
  tab = λ j. entry_at j (frees t c.jobs)

  abbrev without : Choice Request g.U g.R
  without = record c { jobs = frees t c.jobs; timers = unset job.timer c.timers }

  new : tab t ≡ None
  new = at_frees t t 0 table.0 c.jobs table.1 ∙ with_here t None (λ j. entry_at j c.jobs)

  in_hand : with_at t (Some job) tab ≡ (λ j. entry_at j c.jobs)
  in_hand = ap (λ f. with_at t (Some job) f) (frees_path t 0 table.0 c.jobs table.1) ∙ (again_path t (Some job) None (λ j. entry_at j c.jobs) ∙ fun_ext (λ j. with_same t (Some job) (λ j. entry_at j c.jobs) j is))

  calm : Stands g beside phase count (with_at t (Some (disarmed job)) tab) named 0 [] (unarmed job.timer c) (stopped job.timer v) x
  calm = disarms g beside phase count named 0 t job tab c v x (subst (λ f. Stands g beside phase count f named 0 [] c v x) (sym in_hand) st)

  over : Stands g beside phase count tab named job.number job.started without (stopped job.timer v) y
  over = record {
    servers = record {
      count = calm.servers.count;
      tied = λ q e m. subst (λ f. g.Tied q (phase q) e.upstream (sight (stopped job.timer v)) (f q)) (sym has_left.ups) (calm.servers.tied q e m);
      apart = calm.servers.apart;
      fair = calm.servers.fair;
      place = has_left.place ∙ calm.servers.place;
      places = subst₂ (λ u n. AreApartAt g u n) (sym has_left.ups) (sym has_left.place) calm.servers.places;
    };
    quiet = calm.quiet;
    is_named = calm.is_named;
    still = calm.still;
    less = calm.less;
    kept = ended g t (disarmed job) (desk_of g (with_at t (Some (disarmed job)) tab) named (unarmed job.timer c) (stopped job.timer v) x) (desk_of g tab named without (stopped job.timer v) y)
        (with_here t (Some (disarmed job)) tab) refl (sym (again_path t None (Some (disarmed job)) tab ∙ fun_ext (λ j. with_same t None tab j new))) refl refl refl has_left.held refl 0 calm.kept;
    foreign = calm.foreign;
    timers = calm.timers;
    calm = λ at frames told. gone_aside g count t (Some (disarmed job)) tab (stopped job.timer v) new (calm.calm at frames told);
    is_open = calm.is_open;
    drawn = calm.drawn;
    due = calm.due;
    own = calm.own;
    far = calm.far;
  }

  owed : IsKept g (desk_of g (with_at t (Some (disarmed job)) tab) named (unarmed job.timer c) (stopped job.timer v) x) t (disarmed job)
  owed = calm.kept.kept t (disarmed job) (with_here t (Some (disarmed job)) tab)

  -- the other requests are as they were
  numbers_then : (j : ℕ) → numbers_of g (frees t c.jobs) j ≡ with_at t None (numbers_of g c.jobs) j
  numbers_then j = each_number (λ j. numbers_of g (frees t c.jobs) j ≡ with_at t None (numbers_of g c.jobs) j) t
      (ap (λ (o : Option (Work g)). option_map (λ job. job.number) o) new ∙ sym (with_here t None (numbers_of g c.jobs)))
      (λ j ne. ap (λ (o : Option (Work g)). option_map (λ job. job.number) o) (at_frees t j 0 table.0 c.jobs table.1 ∙ with_there t None (λ j. entry_at j c.jobs) j ne) ∙ sym (with_there t None (numbers_of g c.jobs) j ne)) j

  -- what is left once it is given up
  abbrev Dropped : Choice Request g.U g.R → View → Type 0
  Dropped d w = HasDropped g others phase (nobody g) (with_at t None (numbers_of g c.jobs)) left v y d w

  pub gives_it_up : IfLeft (HasDropped g others phase (nobody g) (with_at t None (numbers_of g c.jobs)) left v y) (drops g.below t c v)
  gives_it_up = subst (λ o. IfLeft Dropped (drops_job g.below t c v o)) (sym is)
      (by (drops_each g.below job.started c.servers (stopped job.timer v))
      (all_off g beside phase count tab job.number t new job.started named without (stopped job.timer v) y (ap (λ (h : ℕ → Option Waiting). h job.number) has_left.held ∙ with_here job.number None x.held) owed.apart
      (λ b i r p. (let w = owed.waits b i r p in (λ same. not_below count (subst (λ n. n < count) (sym same) w.within), record { within = w.within; fits = w.fits; ticket = w.ticket; waiting = w.waiting; named = w.named }))) over))
    where
      not_below : (n : ℕ) → n < n → ⊥
      not_below n lt = omega arith

      by : (o : Option (Listed g × View)) → IfLeft (AreOff g beside phase count tab job.number t new [] named without (stopped job.timer v) y) o → IfLeft Dropped (option_map (λ z. (record without { servers = z.0 }, z.1)) o)
      by None l = tt
      by (Some z) l = record {
        acted = record {
          named = l.named';
          end = l.end;
          went = record {
            outs = l.went.outs;
            leads = l.went.leads;
            put = l.went.put ∙ ap (λ (o : List Out). o ++ l.went.outs) (outs_of g beside phase count job.timer v);
            goes_on = follows_then g v (stopped job.timer v) z.1 (follows_of g v (stopped job.timer v) (goes_stopped job.timer v st.servers.fair)) l.went.goes_on;
            now = l.went.now;
            asked = l.went.asked;
            pending = l.went.pending;
          };
          still = record {
            stands = over_any g beside phase count tab l.named' job.number 0 (record without { servers = z.0 }) z.1 l.end l.stands;
            names = λ i. l.same_there i ∙ is_still.names i;
            sorted = (table.0, sorted_frees t 0 table.0 c.jobs table.1);
            board = l.board ∙ (has_left.board ∙ is_still.board);
          };
          given = [];
          gave = [];
          put = l.put ∙ (board_of g beside phase count job.timer v ∙ sym (append-nil v.board));
          leaves = l.leaving ∙ sym (append-nil y.leaving);
          answers = numbers_then;
          says = l.more ∙ more_of g beside phase count job.timer v;
        };
        nothing = refl;
      }

pub cancelling_is_moves : (g : Choosing) → CancellingIsMoves g
cancelling_is_moves g others phase t job left named c v x y is_still is has_left = gives_it_up g others phase t job left named c v x y is_still is has_left
