-- The plain client beside the machine's: what agrees between two calls.
use Rattle.std.proofs.Common.{◌≡◌, ℕ, List, Option, Some, None, refl, sym, ap, subst, ◌∙◌, le_refl}
use mathlib.Core.Path.{fun_ext}
use Rattle.client_request.specs.Numbered.{entry_at}
use Rattle.client_request.specs.Timers.{TimerList, cancelled, without_timer}
use Rattle.client_request.specs.View.{View, drops_timer}
use Rattle.client_request.specs.declared.event.What.{What}
use Rattle.proof_right.specs.machine.Client.{Leaving, Upper}
use Rattle.right_trace.specs.Updates.{with_at}
use Rattle.proof_parts.specs.ClientTie.{WereTried}
use Rattle.proof_parts.specs.PartTie.{Phase}
use Rattle.proof_parts.specs.Sights.{sight, due_of, IsFair}
use Rattle.proof_client.specs.Above.{Tying}
use Rattle.client_steps.specs.Client.{Asked, without_request}
use Rattle.client_steps.specs.declared.asked.Waiting.{Waiting}
use Rattle.client_steps.proofs.Tables.{Sorted, at_frees, frees_path, sorted_frees}
use Rattle.client_steps.proofs.TimerLaws.{due_without, order_without}
use Rattle.proof_client.proofs.Desk.{Desk, AreKept, one_goes, go_on, kept_so, was_there, at_other}

module _ (g : Tying) where
  abbrev pub Requests : Type 0
  Requests = Asked g.Q

  abbrev pub State : Type 0
  State = Upper g.P.State

  -- what is kept beside the machine
  abbrev pub Kept : Type 0
  Kept = (g.B).Kept

  -- what stands for the result of a request at a transport: it was handed on, if its result is to come
  abbrev pub IsFor : (u : g.V) (ticket : ℕ) → g.Q → Type 0
  IsFor u i r = (g.ticket r ≡ i) × ((k : ℕ) → g.names u i ≡ Some k → g.IsHanded r)

  abbrev pub desk_of : (ℕ → Option ℕ) → Requests → View → State → Desk g.Q
  desk_of named a v x = record { waiting = λ i. entry_at i a.waiting; deadlines = λ i. entry_at i a.deadlines; names = named; held = x.held; dues = λ i. due_of i v.timers.set }

  -- What agrees, but for the transport. `named` has the number of each ticket's request whose result is to come; e is the event as the machine has it.
  pub record Holds (e : What) (named : ℕ → Option ℕ) (u : g.V) (a : Requests) (v : View) (x : State) : Type 0 where
    pub now : x.now ≡ v.now
    pub asked : x.asked ≡ a.next
    pub pending : x.pending ≡ e
    pub kept : AreKept (g.c).timeout (IsFor u) a.next (desk_of named a v x)
    pub waiting : (hi : ℕ) × Sorted 0 hi a.waiting
    pub deadlines : (hi : ℕ) × Sorted 0 hi a.deadlines
    pub foreign : (i t : ℕ) → entry_at i a.deadlines ≡ Some t → g.Owns u i → ⊥

  -- The same with the transport, and with b that is kept beside the machine, while these requests leave.
  pub record Fits (phase : Phase) (e : What) (named : ℕ → Option ℕ) (u : g.V) (going : List Leaving) (a : Requests) (v : View) (x : State) (b : Kept) : Type 0 where
    pub holds : Holds e named u a v x
    pub leaving : x.leaving ≡ going
    pub fair : IsFair v
    pub tied : g.Tied phase u (sight v) x b

  -- Of v and x, v1 and x1 differ by a request that has gone.
  pub record HasGone (w : Waiting g.Q) (v : View) (x : State) (v1 : View) (x1 : State) : Type 0 where
    pub now : v1.now ≡ v.now
    pub timers : v1.timers ≡ cancelled w.timer v.timers
    pub clock : x1.now ≡ x.now
    pub asked : x1.asked ≡ x.asked
    pub pending : x1.pending ≡ x.pending
    pub held : WereTried x.held x1.held

  pub dues_without : (v : View) (i : ℕ) → IsFair v → (λ (j : ℕ). due_of j (without_timer i v.timers.set)) ≡ with_at i None (λ j. due_of j v.timers.set)
  dues_without v i fair = fun_ext (λ j. due_without i j 0 v.timers.next v.timers.set fair.order)

  pub fair_without : (v : View) (i : ℕ) → IsFair v → IsFair (record v { timers = cancelled i v.timers })
  fair_without v i fair = record { order = order_without i 0 v.timers.next v.timers.set fair.order; words = fair.words }

  -- a request has gone
  pub holds_without : (e : What) (named : ℕ → Option ℕ) (u : g.V) (a : Requests) (v : View) (x : State) (i : ℕ) (w : Waiting g.Q) (v1 : View) (x1 : State)
      → IsFair v → Holds e named u a v x → entry_at i a.waiting ≡ Some w → HasGone w v x v1 x1 → Holds e (with_at i None named) u (without_request i (Some w) a) v1 x1
  holds_without e named u a v x i w v1 x1 fair h is f = record {
    now = f.clock ∙ (h.now ∙ sym f.now);
    asked = f.asked ∙ h.asked;
    pending = f.pending ∙ h.pending;
    kept = go_on (g.c).timeout (IsFor u) a.next (desk_of (with_at i None named) (without_request i (Some w) a) v1 x) (λ j. due_of j v1.timers.set) x1.held
        (kept_so (g.c).timeout (IsFor u) a.next (with_at i None named) _ _ _ _ _ _ _ _
        (frees_path i 0 h.waiting.0 a.waiting h.waiting.1)
        (frees_path w.timer 0 h.deadlines.0 a.deadlines h.deadlines.1)
        refl
        (ap {B = ℕ → Option ℕ} (λ (ts : TimerList). λ (j : ℕ). due_of j ts.set) f.timers ∙ dues_without v w.timer fair)
        (one_goes (g.c).timeout (IsFor u) a.next (desk_of named a v x) i w h.kept is))
        (λ t j due d s. s) f.held;
    waiting = (h.waiting.0, sorted_frees i 0 h.waiting.0 a.waiting h.waiting.1);
    deadlines = (h.deadlines.0, sorted_frees w.timer 0 h.deadlines.0 a.deadlines h.deadlines.1);
    foreign = λ j t d. h.foreign j t (was_there w.timer (λ (j : ℕ). entry_at j a.deadlines) j t (sym (at_frees w.timer j 0 h.deadlines.0 a.deadlines h.deadlines.1) ∙ d)).1;
  }

  -- the transport is tied as before when the timer of a deadline is taken out
  pub tied_without : (phase : Phase) (e : What) (named : ℕ → Option ℕ) (u : g.V) (a : Requests) (v : View) (x : State) (b : Kept) (i t : ℕ)
      → IsFair v → Holds e named u a v x → entry_at i a.deadlines ≡ Some t → g.Tied phase u (sight v) x b → g.Tied phase u (sight (drops_timer i v)) x b
  tied_without phase e named u a v x b i t fair h is tied = g.tie.same phase u (sight v) (sight (drops_timer i v)) x b tied refl
      (λ j o. due_without i j 0 v.timers.next v.timers.set fair.order ∙ at_other i None (λ (j : ℕ). due_of j v.timers.set) j (λ same. h.foreign i t is (subst (λ j. g.Owns u j) (sym same) o)))
      (le_refl v.timers.next) (le_refl v.ticket) refl
