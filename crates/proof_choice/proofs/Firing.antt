-- An estimate has passed: the next server is started.
use Rattle.std.proofs.Common.{◌≡◌, ℕ, ◌<◌, inl, inr, Bool, ◌||◌, ◌==◌, List, [], ◌∷◌, Option, Some, None, refl, sym, ap, subst, ◌∙◌, arith}
use mathlib.Core.Path.{fun_ext}
use Rattle.std.specs.Prelude.{option_map}
use Rattle.client_request.specs.Numbered.{entry_at, frees}
use Rattle.client_request.specs.Request.{Request}
use Rattle.client_request.specs.Timers.{cancelled}
use Rattle.client_request.specs.View.{View}
use Rattle.client_choice.specs.Choice.{Choice, due, due_at, fires, runs, disarmed, unarmed, stopped}
use Rattle.client_choice.specs.declared.job.ListedServer.{ListedServer}
use Rattle.right_trace.specs.Parts.{IsIn}
use Rattle.proof_right.specs.machine.Client.{Posted}
use Rattle.right_trace.specs.Updates.{with_at}
use Rattle.proof_parts.specs.Lines.{Sorted}
use Rattle.proof_parts.specs.PartTie.{Phase, Leads as IfLeft}
use Rattle.proof_parts.proofs.Keys.{with_here, with_there, with_same}
use Rattle.proof_parts.proofs.Tables.{at_frees, sorted_frees, frees_path}
use Rattle.proof_choice.specs.Choosing.{Choosing}
use Rattle.proof_choice.specs.Doing.{numbers_of, IsStill, HasDone, HasActed, FiringIsMoves}
use Rattle.proof_choice.specs.Servers.{State}
use Rattle.proof_choice.specs.Requests.{Others, Beside, Work, IsKept, IsToStart, AreToStart, desk_of, Stands, IsAside}
use Rattle.proof_choice.proofs.AtServer.{none_is}
use Rattle.proof_choice.proofs.Disarming.{again_path, disarms}
use Rattle.proof_choice.proofs.Dropping.{left_on}
use Rattle.proof_choice.proofs.Runs.{runs_do}
use Rattle.proof_choice.proofs.Taking.{has_acted}

not_below : (n : ℕ) → n < n → ⊥
not_below n lt = omega arith

-- none is past the last server
pub none_past : (count : ℕ) (l : List ListedServer) (tried : ℕ → Bool) → AreToStart count tried l → IsToStart count l → ⊥
none_past count [] tried line m = m
none_past count (e ∷ l) tried line m = elim m [
  | inl same ↦ not_below count (subst (λ n. n < count) same line.0)
  | inr n ↦ none_past count l (λ t. (e.server == t) || tried t) line.2 n
]

module _ (g : Choosing) (others : Others) (phase : ℕ → Phase) (current i t : ℕ) (left : ℕ → Option ℕ) (named : ℕ → ℕ → Option ℕ) (c : Choice Request g.U g.R) (v : View) (x : State g)
    (is_still : IsStill g others phase current left named c v x) (is : entry_at i c.timers ≡ Some t) (is_aside : (job : Work g) → entry_at t c.jobs ≡ Some job → IsAside g current job) where
  abbrev beside : Beside
  beside = record { others = others; left = left }

  abbrev st : Stands g (record { others = others; left = left }) phase current (λ j. entry_at j c.jobs) named 0 [] c v x
  st = is_still.stands

  abbrev table : (hi : ℕ) × Sorted 0 hi c.jobs
  table = is_still.sorted

  abbrev gone : View
  gone = record v { timers = cancelled i v.timers }

  abbrev without : Choice Request g.U g.R
  without = record c { jobs = frees t c.jobs; timers = frees i c.timers }

  abbrev tab : ℕ → Option (Work g)
  tab = λ j. entry_at j (frees t c.jobs)

  module _ (job : Work g) (found : entry_at t c.jobs ≡ Some job) (timer : job.timer ≡ Some i) where
    mine : IsKept g (desk_of g (λ j. entry_at j c.jobs) named c v x) t job
    mine = st.kept.kept t job found

    in_hand : with_at t (Some job) tab ≡ (λ j. entry_at j c.jobs)
    in_hand = ap (λ f. with_at t (Some job) f) (frees_path t 0 table.0 c.jobs table.1) ∙ (again_path t (Some job) None (λ j. entry_at j c.jobs) ∙ fun_ext (λ j. with_same t (Some job) (λ j. entry_at j c.jobs) j found))

    calm : Stands g beside phase current (with_at t (Some (disarmed job)) tab) named 0 [] (record c { timers = frees i c.timers }) gone x
    calm = subst (λ o. Stands g beside phase current (with_at t (Some (disarmed job)) tab) named 0 [] (unarmed o c) (stopped o v) x) timer
        (disarms g beside phase current named 0 t job tab c v x (subst (λ f. Stands g beside phase current f named 0 [] c v x) (sym in_hand) st))

    starts_next : IfLeft (HasDone g beside phase current t job.number tab x.board named gone x) (runs g.below g.settings t job.left (disarmed job) without gone)
    starts_next = runs_do g beside phase current job.left t (disarmed job) tab named without gone x (record {
      left = refl;
      calm = refl;
      has = λ none. absurd (none_is job.timer i (mine.armed none) timer);
      aside = λ m. (is_aside job found).aside m;
      clear = λ b m r p same. (is_aside job found).clear b m r p same;
      pending = λ y m. absurd (nothing y x.board is_still.board m);
      is_table = refl;
      new = at_frees t t 0 table.0 c.jobs table.1 ∙ with_here t None (λ j. entry_at j c.jobs);
      sorted = (table.0, sorted_frees t 0 table.0 c.jobs table.1);
      stands = record { servers = calm.servers; quiet = calm.quiet; is_named = calm.is_named; still = calm.still; less = calm.less; kept = record { kept = calm.kept.kept; named = calm.kept.named; held = calm.kept.held; timers = calm.kept.timers; apart = calm.kept.apart }; foreign = calm.foreign; timers = calm.timers; calm = calm.calm; is_open = calm.is_open; drawn = calm.drawn; due = calm.due; own = calm.own; far = calm.far };
    })
      where
        nothing : (y : Posted) (b : List Posted) → b ≡ [] → IsIn y b → ⊥
        nothing y [] e m = m
        nothing y (z ∷ zs) e m = cc

  -- what is left once it has fired
  abbrev Fired : Choice Request g.U g.R → View → Type 0
  Fired d w = HasActed g others phase current (numbers_of g c.jobs) left v.more gone x d w

  pub fires_it : IfLeft (HasActed g others phase current (numbers_of g c.jobs) left v.more gone x) (due g.below g.settings i c gone)
  fires_it =
      let f = st.kept.timers i t is in
      subst (λ o. IfLeft Fired (due_at g.below g.settings i c gone o)) (sym is)
      (subst (λ o. IfLeft Fired (fires g.below g.settings t (record c { timers = frees i c.timers }) gone o)) (sym f.1)
      (left_on g (HasDone g beside phase current t (f.0).number tab x.board named gone x) Fired (runs g.below g.settings t (f.0).left (disarmed f.0) without gone)
      (λ d w h. has_acted g beside phase current t (f.0).number (numbers_of g c.jobs) tab x.board named gone x d w (ap (λ (o : Option (Work g)). option_map (λ job. job.number) o) f.1)
      (λ j ne. ap (λ (o : Option (Work g)). option_map (λ job. job.number) o) (at_frees t j 0 table.0 c.jobs table.1 ∙ with_there t None (λ j. entry_at j c.jobs) j ne)) is_still.names is_still.board h)
      (starts_next f.0 f.1 f.2)))

pub firing_is_moves : (g : Choosing) → FiringIsMoves g
firing_is_moves g others phase current i t left named c v x is_still is is_aside = fires_it g others phase current i t left named c v x is_still is is_aside
