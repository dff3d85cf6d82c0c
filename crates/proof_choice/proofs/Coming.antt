-- A request is taken on, and started at servers.
use Rattle.std.proofs.Common.{◌≡◌, ℕ, inl, inr, false, List, [], ◌∷◌, length, Option, Some, None, refl, sym, ap, subst, subst₂, ◌∙◌}
use Rattle.client_request.specs.Carries.{IsOfOctets}
use Rattle.client_request.specs.Numbered.{entry_at}
use Rattle.client_request.specs.Request.{Request}
use Rattle.client_request.specs.View.{View}
use Rattle.client_choice.specs.Choice.{Choice, fresh_job, takes_on}
use Rattle.client_choice.specs.declared.job.ListedServer.{ListedServer}
use Rattle.right_trace.specs.Parts.{IsIn}
use Rattle.proof_right.specs.machine.Client.{Waiting, Posted, newcomer}
use Rattle.right_trace.specs.Updates.{with_at}
use Rattle.proof_parts.specs.PartTie.{Phase, Leads as IfLeft}
use Rattle.proof_parts.specs.Sights.{sight}
use Rattle.proof_parts.proofs.Keys.{with_here, with_there, is_or_was}
use Rattle.proof_choice.specs.Choosing.{Choosing}
use Rattle.proof_parts.specs.WholeTie.{HasTakenOn}
use Rattle.proof_choice.specs.Doing.{numbers_of, nobody, IsStill, HasDone, HasActed, IsLinedUp, TakingOnIsMoves}
use Rattle.proof_choice.specs.Servers.{State, AreApartAt}
use Rattle.proof_choice.specs.Requests.{Others, Beside, Work, Desk, IsKept, AreKept, desk_of, Stands}
use Rattle.proof_choice.proofs.Asides.{put_aside}
use Rattle.proof_choice.proofs.AtServer.{both_are, none_is}
use Rattle.proof_choice.proofs.Dropping.{left_on}
use Rattle.proof_choice.proofs.Firing.{none_past}
use Rattle.proof_choice.proofs.Runs.{runs_do}
use Rattle.proof_choice.proofs.Taking.{has_acted}

module _ (g : Choosing) (others : Others) (phase : ℕ → Phase) (t : ℕ) (request : Request) (entries : List ListedServer) (left : ℕ → Option ℕ) (named : ℕ → ℕ → Option ℕ) (c : Choice Request g.U g.R) (v : View) (x y : State g)
    (is_still : IsStill g others phase (nobody g) left named c v x) (new : entry_at t c.jobs ≡ None) (octets : IsOfOctets request) (lined : IsLinedUp (length (g.c).servers) entries) (taken : HasTakenOn v.request request x y) where
  abbrev count : ℕ
  count = length (g.c).servers

  abbrev beside : Beside
  beside = record { others = others; left = left }

  abbrev st : Stands g (record { others = others; left = left }) phase (length (g.c).servers) (λ j. entry_at j c.jobs) named 0 [] c v x
  st = is_still.stands

  abbrev now : ℕ
  now = taken.moment

  abbrev fresh : Work g
  fresh = fresh_job v.request request entries

  abbrev table : ℕ → Option (Work g)
  table = λ j. entry_at j c.jobs

  abbrev old : Desk g
  old = desk_of g table named c v x

  abbrev then_so : Desk g
  then_so = desk_of g (with_at t (Some fresh) table) named c v y

  here : with_at t (Some fresh) table t ≡ Some fresh
  here = with_here t (Some fresh) table

  still : (u : ℕ) (other : Work g) → table u ≡ Some other → with_at t (Some fresh) table u ≡ Some other
  still u other is = with_there t (Some fresh) table u (λ same. none_is (table u) other (subst (λ u. table u ≡ None) same new) is) ∙ is

  -- no request before had that number
  numbers : (u : ℕ) (other : Work g) → table u ≡ Some other → v.request ≡ other.number → ⊥
  numbers u other is same = (let m = st.kept.kept u other is in none_is (x.held other.number) m.ask (subst (λ k. x.held k ≡ None) same taken.unused) m.is)

  kept_fresh : IsKept g then_so t fresh
  kept_fresh = record {
    ask = newcomer request now;
    is = ap (λ (h : ℕ → Option Waiting). h v.request) taken.held ∙ with_here v.request (Some (newcomer request now)) x.held;
    request = refl;
    octets = octets;
    left = lined.line;
    all = λ s lt. inr (lined.all s lt);
    tried = λ e m. absurd m;
    waits = λ e m. absurd m;
    apart = tt;
    deferred = refl;
    timer = λ i p. absurd (cc);
    armed = λ p. refl;
  }

  kept_others : (u : ℕ) (other : Work g) → table u ≡ Some other → IsKept g then_so u other
  kept_others u other is = (let m = st.kept.kept u other is in record {
    ask = m.ask;
    is = ap (λ (h : ℕ → Option Waiting). h other.number) taken.held ∙ (with_there v.request (Some (newcomer request now)) x.held other.number (numbers u other is) ∙ m.is);
    request = m.request;
    octets = m.octets;
    left = m.left;
    all = m.all;
    tried = m.tried;
    waits = λ e i r p. (let w = m.waits e i r p in record { within = w.within; fits = w.fits; ticket = w.ticket; waiting = w.waiting; named = w.named });
    apart = m.apart;
    deferred = m.deferred;
    timer = m.timer;
    armed = m.armed;
  })

  kept_then : AreKept g 0 [] then_so
  kept_then = record {
    kept = λ u other is. elim (is_or_was t (Some fresh) table u other is) [
      | inl p ↦ subst (λ u. IsKept g then_so u other) p.0 (subst (λ (w : Work g). IsKept g then_so t w) (both_are (Some fresh) fresh other refl p.1) kept_fresh)
      | inr p ↦ kept_others u other p.1
    ];
    named = λ s i k lt is. elim (st.kept.named s i k lt is) [
      | inl m ↦ inl (record { ticket = m.ticket; job = m.job; is = still m.ticket m.job m.is; number = m.number; owed = m.owed })
      | inr o ↦ inr o
    ];
    held = λ k a is. elim (is_or_was v.request (Some (newcomer request now)) x.held k a (sym (ap (λ (h : ℕ → Option Waiting). h k) taken.held) ∙ is)) [
      | inl p ↦ (t, fresh, here, p.0)
      | inr p ↦ (let m = st.kept.held k a p.1 in (m.0, m.1, still m.0 m.1 m.2, m.3))
    ];
    timers = λ i u is. (let m = st.kept.timers i u is in (m.0, still u m.0 m.1, m.2));
    apart = λ u w a b p q n. elim (is_or_was t (Some fresh) table u a p) [
      | inl e ↦ elim (is_or_was t (Some fresh) table w b q) [
        | inl f ↦ sym e.0 ∙ f.0
        | inr f ↦ absurd (numbers w b f.1 (ap (λ (j : Work g). j.number) (both_are (Some fresh) fresh a refl e.1) ∙ n))
      ]
      | inr e ↦ elim (is_or_was t (Some fresh) table w b q) [
        | inl f ↦ absurd (numbers u a e.1 (ap (λ (j : Work g). j.number) (both_are (Some fresh) fresh b refl f.1) ∙ sym n))
        | inr f ↦ st.kept.apart u w a b e.1 f.1 n
      ]
    ];
  }

  nothing : (z : Posted) (b : List Posted) → b ≡ [] → IsIn z b → ⊥
  nothing z [] e m = m
  nothing z (p ∷ ps) e m = cc

  takes_it : IfLeft (HasDone g beside phase count t v.request table y.board named v y) (takes_on g.below g.settings t entries request c v)
  takes_it = runs_do g beside phase count entries t fresh table named c v y (record {
    left = refl;
    calm = refl;
    has = λ none. absurd (lined.some none);
    aside = λ m. none_past count entries (λ s. false) lined.line m;
    clear = λ b m. absurd m;
    pending = λ z m. absurd (nothing z y.board (taken.board ∙ is_still.board) m);
    is_table = refl;
    new = new;
    sorted = is_still.sorted;
    stands = record {
      servers = record { count = st.servers.count; tied = λ q e m. subst (λ f. g.Tied q (phase q) e.upstream (sight v) (f q)) (sym taken.ups) (st.servers.tied q e m); apart = st.servers.apart; fair = st.servers.fair; place = taken.place ∙ st.servers.place; places = subst₂ (λ u n. AreApartAt g u n) (sym taken.ups) (sym taken.place) st.servers.places };
      quiet = st.quiet;
      is_named = st.is_named;
      still = st.still;
      less = st.less;
      kept = kept_then;
      foreign = st.foreign;
      timers = st.timers;
      calm = λ at frames told. put_aside g count t fresh table table v (λ u other ne m. m) (λ i due timer set late. absurd (cc)) (st.calm at frames told);
      is_open = st.is_open;
      drawn = st.drawn;
      due = st.due;
      own = st.own;
      far = st.far;
    };
  })

  pub takes_it_on : IfLeft (HasActed g others phase (nobody g) (with_at t (Some v.request) (numbers_of g c.jobs)) left v.more v y) (takes_on g.below g.settings t entries request c v)
  takes_it_on = left_on g (HasDone g beside phase count t v.request table y.board named v y) (HasActed g others phase (nobody g) (with_at t (Some v.request) (numbers_of g c.jobs)) left v.more v y) (takes_on g.below g.settings t entries request c v)
      (λ d w h. has_acted g beside phase count t v.request (with_at t (Some v.request) (numbers_of g c.jobs)) table y.board named v y d w (with_here t (Some v.request) (numbers_of g c.jobs))
      (λ j ne. sym (with_there t (Some v.request) (numbers_of g c.jobs) j ne)) is_still.names (taken.board ∙ is_still.board) h) takes_it

pub taking_on_is_moves : (g : Choosing) → TakingOnIsMoves g
taking_on_is_moves g others phase t request entries left named c v x y is_still new octets lined taken = takes_it_on g others phase t request entries left named c v x y is_still new octets lined taken
