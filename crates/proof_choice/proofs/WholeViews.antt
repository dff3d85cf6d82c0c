-- What agrees of a choice and the machine at one view agrees at each that looks the same.
use Rattle.std.proofs.Common.{◌≡◌, ℕ, ◌<◌, ◌≤◌, inl, inr, List, [], length, Option, Some, slice_get, refl, sym, subst, ◌∙◌, arith, le_refl}
use Rattle.std.proofs.lemmas.Option.{slice_get_within}
use Rattle.client_request.specs.View.{View}
use Rattle.client_choice.specs.Servers.{Server}
use Rattle.proof_parts.specs.PartTie.{Phase, Untold, Told, Passed}
use Rattle.proof_parts.specs.Sights.{sight, due_of, IsFair}
use Rattle.proof_choice.specs.Choosing.{Choosing}
use Rattle.proof_choice.specs.Requests.{Desk, AreKept}
use Rattle.proof_choice.specs.Servers.{State, AreTied}
use Rattle.proof_choice.specs.Whole.{IsSeen, Whole, Owns, IsOwn, IsServers, Agrees, IsCalm, IsAt, Tied}

at_most : (a b : ℕ) → b ≡ a → a ≤ b
at_most a b e = omega arith

pub seen_itself : (Own : ℕ → Type 0) (v : View) → IsSeen Own v (sight v)
seen_itself Own v = record { now = refl; dues = λ i o. refl; timer = le_refl v.timers.next; ticket = le_refl v.ticket; place = refl }

module _ (g : Choosing) where
  pub in_conf : (phase : ℕ → Phase) (servers : List (Server g.U)) (v : View) (x : State g) (s : ℕ) (a : Server g.U) → AreTied g phase servers v x → slice_get servers s ≡ Some a → s < length (g.c).servers
  in_conf phase servers v x s a t at = subst (λ n. s < n) t.count (slice_get_within servers s a at)

  -- timers that are set are due at other moments
  pub kept_at : (d : Desk g) (dues : ℕ → Option ℕ) → ((i t due : ℕ) → d.timers i ≡ Some t → d.dues i ≡ Some due → (late : ℕ) × (dues i ≡ Some late)) → AreKept g 0 [] d → AreKept g 0 [] (record d { dues = dues })
  kept_at d dues set k = record {
    kept = λ t job is. (let m = k.kept t job is in record {
      ask = m.ask;
      is = m.is;
      request = m.request;
      octets = m.octets;
      left = m.left;
      all = m.all;
      tried = m.tried;
      waits = λ e i r p. (let w = m.waits e i r p in record { within = w.within; ticket = w.ticket; fits = w.fits; waiting = w.waiting; named = w.named });
      apart = m.apart;
      deferred = m.deferred;
      timer = λ i p. (let q = m.timer i p in (q.0, set i t q.1.0 q.0 q.1.1));
      armed = m.armed;
    });
    named = λ s i n lt is. elim (k.named s i n lt is) [ inl m ↦ inl (record { ticket = m.ticket; job = m.job; is = m.is; number = m.number; owed = m.owed }) | inr o ↦ inr o ];
    held = k.held;
    timers = k.timers;
    apart = k.apart;
  }

  module _ (phase : ℕ → Phase) (named : ℕ → ℕ → Option ℕ) (r : Whole g) (v w : View) (x : State g) (h : Agrees g phase named r v x) (seen : IsSeen (Owns g r) v (sight w)) where
    pub tied_at : IsFair w → AreTied g phase r.choice.servers w x
    tied_at fair = record {
      count = h.servers.count;
      tied = λ s a at. (g.tie s (in_conf phase r.choice.servers v x s a h.servers at)).same (phase s) a.upstream (sight v) (sight w) (x.ups s) (h.servers.tied s a at)
          seen.now (λ i o. seen.dues i (IsServers s a at o)) seen.timer seen.ticket (at_most v.place w.place seen.place);
      apart = h.servers.apart;
      fair = fair;
      place = h.servers.place ∙ sym seen.place;
      places = h.servers.places;
    }

    more : (a b c : ℕ) → a < b → b ≤ c → a < c
    more a b c lt le = omega arith

    pub agrees_at : IsFair w → Agrees g phase named r w x
    agrees_at fair = record {
      settings = h.settings;
      servers = tied_at fair;
      quiet = h.quiet;
      is_named = h.is_named;
      kept = kept_at _ (λ i. due_of i w.timers.set) (λ i t due is m. (due, seen.dues i (IsOwn t is) ∙ m)) h.kept;
      foreign = h.foreign;
      timers = h.timers;
      sorted = h.sorted;
      drawn = λ t job is. more t v.ticket w.ticket (h.drawn t job is) seen.ticket;
      awaited = h.awaited;
      board = h.board;
    }

    aside_at : (s : ℕ) → IsCalm g s r.choice v → IsCalm g s r.choice w
    aside_at s aside t job i due is timer due_is le =
        let q = (h.kept.kept t job is).timer i timer in
        aside t job i due is timer (sym (seen.dues i (IsOwn t q.0)) ∙ due_is) (subst (λ n. due ≤ n) seen.now le)

    pub is_at : (p : Phase) → IsAt g p phase r.choice v → IsAt g p phase r.choice w
    is_at (Untold what) a = a
    is_at (Told at left) (inl o) = inl (record {
      server = o.server;
      within = o.within;
      told = o.told;
      what = o.what;
      passed = o.passed;
      place = o.place;
      in_place = o.in_place;
      frames = o.frames;
      below = subst (λ n. o.place < n) (sym seen.place) o.below;
      calm = aside_at o.server o.calm;
    })
    is_at (Told at left) (inr (none, inl o)) = inr (
      none,
      inl (record {
        what = o.what;
        passed = o.passed;
        early = λ i t due is due_is. subst (λ n. n < due) (sym seen.now) (o.early i t due is (sym (seen.dues i (IsOwn t is)) ∙ due_is));
      }),
    )
    is_at (Told at left) (inr (none, inr o)) = inr (none, inr o)
    is_at (Passed what) a = absurd a

  -- Tied as it looks to a fair view, it agrees there.
  pub record TiedAt (phase : Phase) (r : Whole g) (v : View) (x : State g) : Type 0 where
    pub phases : ℕ → Phase
    pub named : (s lower : ℕ) → Option ℕ
    pub agrees : Agrees g phases named r v x
    pub at : IsAt g phase phases r.choice v

  pub at_view : (phase : Phase) (r : Whole g) (v : View) (x : State g) → IsFair v → Tied g phase r (sight v) x → TiedAt phase r v x
  at_view phase r v x fair t = record {
    phases = t.phases;
    named = t.named;
    agrees = agrees_at t.phases t.named r t.view v x t.agrees t.seen fair;
    at = is_at t.phases t.named r t.view v x t.agrees t.seen phase t.is_at;
  }

  pub tied_as : (phase : Phase) (r : Whole g) (v : View) (x : State g) → TiedAt phase r v x → Tied g phase r (sight v) x
  tied_as phase r v x t = record { view = v; phases = t.phases; named = t.named; seen = seen_itself (Owns g r) v; agrees = t.agrees; is_at = t.at }
