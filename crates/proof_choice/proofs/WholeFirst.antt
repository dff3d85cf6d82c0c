-- A choice as it begins is tied to the client that has begun.
use Rattle.std.proofs.Common.{◌≡◌, ℕ, zero, suc, ◌+◌, ◌<◌, ◌≤◌, inr, true, false, List, [], length, Option, Some, None, slice_get, refl, sym, ap, subst, ◌∙◌, arith}
use Rattle.std.proofs.lemmas.Option.{slice_get_within}
use Rattle.client_request.specs.Composed.{composed}
use Rattle.client_request.specs.View.{View}
use Rattle.client_choice.specs.Servers.{Server, added}
use Rattle.proof_right.specs.machine.Client.{begun}
use Rattle.proof_parts.specs.Lines.{Sorted}
use Rattle.proof_parts.specs.PartTie.{Told}
use Rattle.proof_parts.specs.Sights.{Sight, sight, IsFair}
use Rattle.proof_choice.specs.Choosing.{Choosing}
use Rattle.proof_choice.specs.Whole.{Owns, IsOwn, IsServers, Agrees, Tied, with_all, servers_from}

-- the view of a client that has begun
abbrev begins_at : View
begins_at = record { now = 0; words = λ i. 0; outs = []; board = []; timers = record { next = 0; set = [] }; ticket = 0; place = 0; request = 0; more = false }

fair_at_first : IsFair begins_at
fair_at_first = record { order = tt; words = λ i. omega arith }

none_below : (i : ℕ) → i < 0 → ⊥
none_below i lt = omega arith

at_least : (n : ℕ) → 0 ≤ n
at_least n = omega arith

module _ (g : Choosing) where
  count_from : (s n : ℕ) → length (servers_from g s n) ≡ n
  count_from s zero = refl
  count_from s (suc n) = ap suc (count_from (suc s) n)

  -- each of them has just been added
  is_added : (n s i : ℕ) (a : Server g.U) → slice_get (servers_from g s n) i ≡ Some a → added (g.first (s + i)) ≡ a
  is_added zero s i a is = absurd (cc)
  is_added (suc n) s zero a is = ap (λ i. added (g.first i)) (itself s) ∙ this (added (g.first s)) a is
    where
      itself : (s : ℕ) → s + 0 ≡ s
      itself s = omega arith

      this : (a b : Server g.U) → Some a ≡ Some b → a ≡ b
      this a b e = cc
  is_added (suc n) s (suc i) a is = ap (λ i. added (g.first i)) (next s i) ∙ is_added n (suc s) i a is
    where
      next : (s i : ℕ) → s + suc i ≡ suc s + i
      next s i = omega arith

  abbrev all : List (Server g.U)
  all = servers_from g 0 (length (g.c).servers)

  -- what holds of each as it begins holds of it
  of_each : (P : ℕ → Server g.U → Type 0) → ((s : ℕ) → s < length (g.c).servers → P s (added (g.first s))) → (s : ℕ) (a : Server g.U) → slice_get all s ≡ Some a → P s a
  of_each P f s a at = subst (λ (b : Server g.U). P s b) (ap (λ i. added (g.first i)) (from_none s) ∙ is_added (length (g.c).servers) 0 s a at)
      (f s (subst (λ n. s < n) (count_from 0 (length (g.c).servers)) (slice_get_within all s a at)))
    where
      from_none : (s : ℕ) → s ≡ 0 + s
      from_none s = omega arith

  tied_at_first : (s : ℕ) → s < length (g.c).servers → g.Tied s (Told 0 0) (g.first s) (sight begins_at) g.P.fresh
  tied_at_first s lt = (g.tie s lt).fresh (sight begins_at) refl

  owns_none : (s : ℕ) → s < length (g.c).servers → (i : ℕ) → g.Owns (g.first s) i → ⊥
  owns_none s lt i own = let d = (g.tie s lt).set (Told 0 0) (g.first s) (sight begins_at) g.P.fresh i (tied_at_first s lt) own in let z : None ≡ Some d.0 = d.1 in cc

  names_none : (s : ℕ) → s < length (g.c).servers → (i : ℕ) → g.names (g.first s) i ≡ None
  names_none s lt i = by (g.names (g.first s) i) refl
    where
      by : (o : Option ℕ) → g.names (g.first s) i ≡ o → o ≡ None
      by None is = refl
      by (Some k) is = absurd (none_below i ((g.tie s lt).named (Told 0 0) (g.first s) (sight begins_at) g.P.fresh i k (tied_at_first s lt) is).0)

  owned_none : (i : ℕ) → Owns g (with_all g) i → ⊥
  owned_none i (IsOwn t at) = let z : None ≡ Some t = at in cc
  owned_none i (IsServers s a at own) = of_each (λ s a. g.Owns a.upstream i → ⊥) (λ s lt own. owns_none s lt i own) s a at own

  pub agrees_at_first : Agrees g (λ s. Told 0 0) (λ s i. None) (with_all g) begins_at (begun g.c g.st composed g.P)
  agrees_at_first = record {
    settings = refl;
    servers = record {
      count = count_from 0 (length (g.c).servers);
      tied = λ s a at. of_each (λ s a. g.Tied s (Told 0 0) a.upstream (sight begins_at) g.P.fresh) tied_at_first s a at;
      apart = λ s q i a b at is own other. absurd (owned_none i (IsServers s a at own));
      fair = fair_at_first;
      place = refl;
      places = record {
        places = λ s q p lt less had other. absurd (let z : true ≡ false = sym had ∙ g.opens.fresh p in cc);
        below = λ s p lt had. absurd (let z : true ≡ false = sym had ∙ g.opens.fresh p in cc);
      };
    };
    quiet = λ s a at. of_each (λ s a. (a.posted ≡ []) × ((hi : ℕ) × Sorted 0 hi a.waiting)) (λ s lt. (refl, (0, tt))) s a at;
    is_named = λ s a at i. of_each (λ s a. None ≡ g.names a.upstream i) (λ s lt. sym (names_none s lt i)) s a at;
    kept = record {
      kept = λ t job is. absurd (let z : None ≡ Some job = is in cc);
      named = λ s i k lt is. absurd (let z : None ≡ Some k = is in cc);
      held = λ k a is. absurd (let z : None ≡ Some a = is in cc);
      timers = λ i t is. absurd (let z : None ≡ Some t = is in cc);
      apart = λ t u job other is it same. absurd (let z : None ≡ Some job = is in cc);
    };
    foreign = λ i t s a is at own. let z : None ≡ Some t = is in cc;
    timers = (0, tt);
    sorted = (0, tt);
    drawn = λ t job is. absurd (let z : None ≡ Some job = is in cc);
    awaited = record { servers = count_from 0 (length (g.c).servers); jobs = tt };
    board = refl;
  }

  pub tied_fresh : (x : Sight) → x.now ≡ 0 → x.place ≡ 0 → Tied g (Told 0 0) (with_all g) x (begun g.c g.st composed g.P)
  tied_fresh x now place = record {
    view = begins_at;
    phases = λ s. Told 0 0;
    named = λ s i. None;
    seen = record { now = now; dues = λ i own. absurd (owned_none i own); timer = at_least x.timer; ticket = at_least x.ticket; place = place };
    agrees = agrees_at_first;
    is_at = inr (refl, inr (record { begun = λ s lt. refl; jobs = refl; timers = refl }));
  }
