-- What a call leaves of a choice and its servers is what moves leave of the whole of a client.
use Rattle.std.proofs.Common.{◌≡◌, ℕ, zero, suc, ◌<◌, ◌≤◌, ◌⊎◌, inl, inr, Bool, true, false, ◌==◌, [], length, Option, Some, None, option_map, slice_get, refl, sym, ap, subst, ◌∙◌, arith, le_refl, append-nil}
use Rattle.std.proofs.lemmas.Bool.Decides.{nat_tests}
use Rattle.client_request.specs.Numbered.{entry_at}
use Rattle.client_request.specs.Request.{Request}
use Rattle.client_request.specs.View.{View}
use Rattle.client_choice.specs.Choice.{Choice, After}
use Rattle.client_choice.specs.Redundant.{with_choice}
use Rattle.client_choice.specs.Servers.{Server}
use Rattle.proof_parts.specs.Leading.{Arrives}
use Rattle.proof_parts.specs.PartTie.{Phase, Told, IsOpen, Leads}
use Rattle.proof_parts.specs.Sights.{sight, due_of, IsFair}
use Rattle.proof_parts.specs.WholeTie as whole
use Rattle.proof_parts.proofs.GoingOn.{none_next}
use Rattle.proof_parts.proofs.Keys.{each_number}
use Rattle.proof_choice.specs.Awaiting.{Awaits}
use Rattle.proof_choice.specs.Choosing.{Choosing}
use Rattle.proof_choice.specs.Doing.{IsStill, HasActed, numbers_of}
use Rattle.proof_choice.specs.Requests.{Others, Work}
use Rattle.proof_choice.specs.Servers.{State}
use Rattle.proof_choice.specs.Whole.{Whole, Owns, IsOwn, IsServers, Agrees, IsCalm, IsAt, Tied, names}
use Rattle.proof_choice.proofs.AtServer.{both_are}
use Rattle.proof_choice.proofs.Settling.{gives_less}
use Rattle.proof_choice.proofs.WholeViews.{in_conf, TiedAt, tied_as}

is_it : (a b : ℕ) → (a == b) ≡ true → a ≡ b
is_it a b e = grind (arith, nat_tests)

less_or_not : (a b : ℕ) → (a < b) ⊎ (b ≤ a)
less_or_not a b = grind arith

pub up_to_here : (n m : ℕ) → m < suc n → (n ≡ m) ⊎ (m < n)
up_to_here n m lt = grind arith

-- a timer that is set has its number
pub set_is_drawn : (v : View) (i due : ℕ) → IsFair v → due_of i v.timers.set ≡ Some due → i < v.timers.next
set_is_drawn v i due fair set = elim (less_or_not i v.timers.next) [ inl lt ↦ lt | inr le ↦ absurd (let z : None ≡ Some due = sym (none_next v i fair le) ∙ set in cc) ]

-- one timer, of others
pub one_timer : (i due : ℕ) → Others
one_timer i due = record { are = λ j. i == j; due = λ j. Some due }

pub no_timer : Others
no_timer = record { are = λ j. false; due = λ j. None }

module _ (g : Choosing) where
  abbrev count : ℕ
  count = length (g.c).servers

  -- These are timers of others.
  pub record AreOthers (others : Others) (r : Whole g) (v : View) : Type 0 where
    pub drawn : (i : ℕ) → others.are i ≡ true → i < v.timers.next
    pub due : (i moment : ℕ) → others.are i ≡ true → others.due i ≡ Some moment → due_of i v.timers.set ≡ Some moment
    pub apart : (i : ℕ) → others.are i ≡ true → Owns g r i → ⊥

  pub no_others : (r : Whole g) (v : View) → AreOthers no_timer r v
  unfolding no_timer
  no_others r v = record { drawn = λ i are. absurd (cc); due = λ i m are is. absurd (cc); apart = λ i are own. absurd (cc) }

  pub one_other : (r : Whole g) (v : View) (i due : ℕ) → IsFair v → (Owns g r i → ⊥) → due_of i v.timers.set ≡ Some due → AreOthers (one_timer i due) r v
  unfolding one_timer
  one_other r v i due fair not_own set = record {
    drawn = λ j are. subst (λ j. j < v.timers.next) (is_it i j are) (set_is_drawn v i due fair set);
    due = λ j m are is. subst (λ j. due_of j v.timers.set ≡ Some m) (is_it i j are) (set ∙ is);
    apart = λ j are own. not_own (subst (λ j. Owns g r j) (sym (is_it i j are)) own);
  }

  pub one_later : (r : Whole g) (v : View) (i due : ℕ) → AreOthers (one_timer i due) r v → (Owns g r i → ⊥) × (due_of i v.timers.set ≡ Some due)
  unfolding one_timer
  one_later r v i due a = (a.apart i (itself i), a.due i due (itself i) refl)
    where
      itself : (n : ℕ) → (n == n) ≡ true
      itself n = grind (arith, nat_tests)

  -- it is known whose each timer is
  pub knows : (phase : ℕ → Phase) (named : ℕ → ℕ → Option ℕ) (r : Whole g) (v : View) (x : State g) → Agrees g phase named r v x → (i : ℕ) → Owns g r i ⊎ (Owns g r i → ⊥)
  knows phase named r v x h i = by (entry_at i r.choice.timers) refl
    where
      None_below : ℕ → Type 0
      None_below n = (s : ℕ) (a : Server g.U) → s < n → slice_get r.choice.servers s ≡ Some a → g.Owns a.upstream i → ⊥

      step : (n : ℕ) → None_below n → (o : Option (Server g.U)) → slice_get r.choice.servers n ≡ o → Owns g r i ⊎ None_below (suc n)
      step n none None is = inr (λ s a lt at own. elim (up_to_here n s lt) [
        | inl same ↦ (let z : None ≡ Some a = sym is ∙ (ap (λ s. slice_get r.choice.servers s) same ∙ at) in cc)
        | inr less ↦ none s a less at own
      ])
      step n none (Some b) is = elim ((g.shared n (in_conf g phase r.choice.servers v x n b h.servers is)).knows b.upstream i) [
        | inl own ↦ inl (IsServers n b is own)
        | inr not ↦ inr (λ s a lt at own. elim (up_to_here n s lt) [
          | inl same ↦ not (subst (λ (a : Server g.U). g.Owns a.upstream i) (both_are (slice_get r.choice.servers s) a b at (ap (λ s. slice_get r.choice.servers s) (sym same) ∙ is)) own)
          | inr less ↦ none s a less at own
        ])
      ]

      search : (n : ℕ) → Owns g r i ⊎ None_below n
      search zero = inr (λ s a lt at own. absurd (omega arith))
      search (suc n) = elim (search n) [ inl own ↦ inl own | inr none ↦ step n none (slice_get r.choice.servers n) refl ]

      by : (o : Option ℕ) → entry_at i r.choice.timers ≡ o → Owns g r i ⊎ (Owns g r i → ⊥)
      by (Some t) is = inl (IsOwn t is)
      by None is = elim (search count) [ inl own ↦ inl own | inr none ↦ inr (λ own. not none own) ]
        where
          not : None_below count → Owns g r i → ⊥
          not none (IsOwn t at) = let z : None ≡ Some t = sym is ∙ at in cc
          not none (IsServers s a at own) = none s a (in_conf g phase r.choice.servers v x s a h.servers at) at own

  -- each timer of its own is set
  pub set_so : (phase : ℕ → Phase) (named : ℕ → ℕ → Option ℕ) (r : Whole g) (v : View) (x : State g) → Agrees g phase named r v x → (i : ℕ) → Owns g r i → (due : ℕ) × (due_of i v.timers.set ≡ Some due)
  set_so phase named r v x h i (IsOwn t at) = let f = h.kept.timers i t at in ((h.kept.kept t f.0 f.1).timer i f.2).1
  set_so phase named r v x h i (IsServers s a at own) = (g.tie s (in_conf g phase r.choice.servers v x s a h.servers at)).set (phase s) a.upstream (sight v) (x.ups s) i (h.servers.tied s a at) own

  -- The choice is between two calls, whose results are taken from any server.
  pub still_of : (others : Others) (phase : ℕ → Phase) (current : ℕ) (named : ℕ → ℕ → Option ℕ) (r : Whole g) (v : View) (x : State g) → Agrees g phase named r v x → AreOthers others r v
      → ((s : ℕ) → s < count → (current ≡ s → ⊥) → IsOpen (phase s) v.place)
      → ((at frames : ℕ) → phase current ≡ Told at frames → IsCalm g current r.choice v)
      → IsStill g others phase current (named current) named r.choice v x
  still_of others phase current named r v x h o is_open calm = record {
    stands = record {
      servers = h.servers;
      quiet = h.quiet;
      is_named = λ s a at ne i. h.is_named s a at i;
      still = λ a at i. sym (h.is_named current a at i);
      less = λ i k is. is;
      kept = h.kept;
      foreign = h.foreign;
      timers = h.timers;
      is_open = is_open;
      calm = calm;
      drawn = o.drawn;
      due = o.due;
      own = λ i t are at. o.apart i are (IsOwn t at);
      far = λ i s a are at own. o.apart i are (IsServers s a at own);
    };
    names = λ i. refl;
    sorted = h.sorted;
    board = h.board;
  }

  -- and it agrees with the machine
  pub agrees_of : (others : Others) (phase : ℕ → Phase) (current : ℕ) (left : ℕ → Option ℕ) (named : ℕ → ℕ → Option ℕ) (r : Whole g) (v : View) (x : State g) → IsStill g others phase current left named r.choice v x → r.settings ≡ g.settings
      → ((t : ℕ) (job : Work g) → entry_at t r.choice.jobs ≡ Some job → t < v.ticket) → Awaits count r.choice → Agrees g phase named r v x
  agrees_of others phase current left named r v x s settings drawn awaited = record {
    settings = settings;
    servers = s.stands.servers;
    quiet = s.stands.quiet;
    is_named = λ q a at i. each_number (λ q. slice_get r.choice.servers q ≡ Some a → named q i ≡ g.names a.upstream i) current (λ at. s.names i ∙ sym (s.stands.still a at i)) (λ q ne at. s.stands.is_named q a at ne i) q at;
    kept = s.stands.kept;
    foreign = s.stands.foreign;
    timers = s.stands.timers;
    sorted = s.sorted;
    drawn = drawn;
    awaited = awaited;
    board = s.board;
  }

  pub others_of : (others : Others) (phase : ℕ → Phase) (current : ℕ) (left : ℕ → Option ℕ) (named : ℕ → ℕ → Option ℕ) (r : Whole g) (v : View) (x : State g) → IsStill g others phase current left named r.choice v x → AreOthers others r v
  others_of others phase current left named r v x s = record { drawn = s.stands.drawn; due = s.stands.due; apart = λ i are own. not i are own }
    where
      not : (i : ℕ) → others.are i ≡ true → Owns g r i → ⊥
      not i are (IsOwn t at) = s.stands.own i t are at
      not i are (IsServers q a at own) = s.stands.far i q a are at own

  abbrev pub WholeLeaves : (named : ℕ → Option ℕ) (from : State g) (r : Whole g) (v : View) (phase : Phase) (t : Whole g) (w : View) → Type 0
  WholeLeaves = whole.Leaves g.st g.P (Tied g) (names g) (Owns g)

  -- what a call is to have shown, at which the choice c and the view w are left
  module _ (to : Phase) (phase : ℕ → Phase) (current : ℕ) (numbers left : ℕ → Option ℕ) (said : Bool) (named0 : ℕ → ℕ → Option ℕ) (before : ℕ → Phase) (r : Whole g) (u v : View) (x : State g) (h : Agrees g before named0 r u x) (fair : IsFair v)
      (from : State g) (small : (t k : ℕ) → numbers t ≡ Some k → t < v.ticket) (c : Choice Request g.U g.R) (w : View) where
    abbrev after : Whole g
    after = record r { choice = c }

    more : (a b c : ℕ) → a < b → b ≤ c → a < c
    more a b c lt le = omega arith

    pub leaves_so : HasActed g no_timer phase current numbers left said v from c w → Awaits count c → IsAt g to phase c w → ((i due : ℕ) → AreOthers (one_timer i due) r v → AreOthers (one_timer i due) after w) → WholeLeaves numbers from r v to after w
    leaves_so a awaited at others = record {
      outs = a.went.outs;
      end = a.end;
      leads = a.went.leads;
      put = a.went.put;
      board = a.given;
      posted = a.put;
      given = a.gave;
      leaves = a.leaves;
      gives = a.answers;
      now = a.went.now;
      asked = a.went.asked;
      pending = a.went.pending;
      tied = tied_as g to after w a.end (record { phases = phase; named = a.named; agrees = agrees; at = at });
      goes_on = a.went.goes_on;
      owned = owned;
      others = λ i due not set. (one_later after w i due (others i due (one_other r v i due fair not set))).1;
    }
      where
        agrees : Agrees g phase a.named after w a.end
        agrees = agrees_of no_timer phase current left a.named after w a.end a.still h.settings
            (λ t job is. more t v.ticket w.ticket (small t job.number (gives_less numbers a.given _ (numbers_of g c.jobs) t job.number a.answers (ap (λ (o : Option (Work g)). option_map (λ (job : Work g). job.number) o) is))) a.went.goes_on.ticket)
            awaited

        owned : (i : ℕ) → Owns g after i → Owns g r i ⊎ (v.timers.next ≤ i)
        owned i own = elim (knows before named0 r u x h i) [
          | inl was ↦ inl was
          | inr not ↦ (let d = set_so phase a.named after w a.end agrees i own in elim (a.went.goes_on.later i d.0 d.1) [
            | inl was ↦ absurd ((one_later after w i d.0 (others i d.0 (one_other r v i d.0 fair not was))).0 own)
            | inr new ↦ inr new.1
          ])
        ]

    -- what is put on the board is what was given
    pub board_so : (a : HasActed g no_timer phase current numbers left said v from c w) (awaited : Awaits count c) (at : IsAt g to phase c w) (others : (i due : ℕ) → AreOthers (one_timer i due) r v → AreOthers (one_timer i due) after w) → (leaves_so a awaited at others).board ≡ a.given
    unfolding leaves_so
    board_so a awaited at others = refl

  -- Where nothing happens, nothing is left.
  pub nothing_so : (phase : Phase) (r : Whole g) (v : View) (x : State g) → TiedAt g phase r v x → WholeLeaves (names g r) x r v phase r v
  nothing_so phase r v x t = record {
    outs = [];
    end = x;
    leads = Arrives x;
    put = sym (append-nil v.outs);
    board = [];
    posted = sym (append-nil v.board);
    given = [];
    leaves = sym (append-nil x.leaving);
    gives = λ t. refl;
    now = refl;
    asked = refl;
    pending = refl;
    tied = tied_as g phase r v x t;
    goes_on = record { fair = t.agrees.servers.fair; now = refl; timer = le_refl v.timers.next; ticket = le_refl v.ticket; place = le_refl v.place; later = λ i due is. inl is };
    owned = λ i own. inl own;
    others = λ i due not is. is;
  }

  -- What a call leaves, whatever timers of others are, is what it leaves of the whole.
  pub closes : (r : Whole g) (v : View) (X : Others → Choice Request g.U g.R → View → Type 0) (C : Whole g → View → Type 0) (o : After Request g.U g.R) → ((others : Others) → AreOthers others r v → Leads (X others) o) → Leads (λ d w. Awaits count d) o
      → ((others : Others) (d : Choice Request g.U g.R) (w : View) → X others d w → AreOthers others (record r { choice = d }) w)
      → ((d : Choice Request g.U g.R) (w : View) → X no_timer d w → Awaits count d → ((i due : ℕ) → AreOthers (one_timer i due) r v → AreOthers (one_timer i due) (record r { choice = d }) w) → C (record r { choice = d }) w)
      → Leads C (with_choice r o)
  closes r v X C None acts awaits others so = tt
  closes r v X C (Some z) acts awaits others so = so z.0 z.1 (acts no_timer (no_others r v)) awaits (λ i due a. others (one_timer i due) z.0 z.1 (acts (one_timer i due) a))

  -- tickets are below the next
  pub small_so : (phase : ℕ → Phase) (named : ℕ → ℕ → Option ℕ) (r : Whole g) (v : View) (x : State g) → Agrees g phase named r v x → (t k : ℕ) → names g r t ≡ Some k → t < v.ticket
  small_so phase named r v x h t k is = by (entry_at t r.choice.jobs) refl is
    where
      by : (o : Option (Work g)) → entry_at t r.choice.jobs ≡ o → option_map (λ (job : Work g). job.number) o ≡ Some k → t < v.ticket
      by None at is = absurd (cc)
      by (Some job) at is = h.drawn t job at
