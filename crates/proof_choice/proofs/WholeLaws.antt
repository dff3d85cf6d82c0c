-- What a tie says of a choice between two calls.
use Rattle.std.proofs.Common.{◌≡◌, ℕ, ◌<◌, ◌≤◌, inl, inr, max, true, is_some, List, [], ◌∷◌, length, Option, Some, None, option_map, refl, sym, ap, subst, ◌∙◌, arith}
use Rattle.client_request.specs.Composed.{composed}
use Rattle.client_request.specs.Numbered.{entry_at}
use Rattle.client_request.specs.Request.{Request}
use Rattle.client_request.specs.View.{View}
use Rattle.client_request.specs.declared.event.Event.{Event}
use Rattle.client_choice.specs.Choice.{Choice}
use Rattle.client_choice.specs.declared.job.Started.{Started}
use Rattle.right_trace.specs.Parts.{IsIn}
use Rattle.proof_right.specs.machine.Client.{Waiting, row_begins}
use Rattle.proof_parts.specs.PartTie.{Phase, Untold, Told, Passed, MayEnd}
use Rattle.proof_parts.specs.Sights.{Sight, sight, IsEarly}
use Rattle.proof_parts.proofs.Keys.{each_number}
use Rattle.proof_choice.specs.Awaiting.{Owes, OneOwes}
use Rattle.proof_choice.specs.Choosing.{Choosing}
use Rattle.proof_choice.specs.Doing.{numbers_of}
use Rattle.proof_choice.specs.Requests.{Begun, Desk, Work, AreKept}
use Rattle.proof_choice.specs.Servers.{State}
use Rattle.proof_choice.specs.Whole.{Whole, Owns, IsServers, Agrees, IsAt, Tied, names}
use Rattle.proof_choice.proofs.AwaitingCalls.{is_awaited}
use Rattle.proof_choice.proofs.Dropping.{found_at}
use Rattle.proof_choice.proofs.WholeLeaving.{set_so}
use Rattle.proof_choice.proofs.WholeViews.{in_conf}

some_of : {A : Type 0} (o : Option A) → is_some o ≡ true → (a : A) × (o ≡ Some a)
some_of None e = absurd (cc)
some_of (Some a) e = (a, refl)

is_some_of : {A : Type 0} (o : Option A) (a : A) → o ≡ Some a → is_some o ≡ true
is_some_of o a e = ap is_some e

-- who owes among those that were started
owing : {P : Type 0} (es : List (Started P)) → OneOwes es → (e : Started P) × IsIn e es × Owes e
owing [] o = absurd o
owing (e ∷ es) (inl o) = (e, (inl refl), o)
owing (e ∷ es) (inr o) = let f = owing es o in (f.0, inr f.1, f.2)

-- the number of a ticket is that of the request there
pub number_of : (g : Choosing) (jobs : List (ℕ × Work g)) (t k : ℕ) → numbers_of g jobs t ≡ Some k → (job : Work g) × (entry_at t jobs ≡ Some job) × (job.number ≡ k)
number_of g jobs t k is = by (entry_at t jobs) refl is
  where
    by : (o : Option (Work g)) → entry_at t jobs ≡ o → option_map (λ (job : Work g). job.number) o ≡ Some k → (job : Work g) × (entry_at t jobs ≡ Some job) × (job.number ≡ k)
    by None at is = absurd (cc)
    by (Some job) at is = (job, at, this job.number k is)
      where
        this : (a b : ℕ) → Some a ≡ Some b → a ≡ b
        this a b e = cc

module _ (g : Choosing) where
  abbrev count : ℕ
  count = length (g.c).servers

  -- It looks at nothing else of the client.
  module _ (phase : ℕ → Phase) (named : ℕ → ℕ → Option ℕ) (r : Whole g) (v : View) (a b : State g) (h : Agrees g phase named r v a) (held : b.held ≡ a.held) (ups : b.ups ≡ a.ups) (place : b.place ≡ a.place) (board : b.board ≡ a.board) where
    other_held : (d : Desk g) (held : ℕ → Option Waiting) → held ≡ d.held → AreKept g 0 [] d → AreKept g 0 [] (record d { held = held })
    other_held d held same k = subst (λ (f : ℕ → Option Waiting). AreKept g 0 [] (record d { held = f })) (sym same) k

    pub alike_agrees : Agrees g phase named r v b
    alike_agrees = record {
      settings = h.settings;
      servers = record {
        count = h.servers.count;
        tied = λ s e at. subst (λ (f : ℕ → g.P.State). g.Tied s (phase s) e.upstream (sight v) (f s)) (sym ups) (h.servers.tied s e at);
        apart = h.servers.apart;
        fair = h.servers.fair;
        place = place ∙ h.servers.place;
        places = record {
          places = λ s q p lt less had other. h.servers.places.places s q p lt less (subst (λ (f : ℕ → g.P.State). g.has (f s) p ≡ true) ups had) (subst (λ (f : ℕ → g.P.State). g.has (f q) p ≡ true) ups other);
          below = λ s p lt had. subst (λ n. p < n) (sym place) (h.servers.places.below s p lt (subst (λ (f : ℕ → g.P.State). g.has (f s) p ≡ true) ups had));
        };
      };
      quiet = h.quiet;
      is_named = h.is_named;
      kept = other_held _ b.held held h.kept;
      foreign = h.foreign;
      timers = h.timers;
      sorted = h.sorted;
      drawn = h.drawn;
      awaited = h.awaited;
      board = board ∙ h.board;
    }

  pub alike : (phase : Phase) (r : Whole g) (x : Sight) (a b : State g) → Tied g phase r x a → b.held ≡ a.held → b.ups ≡ a.ups → b.place ≡ a.place → b.board ≡ a.board → Tied g phase r x b
  alike phase r x a b t held ups place board = record { view = t.view; phases = t.phases; named = t.named; seen = t.seen; agrees = alike_agrees t.phases t.named r t.view a b t.agrees held ups place board; is_at = t.is_at }

  over : (a b c : ℕ) → a ≤ b → b ≤ c → a ≤ c
  over a b c p q = omega arith

  more : (a b c : ℕ) → a < b → b ≤ c → a < c
  more a b c p q = omega arith

  pub same : (phase : Phase) (r : Whole g) (x y : Sight) (a : State g) → Tied g phase r x a → y.now ≡ x.now → ((i : ℕ) → Owns g r i → y.dues i ≡ x.dues i) → x.timer ≤ y.timer → x.ticket ≤ y.ticket → y.place ≡ x.place → Tied g phase r y a
  same phase r x y a t now dues timer ticket place = record {
    view = t.view;
    phases = t.phases;
    named = t.named;
    seen = record {
      now = now ∙ t.seen.now;
      dues = λ i own. dues i own ∙ t.seen.dues i own;
      timer = over t.view.timers.next x.timer y.timer t.seen.timer timer;
      ticket = over t.view.ticket x.ticket y.ticket t.seen.ticket ticket;
      place = place ∙ t.seen.place;
    };
    agrees = t.agrees;
    is_at = t.is_at;
  }

  pub set : (phase : Phase) (r : Whole g) (x : Sight) (a : State g) (i : ℕ) → Tied g phase r x a → Owns g r i → (due : ℕ) × (x.dues i ≡ Some due)
  set phase r x a i t own = let d = set_so g t.phases t.named r t.view a t.agrees i own in (d.0, t.seen.dues i own ∙ d.1)

  pub named_so : (phase : Phase) (r : Whole g) (x : Sight) (a : State g) (i k : ℕ) → Tied g phase r x a → names g r i ≡ Some k → (i < x.ticket) × (is_some (a.held k) ≡ true)
  named_so phase r x a i k t is =
      let f = number_of g r.choice.jobs i k is in
      let m = t.agrees.kept.kept i f.0 f.1 in
      (more i t.view.ticket x.ticket (t.agrees.drawn i f.0 f.1) t.seen.ticket, subst (λ n. is_some (a.held n) ≡ true) f.2 (is_some_of (a.held (f.0).number) m.ask m.is))

  pub held_so : (phase : Phase) (r : Whole g) (x : Sight) (a : State g) (k : ℕ) → Tied g phase r x a → is_some (a.held k) ≡ true → (i : ℕ) × (names g r i ≡ Some k)
  held_so phase r x a k t is =
      let w = some_of (a.held k) is in
      let f = t.agrees.kept.held k w.0 w.1 in
      (f.0, ap (λ (o : Option (Work g)). option_map (λ (job : Work g). job.number) o) f.2 ∙ ap (λ n. Some n) f.3)

  -- a server holds what is named there
  pub tried_alone : (phase : Phase) (r : Whole g) (x : Sight) (a : State g) (s k : ℕ) → Tied g phase r x a → s < count → g.P.holds (a.ups s) k ≡ true → is_some (a.held k) ≡ true
  tried_alone phase r x a s k t lt holds =
      let h = t.agrees in
      let f = found_at r.choice.servers s (subst (λ n. s < n) (sym h.servers.count) lt) in
      let n = (g.tie s lt).held (t.phases s) (f.0).upstream (sight t.view) (a.ups s) k (h.servers.tied s f.0 f.1) holds in
      elim (h.kept.named s n.0 k lt (h.is_named s f.0 f.1 n.0 ∙ n.1)) [
        | inl m ↦ (let kept = h.kept.kept m.ticket m.job m.is in subst (λ n. is_some (a.held n) ≡ true) m.number (is_some_of (a.held (m.job).number) kept.ask kept.is))
        | inr o ↦ absurd (o.1).is
      ]

  -- a server that owes a request its result holds it
  owed_is_held : (phase : ℕ → Phase) (named : ℕ → ℕ → Option ℕ) (r : Whole g) (v : View) (a : State g) (h : Agrees g phase named r v a) (t : ℕ) (job : Work g) → entry_at t r.choice.jobs ≡ Some job → (e : Begun g) → IsIn e job.started → Owes e
      → (e.server < count) × (g.P.holds (a.ups e.server) job.number ≡ true)
  owed_is_held phase named r v a h t job is e in_it owes =
      let w = (h.kept.kept t job is).waits e in_it owes.0 owes.1 in
      let s = found_at r.choice.servers e.server (subst (λ n. e.server < n) (sym h.servers.count) w.within) in
      let there : g.names (s.0).upstream e.lower ≡ Some job.number = sym (h.is_named e.server s.0 s.1 e.lower) ∙ w.named in
      (w.within, ((g.tie e.server w.within).named (phase e.server) (s.0).upstream (sight v) (a.ups e.server) e.lower job.number (h.servers.tied e.server s.0 s.1) there).1)

  pub waits : (phase : Phase) (r : Whole g) (x : Sight) (a : State g) (k : ℕ) → Tied g phase r x a → is_some (a.held k) ≡ true → (s : ℕ) × (s < count) × (g.P.holds (a.ups s) k ≡ true)
  waits phase r x a k t is =
      let w = some_of (a.held k) is in
      let f = t.agrees.kept.held k w.0 w.1 in
      let o = owing (f.1).started (is_awaited count f.0 f.1 r.choice t.agrees.awaited f.2).one in
      let held = owed_is_held t.phases t.named r t.view a t.agrees f.0 f.1 f.2 o.0 o.1 o.2 in
      ((o.0).server, held.0, subst (λ n. g.P.holds (a.ups (o.0).server) n ≡ true) f.3 held.1)

  -- where the whole may end, so may each server
  may_end : (phase : Phase) (phases : ℕ → Phase) (c : Choice Request g.U g.R) (v : View) (s : ℕ) → MayEnd phase → IsAt g phase phases c v → s < count → MayEnd (phases s)
  may_end (Untold w) phases c v s may at lt = subst MayEnd (sym (at s lt)) may
  may_end (Told p left) phases c v s may (inl o) lt = each_number (λ s. s < count → MayEnd (phases s)) o.server (λ lt. subst MayEnd (sym o.told) may) (λ q ne lt. subst MayEnd (sym (o.passed q lt ne)) tt) s lt
  may_end (Told p left) phases c v s may (inr (none, inl o)) lt = subst MayEnd (sym (o.passed s lt)) tt
  may_end (Told p left) phases c v s may (inr (none, inr o)) lt = subst MayEnd (sym (o.begun s lt)) refl
  may_end (Passed w) phases c v s may at lt = absurd at

  pub rests : (phase : Phase) (r : Whole g) (v : View) (a : State g) (s : ℕ) → MayEnd phase → IsEarly v → Tied g phase r (sight v) a → s < count → g.P.Rests (a.ups s)
  rests phase r v a s may early t lt =
      let h = t.agrees in
      let f = found_at r.choice.servers s (subst (λ n. s < n) (sym h.servers.count) lt) in
      (g.tie s lt).rests (t.phases s) (f.0).upstream v (a.ups s) (may_end phase t.phases r.choice t.view s may t.is_at lt) (λ i due own is. early i due is)
      ((g.tie s lt).same (t.phases s) (f.0).upstream (sight t.view) (sight v) (a.ups s) (h.servers.tied s f.0 f.1) t.seen.now (λ i own. t.seen.dues i (IsServers s f.0 f.1 own)) t.seen.timer t.seen.ticket (at_most t.view.place v.place t.seen.place))
    where
      at_most : (a b : ℕ) → b ≡ a → a ≤ b
      at_most a b e = omega arith

  -- a row begins
  pub begins : (phase : Phase) (r : Whole g) (x : Sight) (a : State g) (e : Event) → MayEnd phase → Tied g phase r x a → Tied g (Untold e.what) r (record x { now = max e.moment.0 x.now }) (row_begins g.c g.st composed g.P e a)
  begins phase r x a e may t =
      let h = t.agrees in
      record {
        view = later;
        phases = λ s. Untold e.what;
        named = t.named;
        seen = record { now = ap (λ n. max e.moment.0 n) t.seen.now; dues = t.seen.dues; timer = t.seen.timer; ticket = t.seen.ticket; place = t.seen.place };
        agrees = record {
          settings = h.settings;
          servers = record {
            count = h.servers.count;
            tied = λ s u at. (let lt = in_conf g t.phases r.choice.servers t.view a s u h.servers at in
                (g.tie s lt).begins (t.phases s) u.upstream (sight t.view) (a.ups s) e (may_end phase t.phases r.choice t.view s may t.is_at lt) (h.servers.tied s u at));
            apart = h.servers.apart;
            fair = record { order = h.servers.fair.order; words = h.servers.fair.words };
            place = h.servers.place;
            places = record {
              places = λ s q p lt less had other. h.servers.places.places s q p lt less (sym (g.opens.begins e (a.ups s) p) ∙ had) (sym (g.opens.begins e (a.ups q) p) ∙ other);
              below = λ s p lt had. h.servers.places.below s p lt (sym (g.opens.begins e (a.ups s) p) ∙ had);
            };
          };
          quiet = h.quiet;
          is_named = h.is_named;
          kept = again h.kept;
          foreign = h.foreign;
          timers = h.timers;
          sorted = h.sorted;
          drawn = h.drawn;
          awaited = h.awaited;
          board = h.board;
        };
        is_at = λ s lt. refl;
      }
    where
      later : View
      later = record t.view { now = max e.moment.0 t.view.now }

      again : {d : Desk g} → AreKept g 0 [] d → AreKept g 0 [] d
      again k = k
