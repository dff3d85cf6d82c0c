-- A timer that fires: the choice's, one of a server's, or one of others.
use Rattle.std.proofs.Common.{◌≡◌, ℕ, ◌<◌, ◌≤◌, inl, inr, List, length, Option, Some, None, slice_get, refl, sym, ap, subst, ◌∙◌, arith, le_refl}
use Rattle.std.proofs.lemmas.Option.{slice_get_within}
use Rattle.client_request.specs.Numbered.{entry_at, frees}
use Rattle.client_request.specs.Request.{Request}
use Rattle.client_request.specs.Timers.{cancelled}
use Rattle.client_request.specs.View.{View, due_timer}
use Rattle.client_request.specs.declared.event.What.{What}
use Rattle.client_choice.specs.Choice.{Choice, due, due_at, hears_all}
use Rattle.client_choice.specs.Redundant.{with_choice, transport}
use Rattle.client_choice.specs.Servers.{Server}
use Rattle.proof_parts.specs.PartTie.{Phase, Untold, Told, Passed, WasTold, IsOpen, Leads}
use Rattle.proof_parts.specs.Sights.{sight, due_of, IsFair}
use Rattle.proof_parts.proofs.GoingOn.{dues_without, fair_without}
use Rattle.proof_parts.proofs.Keys.{each_number, with_here, with_there, was_there}
use Rattle.proof_choice.specs.Awaiting.{Awaits}
use Rattle.proof_choice.specs.Choosing.{Choosing}
use Rattle.proof_choice.specs.Doing.{CallsAreMoves, IsStill, HasActed, HasHeard, IsNothing, nobody}
use Rattle.proof_choice.specs.Requests.{Others, Work, IsAside}
use Rattle.proof_choice.specs.Servers.{State}
use Rattle.proof_choice.specs.Whole.{IsSeen, Whole, Owns, IsOwn, IsServers, Agrees, IsCalm, OneTook, IsAt, Tied, names}
use Rattle.proof_choice.proofs.AtServer.{both_are}
use Rattle.proof_choice.proofs.AwaitingCalls.{hears_all_awaits, fires_awaits}
use Rattle.proof_choice.proofs.Dropping.{found_at}
use Rattle.proof_choice.proofs.Firing.{none_past}
use Rattle.proof_choice.proofs.WholeHearing.{all_pass, one_of_all}
use Rattle.proof_choice.proofs.WholeLeaving.{AreOthers, knows, set_is_drawn, still_of, others_of, leaves_so, nothing_so, small_so, closes, WholeLeaves, no_timer}
use Rattle.proof_choice.proofs.WholeViews.{in_conf, agrees_at, is_at, TiedAt, at_view}

not_late : (a b : ℕ) → a < b → b ≤ a → ⊥
not_late a b p q = omega arith

not_below : (n : ℕ) → n < n → ⊥
not_below n lt = omega arith

more : (a b c : ℕ) → a < b → b ≤ c → a < c
more a b c p q = omega arith

module _ (g : Choosing) where
  abbrev count : ℕ
  count = length (g.c).servers

  -- nobody is started, or waited for, beyond the servers
  pub aside_of_nobody : (phase : ℕ → Phase) (named : ℕ → ℕ → Option ℕ) (r : Whole g) (v : View) (x : State g) → Agrees g phase named r v x → (t : ℕ) (job : Work g) → entry_at t r.choice.jobs ≡ Some job → IsAside g (nobody g) job
  aside_of_nobody phase named r v x h t job is =
      let m = h.kept.kept t job is in
      record {
        aside = λ to. none_past count job.left m.ask.tried m.left to;
        clear = λ b in_it a p same. not_below count (subst (λ n. n < count) (sym same) (m.waits b in_it a p).within);
      }

  -- each timer that a server owns, once the event was told, is not due
  early_told : (phase : ℕ → Phase) (named : ℕ → ℕ → Option ℕ) (r : Whole g) (v : View) (x : State g) → Agrees g phase named r v x → (s : ℕ) (a : Server g.U) → slice_get r.choice.servers s ≡ Some a → WasTold (phase s) → (i due : ℕ) → g.Owns a.upstream i → due_of i v.timers.set ≡ Some due → v.now < due
  early_told phase named r v x h s a at told i due own is = (g.tie s (in_conf g phase r.choice.servers v x s a h.servers at)).quiet (phase s) a.upstream (sight v) (x.ups s) told (h.servers.tied s a at) i due own is

  -- where the whole was told an event, so was each server
  told_each : (p left : ℕ) (phase : ℕ → Phase) (c : Choice Request g.U g.R) (v : View) (s : ℕ) → IsAt g (Told p left) phase c v → s < count → WasTold (phase s)
  told_each p left phase c v s (inl o) lt = each_number (λ s. s < count → WasTold (phase s)) o.server (λ lt. subst WasTold (sym o.told) tt) (λ q ne lt. subst WasTold (sym (o.passed q lt ne)) tt) s lt
  told_each p left phase c v s (inr (none, inl o)) lt = subst WasTold (sym (o.passed s lt)) tt
  told_each p left phase c v s (inr (none, inr o)) lt = subst WasTold (sym (o.begun s lt)) tt

  -- where one took the event, each other may be started at and told to give up
  pub others_open : (p left : ℕ) (phase : ℕ → Phase) (c : Choice Request g.U g.R) (v : View) → (o : OneTook g p left phase c v) → (s : ℕ) → s < count → (o.server ≡ s → ⊥) → IsOpen (phase s) v.place
  others_open p left phase c v o s lt ne = subst (λ f. IsOpen f v.place) (sym (o.passed s lt ne)) (λ q is. subst (λ q. q < v.place) (this o.place q (sym o.in_place ∙ is)) o.below)
    where
      this : (a b : ℕ) → Some a ≡ Some b → a ≡ b
      this a b e = cc

  -- the same server took it, once results of it were taken
  pub took_on : (p left : ℕ) (phase : ℕ → Phase) (c d : Choice Request g.U g.R) (v w : View) (o : OneTook g p left phase c v) → v.place ≤ w.place → IsCalm g o.server d w → OneTook g p left phase d w
  took_on p left phase c d v w o le calm = record { server = o.server; within = o.within; told = o.told; what = o.what; passed = o.passed; place = o.place; in_place = o.in_place; frames = o.frames; below = more o.place v.place w.place o.below le; calm = calm }

  -- what is known of a server that took an event
  pub calm_of : (others : Others) (phase : ℕ → Phase) (current : ℕ) (left : ℕ → Option ℕ) (named : ℕ → ℕ → Option ℕ) (c : Choice Request g.U g.R) (v : View) (x : State g) (at frames : ℕ) → IsStill g others phase current left named c v x → phase current ≡ Told at frames → IsCalm g current c v
  calm_of others phase current left named c v x at frames s told = s.stands.calm at frames told

  module _ (calls : CallsAreMoves g) (r : Whole g) (v : View) (x : State g) (i due_at_i : ℕ) (set : due_of i v.timers.set ≡ Some due_at_i) (late : due_at_i ≤ v.now) where
    abbrev c : Choice Request g.U g.R
    c = r.choice

    abbrev gone : View
    gone = record v { timers = cancelled i v.timers }

    -- other timers are due as before
    still_due : (j : ℕ) → IsFair v → (i ≡ j → ⊥) → due_of j gone.timers.set ≡ due_of j v.timers.set
    still_due j fair ne = dues_without v i j fair ∙ with_there i None (λ j. due_of j v.timers.set) j ne

    before : (others : Others) → IsFair v → AreOthers g others r gone → AreOthers g others r v
    before others fair a = record { drawn = a.drawn; due = λ j m are is. (was_there i (λ j. due_of j v.timers.set) j m (sym (dues_without v i j fair) ∙ a.due j m are is)).1; apart = a.apart }

    module _ (phase : Phase) (t : TiedAt g phase r v x) where
      abbrev h : Agrees g t.phases t.named r v x
      h = t.agrees

      fair : IsFair v
      fair = h.servers.fair

      -- a timer of the choice fires, while the results of a server are taken, or of none
      own_fires : (current ticket : ℕ) → entry_at i c.timers ≡ Some ticket → ((s : ℕ) → s < count → (current ≡ s → ⊥) → IsOpen (t.phases s) v.place) → IsCalm g current c v
          → ((d : Choice Request g.U g.R) (w : View) → v.place ≤ w.place → ((at frames : ℕ) → t.phases current ≡ Told at frames → IsCalm g current d w) → IsAt g phase t.phases d w)
          → Leads (WholeLeaves g (names g r) x r gone phase) (with_choice r (due g.below g.settings i c gone))
      own_fires current ticket is is_open aside at =
          closes g r gone (λ others. HasActed g others t.phases current (names g r) (t.named current) v.more gone x) (WholeLeaves g (names g r) x r gone phase) (due g.below g.settings i c gone)
          (λ others o. calls.firing others t.phases current i ticket (t.named current) t.named c v x (still_of g others t.phases current t.named r v x h (before others fair o) is_open (λ at frames told. aside)) is
          (λ job at. (let f = h.kept.timers i ticket is in aside ticket job i due_at_i at (subst (λ (j : Work g). j.timer ≡ Some i) (both_are (entry_at ticket c.jobs) f.0 job f.1 at) f.2) set late)))
          (subst (λ o. Leads (λ d w. Awaits count d) (due_at g.below g.settings i c gone o)) (sym is)
          (fires_awaits count g.below g.settings ticket (record c { timers = frees i c.timers }) gone (record { servers = h.awaited.servers; jobs = h.awaited.jobs })))
          (λ others d w a. others_of g others t.phases current (t.named current) a.named (record r { choice = d }) w a.end a.still)
          (λ d w a awaits others. leaves_so g phase t.phases current (names g r) (t.named current) v.more t.named t.phases r v gone x h (fair_without v i fair) x (small_so g t.phases t.named r v x h) d w a awaits
          (at d w a.went.goes_on.place (λ p left told. calm_of no_timer t.phases current (t.named current) a.named d w a.end p left a.still told)) others)

      -- one of others fires: it is nothing to anybody
      nobodys_fires : entry_at i c.timers ≡ None → (Owns g r i → ⊥) → Leads (WholeLeaves g (names g r) x r gone phase) (with_choice r (due g.below g.settings i c gone))
      nobodys_fires none not =
          subst (λ o. Leads (WholeLeaves g (names g r) x r gone phase) (with_choice r (due_at g.below g.settings i c gone o))) (sym none)
          (subst (λ o. Leads (WholeLeaves g (names g r) x r gone phase) (with_choice r o)) (sym (all_pass g (due_timer i) c gone passes))
          (nothing_so g phase r gone x (record {
            phases = t.phases;
            named = t.named;
            agrees = agrees_at g t.phases t.named r v gone x h seen (fair_without v i fair);
            at = is_at g t.phases t.named r v gone x h seen phase t.at;
          })))
        where
          passes : (s : ℕ) → s < length c.servers → IsNothing g s (due_timer i) c gone
          passes s lt = (let f = found_at c.servers s lt in (calls.ignoring.timers t.phases s f.0 i c v x h.servers f.1 (h.quiet s f.0 f.1).0 (λ own. not (IsServers s f.0 f.1 own))).1)

          seen : IsSeen (Owns g r) v (sight gone)
          seen = record { now = refl; dues = λ j own. still_due j fair (λ same. not (subst (λ j. Owns g r j) (sym same) own)); timer = le_refl v.timers.next; ticket = le_refl v.ticket; place = refl }

      -- a server's own fires, before the event is told
      servers_fires : (what : What) (s : ℕ) (a : Server g.U) → phase ≡ Untold what → ((q : ℕ) → q < count → t.phases q ≡ Untold what) → entry_at i c.timers ≡ None → slice_get c.servers s ≡ Some a → g.Owns a.upstream i
          → Leads (WholeLeaves g (names g r) x r gone phase) (with_choice r (due g.below g.settings i c gone))
      servers_fires what s a is untold none at own =
          subst (λ o. Leads (WholeLeaves g (names g r) x r gone phase) (with_choice r (due_at g.below g.settings i c gone o))) (sym none)
          (closes g r gone (λ others. HasHeard g others t.phases s (names g r) gone x) (WholeLeaves g (names g r) x r gone phase) (hears_all g.below g.settings (due_timer i) c gone)
          (λ others o. one_of_all g (HasHeard g others t.phases s (names g r) gone x) (due_timer i) c gone s (slice_get_within c.servers s a at) passes
          (calls.waking others t.phases s a what i due_at_i (t.named s) t.named c v x (still_of g others t.phases s t.named r v x h (before others fair o) (λ q lt ne. subst (λ f. IsOpen f v.place) (sym (untold q lt)) tt)
          (λ p left told. absurd (let z : Untold what ≡ Told p left = sym (untold s inside) ∙ told in cc))) at (untold s inside) own set late)
          (λ d w heard. after others d w heard))
          (hears_all_awaits count g.below g.settings (due_timer i) c gone (record { servers = h.awaited.servers; jobs = h.awaited.jobs }))
          (λ others d w a. others_of g others t.phases s a.left (a.acted).named (record r { choice = d }) w (a.acted).end (a.acted).still)
          (λ d w a awaits others. leaves_so g phase t.phases s (names g r) a.left w.more t.named t.phases r v gone x h (fair_without v i fair) x (small_so g t.phases t.named r v x h) d w a.acted awaits
          (subst (λ p. IsAt g p t.phases d w) (sym is) untold) others))
        where
          inside : s < count
          inside = in_conf g t.phases c.servers v x s a h.servers at

          passes : (q : ℕ) → q < length c.servers → (s ≡ q → ⊥) → IsNothing g q (due_timer i) c gone
          passes q lt ne = (let f = found_at c.servers q lt in (calls.ignoring.timers t.phases q f.0 i c v x h.servers f.1 (h.quiet q f.0 f.1).0 (λ it. ne (h.servers.apart s q i a f.0 at f.1 own it))).1)

          after : (others : Others) (d : Choice Request g.U g.R) (w : View) → HasHeard g others t.phases s (names g r) gone x d w → (q : ℕ) → q < length c.servers → (s ≡ q → ⊥) → IsNothing g q (due_timer i) d w
          after others d w heard q lt ne =
              let st = (heard.acted).still.stands in
              let f = found_at d.servers q (subst (λ n. q < n) (h.servers.count ∙ sym st.servers.count) lt) in
              (calls.ignoring.timers t.phases q f.0 i d w (heard.acted).end st.servers f.1 (st.quiet q f.0 f.1).0 (λ it. not_set (heard.acted) ((g.tie q (in_conf g t.phases d.servers w (heard.acted).end q f.0 st.servers f.1)).set (t.phases q) (f.0).upstream (sight w) ((heard.acted).end.ups q) i (st.servers.tied q f.0 f.1) it))).0
            where
              not_set : HasActed g others t.phases s (names g r) heard.left w.more gone x d w → (late : ℕ) × (due_of i w.timers.set ≡ Some late) → ⊥
              not_set acted (late, is) = elim (acted.went.goes_on.later i late is) [
                | inl was ↦ (let z : None ≡ Some late = sym (dues_without v i i fair ∙ with_here i None (λ j. due_of j v.timers.set)) ∙ was in cc)
                | inr new ↦ not_late i v.timers.next (set_is_drawn v i due_at_i fair set) new.1
              ]

      -- whosever it is
      fires_here : Leads (WholeLeaves g (names g r) x r gone phase) (with_choice r (due g.below g.settings i c gone))
      fires_here = by (entry_at i c.timers) refl
        where
          own : (ticket : ℕ) → entry_at i c.timers ≡ Some ticket → (p : Phase) → phase ≡ p → IsAt g p t.phases c v → Leads (WholeLeaves g (names g r) x r gone phase) (with_choice r (due g.below g.settings i c gone))
          own ticket is (Untold what) same at =
              own_fires (nobody g) ticket is (λ q lt ne. subst (λ f. IsOpen f v.place) (sym (at q lt)) tt) (λ n job j m entry timer due_j le. aside_of_nobody t.phases t.named r v x h n job entry)
              (λ d w le calm. subst (λ p. IsAt g p t.phases d w) (sym same) at)
          own ticket is (Told p left) same (inl o) =
              own_fires o.server ticket is (others_open p left t.phases c v o) o.calm
              (λ d w le calm. subst (λ p. IsAt g p t.phases d w) (sym same) (inl (took_on p left t.phases c d v w o le (calm p left o.told))))
          own ticket is (Told p left) same (inr (none, inl o)) = absurd (not_late v.now due_at_i (o.early i ticket due_at_i is set) late)
          own ticket is (Told p left) same (inr (none, inr o)) = absurd (let z : None ≡ Some ticket = ap (λ (ts : List (ℕ × ℕ)). entry_at i ts) (sym o.timers) ∙ is in cc)
          own ticket is (Passed what) same at = absurd at

          servers : (s : ℕ) (a : Server g.U) → entry_at i c.timers ≡ None → slice_get c.servers s ≡ Some a → g.Owns a.upstream i → (p : Phase) → phase ≡ p → IsAt g p t.phases c v
              → Leads (WholeLeaves g (names g r) x r gone phase) (with_choice r (due g.below g.settings i c gone))
          servers s a none at_s it (Untold what) same at = servers_fires what s a same at none at_s it
          servers s a none at_s it (Told p left) same at =
              absurd (not_late v.now due_at_i (early_told t.phases t.named r v x h s a at_s (told_each p left t.phases c v s at (in_conf g t.phases c.servers v x s a h.servers at_s)) i due_at_i it set) late)
          servers s a none at_s it (Passed what) same at = absurd at

          by : (o : Option ℕ) → entry_at i c.timers ≡ o → Leads (WholeLeaves g (names g r) x r gone phase) (with_choice r (due g.below g.settings i c gone))
          by (Some ticket) is = own ticket is phase refl t.at
          by None none = elim (knows g t.phases t.named r v x h i) [
            | inl it ↦ of it
            | inr not ↦ nobodys_fires none not
          ]
            where
              of : Owns g r i → Leads (WholeLeaves g (names g r) x r gone phase) (with_choice r (due g.below g.settings i c gone))
              of (IsOwn ticket is) = absurd (let z : None ≡ Some ticket = sym none ∙ is in cc)
              of (IsServers s a at_s it) = servers s a none at_s it phase refl t.at

  pub fires : CallsAreMoves g → (phase : Phase) (r : Whole g) (v : View) (x : State g) (i moment : ℕ) → Tied g phase r (sight v) x → IsFair v → due_of i v.timers.set ≡ Some moment → moment ≤ v.now
      → Leads (WholeLeaves g (names g r) x r (record v { timers = cancelled i v.timers }) phase) ((transport g.below).step (due_timer i) r (record v { timers = cancelled i v.timers }))
  fires calls phase r v x i moment t fair set late =
      let here = at_view g phase r v x fair t in
      subst (λ st. Leads (WholeLeaves g (names g r) x r (record v { timers = cancelled i v.timers }) phase) (with_choice r (due g.below st i r.choice (record v { timers = cancelled i v.timers })))) (sym (here.agrees).settings)
      (fires_here calls r v x i moment set late phase here)
