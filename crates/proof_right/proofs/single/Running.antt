-- Each run of a client of one server by datagrams is a run of the client of parts.
use Rattle.std.proofs.Common.{◌≡◌, ◌≢◌, ℕ, ◌+◌, ◌<◌, Bool, true, false, inl, inr, Option, Some, None, List, [], ◌∷◌, ◌++◌, length, map, refl, arith, sym, ap, subst, ◌∙◌}
use Rattle.std.specs.Prelude.{◌||◌, max, nat_lt, is_some, Result, option_map}
use Rattle.std.proofs.lemmas.Bool.{cases_eq}
use Rattle.client_request.specs.Request.{Request}
use Rattle.client_request.specs.declared.error.Error.{Error}
use Rattle.client_request.specs.declared.event.Event.{Event}
use Rattle.client_request.specs.declared.event.What.{What}
use Rattle.client_request.specs.declared.event.What.TheVariants.{Ask, Opened, OpenFailed, SendFailed, ShortSend, Datagram, RecvFailed, Wrote, WriteFailed, Bytes, ReadFailed, Ended, Tick}
use Rattle.client_request.specs.declared.event.Out.{Out}
use Rattle.client_request.specs.declared.event.Row.{Row}
use Rattle.right_trace.specs.Trace.{Conf, Use, ByDatagrams}
use Rattle.right_trace.specs.Time.{read_timeout, max_places}
use Rattle.right_trace.specs.Messages.{Octets, Composes}
use Rattle.right_trace.specs.Requests.{is_ask}
use Rattle.right_trace.specs.Settings.{Settings, defers_nothing}
use Rattle.right_trace.specs.Orderly.{use_at}
use Rattle.right_trace.specs.Timely.{IsAskedInOctets, AllAskedInOctets}
use Rattle.proof_right.specs.Theorem.{IsUncut, NoneIsTruncated, RunsOfOneServerAreRuns, EveryRunOfOneServerIsRight}
use Rattle.proof_right.specs.machine.Streams.{Multi, unheard, begin_row}
use Rattle.proof_right.specs.machine.Dgrams.{Dgrams, Tryer, IsIgnored}
use Rattle.proof_right.specs.machine.Served.{Served, served, unserved, holds, RestsNow}
use Rattle.proof_right.specs.machine.Client.{Waiting, Upper, IsDone, IsStep, IsRun, Ends, Goes_on, row_begins, begun}
use Rattle.proof_right.specs.machine.Dgrams as dgrams
use Rattle.proof_right.specs.machine.Single as single
use Rattle.proof_right.specs.machine.Single.{Stage, Queued, Loose, Trying, Sent, Held, State, Done, nothing, content, Quiet, Fires, Rests, Fires_one, IsDue}
use Rattle.proof_right.proofs.server.Concrete.{every_run}
use Rattle.proof_right.proofs.single.Standing.{Standing}
use Rattle.proof_right.proofs.single.Alike.{stage_in, tryer_of, waiting_of, Still, Told, Alike, settled_all, none_cut, leads_on, all_moves, Does}
use Rattle.proof_right.proofs.single.Acting.{fires_stand, fires_do}
use Rattle.proof_right.proofs.single.Meeting.{foreign, Meets, Does_so, Passes, meets_all}

-- the clock goes on, and never back
abbrev clock : ℕ → State → State
clock moment s = record s { now = max moment s.now }

still_begins : (m : Multi) → Still m → Still (begin_row m)
still_begins m s = record { asks = s.asks; conns = λ p. ap unheard (s.conns p); opening = s.opening }

-- a row begins
begins : (t : Told) (e : Event) (x : Upper Served) (s : State) (c : Conf) (st : Settings) (compose : Request → Result Octets Error) → Alike t [] x s
    → Alike (record { upper = e.what; first = e.what; taken = false; others = e.what }) [] (row_begins c st compose (served c) e x) (clock (e.moment).0 s)
begins t e x s c st compose al = record {
  now = ap (max (e.moment).0) al.now;
  asked = al.asked;
  place = al.place;
  held = al.held;
  first = record { clock = ap (max (e.moment).0) al.first.clock; held = al.first.held; at = al.first.at; used = al.first.used; still = still_begins (x.ups 0).server.by_stream al.first.still; frames = refl };
  told = record { pending = refl; taken = refl };
  others = λ i ne. (let u = al.others i ne in record { pending = refl; held = u.held; at = u.at; still = still_begins (x.ups i).server.by_stream u.still; frames = refl });
  pending = refl;
  board = al.board;
  leaving = al.leaving;
}

stands_at : (c : Conf) → (n moment : ℕ) (s : State) → Standing c n s → Standing c n (clock moment s)
stands_at c n moment s v = record { slots = v.slots; few = v.few; lined = v.lined; queued = v.queued; distinct = v.distinct; full = v.full; unasked = v.unasked; octets = v.octets; some = v.some; settled = v.settled }

-- where no timer is due, none fires
none_fires : (c : Conf) → (s : State) (d : Done) → Quiet c s → Fires c s d → d ≡ nothing s
none_fires c _ _ quiet (Rests s q) = refl
none_fires c _ _ quiet (Fires_one s z d due more) = absurd (go z.place refl)
  where
    go : (o : Option ℕ) → z.place ≡ o → ⊥
    go None e = (let late = due.deadline e in let early = (quiet z.request z.held due.held).deadline in omega arith)
    go (Some p) e = (let r = due.reading p e in let early = (quiet z.request z.held due.held).reading p r.0 r.1 r.2 in let late = r.3 in omega arith)

module _ (c : Conf) (st : Settings) (compose : Request → Result Octets Error) where
  -- When no timer is due, the row may end.
  module _ (t : Told) (y : Upper Served) (s : State) (al : Alike t [] y s) (inv : Standing c (length c.servers) s) (quiet : Quiet c s) (answered : is_ask t.upper ≡ false) (ignored : IsIgnored c t.first (y.ups 0).server.by_dgram) where
    abbrev d : Dgrams
    d = (y.ups 0).server.by_dgram

    -- who is held is so by the one server
    record IsHeldAs (k : ℕ) (a : Tryer) : Type 0 where
      held : Held
      is : s.held k ≡ Some held
      same : tryer_of held ≡ a

    held_as : (k : ℕ) (a : Tryer) → d.held k ≡ Some a → IsHeldAs k a
    held_as k a e = go (s.held k) refl
      where
        go : (o : Option Held) → s.held k ≡ o → IsHeldAs k a
        go None f = (let z = sym (al.first.held k ∙ ap (option_map tryer_of) f) ∙ e in absurd (cc))
        go (Some b) f = (let z : Some (tryer_of b) ≡ Some a = sym (al.first.held k ∙ ap (option_map tryer_of) f) ∙ e in record { held = b; is = f; same = cc })

    record Waits (k : ℕ) (a : Waiting) : Type 0 where
      held : Held
      is : s.held k ≡ Some held
      same : waiting_of held ≡ a

    waits : (k : ℕ) (a : Waiting) → y.held k ≡ Some a → Waits k a
    waits k a e = go (s.held k) refl
      where
        go : (o : Option Held) → s.held k ≡ o → Waits k a
        go None f = (let z = sym (al.held k ∙ ap (option_map waiting_of) f) ∙ e in absurd (cc))
        go (Some b) f = (let z : Some (waiting_of b) ≡ Some a = sym (al.held k ∙ ap (option_map waiting_of) f) ∙ e in record { held = b; is = f; same = cc })

    lined : (k : ℕ) (b : Held) → s.held k ≡ Some b → (stage : Stage) → b.stage ≡ stage → stage_in stage ≡ dgrams.Queued → d.used ≡ max_places c
    lined k b e Queued f g = al.first.used ∙ inv.full k (inv.lined k b e f)
    lined k b e Loose f g = absurd (inv.settled k b e f)
    lined k b e (Trying p) f g = absurd (cc)
    lined k b e (Sent p id m) f g = absurd (cc)

    early : (k : ℕ) (b : Held) (p id m : ℕ) → s.held k ≡ Some b → (stage : Stage) → b.stage ≡ stage → stage_in stage ≡ dgrams.Sent p id m → s.now < m + read_timeout c
    early k b p id m e Queued f g = absurd (cc)
    early k b p id m e Loose f g = absurd (cc)
    early k b p id m e (Trying q) f g = absurd (cc)
    early k b p id m e (Sent q i u) f g = (let is : u ≡ m = cc in subst (λ m. s.now < m + read_timeout c) is ((quiet k b e).reading q i u f))

    first_rests : RestsNow c (y.ups 0)
    first_rests =
        let still = al.first.still in
        let settled = settled_all s.held d al.first.held in record {
          rests = record {
            waiting = λ k a e f. (let h = held_as k a e in lined k h.held h.is h.held.stage refl (ap (λ (a : Tryer). a.stage) h.same ∙ f));
            reading = λ k a p id m e f. (let h = held_as k a e in subst (λ n. n < m + read_timeout c) (sym al.first.clock) (early k h.held p id m h.is h.held.stage refl (ap (λ (a : Tryer). a.stage) h.same ∙ f)));
            ending = λ k a x e. settled k a e x;
            cut = none_cut s.held d al.first.held;
            free = λ k a e. (let z = sym (still.asks k) ∙ e in absurd (cc));
            broken = λ k a e. (let z = sym (still.asks k) ∙ e in absurd (cc));
            lined = λ k a p x e f g. (let z = sym (still.asks k) ∙ e in absurd (cc));
            backing = λ k a u e f. (let z = sym (still.asks k) ∙ e in absurd (cc));
            silent = λ k a e. (let z = sym (still.asks k) ∙ e in absurd (cc));
            quiet = λ p x u e f. (let z = sym (still.conns p) ∙ e in absurd (cc));
            idle = λ p x u e f. (let z = sym (still.conns p) ∙ e in absurd (cc));
          };
          frames = al.first.frames;
          ignored = subst (λ w. IsIgnored c w d) (sym al.told.pending) ignored;
          foreign = foreign (y.ups 0).pending (y.ups 0).server.by_stream still;
        }

    none_ignored : (w : What) (g : Dgrams) → ((k : ℕ) → g.held k ≡ None) → IsIgnored c w g
    none_ignored (Ask r) g none = tt
    none_ignored (Opened p) g none = λ z. (let e = sym (none z.0) ∙ z.3 in cc)
    none_ignored (OpenFailed p f) g none = λ z. (let e = sym (none z.0) ∙ z.3 in cc)
    none_ignored (SendFailed p f) g none = λ z. (let e = sym (none z.0) ∙ z.5 in cc)
    none_ignored (ShortSend p) g none = λ z. (let e = sym (none z.0) ∙ z.5 in cc)
    none_ignored (RecvFailed p f) g none = λ z. (let e = sym (none z.0) ∙ z.5 in cc)
    none_ignored (Datagram p o) g none = λ k a id m at held stage long. (let e = sym (none k) ∙ held in absurd (cc))
    none_ignored (Wrote p n) g none = tt
    none_ignored (WriteFailed p f) g none = tt
    none_ignored (Bytes p o) g none = tt
    none_ignored (ReadFailed p f) g none = tt
    none_ignored (Ended p) g none = tt
    none_ignored Tick g none = tt

    other_rests : (i : ℕ) → 0 ≢ i → RestsNow c (y.ups i)
    other_rests i ne =
        let u = al.others i ne in
        let still = u.still in record {
          rests = record {
            waiting = λ k a e f. (let z = sym (u.held k) ∙ e in absurd (cc));
            reading = λ k a p id m e f. (let z = sym (u.held k) ∙ e in absurd (cc));
            ending = λ k a x e. (let z = sym (u.held k) ∙ e in absurd (cc));
            cut = λ k a e. (let z = sym (u.held k) ∙ e in absurd (cc));
            free = λ k a e. (let z = sym (still.asks k) ∙ e in absurd (cc));
            broken = λ k a e. (let z = sym (still.asks k) ∙ e in absurd (cc));
            lined = λ k a p x e f g. (let z = sym (still.asks k) ∙ e in absurd (cc));
            backing = λ k a u e f. (let z = sym (still.asks k) ∙ e in absurd (cc));
            silent = λ k a e. (let z = sym (still.asks k) ∙ e in absurd (cc));
            quiet = λ p x u e f. (let z = sym (still.conns p) ∙ e in absurd (cc));
            idle = λ p x u e f. (let z = sym (still.conns p) ∙ e in absurd (cc));
          };
          frames = u.frames;
          ignored = none_ignored (y.ups i).pending (y.ups i).server.by_dgram u.held;
          foreign = foreign (y.ups i).pending (y.ups i).server.by_stream still;
        }

    holds_so : (k : ℕ) → holds (y.ups 0) k ≡ is_some (s.held k)
    holds_so k = ap (λ o. is_some (d.held k) || is_some o) (al.first.still.asks k) ∙ (ap (λ o. is_some o || false) (al.first.held k) ∙ go (s.held k))
      where
        go : (o : Option Held) → (is_some (option_map tryer_of o) || false) ≡ is_some o
        go None = refl
        go (Some a) = refl

    none_held : (i k : ℕ) → 0 ≢ i → holds (y.ups i) k ≡ false
    none_held i k ne = (let u = al.others i ne in ap (λ o. is_some o || is_some ((y.ups i).server.by_stream.asks k)) (u.held k) ∙ ap is_some (u.still.asks k))

    is_tried : (k : ℕ) → is_some (s.held k) ≡ true → is_some (y.held k) ≡ true
    is_tried k e = ap is_some (al.held k) ∙ go (s.held k) e
      where
        go : (o : Option Held) → is_some o ≡ true → is_some (option_map waiting_of o) ≡ true
        go None e = absurd (cc)
        go (Some a) e = refl

    pub is_done : IsDone c st compose (served c) y
    is_done = record {
      taken = ap is_ask al.pending ∙ answered;
      board = al.board;
      leaving = al.leaving;
      rests = λ i le. elim (cases_eq 0 i) [ inl e ↦ subst (λ i. RestsNow c (y.ups i)) e first_rests | inr ne ↦ other_rests i ne ];
      tried_alone = λ i k le e. elim (cases_eq 0 i) [
        | inl is ↦ is_tried k (sym (holds_so k) ∙ subst (λ i. holds (y.ups i) k ≡ true) (sym is) e)
        | inr ne ↦ (let z : true ≡ false = sym e ∙ none_held i k ne in absurd (cc))
      ];
      goes_on = λ k a e. (let w = waits k a e in (0, inv.some k w.held w.is, holds_so k ∙ ap is_some w.is));
      early = λ k a e. (let w = waits k a e in subst (λ n. n < a.moment + c.timeout) (sym al.now) (subst (λ (a : Waiting). s.now < a.moment + c.timeout) w.same (quiet k w.held w.is).deadline));
    }

  -- One row after another
  record Goes_so (x : Upper Served) (row : Row) (s' : State) : Type 0 where
    next : Upper Served
    step : IsStep c st compose (served c) x row next
    told : Told
    alike : Alike told [] next s'
    stands : Standing c (length c.servers) s'

  module _ (composes : Composes c compose) (defers : defers_nothing st ≡ true) (uses : (u : Use) → use_at 0 c.servers ≡ Some u → u ≡ ByDatagrams) where
    abbrev has : Bool
    has = nat_lt 0 (length c.servers)

    goes_so : (t : Told) (x : Upper Served) (s : State) (row : Row) (s' : State) → Alike t [] x s → Standing c (length c.servers) s → IsAskedInOctets row.event.what → IsUncut row.event.what → single.IsStep c compose has s row s' → Goes_so x row s'
    goes_so t x s row s' al inv octets whole step = by_event (meets_all c st compose has composes defers uses refl w step.id f.end step.first.state f.alike g.0 g.1 step.small octets whole)
      where
        w : What
        w = row.event.what

        t0 : Told
        t0 = record { upper = w; first = w; taken = false; others = w }

        x0 : Upper Served
        x0 = row_begins c st compose (served c) row.event x

        s0 : State
        s0 = clock (row.event.moment).0 s

        inv0 : Standing c (length c.servers) s0
        inv0 = stands_at c (length c.servers) (row.event.moment).0 s inv

        f : Does c st compose t0 [] x0 step.first.state step.first.outs
        f = fires_do c st compose defers t0 (length c.servers) (λ le. le) s0 step.first x0 step.fires (begins t row.event x s c st compose al) inv0

        g : Standing c (length c.servers) step.first.state × Quiet c step.first.state
        g = fires_stand c (length c.servers) s0 step.first step.fires inv0

        e : Done
        e = content c compose has w step.id step.first.state

        by_event : Meets c st compose w f.end step.first.state e → Goes_so x row s'
        by_event (Does_so m) = record {
          next = l.end;
          step = record {
            made = record { state = l.end; outs = (step.first.outs ++ e.outs) ++ step.last.outs };
            moves = all_moves c st compose x0 ((step.first.outs ++ e.outs) ++ step.last.outs) l.end
                (leads_on c st compose x0 (step.first.outs ++ e.outs) m.does.end step.last.outs l.end (leads_on c st compose x0 step.first.outs f.end e.outs m.does.end f.leads m.does.leads) l.leads)
                (is_done m.told l.end step.last.state l.alike h.0 h.1 m.answered (m.ignores (l.end.ups 0).server.by_dgram));
            outs = step.outs;
            leaves = refl;
          };
          told = m.told;
          alike = subst (Alike m.told [] l.end) (sym step.leaves) l.alike;
          stands = subst (Standing c (length c.servers)) (sym step.leaves) h.0;
        }
          where
            l : Does c st compose m.told [] m.does.end step.last.state step.last.outs
            l = fires_do c st compose defers m.told (length c.servers) (λ le. le) e.state step.last m.does.end step.fires_again m.does.alike m.stands

            h : Standing c (length c.servers) step.last.state × Quiet c step.last.state
            h = fires_stand c (length c.servers) e.state step.last step.fires_again m.stands
        by_event (Passes is not_asked ignored) = record {
          next = f.end;
          step = record {
            made = record { state = f.end; outs = step.first.outs };
            moves = all_moves c st compose x0 step.first.outs f.end f.leads (is_done t0 f.end step.first.state f.alike g.0 g.1 not_asked ignored);
            outs = step.outs ∙ (ap (λ (e : Done). (step.first.outs ++ e.outs) ++ step.last.outs) is ∙ (ap (λ (d : Done). (step.first.outs ++ []) ++ d.outs) last ∙ (nil_end (step.first.outs ++ []) ∙ nil_end step.first.outs)));
            leaves = refl;
          };
          told = t0;
          alike = subst (Alike t0 [] f.end) same f.alike;
          stands = subst (Standing c (length c.servers)) same g.0;
        }
          where
            last : step.last ≡ nothing step.first.state
            last = none_fires c step.first.state step.last g.1 (subst (λ (e : Done). Fires c e.state step.last) is step.fires_again)

            same : step.first.state ≡ s'
            same = sym (step.leaves ∙ ap (λ (d : Done). d.state) last)

            nil_end : (o : List Out) → o ++ [] ≡ o
            nil_end [] = refl
            nil_end (y ∷ o) = ap (λ l. y ∷ l) (nil_end o)

    runs_so : (t : Told) (x : Upper Served) (s : State) (rows : List Row) → Alike t [] x s → Standing c (length c.servers) s → AllAskedInOctets (map (λ row. row.event) rows) → NoneIsTruncated (map (λ row. row.event) rows) → single.IsRun c compose has s rows → IsRun c st compose (served c) x rows
    runs_so t x _ _ al inv octets whole (single.Ends s) = Ends x
    runs_so t x _ _ al inv octets whole (single.Goes_on s row s' rows step more) =
        let g = goes_so t x s row s' al inv octets.0 whole.0 step in
        Goes_on x row g.next rows g.step (runs_so g.told g.next s' rows g.alike g.stands octets.1 whole.1 more)

fresh_stands : (c : Conf) → (n : ℕ) → Standing c n single.fresh
fresh_stands c n = record { slots = λ p k e. absurd (cc); few = omega arith; lined = λ k a e st. absurd (cc); queued = λ k i. absurd i; distinct = tt; full = λ k i. absurd i; unasked = λ k le. refl; octets = λ k a e. absurd (cc); some = λ k a e. absurd (cc); settled = λ k a e. absurd (cc) }

abbrev quiet_told : Told
quiet_told = record { upper = Tick; first = Tick; taken = true; others = Tick }

pub one_server_runs : RunsOfOneServerAreRuns
one_server_runs c st compose rows composes defers uses octets whole run = runs_so c st compose composes defers uses quiet_told (begun c st compose (served c)) single.fresh rows fresh_alike (fresh_stands c (length c.servers)) octets whole run
  where
    still : Still (unserved.server.by_stream)
    still = record { asks = λ k. refl; conns = λ p. refl; opening = refl }

    fresh_alike : Alike quiet_told [] (begun c st compose (served c)) single.fresh
    fresh_alike = record {
      now = refl;
      asked = refl;
      place = refl;
      held = λ k. refl;
      first = record { clock = refl; held = λ k. refl; at = λ p. refl; used = refl; still = still; frames = refl };
      told = record { pending = refl; taken = refl };
      others = λ i ne. record { pending = refl; held = λ k. refl; at = λ p. refl; still = still; frames = refl };
      pending = refl;
      board = refl;
      leaving = refl;
    }

pub every_run_of_one : EveryRunOfOneServerIsRight
every_run_of_one c st compose rows composes defers uses octets whole run = every_run c st compose rows composes octets (one_server_runs c st compose rows composes defers uses octets whole run)
