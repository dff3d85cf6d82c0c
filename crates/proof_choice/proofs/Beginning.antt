-- A request is started at the next server, and the timer is set that starts the one behind it.
use Rattle.std.proofs.Common.{◌≡◌, ℕ, ◌+◌, ◌<◌, ◌≤◌, inl, inr, Bool, true, false, List, [], ◌∷◌, ◌++◌, length, map, Option, Some, None, slice_get, refl, sym, ap, subst, ◌∙◌, arith, append-nil}
use Rattle.std.specs.Prelude.{set, Result}
use Rattle.client_request.specs.Board.{Part}
use Rattle.client_request.specs.Numbered.{entry_at}
use Rattle.client_request.specs.Request.{Request}
use Rattle.client_request.specs.View.{View}
use Rattle.client_request.specs.declared.error.Error.{Error}
use Rattle.client_choice.specs.Choice.{Choice, arms, begun, begun_at, begins, parted}
use Rattle.client_choice.specs.Servers.{Server, owner, for_request, starts_at}
use Rattle.client_choice.specs.declared.job.ListedServer.{ListedServer}
use Rattle.client_choice.specs.declared.servers.Reply.{Reply}
use Rattle.right_trace.specs.Messages.{Octets}
use Rattle.proof_right.specs.machine.Client.{Posted, hand, with_up, tag}
use Rattle.proof_right.specs.machine.Part.{Post}
use Rattle.right_trace.specs.Updates.{with_at}
use Rattle.proof_parts.specs.Chains.{part_of}
use Rattle.proof_parts.specs.Lines.{Sorted}
use Rattle.proof_parts.specs.PartTie.{Phase, Leads as IfLeft}
use Rattle.proof_parts.specs.Sights.{sight, due_of}
use Rattle.proof_parts.proofs.Keys.{each_number, with_here, with_there, is_or_was}
use Rattle.proof_parts.proofs.Tables.{at_puts}
use Rattle.proof_choice.specs.Choosing.{Choosing}
use Rattle.proof_choice.specs.Servers.{State, Listed, IsStarted, HasReply, Comes, Came}
use Rattle.proof_choice.specs.Requests.{Beside, Work, Begun, Desk, Waits, IsKept, IsOwed, AreToStart, desk_of, Stands, Went, IsToStart, IsAside}
use Rattle.proof_choice.proofs.Asides.{calm_aside}
use Rattle.proof_choice.proofs.AtServer.{both_are}
use Rattle.client_choice.proofs.At.{set_here}
use Rattle.proof_choice.proofs.Disarming.{again_path}
use Rattle.proof_choice.proofs.Dropping.{found_at, without_none, stands_on, dues_on, left_then, owner_there, owner_here, follows_of, follows_then}
use Rattle.proof_choice.proofs.Leading.{up_here, up_other}
use Rattle.proof_choice.proofs.Noting.{noting, noted_so, front_or_end}
use Rattle.proof_choice.proofs.ServerCalls.{one_starts, in_conf, left_map}
use Rattle.proof_choice.proofs.Starting.{sorted_more, stands_for, IsArmed, arms_do}

not_both : (b : Bool) → b ≡ true → b ≡ false → ⊥
not_both b p q = cc

some_is : {A : Type 0} → (a b : A) → Some a ≡ Some b → a ≡ b
some_is a b e = cc

-- What a server that was started gave at once: nothing, or a result, which stands on the machine's board.
pub data Gave (k s : ℕ) (old new : List Posted) : Option Part → Type 0 where
  Nothing : new ≡ old → Gave k s old new None
  AResult : (result : Result Octets Error) → new ≡ old ++ record { server = s; request = k; result = result } ∷ [] → Gave k s old new (Some (part_of result))

module _ (g : Choosing) (beside : Beside) (phase : ℕ → Phase) (current : ℕ) (t : ℕ) (job : Work g) (e : ListedServer) (es : List ListedServer) (tab : ℕ → Option (Work g)) (named : ℕ → ℕ → Option ℕ) (c : Choice Request g.U g.R) (v : View) (x : State g)
    (calm : job.timer ≡ None) (lined : job.left ≡ e ∷ es) (aside : current ≡ e.server → ⊥) (is_aside : IsAside g current job) (st : Stands g beside phase current (with_at t (Some job) tab) named 0 [] c v x) where
  abbrev entry : Option (Reply g.R) → Begun g
  entry o = record { server = e.server; since = v.now; lower = v.ticket; response = (parted o).0 }

  -- it was started, and no timer is set yet
  pub record IsNoted (o : Option (Reply g.R)) (servers : Listed g) (w : View) : Type 0 where
    pub named' : ℕ → ℕ → Option ℕ
    pub end : State g
    pub went : Went g v x w end
    pub stands : Stands g beside phase current (with_at t (Some (noting g job es (entry o))) tab) named' 0 [] (record c { servers = servers }) w end
    pub leaving : end.leaving ≡ x.leaving
    pub put : w.board ≡ v.board
    pub more : w.more ≡ v.more
    pub same_there : (i : ℕ) → named' current i ≡ named current i
    pub gave : Gave job.number e.server x.board end.board (parted o).1

  abbrev asked_view : View
  asked_view = for_request job.number v

  abbrev before : Desk g
  before = desk_of g (with_at t (Some job) tab) named c v x

  mine : IsKept g before t job
  mine = st.kept.kept t job (with_here t (Some job) tab)

  line : AreToStart (length (g.c).servers) mine.ask.tried (e ∷ es)
  line = subst (λ l. AreToStart (length (g.c).servers) mine.ask.tried l) lined mine.left

  stands_asked : Stands g beside phase current (with_at t (Some job) tab) named 0 [] c asked_view x
  stands_asked = stands_for g beside phase current (with_at t (Some job) tab) named 0 [] c v asked_view x refl refl refl refl refl st

  module _ (a : Server g.U) (at : slice_get c.servers e.server ≡ Some a) where
    within : e.server < length (g.c).servers
    within = in_conf g phase c.servers v x e.server a st.servers at

    -- it was not handed the request yet
    is_free : g.P.holds (x.ups e.server) job.number ≡ false
    is_free = by (g.P.holds (x.ups e.server) job.number) refl
      where
        by : (b : Bool) → g.P.holds (x.ups e.server) job.number ≡ b → b ≡ false
        by false is = refl
        by true is =
            let h = (g.tie e.server within).held (phase e.server) a.upstream (sight v) (x.ups e.server) job.number (st.servers.tied e.server a at) is in
            elim (st.kept.named e.server h.0 job.number within (st.is_named e.server a at aside h.0 ∙ h.1)) [
              | inl m ↦ absurd (let same = st.kept.apart m.ticket t m.job job m.is (with_here t (Some job) tab) m.number in
                  let one : m.job ≡ job = both_are (with_at t (Some job) tab m.ticket) m.job job m.is (subst (λ u. with_at t (Some job) tab u ≡ Some job) (sym same) (with_here t (Some job) tab)) in
                  let owed : IsOwed g job.number job.started e.server h.0 = subst (λ (w : Work g). IsOwed g job.number w.started e.server h.0) one m.owed in
                  not_both (mine.ask.tried e.server) (subst (λ s. mine.ask.tried s ≡ true) owed.server (mine.tried owed.entry owed.is)) line.1)
              | inr o ↦ absurd (o.1).is
            ]

    new_ticket : named e.server v.ticket ≡ None
    new_ticket = by (g.names a.upstream v.ticket) refl
      where
        by : (o : Option ℕ) → g.names a.upstream v.ticket ≡ o → named e.server v.ticket ≡ None
        by None is = st.is_named e.server a at aside v.ticket ∙ is
        by (Some j) is = absurd (not_below v.ticket ((g.tie e.server within).named (phase e.server) a.upstream (sight v) (x.ups e.server) v.ticket j (st.servers.tied e.server a at) is).0)
          where
            not_below : (n : ℕ) → n < n → ⊥
            not_below n lt = omega arith

    module _ (o : Option (Reply g.R)) (servers : Listed g) (w : View) (i : IsStarted g phase e.server job.number t mine.ask a c.servers asked_view x (o, servers) w) where
      abbrev b : Server g.U
      b = i.server

      went_so : Went g v x w i.call.end
      went_so = record {
        outs = i.call.made.outs;
        leads = i.call.leads;
        put = i.call.put;
        goes_on = (let f = follows_of g asked_view w i.call.goes_on in record { fair = f.fair; now = f.now; timer = f.timer; ticket = f.ticket; place = f.place; later = f.later });
        now = i.call.moved.now;
        asked = i.call.moved.asked;
        pending = i.call.moved.pending;
      }

      -- the waiting tickets elsewhere are as they were
      other_waiting : ((j : ℕ) → (v.ticket ≡ j → ⊥) → entry_at j b.waiting ≡ entry_at j a.waiting) → (q j : ℕ) → (e.server ≡ q → v.ticket ≡ j → ⊥) → owner q j (set c.servers e.server b) ≡ owner q j c.servers
      other_waiting same q j ne = each_number (λ q. (e.server ≡ q → v.ticket ≡ j → ⊥) → owner q j (set c.servers e.server b) ≡ owner q j c.servers) e.server
          (λ ne. owner_here g (set c.servers e.server b) e.server j b (set_here c.servers e.server a b at) ∙ (same j (λ p. ne refl p) ∙ sym (owner_here g c.servers e.server j a at)))
          (λ q differs ne. owner_there g c.servers e.server q j b differs) q ne

      dues_so : (j u due : ℕ) → entry_at j c.timers ≡ Some u → due_of j v.timers.set ≡ Some due → due_of j w.timers.set ≡ Some due
      dues_so j u due is m = dues_on g beside phase phase current (with_at t (Some job) tab) named 0 [] c asked_view x stands_asked e.server a b at (with_at v.ticket (Some job.number) (g.names a.upstream)) i.given x (hand job.number e.server mine.ask x) asked_view w (without_none g (g.Owns a.upstream) asked_view) i.call j u due is m

      is_noted : HasReply g job.number v.ticket t a b i.call.made.posts o → IsNoted o (set c.servers e.server b) w
      is_noted (Comes r eq ticket posts waiting names) = subst (λ o. IsNoted o (set c.servers e.server b) w) (sym eq) (record {
        named' = named';
        end = i.call.end;
        went = went_so;
        stands = stands_on g beside phase phase current (with_at t (Some job) tab) named 0 [] c asked_view x stands_asked e.server a b at (with_at v.ticket (Some job.number) (g.names a.upstream)) i.given x (hand job.number e.server mine.ask x) asked_view w (without_none g (g.Owns a.upstream) asked_view) i.call (λ q. refl)
            (with_at t (Some (noting g job es one)) tab) named' 0 [] (λ are. calm_aside g current t job (noting g job es one) tab w calm are)
            (i.posted, subst (λ (ws : List (ℕ × ℕ)). (hi : ℕ) × Sorted 0 hi ws) (sym waiting) (sorted_more v.ticket t a.waiting (st.quiet e.server a at).1))
            (λ ne j. here j ∙ (with_as j ∙ sym (names j))) aside there
            (noted_so g t job e es one mine.ask before after (record {
              jobs = sym (again_path t (Some (noting g job es one)) (Some job) tab);
              is = with_here t (Some job) tab;
              calm = calm;
              left = lined;
              server = refl;
              held = i.call.moved.held;
              asks = mine.is;
              timers = refl;
              differ = record {
                waiting = other_waiting (λ j ne. ap (λ (ws : List (ℕ × ℕ)). entry_at j ws) waiting ∙ (at_puts v.ticket t j a.waiting ∙ with_there v.ticket (Some t) (λ (j : ℕ). entry_at j a.waiting) j ne));
                named = λ q j ne. each_number (λ q. (e.server ≡ q → v.ticket ≡ j → ⊥) → named' q j ≡ named q j) e.server
                    (λ ne. here j ∙ with_there v.ticket (Some job.number) (named e.server) j (λ p. ne refl p)) (λ q differs ne. there q j differs) q ne;
                dues = dues_so;
              };
              new = new_ticket;
              named = λ j k is. elim (is_or_was v.ticket (Some job.number) (named e.server) j k (sym (here j) ∙ is)) [
                | inl p ↦ inr (some_is job.number k p.1, p.0, (r, refl))
                | inr p ↦ inl p.1
              ];
              waits = λ q p. subst (λ q. Waits g after t job.number one q) (some_is r q p) (record {
                within = within;
                fits = i.fits r eq;
                ticket = ticket;
                waiting = owner_here g (set c.servers e.server b) e.server v.ticket b (set_here c.servers e.server a b at)
                    ∙ (ap (λ (ws : List (ℕ × ℕ)). entry_at v.ticket ws) waiting ∙ (at_puts v.ticket t v.ticket a.waiting ∙ with_here v.ticket (Some t) (λ (j : ℕ). entry_at j a.waiting)));
                named = here v.ticket ∙ with_here v.ticket (Some job.number) (named e.server);
              });
            }) st.kept);
        leaving = i.call.moved.leaving;
        put = i.board;
        more = i.more;
        same_there = λ j. there current j (λ same. aside (sym same));
        gave = Nothing (i.call.moved.board ∙ (ap (λ (ps : List Post). x.board ++ map (tag e.server) ps) posts ∙ append-nil x.board));
      })
        where
          one : Begun g
          one = record { server = e.server; since = v.now; lower = v.ticket; response = Some r }

          named' : ℕ → ℕ → Option ℕ
          named' = with_up e.server (with_at v.ticket (Some job.number) (named e.server)) named

          after : Desk g
          after = desk_of g (with_at t (Some (noting g job es one)) tab) named' (record c { servers = set c.servers e.server b }) w i.call.end

          here : (j : ℕ) → named' e.server j ≡ with_at v.ticket (Some job.number) (named e.server) j
          here j = ap (λ (f : ℕ → Option ℕ). f j) (up_here e.server (with_at v.ticket (Some job.number) (named e.server)) named)

          there : (q j : ℕ) → (e.server ≡ q → ⊥) → named' q j ≡ named q j
          there q j ne = ap (λ (f : ℕ → Option ℕ). f j) (up_other e.server q (with_at v.ticket (Some job.number) (named e.server)) named ne)

          with_as : (j : ℕ) → with_at v.ticket (Some job.number) (named e.server) j ≡ with_at v.ticket (Some job.number) (g.names a.upstream) j
          with_as j = each_number (λ j. with_at v.ticket (Some job.number) (named e.server) j ≡ with_at v.ticket (Some job.number) (g.names a.upstream) j) v.ticket
              (with_here v.ticket (Some job.number) (named e.server) ∙ sym (with_here v.ticket (Some job.number) (g.names a.upstream)))
              (λ j ne. with_there v.ticket (Some job.number) (named e.server) j ne ∙ (st.is_named e.server a at aside j ∙ sym (with_there v.ticket (Some job.number) (g.names a.upstream) j ne))) j
      is_noted (Came result eq posts waiting names) = subst (λ o. IsNoted o (set c.servers e.server b) w) (sym eq) (record {
        named' = named;
        end = i.call.end;
        went = went_so;
        stands = stands_on g beside phase phase current (with_at t (Some job) tab) named 0 [] c asked_view x stands_asked e.server a b at (with_at v.ticket (Some job.number) (g.names a.upstream)) i.given x (hand job.number e.server mine.ask x) asked_view w (without_none g (g.Owns a.upstream) asked_view) i.call (λ q. refl)
            (with_at t (Some (noting g job es one)) tab) named 0 [] (λ are. calm_aside g current t job (noting g job es one) tab w calm are)
            (i.posted, subst (λ (ws : List (ℕ × ℕ)). (hi : ℕ) × Sorted 0 hi ws) (sym waiting) (st.quiet e.server a at).1)
            (λ ne j. st.is_named e.server a at ne j ∙ sym (names j)) aside (λ q j ne. refl)
            (noted_so g t job e es one mine.ask before after (record {
              jobs = sym (again_path t (Some (noting g job es one)) (Some job) tab);
              is = with_here t (Some job) tab;
              calm = calm;
              left = lined;
              server = refl;
              held = i.call.moved.held;
              asks = mine.is;
              timers = refl;
              differ = record {
                waiting = other_waiting (λ j ne. ap (λ (ws : List (ℕ × ℕ)). entry_at j ws) waiting);
                named = λ q j ne. refl;
                dues = dues_so;
              };
              new = new_ticket;
              named = λ j k is. inl is;
              waits = λ q p. absurd (cc);
            }) st.kept);
        leaving = i.call.moved.leaving;
        put = i.board;
        more = i.more;
        same_there = λ j. refl;
        gave = AResult result (i.call.moved.board ∙ ap (λ (ps : List Post). x.board ++ map (tag e.server) ps) posts);
      })
        where
          one : Begun g
          one = record { server = e.server; since = v.now; lower = v.ticket; response = None }

          after : Desk g
          after = desk_of g (with_at t (Some (noting g job es one)) tab) named (record c { servers = set c.servers e.server b }) w i.call.end

  -- It is started, and the timer is set.
  pub record HasBegun (y : (Option Part × Work g) × Choice Request g.U g.R) (w : View) : Type 0 where
    pub named' : ℕ → ℕ → Option ℕ
    pub end : State g
    pub went : Went g v x w end
    pub stands : Stands g beside phase current (with_at t (Some y.0.1) tab) named' 0 [] y.1 w end
    pub jobs : y.1.jobs ≡ c.jobs
    pub number : y.0.1.number ≡ job.number
    pub left : y.0.1.left ≡ es
    pub entry : Begun g
    pub server : entry.server ≡ e.server
    pub started : y.0.1.started ≡ job.started ++ entry ∷ []
    pub leaving : end.leaving ≡ x.leaving
    pub put : w.board ≡ v.board
    pub more : w.more ≡ v.more
    pub same_there : (i : ℕ) → named' current i ≡ named current i
    pub gave : Gave job.number e.server x.board end.board y.0.0

  noted_aside : (o : Option (Reply g.R)) → IsAside g current (noting g job es (entry o))
  noted_aside o = record {
    aside = λ m. is_aside.aside (subst (λ l. IsToStart current l) (sym lined) (inr m));
    clear = λ f m r p same. elim (front_or_end f (entry o) job.started m) [ inl old ↦ is_aside.clear f old r p same | inr new ↦ aside (same ∙ ap (λ (f : Begun g). f.server) (sym new)) ];
  }

  pub begins_do : IfLeft HasBegun (begins g.below t e (record job { left = es }) c v)
  begins_do = go (found_at c.servers e.server (subst (λ n. e.server < n) (sym st.servers.count) line.0))
    where
      later : (n k m : ℕ) → m ≡ n → m ≤ n + k
      later n k m is = omega arith

      armed : (o : Option (Reply g.R)) (servers : Listed g) (w : View) → IsNoted o servers w → IfLeft HasBegun (begun g.below t e (record job { left = es }) c v ((o, servers), w))
      armed o servers w n =
          left_map g (IsArmed g beside phase current n.named' t (noting g job es (entry o)) tab (record c { servers = servers }) w n.end) HasBegun (begun_at g.below (parted o).1 c servers) (arms t (v.now + e.estimate) (noting g job es (entry o)) c.timers w)
          (λ y u m. record {
            named' = n.named';
            end = n.end;
            went = record { outs = n.went.outs; leads = n.went.leads; put = m.outs ∙ n.went.put; goes_on = follows_then g v w u n.went.goes_on m.follows; now = n.went.now; asked = n.went.asked; pending = n.went.pending };
            stands = m.stands;
            jobs = refl;
            number = ap (λ (j : Work g). j.number) m.is ∙ m.number;
            left = ap (λ (j : Work g). j.left) m.is ∙ m.left;
            entry = entry o;
            server = refl;
            started = ap (λ (j : Work g). j.started) m.is ∙ m.started;
            leaving = n.leaving;
            put = m.board ∙ n.put;
            more = m.more ∙ n.more;
            same_there = n.same_there;
            gave = n.gave;
          })
          (arms_do g beside phase current n.named' t (v.now + e.estimate) (noting g job es (entry o)) tab (record c { servers = servers }) w n.end calm (noted_aside o) (later v.now e.estimate w.now n.went.goes_on.now) n.stands)

      go : (a : Server g.U) × (slice_get c.servers e.server ≡ Some a) → IfLeft HasBegun (begins g.below t e (record job { left = es }) c v)
      go found = left_then g (IsStarted g phase e.server job.number t mine.ask found.0 c.servers asked_view x) HasBegun (begun g.below t e (record job { left = es }) c v) (starts_at g.below e.server t job.request c.servers asked_view)
          (λ y w i. armed y.0 y.1 w (subst (λ xs. IsNoted y.0 xs w) (sym i.lists) (is_noted found.0 found.1 y.0 y.1 w i i.reply)))
          (one_starts g phase c.servers asked_view x e.server found.0 stands_asked.servers found.1 (st.quiet e.server found.0 found.1).0 job.request job.number t mine.ask (st.is_open e.server (in_conf g phase c.servers v x e.server found.0 st.servers found.1) aside) refl mine.is mine.request line.1 mine.octets (is_free found.0 found.1))
