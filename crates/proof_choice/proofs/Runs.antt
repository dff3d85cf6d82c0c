-- The servers that are left are started in order, up to the first whose result is not put off at once.
use Rattle.std.proofs.Common.{◌≡◌, ℕ, ◌<◌, inl, inr, Bool, true, false, if◌then◌else◌, List, [], ◌∷◌, ◌++◌, length, Option, Some, None, refl, sym, ap, subst, subst₂, ◌∙◌, append-nil}
use Rattle.client_request.specs.Board.{Part}
use Rattle.client_request.specs.Composed.{composed}
use Rattle.client_request.specs.Numbered.{entry_at}
use Rattle.client_request.specs.Request.{Request}
use Rattle.client_request.specs.View.{View}
use Rattle.client_choice.specs.Choice.{Choice, runs, goes_on, begins, ends, put_off, is_deferred, is_better, disarmed, unarmed, stopped, keeps}
use Rattle.client_choice.specs.declared.job.ListedServer.{ListedServer}
use Rattle.right_trace.specs.Parts.{IsIn}
use Rattle.right_trace.specs.Validity.{waits_for_others}
use Rattle.proof_right.specs.machine.Client.{Posted, NoneOf}
use Rattle.right_trace.specs.Updates.{with_at}
use Rattle.proof_parts.specs.Chains.{part_of}
use Rattle.proof_parts.specs.Lines.{Sorted}
use Rattle.proof_parts.specs.PartTie.{Phase, Leads as IfLeft}
use Rattle.proof_parts.specs.WholeTie.{leaving_of}
use Rattle.proof_parts.proofs.Keys.{with_here}
use Rattle.proof_choice.specs.Choosing.{Choosing}
use Rattle.proof_choice.specs.Servers.{State}
use Rattle.proof_choice.specs.Doing.{HasCome, WaitsOn, Goes, HasDone, InHand, RunsAreMoves}
use Rattle.proof_choice.specs.Requests.{Beside, Work, Begun, IsOwed, Stands, Went, IsToStart, IsAside}
use Rattle.proof_choice.proofs.AtServer.{both_are}
use Rattle.proof_choice.proofs.Beginning.{Gave, Nothing, AResult, HasBegun, begins_do}
use Rattle.proof_choice.proofs.Disarming.{goes_stopped, disarms}
use Rattle.proof_choice.proofs.Dropping.{left_then, left_on, went_then, follows_of}
use Rattle.proof_choice.proofs.Ending.{HasEnded, ends_with, outs_of, board_of, more_of}
use Rattle.proof_choice.proofs.Keepsakes.{some_with}
use Rattle.proof_choice.proofs.Noting.{front_or_end}
use Rattle.proof_choice.proofs.Outcomes.{deferred_alike}
use Rattle.proof_choice.proofs.PuttingOff.{put_off_is, IsKeptBack, keeps_it_back}
use Rattle.proof_choice.proofs.Resting.{over_any, stands_as, it_waits, rests_do}

module _ (g : Choosing) (beside : Beside) (phase : ℕ → Phase) (current : ℕ) where
  -- what was done before
  pub done_after : (t k : ℕ) (tab : ℕ → Option (Work g)) (rest : List Posted) (named named1 : ℕ → ℕ → Option ℕ) (v : View) (x : State g) (w : View) (y : State g) (d : Choice Request g.U g.R) (u : View)
      → Went g v x w y → y.leaving ≡ x.leaving → w.board ≡ v.board → w.more ≡ v.more → ((i : ℕ) → named1 current i ≡ named current i) → HasDone g beside phase current t k tab rest named1 w y d u → HasDone g beside phase current t k tab rest named v x d u
  done_after t k tab rest named named1 v x w y d u went leaving board more same_there h = record {
    named' = h.named';
    end = h.end;
    went = went_then g v x w y u h.end went h.went;
    stands = h.stands;
    sorted = h.sorted;
    others = h.others;
    board = h.board;
    more = h.more ∙ more;
    same_there = λ i. h.same_there i ∙ same_there i;
    come = by h.come;
  }
    where
      by : HasCome g beside phase current t k w y d u h.end → HasCome g beside phase current t k v x d u h.end
      by (WaitsOn job is number put left) = WaitsOn job is number (put ∙ board) (left ∙ leaving)
      by (Goes z gone left request put) = Goes z gone (left ∙ ap (λ zs. zs ++ leaving_of g.st z ∷ []) leaving) request (put ∙ ap (λ bs. bs ++ record { ticket = t; part = part_of z.result; is_stale = false } ∷ []) board)

  -- what ended is done
  pub ended_done : (t k : ℕ) (tab : ℕ → Option (Work g)) (part : Part) (rest : List Posted) (named : ℕ → ℕ → Option ℕ) (c : Choice Request g.U g.R) (v : View) (x : State g) (d : Choice Request g.U g.R) (w : View)
      → tab ≡ (λ j. entry_at j c.jobs) → tab t ≡ None → (hi : ℕ) × Sorted 0 hi c.jobs → HasEnded g beside phase current t k tab part rest named c v x d w → HasDone g beside phase current t k tab rest named v x d w
  ended_done t k tab part rest named c v x d w is_table new sorted h = record {
    named' = h.named';
    end = h.end;
    went = h.went;
    stands = stands_as g beside phase current tab (λ j. entry_at j d.jobs) h.named' d d.jobs w h.end (sym table) (over_any g beside phase current tab h.named' k 0 d w h.end h.stands);
    sorted = subst (λ (js : List (ℕ × Work g)). (hi : ℕ) × Sorted 0 hi js) (sym h.jobs) sorted;
    others = λ j ne. ap (λ (f : ℕ → Option (Work g)). f j) (sym table);
    board = h.board;
    more = h.more;
    same_there = h.same_there;
    come = Goes h.gave (ap (λ (f : ℕ → Option (Work g)). f t) (sym table) ∙ new) h.leaves h.request (h.put ∙ ap (λ p. v.board ++ record { ticket = t; part = p; is_stale = false } ∷ []) h.result);
  }
    where
      table : tab ≡ (λ j. entry_at j d.jobs)
      table = is_table ∙ ap (λ (js : List (ℕ × Work g)). λ (j : ℕ). entry_at j js) (sym h.jobs)

  -- no result of it is to be taken
  pub none_of : (t : ℕ) (job : Work g) (tab : ℕ → Option (Work g)) (named : ℕ → ℕ → Option ℕ) (c : Choice Request g.U g.R) (v : View) (x : State g) → Stands g beside phase current (with_at t (Some job) tab) named 0 [] c v x
      → ((b : Begun g) → IsIn b job.started → (r : g.R) → b.response ≡ Some r → current ≡ b.server → ⊥) → ((y : Posted) → IsIn y x.board → (current < length (g.c).servers) × ((i : ℕ) × (named current i ≡ Some y.request))) → NoneOf g.c g.st composed g.P job.number x.board
  none_of t job tab named c v x st clear pending y m same =
      let p = pending y m in
      elim (st.kept.named current p.1.0 job.number p.0 (p.1.1 ∙ ap (λ k. Some k) same)) [
        | inl n ↦ (let eq = st.kept.apart n.ticket t n.job job n.is (with_here t (Some job) tab) n.number in
            let one : n.job ≡ job = both_are (with_at t (Some job) tab n.ticket) n.job job n.is (subst (λ u. with_at t (Some job) tab u ≡ Some job) (sym eq) (with_here t (Some job) tab)) in
            let o : IsOwed g job.number job.started current p.1.0 = subst (λ (w : Work g). IsOwed g job.number w.started current p.1.0) one n.owed in
            clear o.entry o.is o.response o.to_come (sym o.server))
        | inr o ↦ (o.1).is
      ]

  pub runs_do : (es : List ListedServer) (t : ℕ) (job : Work g) (tab : ℕ → Option (Work g)) (named : ℕ → ℕ → Option ℕ) (c : Choice Request g.U g.R) (v : View) (x : State g) → InHand g beside phase current t es job tab named c v x → IfLeft (HasDone g beside phase current t job.number tab x.board named v x) (runs g.below g.settings t es job c v)
  runs_do [] t job tab named c v x h = (let p = h.has refl in rests_do g beside phase current t job tab named c v x h.is_table h.new h.sorted h.stands p.0 p.1 (none_of t job tab named c v x h.stands h.clear h.pending))
  runs_do (e ∷ es) t job tab named c v x h =
      left_then g (HasBegun g beside phase current t job e es tab named c v x h.calm h.left not_cur is_aside h.stands) (HasDone g beside phase current t job.number tab x.board named v x)
      (λ y. goes_on g.below g.settings t e.server (runs g.below g.settings t es) y.0.0.1 y.0.1 y.1 y.0.0.0) (begins g.below t e (record job { left = es }) c v)
      (λ y w n. by y.0.0 y.0.1 y.1 w n (runs_do es t) n.gave) (begins_do g beside phase current t job e es tab named c v x h.calm h.left not_cur is_aside h.stands)
    where
      is_aside : IsAside g current job
      is_aside = record { aside = λ m. h.aside (subst (λ l. IsToStart current l) h.left m); clear = h.clear }

      not_cur : current ≡ e.server → ⊥
      not_cur same = h.aside (inl (sym same))

      by : (o : Option Part) (job' : Work g) (c' : Choice Request g.U g.R) (w : View) (n : HasBegun g beside phase current t job e es tab named c v x h.calm h.left not_cur is_aside h.stands ((o, job'), c') w)
          → ((job : Work g) (tab : ℕ → Option (Work g)) (named : ℕ → ℕ → Option ℕ) (c : Choice Request g.U g.R) (v : View) (x : State g) → InHand g beside phase current t es job tab named c v x → IfLeft (HasDone g beside phase current t job.number tab x.board named v x) (runs g.below g.settings t es job c v))
          → Gave job.number e.server x.board n.end.board o → IfLeft (HasDone g beside phase current t job.number tab x.board named v x) (goes_on g.below g.settings t e.server (runs g.below g.settings t es) job' c' w o)
      by o job' c' w n ih gave = on o gave
        where
          is_table' : tab ≡ (λ j. entry_at j c'.jobs)
          is_table' = h.is_table ∙ ap (λ (js : List (ℕ × Work g)). λ (j : ℕ). entry_at j js) (sym n.jobs)

          sorted' : (hi : ℕ) × Sorted 0 hi c'.jobs
          sorted' = subst (λ (js : List (ℕ × Work g)). (hi : ℕ) × Sorted 0 hi js) (sym n.jobs) h.sorted

          -- of its servers none is the one whose results are taken
          clear' : (b : Begun g) → IsIn b job'.started → (r : g.R) → b.response ≡ Some r → current ≡ b.server → ⊥
          clear' b m r p same = elim (front_or_end b n.entry job.started (subst (λ bs. IsIn b bs) n.started m)) [
            | inl old ↦ h.clear b old r p same
            | inr new ↦ not_cur (same ∙ (ap (λ (b : Begun g). b.server) (sym new) ∙ n.server))
          ]

          after : (rest : List Posted) (named1 : ℕ → ℕ → Option ℕ) (u : View) (y : State g) (k : ℕ) (d : Choice Request g.U g.R) (z : View) → Went g v x u y → y.leaving ≡ x.leaving → u.board ≡ v.board → u.more ≡ v.more → ((i : ℕ) → named1 current i ≡ named current i) → k ≡ job.number → rest ≡ x.board
              → HasDone g beside phase current t k tab rest named1 u y d z → HasDone g beside phase current t job.number tab x.board named v x d z
          after rest named1 u y k d z went leaving board more same_there number same done = done_after t job.number tab x.board named named1 v x u y d z went leaving board more same_there
              (subst₂ (λ k rest. HasDone g beside phase current t k tab rest named1 u y d z) number same done)

          on : (o : Option Part) → Gave job.number e.server x.board n.end.board o → IfLeft (HasDone g beside phase current t job.number tab x.board named v x) (goes_on g.below g.settings t e.server (runs g.below g.settings t es) job' c' w o)
          on _ (Nothing same) = after n.end.board n.named' w n.end job'.number (keeps t job' c') w n.went n.leaving n.put n.more n.same_there n.number same (it_waits g beside phase current t job' tab n.named' c' w n.end is_table' h.new sorted' n.stands)
          on _ (AResult result same) = either (is_deferred g.settings (part_of result)) (deferred_alike g.settings g.st g.same result)
            where
              q : Posted
              q = record { server = e.server; request = job.number; result = result }

              either : (b : Bool) → b ≡ waits_for_others g.st result → IfLeft (HasDone g beside phase current t job.number tab x.board named v x)
                  (if b then runs g.below g.settings t es (put_off (part_of result) (disarmed job')) (unarmed job'.timer c') (stopped job'.timer w) else ends g.below t e.server (part_of result) job' c' w)
              either false final = left_on g (HasEnded g beside phase current t job'.number tab (part_of result) (x.board ++ []) n.named' c' w n.end) (HasDone g beside phase current t job.number tab x.board named v x) (ends g.below t e.server (part_of result) job' c' w)
                  (λ d u m. after (x.board ++ []) n.named' w n.end job'.number d u n.went n.leaving n.put n.more n.same_there n.number (append-nil x.board) (ended_done t job'.number tab (part_of result) (x.board ++ []) n.named' c' w n.end d u is_table' h.new sorted' m))
                  (ends_with g beside phase current t e.server job' tab n.named' c' w n.end x.board [] q h.new n.stands clear' same (sym n.number) (sym final))
              either true waits = left_on g (HasDone g beside phase current t job2.number tab kept.end.board n.named' calm_view kept.end) (HasDone g beside phase current t job.number tab x.board named v x) (runs g.below g.settings t es job2 (unarmed job'.timer c') calm_view)
                  (λ d u m. after kept.end.board n.named' calm_view kept.end job2.number d u went (kept.leaving ∙ n.leaving) (board_of g beside phase current job'.timer w ∙ n.put) (more_of g beside phase current job'.timer w ∙ n.more) n.same_there (ap (λ (j : Work g). j.number) shape ∙ n.number) (kept.board ∙ append-nil x.board) m)
                  (ih job2 tab n.named' (unarmed job'.timer c') calm_view kept.end in_hand)
                where
                  calm_view : View
                  calm_view = stopped job'.timer w

                  job2 : Work g
                  job2 = put_off (part_of result) (disarmed job')

                  kept : IsKeptBack g beside phase current t (disarmed job') tab n.named' (unarmed job'.timer c') calm_view n.end x.board [] q same (sym n.number) (sym waits) (disarms g beside phase current n.named' 0 t job' tab c' w n.end n.stands)
                  kept = keeps_it_back g beside phase current t (disarmed job') tab n.named' (unarmed job'.timer c') calm_view n.end x.board [] q same (sym n.number) (sym waits) (disarms g beside phase current n.named' 0 t job' tab c' w n.end n.stands)

                  shape : job2 ≡ record job' { timer = None; deferred = (if is_better job'.deferred (part_of result) then Some (part_of result) else job'.deferred) }
                  shape = put_off_is (part_of result) (disarmed job')

                  went : Went g v x calm_view kept.end
                  went = went_then g v x w n.end calm_view kept.end n.went (record { outs = []; leads = kept.leads; put = outs_of g beside phase current job'.timer w ∙ sym (append-nil w.outs); goes_on = follows_of g w calm_view (goes_stopped job'.timer w n.stands.servers.fair); now = kept.now; asked = kept.asked; pending = kept.pending })

                  some_kept : (part : Part) × (job2.deferred ≡ Some part)
                  some_kept = (let p = some_with job'.deferred (part_of result) in (p.0, ap (λ (j : Work g). j.deferred) shape ∙ p.1))

                  in_hand : InHand g beside phase current t es job2 tab n.named' (unarmed job'.timer c') calm_view kept.end
                  in_hand = record {
                    left = ap (λ (j : Work g). j.left) shape ∙ n.left;
                    calm = ap (λ (j : Work g). j.timer) shape;
                    has = λ none. some_kept;
                    aside = λ m. h.aside (inr m);
                    clear = λ b m r p. clear' b (subst (λ bs. IsIn b bs) (ap (λ (j : Work g). j.started) shape) m) r p;
                    pending = λ y m. (let p = h.pending y (subst (λ ps. IsIn y ps) (kept.board ∙ append-nil x.board) m) in (p.0, (p.1.0, n.same_there p.1.0 ∙ p.1.1)));
                    is_table = is_table';
                    new = h.new;
                    sorted = sorted';
                    stands = kept.stands;
                  }

pub runs_are_moves : (g : Choosing) → RunsAreMoves g
runs_are_moves g beside phase current es t job tab named c v x h = runs_do g beside phase current es t job tab named c v x h
