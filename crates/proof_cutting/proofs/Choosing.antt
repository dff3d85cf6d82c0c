-- What a choice does with its requests, beside a choice whose servers have longer octets.
use Rattle.std.proofs.Common.{◌≡◌, ℕ, ◌+◌, ◌-◌, ◌≤◌, le_refl, arith, Bool, true, false, ◌==◌, if◌then◌else◌, List, [], ◌∷◌, length, Option, Some, None, refl, ap, ◌∙◌}
use Rattle.std.specs.Prelude.{option_map}
use Rattle.client_request.specs.Board.{Part}
use Rattle.client_request.specs.Numbered.{puts, frees, entry_at}
use Rattle.client_request.specs.Timers.{can_draw, with_timer}
use Rattle.client_request.specs.View.{View, Transport, answers, sets_timer}
use Rattle.client_request.specs.declared.board.Posted.{Posted}
use Rattle.client_request.specs.declared.event.Out.{Out}
use Rattle.client_settings.specs.Settings.{RedundantSettings}
use Rattle.client_choice.specs.Choice.{Choice, ChoiceJob, is_deferred, stopped, gives, parted, put_off, noted, settled, is_last, is_over, disarmed, arms, judges_each, keeps, unarmed, without_owner, judged, rests, drops_response, drops_each, gives_up, ends, begins, goes_on, runs, puts_off, gets, settles_job, settles_owner, settles, settles_all}
use Rattle.client_choice.specs.Servers.{Server, for_request, judges, owner, disowned}
use Rattle.client_choice.specs.declared.job.ListedServer.{ListedServer}
use Rattle.client_choice.specs.declared.job.Started.{Started}
use Rattle.proof_cutting.specs.Pieces.{like, Both, Neither, Each, IsCuttable, PostsNothing}
use Rattle.proof_cutting.specs.Choices.{longer_servers, AreFitServers}
use Rattle.proof_cutting.proofs.Views.{map_both, then_both, weaker}
use Rattle.proof_cutting.proofs.Listed.{fit_later}
use Rattle.proof_cutting.proofs.ServerCalls.{Same, same_nearing, LeaveAll, leave_same, leave_next, starts_alike, drops_alike, judges_alike, judges_leave, disowned_alike, disowned_leave, owner_alike}

-- a view that goes on from another one
pub record GoesOn (v w : View) : Type 0 where
  pub timer : v.timers.next ≤ w.timers.next
  pub now : w.now ≡ v.now
  pub more : w.more ≡ v.more

module _ (before : List Out) (more : Bool) (request : ℕ) where
  pub stopped_alike : (timer : Option ℕ) (v : View) → stopped timer (like before more request v) ≡ like before more request (stopped timer v)
  stopped_alike None v = refl
  stopped_alike (Some timer) v = refl

  pub gives_alike : (part : Option Part) (ticket : ℕ) (v : View) → gives part ticket (like before more request v) ≡ like before more request (gives part ticket v)
  gives_alike None ticket v = refl
  gives_alike (Some part) ticket v = refl

pub stopped_goes : (timer : Option ℕ) (v : View) → GoesOn v (stopped timer v)
stopped_goes None v = record { timer = le_refl v.timers.next; now = refl; more = refl }
stopped_goes (Some timer) v = record { timer = le_refl v.timers.next; now = refl; more = refl }

pub gives_goes : (part : Option Part) (ticket : ℕ) (v : View) → GoesOn v (gives part ticket v)
gives_goes None ticket v = record { timer = le_refl v.timers.next; now = refl; more = refl }
gives_goes (Some part) ticket v = record { timer = le_refl v.timers.next; now = refl; more = refl }

module _ {R P : Type 0} (before : List Out) where
  arms_alike : (ticket due : ℕ) (job : ChoiceJob R P) (timers : List (ℕ × ℕ)) (v : View) (more : Bool) (request : ℕ)
      → Both (λ (x : ChoiceJob R P × List (ℕ × ℕ)). x) before (λ x w. GoesOn v w) (arms ticket due job timers v) (arms ticket due job timers (like before more request v))
  arms_alike ticket due job timers v more request = by (length job.left == 0)
    where
      set : (b : Bool) → Both (λ (x : ChoiceJob R P × List (ℕ × ℕ)). x) before (λ x w. GoesOn v w)
          (option_map (λ w. ((record job { timer = Some v.timers.next }, puts v.timers.next ticket timers), w)) (if b then Some (record v { timers = with_timer due v.timers }) else None))
          (option_map (λ w. ((record job { timer = Some v.timers.next }, puts v.timers.next ticket timers), w))
          (if b then Some (like before more request (record v { timers = with_timer due v.timers })) else None))
      set true = Each _ _ more request (record { timer = omega arith; now = refl; more = refl })
      set false = Neither

      by : (b : Bool) → Both (λ (x : ChoiceJob R P × List (ℕ × ℕ)). x) before (λ x w. GoesOn v w)
          (if b then Some ((job, timers), v) else option_map (λ w. ((record job { timer = Some v.timers.next }, puts v.timers.next ticket timers), w)) (sets_timer due v))
          (if b then Some ((job, timers), like before more request v) else option_map (λ w. ((record job { timer = Some v.timers.next }, puts v.timers.next ticket timers), w)) (sets_timer due (like before more request v)))
      by true = Each _ _ more request (record { timer = le_refl v.timers.next; now = refl; more = refl })
      by false = set (can_draw v.timers.next)

module _ {R U P : Type 0} (place : ℕ) (below : Transport R U P) (octets : U → Option (List ℕ)) (longer : List ℕ → U → U) (IsFit : U → (timer : ℕ) → Type 0) (cut : IsCuttable place below octets longer IsFit)
    (quiet : PostsNothing below IsFit) (piece : List ℕ) (before : List Out) where
  abbrev All : List (Server U) → List (Server U)
  All servers = longer_servers longer piece servers

  abbrev Long : Choice R U P → Choice R U P
  Long c = record c { servers = All c.servers }

  abbrev Fits : Choice R U P → View → Type 0
  Fits c v = AreFitServers octets IsFit c.servers v.timers.next

  abbrev Stay : (servers : List (Server U)) → View → (after : List (Server U)) → View → Type 0
  Stay servers v after w = LeaveAll octets IsFit Same servers v after w

  -- what a call leaves of a choice
  abbrev Kept : Choice R U P → View → Choice R U P → View → Type 0
  Kept c v d w = Stay c.servers v d.servers w

  stay_here : (servers : List (Server U)) (v : View) → AreFitServers octets IsFit servers v.timers.next → Stay servers v servers v
  stay_here servers v f = leave_same octets IsFit Same same_nearing servers v f

  stay_next : (a b c : List (Server U)) (u v w : View) → Stay a u b v → Stay b v c w → Stay a u c w
  stay_next a b c u v w x y = leave_next octets IsFit Same same_nearing a b c u v w x y

  -- the view goes on alone
  stay_goes : (a b : List (Server U)) (u v w : View) → Stay a u b v → GoesOn v w → Stay a u b w
  stay_goes a b u v w x g = stay_next a b b u v w x (record { fit = fit_later octets IsFit b v.timers.next w.timers.next (λ u. cut.later u v.timers.next w.timers.next g.timer) x.fit; timer = g.timer; now = g.now; more = g.more; near = λ i. refl })

  judges_each_alike : (giver now : ℕ) (started : List (Started P)) (servers : List (Server U)) → judges_each giver now started (All servers) ≡ All (judges_each giver now started servers)
  judges_each_alike giver now [] servers = refl
  judges_each_alike giver now (s ∷ more) servers =
      ap (judges_each giver now more) (judges_alike place below octets longer IsFit cut quiet piece before s.server (s.server == giver) (now - s.since) servers)
      ∙ judges_each_alike giver now more (judges s.server (s.server == giver) (now - s.since) servers)

  judges_each_stay : (giver now : ℕ) (started : List (Started P)) (servers : List (Server U)) (v : View) → AreFitServers octets IsFit servers v.timers.next → Stay servers v (judges_each giver now started servers) v
  judges_each_stay giver now [] servers v f = stay_here servers v f
  judges_each_stay giver now (s ∷ more) servers v f =
      let next : List (Server U) = judges s.server (s.server == giver) (now - s.since) servers in
      let here : Stay servers v next v = judges_leave place below octets longer IsFit cut quiet piece before s.server (s.server == giver) (now - s.since) servers v f in
      stay_next servers next (judges_each giver now more next) v v v here (judges_each_stay giver now more next v here.fit)

  drops_each_alike : (started : List (Started P)) (servers : List (Server U)) (v : View) (more : Bool) (request : ℕ) → AreFitServers octets IsFit servers v.timers.next
      → Both All before (λ xs w. Stay servers v xs w) (drops_each below started servers v) (drops_each below started (All servers) (like before more request v))
  drops_each_alike [] servers v more request f = Each _ _ more request (stay_here servers v f)
  drops_each_alike (s ∷ rest) servers v more request f = then_both _ _
      (one s.response)
      (λ xs w more' request' h. weaker (λ ys x i. stay_next servers xs ys v w x h i) (drops_each_alike rest xs w more' request' h.fit))
    where
      one : (o : Option P) → Both All before (λ xs w. Stay servers v xs w) (drops_response below s servers v o) (drops_response below s (All servers) (like before more request v) o)
      one None = Each _ _ more request (stay_here servers v f)
      one (Some response) = drops_alike place below octets longer IsFit cut quiet piece before s.server s.lower response servers v more request f

  pub gives_up_alike : (started : List (Started P)) (c : Choice R U P) (v : View) (more : Bool) (request : ℕ) → Fits c v
      → Both Long before (Kept c v) (gives_up below started c v) (gives_up below started (Long c) (like before more request v))
  gives_up_alike started c v more request f = map_both _ _ (drops_each_alike started c.servers v more request f) (λ xs w more' request' h. Each _ _ more' request' h)

  -- a result is given once a timer is no more
  answered : (timer : Option ℕ) (ticket : ℕ) (part : Part) (v : View) → GoesOn v (answers ticket part (stopped timer v))
  answered timer ticket part v = (let g = stopped_goes timer v in record { timer = g.timer; now = g.now; more = g.more })

  ends_alike : (ticket giver : ℕ) (part : Part) (job : ChoiceJob R P) (c : Choice R U P) (v : View) (more : Bool) (request : ℕ) → Fits c v
      → Both Long before (Kept c v) (ends below ticket giver part job c v) (ends below ticket giver part job (Long c) (like before more request v))
  ends_alike ticket giver part job c v more request f =
      let xs : List (Server U) = judges_each giver v.now job.started c.servers in
      let x : View = answers ticket part (stopped job.timer v) in
      let here : Stay c.servers v xs x = stay_goes c.servers xs v v x (judges_each_stay giver v.now job.started c.servers v f) (answered job.timer ticket part v) in
      rw (judges_each_alike giver v.now job.started c.servers, stopped_alike before more request job.timer v)
      (weaker (λ d w h. stay_next c.servers xs d.servers v x w here h) (gives_up_alike job.started (unarmed job.timer (judged giver job v.now c)) x more request here.fit))

  rests_alike : (ticket : ℕ) (job : ChoiceJob R P) (c : Choice R U P) (v : View) (more : Bool) (request : ℕ) → Fits c v
      → Both Long before (Kept c v) (rests ticket job c v) (rests ticket job (Long c) (like before more request v))
  rests_alike ticket job c v more request f = rw (gives_alike before more request job.deferred ticket v) (by (is_over job))
    where
      by : (b : Bool) → Both Long before (Kept c v) (if b then Some (c, gives job.deferred ticket v) else Some (keeps ticket job c, v))
          (if b then Some (Long c, like before more request (gives job.deferred ticket v)) else Some (keeps ticket job (Long c), like before more request v))
      by true = Each _ _ more request (stay_goes c.servers c.servers v v (gives job.deferred ticket v) (stay_here c.servers v f) (gives_goes job.deferred ticket v))
      by false = Each _ _ more request (stay_here c.servers v f)

  of_request : (a b : List (Server U)) (number : ℕ) (v w : View) → Stay a (for_request number v) b w → Stay a v b w
  of_request a b number v w x = record { fit = x.fit; timer = x.timer; now = x.now; more = x.more; near = x.near }

  begins_alike : (ticket : ℕ) (e : ListedServer) (job : ChoiceJob R P) (c : Choice R U P) (v : View) (more : Bool) (request : ℕ) → Fits c v
      → Both (λ (x : (Option Part × ChoiceJob R P) × Choice R U P). (x.0, Long x.1)) before (λ x w. Kept c v x.1 w) (begins below ticket e job c v) (begins below ticket e job (Long c) (like before more request v))
  begins_alike ticket e job c v more request f =
      then_both _ _
      (starts_alike place below octets longer IsFit cut quiet piece before e.server ticket job.request c.servers (for_request job.number v) more f)
      (λ x w more' request' h. map_both _ _
      (arms_alike before ticket (v.now + e.estimate) (noted e.server v.now v.ticket (parted x.0).0 job) c.timers w more' request')
      (λ y z more'' request'' g. Each _ _ more'' request'' (stay_goes c.servers x.1 v w z (of_request c.servers x.1 job.number v w h) g)))

  module _ (settings : RedundantSettings) where
    goes_on_alike : (ticket server : ℕ) (next : ChoiceJob R P → Choice R U P → View → Option (Choice R U P × View)) (part : Option Part) (job : ChoiceJob R P) (c : Choice R U P) (v : View) (more : Bool) (request : ℕ)
        → ((job : ChoiceJob R P) (c : Choice R U P) (v : View) (more : Bool) (request : ℕ) → Fits c v → Both Long before (Kept c v) (next job c v) (next job (Long c) (like before more request v)))
        → Fits c v → Both Long before (Kept c v) (goes_on below settings ticket server next job c v part) (goes_on below settings ticket server next job (Long c) (like before more request v) part)
    goes_on_alike ticket server next None job c v more request alike f = Each _ _ more request (stay_here c.servers v f)
    goes_on_alike ticket server next (Some part) job c v more request alike f = by (is_deferred settings part)
      where
        by : (b : Bool) → Both Long before (Kept c v) (if b then next (put_off part (disarmed job)) (unarmed job.timer c) (stopped job.timer v) else ends below ticket server part job c v)
            (if b then next (put_off part (disarmed job)) (unarmed job.timer (Long c)) (stopped job.timer (like before more request v)) else ends below ticket server part job (Long c) (like before more request v))
        by true =
            let here : Stay c.servers v c.servers (stopped job.timer v) = stay_goes c.servers c.servers v v (stopped job.timer v) (stay_here c.servers v f) (stopped_goes job.timer v) in
            rw (stopped_alike before more request job.timer v) (weaker (λ d w h. stay_next c.servers c.servers d.servers v (stopped job.timer v) w here h)
            (alike (put_off part (disarmed job)) (unarmed job.timer c) (stopped job.timer v) more request here.fit))
        by false = ends_alike ticket server part job c v more request f

    pub runs_alike : (ticket : ℕ) (es : List ListedServer) (job : ChoiceJob R P) (c : Choice R U P) (v : View) (more : Bool) (request : ℕ) → Fits c v
        → Both Long before (Kept c v) (runs below settings ticket es job c v) (runs below settings ticket es job (Long c) (like before more request v))
    runs_alike ticket [] job c v more request f = rests_alike ticket job c v more request f
    runs_alike ticket (e ∷ es) job c v more request f = then_both _ _
        (begins_alike ticket e (record job { left = es }) c v more request f)
        (λ x w more' request' h. weaker (λ d z g. stay_next c.servers x.1.servers d.servers v w z h g)
        (goes_on_alike ticket e.server (runs below settings ticket es) x.0.0 x.0.1 x.1 w more' request' (λ job c v more request f. runs_alike ticket es job c v more request f) h.fit))

    puts_off_alike : (ticket server : ℕ) (job : ChoiceJob R P) (c : Choice R U P) (v : View) (more : Bool) (request : ℕ) → Fits c v
        → Both Long before (Kept c v) (puts_off below settings ticket server job c v) (puts_off below settings ticket server job (Long c) (like before more request v))
    puts_off_alike ticket server job c v more request f = rw (stopped_alike before more request job.timer v) (by (is_last server job))
      where
        by : (b : Bool) → Both Long before (Kept c v) (if b then runs below settings ticket job.left (disarmed job) (unarmed job.timer c) (stopped job.timer v) else rests ticket job c v)
            (if b then runs below settings ticket job.left (disarmed job) (unarmed job.timer (Long c)) (like before more request (stopped job.timer v)) else rests ticket job (Long c) (like before more request v))
        by true =
            let here : Stay c.servers v c.servers (stopped job.timer v) = stay_goes c.servers c.servers v v (stopped job.timer v) (stay_here c.servers v f) (stopped_goes job.timer v) in
            weaker (λ d w h. stay_next c.servers c.servers d.servers v (stopped job.timer v) w here h)
            (runs_alike ticket job.left (disarmed job) (unarmed job.timer c) (stopped job.timer v) more request here.fit)
        by false = rests_alike ticket job c v more request f

    gets_alike : (ticket server : ℕ) (part : Part) (job : ChoiceJob R P) (c : Choice R U P) (v : View) (more : Bool) (request : ℕ) → Fits c v
        → Both Long before (Kept c v) (gets below settings ticket server part job c v) (gets below settings ticket server part job (Long c) (like before more request v))
    gets_alike ticket server part job c v more request f = by (is_deferred settings part)
      where
        by : (b : Bool) → Both Long before (Kept c v) (if b then puts_off below settings ticket server (put_off part job) c v else ends below ticket server part job c v)
            (if b then puts_off below settings ticket server (put_off part job) (Long c) (like before more request v) else ends below ticket server part job (Long c) (like before more request v))
        by true = puts_off_alike ticket server (put_off part job) c v more request f
        by false = ends_alike ticket server part job c v more request f

    settles_owner_alike : (server : ℕ) (p : Posted) (owner : Option ℕ) (c : Choice R U P) (v : View) (more : Bool) (request : ℕ) → Fits c v
        → Both Long before (Kept c v) (settles_owner below settings server p c v owner) (settles_owner below settings server p (Long c) (like before more request v) owner)
    settles_owner_alike server p None c v more request f =
        Each _ _ more request (stay_goes c.servers c.servers v v (answers p.ticket p.part v) (stay_here c.servers v f) (record { timer = le_refl v.timers.next; now = refl; more = refl }))
    settles_owner_alike server p (Some ticket) c v more request f = by (entry_at ticket c.jobs)
      where
        by : (o : Option (ChoiceJob R P)) → Both Long before (Kept c v) (settles_job below settings ticket server p.part c v o) (settles_job below settings ticket server p.part (Long c) (like before more request v) o)
        by None = Each _ _ more request (stay_here c.servers v f)
        by (Some job) = gets_alike ticket server p.part (settled server job) (record c { jobs = frees ticket c.jobs }) v more request f

    settles_alike : (server : ℕ) (p : Posted) (c : Choice R U P) (v : View) (more : Bool) (request : ℕ) → Fits c v
        → Both Long before (Kept c v) (settles below settings server p c v) (settles below settings server p (Long c) (like before more request v))
    settles_alike server p c v more request f =
        let xs : List (Server U) = disowned server p.ticket c.servers in
        let here : Stay c.servers v xs v = disowned_leave place below octets longer IsFit cut quiet piece before server p.ticket c.servers v f in
        rw (disowned_alike place below octets longer IsFit cut quiet piece before server p.ticket c.servers, owner_alike place below octets longer IsFit cut quiet piece before server p.ticket c.servers)
        (weaker (λ d w h. stay_next c.servers xs d.servers v v w here h) (settles_owner_alike server p (owner server p.ticket c.servers) (without_owner server p.ticket c) v more request here.fit))

    pub settles_all_alike : (server : ℕ) (ps : List Posted) (c : Choice R U P) (v : View) (more : Bool) (request : ℕ) → Fits c v
        → Both Long before (Kept c v) (settles_all below settings server ps c v) (settles_all below settings server ps (Long c) (like before more request v))
    settles_all_alike server [] c v more request f = Each _ _ more request (stay_here c.servers v f)
    settles_all_alike server (p ∷ ps) c v more request f = then_both _ _
        (settles_alike server p c v more request f)
        (λ x w more' request' h. weaker (λ d z g. stay_next c.servers x.servers d.servers v w z h g) (settles_all_alike server ps x w more' request' h.fit))
