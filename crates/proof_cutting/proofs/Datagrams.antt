-- A transport by datagrams has no octets of a stream, and does the same whatever was put out.
use Rattle.std.proofs.Common.{◌≡◌, ℕ, zero, suc, ◌+◌, ◌-◌, ◌≤◌, inl, inr, Bool, true, false, nat_lt, List, [], ◌∷◌, Option, Some, None, refl, ap, Err, le_refl}
use Rattle.client_request.specs.Board.{Part}
use Rattle.client_request.specs.Numbered.{frees, entry_at}
use Rattle.client_request.specs.Requests.{Requests, for_one}
use Rattle.client_request.specs.View.{View, due_timer, asks, answers, drops_timer}
use Rattle.client_request.specs.declared.error.Error.TheVariants as errors
use Rattle.client_request.specs.declared.error.QueryError.TheVariants as query
use Rattle.client_request.specs.declared.event.Out.{Out}
use Rattle.client_request.specs.declared.event.Out.TheVariants.{OpenDgram, Close}
use Rattle.client_dgram.specs.Plain.{Tables, After, closes, leaves, tries_at, tries, gives_job, gives_to, at_ticket, at_job, gives_on, finishes, again, late_stage, late, drops_stage, drops, takes_at, newcomer, Dgram, with_tables, plain_send, plain_cancel, plain_step, transport}
use Rattle.client_settings.specs.Dgram.{Settings}
use Rattle.client_dgram.specs.declared.job.Job.{Job}
use Rattle.client_dgram.specs.declared.job.Stage.{Stage}
use Rattle.client_dgram.specs.declared.job.Stage.TheVariants.{Queued, Opening, Sent}
use Rattle.proof_cutting.specs.Pieces.{like, Both, Each, IsCuttable, PostsNothing}
use Rattle.proof_cutting.proofs.Views.{asks_like, left_of, weaker, same_both, tickets_both, places_both, next_ticket, next_place, then_both}

-- No timer's number falls, the clock stays, no more is said to stand, and nothing is posted.
abbrev Keeps : View → {U : Type 0} → U → View → Type 0
Keeps v u x = (v.timers.next ≤ x.timers.next) × (x.now ≡ v.now) × (x.more ≡ v.more) × (x.board ≡ v.board)

kept : (v : View) {U : Type 0} (u : U) → Keeps v u v
kept v u = (le_refl v.timers.next, refl, refl, refl)

-- the same, but for what is posted
abbrev Moves : View → {U : Type 0} → U → View → Type 0
Moves v u x = (v.timers.next ≤ x.timers.next) × (x.now ≡ v.now) × (x.more ≡ v.more)

moved : (v : View) {U : Type 0} (u : U) → Moves v u v
moved v u = (le_refl v.timers.next, refl, refl)

module _ {R : Type 0} (server : ℕ) (before : List Out) (more : Bool) (request : ℕ) (v : View) where
  -- two calls agree, and keep
  abbrev Agree : (first second : After R) → Type 0
  Agree = Both (λ s. s) before (Keeps v)

  rests : (s : Tables R) (w : View) → Keeps v s w → Agree (Some (s, w)) (Some (s, like before more request w))
  rests s w keeps = Each s w more request keeps

  tries_so : (ticket : ℕ) (job : Job R) (s : Tables R) (w : View) → Keeps v s w → Agree (tries server ticket job s w) (tries server ticket job s (like before more request w))
  tries_so ticket job s w keeps = places_both opens opens more request w (λ drawn. same_both refl (ap (λ x. Some (opened, x)) (asks_like before more request (OpenDgram w.place server) (next_place w))) (rests opened (asks (OpenDgram w.place server) (next_place w)) keeps))
    where
      opened : Tables R
      opened = (tries_at server ticket job s w.place w).0

      opens : View → After R
      opens x = Some (tries_at server ticket job s w.place x)

  gives_so : (queue : List ℕ) (s : Tables R) (w : View) → Keeps v s w → Agree (gives_to server s w queue) (gives_to server s (like before more request w) queue)
  gives_so [] s w keeps = rests (record s { used = s.used - 1 }) w keeps
  gives_so (ticket ∷ queue) s w keeps = by (entry_at ticket s.jobs)
    where
      by : (job : Option (Job R)) → Agree (gives_job server ticket (record s { queue = queue }) w job) (gives_job server ticket (record s { queue = queue }) (like before more request w) job)
      by None = rests (record s { queue = queue }) w keeps
      by (Some job) = tries_so ticket job (record s { queue = queue; jobs = frees ticket s.jobs }) w keeps

  drops_stage_so : (ticket : ℕ) (s : Tables R) (w : View) (stage : Stage) → Keeps v s w → Agree (drops_stage server ticket s w stage) (drops_stage server ticket s (like before more request w) stage)
  drops_stage_so ticket s w Queued keeps = Each _ w more request keeps
  drops_stage_so ticket s w (Opening place) keeps =
      let t : Tables R = record s { jobs = frees ticket s.jobs; places = frees place s.places } in
      same_both refl (ap (gives_on server t) (asks_like before more request (Close place) w)) (gives_so s.queue t (asks (Close place) w) keeps)
  drops_stage_so ticket s w (Sent place timer) keeps =
      let t : Tables R = leaves place ticket timer s in
      same_both refl (ap (λ x. gives_on server t (drops_timer timer x)) (asks_like before more request (Close place) w)) (gives_so s.queue t (closes place timer w) keeps)

  drops_so : (ticket : ℕ) (s : Tables R) (w : View) → Keeps v s w → Agree (drops server ticket s w) (drops server ticket s (like before more request w))
  drops_so ticket s w keeps = by (entry_at ticket s.jobs)
    where
      by : (job : Option (Job R))
          → Agree (at_job (λ ticket job s x. drops_stage server ticket s x job.stage) ticket s w job) (at_job (λ ticket job s x. drops_stage server ticket s x job.stage) ticket s (like before more request w) job)
      by None = rests s w keeps
      by (Some job) = drops_stage_so ticket s w job.stage keeps

  module _ (requests : Requests R) (settings : Settings) where
    takes_at_so : (ticket : ℕ) (job : Job R) (s : Tables R) (w : View) (b : Bool) → Keeps v s w
        → Agree (takes_at requests server settings ticket job s w b) (takes_at requests server settings ticket job s (like before more request w) b)
    takes_at_so ticket job s w true keeps = tries_so ticket job (record s { used = s.used + 1 }) w keeps
    takes_at_so ticket job s w false keeps = Each _ w more request keeps

-- A timer fired
module _ {R : Type 0} (server : ℕ) (before : List Out) (more : Bool) (request : ℕ) where
  finishes_so : (ticket : ℕ) (part : Part) (s : Tables R) (v : View) → Both (λ s. s) before (Moves v) (finishes server ticket part s v) (finishes server ticket part s (like before more request v))
  finishes_so ticket part s v =
      let w : View = answers ticket part v in
      weaker (λ u x keeps. (keeps.0, keeps.1, keeps.2)) (gives_so server before more request w s.queue s w (kept w s))

  again_so : (ticket : ℕ) (job : Job R) (s : Tables R) (v : View) (left : ℕ) → Both (λ s. s) before (Moves v) (again server ticket job s v left) (again server ticket job s (like before more request v) left)
  again_so ticket job s v zero = finishes_so ticket (Err (errors.Dgram query.Timeout)) s v
  again_so ticket job s v (suc left) = weaker (λ u x keeps. (keeps.0, keeps.1, keeps.2)) (tries_so server before more request v ticket (record job { left = left }) s v (kept v s))

  late_stage_so : (ticket : ℕ) (job : Job R) (s : Tables R) (v : View) (stage : Stage) → Both (λ s. s) before (Moves v) (late_stage server ticket job s v stage) (late_stage server ticket job s (like before more request v) stage)
  late_stage_so ticket job s v (Sent place _) =
      let t : Tables R = record s { jobs = frees ticket s.jobs; places = frees place s.places } in
      same_both refl (ap (λ x. again server ticket job t x job.left) (asks_like before more request (Close place) v)) (again_so ticket job t (asks (Close place) v) job.left)
  late_stage_so ticket job s v Queued = Each s v more request (moved v s)
  late_stage_so ticket job s v (Opening _) = Each s v more request (moved v s)

  late_so : (timer : ℕ) (s : Tables R) (v : View) → Both (λ s. s) before (Moves v) (late server timer s v) (late server timer s (like before more request v))
  late_so timer s v = by (entry_at timer s.timers)
    where
      t : Tables R
      t = record s { timers = frees timer s.timers }

      at : ℕ → Job R → Tables R → View → After R
      at ticket job s x = late_stage server ticket job s x job.stage

      for : (ticket : ℕ) (job : Option (Job R)) → Both (λ s. s) before (Moves v) (at_job at ticket t v job) (at_job at ticket t (like before more request v) job)
      for ticket None = Each t v more request (moved v t)
      for ticket (Some job) = late_stage_so ticket job t v job.stage

      by : (ticket : Option ℕ) → Both (λ s. s) before (Moves v) (at_ticket at t v ticket) (at_ticket at t (like before more request v) ticket)
      by None = Each t v more request (moved v t)
      by (Some ticket) = for ticket (entry_at ticket s.jobs)

-- The whole machine
module _ {before : List Out} {R : Type 0} where
  with_tables_so : {Leaves : View → Type 0} {r t : After R} (s : Dgram R) → Both (λ u. u) before (λ u x. Leaves x) r t → Both (λ u. u) before (λ u x. Leaves x) (with_tables s r) (with_tables s t)
  with_tables_so s both = then_both (λ x. Some (record s { tables = x.0 }, x.1)) (λ x. Some (record s { tables = x.0 }, x.1)) both (λ u v more request leaves. Each (record s { tables = u }) v more request leaves)

  sends_so : (requests : Requests R) (more : Bool) (request : R) (s : Dgram R) (v : View)
      → Both (λ u. u) before (λ u x. Keeps v u x) (plain_send requests request s v) (plain_send requests request s (like before more v.request v))
  sends_so requests more request s v = with_tables_so s (tickets_both takes_so takes_so more v.request v (λ drawn. takes_at_so s.server before more v.request v requests s.settings v.ticket job s.tables (next_ticket v) (nat_lt s.tables.used s.settings.max_parallel) (kept v s)))
    where
      job : Job R
      job = newcomer requests s.server s.settings request v

      takes_so : View → After R
      takes_so w = takes_at requests s.server s.settings v.ticket job s.tables w (nat_lt s.tables.used s.settings.max_parallel)

  cancels_so : (more : Bool) (request ticket : ℕ) (s : Dgram R) (v : View) → Both (λ u. u) before (λ u x. Keeps v u x) (plain_cancel ticket s v) (plain_cancel ticket s (like before more request v))
  cancels_so more request ticket s v = with_tables_so s (drops_so s.server before more request v ticket s.tables v (kept v s))

  fires_so : (requests : Requests R) (more : Bool) (request timer : ℕ) (s : Dgram R) (v : View)
      → Both (λ u. u) before (λ u x. Moves v u x) (plain_step requests (due_timer timer) s v) (plain_step requests (due_timer timer) s (like before more request v))
  fires_so requests more request timer s v = with_tables_so s (late_so s.server before more request timer s.tables v)

pub datagrams_are_cuttable : (place : ℕ) → IsCuttable place (transport for_one) (λ u. None) (λ piece u. u) (λ u n. Unit {0})
datagrams_are_cuttable place = record {
  closed = λ piece u none. refl;
  behind = λ piece u. refl;
  twice = λ a b u. refl;
  fits = λ piece u n fit. fit;
  later = λ u n m le fit. fit;
  bytes = λ piece u v fit none. refl;
  rests = λ u v fit none. refl;
  unheard = λ piece u v fit none. refl;
  response = λ piece before more request r u v. refl;
  sends = λ piece before more r u v fit. weaker (λ w x keeps. record { fit = tt; timer = keeps.0; octets = refl; more = keeps.2; now = keeps.1 }) (sends_so for_one more r u v);
  cancels = λ piece before more request r u v fit. weaker (λ w x keeps. record { fit = tt; timer = keeps.0; octets = refl; more = keeps.2; now = keeps.1 }) (cancels_so more request r.ticket u v);
  fires = λ piece before more request timer u v fit. weaker (λ w x moves. record { fit = tt; timer = moves.0; octets = inl refl; more = moves.2; now = moves.1 }) (fires_so for_one more request timer u v);
  takes = λ piece before request u v fit ready none. Each u v false request (record { fit = tt; timer = le_refl v.timers.next; octets = inr refl; more = none; now = refl });
}

pub datagrams_post_nothing : PostsNothing (transport for_one) (λ u n. Unit {0})
datagrams_post_nothing = record {
  sent = λ r u v w x fit is. (left_of w x (sends_so {before = []} for_one false r u v) is).3;
  cancelled = λ r u v w x fit is. (left_of w x (cancels_so {before = []} false 0 r.ticket u v) is).3;
}
