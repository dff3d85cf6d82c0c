-- Reconnection meets what is owed at a place, over one connection that does.
use Rattle.std.proofs.Common.{◌≡◌, ℕ, ◌+◌, ◌≤◌, Bool, true, false, if◌then◌else◌, Option, Some, None, List, [], ◌∷◌, refl, sym, ap, subst, ◌∙◌, arith, le_refl, le_trans}
use Rattle.std.specs.Prelude.{◌==◌, ◌&&◌, not, nat_lt, Err, option_map, option_and_then}
use Rattle.std.specs.Ordering.{nat_cmp}
use Rattle.std.specs.BTreeMap.{is_at}
use Rattle.std.specs.Set.{remove_key}
use Rattle.client_request.specs.Board.{Part}
use Rattle.client_request.specs.Numbered.{puts, frees, entry_at}
use Rattle.client_request.specs.Request.{Request}
use Rattle.client_request.specs.View.{View, Step, Transport, word, drawn, asks, answers, drops_timer}
use Rattle.client_request.specs.declared.board.Posted.{Posted}
use Rattle.client_request.specs.declared.error.Error.TheVariants as errors
use Rattle.client_request.specs.declared.event.Out.{Out}
use Rattle.client_request.specs.declared.event.Out.TheVariants.{OpenStream}
use Rattle.dns_values.specs.Source.{one_more}
use Rattle.client_stream.specs.Plain.{Asked, asked, has_ended}
use Rattle.client_multi.specs.Links.{Link}
use Rattle.client_multi.specs.MultiStream as multi
use Rattle.client_multi.specs.MultiStream.{is_result, lent, taken_back, taken, with_room}
use Rattle.client_multi.specs.Retry.{retry_time}
use Rattle.client_settings.specs.MultiStream.{Settings}
use Rattle.client_multi.specs.declared.multi_stream.job.Job.{Job}
use Rattle.client_multi.specs.declared.multi_stream.job.Stage.{Stage}
use Rattle.client_multi.specs.declared.multi_stream.job.Stage.TheVariants.{Waiting, Resting, Held}
use Rattle.proof_cutting.specs.Pieces.{like, Both, Each}
use Rattle.proof_cutting.specs.Standing.{StreamTables, link_octets, longer_link, longer_tables}
use Rattle.proof_cutting.proofs.Views.{asks_like, timed, next_ticket, next_place, weaker, same_both, if_both, sets_both, tickets_both, places_both, then_both}
use Rattle.proof_cutting.proofs.Lines.{AreFaults}
use Rattle.proof_cutting.proofs.Links.{LinkGoes, LinkStays, IsLinkCuttable}
use Rattle.proof_cutting.proofs.Fitting.{Fits, fits_later, fits_back, over, put, is_same}
use Rattle.proof_cutting.proofs.Putting.{tables_octets, octets_back, entry_longer, put_longer, room_longer}

-- What a call leaves of the tables and of the view, where the octets at the place are these. Of a quiet call nothing is posted.
pub record Kept (place : ℕ) (quiet : Bool) (board : List Posted) (octets : Option (List ℕ)) (n : ℕ) (said : Bool) (moment : ℕ) (t : StreamTables) (w : View) : Type 0 where
  pub fit : Fits t.connections t.watches w.timers.next
  pub timer : n ≤ w.timers.next
  pub standing : tables_octets place t ≡ octets
  pub more : w.more ≡ said
  pub now : w.now ≡ moment
  pub unposted : quiet ≡ true → w.board ≡ board

module _ (place : ℕ) (quiet : Bool) where
  abbrev pub KeptOf : StreamTables → View → StreamTables → View → Type 0
  KeptOf s v t w = Kept place quiet v.board (tables_octets place s) v.timers.next v.more v.now t w

  pub kept_itself : (s : StreamTables) (v : View) → Fits s.connections s.watches v.timers.next → KeptOf s v s v
  kept_itself s v f = record { fit = f; timer = le_refl _; standing = refl; more = refl; now = refl; unposted = λ e. refl }

  -- where neither the connections nor their timers are others
  pub kept_as : (s t : StreamTables) (v : View) → Fits t.connections t.watches v.timers.next → tables_octets place t ≡ tables_octets place s → KeptOf s v t v
  kept_as s t v f e = record { fit = f; timer = le_refl _; standing = e; more = refl; now = refl; unposted = λ e. refl }

  kept_on : (b : List Posted) (o : Option (List ℕ)) (n : ℕ) (said : Bool) (moment : ℕ) (t : StreamTables) (w : View) (y : StreamTables) (x : View) → Kept place quiet b o n said moment t w → KeptOf t w y x → Kept place quiet b o n said moment y x
  kept_on b o n said moment t w y x k l = record { fit = l.fit; timer = le_trans k.timer l.timer; standing = l.standing ∙ k.standing; more = l.more ∙ k.more; now = l.now ∙ k.now; unposted = λ e. l.unposted e ∙ k.unposted e }

  kept_from : (b : List Posted) (o p : Option (List ℕ)) (n m : ℕ) (said says : Bool) (moment now : ℕ) → o ≡ p → m ≤ n → said ≡ says → moment ≡ now → (t : StreamTables) (w : View) → Kept place quiet b o n said moment t w → Kept place quiet b p m says now t w
  kept_from b o p n m said says moment now oe le se me t w k = record { fit = k.fit; timer = le_trans le k.timer; standing = k.standing ∙ oe; more = k.more ∙ se; now = k.now ∙ me; unposted = k.unposted }

module _ (place : ℕ) (piece : List ℕ) (before : List Out) where
  abbrev long : StreamTables → StreamTables
  long t = longer_tables place piece t

  -- the second call has longer octets, and other outs before
  abbrev Alike : (StreamTables → View → Type 0) → (first second : Option (StreamTables × View)) → Type 0
  Alike Leaves first second = Both long before Leaves first second

  -- ---- what a connection posted is taken

  backs_off_kept : (quiet : Bool) (more : Bool) (request : ℕ) (ticket : ℕ) (job : Job Request) (s : StreamTables) (v : View) → Fits s.connections s.watches v.timers.next
      → Alike (KeptOf place quiet s v) (multi.backs_off ticket job s v) (multi.backs_off ticket job (long s) (like before more request v))
  backs_off_kept quiet more request ticket job s v fits =
      sets_both (λ w. Some (multi.rests ticket (multi.once_more job) v.timers.next s, w)) (λ w. Some (multi.rests ticket (multi.once_more job) v.timers.next (long s), w)) due more request (drawn v)
      (λ h. Each (multi.rests ticket (multi.once_more job) v.timers.next s) (timed due (drawn v)) more request
      (record { fit = fits_later s.connections s.watches v.timers.next (v.timers.next + 1) (omega arith) fits; timer = omega arith; standing = refl; more = refl; now = refl; unposted = λ e. refl }))
    where
      due : ℕ
      due = v.now + retry_time (one_more job.back_offs) (word v)

  gets_part_kept : (quiet : Bool) (more : Bool) (request : ℕ) (b : Bool) → (quiet ≡ true → b ≡ false) → (ticket : ℕ) (job : Job Request) (part : Part) (s : StreamTables) (v : View) → Fits s.connections s.watches v.timers.next
      → Alike (KeptOf place quiet s v) (multi.gets_part b ticket job part s v) (multi.gets_part b ticket job part (long s) (like before more request v))
  gets_part_kept quiet more request true h ticket job part s v fits =
      Each (record s { timers = frees job.end s.timers }) (answers ticket part (drops_timer job.end v)) more request
      (record { fit = fits; timer = le_refl _; standing = refl; more = refl; now = refl; unposted = λ e. absurd (let no = h e in cc) })
  gets_part_kept quiet more request false h ticket job part s v fits = backs_off_kept quiet more request ticket job s v fits

  gets_kept : (quiet : Bool) (more : Bool) (request : ℕ) (ticket : ℕ) (part : Part) → (quiet ≡ true → is_result part ≡ false) → (s : StreamTables) (v : View) (o : Option (Job Request)) → Fits s.connections s.watches v.timers.next
      → Alike (KeptOf place quiet s v) (multi.gets ticket part s v o) (multi.gets ticket part (long s) (like before more request v) o)
  gets_kept quiet more request ticket part h s v None fits = Each s v more request (kept_itself place quiet s v fits)
  gets_kept quiet more request ticket part h s v (Some job) fits = gets_part_kept quiet more request (is_result part) h ticket job part (record s { jobs = frees ticket s.jobs }) v fits

  gets_at_kept : (quiet : Bool) (more : Bool) (request : ℕ) (part : Part) → (quiet ≡ true → is_result part ≡ false) → (s : StreamTables) (v : View) (o : Option ℕ) → Fits s.connections s.watches v.timers.next
      → Alike (KeptOf place quiet s v) (multi.gets_at part s v o) (multi.gets_at part (long s) (like before more request v) o)
  gets_at_kept quiet more request part h s v None fits = Each s v more request (kept_itself place quiet s v fits)
  gets_at_kept quiet more request part h s v (Some ticket) fits = gets_kept quiet more request ticket part h s v (entry_at ticket s.jobs) fits

  collects_kept : (quiet : Bool) (more : Bool) (request : ℕ) (ps : List Posted) → (quiet ≡ true → AreFaults ps) → (s : StreamTables) (v : View) → Fits s.connections s.watches v.timers.next
      → Alike (KeptOf place quiet s v) (multi.collects ps s v) (multi.collects ps (long s) (like before more request v))
  collects_kept quiet more request [] h s v fits = Each s v more request (kept_itself place quiet s v fits)
  collects_kept quiet more request (p ∷ ps) h s v fits =
      then_both (λ x. multi.collects ps x.0 x.1) (λ x. multi.collects ps x.0 x.1)
      (gets_at_kept quiet more request p.part (λ e. let fs = h e in fs.0) (record s { inner = frees p.ticket s.inner }) v (entry_at p.ticket s.inner) fits)
      (λ t w more request k. weaker (λ y x l. kept_on place quiet v.board (tables_octets place s) v.timers.next v.more v.now t w y x k l) (collects_kept quiet more request ps (λ e. let fs = h e in fs.1) t w k.fit))

  -- ---- what goes on with a request

  pub at_ticket_kept : (quiet : Bool) (f : ℕ → Job Request → StreamTables → View → Option (StreamTables × View))
      → ((more : Bool) (request : ℕ) (ticket : ℕ) (job : Job Request) (s : StreamTables) (v : View) → Fits s.connections s.watches v.timers.next → Alike (KeptOf place quiet s v) (f ticket job s v) (f ticket job (long s) (like before more request v)))
      → (more : Bool) (request : ℕ) (ticket : ℕ) (s : StreamTables) (v : View) → Fits s.connections s.watches v.timers.next
      → Alike (KeptOf place quiet s v) (multi.at_ticket f ticket s v) (multi.at_ticket f ticket (long s) (like before more request v))
  at_ticket_kept quiet f h more request ticket s v fits = go (entry_at ticket s.jobs)
    where
      go : (o : Option (Job Request)) → Alike (KeptOf place quiet s v) (multi.with_job f ticket s v o) (multi.with_job f ticket (long s) (like before more request v) o)
      go None = Each s v more request (kept_itself place quiet s v fits)
      go (Some job) = h more request ticket job (record s { jobs = frees ticket s.jobs }) v fits

-- ---- a connection is called

module _ (place : ℕ) (calls : Transport Request (Link Request) Asked) (laws : IsLinkCuttable place calls) (piece : List ℕ) (before : List Out) where
  abbrev longer : Link Request → Link Request
  longer l = longer_link place piece l

  returned : (quiet : Bool) (more : Bool) (request : ℕ) (said : Bool) (number : ℕ) (p : ℕ) (c : Link Request) (s : StreamTables) (v : View) (d : Link Request) (w : View) → Fits s.connections s.watches v.timers.next → entry_at p s.connections ≡ Some c
      → LinkGoes c v.timers.next v.now d w → (quiet ≡ true → AreFaults w.board)
      → Both (long place piece before) before (Kept place quiet v.board (tables_octets place (put calls p c d s)) v.timers.next w.more v.now)
      (multi.returns (over calls) p (taken (over calls) p c s) v (d, w))
      (multi.returns (over calls) p (taken (over calls) p (longer c) (long place piece before s)) (like before more request v) (longer d, like before said number w))
  returned quiet more request said number p c s v d w fits at goes faults =
      same_both refl (ap (λ t. multi.collects w.board t (like before said number (taken_back v w))) (put_longer calls place piece s v.timers.next fits p c d is_at))
      (weaker (λ t x k. kept_from place quiet v.board (tables_octets place (put calls p c d s)) (tables_octets place (put calls p c d s)) w.timers.next v.timers.next w.more w.more w.now v.now refl goes.timer refl goes.now t x k)
      (collects_kept place piece before quiet said number w.board faults (put calls p c d s) (taken_back v w) (fits_back calls p c s v.timers.next fits at d w.timers.next is_at goes.timer goes.known)))
    where
      is_at : d.place ≡ p
      is_at = goes.place ∙ (let x = fits.placed p c at in x.0)

  -- the connection of a place, if there is one
  pub called : (Less : StreamTables → View → Type 0) (Leaves : Link Request → Link Request → View → Type 0) (quiet : Bool) (more : Bool) (request : ℕ) (p : ℕ) (step other : Step (Link Request)) (s : StreamTables) (v : View)
      → Fits s.connections s.watches v.timers.next → (entry_at p s.connections ≡ None → Less s v)
      → ((c : Link Request) → entry_at p s.connections ≡ Some c → Both longer before (Leaves c) (step c (lent v)) (other (longer c) (like before more request (lent v))))
      → ((c d : Link Request) (w : View) → entry_at p s.connections ≡ Some c → Leaves c d w → LinkGoes c v.timers.next v.now d w × (quiet ≡ true → AreFaults w.board))
      → ((c d : Link Request) (w : View) → entry_at p s.connections ≡ Some c → Leaves c d w → (t : StreamTables) (x : View) → Kept place quiet v.board (tables_octets place (put calls p c d s)) v.timers.next w.more v.now t x → Less t x)
      → Both (long place piece before) before Less (multi.calls_at (over calls) p step s v) (multi.calls_at (over calls) p other (long place piece before s) (like before more request v))
  called Less Leaves quiet more request p step other s v fits none both goes less =
      same_both refl (ap (λ o. multi.calls (over calls) p other (long place piece before s) (like before more request v) o) (entry_longer calls place piece s v.timers.next fits p))
      (go (entry_at p s.connections) refl)
    where
      go : (o : Option (Link Request)) → entry_at p s.connections ≡ o
          → Both (long place piece before) before Less (multi.calls (over calls) p step s v o) (multi.calls (over calls) p other (long place piece before s) (like before more request v) (option_map longer o))
      go None e = Each s v more request (none e)
      go (Some c) e =
          then_both (multi.returns (over calls) p (taken (over calls) p c s) v) (multi.returns (over calls) p (taken (over calls) p (longer c) (long place piece before s)) (like before more request v)) (both c e)
          (λ d w said number l.
          let g = goes c d w e l in
          weaker (less c d w e l) (returned quiet more request said number p c s v d w fits e g.0 g.1))

  -- where its octets stand as before
  pub same_octets : (c d : Link Request) → d.place ≡ c.place → has_ended d.line.stage ≡ has_ended c.line.stage → d.octets ≡ c.octets → link_octets place d ≡ link_octets place c
  same_octets c d p e o =
      ap (λ n. if (n == place) && not (has_ended d.line.stage) then Some d.octets else None) p
      ∙ ap (λ b. if (c.place == place) && not b then Some d.octets else None) e
      ∙ ap (λ os. if (c.place == place) && not (has_ended c.line.stage) then Some os else None) o

  pub put_octets : (p : ℕ) (c d : Link Request) (s : StreamTables) (n : ℕ) → Fits s.connections s.watches n → entry_at p s.connections ≡ Some c → link_octets place d ≡ link_octets place c → tables_octets place (put calls p c d s) ≡ tables_octets place s
  put_octets p c d s n fits at same = octets_back calls place p c s n fits at d ∙ go (p == place) refl
    where
      go : (b : Bool) → (p == place) ≡ b → (if b then link_octets place d else tables_octets place s) ≡ tables_octets place s
      go true e = same ∙ sym (ap (option_and_then (link_octets place)) (subst (λ p. entry_at p s.connections ≡ Some c) (is_same p place e) at))
      go false e = refl

  stays_octets : (p : ℕ) (c d : Link Request) (s : StreamTables) (n : ℕ) (u w : View) → Fits s.connections s.watches n → entry_at p s.connections ≡ Some c → LinkStays c u d w → tables_octets place (put calls p c d s) ≡ tables_octets place s
  stays_octets p c d s n u w fits at l =
      put_octets p c d s n fits at (same_octets c d (let g = l.goes in g.place) (l.going ∙ sym (let x = fits.placed p c at in x.1)) l.octets)

  -- ---- a request is given up

  gives_up_kept : (quiet : Bool) (more : Bool) (request : ℕ) (p : ℕ) (response : Asked) (s : StreamTables) (v : View) → Fits s.connections s.watches v.timers.next
      → Both (long place piece before) before (KeptOf place quiet s v) (multi.gives_up_at (over calls) p response s v) (multi.gives_up_at (over calls) p response (long place piece before s) (like before more request v))
  gives_up_kept quiet more request p response s v fits =
      called (KeptOf place quiet s v) (λ c d w. LinkStays c (lent v) d w) quiet more request p (calls.cancel response) (calls.cancel response) y v fits
      (λ e. kept_as place quiet s y v fits refl)
      (λ c e. laws.cancels piece before more request response c (lent v) (let x = fits.placed p c e in x.1) tt)
      (λ c d w e l. (l.goes, λ q. l.faults))
      (λ c d w e l t x k. kept_from place quiet v.board (tables_octets place (put calls p c d y)) (tables_octets place s) v.timers.next v.timers.next w.more v.more v.now v.now (stays_octets p c d y v.timers.next (lent v) w fits e l) (le_refl _) l.more refl t x k)
    where
      y : StreamTables
      y = record s { inner = frees response.ticket s.inner }

  leaves_kept : (quiet : Bool) (more : Bool) (request : ℕ) (ticket : ℕ) (stage : Stage) (s : StreamTables) (v : View) → Fits s.connections s.watches v.timers.next
      → Both (long place piece before) before (KeptOf place quiet s v) (multi.leaves (over calls) ticket stage s v) (multi.leaves (over calls) ticket stage (long place piece before s) (like before more request v))
  leaves_kept quiet more request ticket Waiting s v fits =
      let t : StreamTables = record s { waiting = remove_key (is_at (nat_cmp ticket)) s.waiting } in Each t v more request (kept_as place quiet s t v fits refl)
  leaves_kept quiet more request ticket (Resting timer) s v fits =
      let t : StreamTables = record s { timers = frees timer s.timers } in
      Each t (drops_timer timer v) more request (record { fit = fits; timer = le_refl _; standing = refl; more = refl; now = refl; unposted = λ e. refl })
  leaves_kept quiet more request ticket (Held p response) s v fits = gives_up_kept quiet more request p response s v fits

  drops_job_kept : (quiet : Bool) (more : Bool) (request : ℕ) (ticket : ℕ) (job : Job Request) (s : StreamTables) (v : View) → Fits s.connections s.watches v.timers.next
      → Both (long place piece before) before (KeptOf place quiet s v) (multi.drops_job (over calls) ticket job s v) (multi.drops_job (over calls) ticket job (long place piece before s) (like before more request v))
  drops_job_kept quiet more request ticket job s v fits = leaves_kept quiet more request ticket job.stage (record s { timers = frees job.end s.timers }) (drops_timer job.end v) fits

  pub drops_kept : (quiet : Bool) (more : Bool) (request : ℕ) (ticket : ℕ) (s : StreamTables) (v : View) → Fits s.connections s.watches v.timers.next
      → Both (long place piece before) before (KeptOf place quiet s v) (multi.drops (over calls) ticket s v) (multi.drops (over calls) ticket (long place piece before s) (like before more request v))
  drops_kept quiet more request ticket s v fits = at_ticket_kept place piece before quiet (multi.drops_job (over calls)) (drops_job_kept quiet) more request ticket s v fits

  pub times_out_kept : (more : Bool) (request : ℕ) (ticket : ℕ) (job : Job Request) (s : StreamTables) (v : View) → Fits s.connections s.watches v.timers.next
      → Both (long place piece before) before (KeptOf place false s v) (multi.times_out (over calls) ticket job s v) (multi.times_out (over calls) ticket job (long place piece before s) (like before more request v))
  times_out_kept more request ticket job s v fits =
      then_both (λ x. Some (x.0, answers ticket (Err errors.StreamReadTimeout) x.1)) (λ x. Some (x.0, answers ticket (Err errors.StreamReadTimeout) x.1)) (leaves_kept false more request ticket job.stage s v fits)
      (λ t w more request k. Each t (answers ticket (Err errors.StreamReadTimeout) w) more request (record { fit = k.fit; timer = k.timer; standing = k.standing; more = k.more; now = k.now; unposted = λ e. absurd (cc) }))

  -- ---- a request is handed on

  holds_kept : (quiet : Bool) (more : Bool) (request : ℕ) (ticket : ℕ) (job : Job Request) (p : ℕ) (c : Link Request) (s : StreamTables) (v : View) → Fits s.connections s.watches v.timers.next → entry_at p s.connections ≡ Some c
      → Both (long place piece before) before (KeptOf place quiet s v) (multi.holds (over calls) ticket job p c (taken (over calls) p c s) v) (multi.holds (over calls) ticket job p (longer c) (taken (over calls) p (longer c) (long place piece before s)) (like before more request v))
  holds_kept quiet more request ticket job p c s v fits at =
      then_both (multi.returns (over calls) p (taken (over calls) p c y) v) (multi.returns (over calls) p (taken (over calls) p (longer c) (long place piece before y)) (like before more request v))
      (laws.sends piece before more job.request c u (let x = fits.placed p c at in x.1) tt)
      (λ d w said number l.
      weaker (λ t x k. kept_from place quiet v.board (tables_octets place (put calls p c d y)) (tables_octets place s) v.timers.next v.timers.next w.more v.more v.now v.now (stays_octets p c d y v.timers.next u w fits at l) (le_refl _) l.more refl t x k)
      (returned quiet more request said number p c y v d w fits at l.goes (λ e. l.faults)))
    where
      u : View
      u = lent (record v { request = job.number })

      y : StreamTables
      y = record s { jobs = puts ticket (record job { stage = Held p (asked v.ticket) }) s.jobs; inner = puts v.ticket ticket s.inner }

  module _ (server : ℕ) where
    opens_kept : (quiet : Bool) (more : Bool) (request : ℕ) (ticket : ℕ) (job : Job Request) (s : StreamTables) (v : View) → Fits s.connections s.watches v.timers.next
        → Both (long place piece before) before (KeptOf place quiet s v) (multi.opens (over calls) server ticket job s v) (multi.opens (over calls) server ticket job (long place piece before s) (like before more request v))
    opens_kept quiet more request ticket job s v fits =
        places_both (λ w. Some (y, asks (OpenStream v.place server) w)) (λ w. Some (long place piece before y, asks (OpenStream v.place server) w)) more request v
        (λ h. subst (λ x. Both (long place piece before) before (KeptOf place quiet s v) (Some (y, asks (OpenStream v.place server) (next_place v))) (Some (long place piece before y, x))) (sym (asks_like before more request (OpenStream v.place server) (next_place v)))
        (Each y (asks (OpenStream v.place server) (next_place v)) more request (record { fit = fits; timer = le_refl _; standing = refl; more = refl; now = refl; unposted = λ e. refl })))
      where
        y : StreamTables
        y = record (multi.waits ticket job s) { opening = Some v.place }

    goes_on_kept : (quiet : Bool) (more : Bool) (request : ℕ) (ticket : ℕ) (job : Job Request) (s : StreamTables) (v : View) (o : Option ℕ) → Fits s.connections s.watches v.timers.next
        → Both (long place piece before) before (KeptOf place quiet s v) (multi.goes_on (over calls) server ticket job s v o) (multi.goes_on (over calls) server ticket job (long place piece before s) (like before more request v) o)
    goes_on_kept quiet more request ticket job s v (Some p) fits = Each (multi.waits ticket job s) v more request (kept_as place quiet s (multi.waits ticket job s) v fits refl)
    goes_on_kept quiet more request ticket job s v None fits =
        if_both (nat_lt v.now s.calm) (λ e. backs_off_kept place piece before quiet more request ticket job s v fits) (λ e. opens_kept quiet more request ticket job s v fits)

    pub hands_kept : (quiet : Bool) (more : Bool) (request : ℕ) (ticket : ℕ) (job : Job Request) (s : StreamTables) (v : View) → Fits s.connections s.watches v.timers.next
        → Both (long place piece before) before (KeptOf place quiet s v) (multi.hands (over calls) server ticket job s v) (multi.hands (over calls) server ticket job (long place piece before s) (like before more request v))
    hands_kept quiet more request ticket job s v fits =
        same_both refl (ap (λ o. multi.hands_at (over calls) server ticket job (multi.without_found (over calls) o (long place piece before s)) (like before more request v) o) (room_longer calls place piece s v.timers.next fits))
        (go (with_room (over calls) s.connections) refl)
      where
        found : (o : Option ℕ) (p : ℕ) (c : Link Request) → option_and_then (λ q. option_map {U = ℕ × Link Request} (λ c. (q, c)) (entry_at q s.connections)) o ≡ Some (p, c) → entry_at p s.connections ≡ Some c
        found None p c e = absurd (let none : None ≡ Some (p, c) = e in cc)
        found (Some q) p c e = by (entry_at q s.connections) refl e
          where
            by : (o : Option (Link Request)) → entry_at q s.connections ≡ o → option_map {U = ℕ × Link Request} (λ c. (q, c)) o ≡ Some (p, c) → entry_at p s.connections ≡ Some c
            by None at e = absurd (let none : None ≡ Some (p, c) = e in cc)
            by (Some d) at e =
                let pair : (q, d) ≡ (p, c) = (let same : Some (q, d) ≡ Some (p, c) = e in cc) in
                subst (λ (x : ℕ × Link Request). entry_at x.0 s.connections ≡ Some x.1) pair at

        go : (o : Option (ℕ × Link Request)) → with_room (over calls) s.connections ≡ o
            → Both (long place piece before) before (KeptOf place quiet s v) (multi.hands_at (over calls) server ticket job (multi.without_found (over calls) o s) v o)
            (multi.hands_at (over calls) server ticket job (multi.without_found (over calls) (option_map (λ (f : ℕ × Link Request). (f.0, longer f.1)) o) (long place piece before s)) (like before more request v) (option_map (λ (f : ℕ × Link Request). (f.0, longer f.1)) o))
        go None e = goes_on_kept quiet more request ticket job s v s.opening fits
        go (Some f) e = holds_kept quiet more request ticket job f.0 f.1 s v fits (found (multi.newest (over calls) None s.connections) f.0 f.1 e)

    -- ---- a request is taken on

    pub takes_kept : (settings : Settings) (quiet : Bool) (more : Bool) (r : Request) (s : StreamTables) (v : View) → Fits s.connections s.watches v.timers.next
        → Both (long place piece before) before (KeptOf place quiet s v) (multi.takes (over calls) server settings false r s v) (multi.takes (over calls) server settings false r (long place piece before s) (like before more v.request v))
    takes_kept settings quiet more r s v fits =
        tickets_both (λ w. multi.takes_on (over calls) server settings false v.ticket r s w) (λ w. multi.takes_on (over calls) server settings false v.ticket r (long place piece before s) w) more v.request v
        (λ h. sets_both
        (λ w. multi.hands (over calls) server v.ticket (multi.newcomer (over calls) server settings r v.timers.next (next_ticket v)) (record s { timers = puts v.timers.next v.ticket s.timers }) w)
        (λ w. multi.hands (over calls) server v.ticket (multi.newcomer (over calls) server settings r v.timers.next (next_ticket v)) (long place piece before (record s { timers = puts v.timers.next v.ticket s.timers })) w)
        (v.now + settings.response_timeout) more v.request (next_ticket v)
        (λ h. weaker
        (λ t x k. kept_from place quiet v.board (tables_octets place s) (tables_octets place s) (v.timers.next + 1) v.timers.next v.more v.more v.now v.now refl (omega arith) refl refl t x k)
        (hands_kept quiet more v.request v.ticket (multi.newcomer (over calls) server settings r v.timers.next (next_ticket v)) (record s { timers = puts v.timers.next v.ticket s.timers }) (timed (v.now + settings.response_timeout) (next_ticket v))
        (fits_later s.connections s.watches v.timers.next (v.timers.next + 1) (omega arith) fits))))
