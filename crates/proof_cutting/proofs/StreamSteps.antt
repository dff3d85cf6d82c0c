-- What reconnection hears does the same over longer octets, until a frame stands that did not stand before.
use Rattle.std.proofs.Common.{◌≡◌, ℕ, ◌⊎◌, inl, inr, Bool, true, false, if◌then◌else◌, Option, Some, None, List, refl, sym, ap, ap₂, subst, ◌∙◌, le_refl}
use Rattle.std.specs.Prelude.{◌==◌, ◌&&◌, not, option_map, option_and_then}
use Rattle.client_request.specs.Numbered.{frees, entry_at}
use Rattle.client_request.specs.Request.{Request}
use Rattle.client_request.specs.View.{View, Transport, told, more_at, due_timer}
use Rattle.client_request.specs.declared.event.Out.{Out}
use Rattle.client_request.specs.declared.event.What.TheVariants.{Bytes}
use Rattle.client_stream.specs.Frames.{behind_frame}
use Rattle.client_stream.specs.Plain.{Asked, has_ended, timer_at}
use Rattle.client_multi.specs.Links.{Link}
use Rattle.client_multi.specs.MultiStream as multi
use Rattle.client_multi.specs.MultiStream.{lent, taken, unwatched}
use Rattle.client_multi.specs.declared.multi_stream.job.Job.{Job}
use Rattle.proof_cutting.specs.Pieces.{like, stands, IsReady, MayClose, Takes, Both, Each}
use Rattle.proof_cutting.specs.Standing.{StreamTables, link_octets, longer_link, longer_tables}
use Rattle.proof_cutting.proofs.Views.{weaker, if_both}
use Rattle.proof_cutting.proofs.Links.{LinkCloses, LinkTakes, IsLinkCuttable, longer_line}
use Rattle.proof_cutting.proofs.Longer.{frees_here, longer_absent}
use Rattle.proof_cutting.proofs.Fitting.{Fits, over, put, itself, put_itself}
use Rattle.proof_cutting.proofs.Putting.{tables_octets, octets_back, entry_longer}
use Rattle.proof_cutting.proofs.Reconnecting.{KeptOf, kept_itself, at_ticket_kept, called, put_octets, same_octets, times_out_kept, hands_kept}

abbrev pub FitTables : StreamTables → ℕ → Type 0
FitTables t n = Fits t.connections t.watches n

module _ (place : ℕ) (calls : Transport Request (Link Request) Asked) (laws : IsLinkCuttable place calls) (piece : List ℕ) (before : List Out) where
  abbrev long : StreamTables → StreamTables
  long t = longer_tables place piece t

  abbrev longer : Link Request → Link Request
  longer l = longer_link place piece l

  -- ---- the octets of a connection at the place

  link_is : (c : Link Request) → c.place ≡ place → has_ended c.line.stage ≡ false → link_octets place c ≡ Some c.octets
  link_is c at going =
      ap (λ n. if (n == place) && not (has_ended c.line.stage) then Some c.octets else None) at
      ∙ ap (λ b. if b && not (has_ended c.line.stage) then Some c.octets else None) (itself place)
      ∙ ap (λ b. if not b then Some c.octets else None) going

  link_ended : (d : Link Request) → has_ended d.line.stage ≡ true → link_octets place d ≡ None
  link_ended d e = ap (λ b. if (d.place == place) && not b then Some d.octets else None) e ∙ either (d.place == place)
    where
      either : (b : Bool) → (if b && false then Some d.octets else None) ≡ None
      either true = refl
      either false = refl

  standing_is : (s : StreamTables) (n : ℕ) (c : Link Request) → FitTables s n → entry_at place s.connections ≡ Some c → tables_octets place s ≡ Some c.octets
  standing_is s n c fits at = let x = fits.placed place c at in ap (option_and_then (link_octets place)) at ∙ link_is c x.0 x.1

  -- ---- a timer fired

  abbrev Closing : StreamTables → View → StreamTables → View → Type 0
  Closing s v t w = MayClose (tables_octets place) FitTables s v t w

  closes_octets : (p : ℕ) (c d : Link Request) (s : StreamTables) (n : ℕ) → FitTables s n → entry_at p s.connections ≡ Some c → d.place ≡ c.place → (has_ended d.line.stage ≡ false → d.octets ≡ c.octets)
      → (tables_octets place (put calls p c d s) ≡ tables_octets place s) ⊎ (tables_octets place (put calls p c d s) ≡ None)
  closes_octets p c d s n fits at is_at same = go (has_ended d.line.stage) refl
    where
      ends : has_ended d.line.stage ≡ true → (b : Bool) → (p == place) ≡ b → (tables_octets place (put calls p c d s) ≡ tables_octets place s) ⊎ (tables_octets place (put calls p c d s) ≡ None)
      ends e true b = inr (octets_back calls place p c s n fits at d ∙ ap (λ b. if b then link_octets place d else tables_octets place s) b ∙ link_ended d e)
      ends e false b = inl (octets_back calls place p c s n fits at d ∙ ap (λ b. if b then link_octets place d else tables_octets place s) b)

      go : (b : Bool) → has_ended d.line.stage ≡ b → (tables_octets place (put calls p c d s) ≡ tables_octets place s) ⊎ (tables_octets place (put calls p c d s) ≡ None)
      go true e = ends e (p == place) refl
      go false e = inl (put_octets place calls laws piece before p c d s n fits at (same_octets place calls laws piece before c d is_at (e ∙ sym (let x = fits.placed p c at in x.1)) (same e)))

  kept_closing : (s : StreamTables) (v : View) (t : StreamTables) (w : View) → KeptOf place false s v t w → Closing s v t w
  kept_closing s v t w k = record { fit = k.fit; timer = k.timer; octets = inl k.standing; more = k.more; now = k.now }

  hears_timer : (more : Bool) (request timer : ℕ) (s : StreamTables) (v : View) (o : Option ℕ) → FitTables s v.timers.next
      → Both long before (Closing s v) (multi.hears_at (over calls) (due_timer timer) s v o) (multi.hears_at (over calls) (due_timer timer) (long s) (like before more request v) o)
  hears_timer more request timer s v None fits = Each s v more request (kept_closing s v s v (kept_itself place false s v fits))
  hears_timer more request timer s v (Some p) fits =
      called place calls laws piece before (Closing s v) (λ c d w. LinkCloses c (lent v) d w) false more request p (calls.step (due_timer timer)) (calls.step (due_timer timer)) s v fits
      (λ e. kept_closing s v s v (kept_itself place false s v fits))
      (λ c e. laws.fires piece before more request timer c (lent v) (let x = fits.placed p c e in x.1))
      (λ c d w e l. (l.goes, λ q. absurd (cc)))
      (λ c d w e l t x k. record {
        fit = k.fit;
        timer = k.timer;
        octets = stood t (put calls p c d s) k.standing (closes_octets p c d s v.timers.next fits e (let g = l.goes in g.place) l.octets);
        more = k.more ∙ l.more;
        now = k.now;
      })
    where
      stood : (t y : StreamTables) → tables_octets place t ≡ tables_octets place y → (tables_octets place y ≡ tables_octets place s) ⊎ (tables_octets place y ≡ None) → (tables_octets place t ≡ tables_octets place s) ⊎ (tables_octets place t ≡ None)
      stood t y e (inl a) = inl (e ∙ a)
      stood t y e (inr a) = inr (e ∙ a)

  module _ (server : ℕ) where
    fires_kept : (timer : ℕ) (more : Bool) (request : ℕ) (ticket : ℕ) (job : Job Request) (s : StreamTables) (v : View) → FitTables s v.timers.next
        → Both long before (KeptOf place false s v) (multi.fires (over calls) server timer ticket job s v) (multi.fires (over calls) server timer ticket job (long s) (like before more request v))
    fires_kept timer more request ticket job s v fits =
        if_both (timer == job.end) (λ e. times_out_kept place calls laws piece before more request ticket job s v fits) (λ e. hands_kept place calls laws piece before server false more request ticket job s v fits)

    pub due_closes : (more : Bool) (request timer : ℕ) (s : StreamTables) (v : View) → FitTables s v.timers.next
        → Both long before (Closing s v) (multi.due (over calls) server timer s v) (multi.due (over calls) server timer (long s) (like before more request v))
    due_closes more request timer s v fits = go (entry_at timer s.timers)
      where
        go : (o : Option ℕ) → Both long before (Closing s v) (multi.due_at (over calls) server timer s v o) (multi.due_at (over calls) server timer (long s) (like before more request v) o)
        go None = hears_timer more request timer s v (entry_at timer s.watches) fits
        go (Some ticket) =
            weaker (λ t w k. kept_closing s v t w (kept_of t w k))
            (at_ticket_kept place piece before false (multi.fires (over calls) server timer) (fires_kept timer) more request ticket (record s { timers = frees timer s.timers }) v fits)
          where
            kept_of : (t : StreamTables) (w : View) → KeptOf place false (record s { timers = frees timer s.timers }) v t w → KeptOf place false s v t w
            kept_of t w k = k

  -- ---- a frame is taken

  abbrev Taking : StreamTables → View → StreamTables → View → Type 0
  Taking s v t w = Takes (tables_octets place) FitTables s v t w

  -- what the connection leaves is what stands
  taken_octets : (c d : Link Request) (s : StreamTables) (v w : View) → FitTables s v.timers.next → entry_at place s.connections ≡ Some c → LinkTakes c (lent v) d w
      → ((tables_octets place (put calls place c d s) ≡ option_map behind_frame (tables_octets place s)) ⊎ (tables_octets place (put calls place c d s) ≡ None)) × (w.more ≡ stands (tables_octets place (put calls place c d s)))
  taken_octets c d s v w fits at l = go (has_ended d.line.stage) refl
    where
      left : tables_octets place (put calls place c d s) ≡ link_octets place d
      left = octets_back calls place place c s v.timers.next fits at d ∙ ap (λ b. if b then link_octets place d else tables_octets place s) (itself place)

      go : (b : Bool) → has_ended d.line.stage ≡ b
          → ((tables_octets place (put calls place c d s) ≡ option_map behind_frame (tables_octets place s)) ⊎ (tables_octets place (put calls place c d s) ≡ None)) × (w.more ≡ stands (tables_octets place (put calls place c d s)))
      go true e = let none = left ∙ link_ended d e in (inr none, l.closed e ∙ sym (ap stands none))
      go false e =
          let some = left ∙ link_is d ((let g = l.goes in g.place) ∙ (let x = fits.placed place c at in x.0)) e in
          (inl (some ∙ ap Some (l.octets e) ∙ sym (ap (option_map behind_frame) (standing_is s v.timers.next c fits at))), l.more e ∙ sym (ap stands some))

  pub frame_taken : (request : ℕ) (s : StreamTables) (v : View) → FitTables s v.timers.next → IsReady (tables_octets place s) → v.more ≡ false
      → Both long before (Taking s v) (multi.calls_at (over calls) place (calls.step (more_at place)) s v) (multi.calls_at (over calls) place (calls.step (more_at place)) (long s) (like before false request v))
  frame_taken request s v fits ready quiet =
      called place calls laws piece before (Taking s v) (λ c d w. LinkTakes c (lent v) d w) false false request place (calls.step (more_at place)) (calls.step (more_at place)) s v fits
      (λ e. let none = ap (option_and_then (link_octets place)) e in record { fit = fits; timer = le_refl _; octets = inr none; more = quiet ∙ sym (ap stands none); now = refl })
      (λ c e. let x = fits.placed place c e in laws.takes piece before request c (lent v) x.1 x.0 (subst IsReady (standing_is s v.timers.next c fits e) ready) quiet)
      (λ c d w e l. (l.goes, λ q. absurd (cc)))
      (λ c d w e l t x k.
      let o = taken_octets c d s v w fits e l in
      record { fit = k.fit; timer = k.timer; octets = stood t (put calls place c d s) k.standing o.0; more = k.more ∙ o.1 ∙ sym (ap stands k.standing); now = k.now })
    where
      stood : (t y : StreamTables) → tables_octets place t ≡ tables_octets place y → (tables_octets place y ≡ option_map behind_frame (tables_octets place s)) ⊎ (tables_octets place y ≡ None) → (tables_octets place t ≡ option_map behind_frame (tables_octets place s)) ⊎ (tables_octets place t ≡ None)
      stood t y e (inl a) = inl (e ∙ a)
      stood t y e (inr a) = inr (e ∙ a)

  -- ---- octets come, or none that are a frame

  taken_here : (c : Link Request) (s : StreamTables) → taken (over calls) place (longer c) (long s) ≡ taken (over calls) place c s
  taken_here c s =
      ap₂ (λ (es : List (ℕ × Link Request)) (ws : List (ℕ × ℕ)). record s { connections = es; watches = ws }) (frees_here place piece s.connections)
      (ap (λ t. unwatched (timer_at t.stage) s.watches) (longer_line piece place c))

  pub bytes_come : (s : StreamTables) (v : View) → FitTables s v.timers.next
      → multi.calls_at (over calls) place (calls.step (told (Bytes place piece))) s v ≡ multi.calls_at (over calls) place (calls.step (more_at place)) (long s) v
  bytes_come s v fits =
      go (entry_at place s.connections) refl
      ∙ sym (ap (λ o. multi.calls (over calls) place (calls.step (more_at place)) (long s) v o) (entry_longer calls place piece s v.timers.next fits place))
    where
      go : (o : Option (Link Request)) → entry_at place s.connections ≡ o → multi.calls (over calls) place (calls.step (told (Bytes place piece))) s v o ≡ multi.calls (over calls) place (calls.step (more_at place)) (long s) v (option_map longer o)
      go None e = ap (λ (es : List (ℕ × Link Request)). Some (record s { connections = es }, v)) (sym (longer_absent place piece s.connections e))
      go (Some c) e =
          let x = fits.placed place c e in
          ap (option_and_then (multi.returns (over calls) place (taken (over calls) place c s) v)) (laws.bytes piece c (lent v) x.1 x.0)
          ∙ ap (λ t. option_and_then (multi.returns (over calls) place t v) (calls.step (more_at place) (longer c) (lent v))) (sym (taken_here c s))

  pub none_taken : (s : StreamTables) (v : View) → FitTables s v.timers.next → stands (tables_octets place s) ≡ false → multi.calls_at (over calls) place (calls.step (more_at place)) s v ≡ Some (s, v)
  none_taken s v fits none = go (entry_at place s.connections) refl
    where
      go : (o : Option (Link Request)) → entry_at place s.connections ≡ o → multi.calls (over calls) place (calls.step (more_at place)) s v o ≡ Some (s, v)
      go None e = refl
      go (Some c) e =
          let x = fits.placed place c e in
          ap (option_and_then (multi.returns (over calls) place (taken (over calls) place c s) v)) (laws.rests c (lent v) x.0 (ap stands (sym (standing_is s v.timers.next c fits e)) ∙ none))
          ∙ ap (λ t. Some (t, v)) (put_itself calls place c s v.timers.next fits e)

  pub none_heard : (s : StreamTables) (v : View) → FitTables s v.timers.next → tables_octets place s ≡ None → multi.calls_at (over calls) place (calls.step (told (Bytes place piece))) s v ≡ Some (s, v)
  none_heard s v fits none = go (entry_at place s.connections) refl
    where
      go : (o : Option (Link Request)) → entry_at place s.connections ≡ o → multi.calls (over calls) place (calls.step (told (Bytes place piece))) s v o ≡ Some (s, v)
      go None e = refl
      go (Some c) e = absurd (let some : Some c.octets ≡ None = sym (standing_is s v.timers.next c fits e) ∙ none in cc)
