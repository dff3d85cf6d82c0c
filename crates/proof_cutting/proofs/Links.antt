-- One connection meets what is owed at a place.
use Rattle.std.proofs.Common.{◌≡◌, ℕ, ◌≤◌, inl, Bool, true, false, if◌then◌else◌, Some, None, List, [], ◌++◌, refl, sym, ap, subst, ◌∙◌, arith, le_refl}
use Rattle.std.specs.Prelude.{◌==◌, ◌&&◌, not, Err}
use Rattle.std.proofs.lemmas.Bool.Decides.{nat_tests}
use Rattle.client_request.specs.Request.{Request}
use Rattle.client_request.specs.Requests.{Requests}
use Rattle.client_request.specs.View.{View, Heard, Transport, told, more_at, due_timer}
use Rattle.client_request.specs.declared.error.Error.{Error}
use Rattle.client_request.specs.declared.event.Out.{Out}
use Rattle.client_request.specs.declared.event.What.TheVariants.{Bytes}
use Rattle.client_stream.specs.Frames.{has_frame, behind_frame}
use Rattle.client_stream.specs.Plain as plain
use Rattle.client_stream.specs.Plain.{Asked, Line, After, has_ended, timer_at, octets_left}
use Rattle.client_stream.specs.declared.request.AnyRequest.TheVariants.{Single}
use Rattle.client_stream.proofs.Frames.{body, behind, still_whole, same_body, same_behind}
use Rattle.client_multi.specs.Links.{Link}
use Rattle.client_multi.specs.MultiStream.{is_result}
use Rattle.proof_cutting.specs.Pieces.{like, Both, Each}
use Rattle.proof_cutting.specs.Standing.{longer_link}
use Rattle.proof_cutting.proofs.Views.{same_both, then_both}
use Rattle.proof_cutting.proofs.Lines.{AreFaults, IsKnown, Goes, frame_alike, fires_alike, takes_on_alike, same_stage}

-- ---- what a call leaves of a connection

pub record LinkGoes (l : Link Request) (n : ℕ) (moment : ℕ) (d : Link Request) (w : View) : Type 0 where
  pub place : d.place ≡ l.place
  pub timer : n ≤ w.timers.next
  pub now : w.now ≡ moment
  pub known : IsKnown (timer_at l.line.stage) n w.timers.next (timer_at d.line.stage)

-- where a request is sent or given up: its octets stand, it goes on, and errors alone are posted
pub record LinkStays (l : Link Request) (v : View) (d : Link Request) (w : View) : Type 0 where
  pub goes : LinkGoes l v.timers.next v.now d w
  pub more : w.more ≡ v.more
  pub going : has_ended d.line.stage ≡ false
  pub octets : d.octets ≡ l.octets
  pub faults : AreFaults w.board

-- where a timer fired
pub record LinkCloses (l : Link Request) (v : View) (d : Link Request) (w : View) : Type 0 where
  pub goes : LinkGoes l v.timers.next v.now d w
  pub more : w.more ≡ v.more
  pub octets : has_ended d.line.stage ≡ false → d.octets ≡ l.octets

-- where a frame was taken
pub record LinkTakes (l : Link Request) (v : View) (d : Link Request) (w : View) : Type 0 where
  pub goes : LinkGoes l v.timers.next v.now d w
  pub closed : has_ended d.line.stage ≡ true → w.more ≡ false
  pub octets : has_ended d.line.stage ≡ false → d.octets ≡ behind_frame l.octets
  pub more : has_ended d.line.stage ≡ false → w.more ≡ has_frame d.octets

-- A frame is behind it, and nothing is said of more yet.
record IsRead (l : Link Request) (v : View) (d : Link Request) (w : View) : Type 0 where
  goes : Goes l.line.stage v.timers.next v.more v.now d.line.stage w
  place : d.place ≡ l.place
  octets : d.octets ≡ octets_left d.line.stage (behind l.octets)

-- What is owed at a place by one connection that has not ended.
pub record IsLinkCuttable (place : ℕ) (calls : Transport Request (Link Request) Asked) : Type 0 where
  pub sends : (piece : List ℕ) (before : List Out) (more : Bool) (r : Request) (l : Link Request) (v : View) → has_ended l.line.stage ≡ false → AreFaults v.board
      → Both (longer_link place piece) before (LinkStays l v) (calls.send r l v) (calls.send r (longer_link place piece l) (like before more v.request v))
  pub cancels : (piece : List ℕ) (before : List Out) (more : Bool) (request : ℕ) (r : Asked) (l : Link Request) (v : View) → has_ended l.line.stage ≡ false → AreFaults v.board
      → Both (longer_link place piece) before (LinkStays l v) (calls.cancel r l v) (calls.cancel r (longer_link place piece l) (like before more request v))
  pub fires : (piece : List ℕ) (before : List Out) (more : Bool) (request timer : ℕ) (l : Link Request) (v : View) → has_ended l.line.stage ≡ false
      → Both (longer_link place piece) before (LinkCloses l v) (calls.step (due_timer timer) l v) (calls.step (due_timer timer) (longer_link place piece l) (like before more request v))
  pub takes : (piece : List ℕ) (before : List Out) (request : ℕ) (l : Link Request) (v : View) → has_ended l.line.stage ≡ false → l.place ≡ place → has_frame l.octets ≡ true → v.more ≡ false
      → Both (longer_link place piece) before (LinkTakes l v) (calls.step (more_at place) l v) (calls.step (more_at place) (longer_link place piece l) (like before false request v))
  pub bytes : (piece : List ℕ) (l : Link Request) (v : View) → has_ended l.line.stage ≡ false → l.place ≡ place → calls.step (told (Bytes place piece)) l v ≡ calls.step (more_at place) (longer_link place piece l) v
  pub rests : (l : Link Request) (v : View) → l.place ≡ place → has_frame l.octets ≡ false → calls.step (more_at place) l v ≡ Some (l, v)

same_place : (n : ℕ) → (n == n) ≡ true
same_place n = grind (arith, nat_tests)

module _ (piece : List ℕ) where
  -- the octets with more behind them, where they stand at the place and the connection has not ended
  abbrev longer_by : (is_at ends : Bool) → List ℕ → List ℕ
  longer_by is_at ends octets = if is_at && not ends then octets ++ piece else octets

  longer_is : (place : ℕ) (l : Link Request) → longer_link place piece l ≡ record l { octets = longer_by (l.place == place) (has_ended l.line.stage) l.octets }
  longer_is place l = either ((l.place == place) && not (has_ended l.line.stage))
    where
      either : (b : Bool) → (if b then record l { octets = l.octets ++ piece } else l) ≡ record l { octets = if b then l.octets ++ piece else l.octets }
      either true = refl
      either false = refl

  -- what of it stays
  pub longer_line : (place : ℕ) (l : Link Request) → (longer_link place piece l).line ≡ l.line
  longer_line place l = ap (λ (l : Link Request). l.line) (longer_is place l)

  pub longer_place : (place : ℕ) (l : Link Request) → (longer_link place piece l).place ≡ l.place
  longer_place place l = ap (λ (l : Link Request). l.place) (longer_is place l)

  -- at the place, and at another one
  pub longer_here : (place : ℕ) (l : Link Request) → l.place ≡ place → has_ended l.line.stage ≡ false → longer_link place piece l ≡ record l { octets = l.octets ++ piece }
  longer_here place l at going =
      longer_is place l
      ∙ ap (λ b. record l { octets = longer_by b (has_ended l.line.stage) l.octets }) (ap (λ n. n == place) at ∙ same_place place)
      ∙ ap (λ b. record l { octets = longer_by true b l.octets }) going

  pub longer_there : (place : ℕ) (l : Link Request) → (l.place == place) ≡ false → longer_link place piece l ≡ l
  longer_there place l at = longer_is place l ∙ ap (λ b. record l { octets = longer_by b (has_ended l.line.stage) l.octets }) at

  pub longer_ended : (place : ℕ) (l : Link Request) → has_ended l.line.stage ≡ true → longer_link place piece l ≡ l
  longer_ended place l e = longer_is place l ∙ either (l.place == place) (has_ended l.line.stage) e
    where
      either : (b c : Bool) → c ≡ true → record l { octets = longer_by b c l.octets } ≡ l
      either true true e = refl
      either false true e = refl
      either b false e = absurd (cc)

  -- another line in its place
  moved_longer : (place : ℕ) (l : Link Request) (t : Line Request Request) → has_ended l.line.stage ≡ false → has_ended t.stage ≡ false
      → record l { octets = longer_by (l.place == place) (has_ended l.line.stage) l.octets; line = t } ≡ longer_link place piece (record l { line = t })
  moved_longer place l t a b = ap (λ c. record l { octets = longer_by (l.place == place) c l.octets; line = t }) (a ∙ sym b) ∙ sym (longer_is place (record l { line = t }))

  kept_by : (place : ℕ) (l : Link Request) (t : Line Request Request) (octets : List ℕ)
      → record l { octets = octets_left t.stage (longer_by (l.place == place) false octets); line = t } ≡ longer_link place piece (record l { octets = octets_left t.stage octets; line = t })
  kept_by place l t octets =
      ap (λ o. record l { octets = o; line = t }) (either (l.place == place) (has_ended t.stage)) ∙ sym (longer_is place (record l { octets = octets_left t.stage octets; line = t }))
    where
      either : (b c : Bool) → (if c then [] else longer_by b false octets) ≡ longer_by b c (if c then [] else octets)
      either true true = refl
      either true false = refl
      either false true = refl
      either false false = refl

  kept_longer : (place : ℕ) (l : Link Request) (t : Line Request Request) → has_ended l.line.stage ≡ false
      → record l { octets = octets_left t.stage (longer_by (l.place == place) (has_ended l.line.stage) l.octets); line = t } ≡ longer_link place piece (record l { octets = octets_left t.stage l.octets; line = t })
  kept_longer place l t going = ap (λ c. record l { octets = octets_left t.stage (longer_by (l.place == place) c l.octets); line = t }) going ∙ kept_by place l t l.octets

module _ (one several : Requests Request) (place : ℕ) where
  each_link : (piece : List ℕ) (before : List Out) (Leaves : Link Request → View → Type 0) (d e : Link Request) (v : View) (more : Bool) (request : ℕ) → e ≡ longer_link place piece d → Leaves d v
      → Both (longer_link place piece) before Leaves (Some (d, v)) (Some (e, like before more request v))
  each_link piece before Leaves d e v more request is l = subst (λ e. Both (longer_link place piece) before Leaves (Some (d, v)) (Some (e, like before more request v))) (sym is) (Each d v more request l)

  goes_link : (l : Link Request) (v : View) (d : Link Request) (w : View) → d.place ≡ l.place → Goes l.line.stage v.timers.next v.more v.now d.line.stage w → LinkGoes l v.timers.next v.now d w
  goes_link l v d w at g = record { place = at; timer = g.timer; now = g.now; known = g.known }

  link_sends : ((request : Request) (error : Error) → several.composed request ≡ Err error → is_result (Err error) ≡ false)
      → (piece : List ℕ) (before : List Out) (more : Bool) (r : Request) (l : Link Request) (v : View) → has_ended l.line.stage ≡ false → AreFaults v.board
      → Both (longer_link place piece) before (LinkStays l v) (plain.plain_send one several (Single r) l v) (plain.plain_send one several (Single r) (longer_link place piece l) (like before more v.request v))
  link_sends fair piece before more r l v going fs =
      same_both refl (ap (λ (l : Link Request). plain.plain_send one several (Single r) l (like before more v.request v)) (longer_is piece place l))
      (then_both (λ x. Some (record l { line = x.0 }, x.1)) (λ x. Some (record l { octets = longer_by piece (l.place == place) (has_ended l.line.stage) l.octets; line = x.0 }, x.1))
      (takes_on_alike one several before l.place fair more l.settings (Single r) l.line v going fs)
      (λ t w more request s. each_link piece before (LinkStays l v) (record l { line = t }) (record l { octets = longer_by piece (l.place == place) (has_ended l.line.stage) l.octets; line = t }) w more request
      (moved_longer piece place l t going s.going)
      (record { goes = goes_link l v (record l { line = t }) w refl s.goes; more = (let g = s.goes in g.more); going = s.going; octets = refl; faults = s.faults })))

  link_cancels : (piece : List ℕ) (before : List Out) (more : Bool) (request : ℕ) (r : Asked) (l : Link Request) (v : View) → has_ended l.line.stage ≡ false → AreFaults v.board
      → Both (longer_link place piece) before (LinkStays l v) (plain.plain_cancel r.ticket l v) (plain.plain_cancel r.ticket (longer_link place piece l) (like before more request v))
  link_cancels piece before more request r l v going fs =
      let t : Line Request Request = plain.gives_up r.ticket l.line in
      let same : t.stage ≡ l.line.stage = same_stage r.ticket l.line in
      let going_on : has_ended t.stage ≡ false = ap has_ended same ∙ going in
      same_both refl (ap (λ (l : Link Request). plain.plain_cancel r.ticket l (like before more request v)) (longer_is piece place l))
      (each_link piece before (LinkStays l v) (record l { line = t }) (record l { octets = longer_by piece (l.place == place) (has_ended l.line.stage) l.octets; line = t }) v more request
      (moved_longer piece place l t going going_on)
      (record { goes = record { place = refl; timer = le_refl _; now = refl; known = λ i e. inl (ap timer_at (sym same) ∙ e) }; more = refl; going = going_on; octets = refl; faults = fs }))

  -- a step of a connection that has not ended
  heard : (h : Heard) (l : Link Request) (v : View) → has_ended l.line.stage ≡ false → plain.plain_step one several h l v ≡ plain.hears one several h l v
  heard h l v going = ap (λ b. if b then Some (l, v) else plain.hears one several h l v) going

  link_fires : (piece : List ℕ) (before : List Out) (more : Bool) (request timer : ℕ) (l : Link Request) (v : View) → has_ended l.line.stage ≡ false
      → Both (longer_link place piece) before (LinkCloses l v) (plain.plain_step one several (due_timer timer) l v) (plain.plain_step one several (due_timer timer) (longer_link place piece l) (like before more request v))
  link_fires piece before more request timer l v going =
      same_both (heard (due_timer timer) l v going)
      (ap (λ (l : Link Request). plain.plain_step one several (due_timer timer) l (like before more request v)) (longer_is piece place l)
      ∙ heard (due_timer timer) (record l { octets = longer_by piece (l.place == place) (has_ended l.line.stage) l.octets }) (like before more request v) going)
      (then_both (λ x. Some (record l { octets = octets_left x.0.stage l.octets; line = x.0 }, x.1)) (λ x. Some (record l { octets = octets_left x.0.stage (longer_by piece (l.place == place) (has_ended l.line.stage) l.octets); line = x.0 }, x.1))
      (fires_alike before more request l.place timer l.line v l.line.stage)
      (λ t w more request g. each_link piece before (LinkCloses l v) (record l { octets = octets_left t.stage l.octets; line = t }) (record l { octets = octets_left t.stage (longer_by piece (l.place == place) (has_ended l.line.stage) l.octets); line = t }) w more request
      (kept_longer piece place l t going)
      (record { goes = goes_link l v (record l { octets = octets_left t.stage l.octets; line = t }) w refl g; more = g.more; octets = λ e. ap (λ b. if b then [] else l.octets) e })))

  -- ---- a frame is taken

  reads_none : (l : Link Request) (v : View) → has_frame l.octets ≡ false → plain.reads one several l v ≡ Some (l, v)
  reads_none l v h =
      ap (λ b. plain.says_if_more (plain.takes_frame one several l v (if b then Some (body l.octets) else None))) h
      ∙ ap (λ b. Some (l, (if b then record v { more = true } else v))) h

  reads_one : (l : Link Request) (v : View) → has_frame l.octets ≡ true → plain.reads one several l v ≡ plain.says_if_more (plain.with_line l (behind l.octets) (plain.frame_comes one several l.place (body l.octets) l.line v))
  reads_one l v h =
      ap (λ b. plain.says_if_more (plain.takes_frame one several l v (if b then Some (body l.octets) else None))) h
      ∙ ap (λ b. plain.says_if_more (plain.with_line l (if b then behind l.octets else l.octets) (plain.frame_comes one several l.place (body l.octets) l.line v))) h

  link_rests : (l : Link Request) (v : View) → has_frame l.octets ≡ false → plain.plain_step one several (more_at place) l v ≡ Some (l, v)
  link_rests l v h = either (has_ended l.line.stage) (l.place == place)
    where
      either : (b c : Bool) → (if b then Some (l, v) else if c then plain.reads one several l v else Some (l, v)) ≡ Some (l, v)
      either true c = refl
      either false true = reads_none l v h
      either false false = refl

  -- what is heard at its place is read
  reads_more : (l : Link Request) (v : View) → has_ended l.line.stage ≡ false → l.place ≡ place → plain.plain_step one several (more_at place) l v ≡ plain.reads one several l v
  reads_more l v going at = heard (more_at place) l v going ∙ ap (λ b. if b then plain.reads one several l v else Some (l, v)) (ap (λ n. n == place) at ∙ same_place place)

  link_bytes : (piece : List ℕ) (l : Link Request) (v : View) → has_ended l.line.stage ≡ false → l.place ≡ place
      → plain.plain_step one several (told (Bytes place piece)) l v ≡ plain.plain_step one several (more_at place) (longer_link place piece l) v
  link_bytes piece l v going at =
      let m : Link Request = record l { octets = l.octets ++ piece } in
      heard (told (Bytes place piece)) l v going
      ∙ ap (λ b. if b then plain.reads one several m v else Some (l, v)) (ap (λ n. n == place) at ∙ same_place place)
      ∙ sym (ap (λ (l : Link Request). plain.plain_step one several (more_at place) l v) (longer_here piece place l at going) ∙ reads_more m v going at)

  -- the second says that a frame stands, or not, by its own octets
  says_alike : (before : List Out) (d e : Link Request) (more : Bool) (request : ℕ) (w : View)
      → plain.says_more e (like before more request w) ≡ like before (if has_frame e.octets then true else more) request (plain.says_more d w)
  says_alike before d e more request w = either (has_frame d.octets) (has_frame e.octets)
    where
      either : (b c : Bool) → (if c then like before true request w else like before more request w) ≡ like before (if c then true else more) request (if b then record w { more = true } else w)
      either true true = refl
      either true false = refl
      either false true = refl
      either false false = refl

  said_takes : (l : Link Request) (v : View) (d : Link Request) (w : View) → has_frame l.octets ≡ true → v.more ≡ false → IsRead l v d w → LinkTakes l v d (plain.says_more d w)
  said_takes l v d w whole quiet r = record {
    goes = record {
      place = r.place;
      timer = subst (λ n. v.timers.next ≤ n) (sym (next (has_frame d.octets))) (let g = r.goes in g.timer);
      now = moment (has_frame d.octets) ∙ (let g = r.goes in g.now);
      known = subst (λ n. IsKnown (timer_at l.line.stage) v.timers.next n (timer_at d.line.stage)) (sym (next (has_frame d.octets))) (let g = r.goes in g.known);
    };
    closed = λ e. said ∙ ap has_frame (r.octets ∙ ap (λ b. if b then [] else behind l.octets) e);
    octets = λ e. r.octets ∙ ap (λ b. if b then [] else behind l.octets) e ∙ sym (ap (λ b. if b then behind l.octets else l.octets) whole);
    more = λ e. said;
  }
    where
      next : (b : Bool) → (if b then record w { more = true } else w).timers.next ≡ w.timers.next
      next true = refl
      next false = refl

      moment : (b : Bool) → (if b then record w { more = true } else w).now ≡ w.now
      moment true = refl
      moment false = refl

      says : (b : Bool) → w.more ≡ false → (if b then record w { more = true } else w).more ≡ b
      says true e = refl
      says false e = e

      said : (plain.says_more d w).more ≡ has_frame d.octets
      said = says (has_frame d.octets) ((let g = r.goes in g.more) ∙ quiet)

  link_takes : (piece : List ℕ) (before : List Out) (request : ℕ) (l : Link Request) (v : View) → has_ended l.line.stage ≡ false → l.place ≡ place → has_frame l.octets ≡ true → v.more ≡ false
      → Both (longer_link place piece) before (LinkTakes l v) (plain.plain_step one several (more_at place) l v) (plain.plain_step one several (more_at place) (longer_link place piece l) (like before false request v))
  link_takes piece before request l v going at whole quiet =
      let m : Link Request = record l { octets = l.octets ++ piece } in
      let u : View = like before false request v in
      same_both (reads_more l v going at ∙ reads_one l v whole)
      (ap (λ (l : Link Request). plain.plain_step one several (more_at place) l u) (longer_here piece place l at going)
      ∙ reads_more m u going at
      ∙ reads_one m u (still_whole l.octets piece whole)
      ∙ ap (λ f. plain.says_if_more (plain.with_line m (behind (l.octets ++ piece)) (plain.frame_comes one several l.place f l.line u))) (same_body l.octets piece whole)
      ∙ ap (λ o. plain.says_if_more (plain.with_line m o (plain.frame_comes one several l.place (body l.octets) l.line u))) (same_behind l.octets piece whole))
      (then_both (λ x. Some (x.0, plain.says_more x.0 x.1)) (λ x. Some (x.0, plain.says_more x.0 x.1))
      (then_both (λ x. Some (record l { octets = octets_left x.0.stage (behind l.octets); line = x.0 }, x.1)) (λ x. Some (record l { octets = octets_left x.0.stage (behind l.octets ++ piece); line = x.0 }, x.1))
      (frame_alike one several before l.place false request (body l.octets) l.line v)
      (λ t w more request g. each_link piece before (IsRead l v) (record l { octets = octets_left t.stage (behind l.octets); line = t }) (record l { octets = octets_left t.stage (behind l.octets ++ piece); line = t }) w more request
      (ap (λ b. record l { octets = octets_left t.stage (longer_by piece b false (behind l.octets)); line = t }) (sym (ap (λ n. n == place) at ∙ same_place place)) ∙ kept_by piece place l t (behind l.octets))
      (record { goes = g; place = refl; octets = refl })))
      (λ d w more request r.
      subst (λ x. Both (longer_link place piece) before (LinkTakes l v) (Some (d, plain.says_more d w)) (Some (longer_link place piece d, x)))
      (sym (says_alike before d (longer_link place piece d) more request w))
      (Each d (plain.says_more d w) (if has_frame (longer_link place piece d).octets then true else more) request (said_takes l v d w whole quiet r))))

pub links_are_cuttable : (one several : Requests Request) (place : ℕ) → ((request : Request) (error : Error) → several.composed request ≡ Err error → is_result (Err error) ≡ false)
    → IsLinkCuttable place (plain.transport one several)
links_are_cuttable one several place fair = record {
  sends = link_sends one several place fair;
  cancels = link_cancels one several place;
  fires = link_fires one several place;
  takes = link_takes one several place;
  bytes = link_bytes one several place;
  rests = λ l v at h. link_rests one several place l v h;
}
