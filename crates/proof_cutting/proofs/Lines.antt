-- A connection's calls agree whatever was put out before, and say the same of more octets.
use Rattle.std.proofs.Common.{◌≡◌, ℕ, ◌+◌, ◌≤◌, ◌<◌, ◌⊎◌, inl, inr, Bool, true, false, if◌then◌else◌, Option, Some, None, List, [], ◌∷◌, length, refl, sym, ap, subst, ◌∙◌, arith, le_refl, le_trans}
use Rattle.std.specs.Prelude.{◌==◌, nat_le, is_some, option_map, option_and_then, Ok, Err}
use Rattle.std.specs.Prelude.{Result}
use Rattle.std.specs.Option.{unwrap_or}
use Rattle.dns_base.specs.Message.{sole_question}
use Rattle.client_request.specs.Board.{Part, posted}
use Rattle.client_request.specs.Numbered.{puts, frees, entry_at}
use Rattle.client_request.specs.Requests.{Requests}
use Rattle.client_request.specs.View.{View, sets_timer, asks, answers}
use Rattle.client_request.specs.declared.board.Posted.{Posted}
use Rattle.client_request.specs.declared.error.Error.{Error}
use Rattle.client_request.specs.declared.error.Error.TheVariants as errors
use Rattle.client_request.specs.declared.event.Out.{Out}
use Rattle.client_request.specs.declared.event.Out.TheVariants.{Write, Close}
use Rattle.client_transfer.specs.States.{checked}
use Rattle.client_transfer.specs.Transfers.{part_given}
use Rattle.client_transfer.specs.declared.state.XfrState.{XfrState}
use Rattle.client_transfer.specs.declared.state.XfrState.TheVariants.{AxfrInit, IxfrInit}
use Rattle.client_stream.specs.IdTable.{inserted, removed}
use Rattle.client_stream.specs.Keepalive.{idle_time_told}
use Rattle.client_stream.specs.Plain as plain
use Rattle.client_stream.specs.Plain.{Line, After, has_ended, timer_at, message_id}
use Rattle.client_settings.specs.Stream.{Settings}
use Rattle.client_stream.specs.declared.request.AnyRequest.{AnyRequest}
use Rattle.client_stream.specs.declared.request.AnyRequest.TheVariants.{Single, Transfer}
use Rattle.client_stream.specs.declared.request.Holder.{Holder}
use Rattle.client_stream.specs.declared.request.Holder.TheVariants.{Waits, Transfers, GivenUp}
use Rattle.client_stream.specs.declared.request.QueuedRequest.{QueuedRequest}
use Rattle.client_stream.specs.declared.line.LineStage.{LineStage}
use Rattle.client_stream.specs.declared.line.LineStage.TheVariants as stage
use Rattle.client_multi.specs.MultiStream.{is_result}
use Rattle.proof_cutting.specs.Pieces.{like, Both, Each}
use Rattle.proof_cutting.proofs.Views.{asks_like, timed, next_ticket, weaker, if_both, sets_both, tickets_both, then_both}

-- ---- what is posted

-- nothing is posted but errors after which a request may be sent anew
abbrev pub AreFaults : List Posted → Type 0
AreFaults [] = Unit {0}
AreFaults (p ∷ ps) = (is_result p.part ≡ false) × AreFaults ps

pub fault_posted : (ticket : ℕ) (part : Part) (ps : List Posted) → is_result part ≡ false → AreFaults ps → AreFaults (posted ticket part ps)
fault_posted ticket part [] f fs = (f, tt)
fault_posted ticket part (p ∷ ps) f fs = (fs.0, fault_posted ticket part ps f fs.1)

-- ---- timers

-- The timer that is set was set before, or was drawn since.
abbrev pub IsKnown : Option ℕ → (n m : ℕ) → Option ℕ → Type 0
IsKnown at n m to = (i : ℕ) → to ≡ Some i → (at ≡ Some i) ⊎ ((n ≤ i) × (i < m))

-- What a call leaves of the stage and of the view: numbers of timers are drawn alone.
pub record Goes (at : LineStage) (n : ℕ) (said : Bool) (moment : ℕ) (to : LineStage) (w : View) : Type 0 where
  pub timer : n ≤ w.timers.next
  pub more : w.more ≡ said
  pub now : w.now ≡ moment
  pub known : IsKnown (timer_at at) n w.timers.next (timer_at to)

pub goes_nowhere : (at : LineStage) (v : View) → Goes at v.timers.next v.more v.now at v
goes_nowhere at v = record { timer = le_refl _; more = refl; now = refl; known = λ i e. inl e }

pub goes_on : (at : LineStage) (n : ℕ) (said : Bool) (moment : ℕ) (to : LineStage) (w : View) (end : LineStage) (x : View) → Goes at n said moment to w → Goes to w.timers.next w.more w.now end x → Goes at n said moment end x
goes_on at n said moment to w end x a b = record { timer = le_trans a.timer b.timer; more = b.more ∙ a.more; now = b.now ∙ a.now; known = λ i e. by i (b.known i e) }
  where
    first : (i : ℕ) → (timer_at at ≡ Some i) ⊎ ((n ≤ i) × (i < w.timers.next)) → (timer_at at ≡ Some i) ⊎ ((n ≤ i) × (i < x.timers.next))
    first i (inl e) = inl e
    first i (inr l) = let t = b.timer in inr (l.0, omega arith)

    by : (i : ℕ) → (timer_at to ≡ Some i) ⊎ ((w.timers.next ≤ i) × (i < x.timers.next)) → (timer_at at ≡ Some i) ⊎ ((n ≤ i) × (i < x.timers.next))
    by i (inl e) = first i (a.known i e)
    by i (inr l) = let t = a.timer in inr (omega arith, l.1)

-- where a request is sent: it goes on, and errors alone are posted
pub record Sends (at : LineStage) (n : ℕ) (said : Bool) (moment : ℕ) (to : LineStage) (w : View) : Type 0 where
  pub goes : Goes at n said moment to w
  pub going : has_ended to ≡ false
  pub faults : AreFaults w.board

sends_on : (at : LineStage) (n : ℕ) (said : Bool) (moment : ℕ) (to : LineStage) (w : View) (end : LineStage) (x : View) → Sends at n said moment to w → Sends to w.timers.next w.more w.now end x → Sends at n said moment end x
sends_on at n said moment to w end x a b = record { goes = goes_on at n said moment to w end x a.goes b.goes; going = b.going; faults = b.faults }

-- a timer that is dropped leaves the view as it was otherwise
pub record IsStopped (v w : View) : Type 0 where
  pub next : w.timers.next ≡ v.timers.next
  pub more : w.more ≡ v.more
  pub now : w.now ≡ v.now
  pub board : w.board ≡ v.board

pub stopped : (at : LineStage) (v : View) → IsStopped v (plain.drops_own_timer at v)
stopped stage.New v = record { next = refl; more = refl; now = refl; board = refl }
stopped (stage.Active timer since) v = record { next = refl; more = refl; now = refl; board = refl }
stopped (stage.Idle timer) v = record { next = refl; more = refl; now = refl; board = refl }
stopped stage.Ended v = record { next = refl; more = refl; now = refl; board = refl }

pub stops_like : (before : List Out) (more : Bool) (request : ℕ) (at : LineStage) (v : View) → plain.drops_own_timer at (like before more request v) ≡ like before more request (plain.drops_own_timer at v)
stops_like before more request stage.New v = refl
stops_like before more request (stage.Active timer since) v = refl
stops_like before more request (stage.Idle timer) v = refl
stops_like before more request stage.Ended v = refl

-- a stage with a timer
pub record IsTimed (to : ℕ → LineStage) : Type 0 where
  pub going : (n : ℕ) → has_ended (to n) ≡ false
  pub timer : (n : ℕ) → timer_at (to n) ≡ Some n

active : (since : ℕ) → IsTimed (λ timer. stage.Active timer since)
active since = record { going = λ n. refl; timer = λ n. refl }

idle : IsTimed stage.Idle
idle = record { going = λ n. refl; timer = λ n. refl }

drawn_timer : (at : LineStage) (to : ℕ → LineStage) (timed : IsTimed to) (n : ℕ) → IsKnown (timer_at at) n (n + 1) (timer_at (to n))
drawn_timer at to timed n i e = let is : n ≡ i = (let z : Some n ≡ Some i = sym (timed.timer n) ∙ e in cc) in inr (omega arith, omega arith)

goes_timed : (at : LineStage) (to : ℕ → LineStage) (due : ℕ) (v : View) → IsTimed to → Goes at v.timers.next v.more v.now (to v.timers.next) (timed due (plain.drops_own_timer at v))
goes_timed at to due v timed_to =
    let x = stopped at v in
    record {
      timer = (let e = x.next in omega arith);
      more = x.more;
      now = x.now;
      known = subst (λ n. IsKnown (timer_at at) v.timers.next (n + 1) (timer_at (to v.timers.next))) (sym x.next) (drawn_timer at to timed_to v.timers.next);
    }

module _ {R M : Type 0} (before : List Out) where
  -- calls of two connections, of which the second has outs before its own
  abbrev pub Alike : (LineStage → View → Type 0) → (first second : After R M) → Type 0
  Alike Leaves first second = Both (λ (s : Line R M). s) before (λ s v. Leaves s.stage v) first second

  each_alike : (Leaves : LineStage → View → Type 0) (s : Line R M) (v w : View) (more : Bool) (request : ℕ) → w ≡ like before more request v → Leaves s.stage v → Alike Leaves (Some (s, v)) (Some (s, w))
  each_alike Leaves s v w more request e l = subst (λ w. Alike Leaves (Some (s, v)) (Some (s, w))) (sym e) (Each s v more request l)

  becomes_by : (Leaves : LineStage → View → Type 0) (more : Bool) (request : ℕ) (to : ℕ → LineStage) (due : ℕ) (s : Line R M) (v : View) → Leaves (to v.timers.next) (timed due (plain.drops_own_timer s.stage v))
      → Alike Leaves (plain.becomes to due s v) (plain.becomes to due s (like before more request v))
  becomes_by Leaves more request to due s v l =
      subst (λ u. Alike Leaves (plain.becomes to due s v) (option_and_then keep (sets_timer due u))) (sym (stops_like before more request s.stage v))
      (sets_both keep keep due more request (plain.drops_own_timer s.stage v) (λ h. Each _ (timed due (plain.drops_own_timer s.stage v)) more request l))
    where
      keep : View → After R M
      keep w = Some (record s { stage = to v.timers.next }, w)

  becomes_alike : (more : Bool) (request : ℕ) (to : ℕ → LineStage) (due : ℕ) (s : Line R M) (v : View) → IsTimed to
      → Alike (Goes s.stage v.timers.next v.more v.now) (plain.becomes to due s v) (plain.becomes to due s (like before more request v))
  becomes_alike more request to due s v timed_to = becomes_by (Goes s.stage v.timers.next v.more v.now) more request to due s v (goes_timed s.stage to due v timed_to)

  becomes_sending : (more : Bool) (request : ℕ) (to : ℕ → LineStage) (due : ℕ) (s : Line R M) (v : View) → IsTimed to → AreFaults v.board
      → Alike (Sends s.stage v.timers.next v.more v.now) (plain.becomes to due s v) (plain.becomes to due s (like before more request v))
  becomes_sending more request to due s v timed_to faults =
      becomes_by (Sends s.stage v.timers.next v.more v.now) more request to due s v
      (record { goes = goes_timed s.stage to due v timed_to; going = timed_to.going v.timers.next; faults = subst AreFaults (sym (let x = stopped s.stage v in x.board)) faults })

  -- It ends. Whatever was posted is posted.
  ends_alike : (more : Bool) (request : ℕ) (place : ℕ) (error : Error) (s : Line R M) (v : View)
      → Alike (Goes s.stage v.timers.next v.more v.now) (plain.ends place error s v) (plain.ends place error s (like before more request v))
  ends_alike more request place error s v =
      each_alike (Goes s.stage v.timers.next v.more v.now) (plain.ended s) (plain.fails_all error s u) (plain.fails_all error s (plain.drops_own_timer s.stage (asks (Close place) (like before more request v)))) more request
      (ap (plain.fails_all error s) (ap (plain.drops_own_timer s.stage) (asks_like before more request (Close place) v) ∙ stops_like before more request s.stage (asks (Close place) v)))
      (record { timer = (let e = x.next in omega arith); more = x.more; now = x.now; known = λ i e. absurd (cc) })
    where
      u : View
      u = plain.drops_own_timer s.stage (asks (Close place) v)

      x : IsStopped (asks (Close place) v) (plain.drops_own_timer s.stage (asks (Close place) v))
      x = stopped s.stage (asks (Close place) v)

  pub fires_alike : (more : Bool) (request : ℕ) (place timer : ℕ) (s : Line R M) (v : View) (at : LineStage)
      → Alike (Goes s.stage v.timers.next v.more v.now) (plain.fires place timer s v at) (plain.fires place timer s (like before more request v) at)
  fires_alike more request place timer s v (stage.Active own since) = if_both (timer == own) (λ e. ends_alike more request place errors.StreamReadTimeout s v) (λ e. Each s v more request (goes_nowhere s.stage v))
  fires_alike more request place timer s v (stage.Idle own) = if_both (timer == own) (λ e. ends_alike more request place errors.StreamReceiveError s v) (λ e. Each s v more request (goes_nowhere s.stage v))
  fires_alike more request place timer s v stage.New = Each s v more request (goes_nowhere s.stage v)
  fires_alike more request place timer s v stage.Ended = Each s v more request (goes_nowhere s.stage v)

  settles_alike : (more : Bool) (request : ℕ) (place : ℕ) (s : Line R M) (v : View)
      → Alike (Goes s.stage v.timers.next v.more v.now) (plain.becomes_idle_if_unused place s v) (plain.becomes_idle_if_unused place s (like before more request v))
  settles_alike more request place s v =
      if_both (plain.has_nothing s)
      (λ e. if_both (s.idle_time == 0) (λ e. ends_alike more request place errors.StreamReceiveError s v) (λ e. becomes_alike more request stage.Idle (v.now + s.idle_time) s v idle))
      (λ e. Each s v more request (goes_nowhere s.stage v))

-- Two pairs of a connection and a view: the second is like the first, whose stage and timers are those of before.
pub record IsPaired {R M : Type 0} (before : List Out) (said : Bool) (number : ℕ) (s : Line R M) (v : View) (x y : Line R M × View) : Type 0 where
  pub alike : y ≡ (x.0, like before said number x.1)
  pub stage : x.0.stage ≡ s.stage
  pub next : x.1.timers.next ≡ v.timers.next
  pub more : x.1.more ≡ v.more
  pub now : x.1.now ≡ v.now

module _ {R M : Type 0} (before : List Out) (said : Bool) (number : ℕ) (s : Line R M) (v : View) (x y : Line R M × View) (p : IsPaired before said number s v x y) where
  -- what goes on behind such a pair
  pub behind_pair : (f : Line R M → View → After R M) → ((t : Line R M) (w : View) → Alike before (Goes t.stage w.timers.next w.more w.now) (f t w) (f t (like before said number w)))
      → Alike before (Goes s.stage v.timers.next v.more v.now) (f x.0 x.1) (f y.0 y.1)
  behind_pair f h =
      subst (λ (y : Line R M × View). Alike before (Goes s.stage v.timers.next v.more v.now) (f x.0 x.1) (f y.0 y.1)) (sym p.alike)
      (weaker (λ t w g. moved t.stage w g) (h x.0 x.1))
    where
      moved : (to : LineStage) (w : View) → Goes x.0.stage x.1.timers.next x.1.more x.1.now to w → Goes s.stage v.timers.next v.more v.now to w
      moved to w g = record { timer = (let e = p.next in let t = g.timer in omega arith); more = g.more ∙ p.more; now = g.now ∙ p.now; known = subst (λ n. IsKnown (timer_at s.stage) n w.timers.next (timer_at to)) p.next (subst (λ at. IsKnown (timer_at at) x.1.timers.next w.timers.next (timer_at to)) p.stage g.known) }

module _ {R M : Type 0} (one : Requests R) (several : Requests M) (before : List Out) where
  goes_on_paired : (said : Bool) (number : ℕ) (message : List ℕ) (ticket : ℕ) (request : M) (state : XfrState) (s : Line R M) (v : View) (ends : Bool)
      → IsPaired before said number s v (plain.ends_or_holds_again message ticket request state s v ends) (plain.ends_or_holds_again message ticket request state s (like before said number v) ends)
  goes_on_paired said number message ticket request state s v true = record { alike = refl; stage = refl; next = refl; more = refl; now = refl }
  goes_on_paired said number message ticket request state s v false = record { alike = refl; stage = refl; next = refl; more = refl; now = refl }

  given_paired : (said : Bool) (number : ℕ) (message : List ℕ) (s : Line R M) (v : View) (holder : Holder R M)
      → IsPaired before said number s v (plain.delivers one several message s v holder) (plain.delivers one several message s (like before said number v) holder)
  given_paired said number message s v GivenUp = record { alike = refl; stage = refl; next = refl; more = refl; now = refl }
  given_paired said number message s v (Waits ticket request) = record { alike = refl; stage = refl; next = refl; more = refl; now = refl }
  given_paired said number message s v (Transfers ticket request state) =
      let c = checked several request state message in
      let p = goes_on_paired said number message ticket request c.1 s (answers ticket (part_given message c.2) v) c.0 in
      record { alike = p.alike; stage = p.stage; next = p.next; more = p.more; now = p.now }

  module _ (place : ℕ) where
    frees_alike : (more : Bool) (request : ℕ) (message : List ℕ) (s : Line R M) (v : View) (o : Option (Holder R M))
        → Alike before (Goes s.stage v.timers.next v.more v.now) (plain.frees_id one several place message s v o) (plain.frees_id one several place message s (like before more request v) o)
    frees_alike more request message s v None = Each s v more request (goes_nowhere s.stage v)
    frees_alike more request message s v (Some holder) =
        let s' : Line R M = record s { held = removed (message_id message) s.held } in
        behind_pair before more request s' v (plain.delivers one several message s' v holder) (plain.delivers one several message s' (like before more request v) holder)
        (given_paired more request message s' v holder) (plain.becomes_idle_if_unused place) (λ t w. settles_alike before more request place t w)

    comes_alike : (more : Bool) (request : ℕ) (message : List ℕ) (s : Line R M) (v : View)
        → Alike before (Goes s.stage v.timers.next v.more v.now) (plain.message_comes one several place message s v) (plain.message_comes one several place message s (like before more request v))
    comes_alike more request message s v =
        then_both (λ x. plain.releases one several place message x.0 x.1) (λ x. plain.releases one several place message x.0 x.1)
        (becomes_alike before more request (λ timer. stage.Active timer v.now) (v.now + s.timeout + 1) (record s { idle_time = unwrap_or (idle_time_told message) s.idle_time }) v (active v.now))
        (λ t w more request g. weaker (λ u x h. goes_on s.stage v.timers.next v.more v.now t.stage w u.stage x g h) (frees_alike more request message t w (entry_at (message_id message) t.held.held)))

    pub frame_alike : (more : Bool) (request : ℕ) (frame : List ℕ) (s : Line R M) (v : View)
        → Alike before (Goes s.stage v.timers.next v.more v.now) (plain.frame_comes one several place frame s v) (plain.frame_comes one several place frame s (like before more request v))
    frame_alike more request frame s v = if_both (nat_le 12 (length frame)) (λ e. comes_alike more request frame s v) (λ e. ends_alike before more request place errors.ShortMessage s v)

    -- ---- a request is sent

    -- such a pair, of which errors alone are posted
    record IsAsked (said : Bool) (number : ℕ) (s : Line R M) (v : View) (x y : Line R M × View) : Type 0 where
      paired : IsPaired before said number s v x y
      faults : AreFaults x.1.board

    refused : (said : Bool) (number : ℕ) (ticket : ℕ) (error : Error) (s t : Line R M) (v : View) → t.stage ≡ s.stage → is_result (Err error) ≡ false → AreFaults v.board
        → IsAsked said number s v (t, answers ticket (Err error) v) (t, answers ticket (Err error) (like before said number v))
    refused said number ticket error s t v e f fs = record { paired = record { alike = refl; stage = e; next = refl; more = refl; now = refl }; faults = fault_posted ticket (Err error) v.board f fs }

    writes_asked : (said : Bool) (own : ℕ) (ticket number id : ℕ) (holder : Holder R M) (s : Line R M) (v : View) (o : Option (List ℕ)) → AreFaults v.board
        → IsAsked said own s v (plain.writes one several place ticket number id holder s v o) (plain.writes one several place ticket number id holder s (like before said own v) o)
    writes_asked said own ticket number id holder s v None fs = refused said own ticket errors.StreamLongMessage s (record s { held = removed id (inserted GivenUp s.held) }) v refl refl fs
    writes_asked said own ticket number id holder s v (Some octets) fs = record {
      paired = record {
        alike = ap (λ w. (record s { held = inserted holder s.held; ids = puts ticket id s.ids; writing = Some octets }, w)) (asks_like before said own (Write place number id octets) v);
        stage = refl;
        next = refl;
        more = refl;
        now = refl;
      };
      faults = fs;
    }

    module _ {T : Type 0} (requests : Requests T) (holding : T → Holder R M) where
      numbers_asked : (said : Bool) (own : ℕ) (ticket number : ℕ) (request : T) (s : Line R M) (v : View) (o : Option ℕ) → AreFaults v.board
          → IsAsked said own s v (plain.takes_free_id one several place requests holding ticket number request s v o) (plain.takes_free_id one several place requests holding ticket number request s (like before said own v) o)
      numbers_asked said own ticket number request s v None fs = refused said own ticket errors.StreamTooManyOutstandingQueries s s v refl refl fs
      numbers_asked said own ticket number request s v (Some id) fs =
          let t : Line R M = record s { had_keepalive = plain.had_by requests id s.had_keepalive request } in
          let a = writes_asked said own ticket number id (holding (plain.readied requests id s.had_keepalive request)) t v (plain.frame_of requests (plain.readied requests id s.had_keepalive request)) fs in
          let p = a.paired in
          record { paired = record { alike = p.alike; stage = p.stage; next = p.next; more = p.more; now = p.now }; faults = a.faults }

    state_fault : (o : Option ℕ) (error : Error) → plain.state_for o ≡ Err error → is_result (Err error) ≡ false
    state_fault None error e = let is : errors.MessageParseError ≡ error = cc in subst (λ error. is_result (Err error) ≡ false) is refl
    state_fault (Some rtype) error e = first (rtype == 252) (rtype == 251) e
      where
        first : (b c : Bool) → (if b then Ok AxfrInit else if c then Ok IxfrInit else Err errors.FormError) ≡ Err error → is_result (Err error) ≡ false
        first true c e = absurd (cc)
        first false true e = absurd (cc)
        first false false e = let is : errors.FormError ≡ error = cc in subst (λ error. is_result (Err error) ≡ false) is refl

    module _ (fair : (request : M) (error : Error) → several.composed request ≡ Err error → is_result (Err error) ≡ false) where
      first_fault : (request : M) (r : Result (List ℕ) Error) (error : Error) → several.composed request ≡ r → plain.first_state r ≡ Err error → is_result (Err error) ≡ false
      first_fault request (Ok message) error is e = state_fault (option_map (λ q. q.rtype) (sole_question message)) error e
      first_fault request (Err other) error is e = let same : other ≡ error = cc in fair request error (is ∙ ap Err same)

      begins_asked : (said : Bool) (own : ℕ) (ticket number : ℕ) (request : M) (s : Line R M) (v : View) (r : Result XfrState Error) → ((error : Error) → r ≡ Err error → is_result (Err error) ≡ false) → AreFaults v.board
          → IsAsked said own s v (plain.starts_transfer one several place ticket number request s v r) (plain.starts_transfer one several place ticket number request s (like before said own v) r)
      begins_asked said own ticket number request s v (Err error) h fs = refused said own ticket error s s v refl (h error refl) fs
      begins_asked said own ticket number request s v (Ok state) h fs = numbers_asked several (λ r. Transfers ticket r state) said own ticket number request s v (plain.free_id s) fs

      prepares_asked : (said : Bool) (own : ℕ) (ticket number : ℕ) (request : AnyRequest R M) (s : Line R M) (v : View) → AreFaults v.board
          → IsAsked said own s v (plain.prepares one several place ticket number request s v) (plain.prepares one several place ticket number request s (like before said own v))
      prepares_asked said own ticket number (Single request) s v fs = numbers_asked one (λ r. Waits ticket r) said own ticket number request s v (plain.free_id s) fs
      prepares_asked said own ticket number (Transfer request) s v fs =
          begins_asked said own ticket number request s v (plain.first_state (several.composed request)) (λ error e. first_fault request (several.composed request) error refl e) fs

      retimes_alike : (more : Bool) (request : ℕ) (timeout since : ℕ) (s : Line R M) (v : View) → has_ended s.stage ≡ false → AreFaults v.board
          → Alike before (Sends s.stage v.timers.next v.more v.now) (plain.retimes timeout since s v) (plain.retimes timeout since s (like before more request v))
      retimes_alike more request timeout since s v going fs =
          if_both (timeout == s.timeout) (λ e. Each s v more request (record { goes = goes_nowhere s.stage v; going = going; faults = fs }))
          (λ e. becomes_sending before more request (λ timer. stage.Active timer since) (since + timeout + 1) (record s { timeout = timeout }) v (active since) fs)

      wakes_alike : (more : Bool) (request : ℕ) (timeout : ℕ) (s : Line R M) (v : View) (at : LineStage) → has_ended s.stage ≡ false → AreFaults v.board
          → Alike before (Sends s.stage v.timers.next v.more v.now) (plain.becomes_active_for timeout s v at) (plain.becomes_active_for timeout s (like before more request v) at)
      wakes_alike more request timeout s v stage.New going fs = becomes_sending before more request (λ timer. stage.Active timer v.now) (v.now + timeout + 1) (record s { timeout = timeout }) v (active v.now) fs
      wakes_alike more request timeout s v (stage.Idle own) going fs = becomes_sending before more request (λ timer. stage.Active timer v.now) (v.now + timeout + 1) (record s { timeout = timeout }) v (active v.now) fs
      wakes_alike more request timeout s v (stage.Active own since) going fs = retimes_alike more request timeout since s v going fs
      wakes_alike more request timeout s v stage.Ended going fs = Each s v more request (record { goes = goes_nowhere s.stage v; going = going; faults = fs })

      -- behind a request that was asked
      asked_alike : (more : Bool) (request : ℕ) (s : Line R M) (v : View) (x y : Line R M × View) → has_ended s.stage ≡ false → IsAsked more request s v x y
          → Alike before (Sends s.stage v.timers.next v.more v.now) (Some x) (Some y)
      asked_alike more request s v x y going a =
          let p = a.paired in
          subst (λ (y : Line R M × View). Alike before (Sends s.stage v.timers.next v.more v.now) (Some x) (Some y)) (sym p.alike)
          (Each x.0 x.1 more request (record {
            goes = record { timer = (let e = p.next in omega arith); more = p.more; now = p.now; known = λ i e. inl (ap timer_at (sym p.stage) ∙ e) };
            going = ap has_ended p.stage ∙ going;
            faults = a.faults;
          }))

      takes_alike : (more : Bool) (request : ℕ) (settings : Settings) (ticket : ℕ) (waiting : QueuedRequest R M) (s : Line R M) (v : View) → has_ended s.stage ≡ false → AreFaults v.board
          → Alike before (Sends s.stage v.timers.next v.more v.now) (plain.takes_queued one several place settings ticket waiting s v) (plain.takes_queued one several place settings ticket waiting s (like before more request v))
      takes_alike more request settings ticket waiting s v going fs =
          then_both (λ x. Some (plain.prepares one several place ticket waiting.number waiting.request x.0 x.1)) (λ x. Some (plain.prepares one several place ticket waiting.number waiting.request x.0 x.1))
          (wakes_alike more request (plain.timeout_by settings waiting.request) s v s.stage going fs)
          (λ t w more request l. weaker (λ u x m. sends_on s.stage v.timers.next v.more v.now t.stage w u.stage x l m) (asked_alike more request t w _ _ l.going (prepares_asked more request ticket waiting.number waiting.request t w l.faults)))

      pumps_alike : (more : Bool) (request : ℕ) (settings : Settings) (queue : List (ℕ × QueuedRequest R M)) (s : Line R M) (v : View) → has_ended s.stage ≡ false → AreFaults v.board
          → Alike before (Sends s.stage v.timers.next v.more v.now) (plain.pumps one several place settings queue s v) (plain.pumps one several place settings queue s (like before more request v))
      pumps_alike more request settings [] s v going fs = Each s v more request (record { goes = goes_nowhere s.stage v; going = going; faults = fs })
      pumps_alike more request settings (entry ∷ queue) s v going fs =
          if_both (is_some s.writing) (λ e. Each s v more request (record { goes = goes_nowhere s.stage v; going = going; faults = fs }))
          (λ e. then_both (λ x. plain.pumps one several place settings queue x.0 x.1) (λ x. plain.pumps one several place settings queue x.0 x.1)
          (takes_alike more request settings entry.0 entry.1 (record s { queue = queue }) v going fs)
          (λ t w more request l. weaker (λ u x m. sends_on s.stage v.timers.next v.more v.now t.stage w u.stage x l m) (pumps_alike more request settings queue t w l.going l.faults)))

      pub takes_on_alike : (more : Bool) (settings : Settings) (request : AnyRequest R M) (s : Line R M) (v : View) → has_ended s.stage ≡ false → AreFaults v.board
          → Alike before (Sends s.stage v.timers.next v.more v.now) (plain.takes_on one several place settings request s v) (plain.takes_on one several place settings request s (like before more v.request v))
      takes_on_alike more settings request s v going fs =
          tickets_both (λ w. plain.queues one several place settings v.ticket waiting s w) (λ w. plain.queues one several place settings v.ticket waiting s w) more v.request v (λ e. queued (has_ended s.stage) going)
        where
          waiting : QueuedRequest R M
          waiting = record { number = v.request; request = request }

          queued : (b : Bool) → b ≡ false
              → Alike before (Sends s.stage v.timers.next v.more v.now)
              (if b then Some (s, answers v.ticket (Err errors.ConnectionClosed) (next_ticket v)) else plain.pumps one several place settings (puts v.ticket waiting s.queue) (record s { queue = puts v.ticket waiting s.queue }) (next_ticket v))
              (if b then Some (s, answers v.ticket (Err errors.ConnectionClosed) (like before more v.request (next_ticket v))) else plain.pumps one several place settings (puts v.ticket waiting s.queue) (record s { queue = puts v.ticket waiting s.queue }) (like before more v.request (next_ticket v)))
          queued true e = absurd (cc)
          queued false e = pumps_alike more v.request settings (puts v.ticket waiting s.queue) (record s { queue = puts v.ticket waiting s.queue }) (next_ticket v) going fs

-- ---- a request is given up

pub same_stage : {R M : Type 0} (ticket : ℕ) (s : Line R M) → (plain.gives_up ticket s).stage ≡ s.stage
same_stage ticket s = either (is_some (entry_at ticket s.queue))
  where
    held : (o : Option ℕ) → (plain.gives_up_id ticket s o).stage ≡ s.stage
    held None = refl
    held (Some id) = refl

    either : (b : Bool) → (if b then record s { queue = frees ticket s.queue } else plain.gives_up_id ticket s (entry_at ticket s.ids)).stage ≡ s.stage
    either true = refl
    either false = held (entry_at ticket s.ids)
