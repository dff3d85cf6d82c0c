-- A request that is asked, and one turn more.
use Rattle.std.proofs.Common.{◌≡◌, ℕ, ◌+◌, ◌-◌, ◌<◌, ◌≤◌, List, [], ◌∷◌, ◌++◌, ◌⊎◌, if◌then◌else◌, Bool, false, length, map, Option, Some, None, Result, Ok, Err, refl, ap, sym, subst, ◌∙◌, arith, length-append}
use Rattle.std.specs.List.{flat_map}
use Rattle.std.specs.Prelude.{IfOk, IsErrOf}
use Rattle.std.proofs.lemmas.List.{flat_map_more}
use Rattle.std.proofs.lemmas.List.Elements.{All-nil, All-push}
use Rattle.client_request.specs.Carries.{IsOfOctets}
use Rattle.client_request.specs.Request.{Request}
use Rattle.client_request.specs.Words.{IsGivenOn}
use Rattle.client_request.specs.declared.error.Error.{Error}
use Rattle.client_request.specs.declared.event.Event.{Event}
use Rattle.client_request.specs.declared.event.Row.{Row}
use Rattle.client_request.specs.declared.event.What.{What}
use Rattle.client_request.specs.declared.event.What.TheVariants.{Ask}
use Rattle.client_steps.specs.Client.{row_step}
use Rattle.client_core.specs.Edge.{after_deed}
use Rattle.client_steps.specs.Whole.{Client, Whole, client_with, machine, plain_step}
use Rattle.client_core.specs.declared.edge.Deed.{Deed}
use Rattle.client_core.specs.declared.edge.Deed.TheVariants.{Polled}
use Rattle.client_core.specs.Waiting.{Waited, first_due, time_left, wait_of}
use Rattle.client_core.proofs.Replaying.{row_event}
use Rattle.dns_values.specs.Source.{one_more}
use Rattle.right_trace.specs.InOctets.{AllInOctets, IsInOctets}
use Rattle.right_trace.specs.Timely.{AllAskedInOctets, IsAskedInOctets}
use Rattle.client_loop.specs.Asking.{Asked, Begun, IsAnswered, Scene, StopsForNumbers, client_of, rows_of}
use Rattle.client_loop.specs.Replies.{first_reply, or_later, reply_in}
use Rattle.client_loop.specs.Turns.{AreGivenOn, ArePolledOn, IsOfPoll, IsTurn, Leads, RoseBy, StopsAt, Turn, acts_on, after_deeds, after_waits, deeds_of, events_of, happened, moments_of}
use Rattle.client_loop.proofs.Deeds.{KeptOf, append_nil, are_polled, events_polled, first_moment, kept_of, more_deeds, none_polled, polled_acts, polled_of_turns, turns_counted, more_moments, more_waits, no_waits, rose_by_none, rose_more}
use Rattle.client_loop.proofs.Rows.{event_behind, kept_more, leads_nowhere, leads_on, moment_behind, moments_and, plain_of, stops_on}

-- an error is the same whatever else there might have been
pub same_error : {A B : Type 0} (e f : Error) → IsErrOf {T = A} (Err e) f → IsErrOf {T = B} (Err e) f
same_error e f is = let same : e ≡ f = cc in ap Err same

-- what a poll gives asks nothing
happened_in_octets : (polled : Option What) → IsAskedInOctets (happened polled)
happened_in_octets None = tt
happened_in_octets (Some (Ask request)) = tt
happened_in_octets (Some what) = tt

octets_more : (es : List Event) (e : Event) → AllAskedInOctets es → IsAskedInOctets e.what → AllAskedInOctets (es ++ e ∷ [])
octets_more [] e h one = (one, tt)
octets_more (x ∷ es) e h one = (h.0, octets_more es e h.1 one)

coming_more : (es : List Event) (e : Event) → AllInOctets es → IsInOctets e.what → AllInOctets (es ++ e ∷ [])
coming_more [] e h one = (one, tt)
coming_more (x ∷ es) e h one = (h.0, coming_more es e h.1 one)

reply_behind : (number : ℕ) (rows : List Row) (row : Row) → first_reply number rows ≡ None → reply_in number row.outs ≡ None → first_reply number (rows ++ row ∷ []) ≡ None
reply_behind number [] row h none = ap (λ (o : Option (Result (List ℕ) Error)). or_later o None) none
reply_behind number (r ∷ rows) row h none = by (reply_in number r.outs) (λ e. reply_behind number rows row e none) h
  where
    by : (o : Option (Result (List ℕ) Error)) → (first_reply number rows ≡ None → first_reply number (rows ++ row ∷ []) ≡ None)
        → or_later o (first_reply number rows) ≡ None → or_later o (first_reply number (rows ++ row ∷ [])) ≡ None
    by None goes_on e = goes_on e
    by (Some reply) goes_on e = absurd (cc)

-- the rows of one turn more
pub rows_more : (asking : Row) (turns : List Turn) (turn : Turn) → rows_of asking (turns ++ turn ∷ []) ≡ rows_of asking turns ++ turn.row ∷ []
rows_more asking turns turn = ap (λ (rows : List Row). asking ∷ rows) (mapped turns)
  where
    mapped : (ts : List Turn) → map (λ t. t.row) (ts ++ turn ∷ []) ≡ map (λ t. t.row) ts ++ turn.row ∷ []
    mapped [] = refl
    mapped (t ∷ ts) = ap (λ (rows : List Row). t.row ∷ rows) (mapped ts)

-- what was asked and turned so far, none of the rows having the reply; so many turns are left
pub record Waits (number left most : ℕ) (request : Request) (old new : Scene) : Type 0 where
  pub asked : Asked request old new
  pub none_yet : first_reply number (rows_of asked.asking asked.turns) ≡ None
  pub left_are : length asked.turns + left ≡ most

-- the row of a turn, if it was made
pub turned : (client : Whole) (words : ℕ → ℕ) (after : Client) (event : Event) (polled : Option What) (old mid new : Option (List Deed)) (r : Result Row Error) → IsInOctets event.what → event.what ≡ happened polled
    → mid ≡ after_deed (Polled polled) old → IfOk r (λ row. plain_step words event client ≡ Some (row, after)) → IfOk r (λ row. new ≡ after_deeds (acts_on row.outs) mid)
    → IfOk r (λ row. IsTurn row old new)
turned client words after event polled old mid new (Ok row) octets is poll step acts = record {
  polled = polled;
  octets = subst (λ (e : Event). IsInOctets e.what) (sym (row_event machine client.timeout row event (client_with words client) after step)) octets;
  of_poll = ap (λ (e : Event). e.what) (row_event machine client.timeout row event (client_with words client) after step) ∙ is;
  deeds = more_deeds (Polled polled ∷ []) (acts_on row.outs) old mid new poll acts;
}
turned client words after event polled old mid new (Err error) octets is poll step acts = step

-- one turn more, and what it is of
pub record OneMore (request : Request) (old mid new : Scene) (a : Asked request old mid) (row : Row) : Type 0 where
  pub asked : Asked request old new
  pub same_asking : asked.asking ≡ a.asking
  pub turn : Turn
  pub row_is : turn.row ≡ row
  pub turns_are : asked.turns ≡ a.turns ++ turn ∷ []

module _ (request : Request) (old : Scene) where
  -- the request is asked
  pub asked_first : (new : Scene) (event : Event) (row : Row) → event.what ≡ Ask request → IsOfOctets request
      → row_step machine old.client.timeout event (client_of old) ≡ Some (row, client_of new)
      → new.deeds ≡ after_deeds (acts_on row.outs) old.deeds → new.waits ≡ old.waits → new.polls ≡ old.polls → IsGivenOn old.moments new.moments event.moment.0
      → Begun request old new row
  asked_first new event row asks in_octets step deeds waits polls moment =
      let is : row.event ≡ event = row_event machine old.client.timeout row event (client_of old) (client_of new) step in
      let what : row.event.what ≡ Ask request = ap (λ (e : Event). e.what) is ∙ asks in
      record {
        asked = record {
          asking = row;
          turns = [];
          asks = what;
          polled = All-nil IsOfPoll;
          leads = leads_on old.client.timeout (client_of old) (client_of old) (client_of new) [] row (leads_nowhere old.client.timeout (client_of old)) (subst (λ (e : Event). row_step machine old.client.timeout e (client_of old) ≡ Some (row, client_of new)) (sym is) step);
          octets = (subst IsAskedInOctets (sym what) in_octets, tt);
          comes = (subst IsInOctets (sym what) tt, tt);
          deeds = deeds ∙ ap (λ (ds : List Deed). after_deeds ds old.deeds) (sym (append_nil (acts_on row.outs)));
          kept = tt;
          waits = waits ∙ no_waits old.waits;
          polls = subst (λ (n : ℕ). RoseBy 0 old.polls n) (sym polls) (rose_by_none old.polls);
          moments = first_moment row.event.moment.0 old.moments new.moments (subst (λ (e : Event). IsGivenOn old.moments new.moments e.moment.0) (sym is) moment);
        };
        asking_is = refl;
        no_turns = refl;
      }

  -- one turn more is made
  pub asked_more : (mid new : Scene) (a : Asked request old mid) (row : Row) → mid.client.timeout ≡ old.client.timeout → mid.client.failed ≡ false
      → row_step machine mid.client.timeout row.event (client_of mid) ≡ Some (row, client_of new)
      → IsTurn row mid.deeds new.deeds → Waited (wait_of mid.client) mid.waits new.waits → new.polls ≡ one_more mid.polls → IsGivenOn mid.moments new.moments row.event.moment.0
      → OneMore request old mid new a row
  asked_more mid new a row same lasts step t waited polls moment =
      let k : KeptOf (wait_of mid.client) mid.waits new.waits = kept_of (wait_of mid.client) mid.waits new.waits waited in
      let turn : Turn = record { kept = k.kept; polled = t.polled; row = row } in
      let most : wait_of mid.client ≡ time_left mid.client.now (first_due mid.client.timers.set) = ap (λ (b : Bool). if b then 0 else time_left mid.client.now (first_due mid.client.timers.set)) lasts in
      let rows : rows_of a.asking (a.turns ++ turn ∷ []) ≡ rows_of a.asking a.turns ++ row ∷ [] = rows_more a.asking a.turns turn in
      let events : events_of (rows_of a.asking a.turns) ++ row.event ∷ [] ≡ events_of (rows_of a.asking (a.turns ++ turn ∷ [])) = sym (ap events_of rows ∙ event_behind (rows_of a.asking a.turns) row) in
      let many : length (a.turns ++ turn ∷ []) ≡ length a.turns + 1 = length-append a.turns (turn ∷ []) in
      record {
        asked = record {
          asking = a.asking;
          turns = a.turns ++ turn ∷ [];
          asks = a.asks;
          polled = All-push IsOfPoll a.turns turn a.polled t.of_poll;
          leads = subst (λ (rs : List Row). Leads old.client.timeout (client_of old) rs (client_of new)) (sym rows) (leads_on old.client.timeout (client_of old) (client_of mid) (client_of new) (rows_of a.asking a.turns) row a.leads (subst (λ (n : ℕ). row_step machine n row.event (client_of mid) ≡ Some (row, client_of new)) same step));
          octets = subst AllAskedInOctets events (octets_more (events_of (rows_of a.asking a.turns)) row.event a.octets (subst IsAskedInOctets (sym t.of_poll) (happened_in_octets t.polled)));
          comes = subst AllInOctets events (coming_more (events_of (rows_of a.asking a.turns)) row.event a.comes t.octets);
          deeds = more_deeds (acts_on a.asking.outs ++ flat_map deeds_of a.turns) (deeds_of turn) old.deeds mid.deeds new.deeds a.deeds t.deeds ∙ ap (λ (ds : List Deed). after_deeds ds old.deeds) (flat_map_more deeds_of (acts_on a.asking.outs) a.turns turn);
          kept = kept_more old.client.timeout (client_of old) (a.asking ∷ []) a.turns turn a.kept (record {
            client = client_of mid;
            leads = a.leads;
            is = subst (λ (n : ℕ). (k.kept ≡ n ∷ []) ⊎ (k.kept ≡ [])) most k.is;
          });
          waits = more_waits (flat_map (λ (u : Turn). u.kept) a.turns) k.kept old.waits mid.waits new.waits a.waits k.told ∙ ap (λ (ws : List ℕ). after_waits ws old.waits) (flat_map_more (λ (u : Turn). u.kept) [] a.turns turn);
          polls = subst (λ (n : ℕ). RoseBy n old.polls new.polls) (sym many) (rose_more (length a.turns) old.polls mid.polls new.polls a.polls polls);
          moments = subst (λ (ms : List ℕ). AreGivenOn old.moments new.moments ms) (sym (ap moments_of rows ∙ moment_behind (rows_of a.asking a.turns) row)) (more_moments (moments_of (rows_of a.asking a.turns)) row.event.moment.0 old.moments mid.moments new.moments a.moments moment);
        };
        same_asking = refl;
        turn = turn;
        row_is = refl;
        turns_are = refl;
      }

  module _ (number : ℕ) where
    -- the reply comes when the request is asked
    pub answered_first : (most : ℕ) (new : Scene) (row : Row) (reply : Result (List ℕ) Error) → Begun request old new row → reply_in number row.outs ≡ Some reply
        → IsAnswered number most request old new (Some reply)
    answered_first most new row reply h replies =
        let a = h.asked in
        let rows : rows_of a.asking a.turns ≡ row ∷ [] = ap (λ (r : Row). rows_of r a.turns) h.asking_is ∙ ap (λ (ts : List Turn). rows_of row ts) h.no_turns in
        let many : length a.turns ≡ 0 = ap length h.no_turns in
        record {
          asked = a;
          ends = (record { before = []; last = row; rows_are = rows; none_before = refl; last_replies = replies }, omega arith);
          plain = plain_of old.client.timeout (client_of old) (client_of new) (rows_of a.asking a.turns) a.leads;
        }

    -- it does not
    pub waits_first : (most : ℕ) (new : Scene) (row : Row) → Begun request old new row → reply_in number row.outs ≡ None → Waits number most most request old new
    waits_first most new row h none =
        let a = h.asked in
        let rows : rows_of a.asking a.turns ≡ row ∷ [] = ap (λ (r : Row). rows_of r a.turns) h.asking_is ∙ ap (λ (ts : List Turn). rows_of row ts) h.no_turns in
        let many : length a.turns ≡ 0 = ap length h.no_turns in
        record { asked = a; none_yet = ap (first_reply number) rows ∙ reply_behind number [] row refl none; left_are = omega arith }

    -- the reply comes in a turn
    pub answered_more : (left most : ℕ) (mid new : Scene) (w : Waits number left most request old mid) (row : Row) (reply : Result (List ℕ) Error) → OneMore request old mid new w.asked row
        → reply_in number row.outs ≡ Some reply → 0 < left → IsAnswered number most request old new (Some reply)
    answered_more left most mid new w row reply o replies some =
        let b = o.asked in
        let rows : rows_of b.asking b.turns ≡ rows_of w.asked.asking w.asked.turns ++ row ∷ [] =
        ap (λ (r : Row). rows_of r b.turns) o.same_asking ∙ ap (λ (ts : List Turn). rows_of w.asked.asking ts) o.turns_are ∙ rows_more w.asked.asking w.asked.turns o.turn ∙ ap (λ (r : Row). rows_of w.asked.asking w.asked.turns ++ r ∷ []) o.row_is in
        let many : length b.turns ≡ length w.asked.turns + 1 = ap length o.turns_are ∙ length-append w.asked.turns (o.turn ∷ []) in
        let was : length w.asked.turns + left ≡ most = w.left_are in
        record {
          asked = b;
          ends = (record { before = rows_of w.asked.asking w.asked.turns; last = row; rows_are = rows; none_before = w.none_yet; last_replies = replies }, omega arith);
          plain = plain_of old.client.timeout (client_of old) (client_of new) (rows_of b.asking b.turns) b.leads;
        }

    -- it does not
    pub waits_more : (left most : ℕ) (mid new : Scene) (w : Waits number left most request old mid) (row : Row) → OneMore request old mid new w.asked row → reply_in number row.outs ≡ None → 0 < left
        → Waits number (left - 1) most request old new
    waits_more left most mid new w row o none some =
        let b = o.asked in
        let rows : rows_of b.asking b.turns ≡ rows_of w.asked.asking w.asked.turns ++ row ∷ [] =
        ap (λ (r : Row). rows_of r b.turns) o.same_asking ∙ ap (λ (ts : List Turn). rows_of w.asked.asking ts) o.turns_are ∙ rows_more w.asked.asking w.asked.turns o.turn ∙ ap (λ (r : Row). rows_of w.asked.asking w.asked.turns ++ r ∷ []) o.row_is in
        let many : length b.turns ≡ length w.asked.turns + 1 = ap length o.turns_are ∙ length-append w.asked.turns (o.turn ∷ []) in
        let was : length w.asked.turns + left ≡ most = w.left_are in
        record {
          asked = b;
          none_yet = ap (first_reply number) rows ∙ reply_behind number (rows_of w.asked.asking w.asked.turns) row w.none_yet none;
          left_are = omega arith;
        }

    -- no turn is left
    pub answered_none : (left most : ℕ) (new : Scene) → Waits number left most request old new → left ≤ 0 → IsAnswered number most request old new None
    answered_none left most new w none = record {
      asked = w.asked;
      ends = (w.none_yet, (let was : length w.asked.turns + left ≡ most = w.left_are in omega arith));
      plain = plain_of old.client.timeout (client_of old) (client_of new) (rows_of w.asked.asking w.asked.turns) w.asked.leads;
    }

  -- what was asked, if it was
  pub begun : (new : Scene) (event : Event) (r : Result Row Error) → event.what ≡ Ask request → IsOfOctets request
      → IfOk r (λ row. row_step machine old.client.timeout event (client_of old) ≡ Some (row, client_of new))
      → IfOk r (λ row. new.deeds ≡ after_deeds (acts_on row.outs) old.deeds) → new.waits ≡ old.waits → new.polls ≡ old.polls → IsGivenOn old.moments new.moments event.moment.0
      → IfOk r (Begun request old new)
  begun new event (Ok row) asks in_octets step deeds waits polls moment = asked_first new event row asks in_octets step deeds waits polls moment
  begun new event (Err error) asks in_octets step deeds waits polls moment = step

  -- a number would pass 64 bits when the request is asked
  pub stops_first : (new : Scene) (event : Event) → event.what ≡ Ask request → row_step machine old.client.timeout event (client_of old) ≡ None
      → new.deeds ≡ old.deeds → new.polls ≡ old.polls → IsGivenOn old.moments new.moments event.moment.0 → StopsForNumbers request old new
  stops_first new event asks none deeds polls moment = record {
    asking = event;
    later = [];
    asks = asks;
    stops = stops_on old.client.timeout (client_of old) (client_of old) [] event (leads_nowhere old.client.timeout (client_of old)) none;
    moments = first_moment event.moment.0 old.moments new.moments moment;
    polled = [];
    of_polls = refl;
    polls = subst (λ (n : ℕ). RoseBy 0 old.polls n) (sym polls) (rose_by_none old.polls);
    told = none_polled old.deeds new.deeds deeds;
  }

  -- or in a turn
  pub stops_more : (mid new : Scene) (a : Asked request old mid) → mid.client.timeout ≡ old.client.timeout → StopsAt mid.words mid.client mid.deeds new.deeds mid.moments new.moments → new.polls ≡ one_more mid.polls → StopsForNumbers request old new
  stops_more mid new a same s counted = record {
    asking = a.asking.event;
    later = events_of (map (λ t. t.row) a.turns) ++ s.event ∷ [];
    asks = a.asks;
    stops = stops_on old.client.timeout (client_of old) (client_of mid) (rows_of a.asking a.turns) s.event a.leads (subst (λ (n : ℕ). row_step machine n s.event (client_of mid) ≡ None) same s.stops);
    moments = subst (λ (ms : List ℕ). AreGivenOn old.moments new.moments ms) (moments_and (rows_of a.asking a.turns) s.event) (more_moments (moments_of (rows_of a.asking a.turns)) s.event.moment.0 old.moments mid.moments new.moments a.moments s.moment);
    polled = map (λ t. t.polled) a.turns ++ s.polled ∷ [];
    of_polls = events_polled a.turns s.event s.polled a.polled s.of_poll;
    polls = subst (λ (n : ℕ). RoseBy n old.polls new.polls) (turns_counted a.turns s.polled) (rose_more (length a.turns) old.polls mid.polls new.polls a.polls counted);
    told =
        subst (λ (ps : List (Option What)). ArePolledOn old.deeds new.deeds ps) (polled_of_turns (acts_on a.asking.outs) a.turns s.polled (polled_acts a.asking.outs))
        (are_polled ((acts_on a.asking.outs ++ flat_map deeds_of a.turns) ++ Polled s.polled ∷ []) old.deeds new.deeds
        (more_deeds (acts_on a.asking.outs ++ flat_map deeds_of a.turns) (Polled s.polled ∷ []) old.deeds mid.deeds new.deeds a.deeds s.deeds_are));
  }
