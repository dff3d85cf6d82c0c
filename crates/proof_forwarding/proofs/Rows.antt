-- One row of a forwarder.
use Rattle.std.proofs.Common.{◌≡◌, ℕ, ◌≤◌, List, [], ◌∷◌, ◌++◌, Option, Some, None, Bool, true, false, refl, sym, subst, ap, ◌∙◌, arith, inl}
use Rattle.std.specs.Prelude.{◌||◌, max, option_and_then, option_map, Result}
use Rattle.std.specs.List.{AllByRecursion}
use Rattle.std.specs.Map.{lookup}
use Rattle.number_table.specs.Entries.{entry_at}
use Rattle.client_request.specs.declared.error.Error.{Error}
use Rattle.client_request.specs.declared.event.Event.{Event}
use Rattle.client_request.specs.declared.event.Moment.{Moment}
use Rattle.client_request.specs.declared.event.Out.TheVariants.{Reply}
use Rattle.client_request.specs.declared.event.Row.{Row}
use Rattle.client_request.specs.declared.event.What.{What}
use Rattle.client_request.specs.declared.event.What.TheVariants.{Ask, Tick}
use Rattle.front_queries.specs.Answers.{turned_away}
use Rattle.front_queries.specs.Query.{Query, key_of}
use Rattle.front_queries.specs.Requests.{request_of}
use Rattle.front_peers.specs.Items.{closes, is_new}
use Rattle.front_peers.specs.declared.event.FrontOut.{FrontOut}
use Rattle.front_peers.specs.declared.event.FrontOut.TheVariants.{Answer, Drop}
use Rattle.front_peers.specs.declared.items.Asker.{Asker}
use Rattle.front_peers.specs.declared.items.Item.{Item}
use Rattle.front_peers.specs.declared.items.Item.TheVariants.{Asks, Refuses, Drops, Happens}
use Rattle.front_steps.specs.Steps.{DidAskIf, DidItem, DidQuery, DidTick, Doing, Happened, Leaves, Scene, Serves, Steps, begins, goes_on, is_some_row, with_streams, with_waits}
use Rattle.front_steps.specs.Waiting.{Waits}
use Rattle.front_steps.specs.Waits.{asks_anew, away, has_room, if_it_waits, is_key, joins, joins_if, may_join, puts_all, same_asked, turned}
use Rattle.front_steps.specs.declared.putting.Desk.{Desk}
use Rattle.front_steps.specs.declared.waits.Waiting.{Waiting}
use Rattle.right_trace.specs.Requests.{Asking, asking, is_ask}
use Rattle.right_trace.specs.Right.{Among}
use Rattle.right_trace.specs.Time.{now}
use Rattle.right_trace.specs.Trace.{History, Came, after, put_all}
use Rattle.proof_forwarding.specs.Heard.{Heard, closed_by, with_kept}
use Rattle.proof_forwarding.specs.Owing.{AreMany, Does, Due, Owed, Pays, Takes, TurnsAway, as_sent, due}
use Rattle.proof_forwarding.specs.Owing as owing
use Rattle.proof_forwarding.specs.Serving.{behind}
use Rattle.proof_forwarding.proofs.Tables.{each_found}
use Rattle.proof_forwarding.proofs.Keeping.{IsKeyed, Pending, StreamsKept, WaitsKept, append_nil, map_snoc, owed, owed_in}
use Rattle.proof_forwarding.proofs.Waits.{after_ask, after_event, after_join}
use Rattle.proof_forwarding.proofs.Counting.{may_not_join, not_taken}
use Rattle.proof_forwarding.proofs.Streams.{ItemsFit, after_close}
use Rattle.proof_forwarding.proofs.Paying.{AfterOuts, OutsFit, closed_append, outs_put, pays_by_more, pays_more, pays_one, then_silent}
use Rattle.proof_forwarding.proofs.Histories.{RowsFit, among_last, asking_put_all, behind_append, now_after, rows_split, said_in, said_more, some_last, some_more}

away_is : (b : Bool) (octets : List ℕ) → away b octets ≡ as_sent b octets
away_is true octets = refl
away_is false octets = refl

-- the request that waits and asks the same
record FoundSame (key : List ℕ) (w : Waits) (number : ℕ) : Type 0 where
  waiting : Waiting
  entry : entry_at number w.requests ≡ Some waiting
  same : waiting.key ≡ key

module _ (key : List ℕ) (w : Waits) (keyed : AllByRecursion (IsKeyed w.next w.requests) w.numbers) (number : ℕ) where
  at_entry : (n : ℕ) → IsKeyed w.next w.requests (key, n) → (o : Option Waiting) → entry_at n w.requests ≡ o → option_map (λ (v : Waiting). n) o ≡ Some number → FoundSame key w number
  at_entry n is None entry found = absurd (cc)
  at_entry n is (Some v) entry found = let same : n ≡ number = cc in record { waiting = v; entry = subst (λ (m : ℕ). entry_at m w.requests ≡ Some v) same entry; same = is.same v entry }

  by_number : (o : Option ℕ) → lookup (is_key key) w.numbers ≡ o → option_and_then (if_it_waits w.requests) o ≡ Some number → FoundSame key w number
  by_number None at found = absurd (cc)
  by_number (Some n) at found = at_entry n (each_found (IsKeyed w.next w.requests) key n w.numbers keyed at) (entry_at n w.requests) refl found

  found_same : same_asked key w ≡ Some number → FoundSame key w number
  found_same found = by_number (lookup (is_key key) w.numbers) refl found

-- A row, whose event came at a moment, of a forwarder whose client had made these rows, where nothing was put out yet and this is due.
module _ (own : Query → Option (List ℕ)) (past : List Row) (moment : Moment) (heard : Heard) (start : Due) (time : ℕ) where
  abbrev past_history : History
  past_history = behind past []

  -- What holds once some things were done, while these are left.
  pub record Mid (left : List Item) (desk : Desk) (outs : List FrontOut) (rows : List Row) : Type 0 where
    pub told : Heard
    pub pending : List Pending
    pub told_is : closed_by outs heard ≡ told
    pub waits : WaitsKept desk.waits (behind rows past_history) told.last pending
    pub streams : StreamsKept told desk.streams
    pub fit : ItemsFit told left
    pub pays : Pays (said_in past rows) own start outs (due told left (owed_in pending))
    pub in_time : max moment.0 (now (behind rows past_history)) ≡ time
    pub now_is : is_some_row rows ≡ true → now (behind rows past_history) ≡ time
    pub same_now : told.now ≡ time

  module _ (left : List Item) (item : Item) (desk : Desk) (outs : List FrontOut) (rows : List Row) (mid : Mid (item ∷ left) desk outs rows) where
    -- without a row of the client
    still : (told : Heard) (pending : List Pending) (done : List FrontOut × Desk) → closed_by done.0 mid.told ≡ told → WaitsKept done.1.waits (behind rows past_history) told.last pending
        → StreamsKept told done.1.streams → ItemsFit told left
        → Pays (said_in past rows) own (due mid.told (item ∷ left) (owed_in mid.pending)) done.0 (due told left (owed_in pending)) → told.now ≡ time
        → Mid left done.1 (outs ++ done.0) rows
    still told pending done told_is waits streams fit pays same = record {
      told = told;
      pending = pending;
      told_is = closed_append outs done.0 heard ∙ ap (closed_by done.0) mid.told_is ∙ told_is;
      waits = waits;
      streams = streams;
      fit = fit;
      pays = pays_more own (said_in past rows) start (due mid.told (item ∷ left) (owed_in mid.pending)) outs mid.pays (due told left (owed_in pending)) done.0 pays;
      in_time = mid.in_time;
      now_is = mid.now_is;
      same_now = same;
    }

  module _ (left : List Item) (outs : List FrontOut) (rows : List Row) (told : Heard) (pending : List Pending) (told_is : closed_by outs heard ≡ told) (row : Row) (desk : Desk)
      (waits : WaitsKept desk.waits (Came row.event ∷ behind rows past_history) told.last pending) (streams : StreamsKept told desk.streams) (fit : ItemsFit told left)
      (pays : Pays (said_in past rows) own start outs (due told left (owed_in pending))) (in_time : max moment.0 (now (behind rows past_history)) ≡ time)
      (same : told.now ≡ time) (at : row.event.moment.0 ≡ moment.0) (outs_fit : OutsFit (Came row.event ∷ behind rows past_history) row.outs) where
    abbrev more : List Row
    more = rows ++ row ∷ []

    history_is : behind more past_history ≡ put_all row.outs (Came row.event ∷ behind rows past_history)
    history_is = behind_append rows (row ∷ []) past_history

    tells : (k : ℕ) (x : Result (List ℕ) Error) (a : Asking) (first q : Query) → Among (Reply k x) row.outs → asking k (Came row.event ∷ behind rows past_history) ≡ Some a
        → a.request ≡ request_of first → key_of first ≡ key_of q → said_in past more q x
    tells k x a first q among is request key = inl (record {
      number = k;
      asked = a;
      first = first;
      is_asked =
          ap (asking k) (behind_append past more [] ∙ history_is) ∙ asking_put_all k row.outs (Came row.event ∷ behind rows past_history) ∙ is;
      request = request;
      same = key;
      put = among_last (Reply k x) rows row among;
    })

    done_row : AfterOuts own (said_in past more) told (put_all row.outs (Came row.event ∷ behind rows past_history)) pending (puts_all row.outs desk)
    done_row = outs_put own (said_in past more) told row.outs (Came row.event ∷ behind rows past_history) pending desk waits streams outs_fit tells

    later_now : now (behind more past_history) ≡ time
    later_now = ap now history_is ∙ now_after row (behind rows past_history) ∙ ap (λ (m : ℕ). max m (now (behind rows past_history))) at ∙ in_time

    -- a row of the client
    by_row : Mid left (puts_all row.outs desk).1 (outs ++ (puts_all row.outs desk).0) more
    by_row =
        let d = done_row in
        record {
          told = told;
          pending = d.left;
          told_is = closed_append outs (puts_all row.outs desk).0 heard ∙ ap (closed_by (puts_all row.outs desk).0) told_is ∙ d.still;
          waits = subst (λ (h : History). WaitsKept (puts_all row.outs desk).1.waits h told.last d.left) (sym history_is) d.waits;
          streams = d.streams;
          fit = fit;
          pays = pays_more own (said_in past more) start (due told left (owed_in pending)) outs
              (pays_by_more own (said_in past rows) (said_in past more) (said_more past rows (row ∷ [])) start (due told left (owed_in pending)) outs pays)
              (due told left (owed_in d.left)) (puts_all row.outs desk).0 (d.pays left);
          in_time = (let is = later_now in let was = in_time in omega arith);
          now_is = λ some. later_now;
          same_now = same;
        }

  module _ {C : Type 0} (steps : Steps C) (serves : Serves C) where
    -- what is done to the client within
    happened : (left : List Item) (what : What) (desk : Desk) (pending : List Pending) (told : Heard) (old new : Scene C) (rows now_rows : List Row)
        → closed_by old.outs heard ≡ told → ((e : Event) → e.moment.0 ≡ moment.0 → e.what ≡ what → WaitsKept desk.waits (Came e ∷ behind rows past_history) told.last pending)
        → StreamsKept told desk.streams → ItemsFit told left → Pays (said_in past rows) own start old.outs (due told left (owed_in pending))
        → max moment.0 (now (behind rows past_history)) ≡ time → told.now ≡ time → RowsFit (behind rows past_history) now_rows
        → Happened steps (record { moment = moment; what = what }) desk old new now_rows → Mid left new.desk new.outs (rows ++ now_rows)
    happened left what desk pending told old new rows now_rows told_is waits streams fit pays in_time same rows_fit did =
        let at : did.row.event.moment.0 ≡ moment.0 = ap (λ (e : Event). e.moment.0) did.event_is in
        let of_what : did.row.event.what ≡ what = ap (λ (e : Event). e.what) did.event_is in
        let fits : RowsFit (behind rows past_history) (did.row ∷ []) = subst (RowsFit (behind rows past_history)) did.rows_are rows_fit in
        subst (λ (rs : List Row). Mid left new.desk new.outs (rows ++ rs)) (sym did.rows_are)
        (subst (λ (d : Desk). Mid left d new.outs (rows ++ did.row ∷ [])) (sym did.desk_is)
        (subst (λ (os : List FrontOut). Mid left (puts_all did.row.outs desk).1 os (rows ++ did.row ∷ [])) (sym did.outs_are)
        (by_row left old.outs rows told pending told_is did.row desk (waits did.row.event at of_what) streams fit pays in_time same at fits.0)))

    left_so : (left : List Item) (done : List FrontOut × Desk) (old new : Scene C) (rows now_rows : List Row) → Leaves done old new now_rows → Mid left done.1 (old.outs ++ done.0) rows → Mid left new.desk new.outs (rows ++ now_rows)
    left_so left done old new rows now_rows did mid =
        subst (λ (s : Scene C). Mid left s.desk s.outs (rows ++ now_rows)) (sym did.0)
        (subst (λ (rs : List Row). Mid left done.1 (old.outs ++ done.0) rs) (sym (ap (λ (rs : List Row). rows ++ rs) did.1 ∙ append_nil rows)) mid)

    module _ (left : List Item) (asker : Asker) (old new : Scene C) (rows now_rows : List Row) (mid : Mid (Asks asker ∷ left) old.desk old.outs rows) (rows_fit : RowsFit (behind rows past_history) now_rows) where
      abbrev pending_now : ℕ → Pending
      pending_now k = record { number = k; asker = asker; since = time }

      is_old : asker.by_stream ≡ true → is_new asker.peer mid.told.last ≡ false
      is_old stream = mid.streams.old asker.peer (mid.fit.0 stream)

      taken : (k : ℕ) → Does (said_in past rows) own (due mid.told (Asks asker ∷ left) (owed_in mid.pending)) [] (due mid.told left (owed_in (mid.pending ++ pending_now k ∷ [])))
      taken k = Takes asker left refl refl
          (ap (λ (os : List Owed). due mid.told left os) (map_snoc owed mid.pending (pending_now k)
          ∙ ap (λ (n : ℕ). owed_in mid.pending ++ record { asker = asker; since = n } ∷ []) (sym mid.same_now)))

      turned_so : AreMany asker (owed_in mid.pending) → Mid left old.desk (old.outs ++ turned asker) rows
      turned_so many = still left (Asks asker) old.desk old.outs rows mid mid.told mid.pending (turned asker, old.desk) refl mid.waits mid.streams mid.fit.1
          (pays_one own (said_in past rows) (due mid.told (Asks asker ∷ left) (owed_in mid.pending)) (due mid.told left (owed_in mid.pending)) (turned asker)
          (TurnsAway asker left refl many (ap (λ (octets : List ℕ). Answer asker.peer octets ∷ []) (away_is asker.by_stream (turned_away asker.query))) refl)) mid.same_now

      before_time : now (behind rows past_history) ≤ time
      before_time = (let is = mid.in_time in omega arith)

      joined_so : (k : ℕ) → same_asked (key_of asker.query) old.desk.waits ≡ Some k → (may : Bool) → may_join k asker.by_stream old.desk.waits ≡ may
          → Mid left (joins_if may k asker old.desk).1 (old.outs ++ (joins_if may k asker old.desk).0) rows
      joined_so k same false is =
          let f = found_same (key_of asker.query) old.desk.waits mid.waits.keyed k same in
          turned_so (may_not_join old.desk.waits (behind rows past_history) mid.told.last mid.pending mid.waits asker k f.waiting f.entry f.same is)
      joined_so k same true is =
          let f = found_same (key_of asker.query) old.desk.waits mid.waits.keyed k same in
          still left (Asks asker) old.desk old.outs rows mid mid.told (mid.pending ++ pending_now k ∷ []) ([], record old.desk { waits = joins k asker old.desk.waits }) refl
          (after_join old.desk.waits (behind rows past_history) mid.told.last mid.pending asker time mid.waits is_old k f.waiting f.entry f.same before_time)
          mid.streams mid.fit.1
          (pays_one own (said_in past rows) (due mid.told (Asks asker ∷ left) (owed_in mid.pending)) (due mid.told left (owed_in (mid.pending ++ pending_now k ∷ []))) [] (taken k)) mid.same_now

      ask_if : (served may : Bool) → (has_room old.desk.waits || served) ≡ may → DidAskIf steps may moment asker old new now_rows → Mid left new.desk new.outs (rows ++ now_rows)
      ask_if served false is did =
          left_so left (turned asker, old.desk) old new rows now_rows did (turned_so (not_taken old.desk.waits (behind rows past_history) mid.told.last mid.pending mid.waits asker served is))
      ask_if served true is did =
          let next = old.desk.waits.next in
          happened left (Ask (request_of asker.query)) (with_waits (asks_anew asker old.desk.waits) old.desk) (mid.pending ++ pending_now next ∷ []) mid.told old new rows now_rows mid.told_is
          (λ e at what. after_ask old.desk.waits (behind rows past_history) mid.told.last mid.pending asker time mid.waits is_old e what
          (let is = mid.in_time in subst (λ (m : ℕ). max m (now (behind rows past_history)) ≤ time) (sym at) (omega arith)))
          mid.streams mid.fit.1
          (then_silent own (said_in past rows) start (due mid.told (Asks asker ∷ left) (owed_in mid.pending)) (due mid.told left (owed_in (mid.pending ++ pending_now next ∷ []))) old.outs mid.pays (taken next))
          mid.in_time mid.same_now rows_fit did

      query_done : (same : Option ℕ) → same_asked (key_of asker.query) old.desk.waits ≡ same → DidQuery steps serves same moment asker old new now_rows → Mid left new.desk new.outs (rows ++ now_rows)
      query_done (Some k) same did =
          left_so left (joins_if (may_join k asker.by_stream old.desk.waits) k asker old.desk) old new rows now_rows did (joined_so k same (may_join k asker.by_stream old.desk.waits) refl)
      query_done None same did =
          let served : Bool = serves old.within moment (request_of asker.query) in
          ask_if served (has_room old.desk.waits || served) refl did

    item_done : (left : List Item) (item : Item) (old new : Scene C) (rows now_rows : List Row) → Mid (item ∷ left) old.desk old.outs rows → RowsFit (behind rows past_history) now_rows
        → DidItem steps serves moment item old new now_rows → Mid left new.desk new.outs (rows ++ now_rows)
    item_done left (Asks asker) old new rows now_rows mid rows_fit did = query_done left asker old new rows now_rows mid rows_fit (same_asked (key_of asker.query) old.desk.waits) refl did
    item_done left (Happens what) old new rows now_rows mid rows_fit did =
        happened left what old.desk mid.pending mid.told old new rows now_rows mid.told_is
        (λ e at is. after_event old.desk.waits (behind rows past_history) mid.told.last mid.pending e (ap is_ask is ∙ mid.fit.0) mid.waits)
        mid.streams mid.fit.1
        (then_silent own (said_in past rows) start (due mid.told (Happens what ∷ left) (owed_in mid.pending)) (due mid.told left (owed_in mid.pending)) old.outs mid.pays (owing.Happens what left refl refl refl))
        mid.in_time mid.same_now rows_fit did
    item_done left (Refuses peer octets) old new rows now_rows mid rows_fit did =
        left_so left (Answer peer octets ∷ [], old.desk) old new rows now_rows did
        (still left (Refuses peer octets) old.desk old.outs rows mid mid.told mid.pending (Answer peer octets ∷ [], old.desk) refl mid.waits mid.streams mid.fit
        (pays_one own (said_in past rows) (due mid.told (Refuses peer octets ∷ left) (owed_in mid.pending)) (due mid.told left (owed_in mid.pending)) (Answer peer octets ∷ [])
        (owing.Refuses peer octets left refl refl refl)) mid.same_now)
    item_done left (Drops peer) old new rows now_rows mid rows_fit did =
        left_so left (Drop peer ∷ [], with_streams (closes peer old.desk.streams) old.desk) old new rows now_rows did
        (still left (Drops peer) old.desk old.outs rows mid (with_kept peer None mid.told) mid.pending (Drop peer ∷ [], with_streams (closes peer old.desk.streams) old.desk) refl
        mid.waits (after_close mid.told old.desk.streams mid.streams peer) (subst (ItemsFit (with_kept peer None mid.told)) (sym mid.fit) tt)
        (pays_one own (said_in past rows) (due mid.told (Drops peer ∷ left) (owed_in mid.pending)) (due (with_kept peer None mid.told) left (owed_in mid.pending)) (Drop peer ∷ [])
        (owing.Drops peer left refl refl refl)) mid.same_now)

    pub items_done : (items : List Item) (old : Scene C) (left : List Item) (new : Scene C) (rows : List Row) → Mid items old.desk old.outs [] → RowsFit past_history rows
        → Doing steps serves moment items old left new rows → Mid left new.desk new.outs rows
    items_done items old left new rows mid fit begins = mid
    items_done items old left new rows mid fit (goes_on item after middle last before now_rows doing did) =
        let split = rows_split before now_rows past_history fit in
        item_done after item middle last before now_rows (items_done items old (item ∷ after) middle before mid split.0 doing) split.1 did

    pub ticked_done : (some : Bool) (old new : Scene C) (rows now_rows : List Row) → is_some_row rows ≡ some → Mid [] old.desk old.outs rows → RowsFit past_history (rows ++ now_rows)
        → DidTick steps some moment old new now_rows → Mid [] new.desk new.outs (rows ++ now_rows) × (is_some_row (rows ++ now_rows) ≡ true)
    ticked_done true old new rows now_rows is mid fit did = (left_so [] ([], old.desk) old new rows now_rows did (subst (λ (os : List FrontOut). Mid [] old.desk os rows) (sym (append_nil old.outs)) mid), some_more rows now_rows is)
    ticked_done false old new rows now_rows is mid fit did = (
      happened [] Tick old.desk mid.pending mid.told old new rows now_rows mid.told_is
          (λ e at what. after_event old.desk.waits (behind rows past_history) mid.told.last mid.pending e (ap is_ask what) mid.waits)
          mid.streams mid.fit mid.pays mid.in_time mid.same_now (rows_split rows now_rows past_history fit).1 did,
      subst (λ (rs : List Row). is_some_row (rows ++ rs) ≡ true) (sym did.rows_are) (some_last rows did.row),
    )
