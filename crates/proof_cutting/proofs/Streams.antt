-- A server by streams meets what is owed at a place, and posts nothing where a request is sent or given up.
use Rattle.std.proofs.Common.{◌≡◌, ℕ, ◌≤◌, Bool, true, false, if◌then◌else◌, Option, Some, None, List, [], ◌++◌, refl, sym, ap, subst, ◌∙◌}
use Rattle.std.specs.Prelude.{◌==◌, ◌&&◌, not, Ok, Err, option_map, option_and_then}
use Rattle.client_request.specs.Composed.{Copied, appended, composed, error_of, message_of}
use Rattle.client_request.specs.declared.error.CopyRecordsError.TheVariants.{Parse, Push}
use Rattle.dns_base.specs.Draft.{fresh}
use Rattle.dns_base.specs.declared.push_error.PushError.TheVariants as refusals
use Rattle.client_request.specs.Numbered.{entry_at}
use Rattle.client_request.specs.Request.{Request}
use Rattle.client_request.specs.Requests.{for_one, for_several}
use Rattle.client_request.specs.View.{View, Transport, more_at, due_timer}
use Rattle.client_request.specs.declared.error.Error.{Error}
use Rattle.client_request.specs.declared.event.Out.{Out}
use Rattle.client_stream.specs.Plain as plain
use Rattle.client_stream.specs.Plain.{Asked, has_ended}
use Rattle.client_multi.specs.Links.{Link, one_stream}
use Rattle.client_multi.specs.MultiStream as multi
use Rattle.client_multi.specs.MultiStream.{is_result, transport}
use Rattle.proof_cutting.specs.Pieces.{like, IsReady, Both, Neither, Each, Stays, MayClose, Takes, IsCuttable, PostsNothing}
use Rattle.proof_cutting.specs.Standing.{Streams, StreamTables, IsFitStream, link_octets, longer_link, longer_tables, stream_octets, longer_stream}
use Rattle.proof_cutting.proofs.Views.{same_both, then_both}
use Rattle.proof_cutting.proofs.Links.{IsLinkCuttable, links_are_cuttable}
use Rattle.proof_cutting.proofs.Longer as table
use Rattle.proof_cutting.proofs.Fitting.{over, fits_of, fit_of, fits_later}
use Rattle.proof_cutting.proofs.Putting.{tables_octets, fits_longer}
use Rattle.proof_cutting.proofs.Reconnecting.{KeptOf, drops_kept, takes_kept}
use Rattle.proof_cutting.proofs.StreamSteps.{FitTables, due_closes, frame_taken, bytes_come, none_taken, none_heard}

-- why a message is not composed is no result of a request
no_result : (copied : Copied) (error : Error) → message_of copied ≡ Err error → is_result (Err error) ≡ false
no_result (Ok d) error e = absurd (cc)
no_result (Err (Parse x)) error e = let is : error_of (Parse x) ≡ error = cc in subst (λ error. is_result (Err error) ≡ false) is refl
no_result (Err (Push refusals.Count)) error e = let is : error_of (Push refusals.Count) ≡ error = cc in subst (λ error. is_result (Err error) ≡ false) is refl
no_result (Err (Push refusals.Limit)) error e = let is : error_of (Push refusals.Limit) ≡ error = cc in subst (λ error. is_result (Err error) ≡ false) is refl
no_result (Err (Push refusals.NoMemory)) error e = let is : error_of (Push refusals.NoMemory) ≡ error = cc in subst (λ error. is_result (Err error) ≡ false) is refl

composed_fair : (request : Request) (error : Error) → composed request ≡ Err error → is_result (Err error) ≡ false
unfolding composed
composed_fair request error e = no_result (appended request (fresh None)) error e

module _ (place : ℕ) (calls : Transport Request (Link Request) Asked) (laws : IsLinkCuttable place calls) where
  -- the octets with more behind them
  link_behind : (piece : List ℕ) (l : Link Request) → link_octets place (longer_link place piece l) ≡ option_map (λ o. o ++ piece) (link_octets place l)
  link_behind piece l = go ((l.place == place) && not (has_ended l.line.stage)) refl
    where
      go : (b : Bool) → ((l.place == place) && not (has_ended l.line.stage)) ≡ b → link_octets place (if b then record l { octets = l.octets ++ piece } else l) ≡ option_map (λ o. o ++ piece) (if b then Some l.octets else None)
      go true e = ap (λ b. if b then Some (l.octets ++ piece) else None) e
      go false e = ap (λ b. if b then Some l.octets else None) e

  behind : (piece : List ℕ) (s : Streams) → stream_octets place (longer_stream place piece s) ≡ option_map (λ o. o ++ piece) (stream_octets place s)
  behind piece s = ap (option_and_then (link_octets place)) (table.entry_here place piece s.tables.connections) ∙ go (entry_at place s.tables.connections)
    where
      go : (o : Option (Link Request)) → option_and_then (link_octets place) (option_map (λ l. longer_link place piece l) o) ≡ option_map (λ o. o ++ piece) (option_and_then (link_octets place) o)
      go None = refl
      go (Some l) = link_behind piece l

  -- other connections
  abbrev having : Streams → List (ℕ × Link Request) → Streams
  having s es = record s { tables = record s.tables { connections = es } }

  fits : (piece : List ℕ) (s : Streams) (n : ℕ) → IsFitStream s n → IsFitStream (longer_stream place piece s) n
  fits piece s n f = record { tables = fit_of (longer_tables place piece s.tables) n (fits_longer calls place piece s.tables n (fits_of s.tables n f.tables)); takes = f.takes }

  later : (s : Streams) (n m : ℕ) → n ≤ m → IsFitStream s n → IsFitStream s m
  later s n m le f = record { tables = fit_of s.tables m (fits_later s.tables.connections s.tables.watches n m le (fits_of s.tables n f.tables)); takes = f.takes }

  -- what is left of the tables is left of the whole
  whole_both : (piece : List ℕ) (before : List Out) (s : Streams) (Leaves : StreamTables → View → Type 0) (Less : Streams → View → Type 0) (r q : Option (StreamTables × View))
      → Both (longer_tables place piece) before Leaves r q → ((t : StreamTables) (w : View) → Leaves t w → Less (record s { tables = t }) w)
      → Both (longer_stream place piece) before Less (multi.with_tables s r) (multi.with_tables (longer_stream place piece s) q)
  whole_both piece before s Leaves Less r q both less =
      then_both (λ (x : StreamTables × View). Some (record s { tables = x.0 }, x.1)) (λ (x : StreamTables × View). Some (record s { tables = x.0 }, x.1)) both (λ t w more request l. Each (record s { tables = t }) w more request (less t w l))

  -- a server that takes requests on
  taking : (r : Request) (s : Streams) (v : View) → s.shut ≡ false → multi.plain_send (over calls) r s v ≡ multi.with_tables s (multi.takes (over calls) s.server s.settings false r s.tables v)
  taking r s v e = ap (λ b. multi.with_tables s (multi.takes (over calls) s.server s.settings b r s.tables v)) e

  stays : (s : Streams) (v : View) → s.shut ≡ false → (t : StreamTables) (w : View) → KeptOf place true s.tables v t w → Stays (stream_octets place) IsFitStream s v (record s { tables = t }) w
  stays s v open_ t w k = record { fit = record { tables = fit_of t w.timers.next k.fit; takes = open_ }; now = k.now; timer = k.timer; octets = k.standing; more = k.more }

  sends_tables : (piece : List ℕ) (before : List Out) (more : Bool) (r : Request) (s : Streams) (v : View) → IsFitStream s v.timers.next
      → Both (longer_tables place piece) before (KeptOf place true s.tables v) (multi.takes (over calls) s.server s.settings false r s.tables v) (multi.takes (over calls) s.server s.settings false r (longer_tables place piece s.tables) (like before more v.request v))
  sends_tables piece before more r s v f = takes_kept place calls laws piece before s.server s.settings true more r s.tables v (fits_of s.tables v.timers.next f.tables)

  sends : (piece : List ℕ) (before : List Out) (more : Bool) (r : Request) (s : Streams) (v : View) → IsFitStream s v.timers.next
      → Both (longer_stream place piece) before (Stays (stream_octets place) IsFitStream s v) (multi.plain_send (over calls) r s v) (multi.plain_send (over calls) r (longer_stream place piece s) (like before more v.request v))
  sends piece before more r s v f =
      same_both (taking r s v f.takes) (taking r (longer_stream place piece s) (like before more v.request v) f.takes)
      (whole_both piece before s (KeptOf place true s.tables v) (Stays (stream_octets place) IsFitStream s v) _ _ (sends_tables piece before more r s v f) (stays s v f.takes))

  cancels_tables : (piece : List ℕ) (before : List Out) (more : Bool) (request : ℕ) (r : Asked) (s : Streams) (v : View) → IsFitStream s v.timers.next
      → Both (longer_tables place piece) before (KeptOf place true s.tables v) (multi.drops (over calls) r.ticket s.tables v) (multi.drops (over calls) r.ticket (longer_tables place piece s.tables) (like before more request v))
  cancels_tables piece before more request r s v f = drops_kept place calls laws piece before true more request r.ticket s.tables v (fits_of s.tables v.timers.next f.tables)

  cancels : (piece : List ℕ) (before : List Out) (more : Bool) (request : ℕ) (r : Asked) (s : Streams) (v : View) → IsFitStream s v.timers.next
      → Both (longer_stream place piece) before (Stays (stream_octets place) IsFitStream s v) (multi.plain_cancel (over calls) r.ticket s v) (multi.plain_cancel (over calls) r.ticket (longer_stream place piece s) (like before more request v))
  cancels piece before more request r s v f =
      whole_both piece before s (KeptOf place true s.tables v) (Stays (stream_octets place) IsFitStream s v) _ _ (cancels_tables piece before more request r s v f) (stays s v f.takes)

  fires : (piece : List ℕ) (before : List Out) (more : Bool) (request timer : ℕ) (s : Streams) (v : View) → IsFitStream s v.timers.next
      → Both (longer_stream place piece) before (MayClose (stream_octets place) IsFitStream s v) (multi.plain_step (over calls) (due_timer timer) s v) (multi.plain_step (over calls) (due_timer timer) (longer_stream place piece s) (like before more request v))
  fires piece before more request timer s v f =
      whole_both piece before s (MayClose (tables_octets place) FitTables s.tables v) (MayClose (stream_octets place) IsFitStream s v) _ _
      (due_closes place calls laws piece before s.server more request timer s.tables v (fits_of s.tables v.timers.next f.tables))
      (λ t w k. record { fit = record { tables = fit_of t w.timers.next k.fit; takes = f.takes }; now = k.now; timer = k.timer; octets = k.octets; more = k.more })

  takes : (piece : List ℕ) (before : List Out) (request : ℕ) (s : Streams) (v : View) → IsFitStream s v.timers.next → IsReady (stream_octets place s) → v.more ≡ false
      → Both (longer_stream place piece) before (Takes (stream_octets place) IsFitStream s v) (multi.plain_step (over calls) (more_at place) s v) (multi.plain_step (over calls) (more_at place) (longer_stream place piece s) (like before false request v))
  takes piece before request s v f ready quiet =
      whole_both piece before s (Takes (tables_octets place) FitTables s.tables v) (Takes (stream_octets place) IsFitStream s v) _ _
      (frame_taken place calls laws piece before request s.tables v (fits_of s.tables v.timers.next f.tables) ready quiet)
      (λ t w k. record { fit = record { tables = fit_of t w.timers.next k.fit; takes = f.takes }; now = k.now; timer = k.timer; octets = k.octets; more = k.more })

  pub over_links : IsCuttable place (transport (over calls)) (stream_octets place) (longer_stream place) IsFitStream
  over_links = record {
    closed = λ piece s none. ap (having s) (table.longer_closed place piece s.tables.connections none);
    behind = behind;
    twice = λ a b s. ap (having s) (table.twice place a b s.tables.connections);
    fits = fits;
    later = later;
    bytes = λ piece s v f quiet. ap (multi.with_tables s) (bytes_come place calls laws piece [] s.tables v (fits_of s.tables v.timers.next f.tables));
    unheard = λ piece s v f none. ap (multi.with_tables s) (none_heard place calls laws piece [] s.tables v (fits_of s.tables v.timers.next f.tables) none);
    rests = λ s v f none. ap (multi.with_tables s) (none_taken place calls laws [] [] s.tables v (fits_of s.tables v.timers.next f.tables) none);
    response = λ piece before more request r s v. refl;
    sends = sends;
    cancels = cancels;
    fires = fires;
    takes = takes;
  }

  -- ---- nothing is posted

  unposted : (s : Streams) (r : Option (StreamTables × View)) (q : Option (StreamTables × View)) (v : View) → Both (longer_tables place []) [] (KeptOf place true s.tables v) r q → (w : Streams) (x : View) → multi.with_tables s r ≡ Some (w, x) → x.board ≡ v.board
  unposted s r q v Neither w x e = absurd (cc)
  unposted s r q v (Each t u more request k) w x e =
      let same : Some (record s { tables = t }, u) ≡ Some (w, x) = e in
      let pair : (record s { tables = t }, u) ≡ (w, x) = cc in
      ap (λ (y : Streams × View). y.1.board) (sym pair) ∙ k.unposted refl

  pub none_posted : PostsNothing (transport (over calls)) IsFitStream
  none_posted = record {
    sent = λ r s v w x f e. unposted s _ _ v (sends_tables [] [] v.more r s v f) w x (sym (taking r s v f.takes) ∙ e);
    cancelled = λ r s v w x f e. unposted s _ _ v (cancels_tables [] [] v.more v.request r s v f) w x e;
  }

pub streams_are_cuttable : (place : ℕ) → IsCuttable place (transport (one_stream for_one)) (stream_octets place) (longer_stream place) IsFitStream
streams_are_cuttable place = over_links place (plain.transport for_one for_several) (links_are_cuttable for_one for_several place composed_fair)

pub streams_post_nothing : PostsNothing (transport (one_stream for_one)) IsFitStream
streams_post_nothing = none_posted 0 (plain.transport for_one for_several) (links_are_cuttable for_one for_several 0 composed_fair)
