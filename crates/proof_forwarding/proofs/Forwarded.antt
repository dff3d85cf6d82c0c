-- All rows of a forwarder, one behind another.
use Rattle.std.proofs.Common.{◌≡◌, ℕ, ◌+◌, ◌<◌, List, [], ◌∷◌, ◌++◌, Option, true, refl, sym, subst, ap, ◌∙◌, arith}
use Rattle.std.specs.Prelude.{max}
use Rattle.std.specs.List.{AllByRecursion}
use Rattle.client_request.specs.declared.event.Row.{Row}
use Rattle.client_steps.specs.Headline.{conf_with, settings_of}
use Rattle.client_steps.specs.Whole.{Whole, started_with}
use Rattle.front_core.specs.Core.{IsCoreStep, core_serves}
use Rattle.front_core.specs.Forwarded.{Forwards, begins, goes_on}
use Rattle.front_peers.specs.Items.{Streams, at_moment, no_streams, takes}
use Rattle.front_peers.specs.declared.event.FrontEvent.{FrontEvent}
use Rattle.front_peers.specs.declared.event.FrontOut.{FrontOut}
use Rattle.front_peers.specs.declared.event.FrontRow.{FrontRow}
use Rattle.front_peers.specs.declared.event.FrontWhat.{FrontWhat}
use Rattle.front_peers.specs.declared.items.Item.{Item}
use Rattle.front_peers.specs.declared.event.FrontWhat.TheVariants.{Datagram, Accepted, Bytes, Gone, Core}
use Rattle.front_queries.specs.Query.{Query}
use Rattle.front_steps.specs.Steps.{Forwarding, Scene, Serves, Steps, TookIn, beginning, is_some_row, scene, with_streams}
use Rattle.front_steps.specs.Waits.{none_waits}
use Rattle.front_steps.specs.declared.putting.Desk.{Desk}
use Rattle.proof_front.specs.Forwarding.{EveryForwardedTraceIsRight}
use Rattle.right_trace.specs.Right.{RightAfter}
use Rattle.right_trace.specs.Settings.{Settings}
use Rattle.right_trace.specs.Time.{now}
use Rattle.right_trace.specs.Timely.{InTime, TimelyAfter}
use Rattle.right_trace.specs.Trace.{Conf, History}
use Rattle.proof_forwarding.specs.Forwarding.{EveryQueryIsServed, NoAnswerIsOlder, by_itself}
use Rattle.proof_forwarding.specs.Heard.{Comes, DropsNone, DropsOne, Heard, MakesRoom, after_row, closed_by, nothing_heard, told_by}
use Rattle.proof_forwarding.specs.Owing.{AreYoung, Due, IsYoung, Pays, due, rests}
use Rattle.proof_forwarding.specs.Serving as serving
use Rattle.proof_forwarding.specs.Serving.{RowServes, ServesAll, Turn, behind}
use Rattle.proof_forwarding.proofs.Keeping.{IsWaiting, Pending, StreamsKept, WaitsKept, owed, owed_in}
use Rattle.proof_forwarding.proofs.Aging.{every_reply_is_aged}
use Rattle.proof_forwarding.proofs.Coming.{items_come}
use Rattle.proof_forwarding.proofs.Streams.{items_fit, same_now, streams_after, waits_heard}
use Rattle.proof_forwarding.proofs.Histories.{RowsFit, behind_append, right_split, rows_fit, rows_split, said_in, timely_end, timely_split, turn}
use Rattle.proof_forwarding.proofs.Rows.{Mid, items_done, ticked_done}

-- What holds between two rows.
record Between (past : List Row) (desk : Desk) (heard : Heard) (ps : List Pending) : Type 0 where
  waits : WaitsKept desk.waits (behind past []) heard.last ps
  streams : StreamsKept heard desk.streams
  in_time : now (behind past []) ≡ heard.now

-- ---- a row

module _ (own : Query → Option (List ℕ)) (past : List Row) (desk : Desk) (heard : Heard) (ps : List Pending) (kept : Between past desk heard ps) (event : FrontEvent) where
  abbrev time : ℕ
  time = max heard.now event.moment.0

  -- what is told, but for what happened
  abbrev timed : Heard
  timed = record heard { now = time }

  abbrev base : Streams
  base = at_moment event.moment.0 desk.streams

  base_kept : StreamsKept timed base
  base_kept = record { rises = kept.streams.rises; kept = kept.streams.kept; last = kept.streams.last; old = kept.streams.old }

  timed_waits : WaitsKept desk.waits (behind past []) timed.last ps
  timed_waits = kept.waits

  abbrev start : Due
  start = due (told_by event heard) (takes event desk.streams).0 (owed_in ps)

  time_is : (told_by event heard).now ≡ time
  time_is = same_now timed (behind past []) event.what

  timed_room : (peer : ℕ) (items : List Item) → MakesRoom peer timed items → MakesRoom peer heard items
  timed_room peer items (DropsNone none) = DropsNone none
  timed_room peer items (DropsOne quiet is new some many) = DropsOne quiet is new some many

  timed_comes : (what : FrontWhat) (items : List Item) → Comes what timed items → Comes what heard items
  timed_comes (Datagram peer octets) items come = come
  timed_comes (Accepted peer) items come = timed_room peer items come
  timed_comes (Bytes peer octets) items come = come
  timed_comes (Gone peer) items come = come
  timed_comes (Core what) items come = come

  begun : Mid own past event.moment (told_by event heard) start time (takes event desk.streams).0 (with_streams (takes event desk.streams).1 desk) [] []
  begun = record {
    told = told_by event heard;
    pending = ps;
    told_is = refl;
    waits = waits_heard timed (behind past []) desk.waits ps event.what timed_waits;
    streams = streams_after timed base base_kept event.what;
    fit = items_fit timed base base_kept event.what;
    pays = rests start start [] refl refl;
    in_time = (let is = kept.in_time in omega arith);
    now_is = λ some. absurd (cc);
    same_now = time_is;
  }

  record Done (outs : List FrontOut) (desk' : Desk) (rows : List Row) : Type 0 where
    mid : Mid own past event.moment (told_by event heard) start time [] desk' outs rows
    some : is_some_row rows ≡ true

  module _ {C : Type 0} (steps : Steps C) (serves : Serves C) (within : C) (words : ℕ → ℕ) (new : Scene C) (took : TookIn steps serves event within words desk new)
      (fit : RowsFit (behind past []) (took.rows ++ took.now)) where
    done : Done new.outs new.desk (took.rows ++ took.now)
    done =
        let split = rows_split took.rows took.now (behind past []) fit in
        let middle = items_done own past event.moment (told_by event heard) start time steps serves (takes event desk.streams).0
        (scene within words (with_streams (takes event desk.streams).1 desk) []) [] took.middle took.rows begun split.0 took.doing in
        let ends = ticked_done own past event.moment (told_by event heard) start time steps serves (is_some_row took.rows) took.middle new took.rows took.now refl middle fit took.ticked in
        record { mid = ends.0; some = ends.1 }

  -- ---- and what is left then

  module _ (timeout : ℕ) (c : Conf) (is_timeout : c.timeout ≡ timeout) (outs : List FrontOut) (desk' : Desk) (rows : List Row) (done : Done outs desk' rows) (timely : InTime c (behind rows (behind past []))) where
    now_here : now (behind rows (behind past [])) ≡ time
    now_here = done.mid.now_is done.some

    one_young : (p : Pending) → IsWaiting (behind rows (behind past [])) done.mid.told.last p → IsYoung timeout time (owed p)
    one_young p is =
        let late : now (behind rows (behind past [])) < is.asked.moment + c.timeout = timely p.number is.asked is.is_asked is.none in
        let at = now_here in
        let since = is.since in
        omega (arith, is_timeout)

    young : (qs : List Pending) → AllByRecursion (IsWaiting (behind rows (behind past [])) done.mid.told.last) qs → AreYoung timeout time (owed_in qs)
    young [] all = tt
    young (p ∷ qs) all = (one_young p all.0, young qs all.1)

    row_serves : RowServes timeout own (record { event = event; outs = outs }) (turn past rows ∷ []) heard (owed_in ps) (owed_in done.mid.pending)
    row_serves = record {
      items = (takes event desk.streams).0;
      come = timed_comes event.what (takes event desk.streams).0 (items_come timed base base_kept event.what);
      pays = subst (λ (g : Heard). Pays (said_in past rows) own start outs (due g [] (owed_in done.mid.pending))) (sym done.mid.told_is) done.mid.pays;
      young = subst (λ (n : ℕ). AreYoung timeout n (owed_in done.mid.pending))
          (sym (ap (λ (g : Heard). g.now) done.mid.told_is ∙ done.mid.same_now))
          (young done.mid.pending done.mid.waits.waiting);
    }

    later : Between (past ++ rows) desk' (closed_by outs (told_by event heard)) done.mid.pending
    later =
        subst (λ (g : Heard). Between (past ++ rows) desk' g done.mid.pending) (sym done.mid.told_is)
        (record {
          waits = subst (λ (h : History). WaitsKept desk'.waits h done.mid.told.last done.mid.pending) (sym (behind_append past rows [])) done.mid.waits;
          streams = done.mid.streams;
          in_time = ap now (behind_append past rows []) ∙ now_here ∙ sym done.mid.same_now;
        })

-- ---- all rows

-- What holds of all rows so far.
record SoFar (timeout : ℕ) (own : Query → Option (List ℕ)) (rows : List FrontRow) (trace : List Row) (desk : Desk) : Type 0 where
  heard : Heard
  pending : List Pending
  serves : serving.Serves timeout own rows (trace ∷ []) heard (owed_in pending)
  kept : Between trace desk heard pending

nothing_kept : Between [] (record { waits = none_waits; streams = no_streams }) nothing_heard []
nothing_kept = record {
  waits = record {
    next = refl;
    rises = tt;
    keyed = tt;
    keys = λ k v is. absurd (cc);
    each = λ k. refl;
    waiting = tt;
    shares = tt;
    asked = λ k is. absurd (cc);
  };
  streams = record { rises = tt; kept = λ peer. refl; last = refl; old = λ peer is. absurd (cc) };
  in_time = refl;
}

module _ (own : Query → Option (List ℕ)) (c : Conf) (s : Settings) where
  all_served : (first : Forwarding Whole) (words : ℕ → ℕ) (rows : List FrontRow) (trace : List Row) (last : Forwarding Whole) (left : ℕ → ℕ)
      → first.desk ≡ record { waits = none_waits; streams = no_streams } → Forwards first words rows trace last left → RightAfter c s [] trace → TimelyAfter c [] trace → SoFar c.timeout own rows trace last.desk
  all_served first words rows trace last left is begins right timely = record {
    heard = nothing_heard;
    pending = [];
    serves = serving.begins ([] ∷ []) (refl, tt);
    kept = subst (λ (d : Desk). Between [] d nothing_heard []) (sym is) nothing_kept;
  }
  all_served first words rows trace last left is (goes_on some all row before whole a b f g forwards made rows_are trace_is) right timely =
      let more : List Row = made.rows ++ made.now in
      let rights = right_split c s before more [] (subst (RightAfter c s []) trace_is right) in
      let times = timely_split c before more [] (subst (TimelyAfter c []) trace_is timely) in
      let so = all_served first words some before a f is forwards rights.0 times.0 in
      let ended : Done own before a.desk so.heard so.pending so.kept row.event row.outs b.desk more =
      done own before a.desk so.heard so.pending so.kept row.event IsCoreStep core_serves a.within f (scene b.within g b.desk row.outs) made (rows_fit c s (behind before []) more rights.1) in
      let in_time : InTime c (behind more (behind before [])) = timely_end c more (behind before []) ended.some times.1 in
      record {
        heard = after_row row so.heard;
        pending = ended.mid.pending;
        serves = serving.goes_on some all row (turn before more ∷ []) (whole ∷ []) so.heard (owed_in so.pending) (owed_in ended.mid.pending) so.serves
            (row_serves own before a.desk so.heard so.pending so.kept row.event c.timeout c refl row.outs b.desk more ended in_time)
            rows_are
            (ap (λ (rs : List Row). rs ∷ []) trace_is);
        kept = subst (λ (rs : List Row). Between rs b.desk (after_row row so.heard) ended.mid.pending) (sym trace_is)
            (later own before a.desk so.heard so.pending so.kept row.event c.timeout c refl row.outs b.desk more ended in_time);
      }

pub every_query_served : EveryForwardedTraceIsRight → EveryQueryIsServed
every_query_served every t given redundant cache conf words rows made last left are forwards limited small =
    let right = every given redundant cache conf words rows made last left forwards limited small in
    let so = all_served by_itself (conf_with t conf) (settings_of redundant cache) (beginning (started_with given redundant cache conf)) words rows made last left refl forwards (right.right t are) (right.timely t are) in
    record { heard = so.heard; owing = owed_in so.pending; serves = so.serves }

pub none_older : EveryForwardedTraceIsRight → NoAnswerIsOlder
none_older every t given redundant cache conf words rows made last left are forwards limited small =
    let right = every given redundant cache conf words rows made last left forwards limited small in
    every_reply_is_aged (conf_with t conf) (settings_of redundant cache) made (right.right t are) (right.timely t are)
