-- A row is right exactly where it keeps each clause but the one on events.
use Rattle.std.proofs.Common.{◌≡◌, ℕ, true, List, [], ◌∷◌, Result, Ok, Err}
use Rattle.client_request.specs.declared.event.{Event.Event, What.What, Out.Out, Row.Row}
use Rattle.client_request.specs.declared.event.Out.TheVariants.{Start, OpenDgram, OpenStream, Send, Write, Resume, Close, Reply, Stale}
use Rattle.right_trace.specs.Trace.{History, Conf, Came, Put, after}
use Rattle.right_trace.specs.Settings.{Settings}
use Rattle.right_trace.specs.Right.{OutRight, OutsRight, RowRight}
use Rattle.trace_judge.specs.clauses.Clauses.{EachOwes, MessageOwes, ReplyOwesFirst, ErrorOwes, OtherOwes, OutsAreOrderly, ErrorsHaveCauses, Clause, Events, Messages, Firsts, Causes, Orders, Prompts, Keeps}
use Rattle.trace_judge.specs.clauses.Verdicts.{KeepsAll}

module _ (c : Conf) (s : Settings) (past : History) (w : What) (end : History) where
  -- what one out owes, in its four parts
  one_owes : (h : History) (o : Out) → OutRight c s past w h end o
      → MessageOwes c s past w h o × ReplyOwesFirst h o × ErrorOwes c s past w h o × OtherOwes c s past w end h o
  one_owes h (Reply k (Ok m)) r = (r.1, r.0, tt, tt)
  one_owes h (Reply k (Err e)) r = (tt, r.0, r.1, tt)
  one_owes h (Start k t v) r = (tt, tt, tt, r)
  one_owes h (OpenDgram p t) r = (tt, tt, tt, r)
  one_owes h (OpenStream p t) r = (tt, tt, tt, r)
  one_owes h (Send p k id o) r = (tt, tt, tt, r)
  one_owes h (Write p k id o) r = (tt, tt, tt, r)
  one_owes h (Resume p o) r = (tt, tt, tt, r)
  one_owes h (Close p) r = (tt, tt, tt, r)
  one_owes h (Stale k) r = (tt, tt, tt, r)

  one_right : (h : History) (o : Out) → MessageOwes c s past w h o → ReplyOwesFirst h o → ErrorOwes c s past w h o → OtherOwes c s past w end h o → OutRight c s past w h end o
  one_right h (Reply k (Ok m)) a b d e = (b, a)
  one_right h (Reply k (Err x)) a b d e = (b, d)
  one_right h (Start k t v) a b d e = e
  one_right h (OpenDgram p t) a b d e = e
  one_right h (OpenStream p t) a b d e = e
  one_right h (Send p k id o) a b d e = e
  one_right h (Write p k id o) a b d e = e
  one_right h (Resume p o) a b d e = e
  one_right h (Close p) a b d e = e
  one_right h (Stale k) a b d e = e

  each_owes : (h : History) (os : List Out) → OutsRight c s past w end h os
      → EachOwes (MessageOwes c s past w) h os × EachOwes ReplyOwesFirst h os × EachOwes (ErrorOwes c s past w) h os × EachOwes (OtherOwes c s past w end) h os
  each_owes h [] r = (tt, tt, tt, tt)
  each_owes h (o ∷ os) r =
      let one = one_owes h o r.0 in
      let more = each_owes (Put o ∷ h) os r.1 in
      ((one.0, more.0), (one.1, more.1), (one.2, more.2), (one.3, more.3))

  each_right : (h : History) (os : List Out)
      → EachOwes (MessageOwes c s past w) h os → EachOwes ReplyOwesFirst h os → EachOwes (ErrorOwes c s past w) h os → EachOwes (OtherOwes c s past w end) h os
      → OutsRight c s past w end h os
  each_right h [] a b d e = tt
  each_right h (o ∷ os) a b d e = (one_right h o a.0 b.0 d.0 e.0, each_right (Put o ∷ h) os a.1 b.1 d.1 e.1)

pub row_right : (c : Conf) (s : Settings) (past : History) (e : Event) (row : Row) → KeepsAll c s past e row → RowRight c s past row
row_right c s past e row k =
    let errors = k Causes in
    let orders = k Orders in
    record {
      outs = each_right c s past row.event.what (after row past) (Came row.event ∷ past) row.outs (k Messages) (k Firsts) errors.errors orders.outs;
      busy = orders.busy;
      places = orders.places;
      prompt = k Prompts;
      marks = orders.marks;
      one_fault = errors.one_fault;
    }

pub right_row : (c : Conf) (s : Settings) (past : History) (e : Event) (row : Row) → row.event ≡ e → RowRight c s past row → KeepsAll c s past e row
right_row c s past e row same r =
    let each = each_owes c s past row.event.what (after row past) (Came row.event ∷ past) row.outs r.outs in
    go each
  where
    go : EachOwes (MessageOwes c s past row.event.what) (Came row.event ∷ past) row.outs
        × EachOwes ReplyOwesFirst (Came row.event ∷ past) row.outs
        × EachOwes (ErrorOwes c s past row.event.what) (Came row.event ∷ past) row.outs
        × EachOwes (OtherOwes c s past row.event.what (after row past)) (Came row.event ∷ past) row.outs
        → (x : Clause) → Keeps x c s past e row
    go each Events = same
    go each Messages = each.0
    go each Firsts = each.1
    go each Causes = record { errors = each.2; one_fault = r.one_fault }
    go each Orders = record { outs = each.3; busy = r.busy; places = r.places; marks = r.marks }
    go each Prompts = r.prompt
