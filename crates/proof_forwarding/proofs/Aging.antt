-- How long ago servers said what replies say.
use Rattle.std.proofs.Common.{◌≡◌, ℕ, ◌+◌, ◌<◌, ◌≤◌, List, [], ◌∷◌, Some, Bool, true, false, refl, sym, subst, ap, ◌∙◌, arith, inl, inr}
use Rattle.std.specs.Prelude.{◌||◌, Ok, Err}
use Rattle.client_request.specs.Request.{Request}
use Rattle.client_request.specs.declared.event.Out.{Out}
use Rattle.client_request.specs.declared.event.Out.TheVariants.{Reply, Stale}
use Rattle.client_request.specs.declared.event.Row.{Row}
use Rattle.client_request.specs.declared.event.What.{What}
use Rattle.right_trace.specs.Coming.{CameFor}
use Rattle.right_trace.specs.Messages.{Octets}
use Rattle.right_trace.specs.Replies.{Deferred, Fresh, InThisRow, IsFresh, IsFreshReply, IsView, OkIsRight, Supplies, View}
use Rattle.right_trace.specs.Requests.{Asking, asking, is_marked, is_reply, replied}
use Rattle.right_trace.specs.Right.{OutsRight, RightAfter}
use Rattle.right_trace.specs.Settings.{Settings}
use Rattle.right_trace.specs.Stale.{IsStale, Marked, MessageIsRight, Unmarked}
use Rattle.right_trace.specs.Time.{EarlierRow, Ever, OfRow, newest, now, row_before}
use Rattle.right_trace.specs.Timely.{InTime, TimelyAfter}
use Rattle.right_trace.specs.Trace.{Came, Conf, History, Item, Put, after, put_all}
use Rattle.right_trace.specs.Views.{view_validity}
use Rattle.right_trace.proofs.Asked.{asking_came}
use Rattle.proof_forwarding.specs.Age as age
use Rattle.proof_forwarding.specs.Age.{AreAged, EveryReplyIsAged, Expired, IsAged, IsEarlier, IsGiven, IsSaid, OldRepliesAreRefused, OutsAreAged, SaidBefore, SaidForIt}
use Rattle.proof_forwarding.proofs.Keeping.{asking_moment, is_same}

-- ---- what a row before told is told

before_now : (h : History) → now (row_before h) ≤ now h
before_now [] = omega arith
before_now (Came e ∷ h) = omega arith
before_now (Put o ∷ h) = before_now h

asked_still : (k : ℕ) (a : Asking) (h : History) → asking k (row_before h) ≡ Some a → asking k h ≡ Some a
asked_still k a [] is = is
asked_still k a (Came e ∷ h) is = asking_came k a e h is
asked_still k a (Put o ∷ h) is = asked_still k a h is

right_false : (a b : Bool) → (a || b) ≡ false → b ≡ false
right_false true b is = absurd (cc)
right_false false b is = is

unreplied_before : (k : ℕ) (h : History) → replied k h ≡ false → replied k (row_before h) ≡ false
unreplied_before k [] is = is
unreplied_before k (Came e ∷ h) is = is
unreplied_before k (Put o ∷ h) is = unreplied_before k h (right_false (is_reply k o) (replied k h) is)

module _ (c : Conf) (s : Settings) where
  -- Each row was done in time, and each reply was the first.
  abbrev Sound : History → Type 0
  Sound [] = Unit {0}
  Sound (Came e ∷ h) = InTime c h × Sound h
  Sound (Put (Reply k x) ∷ h) = (replied k h ≡ false) × Sound h
  Sound (Put o ∷ h) = Sound h

  rest_sound : (o : Out) (h : History) → Sound (Put o ∷ h) → Sound h
  rest_sound (Reply k x) h sound = sound.1
  rest_sound o h sound = sound

  tail_sound : (x : Item) (h : History) → Sound (x ∷ h) → Sound h
  tail_sound (Came e) h sound = sound.1
  tail_sound (Put o) h sound = rest_sound o h sound

  nothing_late : InTime c []
  nothing_late k a is none = absurd (cc)

  before_late : (h : History) → Sound h → InTime c (row_before h)
  before_late [] sound = nothing_late
  before_late (Came e ∷ h) sound = sound.0
  before_late (Put o ∷ h) sound = before_late h (rest_sound o h sound)

  -- at some point of a sound history
  ever_sound : (P Q : History → Type 0) → ((e : History) → Sound e → P e → Q e) → (h : History) → Sound h → Ever P h → Ever Q h
  ever_sound P Q more [] sound is = is
  ever_sound P Q more (x ∷ h) sound (inl here) = inl (more (x ∷ h) sound here)
  ever_sound P Q more (x ∷ h) sound (inr later) = inr (ever_sound P Q more h (tail_sound x h sound) later)

  module _ (k : ℕ) (m : Octets) where
    abbrev Said : (said : ℕ) → History → Type 0
    Said said h = Ever (λ (e : History). OfRow (CameFor c k m) e × (now e ≡ said)) h

    -- what came for a request came after it was asked
    came_asked : (h : History) → OfRow (CameFor c k m) h → (a : Asking) × (asking k (row_before h) ≡ Some a) × (a.moment ≤ now h)
    came_asked h came =
        let asked = came.matches.comes.is_open.stands.asked in
        let a : Asking = record { request = came.request; moment = asked.0 } in
        let early = asking_moment k a (row_before h) asked.1 in
        let before = before_now h in
        (a, asked.1, omega arith)

    said_here : (h : History) → OfRow (CameFor c k m) h → Said (now h) h
    said_here [] came = let asked = (came_asked [] came).1 in absurd (cc)
    said_here (x ∷ h) came = inl (came, refl)

    record WasSaid (h : History) : Type 0 where
      said : ℕ
      came : Said said h
      asked : Asking
      is_asked : asking k (row_before h) ≡ Some asked
      early : asked.moment ≤ said

    was_said : (h : History) → EarlierRow (OfRow (CameFor c k m)) h → WasSaid h
    was_said [] none = absurd none
    was_said (Came e ∷ h) (inl came) =
        let asked = came_asked h came in
        record { said = now h; came = inr (said_here h came); asked = asked.0; is_asked = asked_still k asked.0 h asked.1; early = asked.2 }
    was_said (Came e ∷ h) (inr earlier) =
        let before = was_said h earlier in
        record { said = before.said; came = inr before.came; asked = before.asked; is_asked = asked_still k before.asked h before.is_asked; early = before.early }
    was_said (Put o ∷ h) earlier =
        let before = was_said h earlier in
        record { said = before.said; came = inr before.came; asked = before.asked; is_asked = before.is_asked; early = before.early }

    fresh_said : (h : History) → Sound h → replied k h ≡ false → IsFresh c s k m (row_before h) (newest h) h → IsSaid c k m h
    fresh_said h sound none (InThisRow came) = record { said = now h; came = said_here h came; soon = inl refl }
    fresh_said h sound none (Deferred put_off earlier) =
        let was = was_said h earlier in
        let late : now (row_before h) < was.asked.moment + c.timeout = before_late h sound k was.asked was.is_asked (unreplied_before k h none) in
        let early = was.early in
        record { said = was.said; came = was.came; soon = inr (omega arith) }

  -- ---- a reply that was fresh

  reply_sound : (j : ℕ) (m : Octets) (before e : History) → e ≡ Put (Reply j (Ok m)) ∷ before → Sound e → (replied j before ≡ false) × Sound before
  reply_sound j m before e is sound = subst Sound is sound

  given : (j : ℕ) (m : Octets) (moment age n : ℕ) → moment + age ≡ n → (e : History) → Sound e → IsFreshReply c s j m moment e → IsGiven c j m age n e
  given j m moment age n ago e sound fresh =
      let so = reply_sound j m fresh.before e fresh.put sound in
      let at = fresh.at in
      record { before = fresh.before; put = fresh.put; unmarked = fresh.unmarked; said = fresh_said j m fresh.before so.1 so.0 fresh.fresh; ago = omega arith }

  earlier : (k : ℕ) (first request : Request) (message : Octets) (age : ℕ) (h : History) → Sound h → (supplied : Supplies c s k first request message age h)
      → Ever (IsGiven c supplied.number message age (now h)) h
  earlier k first request message age h sound supplied =
      ever_sound (IsFreshReply c s supplied.number message supplied.moment) (IsGiven c supplied.number message age (now h))
      (given supplied.number message supplied.moment age (now h) supplied.is_age) h sound supplied.got

  view_aged : (k : ℕ) (m : Octets) (h : History) → Sound h → is_marked k h ≡ false → IsView c s k m h → IsAged c s k m h
  view_aged k m h sound unmarked v =
      SaidBefore unmarked (record {
        first = v.first;
        request = v.request;
        number = v.supplied.number;
        covers = v.supplied.earlier;
        message = v.message;
        age = v.age;
        given = earlier k v.first v.request v.message v.age h sound v.supplied;
        parts = v.parts;
      }) v.valid v.says

  stale_aged : (k : ℕ) (m : Octets) (past : History) (w : What) (h : History) → Sound h → IsStale c s k m past w h → IsAged c s k m h
  stale_aged k m past w h sound v =
      let before : Sound v.before = subst Sound v.marked sound in
      Expired v.before v.marked (record {
        first = v.first;
        request = v.request;
        number = v.supplied.number;
        covers = v.supplied.earlier;
        message = v.message;
        age = v.age;
        given = earlier k v.first v.request v.message v.age v.before before v.supplied;
        parts = v.parts;
      }) v.valid v.says

  ok_aged : (k : ℕ) (m : Octets) (h : History) → Sound h → replied k h ≡ false → is_marked k h ≡ false → OkIsRight c s k m (row_before h) (newest h) h → IsAged c s k m h
  ok_aged k m h sound none unmarked (Fresh fresh done) = SaidForIt unmarked (fresh_said k m h sound none fresh)
  ok_aged k m h sound none unmarked (View v) = view_aged k m h sound unmarked v

  message_aged : (k : ℕ) (m : Octets) (h : History) → Sound h → replied k h ≡ false → MessageIsRight c s k m (row_before h) (newest h) h → IsAged c s k m h
  message_aged k m h sound none (Unmarked no_mark right) = ok_aged k m h sound none no_mark right
  message_aged k m h sound none (Marked stale) = stale_aged k m (row_before h) (newest h) h sound stale

  -- ---- outs and rows

  outs_aged : (past : History) (w : What) (end h : History) (outs : List Out) → row_before h ≡ past → newest h ≡ w → Sound h → OutsRight c s past w end h outs → OutsAreAged c s h outs × Sound (put_all outs h)
  outs_aged past w end h [] before event sound right = (tt, sound)
  outs_aged past w end h (Reply k (Ok m) ∷ outs) before event sound right =
      let none = right.0.0.none in
      let rest = outs_aged past w end (Put (Reply k (Ok m)) ∷ h) outs before event (none, sound) right.1 in
      let here : MessageIsRight c s k m (row_before h) (newest h) h =
      subst (λ (p : History). MessageIsRight c s k m p (newest h) h) (sym before) (subst (λ (x : What). MessageIsRight c s k m past x h) (sym event) right.0.1) in
      ((message_aged k m h sound none here, rest.0), rest.1)
  outs_aged past w end h (Reply k (Err e) ∷ outs) before event sound right = outs_aged past w end (Put (Reply k (Err e)) ∷ h) outs before event (right.0.0.none, sound) right.1
  outs_aged past w end h (o ∷ outs) before event sound right = outs_aged past w end (Put o ∷ h) outs before event sound right.1

  rows_aged : (past : History) (rows : List Row) → InTime c past → Sound past → RightAfter c s past rows → TimelyAfter c past rows → AreAged c s past rows
  rows_aged past [] late sound right timely = tt
  rows_aged past (row ∷ rows) late sound right timely =
      let done = outs_aged past row.event.what (after row past) (Came row.event ∷ past) row.outs refl refl (late, sound) right.0.outs in
      (done.0, rows_aged (after row past) rows timely.0 done.1 right.1 timely.1)

pub every_reply_is_aged : EveryReplyIsAged
every_reply_is_aged c s rows right timely = rows_aged c s [] rows (nothing_late c s) tt right timely

-- ---- replies that are refused

module _ (c : Conf) (s : Settings) (k : ℕ) (m : Octets) (h : History) where
  no_mark : (before : History) → h ≡ Put (Stale k) ∷ before → is_marked k h ≡ false → ⊥
  no_mark before is none =
      let marked : is_marked k h ≡ true = ap (is_marked k) is ∙ is_same k k refl in
      cc (marked, none)

  over : (age n : ℕ) → n < age → age ≤ n → ⊥
  over age n late early = omega arith

  unmarked_refused : age.Unmarked c s k m h
  unmarked_refused none unsaid old (SaidForIt mark said) = unsaid said
  unmarked_refused none unsaid old (SaidBefore mark e valid says) = over e.age (view_validity s e.first e.request e.parts) (old e) valid.in_time
  unmarked_refused none unsaid old (Expired before is e valid says) = no_mark before is none

  same_before : (a b : History) → h ≡ Put (Stale k) ∷ a → h ≡ Put (Stale k) ∷ b → a ≡ b
  same_before a b first second = cc

  marked_refused : age.Marked c s k m h
  marked_refused before is old (SaidForIt mark said) = no_mark before is mark
  marked_refused before is old (SaidBefore mark e valid says) = no_mark before is mark
  marked_refused before is old (Expired b is_b e valid says) =
      over e.age (view_validity s e.first e.request e.parts + s.stale_for)
      (subst (λ (x : History). (g : IsEarlier c k x) → view_validity s g.first g.request g.parts + s.stale_for < g.age) (same_before before b is is_b) old e) valid.in_time

pub old_refused : OldRepliesAreRefused
old_refused c s k m h = record { unmarked = unmarked_refused c s k m h; marked = marked_refused c s k m h }
