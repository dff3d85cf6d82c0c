-- Replies that are messages: one that came for its request; and what an earlier one serves.
use Rattle.right_trace.specs.Coming.{CameFor, CameFirst}
use Rattle.std.specs.Prelude.{◌≡◌, ℕ, ◌+◌, ◌<◌, true, false, Some, ◌∷◌, Ok}
use Rattle.dns_base.specs.Data.{Data}
use Rattle.client_request.specs.Request.{Request}
use Rattle.client_request.specs.declared.event.What.{What}
use Rattle.client_request.specs.declared.event.Out.TheVariants.{Reply}
use Rattle.right_trace.specs.Trace.{History, Conf, Put}
use Rattle.right_trace.specs.Time.{now, newest, row_before, Ever, EarlierRow, OfRow}
use Rattle.right_trace.specs.Messages.{Octets}
use Rattle.right_trace.specs.Requests.{asking, is_asked_here, is_marked}
use Rattle.right_trace.specs.Settings.{Settings}
use Rattle.right_trace.specs.Keys.{Covers}
use Rattle.right_trace.specs.Parts.{Parts, Says}
use Rattle.right_trace.specs.Validity.{is_deferred}
use Rattle.right_trace.specs.Views.{view_of, IsValidView}
use Rattle.right_trace.specs.Owed.{AllAreDone}

-- In what follows `past` is what happened before the row, `w` is the row's event, `h` is what happened up to here, the row's event and its outs so far included, and `end` is what happened when the row is done.

-- An Ok reply is fresh: its message came in this row, or, being deferred, in one before.
pub data IsFresh (c : Conf) (s : Settings) (k : ℕ) (m : Octets) (past : History) (w : What) (h : History) : Type 0 where
  InThisRow : CameFor c k m past w h → IsFresh c s k m past w h
  Deferred : is_deferred s m ≡ true → EarlierRow (OfRow (CameFor c k m)) h → IsFresh c s k m past w h

-- the newest out is request q's fresh reply with this message, at this moment; it is not marked as stale
pub record IsFreshReply (c : Conf) (s : Settings) (q : ℕ) (m : Octets) (moment : ℕ) (h : History) : Type 0 where
  pub before : History
  pub put : h ≡ (Put (Reply q (Ok m)) ∷ before)
  pub unmarked : is_marked q before ≡ false
  pub fresh : IsFresh c s q m (row_before before) (newest before) before
  pub at : now h ≡ moment

-- Request number j, which is q, was asked before request k, which is r, and covers it.
pub record CoversLater (k j : ℕ) (q r : Request) (h : History) : Type 0 where
  pub asked : (t : ℕ) × (asking k h ≡ Some (record { request = r; moment = t }))
  pub below : j < k
  pub first_asked : (t : ℕ) × (asking j h ≡ Some (record { request = q; moment = t }))
  pub covering : Covers q r

-- An earlier request, q, covers request k, which is r, and has a fresh reply, m, of this age.
pub record Supplies (c : Conf) (s : Settings) (k : ℕ) (q r : Request) (m : Octets) (age : ℕ) (h : History) : Type 0 where
  pub number : ℕ
  pub earlier : CoversLater k number q r h
  pub moment : ℕ
  pub got : Ever (IsFreshReply c s number m moment) h
  pub is_age : moment + age ≡ now h

-- An Ok reply is a view: it stands in the asking's own row, and is what the message of an earlier request reads for this one, at its age.
pub record IsView (c : Conf) (s : Settings) (k : ℕ) (m : Octets) (h : History) : Type 0 where
  pub asked_here : is_asked_here k h ≡ true
  pub first : Request
  pub request : Request
  pub message : Octets
  pub age : ℕ
  pub supplied : Supplies c s k first request message age h
  pub parts : Parts Data
  pub valid : IsValidView s first request message parts age
  pub says : Says m (view_of first request age parts)

-- An Ok reply that is not marked as stale is fresh or a view; a deferred message is given only when every server is done with the request, and is the first that came.
pub data OkIsRight (c : Conf) (s : Settings) (k : ℕ) (m : Octets) (past : History) (w : What) (h : History) : Type 0 where
  Fresh : IsFresh c s k m past w h → (is_deferred s m ≡ true → AllAreDone c k past w h × CameFirst c k m past w h) → OkIsRight c s k m past w h
  View : IsView c s k m h → OkIsRight c s k m past w h
