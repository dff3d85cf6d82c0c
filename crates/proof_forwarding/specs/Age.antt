-- How long ago servers said what the replies of a client say, of its trace alone.
use Rattle.std.specs.Prelude.{◌≡◌, ℕ, ◌+◌, ◌<◌, ◌⊎◌, false, List, [], ◌∷◌, Ok}
use Rattle.dns_base.specs.Data.{Data}
use Rattle.client_request.specs.Request.{Request}
use Rattle.client_request.specs.declared.event.Out.{Out}
use Rattle.client_request.specs.declared.event.Out.TheVariants.{Reply, Stale}
use Rattle.client_request.specs.declared.event.Row.{Row}
use Rattle.right_trace.specs.Coming.{CameFor}
use Rattle.right_trace.specs.Messages.{Octets}
use Rattle.right_trace.specs.Parts.{Parts, Says}
use Rattle.right_trace.specs.Replies.{CoversLater}
use Rattle.right_trace.specs.Requests.{is_marked}
use Rattle.right_trace.specs.Right.{Right}
use Rattle.right_trace.specs.Settings.{Settings}
use Rattle.right_trace.specs.Time.{Ever, OfRow, now, row_before}
use Rattle.right_trace.specs.Timely.{Timely}
use Rattle.right_trace.specs.Trace.{Came, Conf, History, Put, after}
use Rattle.right_trace.specs.Views.{IsValidStale, IsValidView, stale_of, view_of, view_validity}

-- In what follows `h` is what happened up to where a reply is put, its row's event and outs so far included.

-- A server said this for request k, on an exchange open for it: in this row; or before it, and then the row before this one was less than the timeout later.
pub record IsSaid (c : Conf) (k : ℕ) (m : Octets) (h : History) : Type 0 where
  pub said : ℕ
  pub came : Ever (λ e. OfRow (CameFor c k m) e × (now e ≡ said)) h
  pub soon : (said ≡ now h) ⊎ (now (row_before h) < said + c.timeout)

-- The newest out is request j's reply, unmarked: this message, as it was said; so long before moment n.
pub record IsGiven (c : Conf) (j : ℕ) (m : Octets) (age n : ℕ) (h : History) : Type 0 where
  pub before : History
  pub put : h ≡ Put (Reply j (Ok m)) ∷ before
  pub unmarked : is_marked j before ≡ false
  pub said : IsSaid c j m before
  pub ago : now h + age ≡ n

-- What was said for an earlier request that covers request k, and given to it this long ago.
pub record IsEarlier (c : Conf) (k : ℕ) (h : History) : Type 0 where
  pub first : Request
  pub request : Request
  pub number : ℕ
  pub covers : CoversLater k number first request h
  pub message : Octets
  pub age : ℕ
  pub given : Ever (IsGiven c number message age (now h)) h
  pub parts : Parts Data

-- Why an Ok reply to request k may be as old as it is.
pub data IsAged (c : Conf) (s : Settings) (k : ℕ) (m : Octets) (h : History) : Type 0 where
  -- Without a mark it is what a server said for this very request.
  SaidForIt : is_marked k h ≡ false → IsSaid c k m h → IsAged c s k m h
  -- Or it says what one said for an earlier request, given at most its validity ago, with TTLs that are less by so long.
  SaidBefore : is_marked k h ≡ false → (e : IsEarlier c k h) → IsValidView s e.first e.request e.message e.parts e.age → Says m (view_of e.first e.request e.age e.parts) → IsAged c s k m h
  -- With a mark, at most its validity and as long as the settings let expired messages serve.
  Expired : (before : History) → h ≡ Put (Stale k) ∷ before → (e : IsEarlier c k before) → IsValidStale s e.first e.request e.message e.parts e.age → Says m (stale_of e.first e.request e.parts) → IsAged c s k m h

-- each Ok reply among these outs
abbrev pub OutsAreAged : (c : Conf) (s : Settings) → History → List Out → Type 0
OutsAreAged c s h [] = Unit {0}
OutsAreAged c s h (Reply k (Ok m) ∷ outs) = IsAged c s k m h × OutsAreAged c s (Put (Reply k (Ok m)) ∷ h) outs
OutsAreAged c s h (o ∷ outs) = OutsAreAged c s (Put o ∷ h) outs

-- each Ok reply in these rows
abbrev pub AreAged : (c : Conf) (s : Settings) (past : History) → List Row → Type 0
AreAged c s past [] = Unit {0}
AreAged c s past (row ∷ rows) = OutsAreAged c s (Came row.event ∷ past) row.outs × AreAged c s (after row past) rows

-- So it is in each trace that is right and timely.
abbrev pub EveryReplyIsAged : Type 0
EveryReplyIsAged = (c : Conf) (s : Settings) (rows : List Row) → Right c s rows → Timely c rows → AreAged c s [] rows

-- Replies that are refused, whatever happened.
module _ (c : Conf) (s : Settings) (k : ℕ) (m : Octets) (h : History) where
  -- one without a mark, where no server said it for this request, and what was given before is too old
  abbrev pub Unmarked : Type 0
  Unmarked = is_marked k h ≡ false → (IsSaid c k m h → ⊥) → ((e : IsEarlier c k h) → view_validity s e.first e.request e.parts < e.age) → IsAged c s k m h → ⊥

  -- one with a mark, where what was given before is too old even so
  abbrev pub Marked : Type 0
  Marked = (before : History) → h ≡ Put (Stale k) ∷ before → ((e : IsEarlier c k before) → view_validity s e.first e.request e.parts + s.stale_for < e.age) → IsAged c s k m h → ⊥

  pub record AreTooOld : Type 0 where
    pub unmarked : Unmarked
    pub marked : Marked

abbrev pub OldRepliesAreRefused : Type 0
OldRepliesAreRefused = (c : Conf) (s : Settings) (k : ℕ) (m : Octets) (h : History) → AreTooOld c s k m h
