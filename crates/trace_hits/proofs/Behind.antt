-- What holds behind rows that are right.
use Rattle.std.proofs.Common.{◌≡◌, ℕ, ◌<◌, ◌==◌, ◌||◌, Bool, true, false, inl, inr, Option, Some, None, List, [], ◌∷◌, refl, sym, ap, ◌∙◌, subst, arith}
use Rattle.std.specs.Prelude.{Ok}
use Rattle.std.proofs.lemmas.Bool.{or_right}
use Rattle.std.proofs.lemmas.Bool.Decides.{nat_tests}
use Rattle.client_request.specs.declared.event.{Event.Event, What.What, Out.Out, Row.Row}
use Rattle.client_request.specs.declared.event.Out.TheVariants.{Start, OpenDgram, OpenStream, Send, Write, Resume, Close, Stale, Reply}
use Rattle.right_trace.specs.Trace.{History, Conf, Came, Put, put_all, after}
use Rattle.right_trace.specs.Time.{row_before, Ever, OfRow}
use Rattle.right_trace.specs.{Messages.Octets, Settings.Settings, Coming.CameFor}
use Rattle.right_trace.specs.Requests.{Asking, asks, asking, is_asked_here, is_reply, is_marked, replied}
use Rattle.right_trace.specs.Replies.{IsFresh, InThisRow, Deferred, IsFreshReply, Fresh, View}
use Rattle.right_trace.specs.Stale.{MessageIsRight, Unmarked, Marked}
use Rattle.right_trace.specs.Right.{IsAsked, IsFirst, OutRight, OutsRight, RowRight}
use Rattle.right_trace.proofs.Asked.{asking_below, asking_came, here_asks, earlier_known}
use Rattle.trace_points.proofs.lemmas.exchanges.Asking.{right_rows_ask}
use Rattle.trace_hits.specs.Known.{BehindRight}

pub same_number : (a b : ℕ) → (a == b) ≡ true → a ≡ b
same_number a b e = grind (arith, nat_tests)

pub own_number : (a : ℕ) → (a == a) ≡ true
own_number a = grind (arith, nat_tests)

pub clash : {A : Type 0} (b : Bool) → b ≡ true → b ≡ false → A
clash b p q = absurd (let z : true ≡ false = sym p ∙ q in cc)

-- ---- what is fresh is not given in the row of its own asking

pub fresh_not_here : (c : Conf) (s : Settings) (k : ℕ) (m : Octets) (past : History) (w : What) (h : History) → IsFresh c s k m past w h → row_before h ≡ past → is_asked_here k h ≡ true → ⊥
fresh_not_here c s k m past w h f row here = go f
  where
    last : asks past ≡ k
    last = subst (λ g. asks g ≡ k) row (here_asks k h here)

    never : (a : Asking) → asking k past ≡ Some a → ⊥
    never a e = (let lt = asking_below k a past e in let n = last in omega arith)

    go : IsFresh c s k m past w h → ⊥
    go (InThisRow x) = (let a = x.matches.comes.is_open.stands.asked in never (record { request = x.request; moment = a.0 }) a.1)
    go (Deferred d x) = (let a = earlier_known (OfRow (CameFor c k m)) k h (λ e q. (record { request = q.request; moment = q.matches.comes.is_open.stands.asked.0 }, q.matches.comes.is_open.stands.asked.1)) x in never (a.0) (subst (λ g. asking k g ≡ Some (a.0)) row a.1))

-- what is right, is not marked and is not given there is fresh
pub fresh_else : (c : Conf) (s : Settings) (k : ℕ) (m : Octets) (past : History) (w : What) (h : History) → MessageIsRight c s k m past w h → is_marked k h ≡ false → is_asked_here k h ≡ false → IsFresh c s k m past w h
fresh_else c s k m past w h (Unmarked u (Fresh f last)) un here = f
fresh_else c s k m past w h (Unmarked u (View v)) un here = clash (is_asked_here k h) v.asked_here here
fresh_else c s k m past w h (Marked st) un here = clash (is_marked k h) (ap (is_marked k) st.marked ∙ own_number k) un

-- ---- replies

pub ever_replied : (c : Conf) (s : Settings) (j n : ℕ) (m : Octets) (h : History) → Ever (IsFreshReply c s j m n) h → replied j h ≡ true
ever_replied c s j n m [] x = absurd x
ever_replied c s j n m (Came e ∷ h) (inl x) = (let z : Path History (Came e ∷ h) (Put (Reply j (Ok m)) ∷ x.before) = x.put in absurd (cc))
ever_replied c s j n m (Came e ∷ h) (inr x) = ever_replied c s j n m h x
ever_replied c s j n m (Put o ∷ h) (inl x) = here (is_reply j o) (ap (is_reply j) (same x.put) ∙ own_number j)
  where
    same : Path History (Put o ∷ h) (Put (Reply j (Ok m)) ∷ x.before) → o ≡ Reply j (Ok m)
    same q = (let z : Put o ≡ Put (Reply j (Ok m)) = cc in cc)

    here : (b : Bool) → b ≡ true → (b || replied j h) ≡ true
    here true e = refl
    here false e = absurd (cc)
ever_replied c s j n m (Put o ∷ h) (inr x) = or_right (is_reply j o) (replied j h) (ever_replied c s j n m h x)

-- an out that is right is a first reply, if it is one
pub reply_first : (c : Conf) (s : Settings) (past : History) (w : What) (h end : History) (o : Out) → OutRight c s past w h end o → (k : ℕ) → is_reply k o ≡ true → IsFirst k h
reply_first c s past w h end (Reply j x) right k e = subst (λ j. IsFirst j h) (same_number j k e) right.0
reply_first c s past w h end (Start j t u) right k e = absurd (cc)
reply_first c s past w h end (OpenDgram p t) right k e = absurd (cc)
reply_first c s past w h end (OpenStream p t) right k e = absurd (cc)
reply_first c s past w h end (Send p j i o) right k e = absurd (cc)
reply_first c s past w h end (Write p j i o) right k e = absurd (cc)
reply_first c s past w h end (Resume p o) right k e = absurd (cc)
reply_first c s past w h end (Close p) right k e = absurd (cc)
reply_first c s past w h end (Stale j) right k e = absurd (cc)

-- and fresh, if it is a message without a mark that is not given in the row of its own asking
pub reply_fresh : (c : Conf) (s : Settings) (past : History) (w : What) (h end : History) (k : ℕ) (m : Octets) → OutRight c s past w h end (Reply k (Ok m)) → is_marked k h ≡ false → is_asked_here k h ≡ false → IsFresh c s k m past w h
reply_fresh c s past w h end k m right un here = fresh_else c s k m past w h right.1 un here

abbrev RepliesAsked : History → Type 0
RepliesAsked h = (k : ℕ) → replied k h ≡ true → IsAsked k h

replies_event : (e : Event) (h : History) → RepliesAsked h → RepliesAsked (Came e ∷ h)
replies_event e h f k r = let a = f k r in (a.0, asking_came k a.0 e h a.1)

replies_out : (o : Out) (h : History) → ((k : ℕ) → is_reply k o ≡ true → IsFirst k h) → RepliesAsked h → RepliesAsked (Put o ∷ h)
replies_out o h first f k r = go (is_reply k o) refl r
  where
    go : (b : Bool) → is_reply k o ≡ b → (b || replied k h) ≡ true → IsAsked k h
    go true e r = (first k e).asked
    go false e r = f k r

replies_outs : (c : Conf) (s : Settings) (past : History) (w : What) (end h : History) (os : List Out) → OutsRight c s past w end h os → RepliesAsked h → RepliesAsked (put_all os h)
replies_outs c s past w end h [] right f = f
replies_outs c s past w end h (o ∷ os) right f = replies_outs c s past w end (Put o ∷ h) os right.1 (replies_out o h (reply_first c s past w h end o right.0) f)

pub behind_nothing : BehindRight []
behind_nothing = record { first = right_rows_ask.begins; replies = λ k r. absurd (cc) }

pub behind_row : (c : Conf) (s : Settings) (past : History) (row : Row) → RowRight c s past row → BehindRight past → BehindRight (after row past)
behind_row c s past row right b = record {
  first = right_rows_ask.row c s past row right b.first;
  replies = replies_outs c s past row.event.what (after row past) (Came row.event ∷ past) row.outs right.outs (replies_event row.event past b.replies);
}

-- a request that is asked next was not asked, and has no reply
pub next_unasked : (h : History) → asking (asks h) h ≡ None
next_unasked h = go (asking (asks h) h) refl
  where
    less : (n : ℕ) → n < n → ⊥
    less n lt = omega arith

    go : (o : Option Asking) → asking (asks h) h ≡ o → o ≡ None
    go None e = refl
    go (Some a) e = absurd (less (asks h) (asking_below (asks h) a h e))

pub next_unreplied : (h : History) → BehindRight h → replied (asks h) h ≡ false
next_unreplied h b = go (replied (asks h) h) refl
  where
    go : (d : Bool) → replied (asks h) h ≡ d → d ≡ false
    go false e = refl
    go true e = let a = b.replies (asks h) e in absurd (let z : None ≡ Some a.0 = sym (next_unasked h) ∙ a.1 in cc)
