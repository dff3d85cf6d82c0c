-- What the outs of a row say of the request that the row asks.
use Rattle.std.proofs.Common.{◌≡◌, ℕ, ◌+◌, ◌==◌, ◌&&◌, ◌||◌, Bool, true, false, inl, inr, Option, Some, None, List, [], ◌∷◌, refl, ap, ap₂, ◌∙◌}
use Rattle.std.specs.Prelude.{if◌then◌else◌, is_some, not, Result}
use Rattle.std.proofs.lemmas.Bool.{or_right}
use Rattle.client_request.specs.declared.error.Error.{Error}
use Rattle.client_request.specs.declared.event.{What.What, Out.Out, Via.Via}
use Rattle.client_request.specs.declared.event.Out.TheVariants.{Start, OpenDgram, OpenStream, Send, Write, Resume, Close, Stale, Reply}
use Rattle.client_request.specs.declared.event.Via.TheVariants.{Dgram, Stream}
use Rattle.right_trace.specs.Trace.{History, Conf, Put, put_all}
use Rattle.right_trace.specs.Time.{now, one_if}
use Rattle.right_trace.specs.{Messages.Octets, Settings.Settings}
use Rattle.right_trace.specs.Requests.{is_reply, is_mark, replied, same_via, is_start, start, handed}
use Rattle.right_trace.specs.Right.{Among, OutsRight}
use Rattle.right_trace.specs.Hit.{is_some_reply, other_replies}
use Rattle.trace_hits.specs.Point.{is_number}
use Rattle.trace_hits.specs.Outs.{result_for, or_else, reply_to, is_other, others, hands, is_handed, mark_of, has_mark}
use Rattle.trace_hits.proofs.Behind.{same_number, own_number, clash, reply_first}

abbrev Outcome : Type 0
Outcome = Result Octets Error

-- ---- counts

other_is : (k : ℕ) (o : Out) → is_other k o ≡ (is_some_reply o && not (is_reply k o))
other_is k (Reply j x) = refl
other_is k (Start j t u) = refl
other_is k (OpenDgram p t) = refl
other_is k (OpenStream p t) = refl
other_is k (Send p j i o) = refl
other_is k (Write p j i o) = refl
other_is k (Resume p o) = refl
other_is k (Close p) = refl
other_is k (Stale j) = refl

pub others_are : (k : ℕ) (os : List Out) → others k os ≡ other_replies k os
others_are k [] = refl
others_are k (o ∷ os) = ap₂ (λ b n. one_if b + n) (other_is k o) (others_are k os)

-- ---- the reply

result_none : (k : ℕ) (o : Out) → is_reply k o ≡ false → result_for k o ≡ None
result_none k (Reply j x) e = ap (λ b. if b then Some x else None) e
result_none k (Start j t u) e = refl
result_none k (OpenDgram p t) e = refl
result_none k (OpenStream p t) e = refl
result_none k (Send p j i o) e = refl
result_none k (Write p j i o) e = refl
result_none k (Resume p o) e = refl
result_none k (Close p) e = refl
result_none k (Stale j) e = refl

result_is : (k : ℕ) (o : Out) (z : Outcome) → result_for k o ≡ Some z → o ≡ Reply k z
result_is k (Reply j x) z e = go (j == k) refl e
  where
    go : (b : Bool) → (j == k) ≡ b → (if b then Some x else None) ≡ Some z → Reply j x ≡ Reply k z
    go true n e = let same : x ≡ z = cc in ap₂ (λ j x. Reply j x) (same_number j k n) same
    go false n e = absurd (cc)
result_is k (Start j t u) z e = absurd (cc)
result_is k (OpenDgram p t) z e = absurd (cc)
result_is k (OpenStream p t) z e = absurd (cc)
result_is k (Send p j i o) z e = absurd (cc)
result_is k (Write p j i o) z e = absurd (cc)
result_is k (Resume p o) z e = absurd (cc)
result_is k (Close p) z e = absurd (cc)
result_is k (Stale j) z e = absurd (cc)

pub reply_among : (k : ℕ) (os : List Out) (z : Outcome) → reply_to k os ≡ Some z → Among (Reply k z) os
reply_among k [] z e = absurd (cc)
reply_among k (o ∷ os) z e = go (reply_among k os z) (result_for k o) refl e
  where
    go : (reply_to k os ≡ Some z → Among (Reply k z) os) → (p : Option Outcome) → result_for k o ≡ p → or_else p (reply_to k os) ≡ Some z → Among (Reply k z) (o ∷ os)
    go rest (Some y) g e = let same : Some y ≡ Some z = e in inl (result_is k o z (g ∙ same))
    go rest None g e = inr (rest e)

module _ (c : Conf) (s : Settings) (past : History) (w : What) (end : History) where
  -- what has a reply gets no other one
  none_more : (k : ℕ) (z : Outcome) (os : List Out) (h : History) → OutsRight c s past w end h os → replied k h ≡ true → Among (Reply k z) os → ⊥
  none_more k z [] h right r i = i
  none_more k z (o ∷ os) h right r (inl e) = let f = reply_first c s past w h end o right.0 k (ap (is_reply k) e ∙ own_number k) in clash (replied k h) r f.none
  none_more k z (o ∷ os) h right r (inr i) = none_more k z os (Put o ∷ h) right.1 (or_right (is_reply k o) (replied k h) r) i

  pub among_reply : (k : ℕ) (z : Outcome) (os : List Out) (h : History) → OutsRight c s past w end h os → Among (Reply k z) os → reply_to k os ≡ Some z
  among_reply k z [] h right i = absurd i
  among_reply k z (o ∷ os) h right (inl e) = ap (λ o. or_else (result_for k o) (reply_to k os)) e ∙ ap (λ b. or_else (if b then Some z else None) (reply_to k os)) (own_number k)
  among_reply k z (o ∷ os) h right (inr i) = ap (λ p. or_else p (reply_to k os)) (result_none k o (other (is_reply k o) refl)) ∙ among_reply k z os (Put o ∷ h) right.1 i
    where
      other : (b : Bool) → is_reply k o ≡ b → b ≡ false
      other false e = refl
      other true e = absurd (none_more k z os (Put o ∷ h) right.1 (ap (λ b. b || replied k h) e) i)

-- ---- the mark

mark_here : (k : ℕ) (o : Out) → is_number k (mark_of o) ≡ true → o ≡ Stale k
mark_here k (Stale j) e = ap Stale (same_number j k e)
mark_here k (Reply j x) e = absurd (cc)
mark_here k (Start j t u) e = absurd (cc)
mark_here k (OpenDgram p t) e = absurd (cc)
mark_here k (OpenStream p t) e = absurd (cc)
mark_here k (Send p j i o) e = absurd (cc)
mark_here k (Write p j i o) e = absurd (cc)
mark_here k (Resume p o) e = absurd (cc)
mark_here k (Close p) e = absurd (cc)

pub marked_among : (k : ℕ) (os : List Out) → has_mark k os ≡ true → Among (Stale k) os
marked_among k [] e = absurd (cc)
marked_among k (o ∷ os) e = go (marked_among k os) (is_number k (mark_of o)) refl e
  where
    go : (has_mark k os ≡ true → Among (Stale k) os) → (b : Bool) → is_number k (mark_of o) ≡ b → (b || has_mark k os) ≡ true → Among (Stale k) (o ∷ os)
    go rest true g e = inl (mark_here k o g)
    go rest false g e = inr (rest e)

pub among_marked : (k : ℕ) (os : List Out) → Among (Stale k) os → has_mark k os ≡ true
among_marked k [] i = absurd i
among_marked k (o ∷ os) (inl e) = ap (λ o. is_number k (mark_of o) || has_mark k os) e ∙ ap (λ b. b || has_mark k os) (own_number k)
among_marked k (o ∷ os) (inr i) = or_right (is_number k (mark_of o)) (has_mark k os) (among_marked k os i)

pub mark_is : (k : ℕ) (o : Out) → is_number k (mark_of o) ≡ is_mark k o
mark_is k (Stale j) = refl
mark_is k (Reply j x) = refl
mark_is k (Start j t u) = refl
mark_is k (OpenDgram p t) = refl
mark_is k (OpenStream p t) = refl
mark_is k (Send p j i o) = refl
mark_is k (Write p j i o) = refl
mark_is k (Resume p o) = refl
mark_is k (Close p) = refl

-- ---- who is handed on

same_kind : (v : Via) → same_via v v ≡ true
same_kind Dgram = refl
same_kind Stream = refl

off : (b d : Bool) → (b && (false && d)) ≡ false
off true d = refl
off false d = refl

not_start : (k t : ℕ) (v : Via) (o : Out) → hands k o ≡ false → is_start k t v o ≡ false
not_start k t v (Start j i u) e = ap (λ b. same_via u v && (b && (i == t))) e ∙ off (same_via u v) (i == t)
not_start k t v (Reply j x) e = refl
not_start k t v (OpenDgram p i) e = refl
not_start k t v (OpenStream p i) e = refl
not_start k t v (Send p j i o) e = refl
not_start k t v (Write p j i o) e = refl
not_start k t v (Resume p o) e = refl
not_start k t v (Close p) e = refl
not_start k t v (Stale j) e = refl

neither : (a b : Bool) → (a || b) ≡ false → (a ≡ false) × (b ≡ false)
neither true b e = absurd (cc)
neither false b e = (refl, e)

pub none_handed : (k : ℕ) (os : List Out) (h : History) → is_handed k os ≡ false → ((t : ℕ) (v : Via) → start k t v h ≡ None) → (t : ℕ) (v : Via) → start k t v (put_all os h) ≡ None
none_handed k [] h e none t v = none t v
none_handed k (o ∷ os) h e none t v =
    let n = neither (hands k o) (is_handed k os) e in
    none_handed k os (Put o ∷ h) n.1 (λ t v. ap (λ b. if b then Some (now h) else start k t v h) (not_start k t v o n.0) ∙ none t v) t v

started_stays : (k t : ℕ) (v : Via) (os : List Out) (h : History) → is_some (start k t v h) ≡ true → is_some (start k t v (put_all os h)) ≡ true
started_stays k t v [] h e = e
started_stays k t v (o ∷ os) h e = started_stays k t v os (Put o ∷ h) (go (is_start k t v o))
  where
    go : (b : Bool) → is_some (if b then Some (now h) else start k t v h) ≡ true
    go true = refl
    go false = e

-- to which server, and how
pub data IsStarted (k : ℕ) (h : History) : Type 0 where
  To : (t : ℕ) (v : Via) → is_some (start k t v h) ≡ true → IsStarted k h

handed_here : (k : ℕ) (o : Out) (h : History) → hands k o ≡ true → IsStarted k (Put o ∷ h)
handed_here k (Start j t v) h e = To t v (ap (λ b. is_some (if b then Some (now h) else start k t v h)) (ap₂ (λ a b. a && (b && (t == t))) (same_kind v) e ∙ own_number t))
handed_here k (Reply j x) h e = absurd (cc)
handed_here k (OpenDgram p t) h e = absurd (cc)
handed_here k (OpenStream p t) h e = absurd (cc)
handed_here k (Send p j i o) h e = absurd (cc)
handed_here k (Write p j i o) h e = absurd (cc)
handed_here k (Resume p o) h e = absurd (cc)
handed_here k (Close p) h e = absurd (cc)
handed_here k (Stale j) h e = absurd (cc)

pub some_handed : (k : ℕ) (os : List Out) (h : History) → is_handed k os ≡ true → IsStarted k (put_all os h)
some_handed k [] h e = absurd (cc)
some_handed k (o ∷ os) h e = go (some_handed k os (Put o ∷ h)) (hands k o) refl e
  where
    stays : IsStarted k (Put o ∷ h) → IsStarted k (put_all os (Put o ∷ h))
    stays (To t v i) = To t v (started_stays k t v os (Put o ∷ h) i)

    go : (is_handed k os ≡ true → IsStarted k (put_all os (Put o ∷ h))) → (b : Bool) → hands k o ≡ b → (b || is_handed k os) ≡ true → IsStarted k (put_all os (Put o ∷ h))
    go rest true g e = stays (handed_here k o h g)
    go rest false g e = rest e

pub not_handed : (k : ℕ) (h : History) → IsStarted k h → ((t : ℕ) → handed k t h ≡ false) → ⊥
not_handed k h (To t Dgram i) none = clash (is_some (start k t Dgram h)) i (neither (is_some (start k t Dgram h)) (is_some (start k t Stream h)) (none t)).0
not_handed k h (To t Stream i) none = clash (is_some (start k t Stream h)) i (neither (is_some (start k t Dgram h)) (is_some (start k t Stream h)) (none t)).1

pub handed_none : (k t : ℕ) (h : History) → ((t : ℕ) (v : Via) → start k t v h ≡ None) → handed k t h ≡ false
handed_none k t h none = ap₂ (λ a b. is_some a || is_some b) (none t Dgram) (none t Stream)
