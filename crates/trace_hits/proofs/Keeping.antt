-- What is kept goes on over events, and over outs that are right.
use Rattle.std.proofs.Common.{◌≡◌, ℕ, suc, ◌+◌, ◌-◌, ◌<◌, ◌≤◌, ◌==◌, ◌||◌, max, Bool, true, false, inl, inr, Option, Some, None, List, [], ◌∷◌, refl, sym, ap, ◌∙◌, subst, arith}
use Rattle.std.specs.Prelude.{if◌then◌else◌, is_some, Result, Ok, Err}
use Rattle.std.proofs.lemmas.Bool.Decides.{nat_tests}
use Rattle.number_table.specs.Entries.{entry_at}
use Rattle.dns_base.specs.Data.{Data}
use Rattle.client_request.specs.Request.{Request}
use Rattle.client_request.specs.declared.error.Error.{Error}
use Rattle.client_request.specs.declared.event.{Event.Event, What.What, Out.Out}
use Rattle.client_request.specs.declared.event.Out.TheVariants.{Start, OpenDgram, OpenStream, Send, Write, Resume, Close, Stale, Reply}
use Rattle.client_settings.specs.Settings.{CacheSettings}
use Rattle.right_trace.specs.Trace.{History, Conf, Came, Put, put_all}
use Rattle.right_trace.specs.Time.{now, newest, one_if, row_before, Ever}
use Rattle.right_trace.specs.{Messages.Octets, Settings.Settings, Validity.validity_of_message, Views.view_of}
use Rattle.right_trace.specs.Requests.{Asking, asks, asking, is_ask, is_asked_here, is_reply, is_marked, replied}
use Rattle.right_trace.specs.Keys.{Key, key_of, is_cacheable}
use Rattle.right_trace.specs.Parts.{Parts, known_parts, Says}
use Rattle.right_trace.specs.Replies.{IsFresh, IsFreshReply}
use Rattle.right_trace.specs.Right.{IsFirst, OutRight, OutsRight}
use Rattle.right_trace.specs.Hit.{asks_since, is_some_reply, replies_since, IsViewOf, OutIsView}
use Rattle.right_trace.proofs.{Asked.asking_came, Valid.valid_is_known}
use Rattle.cache_rules.specs.Key.{same_key, same_itself, same_is_equal}
use Rattle.cache_rules.specs.Validity.{cached_by, with_cache}
use Rattle.trace_tables.specs.Requests.{marked_seen}
use Rattle.trace_tables.specs.Requests as requests
use Rattle.trace_hits.specs.declared.course.Course.{Course}
use Rattle.trace_hits.specs.declared.kept.Kept.{Kept}
use Rattle.trace_hits.specs.declared.question.Question.{Question}
use Rattle.trace_hits.specs.Question.{IsAsked}
use Rattle.trace_hits.specs.Point.{is_number, replies_in}
use Rattle.trace_hits.specs.Point as point
use Rattle.trace_hits.specs.Kept.{Table, begun, begun_for}
use Rattle.trace_hits.specs.Replies.{kept_of, Sets, Stays, Meets, TellsAgain, Takes, TakesMessage}
use Rattle.trace_hits.specs.Replies as replies
use Rattle.trace_hits.specs.Course.{met, Puts, PutsAll}
use Rattle.trace_hits.specs.Known.{HasCache, BehindRight, IsKept, IsThere, EachIsThere, Known}
use Rattle.trace_hits.proofs.Behind.{own_number, clash, ever_replied, fresh_not_here, reply_first, reply_fresh}
use Rattle.trace_hits.proofs.Points as points

pub same_asking : (o : Option Asking) (a b : Asking) → o ≡ Some a → o ≡ Some b → a ≡ b
same_asking o a b p q = let z : Some a ≡ Some b = sym p ∙ q in cc

pub not_or : (a b : Bool) → (a || b) ≡ false → (a ≡ false) × (b ≡ false)
not_or true b e = absurd (cc)
not_or false b e = (refl, e)

-- the settings of a cache say how long a message is valid
with_same : (c : CacheSettings) (s : Settings) (m : Octets) → validity_of_message (cached_by c) m ≡ validity_of_message (with_cache c s) m
unfolding validity_of_message
with_same c s m = refl

pub same_validity : (c : CacheSettings) (s : Settings) (m : Octets) → HasCache c s → validity_of_message (cached_by c) m ≡ validity_of_message s m
same_validity c s m has = with_same c s m ∙ ap (λ s. validity_of_message s m) has

pub is_read : (o : Option (Parts Data)) → is_some o ≡ true → (x : Parts Data) × (o ≡ Some x)
is_read None e = absurd (cc)
is_read (Some x) e = (x, refl)

-- ---- an event

module _ (c : Conf) (s : Settings) (e : Event) (h : History) where
  no_event : (j n : ℕ) (m : Octets) → Ever (IsFreshReply c s j m n) (Came e ∷ h) → Ever (IsFreshReply c s j m n) h
  no_event j n m (inl x) = absurd (let z : Path History (Came e ∷ h) (Put (Reply j (Ok m)) ∷ x.before) = x.put in cc)
  no_event j n m (inr x) = x

  more : (b : Bool) (a n m : ℕ) → a + n ≡ m → a + (one_if b + n) ≡ (if b then suc m else m)
  more true a n m e = omega arith
  more false a n m e = omega arith

  later : (a b n : ℕ) → a ≤ n → a ≤ max b n
  later a b n le = omega arith

  kept_event : (k : Key) (z : Kept) → IsKept c s k z h → IsKept c s k z (Came e ∷ h)
  kept_event k z q =
      let r = ever_replied c s z.request z.moment z.message h q.got in
      record {
        asked_as = q.asked_as;
        asked = asking_came z.request q.asked_as e h q.asked;
        cacheable = q.cacheable;
        key = q.key;
        got = inr q.got;
        validity = q.validity;
        above = q.above;
        views = q.views;
        asks = ap (λ b. z.asked + (if b then one_if (is_ask e.what) + asks_since z.request h else 0)) r ∙ more (is_ask e.what) z.asked (asks_since z.request h) (asks h) q.asks;
        replies = ap (λ b. z.replied + (if b then replies_since z.request h else 0)) r ∙ q.replies;
        past = later z.moment e.moment.0 (now h) q.past;
      }

  pub known_event : (t : Course) → BehindRight h → Known c s h t → Known c s (Came e ∷ h) (met e t)
  known_event t behind is = record {
    point = points.known_met e h t.point is.point;
    so = λ k z i. kept_event k z (is.so k z i);
    back = λ q j u moment n but m asked got valid above cacheable un views. (
        let old = no_event j moment m got in
        let a = behind.replies j (ever_replied c s j moment m h old) in
        let same = same_asking (asking j (Came e ∷ h)) a.0 (record { request = q; moment = u }) (asking_came j a.0 e h a.1) asked in
        is.back q j u moment n but m (a.1 ∙ ap Some same) old valid above cacheable un views);
  }

-- ---- an out

module _ (c : Conf) (s : Settings) (h : History) (o : Out) (first : (k : ℕ) → is_reply k o ≡ true → IsFirst k h) where
  -- the request of a reply that is kept has no other one
  no_more : (j n : ℕ) (m : Octets) → Ever (IsFreshReply c s j m n) h → is_reply j o ≡ false
  no_more j n m got = go (is_reply j o) refl
    where
      go : (b : Bool) → is_reply j o ≡ b → b ≡ false
      go false e = refl
      go true e = clash (replied j h) (ever_replied c s j n m h got) ((first j e).none)

  shifted : (a b n m : ℕ) → a + n ≡ m → a + (b + n) ≡ b + m
  shifted a b n m e = omega arith

  -- a reply stays that is kept
  pub stays_kept : (k : Key) (z : Kept) (q : IsKept c s k z h) → OutIsView q.asked_as.request z.message z.moment h o → IsKept c s k z (Put o ∷ h)
  stays_kept k z q view =
      let r = ever_replied c s z.request z.moment z.message h q.got in
      let none = no_more z.request z.moment z.message q.got in
      record {
        asked_as = q.asked_as;
        asked = q.asked;
        cacheable = q.cacheable;
        key = q.key;
        got = inr q.got;
        validity = q.validity;
        above = q.above;
        views = λ but un. inr (inr view, q.views but (not_or (is_reply but o) (replied but h) un).1);
        asks = ap (λ b. z.asked + (if b then one_if (is_ask (newest h)) else asks_since z.request h)) none ∙ q.asks;
        replies = ap (λ b. z.replied + (if b then 0 else (if replied z.request h then one_if (is_some_reply o) + replies_since z.request h else 0))) none
            ∙ (ap (λ b. z.replied + (if b then one_if (is_some_reply o) + replies_since z.request h else 0)) r ∙ shifted z.replied (one_if (is_some_reply o)) (replies_since z.request h) (replies_in h) q.replies);
        past = q.past;
      }

  -- what is kept of the fresh replies so far, and of one that is put
  abbrev Begins : Table → Type 0
  Begins t =
      (q : Request) (j u moment n : ℕ) (m : Octets) → asking j h ≡ Some (record { request = q; moment = u }) → o ≡ Reply j (Ok m) → is_marked j h ≡ false → is_asked_here j h ≡ false → now h ≡ moment
      → validity_of_message s m ≡ Some n → 0 < n → is_cacheable q ≡ true → IsThere j m moment (kept_of (key_of q) t)

  abbrev GoesOn : (old new : Table) → Type 0
  GoesOn old new =
      (q : Request) (j moment : ℕ) (m : Octets) → is_cacheable q ≡ true → OutIsView q m moment h o → IsThere j m moment (kept_of (key_of q) old) → IsThere j m moment (kept_of (key_of q) new)

  not_here : (j : ℕ) (m : Octets) → IsFresh c s j m (row_before h) (newest h) h → is_asked_here j h ≡ false
  not_here j m f = go (is_asked_here j h) refl
    where
      go : (b : Bool) → is_asked_here j h ≡ b → b ≡ false
      go false e = refl
      go true e = absurd (fresh_not_here c s j m (row_before h) (newest h) h f refl e)

  pub back_out : (old new : Table) → EachIsThere c s h old → Begins new → GoesOn old new → EachIsThere c s (Put o ∷ h) new
  back_out old new is begins on q j u moment n but m asked got valid above cacheable un views = go got
    where
      apart : (is_reply but o ≡ false) × (replied but h ≡ false)
      apart = not_or (is_reply but o) (replied but h) un

      go : Ever (IsFreshReply c s j m moment) (Put o ∷ h) → IsThere j m moment (kept_of (key_of q) new)
      go (inl x) =
          let z : Path History (Put o ∷ h) (Put (Reply j (Ok m)) ∷ x.before) = x.put in
          let out : o ≡ Reply j (Ok m) = cc in
          let rest : x.before ≡ h = cc in
          let fresh = subst (λ g. IsFresh c s j m (row_before g) (newest g) g) rest x.fresh in
          begins q j u moment n m asked out (subst (λ g. is_marked j g ≡ false) rest x.unmarked) (not_here j m fresh) x.at valid above cacheable
      go (inr x) = elim views [
        | inl e ↦ clash (is_reply j o) e (no_more j moment m x)
        | inr v ↦ elim v.0 [
          | inl e ↦ clash (is_reply but o) e apart.0
          | inr view ↦ on q j moment m cacheable view (is q j u moment n but m asked x valid above cacheable apart.1 v.1)
        ]
      ]

-- ---- an out that is no reply

module _ (c : Conf) (s : Settings) (h : History) (o : Out) (none : (k : ℕ) → is_reply k o ≡ false) (view : (q : Request) (m : Octets) (n : ℕ) → OutIsView q m n h o) where
  no_first : (k : ℕ) → is_reply k o ≡ true → IsFirst k h
  no_first k e = clash (is_reply k o) e (none k)

  pub quiet : (old new : Course) → new.point ≡ point.has_put o old.point → new.replies ≡ old.replies → Known c s h old → Known c s (Put o ∷ h) new
  quiet old new at same is = record {
    point = subst (point.Known (Put o ∷ h)) (sym at) (points.known_put o h old.point is.point);
    so = λ k z i. (let q = is.so k z (ap (kept_of k) (sym same) ∙ i) in stays_kept c s h o no_first k z q (view q.asked_as.request z.message z.moment));
    back = back_out c s h o no_first old.replies new.replies is.back begins (λ q j moment m cacheable v there. subst (λ t. IsThere j m moment (kept_of (key_of q) t)) (sym same) there);
  }
    where
      begins : Begins c s h o no_first new.replies
      begins q j u moment n m asked out un here at valid above cacheable = clash (is_reply j o) (ap (is_reply j) out ∙ own_number j) (none j)

-- ---- a reply

module _ (c : Conf) (s : Settings) (cache : CacheSettings) (has : HasCache cache s) (h : History) (k : ℕ) (x : Result Octets Error)
    (first : (j : ℕ) → is_reply j (Reply k x) ≡ true → IsFirst j h)
    (fresh : (m : Octets) → x ≡ Ok m → is_marked k h ≡ false → is_asked_here k h ≡ false → IsFresh c s k m (row_before h) (newest h) h)
    (old new : Course) (at : new.point ≡ point.has_put (Reply k x) old.point) (is : Known c s h old) where
  abbrev out : Out
  out = Reply k x

  kr : requests.Known h old.point.requests
  kr = let p = is.point in p.requests

  known_point : point.Known (Put out ∷ h) new.point
  known_point = subst (point.Known (Put out ∷ h)) (sym at) (points.known_put out h old.point is.point)

  same_reply : (j : ℕ) (y : Result Octets Error) → Reply k x ≡ Reply j y → (k ≡ j) × (x ≡ y)
  same_reply j y e = (cc, cc)

  -- a reply is no view of it where its request is asked for something else, or not kept
  vacuous : (q : Request) (m : Octets) (n : ℕ) → ((r : Request) (t : ℕ) → asking k h ≡ Some (record { request = r; moment = t }) → is_cacheable r ≡ true → key_of r ≡ key_of q → ⊥) → (y : Result Octets Error) → IsViewOf q m n h k y
  vacuous q m n none (Ok y) = λ r t asked cacheable key. absurd (none r t asked cacheable key)
  vacuous q m n none (Err e) = none

  -- it is marked as stale
  pub marked : marked_seen k old.point.requests ≡ true → Stays old.replies new.replies → Known c s (Put out ∷ h) new
  marked seen same = record {
    point = known_point;
    so = λ i z e. (let q = is.so i z (sym (same i) ∙ e) in stays_kept c s h out first i z q (inl mark));
    back = back_out c s h out first old.replies new.replies is.back begins (λ q j moment m cacheable v there. subst (IsThere j m moment) (sym (same (key_of q))) there);
  }
    where
      mark : is_marked k h ≡ true
      mark = sym (kr.marks k) ∙ seen

      begins : Begins c s h out first new.replies
      begins q j u moment n m asked e un here at valid above cacheable = clash (is_marked k h) mark (ap (λ j. is_marked j h) (same_reply j (Ok m) e).0 ∙ un)

  -- its request was not asked, or its results are not kept
  pub unkept : ((a : Asking) → entry_at k old.point.requests.askings ≡ Some a → is_cacheable a.request ≡ true → ⊥) → Stays old.replies new.replies → Known c s (Put out ∷ h) new
  unkept none same = record {
    point = known_point;
    so = λ i z e. (let q = is.so i z (sym (same i) ∙ e) in stays_kept c s h out first i z q (inr (vacuous q.asked_as.request z.message z.moment (λ r t asked cacheable key. none (record { request = r; moment = t }) (kr.askings k ∙ asked) cacheable) x)));
    back = back_out c s h out first old.replies new.replies is.back begins (λ q j moment m cacheable v there. subst (IsThere j m moment) (sym (same (key_of q))) there);
  }
    where
      begins : Begins c s h out first new.replies
      begins q j u moment n m asked e un here at valid above cacheable =
          absurd (none (record { request = q; moment = u }) (kr.askings k ∙ (ap (λ j. asking j h) (same_reply j (Ok m) e).0 ∙ asked)) cacheable)

  -- it changes what is kept under its key
  module _ (a : Asking) (its : Question) (unmarked : marked_seen k old.point.requests ≡ false) (seen : entry_at k old.point.requests.askings ≡ Some a) (asks_it : IsAsked a.request its) where
    un : is_marked k h ≡ false
    un = sym (kr.marks k) ∙ unmarked

    was_asked : asking k h ≡ Some a
    was_asked = sym (kr.askings k) ∙ seen

    same_request : (r : Request) (t : ℕ) → asking k h ≡ Some (record { request = r; moment = t }) → a.request ≡ r
    same_request r t asked = ap (λ (b : Asking). b.request) (same_asking (asking k h) a (record { request = r; moment = t }) was_asked asked)

    -- under another key nothing changes
    apart_view : (i : Key) (z : Kept) (q : IsKept c s i z h) → same_key its.key i ≡ false → OutIsView q.asked_as.request z.message z.moment h out
    apart_view i z q other = inr (vacuous q.asked_as.request z.message z.moment none x)
      where
        none : (r : Request) (t : ℕ) → asking k h ≡ Some (record { request = r; moment = t }) → is_cacheable r ≡ true → key_of r ≡ key_of q.asked_as.request → ⊥
        none r t asked cacheable key =
            clash (same_key its.key i)
            (ap (same_key its.key) (sym (asks_it.key ∙ (ap key_of (same_request r t asked) ∙ (key ∙ q.key)))) ∙ same_itself its.key) other

    -- its own key is that of its request
    own_key : (q : Request) (u : ℕ) → asking k h ≡ Some (record { request = q; moment = u }) → its.key ≡ key_of q
    own_key q u asked = asks_it.key ∙ ap key_of (same_request q u asked)

    under : (o : Option Kept) → Sets its.key o old.replies new.replies → (i : Key) → same_key its.key i ≡ true → kept_of i new.replies ≡ o
    under o sets i same = sets i ∙ ap (λ b. if b then o else kept_of i old.replies) same

    beside : (o : Option Kept) → Sets its.key o old.replies new.replies → (i : Key) → same_key its.key i ≡ false → kept_of i new.replies ≡ kept_of i old.replies
    beside o sets i other = sets i ∙ ap (λ b. if b then o else kept_of i old.replies) other

    -- this is kept from now on: what is said of it, and of what was kept
    module _ (o : Option Kept) (sets : Sets its.key o old.replies new.replies)
        (so : (i : Key) (z : Kept) → its.key ≡ i → o ≡ Some z → IsKept c s i z (Put out ∷ h))
        (begins : (j u moment n : ℕ) (q : Request) (m : Octets) → asking j h ≡ Some (record { request = q; moment = u }) → k ≡ j → x ≡ Ok m → is_asked_here k h ≡ false → now h ≡ moment → validity_of_message s m ≡ Some n → 0 < n → IsThere j m moment o)
        (on : (q : Request) (j moment : ℕ) (m : Octets) → its.key ≡ key_of q → is_cacheable q ≡ true → IsViewOf q m moment h k x → IsThere j m moment (kept_of (key_of q) old.replies) → IsThere j m moment o) where
      so_out : (i : Key) (z : Kept) → kept_of i new.replies ≡ Some z → IsKept c s i z (Put out ∷ h)
      so_out i z e = go (same_key its.key i) refl
        where
          go : (b : Bool) → same_key its.key i ≡ b → IsKept c s i z (Put out ∷ h)
          go true same = so i z (same_is_equal its.key i same) (sym (under o sets i same) ∙ e)
          go false other = let q = is.so i z (sym (beside o sets i other) ∙ e) in stays_kept c s h out first i z q (apart_view i z q other)

      begins_out : Begins c s h out first new.replies
      begins_out q j u moment n m asked e mark here time valid above cacheable =
          let same = same_reply j (Ok m) e in
          let asked_k : asking k h ≡ Some (record { request = q; moment = u }) = ap (λ j. asking j h) same.0 ∙ asked in
          let key : its.key ≡ key_of q = own_key q u asked_k in
          subst (IsThere j m moment) (sym (under o sets (key_of q) (ap (same_key its.key) (sym key) ∙ same_itself its.key)))
          (begins j u moment n q m asked same.0 same.1 (ap (λ j. is_asked_here j h) same.0 ∙ here) time valid above)

      on_out : GoesOn c s h out first old.replies new.replies
      on_out q j moment m cacheable view there = go (same_key its.key (key_of q)) refl
        where
          go : (b : Bool) → same_key its.key (key_of q) ≡ b → IsThere j m moment (kept_of (key_of q) new.replies)
          go true same = subst (IsThere j m moment) (sym (under o sets (key_of q) same)) (elim view [
            | inl mark ↦ clash (is_marked k h) mark un
            | inr v ↦ on q j moment m (same_is_equal its.key (key_of q) same) cacheable v there
          ])
          go false other = subst (IsThere j m moment) (sym (beside o sets (key_of q) other)) there

      pub changed : Known c s (Put out ∷ h) new
      changed = record { point = known_point; so = so_out; back = back_out c s h out first old.replies new.replies is.back begins_out on_out }

    pt : point.Known h old.point
    pt = is.point

    abbrev clock : ℕ
    clock = old.point.requests.clock

    -- an error
    fails : (e : Error) → x ≡ Err e → Sets its.key None old.replies new.replies → Known c s (Put out ∷ h) new
    fails e same sets = changed None sets so begins on
      where
        so : (i : Key) (z : Kept) → its.key ≡ i → Path (Option Kept) None (Some z) → IsKept c s i z (Put out ∷ h)
        so i z key none = absurd (cc)

        begins : (j u moment n : ℕ) (q : Request) (m : Octets) → asking j h ≡ Some (record { request = q; moment = u }) → k ≡ j → x ≡ Ok m → is_asked_here k h ≡ false → now h ≡ moment → validity_of_message s m ≡ Some n → 0 < n → IsThere j m moment None
        begins j u moment n q m asked kj xm here time valid above = let z : Err e ≡ Ok m = sym same ∙ xm in absurd (cc)

        on : (q : Request) (j moment : ℕ) (m : Octets) → its.key ≡ key_of q → is_cacheable q ≡ true → IsViewOf q m moment h k x → IsThere j m moment (kept_of (key_of q) old.replies) → IsThere j m moment None
        on q j moment m key cacheable v there = subst (IsViewOf q m moment h k) same v a.request a.moment was_asked asks_it.cacheable (sym asks_it.key ∙ key)

    -- a message in the row of its asking
    module _ (m : Octets) (same : x ≡ Ok m) (here : is_asked_here k h ≡ true) (meets : Meets its clock m old.replies new.replies) where
      abbrev left : Bool → Option Kept
      left b = if b then kept_of its.key old.replies else None

      age_is : (t n : ℕ) → t ≤ n → t + (n - t) ≡ n
      age_is t n le = omega arith

      age_of : (t age n l d : ℕ) → t + age ≡ n → l ≡ n → d ≡ t → age ≡ l - d
      age_of t age n l d e f g = omega arith

      answer : (z : Kept) → kept_of its.key old.replies ≡ Some z → TellsAgain its clock m (Some z) meets.again
      answer z e = subst (λ o. TellsAgain its clock m o meets.again) e meets.tells

      here_so : (i : Key) (z : Kept) → its.key ≡ i → left meets.again ≡ Some z → IsKept c s i z (Put out ∷ h)
      here_so i z key e = go meets.again refl e
        where
          go : (b : Bool) → meets.again ≡ b → left b ≡ Some z → IsKept c s i z (Put out ∷ h)
          go false g e = absurd (cc)
          go true g e = subst (λ i. IsKept c s i z (Put out ∷ h)) key (stays_kept c s h out first its.key z q (inr (subst (IsViewOf q.asked_as.request z.message z.moment h k) (sym same) view)))
            where
              q : IsKept c s its.key z h
              q = is.so its.key z e

              known : (y : Parts Data) × (known_parts z.message ≡ Some y)
              known = is_read (known_parts z.message) (valid_is_known s z.message z.validity q.validity q.above)

              says : Says m (view_of q.asked_as.request a.request (clock - z.moment) known.0)
              says = (answer z e a.request asks_it q.asked_as.request known.0 (q.key ∙ asks_it.key) known.1).0 g

              view : IsViewOf q.asked_as.request z.message z.moment h k (Ok m)
              view = λ r t asked cacheable key'. (
                here,
                known.0,
                now h - z.moment,
                known.1,
                age_is z.moment (now h) q.past,
                subst (λ r. Says m (view_of q.asked_as.request r (now h - z.moment) known.0)) (same_request r t asked) (subst (λ n. Says m (view_of q.asked_as.request a.request (n - z.moment) known.0)) kr.time says),
              )

      here_begins : (j u moment n : ℕ) (q : Request) (y : Octets) → asking j h ≡ Some (record { request = q; moment = u }) → k ≡ j → x ≡ Ok y → is_asked_here k h ≡ false → now h ≡ moment → validity_of_message s y ≡ Some n → 0 < n → IsThere j y moment (left meets.again)
      here_begins j u moment n q y asked kj xm not time valid above = clash (is_asked_here k h) here not

      here_on : (q : Request) (j moment : ℕ) (y : Octets) → its.key ≡ key_of q → is_cacheable q ≡ true → IsViewOf q y moment h k x → IsThere j y moment (kept_of (key_of q) old.replies) → IsThere j y moment (left meets.again)
      here_on q j moment y key cacheable v there = go (kept_of its.key old.replies) refl there'
        where
          there' : IsThere j y moment (kept_of its.key old.replies)
          there' = subst (λ i. IsThere j y moment (kept_of i old.replies)) (sym key) there

          go : (o : Option Kept) → kept_of its.key old.replies ≡ o → IsThere j y moment o → IsThere j y moment (left meets.again)
          go None e t = absurd t
          go (Some z) e t =
              let w = subst (IsViewOf q y moment h k) same v a.request a.moment was_asked asks_it.cacheable (sym asks_it.key ∙ key) in
              let age : w.2 ≡ clock - z.moment = age_of moment w.2 (now h) clock z.moment w.4 kr.time t.2 in
              let holds : meets.again ≡ true = (answer z e a.request asks_it q w.1 (sym key ∙ asks_it.key) (ap known_parts t.1 ∙ w.3)).1 (subst (λ n. Says m (view_of q a.request n w.1)) age w.5) in
              subst (λ b. IsThere j y moment (left b)) (sym holds) there'

      pub met_here : Known c s (Put out ∷ h) new
      met_here = changed (left meets.again) meets.keeps here_so here_begins here_on

    -- a fresh message
    module _ (m : Octets) (same : x ≡ Ok m) (not : is_asked_here k h ≡ false) (sets : Sets its.key (begun cache k m old.point) old.replies new.replies) where
      abbrev first_of : ℕ → Kept
      first_of n = record { request = k; message = m; moment = clock; validity = n; asked = old.point.requests.asked - one_if (is_some old.point.here); replied = old.point.replied + 1 }

      got_here : IsFreshReply c s k m clock (Put out ∷ h)
      got_here = record { before = h; put = ap (λ x. Put (Reply k x) ∷ h) same; unmarked = un; fresh = fresh m same un not; at = sym kr.time }

      above_none : (n : ℕ) → (n == 0) ≡ false → 0 < n
      above_none n e = grind (arith, nat_tests)

      not_none : (n : ℕ) → 0 < n → (n == 0) ≡ false
      not_none n lt = grind (arith, nat_tests)

      counted : (a b r : ℕ) → a ≡ b → (a + 1) + 0 ≡ 1 + b
      counted a b r e = omega arith

      at_most : (n t : ℕ) → n ≡ t → n ≤ t
      at_most n t e = omega arith

      first_kept : (n : ℕ) → validity_of_message (cached_by cache) m ≡ Some n → (n == 0) ≡ false → IsKept c s its.key (first_of n) (Put out ∷ h)
      first_kept n valid above = record {
        asked_as = a;
        asked = was_asked;
        cacheable = asks_it.cacheable;
        key = sym asks_it.key;
        got = inl got_here;
        validity = sym (same_validity cache s m has) ∙ valid;
        above = above_none n above;
        views = λ but free. inl (own_number k);
        asks = ap (λ b. (old.point.requests.asked - one_if (is_some old.point.here)) + (if b then one_if (is_ask (newest h)) else asks_since k h)) (own_number k) ∙ points.others_and_own h old.point pt;
        replies = ap (λ b. (old.point.replied + 1) + (if b then 0 else (if replied k h then 1 + replies_since k h else 0))) (own_number k) ∙ counted old.point.replied (replies_in h) 0 pt.replied;
        past = at_most clock (now h) kr.time;
      }

      fresh_so : (i : Key) (z : Kept) → its.key ≡ i → begun cache k m old.point ≡ Some z → IsKept c s i z (Put out ∷ h)
      fresh_so i z key e = subst (λ i. IsKept c s i z (Put out ∷ h)) key (go (validity_of_message (cached_by cache) m) refl e)
        where
          by : (n : ℕ) → validity_of_message (cached_by cache) m ≡ Some n → (b : Bool) → (n == 0) ≡ b → (if b then None else Some (first_of n)) ≡ Some z → IsKept c s its.key z (Put out ∷ h)
          by n valid true above e = absurd (cc)
          by n valid false above e = let it : first_of n ≡ z = cc in subst (λ z. IsKept c s its.key z (Put out ∷ h)) it (first_kept n valid above)

          go : (o : Option ℕ) → validity_of_message (cached_by cache) m ≡ o → begun_for k m old.point o ≡ Some z → IsKept c s its.key z (Put out ∷ h)
          go None valid e = absurd (cc)
          go (Some n) valid e = by n valid (n == 0) refl e

      fresh_begins : (j u moment n : ℕ) (q : Request) (y : Octets) → asking j h ≡ Some (record { request = q; moment = u }) → k ≡ j → x ≡ Ok y → is_asked_here k h ≡ false → now h ≡ moment → validity_of_message s y ≡ Some n → 0 < n → IsThere j y moment (begun cache k m old.point)
      fresh_begins j u moment n q y asked kj xm here time valid above =
          let z : Ok m ≡ Ok y = sym same ∙ xm in
          let my : m ≡ y = cc in
          let v : validity_of_message (cached_by cache) m ≡ Some n = same_validity cache s m has ∙ (ap (validity_of_message s) my ∙ valid) in
          let b : begun cache k m old.point ≡ Some (first_of n) = ap (begun_for k m old.point) v ∙ ap (λ b. if b then None else Some (first_of n)) (not_none n above) in
          subst (IsThere j y moment) (sym b) (kj, my, kr.time ∙ time)

      fresh_on : (q : Request) (j moment : ℕ) (y : Octets) → its.key ≡ key_of q → is_cacheable q ≡ true → IsViewOf q y moment h k x → IsThere j y moment (kept_of (key_of q) old.replies) → IsThere j y moment (begun cache k m old.point)
      fresh_on q j moment y key cacheable v there =
          let w = subst (IsViewOf q y moment h k) same v a.request a.moment was_asked asks_it.cacheable (sym asks_it.key ∙ key) in
          clash (is_asked_here k h) w.0 not

      pub begun_fresh : Known c s (Put out ∷ h) new
      begun_fresh = changed (begun cache k m old.point) sets fresh_so fresh_begins fresh_on

    pub taken : (y : Result Octets Error) → x ≡ y → Takes cache its k y old.point old.replies new.replies → Known c s (Put out ∷ h) new
    taken (Err e) same sets = fails e same sets
    taken (Ok m) same t = go (is_number k old.point.here) refl t
      where
        go : (b : Bool) → is_number k old.point.here ≡ b → TakesMessage cache its k m old.point b old.replies new.replies → Known c s (Put out ∷ h) new
        go true here meets = met_here m same (sym (pt.here k) ∙ here) meets
        go false here sets = begun_fresh m same (sym (pt.here k) ∙ here) sets

  pub answered : replies.Puts cache k x old.point old.replies new.replies → Known c s (Put out ∷ h) new
  answered (replies.Marked seen same) = marked seen same
  answered (replies.Unkept none same) = unkept none same
  answered (replies.Taken a its unmarked seen asks_it takes) = taken a its unmarked seen asks_it x refl takes

-- ---- each out of a row

module _ (c : Conf) (s : Settings) (cache : CacheSettings) (has : HasCache cache s) (past : History) (w : What) (end : History) where
  known_out : (o : Out) (h : History) (old new : Course) → row_before h ≡ past → newest h ≡ w → OutRight c s past w h end o → Puts cache o old new → Known c s h old → Known c s (Put o ∷ h) new
  known_out (Start j t u) h old new row event right p is = quiet c s h (Start j t u) (λ k. refl) (λ q m n. tt) old new p.point p.replies is
  known_out (OpenDgram i t) h old new row event right p is = quiet c s h (OpenDgram i t) (λ k. refl) (λ q m n. tt) old new p.point p.replies is
  known_out (OpenStream i t) h old new row event right p is = quiet c s h (OpenStream i t) (λ k. refl) (λ q m n. tt) old new p.point p.replies is
  known_out (Send i j n o) h old new row event right p is = quiet c s h (Send i j n o) (λ k. refl) (λ q m n. tt) old new p.point p.replies is
  known_out (Write i j n o) h old new row event right p is = quiet c s h (Write i j n o) (λ k. refl) (λ q m n. tt) old new p.point p.replies is
  known_out (Resume i o) h old new row event right p is = quiet c s h (Resume i o) (λ k. refl) (λ q m n. tt) old new p.point p.replies is
  known_out (Close i) h old new row event right p is = quiet c s h (Close i) (λ k. refl) (λ q m n. tt) old new p.point p.replies is
  known_out (Stale j) h old new row event right p is = quiet c s h (Stale j) (λ k. refl) (λ q m n. tt) old new p.point p.replies is
  known_out (Reply k x) h old new row event right p is = answered c s cache has h k x (reply_first c s past w h end (Reply k x) right) fresh old new p.point is p.replies
    where
      fresh : (m : Octets) → x ≡ Ok m → is_marked k h ≡ false → is_asked_here k h ≡ false → IsFresh c s k m (row_before h) (newest h) h
      fresh m same un here =
          subst (λ w. IsFresh c s k m (row_before h) w h) (sym event) (subst (λ past. IsFresh c s k m past w h) (sym row)
          (reply_fresh c s past w h end k m (subst (λ x. OutRight c s past w h end (Reply k x)) same right) un here))

  pub known_outs : (os : List Out) (h : History) (old new : Course) → row_before h ≡ past → newest h ≡ w → OutsRight c s past w end h os → PutsAll cache os old new → Known c s h old → Known c s (put_all os h) new
  known_outs [] h old new row event right p is = subst (Known c s h) (sym p) is
  known_outs (o ∷ os) h old new row event right p is = known_outs os (Put o ∷ h) p.0 new row event right.1 p.2 (known_out o h old p.0 row event right.0 p.1 is)
