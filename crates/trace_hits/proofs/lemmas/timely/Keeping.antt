-- What is kept of requests that wait goes on, and it tells whether all of them are in time.
use Rattle.std.proofs.Common.{◌≡◌, ℕ, suc, ◌+◌, ◌<◌, ◌≤◌, ◌==◌, ◌&&◌, ◌||◌, not, cond, max, Bool, true, false, Option, Some, None, List, [], ◌∷◌, nat_cmp, is_eq, refl, sym, ap, ◌∙◌, subst, arith}
use Rattle.std.specs.Prelude.{if◌then◌else◌, is_some, nat_lt}
use Rattle.std.proofs.lemmas.Bool.Decides.{nat_tests}
use Rattle.number_table.specs.Entries.{frees, entry_at}
use Rattle.client_request.specs.Request.{Request}
use Rattle.client_request.specs.declared.event.{Event.Event, What.What, Out.Out, Row.Row}
use Rattle.client_request.specs.declared.event.What.TheVariants.{Ask, Opened, OpenFailed, SendFailed, ShortSend, Datagram, RecvFailed, Wrote, WriteFailed, Bytes, ReadFailed, Ended, Tick}
use Rattle.client_request.specs.declared.event.Out.TheVariants.{Start, OpenDgram, OpenStream, Send, Write, Resume, Close, Stale, Reply}
use Rattle.right_trace.specs.Trace.{History, Conf, Came, Put, put_all, after}
use Rattle.right_trace.specs.{Time.now, Causes.DeadlineHasPassed, Timely.InTime}
use Rattle.right_trace.specs.Requests.{Asking, asking, asking_of, asks, is_ask, replied, waits}
use Rattle.trace_tables.specs.sets.Sets.{Members, Rise}
use Rattle.trace_tables.proofs.lemmas.sets.Keeping as sets
use Rattle.trace_tables.specs.declared.requests.Requests.{Requests}
use Rattle.trace_tables.specs.Requests.{replied_seen, deadline_seen}
use Rattle.trace_tables.specs.Requests as requests
use Rattle.trace_tables.proofs.Asking as asking_known
use Rattle.trace_hits.specs.declared.timely.waiting.Waiting.{Waiting}
use Rattle.trace_hits.specs.timely.Longest.{IsFirst}
use Rattle.trace_hits.specs.timely.Waiting.{Known, nothing, joined, asked, met, has_put, have_put, after_row, first_of, in_time_of, in_time_seen}
use Rattle.trace_hits.proofs.lemmas.timely.Asked.{asked_below, in_order}

same_number : (a b : ℕ) → (a == b) ≡ true → a ≡ b
same_number a b e = grind (arith, nat_tests)

-- the next request is not asked yet
none_asked : (k : ℕ) (h : History) → asks h ≡ k → is_some (asking k h) ≡ false
none_asked k h e = go (asking k h) refl
  where
    less : (a b : ℕ) → a ≡ b → b < a → ⊥
    less a b e lt = omega arith

    go : (o : Option Asking) → asking k h ≡ o → is_some o ≡ false
    go None i = refl
    go (Some a) i = absurd (less (asks h) k e (asked_below k h a i))

-- an event
module _ (h : History) (t : Waiting) (is : Known h t) (e : Event) where
  waits_more : (a : Asking) (k : ℕ) → is_some (entry_at k (joined (not (replied_seen t.requests.asked t.requests)) t.requests.asked t.numbers)) ≡ (is_some (if asks h == k then Some a else asking k h) && not (replied k h))
  waits_more a k = go (asks h == k) refl (not (replied_seen t.requests.asked t.requests)) refl
    where
      kr : requests.Known h t.requests
      kr = is.requests

      none : (x b : Bool) → b ≡ false → (b && x) ≡ false
      none x false i = refl
      none x true i = absurd (cc)

      replied_is : (asks h == k) ≡ true → replied_seen t.requests.asked t.requests ≡ replied k h
      replied_is i = ap (λ (n : ℕ). replied_seen n t.requests) (kr.count ∙ same_number (asks h) k i) ∙ kr.replies k

      put_here : (c : Bool) → (asks h == k) ≡ true → is_some (entry_at k (joined c t.requests.asked t.numbers)) ≡ c
      put_here true i = ap is_some (sets.at_puts t.requests.asked tt k t.numbers ∙ ap (λ b. if b then Some tt else entry_at k t.numbers) (ap (λ (n : ℕ). n == k) kr.count ∙ i))
      put_here false i = is.numbers k ∙ none (not (replied k h)) (is_some (asking k h)) (none_asked k h (same_number (asks h) k i))

      put_there : (c : Bool) → (asks h == k) ≡ false → is_some (entry_at k (joined c t.requests.asked t.numbers)) ≡ is_some (entry_at k t.numbers)
      put_there true i = ap is_some (sets.at_puts t.requests.asked tt k t.numbers ∙ ap (λ b. if b then Some tt else entry_at k t.numbers) (ap (λ (n : ℕ). n == k) kr.count ∙ i))
      put_there false i = refl

      go : (b : Bool) → (asks h == k) ≡ b → (c : Bool) → not (replied_seen t.requests.asked t.requests) ≡ c
          → is_some (entry_at k (joined c t.requests.asked t.numbers)) ≡ (is_some (if b then Some a else asking k h) && not (replied k h))
      go true i c j = put_here c i ∙ (sym j ∙ ap not (replied_is i))
      go false i c j = put_there c i ∙ is.numbers k

  joined_rise : (c : Bool) → Rise 0 (joined c t.requests.asked t.numbers)
  joined_rise true = sets.rise_puts 0 t.requests.asked t.numbers (omega arith) is.rise
  joined_rise false = is.rise

  asks_one : (q : Request) → e.what ≡ Ask q → Known (Came e ∷ h) (record { requests = requests.met e t.requests; numbers = asked (Ask q) t.requests t.numbers })
  asks_one q i = record {
    requests = asking_known.known_met h t.requests e is.requests;
    numbers = λ k. waits_more (record { request = q; moment = max e.moment.0 (now h) }) k ∙ sym (ap (λ w. is_some (if is_ask w && (asks h == k) then asking_of w (max e.moment.0 (now h)) else asking k h) && not (replied k h)) i);
    rise = joined_rise (not (replied_seen t.requests.asked t.requests));
  }

  quiet : (w : What) → e.what ≡ w → is_ask w ≡ false → Known (Came e ∷ h) (record { requests = requests.met e t.requests; numbers = t.numbers })
  quiet w i silent = record {
    requests = asking_known.known_met h t.requests e is.requests;
    numbers = λ k. is.numbers k ∙ sym (ap (λ b. is_some (if b && (asks h == k) then asking_of e.what (max e.moment.0 (now h)) else asking k h) && not (replied k h)) (ap is_ask i ∙ silent));
    rise = is.rise;
  }

  known_met : Known (Came e ∷ h) (met e t)
  known_met = go e.what refl
    where
      go : (w : What) → e.what ≡ w → Known (Came e ∷ h) (record { requests = requests.met e t.requests; numbers = asked w t.requests t.numbers })
      go (Ask q) i = asks_one q i
      go (Opened p) i = quiet (Opened p) i refl
      go (OpenFailed p f) i = quiet (OpenFailed p f) i refl
      go (SendFailed p f) i = quiet (SendFailed p f) i refl
      go (ShortSend p) i = quiet (ShortSend p) i refl
      go (Datagram p o) i = quiet (Datagram p o) i refl
      go (RecvFailed p f) i = quiet (RecvFailed p f) i refl
      go (Wrote p n) i = quiet (Wrote p n) i refl
      go (WriteFailed p f) i = quiet (WriteFailed p f) i refl
      go (Bytes p o) i = quiet (Bytes p o) i refl
      go (ReadFailed p f) i = quiet (ReadFailed p f) i refl
      go (Ended p) i = quiet (Ended p) i refl
      go Tick i = quiet Tick i refl

-- an out
module _ (h : History) (t : Waiting) (is : Known h t) where
  replied_more : (j k : ℕ) → is_some (entry_at k (frees j t.numbers)) ≡ (is_some (asking k h) && not ((j == k) || replied k h))
  replied_more j k = go (j == k) refl
    where
      none : (a : Bool) → false ≡ (a && false)
      none true = refl
      none false = refl

      go : (b : Bool) → (j == k) ≡ b → is_some (entry_at k (frees j t.numbers)) ≡ (is_some (asking k h) && not (b || replied k h))
      go true e = ap is_some (ap (λ (n : ℕ). entry_at n (frees j t.numbers)) (sym (same_number j k e)) ∙ sets.freed_none 0 j t.numbers is.rise) ∙ none (is_some (asking k h))
      go false e = ap is_some (sets.stays k j t.numbers e) ∙ is.numbers k

  known_put : (o : Out) → Known (Put o ∷ h) (has_put o t)
  known_put (Start j s v) = record { requests = asking_known.known_put h t.requests (Start j s v) is.requests; numbers = is.numbers; rise = is.rise }
  known_put (OpenDgram p s) = record { requests = asking_known.known_put h t.requests (OpenDgram p s) is.requests; numbers = is.numbers; rise = is.rise }
  known_put (OpenStream p s) = record { requests = asking_known.known_put h t.requests (OpenStream p s) is.requests; numbers = is.numbers; rise = is.rise }
  known_put (Send p j i m) = record { requests = asking_known.known_put h t.requests (Send p j i m) is.requests; numbers = is.numbers; rise = is.rise }
  known_put (Write p j i m) = record { requests = asking_known.known_put h t.requests (Write p j i m) is.requests; numbers = is.numbers; rise = is.rise }
  known_put (Resume p m) = record { requests = asking_known.known_put h t.requests (Resume p m) is.requests; numbers = is.numbers; rise = is.rise }
  known_put (Close p) = record { requests = asking_known.known_put h t.requests (Close p) is.requests; numbers = is.numbers; rise = is.rise }
  known_put (Stale j) = record { requests = asking_known.known_put h t.requests (Stale j) is.requests; numbers = is.numbers; rise = is.rise }
  known_put (Reply j x) = record { requests = asking_known.known_put h t.requests (Reply j x) is.requests; numbers = λ k. replied_more j k; rise = sets.rise_frees 0 j t.numbers is.rise }

outs_known : (os : List Out) (h : History) (t : Waiting) → Known h t → Known (put_all os h) (have_put os t)
outs_known [] h t is = is
outs_known (o ∷ os) h t is = outs_known os (Put o ∷ h) (has_put o t) (known_put h t is o)

pub row_known : (row : Row) (h : History) (t : Waiting) → Known h t → Known (after row h) (after_row row t)
row_known row h t is = outs_known row.outs (Came row.event ∷ h) (met row.event t) (known_met h t is row.event)

pub known_nothing : Known [] nothing
known_nothing = record { requests = asking_known.known_nothing; numbers = λ k. refl; rise = tt }

-- numbers that rise: those behind the first are no less
least : (n k : ℕ) (es : Members) → Rise n es → is_some (entry_at k es) ≡ true → n ≤ k
least n k [] r i = absurd (cc)
least n k (e ∷ es) r i = go (is_eq (nat_cmp k e.0)) refl i (λ i. least (suc e.0) k es r.1 i)
  where
    same : (x : ℕ) → n ≤ x → is_eq (nat_cmp k x) ≡ true → n ≤ k
    same x le h = grind (arith, nat_tests)

    more : (x : ℕ) → n ≤ x → suc x ≤ k → n ≤ k
    more x le lt = omega arith

    go : (b : Bool) → is_eq (nat_cmp k e.0) ≡ b → is_some (cond b (Some e.1) (entry_at k es)) ≡ true → (is_some (entry_at k es) ≡ true → suc e.0 ≤ k) → n ≤ k
    go true h i rest = same e.0 r.0 h
    go false h i rest = more e.0 r.0 (rest i)

equal : (a : ℕ) → is_eq (nat_cmp a a) ≡ true
equal a = grind (arith, nat_tests)

both : (a b : Bool) → (a && b) ≡ true → (a ≡ true) × (b ≡ true)
both true true e = (refl, refl)
both true false e = absurd (cc)
both false b e = absurd (cc)

some_is : (o : Option Asking) → is_some o ≡ true → (a : Asking) × (o ≡ Some a)
some_is None e = absurd (cc)
some_is (Some a) e = (a, refl)

clear : (b : Bool) → not b ≡ true → b ≡ false
clear false e = refl
clear true e = absurd (cc)

-- which requests wait, by cases
module _ (c : Conf) (h : History) (r : Requests) (kr : requests.Known h r) where
  -- none does
  none_waits : ((k : ℕ) → false ≡ waits k h) → InTime c h
  none_waits f k a asked free = absurd (let z : waits k h ≡ true = ap (λ o. is_some o && not (replied k h)) asked ∙ ap not free in let y = f k in cc)

  -- this one is the first that does
  module _ (n : ℕ) (first : waits n h ≡ true) (others : (k : ℕ) → waits k h ≡ true → n ≤ k) where
    in_time_if : deadline_seen c.timeout n r ≡ false → InTime c h
    in_time_if e k a asked free = go (nat_lt (now h) (a.moment + c.timeout)) refl
      where
        waiting : waits k h ≡ true
        waiting = ap (λ o. is_some o && not (replied k h)) asked ∙ ap not free

        first_asked : (b : Asking) × (asking n h ≡ Some b)
        first_asked = some_is (asking n h) (both (is_some (asking n h)) (not (replied n h)) first).0

        before : (l : ℕ) → nat_lt (now h) l ≡ true → now h < l
        before l i = grind (arith, nat_tests)

        behind : (m n l t : ℕ) → nat_lt n (l + t) ≡ false → m ≤ l → m + t ≤ n
        behind m n l t i le = (let z : l + t ≤ n = grind (arith, nat_tests) in omega arith)

        go : (b : Bool) → nat_lt (now h) (a.moment + c.timeout) ≡ b → now h < a.moment + c.timeout
        go true i = before (a.moment + c.timeout) i
        go false i =
            let passed : DeadlineHasPassed c n h = record {
              asking_of = first_asked.0;
              asked = first_asked.1;
              passed = behind first_asked.0.moment (now h) a.moment c.timeout i (in_order n k h first_asked.0 a (others k waiting) first_asked.1 asked);
            } in
            let d = (asking_known.deadline_decides c h r n kr).1 passed in
            absurd (cc)

    late_then : deadline_seen c.timeout n r ≡ true → InTime c h → ⊥
    late_then e f =
        let passed : DeadlineHasPassed c n h = (asking_known.deadline_decides c h r n kr).0 e in
        let free = clear (replied n h) (both (is_some (asking n h)) (not (replied n h)) first).1 in
        not_both (now h) (passed.asking_of.moment + c.timeout) (f n passed.asking_of passed.asked free) passed.passed
      where
        not_both : (n m : ℕ) → n < m → m ≤ n → ⊥
        not_both n m lt le = omega arith

-- the first that is kept was asked first of those that wait
pub first_waits : (h : History) (t : Waiting) → Known h t → IsFirst h (first_of t.numbers)
first_waits h t is = go t.numbers refl
  where
    there : (e : ℕ × Unit {0}) (es : Members) → is_some (entry_at e.0 (e ∷ es)) ≡ true
    there e es = ap (λ b. is_some (cond b (Some e.1) (entry_at e.0 es))) (equal e.0)

    self : (a : ℕ) → a ≤ a
    self a = omega arith

    go : (es : Members) → t.numbers ≡ es → IsFirst h (first_of es)
    go [] i = λ k. sym (ap (λ es. is_some (entry_at k es)) (sym i) ∙ is.numbers k)
    go (e ∷ es) i =
        let rise : Rise 0 (e ∷ es) = subst (Rise 0) i is.rise in (
          sym (is.numbers e.0) ∙ (ap (λ es. is_some (entry_at e.0 es)) i ∙ there e es),
          λ k w. least e.0 k (e ∷ es) (self e.0, rise.1) (ap (λ es. is_some (entry_at k es)) (sym i) ∙ (is.numbers k ∙ w)),
        )

-- whether all that wait are in time
pub decides : (c : Conf) (h : History) (t : Waiting) → Known h t → (in_time_seen c.timeout t ≡ true → InTime c h) × (InTime c h → in_time_seen c.timeout t ≡ true)
decides c h t is = go (first_of t.numbers) (first_waits h t is)
  where
    by : (n : ℕ) → waits n h ≡ true → ((k : ℕ) → waits k h ≡ true → n ≤ k) → (b : Bool) → deadline_seen c.timeout n t.requests ≡ b → (not (deadline_seen c.timeout n t.requests) ≡ true → InTime c h) × (InTime c h → not (deadline_seen c.timeout n t.requests) ≡ true)
    by n first others true d = (λ y. absurd (let z : not (deadline_seen c.timeout n t.requests) ≡ false = ap not d in cc), λ f. absurd (late_then c h t.requests is.requests n first others d f))
    by n first others false d = (λ y. in_time_if c h t.requests is.requests n first others d, λ f. ap not d)

    go : (o : Option ℕ) → IsFirst h o → (in_time_of c.timeout o t.requests ≡ true → InTime c h) × (InTime c h → in_time_of c.timeout o t.requests ≡ true)
    go None none = (λ y. none_waits c h t.requests is.requests (λ k. sym (none k)), λ f. refl)
    go (Some n) its = by n its.0 its.1 (deadline_seen c.timeout n t.requests) refl
