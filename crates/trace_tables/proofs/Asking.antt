-- After each event and each out what is kept of requests is what the definitions say; and the deadline.
use Rattle.std.proofs.Common.{◌≡◌, ℕ, suc, ◌+◌, ◌==◌, ◌&&◌, ◌||◌, Bool, true, false, Option, Some, None, List, [], ◌∷◌, refl, sym, ap, ◌∙◌, subst, arith}
use Rattle.std.specs.Prelude.{if◌then◌else◌, is_some, nat_le, max}
use Rattle.std.proofs.lemmas.Bool.Decides.{nat_tests}
use Rattle.number_table.specs.Entries.{puts, entry_at}
use Rattle.client_request.specs.Request.{Request}
use Rattle.client_request.specs.declared.event.{Event.Event, What.What, Out.Out, Via.Via}
use Rattle.client_request.specs.declared.event.What.TheVariants.{Ask, Opened, OpenFailed, SendFailed, ShortSend, Datagram, RecvFailed, Wrote, WriteFailed, Bytes, ReadFailed, Ended, Tick}
use Rattle.client_request.specs.declared.event.Out.TheVariants.{Start, OpenDgram, OpenStream, Send, Write, Resume, Close, Stale, Reply}
use Rattle.right_trace.specs.Trace.{History, Conf, Came, Put}
use Rattle.right_trace.specs.{Time.now, Causes.DeadlineHasPassed}
use Rattle.right_trace.specs.Requests.{Asking, asking, asking_of, asks, is_ask, same_via, start, replied, is_marked}
use Rattle.trace_tables.specs.declared.requests.{Requests.Requests, Started.Started}
use Rattle.trace_tables.specs.Lists.{adds, listed}
use Rattle.trace_tables.specs.Requests.{Known, met, told, is_asked, has_put, start_of, start_seen, replied_seen, past_at, deadline_seen}
use Rattle.trace_tables.proofs.{Tables.at_puts, Listing.listed_adds}

-- an event that asks nothing
module _ (h : History) (r : Requests) (e : Event) (is : Known h r) where
  clocked : max e.moment.0 r.clock ≡ max e.moment.0 (now h)
  clocked = ap (max e.moment.0) is.time

  quiet : (w : What) → e.what ≡ w → is_ask w ≡ false → told w (record r { clock = max e.moment.0 r.clock; marked = None }) ≡ record r { clock = max e.moment.0 r.clock; marked = None } → Known (Came e ∷ h) (told w (record r { clock = max e.moment.0 r.clock; marked = None }))
  quiet w i silent same = subst (Known (Came e ∷ h)) (sym same) (record {
    time = clocked;
    count = is.count ∙ sym (ap (λ b. if b then suc (asks h) else asks h) (ap is_ask i ∙ silent));
    askings = λ k. is.askings k ∙ sym (ap (λ b. if b && (asks h == k) then asking_of e.what (max e.moment.0 (now h)) else asking k h) (ap is_ask i ∙ silent));
    starts = is.starts;
    replies = is.replies;
    marks = λ k. refl;
  })

  asked_here : (q : Request) → e.what ≡ Ask q → (k : ℕ) → entry_at k (puts r.asked (record { request = q; moment = max e.moment.0 r.clock }) r.askings) ≡ asking k (Came e ∷ h)
  asked_here q i k =
      at_puts r.asked (record { request = q; moment = max e.moment.0 r.clock }) k r.askings
      ∙ (ap (λ n. if n == k then Some (record { request = q; moment = max e.moment.0 r.clock }) else entry_at k r.askings) is.count
      ∙ (ap (λ n. if asks h == k then Some (record { request = q; moment = n }) else entry_at k r.askings) clocked
      ∙ (ap (λ o. if asks h == k then Some (record { request = q; moment = max e.moment.0 (now h) }) else o) (is.askings k)
      ∙ sym (ap (λ w. if is_ask w && (asks h == k) then asking_of w (max e.moment.0 (now h)) else asking k h) i))))

  asks_one : (q : Request) → e.what ≡ Ask q → Known (Came e ∷ h) (is_asked q (record r { clock = max e.moment.0 r.clock; marked = None }))
  asks_one q i = record {
    time = clocked;
    count = ap (λ n. n + 1) is.count ∙ (let one : asks h + 1 ≡ suc (asks h) = omega arith in one ∙ sym (ap (λ w. if is_ask w then suc (asks h) else asks h) i));
    askings = asked_here q i;
    starts = is.starts;
    replies = is.replies;
    marks = λ k. refl;
  }

  pub known_met : Known (Came e ∷ h) (met e r)
  known_met = go e.what refl
    where
      go : (w : What) → e.what ≡ w → Known (Came e ∷ h) (told w (record r { clock = max e.moment.0 r.clock; marked = None }))
      go (Ask q) i = asks_one q i
      go (Opened p) i = quiet (Opened p) i refl refl
      go (OpenFailed p f) i = quiet (OpenFailed p f) i refl refl
      go (SendFailed p f) i = quiet (SendFailed p f) i refl refl
      go (ShortSend p) i = quiet (ShortSend p) i refl refl
      go (Datagram p o) i = quiet (Datagram p o) i refl refl
      go (RecvFailed p f) i = quiet (RecvFailed p f) i refl refl
      go (Wrote p n) i = quiet (Wrote p n) i refl refl
      go (WriteFailed p f) i = quiet (WriteFailed p f) i refl refl
      go (Bytes p o) i = quiet (Bytes p o) i refl refl
      go (ReadFailed p f) i = quiet (ReadFailed p f) i refl refl
      go (Ended p) i = quiet (Ended p) i refl refl
      go Tick i = quiet Tick i refl refl

-- a start
start_put : (k j s t : ℕ) (v u : Via) (n m : ℕ) (xs : List (ℕ × List Started)) (o : Option ℕ) → start_of s v (listed k xs) ≡ o → n ≡ m
    → start_of s v (listed k (adds j (record { server = t; via = u; moment = n }) xs)) ≡ (if same_via u v && ((j == k) && (t == s)) then Some m else o)
start_put k j s t v u n m xs o e same = ap (start_of s v) (listed_adds k j (record { server = t; via = u; moment = n }) xs) ∙ go (j == k)
  where
    none : (b : Bool) → o ≡ (if b && false then Some m else o)
    none true = refl
    none false = refl

    go : (b : Bool) → start_of s v (if b then record { server = t; via = u; moment = n } ∷ listed k xs else listed k xs) ≡ (if same_via u v && (b && (t == s)) then Some m else o)
    go true = ap (λ n. if same_via u v && (t == s) then Some n else start_of s v (listed k xs)) same ∙ ap (λ o. if same_via u v && (t == s) then Some m else o) e
    go false = e ∙ none (same_via u v)

reply_put : (k j : ℕ) (t : List (ℕ × Unit {0})) (b : Bool) → is_some (entry_at k t) ≡ b → is_some (entry_at k (puts j tt t)) ≡ (j == k || b)
reply_put k j t b e = ap is_some (at_puts j tt k t) ∙ go (j == k)
  where
    go : (c : Bool) → is_some (if c then Some tt else entry_at k t) ≡ (c || b)
    go true = refl
    go false = e

pub known_put : (h : History) (r : Requests) (o : Out) → Known h r → Known (Put o ∷ h) (has_put o r)
known_put h r (Start j t u) is = record { time = is.time; count = is.count; askings = is.askings; starts = λ k s v. start_put k j s t v u r.clock (now h) r.starts (start k s v h) (is.starts k s v) is.time; replies = is.replies; marks = λ k. refl }
known_put h r (OpenDgram p s) is = record { time = is.time; count = is.count; askings = is.askings; starts = is.starts; replies = is.replies; marks = λ k. refl }
known_put h r (OpenStream p s) is = record { time = is.time; count = is.count; askings = is.askings; starts = is.starts; replies = is.replies; marks = λ k. refl }
known_put h r (Send p j i o) is = record { time = is.time; count = is.count; askings = is.askings; starts = is.starts; replies = is.replies; marks = λ k. refl }
known_put h r (Write p j i o) is = record { time = is.time; count = is.count; askings = is.askings; starts = is.starts; replies = is.replies; marks = λ k. refl }
known_put h r (Resume p o) is = record { time = is.time; count = is.count; askings = is.askings; starts = is.starts; replies = is.replies; marks = λ k. refl }
known_put h r (Close p) is = record { time = is.time; count = is.count; askings = is.askings; starts = is.starts; replies = is.replies; marks = λ k. refl }
known_put h r (Stale j) is = record { time = is.time; count = is.count; askings = is.askings; starts = is.starts; replies = is.replies; marks = λ k. refl }
known_put h r (Reply j x) is = record { time = is.time; count = is.count; askings = is.askings; starts = is.starts; replies = λ k. reply_put k j r.replies (replied k h) (is.replies k); marks = λ k. refl }

pub known_nothing : Known [] (record { askings = []; starts = []; replies = []; marked = None; asked = 0; clock = 0 })
known_nothing = record { time = refl; count = refl; askings = λ k. refl; starts = λ k s v. refl; replies = λ k. refl; marks = λ k. refl }

abbrev moment_or : Option Asking → ℕ
moment_or None = 0
moment_or (Some a) = a.moment

pub deadline_decides : (c : Conf) (h : History) (r : Requests) (k : ℕ) → Known h r → (deadline_seen c.timeout k r ≡ true → DeadlineHasPassed c k h) × (DeadlineHasPassed c k h → deadline_seen c.timeout k r ≡ true)
deadline_decides c h r k is = go (asking k h) refl
  where
    go : (o : Option Asking) → asking k h ≡ o → (deadline_seen c.timeout k r ≡ true → DeadlineHasPassed c k h) × (DeadlineHasPassed c k h → deadline_seen c.timeout k r ≡ true)
    go None e =
        let z : deadline_seen c.timeout k r ≡ false = ap (past_at c.timeout r.clock) (is.askings k ∙ e) in
        ((λ yes. absurd (cc)), (λ d. absurd (let y : None ≡ Some d.asking_of = sym e ∙ d.asked in cc)))
    go (Some a) e =
        let z : deadline_seen c.timeout k r ≡ nat_le (a.moment + c.timeout) r.clock = ap (past_at c.timeout r.clock) (is.askings k ∙ e) in (
          (λ yes. record { asking_of = a; asked = e; passed = let y : nat_le (a.moment + c.timeout) r.clock ≡ true = sym z ∙ yes in let t = is.time in grind (arith, nat_tests) }),
          (λ d.
              let y : Some d.asking_of ≡ Some a = sym d.asked ∙ e in
              let m : d.asking_of.moment ≡ a.moment = ap moment_or y in
              let p = d.passed in
              let t = is.time in
              z ∙ (let le : nat_le (a.moment + c.timeout) r.clock ≡ true = grind (arith, nat_tests) in le)),
        )
