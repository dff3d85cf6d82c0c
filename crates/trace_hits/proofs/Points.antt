-- What is known at a point goes on over events and outs.
use Rattle.std.proofs.Common.{◌≡◌, ℕ, suc, ◌+◌, ◌-◌, ◌≤◌, ◌==◌, ◌&&◌, Bool, true, false, Some, None, [], ◌∷◌, refl, ap, ◌∙◌, arith}
use Rattle.std.specs.Prelude.{if◌then◌else◌, is_some}
use Rattle.client_request.specs.declared.event.{Event.Event, What.What, Out.Out}
use Rattle.client_request.specs.declared.event.What.TheVariants.{Ask, Opened, OpenFailed, SendFailed, ShortSend, Datagram, RecvFailed, Wrote, WriteFailed, Bytes, ReadFailed, Ended, Tick}
use Rattle.client_request.specs.declared.event.Out.TheVariants.{Start, OpenDgram, OpenStream, Send, Write, Resume, Close, Stale, Reply}
use Rattle.right_trace.specs.Trace.{History, Came, Put}
use Rattle.right_trace.specs.Time.{newest, one_if}
use Rattle.right_trace.specs.Requests.{asks, is_ask}
use Rattle.right_trace.specs.Hit.{is_some_reply}
use Rattle.trace_tables.proofs.Asking as asking_known
use Rattle.trace_hits.specs.declared.point.Point.{Point}
use Rattle.trace_hits.specs.Point.{nothing, is_number, asked_by, met, has_put, replied_then, replies_in, Known}

asked_is : (w : What) (n : ℕ) → asked_by w n ≡ (if is_ask w then Some n else None)
asked_is (Ask r) n = refl
asked_is (Opened p) n = refl
asked_is (OpenFailed p f) n = refl
asked_is (SendFailed p f) n = refl
asked_is (ShortSend p) n = refl
asked_is (Datagram p o) n = refl
asked_is (RecvFailed p f) n = refl
asked_is (Wrote p m) n = refl
asked_is (WriteFailed p f) n = refl
asked_is (Bytes p o) n = refl
asked_is (ReadFailed p f) n = refl
asked_is (Ended p) n = refl
asked_is Tick n = refl

pub known_met : (e : Event) (h : History) (p : Point) → Known h p → Known (Came e ∷ h) (met e p)
known_met e h p is = record {
  requests = asking_known.known_met h p.requests e is.requests;
  here = λ k. ap (is_number k) (asked_is e.what p.requests.asked) ∙ number k (is_ask e.what);
  own = ap is_some (asked_is e.what p.requests.asked) ∙ some (is_ask e.what);
  replied = is.replied;
}
  where
    count : p.requests.asked ≡ asks h
    count = let kr = is.requests in kr.count

    number : (k : ℕ) (b : Bool) → is_number k (if b then Some p.requests.asked else None) ≡ (b && (asks h == k))
    number k true = ap (λ (n : ℕ). n == k) count
    number k false = refl

    some : (b : Bool) → is_some (if b then Some p.requests.asked else None) ≡ b
    some true = refl
    some false = refl

counts : (o : Out) (n m : ℕ) → n ≡ m → replied_then o n ≡ one_if (is_some_reply o) + m
counts (Reply k x) n m e = omega arith
counts (Start k s v) n m e = omega arith
counts (OpenDgram p s) n m e = omega arith
counts (OpenStream p s) n m e = omega arith
counts (Send p k i o) n m e = omega arith
counts (Write p k i o) n m e = omega arith
counts (Resume p o) n m e = omega arith
counts (Close p) n m e = omega arith
counts (Stale k) n m e = omega arith

pub known_put : (o : Out) (h : History) (p : Point) → Known h p → Known (Put o ∷ h) (has_put o p)
known_put o h p is = record {
  requests = asking_known.known_put h p.requests o is.requests;
  here = is.here;
  own = is.own;
  replied = counts o p.replied (replies_in h) is.replied;
}

pub known_nothing : Known [] nothing
known_nothing = record { requests = asking_known.known_nothing; here = λ k. refl; own = refl; replied = refl }

-- the newest row's own asking is one of those that were asked
pub own_counts : (h : History) → one_if (is_ask (newest h)) ≤ asks h
own_counts [] = omega arith
own_counts (Put o ∷ h) = own_counts h
own_counts (Came e ∷ h) = go (is_ask e.what) (asks h)
  where
    go : (b : Bool) (n : ℕ) → one_if b ≤ (if b then suc n else n)
    go true n = omega arith
    go false n = omega arith

-- so the others and it are all
pub others_and_own : (h : History) (p : Point) → Known h p → (p.requests.asked - one_if (is_some p.here)) + one_if (is_ask (newest h)) ≡ asks h
others_and_own h p is = by (is_some p.here) (is_ask (newest h)) is.own p.requests.asked (asks h) count (own_counts h)
  where
    count : p.requests.asked ≡ asks h
    count = let kr = is.requests in kr.count

    sum : (a m n : ℕ) → a ≡ n → m ≤ n → (a - m) + m ≡ n
    sum a m n e le = omega arith

    by : (b d : Bool) → b ≡ d → (a n : ℕ) → a ≡ n → one_if d ≤ n → (a - one_if b) + one_if d ≡ n
    by b d same a n e le = ap (λ b. (a - one_if b) + one_if d) same ∙ sum a (one_if d) n e le
