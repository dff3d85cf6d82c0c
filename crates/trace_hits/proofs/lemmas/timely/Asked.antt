-- Requests are asked in order, and never later than now.
use Rattle.std.proofs.Common.{◌≡◌, ℕ, suc, ◌<◌, ◌≤◌, ◌==◌, ◌&&◌, max, Bool, true, false, Option, Some, None, [], ◌∷◌, refl, sym, ap, arith}
use Rattle.std.specs.Prelude.{if◌then◌else◌}
use Rattle.std.proofs.lemmas.Bool.Decides.{nat_tests}
use Rattle.client_request.specs.declared.event.What.{What}
use Rattle.client_request.specs.declared.event.What.TheVariants.{Ask, Opened, OpenFailed, SendFailed, ShortSend, Datagram, RecvFailed, Wrote, WriteFailed, Bytes, ReadFailed, Ended, Tick}
use Rattle.right_trace.specs.Trace.{History, Came, Put}
use Rattle.right_trace.specs.Time.{now}
use Rattle.right_trace.specs.Requests.{Asking, asking, asking_of, asks, is_ask}

abbrev moment_or : Option Asking → ℕ
moment_or None = 0
moment_or (Some a) = a.moment

-- an asking that an event makes
made_at : (w : What) (n : ℕ) (a : Asking) → asking_of w n ≡ Some a → a.moment ≡ n
made_at (Ask r) n a e = sym (ap moment_or e)
made_at (Opened p) n a e = absurd (cc)
made_at (OpenFailed p f) n a e = absurd (cc)
made_at (SendFailed p f) n a e = absurd (cc)
made_at (ShortSend p) n a e = absurd (cc)
made_at (Datagram p o) n a e = absurd (cc)
made_at (RecvFailed p f) n a e = absurd (cc)
made_at (Wrote p m) n a e = absurd (cc)
made_at (WriteFailed p f) n a e = absurd (cc)
made_at (Bytes p o) n a e = absurd (cc)
made_at (ReadFailed p f) n a e = absurd (cc)
made_at (Ended p) n a e = absurd (cc)
made_at Tick n a e = absurd (cc)

pub asked_below : (k : ℕ) (h : History) (a : Asking) → asking k h ≡ Some a → k < asks h
asked_below k [] a e = absurd (cc)
asked_below k (Put o ∷ h) a e = asked_below k h a e
asked_below k (Came x ∷ h) a e = go (asked_below k h a) (is_ask x.what) (asks h == k) refl e
  where
    is : (n k : ℕ) → (n == k) ≡ true → k < suc n
    is n k i = grind (arith, nat_tests)

    more : (n k : ℕ) → k < n → k < suc n
    more n k lt = omega arith

    go : (asking k h ≡ Some a → k < asks h) → (b c : Bool) → (asks h == k) ≡ c → (if b && c then asking_of x.what (max x.moment.0 (now h)) else asking k h) ≡ Some a → k < (if b then suc (asks h) else asks h)
    go rest true true i e = is (asks h) k i
    go rest true false i e = more (asks h) k (rest e)
    go rest false c i e = rest e

asked_by : (k : ℕ) (h : History) (a : Asking) → asking k h ≡ Some a → a.moment ≤ now h
asked_by k [] a e = absurd (cc)
asked_by k (Put o ∷ h) a e = asked_by k h a e
asked_by k (Came x ∷ h) a e = go (asked_by k h a) (is_ask x.what && (asks h == k)) e
  where
    at : (m n : ℕ) → m ≡ n → m ≤ n
    at m n i = omega arith

    later : (m n k : ℕ) → k ≤ n → k ≤ max m n
    later m n k le = omega arith

    go : (asking k h ≡ Some a → a.moment ≤ now h) → (b : Bool) → (if b then asking_of x.what (max x.moment.0 (now h)) else asking k h) ≡ Some a → a.moment ≤ max x.moment.0 (now h)
    go rest true e = at a.moment (max x.moment.0 (now h)) (made_at x.what (max x.moment.0 (now h)) a e)
    go rest false e = later x.moment.0 (now h) a.moment (rest e)

-- of two requests the one with the lesser number was asked no later
pub in_order : (j k : ℕ) (h : History) (a b : Asking) → j ≤ k → asking j h ≡ Some a → asking k h ≡ Some b → a.moment ≤ b.moment
in_order j k [] a b le e f = absurd (cc)
in_order j k (Put o ∷ h) a b le e f = in_order j k h a b le e f
in_order j k (Came x ∷ h) a b le e f = go (in_order j k h a b le) (is_ask x.what) (asks h == j) refl (asks h == k) refl e f
  where
    same : (p q n : ℕ) → p ≡ n → q ≡ n → p ≤ q
    same p q n i g = omega arith

    earlier : (p q l n : ℕ) → p ≤ n → q ≡ max l n → p ≤ q
    earlier p q l n i g = omega arith

    not_both : (n j k : ℕ) → j ≤ k → (n == j) ≡ true → k < n → ⊥
    not_both n j k le i lt = grind (arith, nat_tests)

    go : (asking j h ≡ Some a → asking k h ≡ Some b → a.moment ≤ b.moment) → (d : Bool) → (y : Bool) → (asks h == j) ≡ y → (z : Bool) → (asks h == k) ≡ z
        → (if d && y then asking_of x.what (max x.moment.0 (now h)) else asking j h) ≡ Some a → (if d && z then asking_of x.what (max x.moment.0 (now h)) else asking k h) ≡ Some b → a.moment ≤ b.moment
    go rest false y i z g e f = rest e f
    go rest true true i true g e f = same a.moment b.moment (max x.moment.0 (now h)) (made_at x.what (max x.moment.0 (now h)) a e) (made_at x.what (max x.moment.0 (now h)) b f)
    go rest true false i true g e f = earlier a.moment b.moment x.moment.0 (now h) (asked_by j h a e) (made_at x.what (max x.moment.0 (now h)) b f)
    go rest true true i false g e f = absurd (not_both (asks h) j k le i (asked_below k h b f))
    go rest true false i false g e f = rest e f
