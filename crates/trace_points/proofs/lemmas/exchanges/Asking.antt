-- In a trace that is right what was not asked is not sent, and not handed on.
use Rattle.std.proofs.Common.{◌≡◌, ℕ, ◌==◌, ◌&&◌, Bool, true, false, if◌then◌else◌, Option, Some, None, List, [], ◌∷◌, refl, sym, ap, ◌∙◌, arith}
use Rattle.std.proofs.lemmas.Bool.Decides.{nat_tests}
use Rattle.client_request.specs.declared.event.{Event.Event, What.What, Out.Out, Via.Via}
use Rattle.client_request.specs.declared.event.Out.TheVariants.{Start, OpenDgram, OpenStream, Send, Write, Resume, Close, Stale, Reply}
use Rattle.right_trace.specs.Trace.{History, Conf, Came, Put, put_all}
use Rattle.right_trace.specs.{Time.now, Settings.Settings, Causes.named}
use Rattle.right_trace.specs.Requests.{Asking, asking, same_via, start}
use Rattle.right_trace.specs.Right.{OutRight, OutsRight}
use Rattle.right_trace.proofs.Asked.{asking_came}
use Rattle.trace_points.specs.exchanges.Asked.{AskedFirst, RightRowsAsk}

pub never_asked : (k : ℕ) (e : Event) (h : History) → asking k (Came e ∷ h) ≡ None → asking k h ≡ None
never_asked k e h n = go (asking k h) refl
  where
    go : (o : Option Asking) → asking k h ≡ o → o ≡ None
    go None q = refl
    go (Some a) q = absurd (let z : Some a ≡ None = sym (asking_came k a e h q) ∙ n in cc)

event : (h : History) (e : Event) → AskedFirst h → AskedFirst (Came e ∷ h)
event h e a = record { unsent = λ k p n. a.unsent k p (never_asked k e h n); unstarted = λ k s v n. a.unstarted k s v (never_asked k e h n) }

same_number : (a b : ℕ) → (a == b) ≡ true → a ≡ b
same_number a b e = grind (arith, nat_tests)

-- who is asked is another one
other : (j k : ℕ) (h : History) (a : Asking) → asking j h ≡ Some a → asking k h ≡ None → (j == k) ≡ false
other j k h a is none = go (j == k) refl
  where
    go : (b : Bool) → (j == k) ≡ b → b ≡ false
    go false e = refl
    go true e = absurd (let z : Some a ≡ None = sym is ∙ (ap (λ n. asking n h) (same_number j k e) ∙ none) in cc)

out : (c : Conf) (s : Settings) (past : History) (w : What) (h end : History) (o : Out) → OutRight c s past w h end o → AskedFirst h → AskedFirst (Put o ∷ h)
out c s past w h end (Start j t u) right a = record { unsent = a.unsent; unstarted = λ k s v n. go k s v n (j == k) (other j k h right.2.0 right.2.1 n) }
  where
    go : (k s : ℕ) (v : Via) → asking k h ≡ None → (b : Bool) → b ≡ false → (if same_via u v && (b && (t == s)) then Some (now h) else start k s v h) ≡ None
    go k s v n true e = absurd (cc)
    go k s v n false e = off (same_via u v) ∙ a.unstarted k s v n
      where
        off : (d : Bool) → (if d && false then Some (now h) else start k s v h) ≡ start k s v h
        off true = refl
        off false = refl
out c s past w h end (Send q j i o) right a = record { unsent = λ k p n. go k p n (j == k) (other j k h _ right.2.asked.1 n); unstarted = a.unstarted }
  where
    go : (k p : ℕ) → asking k h ≡ None → (b : Bool) → b ≡ false → (if (q == p) && b then record { id = i; octets = o } ∷ named p k h else named p k h) ≡ []
    go k p n true e = absurd (cc)
    go k p n false e = off (q == p) ∙ a.unsent k p n
      where
        off : (d : Bool) → (if d && false then record { id = i; octets = o } ∷ named p k h else named p k h) ≡ named p k h
        off true = refl
        off false = refl
out c s past w h end (OpenDgram p t) right a = record { unsent = a.unsent; unstarted = a.unstarted }
out c s past w h end (OpenStream p t) right a = record { unsent = a.unsent; unstarted = a.unstarted }
out c s past w h end (Write p k i o) right a = record { unsent = a.unsent; unstarted = a.unstarted }
out c s past w h end (Resume p o) right a = record { unsent = a.unsent; unstarted = a.unstarted }
out c s past w h end (Close p) right a = record { unsent = a.unsent; unstarted = a.unstarted }
out c s past w h end (Stale k) right a = record { unsent = a.unsent; unstarted = a.unstarted }
out c s past w h end (Reply k x) right a = record { unsent = a.unsent; unstarted = a.unstarted }

outs : (c : Conf) (s : Settings) (past : History) (w : What) (end h : History) (os : List Out) → OutsRight c s past w end h os → AskedFirst h → AskedFirst (put_all os h)
outs c s past w end h [] right a = a
outs c s past w end h (o ∷ os) right a = outs c s past w end (Put o ∷ h) os right.1 (out c s past w h end o right.0 a)

pub right_rows_ask : RightRowsAsk
right_rows_ask = record {
  begins = record { unsent = λ k p n. refl; unstarted = λ k s v n. refl };
  row = λ c s past row right a. outs c s past row.event.what _ (Came row.event ∷ past) row.outs right.outs (event past row.event a);
}
