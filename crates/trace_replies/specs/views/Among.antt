-- What is found among the replies to a question, of which the newest stand first.
use Rattle.std.specs.Prelude.{◌≡◌, ℕ, Bool, true, false, List}
use Rattle.client_request.specs.Request.{Request}
use Rattle.right_trace.specs.{Parts.IsIn, Keys.key_of}
use Rattle.message_judging.specs.views.Serving.{HasFlags}
use Rattle.trace_replies.specs.declared.given.asks.Asks.{Asks}
use Rattle.trace_replies.specs.declared.given.earlier.Earlier.{Earlier}
use Rattle.trace_replies.specs.given.Asks.{IsAsked, common}
use Rattle.trace_replies.specs.given.Earlier.{AreBefore}

-- what is said of an earlier reply, to q, and of request r, which is given it
abbrev pub Giving : Type 1
Giving = (q r : Request) → Earlier → Type 0

-- so it is of all requests that ask as is said
abbrev pub Yes : Giving → Asks → Earlier → Type 0
Yes G a e = (q r : Request) → IsAsked r a → common (key_of q) ≡ a.key → HasFlags q e.flags → G q r e

-- so it is of none
abbrev pub No : Giving → Asks → Earlier → Type 0
No G a e = (q r : Request) → IsAsked r a → common (key_of q) ≡ a.key → HasFlags q e.flags → G q r e → ⊥

-- the answer for one reply
pub record TellsOne (G : Giving) (a : Asks) (e : Earlier) (b : Bool) : Type 0 where
  pub so : b ≡ true → Yes G a e
  pub non : b ≡ false → No G a e

-- the answer for some
pub record TellsSome (G : Giving) (a : Asks) (es : List Earlier) (b : Bool) : Type 0 where
  pub so : b ≡ true → (e : Earlier) × IsIn e es × Yes G a e
  pub non : b ≡ false → (from : ℕ) → AreBefore from es → (e : Earlier) → IsIn e es → No G a e
