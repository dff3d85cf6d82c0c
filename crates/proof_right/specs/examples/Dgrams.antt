-- A worked request by datagram, and what the definitions compute of it.
use Rattle.proof_right.specs.examples.Rows.{by_datagrams}
use Rattle.std.specs.Prelude.{◌≡◌, ℕ, true, false, Some, [], ◌∷◌}
use Rattle.client_request.specs.Carries.{IsOfOctets}
use Rattle.client_request.specs.declared.fault.Fault.{Fault}
use Rattle.client_request.specs.declared.fault.Fault.TheVariants.{Refused}
use Rattle.client_request.specs.declared.event.What.TheVariants.{Ask, Opened, OpenFailed, Datagram, RecvFailed}
use Rattle.client_request.specs.declared.event.Out.TheVariants.{Start, OpenDgram, Send, Close}
use Rattle.client_request.specs.declared.event.Via.TheVariants.{Dgram}
use Rattle.right_trace.specs.Trace.{History, Came, Put}
use Rattle.right_trace.specs.Time.{now}
use Rattle.right_trace.specs.Messages.{Octets, CarriesBy, answers, is_valid}
use Rattle.right_trace.specs.Requests.{waits}
use Rattle.right_trace.specs.Places.{site, stand, Alive, live, demand}
use Rattle.right_trace.specs.Frames.{came}
use Rattle.right_trace.specs.Exchanges.{unanswered}
use Rattle.right_trace.specs.Causes.{sends, FailedAt}
use Rattle.right_trace.specs.Orderly.{MaySend}
use Rattle.right_trace.specs.Right.{WasLive}
use Rattle.proof_right.specs.examples.Messages.{plain_request, as_datagram, address, answer}

-- What happened: it is asked, its place opens at 10 microseconds, and it is sent.
abbrev pub asked_example : History
asked_example = Put (OpenDgram 0 0) ∷ Put (Start 0 0 Dgram) ∷ Came (record { moment = record { 0 = 0 }; what = Ask plain_request }) ∷ []

abbrev pub opened_example : History
opened_example = Came (record { moment = record { 0 = 10 }; what = Opened 0 }) ∷ asked_example

abbrev pub example_history : History
example_history = Put (Send 0 0 4660 (as_datagram 18 52)) ∷ opened_example

-- At 5 s the first try ends, and the next place opens, which the very event of this row named before.
abbrev pub reopened_example : History
reopened_example = Put (OpenDgram 1 0) ∷ Put (Close 0) ∷ Came (record { moment = record { 0 = 5000010 }; what = Opened 1 }) ∷ example_history

-- What would have happened had the place been of another server: the request was not handed to that.
abbrev pub elsewhere_example : History
elsewhere_example =
    Put (Send 0 0 4660 (as_datagram 18 52)) ∷ Came (record { moment = record { 0 = 10 }; what = Opened 0 })
    ∷ Put (OpenDgram 0 1) ∷ Put (Start 0 0 Dgram) ∷ Came (record { moment = record { 0 = 0 }; what = Ask plain_request }) ∷ []

-- an answer under the id 4660 to the question in which the last letter of example is this one
abbrev pub answer_of : (letter : ℕ) → Octets
answer_of letter = 18 ∷ 52 ∷ 129 ∷ 128 ∷ 0 ∷ 1 ∷ 0 ∷ 1 ∷ 0 ∷ 0 ∷ 0 ∷ 0 ∷ 7 ∷ 101 ∷ 120 ∷ 97 ∷ 109 ∷ 112 ∷ 108 ∷ letter ∷ 3 ∷ 99 ∷ 111 ∷ 109 ∷ 0 ∷ 0 ∷ 1 ∷ 0 ∷ 1 ∷ address 100

pub record WorkedDatagrams : Type 0 where
  pub alive : stand 0 example_history ≡ Alive
  pub at : site 0 example_history ≡ Some (record { via = Dgram; server = 0 })
  pub waits : waits 0 example_history ≡ true
  pub clock : now example_history ≡ 10
  pub one_place : live 0 example_history ≡ 1
  pub one_request : demand 0 example_history ≡ 1
  pub one_send : sends 0 0 example_history ≡ 1
  pub still_open : unanswered by_datagrams plain_request 0 0 4660 20 example_history ≡ as_datagram 18 52 ∷ []
  pub closed_later : unanswered by_datagrams plain_request 0 0 4660 5000010 example_history ≡ []
  pub comes : came 0 (Datagram 0 (answer_of 101)) example_history ≡ answer_of 101 ∷ []
  pub comes_nowhere : came 0 (Datagram 1 (answer_of 101)) example_history ≡ []
  pub is_answer : answers plain_request 4660 (answer_of 101) ≡ true
  pub in_capitals : answers plain_request 4660 (answer_of 69) ≡ true
  pub another_id : answers plain_request 4660 (answer 18 53 100) ≡ false
  pub another_question : answers plain_request 4660 (answer_of 102) ≡ false
  pub valid : is_valid plain_request ≡ true
  pub in_octets : IsOfOctets plain_request
  pub carries : CarriesBy by_datagrams Dgram (as_datagram 18 52) plain_request 4660
  pub may_send : MaySend by_datagrams 0 0 4660 (as_datagram 18 52) asked_example opened_example
  pub next_try : MaySend by_datagrams 0 1 4660 (as_datagram 18 52) example_history reopened_example
  pub not_again : MaySend by_datagrams 0 0 4660 (as_datagram 18 52) asked_example example_history → ⊥
  pub not_where_it_was : MaySend by_datagrams 0 0 4660 (as_datagram 18 52) example_history reopened_example → ⊥
  pub blamed : (f : Fault) → FailedAt by_datagrams (λ p. RecvFailed p f) 0 example_history (RecvFailed 0 f)
  pub was_live : WasLive 0 (Came (record { moment = record { 0 = 5000000 }; what = OpenFailed 0 Refused }) ∷ asked_example)
  pub not_blamed_elsewhere : (f : Fault) → FailedAt by_datagrams (λ p. RecvFailed p f) 0 example_history (RecvFailed 1 f) → ⊥
  pub not_blamed_of_another_server : (f : Fault) → FailedAt by_datagrams (λ p. RecvFailed p f) 0 elsewhere_example (RecvFailed 0 f) → ⊥
  pub not_yet_blamed : (f : Fault) → FailedAt by_datagrams (λ p. RecvFailed p f) 0 opened_example (RecvFailed 0 f) → ⊥
