-- What a transport asks of requests of a type, as functions.
use Rattle.std.specs.Prelude.{ℕ, Bool, List, Result}
use Rattle.client_request.specs.declared.error.Error.{Error}
use Rattle.client_request.specs.Request as one
use Rattle.client_request.specs.Request.{Request}
use Rattle.client_request.specs.Composed as composing

-- What is recorded is changed by the first three: an id, a payload size, an option by its code and octets. Of so many octets of an option the data
-- may be too full. `composed` is the message that is made of a request, and some messages answer it.
pub record Requests (R : Type 0) : Type 0 where
  pub with_id : ℕ → R → R
  pub with_payload_size : ℕ → R → R
  pub with_option : ℕ → List ℕ → R → R
  pub is_full_for : ℕ → R → Bool
  pub composed : R → Result (List ℕ) Error
  pub is_answered : List ℕ → R → Bool

-- requests of which some messages are answers
abbrev pub answered_by : (List ℕ → Request → Bool) → Requests Request
answered_by is_answered = record {
  with_id = one.with_id;
  with_payload_size = one.with_payload_size;
  with_option = one.with_option;
  is_full_for = one.is_full_for;
  composed = composing.composed;
  is_answered = is_answered;
}

-- requests that one message answers
abbrev pub for_one : Requests Request
for_one = answered_by one.is_answered

-- requests that several messages may answer
abbrev pub for_several : Requests Request
for_several = answered_by one.is_answered_in_part
