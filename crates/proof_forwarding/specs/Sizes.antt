-- How many octets an answer by a datagram has.
use Rattle.std.specs.Prelude.{ℕ, ◌+◌, ◌≤◌, max, false, List, length, Result}
use Rattle.client_request.specs.declared.error.Error.{Error}
use Rattle.dns_names.specs.Name.{spelling}
use Rattle.front_queries.specs.Answers.{answer_to}
use Rattle.front_queries.specs.Query.{Query}

-- Whatever the reply: 1232, or those of a header, the question and an OPT record.
abbrev pub DatagramAnswersAreShort : Type 0
DatagramAnswersAreShort = (q : Query) (reply : Result (List ℕ) Error) → length (answer_to q false reply) ≤ max 1232 (27 + length (spelling q.asked.name))
