-- What is said of a trace, as clauses and verdicts of the definitions.
use Rattle.client_request.specs.declared.event.Event.{Event}
use Rattle.std.specs.Prelude.{List, [], ◌∷◌}
use Rattle.trace_judge.specs.clauses.Clauses as clauses
use Rattle.trace_judge.specs.clauses.Verdicts as verdicts
use Rattle.trace_judge.specs.declared.verdict.{Clause.Clause, Verdict.Verdict}
use Rattle.trace_judge.specs.declared.verdict.Clause.TheVariants.{Events, Messages, Firsts, Causes, Orders, Prompts}
use Rattle.trace_judge.specs.declared.verdict.Verdict.TheVariants.{Right, Wrong}

abbrev pub clause_of : Clause → clauses.Clause
clause_of Events = clauses.Events
clause_of Messages = clauses.Messages
clause_of Firsts = clauses.Firsts
clause_of Causes = clauses.Causes
clause_of Orders = clauses.Orders
clause_of Prompts = clauses.Prompts

abbrev pub verdict_of : Verdict → verdicts.Verdict
verdict_of Right = verdicts.Right
verdict_of (Wrong x n) = verdicts.Wrong (clause_of x) n

-- the events of the first lane
abbrev pub first_lane : List (List Event) → List Event
first_lane [] = []
first_lane (events ∷ lanes) = events
