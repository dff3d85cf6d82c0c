-- What a query asks, and what comes of it.
use Rattle.std.specs.Prelude.{◌≡◌, ◌≢◌, ◌⊎◌, ℕ, Bool, true, false, List, [], map, Option, None, Some, Result, Ok, Err, IfSome, codes, String}
use Rattle.std.specs.declared.alloc.Global.{Global}
use Rattle.dns_base.specs.Query.{query_octets}
use Rattle.client_request.specs.Request.{Request, recorded_from}
use Rattle.client_request.specs.declared.error.Error.{Error}
use Rattle.client_request.specs.declared.event.Out.TheVariants.{Reply}
use Rattle.client_settings.specs.Settings.{default_cache, default_redundant}
use Rattle.client_steps.specs.Headline.{conf_of, settings_of}
use Rattle.client_steps.specs.Whole.{Whole, started}
use Rattle.client_core.specs.declared.edge.Deed.{Deed}
use Rattle.client_core.specs.declared.edge.Deed.TheVariants.{Learned}
use Rattle.client_loop.specs.Asking.{IsAnswered, Scene, StopsForNumbers, rows_of, scene}
use Rattle.client_loop.specs.Turns.{after_deeds}
use Rattle.dns_script.specs.Lines.{line, out_words}
use Rattle.right_trace.specs.Right.{Right}
use Rattle.right_trace.specs.Timely.{Timely}
use Rattle.resolv_conf.specs.declared.conf.ResolvConf.{ResolvConf}
use Rattle.dns_values.specs.Sink.{with_octets}
use Rattle.command_parts.specs.Conf.{Configures, conf_at}
use Rattle.command_parts.specs.Ends.{IsBegun, IsSaid}
use Rattle.dnsq_run.specs.Program.{IsRefused, RefusalIsSaid, numbers_line}
use Rattle.dnsq_run.specs.declared.usage.Command.TheVariants.{Conf}
use Rattle.dnsq_run.specs.QueryWords.{query_of}
use Rattle.dnsq_run.specs.Words.{command_of}
use Rattle.dnsq_run.specs.declared.query_words.Query.{Query}

-- the request: its one question, of class IN, recursion desired
abbrev pub request_of : Query → Request
request_of q = recorded_from (query_octets q.name q.rtype.0)

-- the words that come, what the edge tells, its count of polls, and the moments that the clock tells
pub record World : Type 0 where
  pub words : ℕ → ℕ
  pub deeds : Option (List Deed)
  pub polls : ℕ
  pub moments : Option (List ℕ)

-- a new client of a configuration, whose servers the edge has learned; it keeps these waits
abbrev pub begun : ResolvConf → World → Option (List ℕ) → Scene
begun conf old waits = scene (started default_redundant default_cache conf) old.words (after_deeds (map (λ server. Learned server) conf.servers) old.deeds) waits old.polls old.moments

abbrev pub world : (ℕ → ℕ) → Option (List Deed) → ℕ → Option (List ℕ) → World
world words deeds polls moments = record { words = words; deeds = deeds; polls = polls; moments = moments }

-- What holds of the world before and after a call, by what an edge, a clock and words tell.
abbrev pub around : {E C W : Type 0} {R : Type 1} → (E → Option (List Deed)) → (E → ℕ) → (C → Option (List ℕ)) → (W → ℕ → ℕ) → (old new : E × C × W) → (World → World → R) → R
around deeds polls given stream old new P = P (world (stream old.2) (deeds old.0) (polls old.0) (given old.1)) (world (stream new.2) (deeds new.0) (polls new.0) (given new.1))

-- The edge learned the servers in order, and then a new client of them was asked the request, and this was answered; what the edge
-- keeps of its waits is not the program's. The rows are right and timely.
pub record IsReplied (q : Query) (conf : ResolvConf) (old new : World) (answer : Option (Result (List ℕ) Error)) : Type 0 where
  pub left : Whole
  pub waits : Option (List ℕ)
  pub later_waits : Option (List ℕ)
  pub answered : IsAnswered 0 1000000 (request_of q) (begun conf old waits) (scene left new.words new.deeds later_waits new.polls new.moments) answer
  pub right : Right (conf_of conf) (settings_of default_redundant default_cache) (rows_of answered.asked.asking answered.asked.turns)
  pub timely : Timely (conf_of conf) (rows_of answered.asked.asking answered.asked.turns)

-- The configuration is what the text says, finalized, with the query's port; the text is that of the source, where it tells it.
pub record IsConfOf (q : Query) (told : Option (List ℕ)) (conf : ResolvConf) : Type 0 where
  pub final : ResolvConf
  pub is_final : IfSome told (λ text. Configures text final)
  pub is : conf ≡ conf_at q.port final

-- The servers of the configuration were asked, and this was answered.
pub record IsAsked (q : Query) (told : Option (List ℕ)) (old new : World) (answer : Option (Result (List ℕ) Error)) : Type 0 where
  pub conf : ResolvConf
  pub is_conf : IsConfOf q told conf
  pub replied : IsReplied q conf old new answer

-- The edge learned the servers in order, and then a new client of them was asked the request, and a number would pass 64 bits at it or at what the edge gave in
-- one of its polls.
pub record Stops (q : Query) (conf : ResolvConf) (old new : World) : Type 0 where
  pub left : Whole
  pub waits : Option (List ℕ)
  pub later_waits : Option (List ℕ)
  pub stopped : StopsForNumbers (request_of q) (begun conf old waits) (scene left new.words new.deeds later_waits new.polls new.moments)

pub record StopsAsking (q : Query) (told : Option (List ℕ)) (old new : World) : Type 0 where
  pub conf : ResolvConf
  pub is_conf : IsConfOf q told conf
  pub stopped : Stops q conf old new

-- what is written for an answer: the line of the reply, or that there is none
abbrev pub answer_line : Option (Result (List ℕ) Error) → List ℕ
answer_line (Some reply) = line (out_words (Reply 0 reply))
answer_line None = codes "no reply\n"

-- it is a message
abbrev pub is_message : Option (Result (List ℕ) Error) → Bool
is_message (Some (Ok message)) = true
is_message (Some (Err error)) = false
is_message None = false

-- The query was asked, and so it is of the line of its answer, which is a message or not.
pub record IsTold (q : Query) (told : Option (List ℕ)) (old new : World) (message : Bool) (P : List ℕ → Type 0) : Type 0 where
  pub answer : Option (Result (List ℕ) Error)
  pub asked : IsAsked q told old new answer
  pub is : is_message answer ≡ message
  pub so : P (answer_line answer)

-- what is due for a query: the line of its answer, or the line that tells why there is none
pub data IsDue (q : Query) (told : Option (List ℕ)) (old new : World) (line : List ℕ) : Type 0 where
  is_answer : (answer : Option (Result (List ℕ) Error)) → IsAsked q told old new answer → line ≡ answer_line answer → IsDue q told old new line
  is_refusal : IfSome told (λ text. IsRefused Conf text line) → IsDue q told old new line
  stops : StopsAsking q told old new → line ≡ numbers_line → IsDue q told old new line

-- What a query ends with, by its status: what is left to read, what the sink holds, and its count of faults.
pub record EndsSo (q : Query) (status : ℕ) (told left : Option (List ℕ)) (old new : World) (held after : Option (List ℕ)) (faults faults_after : ℕ) : Type 0 where
  pub done : status ≡ 0 → IsTold q told old new true (λ line. after ≡ with_octets line held)
  pub refused : status ≡ 1 → IfSome told (λ text. RefusalIsSaid Conf text held after faults faults_after)
  pub asks : status ≢ 2
  pub cut : status ≡ 4 → IsTold q told old new true (λ line. IsBegun line held after)
  pub no_reply : status ≡ 5 → IsTold q told old new false (λ line. IsSaid line held after faults faults_after)
  pub memory : status ≡ 6 → (after ≡ held) ⊎ ((line : List ℕ) × IsDue q told old new line × IsBegun line held after)
  pub numbers : status ≡ 7 → StopsAsking q told old new
  pub whole : (status ≡ 0) ⊎ (status ≡ 5) → IfSome told (λ _. left ≡ Some [])

-- What holds before and after a run, by what an edge, a clock, words, a source and a sink tell.
abbrev pub on : {E C W S K : Type 0} → (E → Option (List Deed)) → (E → ℕ) → (C → Option (List ℕ)) → (W → ℕ → ℕ) → (S → Option (List ℕ)) → (K → Option (List ℕ)) → (K → ℕ)
    → (old new : E × C × W × S × K) → ((told left : Option (List ℕ)) (before after : World) (held written : Option (List ℕ)) (faults more : ℕ) → Type 0) → Type 0
on deeds polls given stream left held faults old new P =
    P (left old.3) (left new.3) (world (stream old.2) (deeds old.0) (polls old.0) (given old.1)) (world (stream new.2) (deeds new.0) (polls new.0) (given new.1))
    (held old.4) (held new.4) (faults old.4) (faults new.4)

-- where the words are a query, what it ends with
abbrev pub QueryEnd : List (String Global) → ℕ → (told left : Option (List ℕ)) (old new : World) (held after : Option (List ℕ)) (faults more : ℕ) → Type 0
QueryEnd words status told left old new held after faults more = IfSome (query_of words) (λ q. EndsSo q status told left old new held after faults more)

-- and where they are no command over a source alone
abbrev pub OtherEnd : List (String Global) → ℕ → (told left : Option (List ℕ)) (old new : World) (held after : Option (List ℕ)) (faults more : ℕ) → Type 0
OtherEnd words status told left old new held after faults more = command_of words ≡ None → QueryEnd words status told left old new held after faults more
