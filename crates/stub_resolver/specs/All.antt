-- Questions that are asked at once, and what each gets.
use Rattle.std.specs.Prelude.{◌≡◌, ℕ, if◌then◌else◌, not, Bool, true, false, List, [], ◌∷◌, map, drop, None, Result, Err}
use Rattle.std.specs.List.{flat_map}
use Rattle.client_request.specs.Request.{Request, is_misformed, recorded_from}
use Rattle.client_request.specs.declared.error.Error.TheVariants as errors
use Rattle.client_loop.specs.All.{AllReplied, StopAll}
use Rattle.client_loop.specs.Asking.{Scene}
use Rattle.resolv_lookup.specs.Asked.{Got}
use Rattle.resolv_lookup.specs.Hosts.{Hosts, hosts_found}
use Rattle.resolv_lookup.specs.ListAnswers.{faults_after}
use Rattle.resolv_lookup.specs.declared.fault.HostFault.{HostFault}
use Rattle.resolv_lookup.specs.declared.fault.QueryFault.TheVariants.{Client}
use Rattle.dns_names.specs.Name.{Labels}
use Rattle.stub_resolver.specs.declared.all.Question.{Question}
use Rattle.stub_resolver.specs.Queries.{Reply, got_of, is_formerr, question}
use Rattle.stub_resolver.specs.Stub.{Stub}

-- the message that asks a question
abbrev pub message_of : Question → List ℕ
message_of q = question q.name q.rtype.0

-- A question is asked where one message answers it.
abbrev pub is_asked : Question → Bool
is_asked q = not (is_misformed (message_of q))

-- the request of a question that is asked
abbrev pub request_in : Question → List Request
request_in q = if is_misformed (message_of q) then [] else recorded_from (message_of q) ∷ []

-- the requests of questions, in order
abbrev pub requests_of : List Question → List Request
requests_of questions = flat_map request_in questions

-- the first of replies, if there is one
abbrev pub next_reply : List Reply → Reply
next_reply [] = None
next_reply (reply ∷ replies) = reply

-- of requests those whose replies say that they could not be read
abbrev pub unread : List Request → List Reply → List Request
unread requests [] = []
unread [] (reply ∷ replies) = []
unread (request ∷ requests) (reply ∷ replies) = if is_formerr reply then request ∷ unread requests replies else unread requests replies

-- In place of each reply that says that its question could not be read stands the next of the later ones.
abbrev pub settled : (early later : List Reply) → List Reply
settled [] later = []
settled (reply ∷ early) later = if is_formerr reply then next_reply later ∷ settled early (drop 1 later) else reply ∷ settled early later

-- Those requests whose replies say that they could not be read were asked once more, at once, and all replies settled.
pub record SettleAll (requests : List Request) (early replies : List Reply) (old new : Scene) : Type 0 where
  pub later : List Reply
  pub again : AllReplied old.client.asked.next (unread requests early) later old new
  pub replies_are : replies ≡ settled early later

-- Requests were asked at once, and their replies settled.
pub record ReplyAll (requests : List Request) (replies : List Reply) (old new : Scene) : Type 0 where
  pub early : List Reply
  pub middle : Scene
  pub answered : AllReplied old.client.asked.next requests early old middle
  pub timeout : middle.client.timeout ≡ old.client.timeout
  pub settle : SettleAll requests early replies middle new

-- A number would pass 64 bits while those are asked whose replies say that they could not be read.
abbrev pub StopUnread : List Request → List Reply → (old new : Scene) → Type 0
StopUnread requests early = StopAll (unread requests early)

-- A number would pass 64 bits while requests are asked, or asked once more.
pub data StopsAll (requests : List Request) (old new : Scene) : Type 0 where
  at_first : StopAll requests old new → StopsAll requests old new
  at_second : (early : List Reply) (middle : Scene) → AllReplied old.client.asked.next requests early old middle → StopUnread requests early middle new
      → StopsAll requests old new

-- A number would pass 64 bits while questions are asked, or asked once more.
abbrev pub StopFor : (questions : List Question) → (old new : Scene) → Type 0
StopFor questions = StopsAll (requests_of questions)

-- What each question gets, by whether it is asked: what the next reply says, or that several messages answer it.
abbrev pub gots_of : (asked : List Bool) → List Reply → List Got
gots_of [] replies = []
gots_of (true ∷ asked) replies = got_of (next_reply replies) ∷ gots_of asked (drop 1 replies)
gots_of (false ∷ asked) replies = Err (Client errors.FormError) ∷ gots_of asked replies

-- Requests were asked at once, and of as many questions each that is asked got what the reply to its own request says.
pub record GetBy (asked : List Bool) (requests : List Request) (gots : List Got) (old new : Scene) : Type 0 where
  pub replies : List Reply
  pub replied : ReplyAll requests replies old new
  pub gots_are : gots ≡ gots_of asked replies

-- Questions were asked at once, and each got what the reply to its own request says.
abbrev pub GetAll : (questions : List Question) → List Got → (old new : Scene) → Type 0
GetAll questions = GetBy (map is_asked questions) (requests_of questions)

-- the count of faults behind what questions got
abbrev pub faults_after_all : List Got → ℕ → ℕ
faults_after_all [] faults = faults
faults_after_all (got ∷ gots) faults = faults_after_all gots (faults_after got faults)

-- What asking questions at once does. `see` is what is seen of a resolver.
pub record QueriesAll {E C W : Type 0} (see : Stub E C W → Scene) (questions : List Question) (gots : List Got) (old new : Stub E C W) : Type 0 where
  pub lasted : old.failed ≡ false
  pub get : GetAll questions gots (see old) (see new)
  pub count : new.faults ≡ faults_after_all gots old.faults
  pub lasts : new.failed ≡ false
  pub options : new.options ≡ old.options

-- the questions for the addresses of hosts: of each its A records, then its AAAA records
abbrev pub host_questions : List Labels → List Question
host_questions names = flat_map (λ name. record { name = name; rtype = record { 0 = 1 } } ∷ record { name = name; rtype = record { 0 = 28 } } ∷ []) names

-- what is found of each host in what its two questions got
abbrev pub all_found : List Got → List (Result Hosts HostFault)
all_found [] = []
all_found (a ∷ []) = []
all_found (a ∷ aaaa ∷ gots) = hosts_found aaaa a ∷ all_found gots

-- Hosts were looked up at once, and each result is made of what the host's own questions got.
pub record LooksUpHosts {E C W : Type 0} (see : Stub E C W → Scene) (names : List Labels) (found : List (Result Hosts HostFault)) (old new : Stub E C W) : Type 0 where
  pub gots : List Got
  pub asked : QueriesAll see (host_questions names) gots old new
  pub made : found ≡ all_found gots
