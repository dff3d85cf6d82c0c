-- The requests of a lookup, and what is answered to them.
use Rattle.std.specs.Prelude.{◌≡◌, ℕ, ◌+◌, ◌&&◌, ◌||◌, not, Bool, true, false, if◌then◌else◌, List, [], ◌∷◌, map, Option, None, Some, Result, Ok, Err}
use Rattle.client_request.specs.Request.{Request, recorded_from, with_dnssec_ok, with_option}
use Rattle.client_request.specs.declared.error.Error.{Error}
use Rattle.client_core.specs.declared.edge.Deed.{Deed}
use Rattle.client_core.specs.declared.edge.Deed.TheVariants.{Learned}
use Rattle.client_loop.specs.Asking.{IsAnswered, Scene, StopsForNumbers, scene}
use Rattle.client_loop.specs.Turns.{after_deeds}
use Rattle.client_steps.specs.Whole.{Whole}
use Rattle.dns_lookup_pages.specs.Lacking.{lacking_in}
use Rattle.dns_lookup_pages.specs.Queries.{query_octets}
use Rattle.dns_lookup_pages.specs.declared.short.Lacking.{Lacking}
use Rattle.dns_lookup_run.specs.Worlds.{World, begun, client_for, is_message}
use Rattle.resolv_conf.specs.declared.conf.ResolvConf.{ResolvConf}
use Rattle.dns_lookup_words.specs.declared.lookup.Lookup.{Lookup}
use Rattle.dns_lookup_words.specs.declared.manner.Ask.{Ask}
use Rattle.dns_lookup_words.specs.declared.manner.Flags.{Flags}
use Rattle.dns_lookup_run.specs.declared.asking.Outcome.{Outcome}

-- the request of a message, with the flag DO, an empty option 3 (NSID, RFC 5001 2.1) and an empty option 9 (EXPIRE, RFC 7314 2) where those are asked for
abbrev pub dnssec_asked : Bool → Request → Request
dnssec_asked asked request = if asked then with_dnssec_ok true request else request

abbrev pub option_asked : (code : ℕ) → Bool → Request → Request
option_asked code asked request = if asked then with_option code [] request else request

abbrev pub request_by : Flags → (message : List ℕ) → Request
request_by flags message = option_asked 9 flags.expire (option_asked 3 flags.nsid (dnssec_asked flags.dnssec (recorded_from message)))

-- the request of an ask: its one question under its header, by its flags
abbrev pub request_for : Ask → Request
request_for ask = request_by ask.manner.flags (query_octets ask)

abbrev pub Answer : Type 0
Answer = Option (Result (List ℕ) Error)

-- why an answer has no data to write, where these alone are to be written
abbrev pub lack_at : Bool → Answer → Option Lacking
lack_at true (Some (Ok message)) = lacking_in message
lack_at true (Some (Err error)) = None
lack_at true None = None
lack_at false answer = None

abbrev pub lack_in : Ask → Answer → Option Lacking
lack_in ask answer = lack_at (ask.manner.layout.short && not (ask.manner.layout.json || ask.manner.layout.yaml)) answer

-- the first of the two
abbrev pub or_lack : Option Lacking → Option Lacking → Option Lacking
or_lack None later = later
or_lack (Some lack) later = Some lack

-- It was asked for under this number, and this was answered.
abbrev pub Gave : Ask → ℕ → Answer → (old new : Scene) → Type 0
Gave ask n answer old new = IsAnswered n 1000000 (request_for ask) old new answer

-- an outcome has a message, or none
abbrev pub Brought : Bool → Result Outcome Error → Type 0
Brought message (Ok outcome) = is_message outcome.answer ≡ message
Brought message (Err error) = ⊥

-- the same of an outcome
abbrev pub lack_of : Ask → Result Outcome Error → Option Lacking
lack_of ask (Ok outcome) = lack_in ask outcome.answer
lack_of ask (Err error) = None

-- A number would pass 64 bits while it is asked for.
abbrev pub Stopped : Ask → (old new : Scene) → Type 0
Stopped ask old new = StopsForNumbers (request_for ask) old new

-- Asks are asked for one after another, from the request of this number on, and each was answered so.
pub data AreAnswered : ℕ → List Ask → List Answer → Scene → Scene → Type 0 where
  all_asked : (n : ℕ) (s : Scene) → AreAnswered n [] [] s s
  one_asked : (n : ℕ) (ask : Ask) (asks : List Ask) (answer : Answer) (answers : List Answer) (old mid new : Scene)
      → IsAnswered n 1000000 (request_for ask) old mid answer → AreAnswered (n + 1) asks answers mid new
      → AreAnswered n (ask ∷ asks) (answer ∷ answers) old new

-- A new client for a lookup of a configuration, whose servers were learned, and nothing else was done with their edge.
pub record HasBegun (lookup : Lookup) (conf : ResolvConf) (client : Whole) (deeds deeds_after : Option (List Deed)) (polls polls_after : ℕ) : Type 0 where
  pub made : client ≡ client_for lookup conf
  pub learned : deeds_after ≡ after_deeds (map (λ server. Learned server) conf.servers) deeds
  pub polled : polls_after ≡ polls

-- A new client for a lookup, whose edge learned the servers of a configuration, was asked these, and then none. What the edge keeps of its waits is not
-- the program's.
pub record IsAskedFor (lookup : Lookup) (conf : ResolvConf) (old new : World) (asks : List Ask) (answers : List Answer) : Type 0 where
  pub left : Whole
  pub waits : Option (List ℕ)
  pub later_waits : Option (List ℕ)
  pub answered : AreAnswered 0 asks answers (begun lookup conf old waits) (scene left new.words new.deeds later_waits new.polls new.moments)
