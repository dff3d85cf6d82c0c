-- The plain machine of a balancer, over any transport below.
--
--   send ──► the servers whose burst has room, in order ──► started one after another, as Choice has it ──► result
--              └──there is none──► SERVFAIL ──► result
use Rattle.std.specs.Prelude.{ℕ, ◌||◌, Bool, false, List, [], ◌∷◌, ◌++◌, Option, Some, option_map, option_and_then, Result, Ok, Err}
use Rattle.client_request.specs.Board.{Part}
use Rattle.client_request.specs.Requests.{Requests}
use Rattle.client_request.specs.Response as response
use Rattle.client_request.specs.View.{View, Heard, Transport, answers, draws_ticket}
use Rattle.client_request.specs.declared.error.Error.{Error}
use Rattle.client_choice.specs.declared.job.ListedServer.{ListedServer}
use Rattle.client_choice.specs.declared.candidates.Candidate.{Candidate}
use Rattle.client_choice.specs.BalancerSettings.{BalancerSettings, BurstSettings}
use Rattle.client_choice.specs.Bursts.{Limit, Survey, fresh_limit, surveyed}
use Rattle.client_choice.specs.Choice as choice
use Rattle.client_choice.specs.Choice.{Choice}
use Rattle.client_choice.specs.Candidates.{in_order}
use Rattle.client_choice.specs.Redundant.{sends_past}
use Rattle.client_choice.specs.ServeFail.{serve_failed}
use Rattle.client_choice.specs.Servers as servers

-- The servers with the requests that wait for them, and the limit of each server.
pub record Parts (R U P : Type 0) : Type 0 where
  pub choice : Choice R U P
  pub limits : List Limit

-- what a step leaves of the parts and of the view
abbrev pub After : (R U P : Type 0) → Type 0
After R U P = Option (Parts R U P × View)

-- a message as the part of a board
abbrev pub part_of : Result (List ℕ) Error → Part
part_of (Ok message) = Ok (Some message)
part_of (Err error) = Err error

-- What a request gets where no server may be asked: the message that says so, or why none can be composed.
abbrev pub unserved : Result (List ℕ) Error → Part
unserved (Ok message) = part_of (serve_failed message)
unserved (Err error) = Err error

module _ {R U P : Type 0} where
  abbrev pub with_choice : Parts R U P → Option (Choice R U P × View) → After R U P
  with_choice parts after = option_map (λ x. (record parts { choice = x.0 }, x.1)) after

  -- of each server whether its transport gave up, and whether one of them did
  abbrev pub flags_below : (U → Bool) → Parts R U P → List Bool
  flags_below below parts = servers.flags below parts.choice.servers

  abbrev pub holds_below : (U → Bool) → Parts R U P → Bool
  holds_below below parts = servers.is_any (flags_below below parts)

module _ {R U P : Type 0} (requests : Requests R) (below : Transport R U P) (settings : BalancerSettings) where
  -- A request is started at these servers, in order.
  abbrev pub spreads : ℕ → R → Parts R U P → List ListedServer × View → After R U P
  spreads ticket request parts order = with_choice parts (choice.takes_on below settings.deferring ticket order.0 request parts.choice order.1)

  abbrev pub takes_at : ℕ → R → Parts R U P → View → List Candidate → After R U P
  takes_at ticket request parts v [] = Some (parts, answers ticket (unserved (requests.composed request)) v)
  takes_at ticket request parts v (c ∷ others) = spreads ticket request parts (in_order settings.slow_rt_factor (c ∷ others) v)

  -- Only servers whose burst has room are asked.
  abbrev pub takes_surveyed : ℕ → R → Parts R U P → View → Survey → After R U P
  takes_surveyed ticket request parts v survey = takes_at ticket request (record parts { limits = survey.limits }) v survey.candidates

  abbrev pub takes : R → Parts R U P → View → After R U P
  takes request parts v =
      option_and_then
      (λ w. takes_surveyed v.ticket request parts w (surveyed v.now parts.choice.servers parts.limits))
      (draws_ticket v)

module _ {R U P : Type 0} (below : Transport R U P) (settings : BalancerSettings) where
  -- The servers hear what happened.
  abbrev pub hears : Heard → Parts R U P → View → After R U P
  hears h parts v = with_choice parts (choice.hears below settings.deferring h parts.choice v)

module _ {R U P : Type 0} (below : Transport R U P) where
  -- A request is given up, where it waits.
  abbrev pub drops : ℕ → Parts R U P → View → After R U P
  drops ticket parts v = with_choice parts (choice.drops below ticket parts.choice v)

-- the whole machine: its settings and the parts; and whether it gave up
pub record Balancer (R U P : Type 0) : Type 0 where
  pub settings : BalancerSettings
  pub parts : Parts R U P
  pub failed : Bool

-- what stands for the result of a request
abbrev pub Asked : Type 0
Asked = response.Asked

module _ {R U P : Type 0} where
  abbrev pub no_parts : Parts R U P
  no_parts = record { choice = choice.empty; limits = [] }

  abbrev pub started : BalancerSettings → Balancer R U P
  started settings = record { settings = settings; parts = no_parts; failed = false }

  -- a server more, behind the others
  abbrev pub joined : BurstSettings → U → Parts R U P → Parts R U P
  joined bursts upstream parts = record {
    choice = choice.with_server upstream parts.choice;
    limits = parts.limits ++ fresh_limit bursts ∷ [];
  }

  abbrev pub holds_failed : (U → Bool) → Balancer R U P → Bool
  holds_failed below b = b.failed || holds_below below b.parts

  abbrev pub with_parts : Balancer R U P → After R U P → Option (Balancer R U P × View)
  with_parts b after = option_map (λ x. (record b { parts = x.0 }, x.1)) after

  abbrev pub transport : Requests R → Transport R U P → Transport R (Balancer R U P) Asked
  transport requests below = record {
    send = λ request b v. with_parts b (takes requests below b.settings request b.parts v);
    step = λ h b v. with_parts b (hears below b.settings h b.parts v);
    cancel = λ asked b v. with_parts b (drops below asked.ticket b.parts v);
    response = λ request b v. record { ticket = v.ticket; given = false };
  }

  -- A request goes to the server of an identifier, past the balancer. There is none where none was added under it.
  abbrev pub with_sent : Balancer R U P → (Option P × Choice R U P) × View → (Option P × Balancer R U P) × View
  with_sent b x = ((x.0.0, record b { parts = record b.parts { choice = x.0.1 } }), x.1)

  abbrev pub sends_on : Transport R U P → ℕ → R → Balancer R U P → View → Option ((Option P × Balancer R U P) × View)
  sends_on below id request b v = option_map (with_sent b) (sends_past below id request b.parts.choice v)
