-- The requests of a choice among servers, over any transport.
--
--   taken on ──► the next server is started ──its result is put off, or its estimate passed──► the next one ──► ..
--                      │                                                                         │
--                      └──any other result: each server that was started is judged,              └──all gave results:
--                         and the others give the request up──────────────► result                 the first message, else
--                                                                                                  the first error──► result
use Rattle.std.specs.Prelude.{ℕ, zero, suc, ◌+◌, ◌-◌, ◌==◌, ◌&&◌, ◌||◌, Bool, true, false, if◌then◌else◌, List, [], ◌∷◌, ◌++◌, length, set, Option, Some, None, option_map, option_and_then, Ok, Err, is_ok, is_none, slice_get}
use Rattle.std.specs.List.{position, list_all}
use Rattle.dns_base.specs.OptRecord.{opt_rcode}
use Rattle.client_request.specs.Board.{Part}
use Rattle.client_request.specs.Numbered.{puts, frees, entry_at}
use Rattle.client_request.specs.View.{View, Heard, Transport, told, more_at, due_timer, answers, sets_timer, drops_timer}
use Rattle.client_request.specs.declared.board.Posted.{Posted}
use Rattle.client_settings.specs.Settings.{RedundantSettings}
use Rattle.client_choice.specs.Servers.{Server, added, for_request, starts_at, hears_at, drops_at, judges, owner, disowned}
use Rattle.client_choice.specs.declared.job.ListedServer.{ListedServer}
use Rattle.client_choice.specs.declared.job.Started.{Started}
use Rattle.client_choice.specs.declared.servers.Reply.{Reply}
use Rattle.client_choice.specs.declared.servers.Reply.TheVariants.{Later, Now}

-- A request that waits: its number, the servers that are still to be started and those that were, both in order; the timer that starts the next one;
-- and of the results that were put off the one to give where no better one comes.
pub record ChoiceJob (R P : Type 0) : Type 0 where
  pub number : ℕ
  pub request : R
  pub left : List ListedServer
  pub started : List (Started P)
  pub timer : Option ℕ
  pub deferred : Option Part

-- The servers; the requests by ticket, and the ticket of each timer.
pub record Choice (R U P : Type 0) : Type 0 where
  pub servers : List (Server U)
  pub jobs : List (ℕ × ChoiceJob R P)
  pub timers : List (ℕ × ℕ)

-- what a step leaves of the choice and of the view
abbrev pub After : (R U P : Type 0) → Type 0
After R U P = Option (Choice R U P × View)

-- what the start of a server leaves: its result, if it came at once, the request, the choice, and the view
abbrev pub Begun : (R U P : Type 0) → Type 0
Begun R U P = Option (((Option Part × ChoiceJob R P) × Choice R U P) × View)

-- A result is put off: a message by its code where the settings say so (RFC 1035 4.1.1: 5 is REFUSED, 2 SERVFAIL), and an error.
abbrev pub is_deferred : RedundantSettings → Part → Bool
is_deferred s (Ok (Some message)) = (s.defer_refused && (opt_rcode message == 5)) || (s.defer_servfail && (opt_rcode message == 2))
is_deferred s (Ok None) = false
is_deferred s (Err error) = s.defer_transport_error

-- A message is better than an error, and of two of a kind the first.
abbrev pub is_better : Option Part → Part → Bool
is_better None part = true
is_better (Some (Ok message)) part = false
is_better (Some (Err error)) part = is_ok part

-- a timer is no more, if there was one
abbrev pub unset : Option ℕ → List (ℕ × ℕ) → List (ℕ × ℕ)
unset None timers = timers
unset (Some timer) timers = frees timer timers

abbrev pub stopped : Option ℕ → View → View
stopped None v = v
stopped (Some timer) v = drops_timer timer v

-- the result that was put off is given
abbrev pub gives : Option Part → ℕ → View → View
gives None ticket v = v
gives (Some part) ticket v = answers ticket part v

-- what stands for the result of a request that was started; and its result
abbrev pub parted : {P : Type 0} → Option (Reply P) → Option P × Option Part
parted None = (None, None)
parted (Some (Later response)) = (Some response, None)
parted (Some (Now part)) = (None, Some part)

module _ {P : Type 0} where
  -- the place of a server among those that were started
  abbrev pub place_of : ℕ → List (Started P) → Option ℕ
  place_of server started = position (λ s. s.server == server) started

  abbrev pub silenced_found : ℕ → List (Started P) → Option (Started P) → List (Started P)
  silenced_found place started None = started
  silenced_found place started (Some s) = set started place (record s { response = None })

  abbrev pub silenced_at : List (Started P) → Option ℕ → List (Started P)
  silenced_at started None = started
  silenced_at started (Some place) = silenced_found place started (slice_get started place)

  -- nothing more comes from a server
  abbrev pub silenced : ℕ → List (Started P) → List (Started P)
  silenced server started = silenced_at started (place_of server started)

  -- whether each server that was started gave a result
  abbrev pub all_gave : List (Started P) → Bool
  all_gave started = list_all (λ s. is_none s.response) started

  abbrev pub is_of : ℕ → Option (Started P) → Bool
  is_of server None = false
  is_of server (Some s) = s.server == server

module _ {R P : Type 0} where
  abbrev pub fresh_job : ℕ → R → List ListedServer → ChoiceJob R P
  fresh_job number request entries = record { number = number; request = request; left = entries; started = []; timer = None; deferred = None }

  abbrev pub put_off : Part → ChoiceJob R P → ChoiceJob R P
  put_off part job = if is_better job.deferred part then record job { deferred = Some part } else job

  abbrev pub noted : (server since lower : ℕ) → Option P → ChoiceJob R P → ChoiceJob R P
  noted server since lower response job =
      record job { started = job.started ++ record { server = server; since = since; lower = lower; response = response } ∷ [] }

  abbrev pub settled : ℕ → ChoiceJob R P → ChoiceJob R P
  settled server job = record job { started = silenced server job.started }

  -- whether a server is the one that was started last
  abbrev pub is_last : ℕ → ChoiceJob R P → Bool
  is_last server job = is_of server (slice_get job.started (length job.started - 1))

  -- whether each server was started and gave a result
  abbrev pub is_over : ChoiceJob R P → Bool
  is_over job = (length job.left == 0) && all_gave job.started

  abbrev pub disarmed : ChoiceJob R P → ChoiceJob R P
  disarmed job = record job { timer = None }

  -- The timer is set that starts the next server, if there is one.
  abbrev pub arms : (ticket due : ℕ) → ChoiceJob R P → List (ℕ × ℕ) → View → Option ((ChoiceJob R P × List (ℕ × ℕ)) × View)
  arms ticket due job timers v =
      if length job.left == 0 then Some ((job, timers), v)
      else option_map (λ w. ((record job { timer = Some v.timers.next }, puts v.timers.next ticket timers), w)) (sets_timer due v)

-- Each server that was started is judged, in order.
abbrev pub judges_each : {U P : Type 0} → (giver now : ℕ) → List (Started P) → List (Server U) → List (Server U)
judges_each giver now [] servers = servers
judges_each giver now (s ∷ more) servers = judges_each giver now more (judges s.server (s.server == giver) (now - s.since) servers)

module _ {R U P : Type 0} where
  abbrev pub empty : Choice R U P
  empty = record { servers = []; jobs = []; timers = [] }

  abbrev pub with_server : U → Choice R U P → Choice R U P
  with_server upstream c = record c { servers = c.servers ++ added upstream ∷ [] }

  abbrev pub keeps : ℕ → ChoiceJob R P → Choice R U P → Choice R U P
  keeps ticket job c = record c { jobs = puts ticket job c.jobs }

  abbrev pub unarmed : Option ℕ → Choice R U P → Choice R U P
  unarmed timer c = record c { timers = unset timer c.timers }

  abbrev pub without_owner : (server lower : ℕ) → Choice R U P → Choice R U P
  without_owner server lower c = record c { servers = disowned server lower c.servers }

  abbrev pub judged : ℕ → ChoiceJob R P → ℕ → Choice R U P → Choice R U P
  judged giver job now c = record c { servers = judges_each giver now job.started c.servers }

  -- A request waits on, unless no result is to come.
  abbrev pub rests : ℕ → ChoiceJob R P → Choice R U P → View → After R U P
  rests ticket job c v = if is_over job then Some (c, gives job.deferred ticket v) else Some (keeps ticket job c, v)

module _ {R U P : Type 0} (below : Transport R U P) where
  -- Each server that gave no result yet gives the request up, in order.
  abbrev pub drops_response : Started P → List (Server U) → View → Option P → Option (List (Server U) × View)
  drops_response s servers v None = Some (servers, v)
  drops_response s servers v (Some response) = drops_at below s.server s.lower response servers v

  abbrev pub drops_each : List (Started P) → List (Server U) → View → Option (List (Server U) × View)
  drops_each [] servers v = Some (servers, v)
  drops_each (s ∷ more) servers v = option_and_then (λ x. drops_each more x.0 x.1) (drops_response s servers v s.response)

  abbrev pub gives_up : List (Started P) → Choice R U P → View → After R U P
  gives_up started c v = option_map (λ x. (record c { servers = x.0 }, x.1)) (drops_each started c.servers v)

  -- A server gave the result: each that was started is judged, and the others give the request up.
  abbrev pub ends : (ticket giver : ℕ) → Part → ChoiceJob R P → Choice R U P → View → After R U P
  ends ticket giver part job c v = gives_up job.started (unarmed job.timer (judged giver job v.now c)) (answers ticket part (stopped job.timer v))

  -- A server is started. When its estimate has passed, the next one is.
  abbrev pub begun_at : Option Part → Choice R U P → List (Server U) → (ChoiceJob R P × List (ℕ × ℕ)) × View → ((Option Part × ChoiceJob R P) × Choice R U P) × View
  begun_at part c servers y = (((part, y.0.0), record c { servers = servers; timers = y.0.1 }), y.1)

  abbrev pub begun : ℕ → ListedServer → ChoiceJob R P → Choice R U P → View → (Option (Reply P) × List (Server U)) × View → Begun R U P
  begun ticket e job c v x =
      option_map
      (begun_at (parted x.0.0).1 c x.0.1)
      (arms ticket (v.now + e.estimate) (noted e.server v.now v.ticket (parted x.0.0).0 job) c.timers x.1)

  abbrev pub begins : ℕ → ListedServer → ChoiceJob R P → Choice R U P → View → Begun R U P
  begins ticket e job c v = option_and_then (begun ticket e job c v) (starts_at below e.server ticket job.request c.servers (for_request job.number v))

  module _ (settings : RedundantSettings) where
    -- A server that was started gave its result at once, or not.
    abbrev pub goes_on : (ticket server : ℕ) → (ChoiceJob R P → Choice R U P → View → After R U P) → ChoiceJob R P → Choice R U P → View → Option Part → After R U P
    goes_on ticket server next job c v None = Some (keeps ticket job c, v)
    goes_on ticket server next job c v (Some part) =
        if is_deferred settings part then next (put_off part (disarmed job)) (unarmed job.timer c) (stopped job.timer v)
        else ends ticket server part job c v

    -- The servers that are left are started in order, up to the first whose result is not put off at once.
    abbrev pub runs : ℕ → List ListedServer → ChoiceJob R P → Choice R U P → View → After R U P
    runs ticket [] job c v = rests ticket job c v
    runs ticket (e ∷ es) job c v =
        option_and_then
        (λ x. goes_on ticket e.server (runs ticket es) x.0.0.1 x.0.1 x.1 x.0.0.0)
        (begins ticket e (record job { left = es }) c v)

    -- A server gave its result for a request, which is in no table then.
    abbrev pub puts_off : (ticket server : ℕ) → ChoiceJob R P → Choice R U P → View → After R U P
    puts_off ticket server job c v =
        if is_last server job then runs ticket job.left (disarmed job) (unarmed job.timer c) (stopped job.timer v)
        else rests ticket job c v

    abbrev pub gets : (ticket server : ℕ) → Part → ChoiceJob R P → Choice R U P → View → After R U P
    gets ticket server part job c v =
        if is_deferred settings part then puts_off ticket server (put_off part job) c v
        else ends ticket server part job c v

    abbrev pub settles_job : (ticket server : ℕ) → Part → Choice R U P → View → Option (ChoiceJob R P) → After R U P
    settles_job ticket server part c v None = Some (c, v)
    settles_job ticket server part c v (Some job) = gets ticket server part (settled server job) (record c { jobs = frees ticket c.jobs }) v

    -- What a server posted is the result of the request that waits under that ticket; else it is handed on as it is.
    abbrev pub settles_owner : ℕ → Posted → Choice R U P → View → Option ℕ → After R U P
    settles_owner server p c v None = Some (c, answers p.ticket p.part v)
    settles_owner server p c v (Some ticket) = settles_job ticket server p.part c v (entry_at ticket c.jobs)

    abbrev pub settles : ℕ → Posted → Choice R U P → View → After R U P
    settles server p c v = settles_owner server p (without_owner server p.ticket c) v (owner server p.ticket c.servers)

    abbrev pub settles_all : ℕ → List Posted → Choice R U P → View → After R U P
    settles_all server [] c v = Some (c, v)
    settles_all server (p ∷ more) c v = option_and_then (λ x. settles_all server more x.0 x.1) (settles server p c v)

    -- The servers hear a signal one after another, and what each posted is settled before the next one hears.
    abbrev pub hears_one : ℕ → Heard → Choice R U P → View → After R U P
    hears_one server h c v =
        option_and_then (λ x. settles_all server x.0.0 (record c { servers = x.0.1 }) x.1) (hears_at below server h c.servers v)

    abbrev pub hears_some : (server count : ℕ) → Heard → Choice R U P → View → After R U P
    hears_some server zero h c v = Some (c, v)
    hears_some server (suc count) h c v = option_and_then (λ x. hears_some (server + 1) count h x.0 x.1) (hears_one server h c v)

    abbrev pub hears_all : Heard → Choice R U P → View → After R U P
    hears_all h c v = hears_some 0 (length c.servers) h c v

    -- An estimate has passed: the next server is started.
    abbrev pub fires : ℕ → Choice R U P → View → Option (ChoiceJob R P) → After R U P
    fires ticket c v None = Some (c, v)
    fires ticket c v (Some job) = runs ticket job.left (disarmed job) (record c { jobs = frees ticket c.jobs }) v

    abbrev pub fires_at : ℕ → Choice R U P → View → After R U P
    fires_at ticket c v = fires ticket c v (entry_at ticket c.jobs)

    abbrev pub due_at : ℕ → Choice R U P → View → Option ℕ → After R U P
    due_at timer c v None = hears_all (due_timer timer) c v
    due_at timer c v (Some ticket) = fires_at ticket (record c { timers = frees timer c.timers }) v

    abbrev pub due : ℕ → Choice R U P → View → After R U P
    due timer c v = due_at timer c v (entry_at timer c.timers)

    abbrev pub hears : Heard → Choice R U P → View → After R U P
    hears (told what) c v = hears_all (told what) c v
    hears (more_at place) c v = hears_all (more_at place) c v
    hears (due_timer timer) c v = due timer c v

    -- A request is taken on, with the servers that it is to be started at, in order.
    abbrev pub takes_on : ℕ → List ListedServer → R → Choice R U P → View → After R U P
    takes_on ticket entries request c v = runs ticket entries (fresh_job v.request request entries) c v

  -- A request is given up, where it waits.
  abbrev pub drops_job : ℕ → Choice R U P → View → Option (ChoiceJob R P) → After R U P
  drops_job ticket c v None = Some (c, v)
  drops_job ticket c v (Some job) =
      gives_up job.started (record c { jobs = frees ticket c.jobs; timers = unset job.timer c.timers }) (stopped job.timer v)

  abbrev pub drops : ℕ → Choice R U P → View → After R U P
  drops ticket c v = drops_job ticket c v (entry_at ticket c.jobs)
