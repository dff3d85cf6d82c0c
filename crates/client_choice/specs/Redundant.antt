-- The plain machine of a choice by estimate, over any transport.
use Rattle.std.specs.Prelude.{ℕ, ◌+◌, ◌-◌, ◌*◌, ◌/◌, ◌^◌, ◌||◌, nat_lt, nat_le, Bool, false, if◌then◌else◌, List, [], ◌∷◌, ◌++◌, length, Option, Some, None, option_map, option_and_then, Err, slice_get}
use Rattle.std.specs.List.{insert, remove, position}
use Rattle.client_request.specs.View.{View, Transport, word, drawn, answers, draws_ticket}
use Rattle.client_request.specs.Response as response
use Rattle.client_request.specs.Response.{IsRefusal}
use Rattle.client_request.specs.declared.error.Error.{Error}
use Rattle.client_request.specs.declared.error.Error.TheVariants as errors
use Rattle.client_settings.specs.Settings.{RedundantSettings}
use Rattle.client_choice.specs.Choice.{Choice, After, empty, takes_on, hears, drops}
use Rattle.client_choice.specs.Servers as of_servers
use Rattle.client_choice.specs.Servers.{Server}
use Rattle.client_choice.specs.Stats.{estimate}
use Rattle.client_choice.specs.declared.job.ListedServer.{ListedServer}

-- ---- which servers a request is to be started at, in order

abbrev pub entry_of : {U : Type 0} → ℕ → Server U → ListedServer
entry_of index s = record { server = index; estimate = estimate s.stats }

-- the place of the first entry of which more is expected
abbrev pub first_above : (estimate : ℕ) → List ListedServer → Option ℕ
first_above estimate entries = position (λ x. nat_lt estimate x.estimate) entries

-- the entries with one more, which stands before that place
abbrev pub lined_up_at : ListedServer → List ListedServer → Option ℕ → List ListedServer
lined_up_at e entries None = entries ++ e ∷ []
lined_up_at e entries (Some place) = insert entries place e

abbrev pub lined_up : ListedServer → List ListedServer → List ListedServer
lined_up e entries = lined_up_at e entries (first_above e.estimate entries)

-- Servers by estimate, ties in the order in which they were added.
abbrev pub all_lined_up : {U : Type 0} → ℕ → List (Server U) → List ListedServer → List ListedServer
all_lined_up index [] entries = entries
all_lined_up index (s ∷ more) entries = all_lined_up (index + 1) more (lined_up (entry_of index s) entries)

abbrev pub by_estimate : {U : Type 0} → List (Server U) → List ListedServer
by_estimate servers = all_lined_up 0 servers []

-- Each server with its estimate, in the order in which they were added: what is sorted.
abbrev pub in_order_added : {U : Type 0} → ℕ → List (Server U) → List ListedServer
in_order_added index [] = []
in_order_added index (s ∷ more) = entry_of index s ∷ in_order_added (index + 1) more

-- ---- probes

-- One word in twenty asks for a probe; the next one says of which entry behind the first.
abbrev pub asks_for_probe : ℕ → Bool
asks_for_probe word = nat_lt (word * 20) (2 ^ 64)

abbrev pub probed_place : (count word : ℕ) → ℕ
probed_place count word = 1 + word * (count - 1) / 2 ^ 64

-- which of so many entries is probed, and what is left of the words; of one alone none is, and no word is drawn
abbrev pub probe : ℕ → View → Option ℕ × View
probe count v =
    if nat_lt 1 count then (if asks_for_probe (word v) then (Some (probed_place count (word (drawn v))), drawn (drawn v)) else (None, drawn v)) else (None, v)

-- An entry goes first, with an estimate.
abbrev pub put_first : ℕ → Option ListedServer → List ListedServer → List ListedServer
put_first estimate None entries = entries
put_first estimate (Some e) entries = record e { estimate = estimate } ∷ entries

-- the entry at a place goes first
abbrev pub promoted : (place estimate : ℕ) → List ListedServer → List ListedServer
promoted place estimate entries = put_first estimate (slice_get entries place) (if nat_lt place (length entries) then remove entries place else entries)

-- the entry that is probed goes first, with the least estimate, which is that of the first
abbrev pub with_probe : Option ℕ → ListedServer → List ListedServer → List ListedServer
with_probe None first entries = entries
with_probe (Some place) first entries = promoted place first.estimate entries

-- ---- the machine

module _ {R U P : Type 0} (settings : RedundantSettings) (below : Transport R U P) where
  -- A request is taken on: where there is no server, it gets that error.
  abbrev pub takes_listed : ℕ → R → List ListedServer → Choice R U P → View → After R U P
  takes_listed ticket request [] c v = Some (c, answers ticket (Err errors.NoTransportAvailable) v)
  takes_listed ticket request (e ∷ more) c v =
      takes_on below settings ticket (with_probe (probe (length (e ∷ more)) v).0 e (e ∷ more)) request c (probe (length (e ∷ more)) v).1

  abbrev pub takes : R → Choice R U P → View → After R U P
  takes request c v = option_and_then (takes_listed v.ticket request (by_estimate c.servers) c) (draws_ticket v)

-- the whole machine: its settings, its servers and requests; and whether it gave up
pub record Redundant (R U P : Type 0) : Type 0 where
  pub settings : RedundantSettings
  pub choice : Choice R U P
  pub failed : Bool

-- what stands for the result of a request
abbrev pub Asked : Type 0
Asked = response.Asked

-- the identifier of the first server that is added; the others follow
abbrev pub first_identifier : ℕ
first_identifier = 10

-- the place of the server of an identifier, if it is one
abbrev pub index_of : ℕ → Option ℕ
index_of id = if nat_le first_identifier id then Some (id - first_identifier) else None

module _ {R U P : Type 0} where
  abbrev pub started : RedundantSettings → Redundant R U P
  started settings = record { settings = settings; choice = empty; failed = false }

  abbrev pub holds_failed : (U → Bool) → Redundant R U P → Bool
  holds_failed has_failed r = r.failed || of_servers.holds_failed has_failed r.choice.servers

  abbrev pub with_choice : Redundant R U P → After R U P → Option (Redundant R U P × View)
  with_choice r after = option_map (λ x. (record r { choice = x.0 }, x.1)) after

  abbrev pub transport : Transport R U P → Transport R (Redundant R U P) Asked
  transport below = record {
    send = λ request r v. with_choice r (takes r.settings below request r.choice v);
    step = λ h r v. with_choice r (hears below r.settings h r.choice v);
    cancel = λ asked r v. with_choice r (drops below asked.ticket r.choice v);
    response = λ request r v. record { ticket = v.ticket; given = false };
  }

  -- A request goes to the server of an identifier, past the choice. There is none where none was added under it.
  abbrev pub with_servers : Choice R U P → (Option P × List (Server U)) × View → (Option P × Choice R U P) × View
  with_servers c x = ((x.0.0, record c { servers = x.0.1 }), x.1)

  abbrev pub sends_to : Transport R U P → R → Choice R U P → View → Option ℕ → Option ((Option P × Choice R U P) × View)
  sends_to below request c v None = Some ((None, c), v)
  sends_to below request c v (Some index) = option_map (with_servers c) (of_servers.sends_at below index request c.servers v)

  abbrev pub sends_past : Transport R U P → ℕ → R → Choice R U P → View → Option ((Option P × Choice R U P) × View)
  sends_past below id request c v = sends_to below request c v (index_of id)

  abbrev pub sends_on : Transport R U P → ℕ → R → Redundant R U P → View → Option ((Option P × Redundant R U P) × View)
  sends_on below id request r v = option_map (λ x. ((x.0.0, record r { choice = x.0.1 }), x.1)) (sends_past below id request r.choice v)

-- whether a server was added under an identifier
abbrev pub is_known_at : {U : Type 0} → List (Server U) → Option ℕ → Bool
is_known_at servers None = false
is_known_at servers (Some index) = nat_lt index (length servers)

abbrev pub is_known : {U : Type 0} → ℕ → List (Server U) → Bool
is_known id servers = is_known_at servers (index_of id)

-- why no request goes past the choice
abbrev pub IsRefusalOrUnknown : Error → Type 0
IsRefusalOrUnknown errors.RedundantTransportNotFound = Unit {0}
IsRefusalOrUnknown error = IsRefusal error
