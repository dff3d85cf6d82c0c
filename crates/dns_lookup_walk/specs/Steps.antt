-- A step of a walk: servers of one zone are asked until one tells more.
use Rattle.std.specs.Prelude.{◌≡◌, ℕ, true, false, List, [], ◌∷◌, ◌++◌, map, flat_map, take, Option, Some, None}
use Rattle.dns_lookup_words.specs.declared.manner.Ask.{Ask}
use Rattle.dns_names.specs.Name.{Labels}
use Rattle.dns_values.specs.declared.address.IpAddr.{IpAddr}
use Rattle.dns_lookup_walk.specs.Deeds.{Deed, asked, looked_up, question_at, told}
use Rattle.dns_lookup_walk.specs.Targets.{server_at}
use Rattle.dns_lookup_walk.specs.Verdicts.{fails, judge}
use Rattle.dns_lookup_walk.specs.declared.station.Station.{Station}
use Rattle.dns_lookup_walk.specs.declared.server.NameServer.{NameServer}
use Rattle.dns_lookup_walk.specs.declared.targets.Targets.{Targets}

-- a server that was asked, and what came
pub record Try : Type 0 where
  pub server : NameServer
  pub came : Option (List ℕ)

-- Servers were asked in order, each but the last failed, and the last gave this message; or each failed.
pub data AreTried (ask : Ask) (station : Station) : List NameServer → List Try → Option (List ℕ) → Type 0 where
  none_left : AreTried ask station [] [] None
  heard : (server : NameServer) (message : List ℕ) (servers : List NameServer) → fails (judge ask.name station (Some message)) ≡ false
      → AreTried ask station (server ∷ servers) (record { server = server; came = Some message } ∷ []) (Some message)
  failed : (server : NameServer) (came : Option (List ℕ)) (servers : List NameServer) (tries : List Try) (message : Option (List ℕ))
      → fails (judge ask.name station came) ≡ true → AreTried ask station servers tries message
      → AreTried ask station (server ∷ servers) (record { server = server; came = came } ∷ tries) message

-- a name that was looked up, and its addresses
pub record Host : Type 0 where
  pub name : Labels
  pub addresses : List IpAddr

abbrev pub servers_of : Host → List NameServer
servers_of host = map (server_at host.name) host.addresses

-- Where the walk was, whom it could ask, whom it asked at the addresses that it had, which names it looked up behind that, and whom it asked at their
-- addresses.
pub record Step : Type 0 where
  pub station : Station
  pub targets : Targets
  pub tries : List Try
  pub hosts : List Host
  pub later : List Try

-- The first 16 servers of which it has addresses are tried. Where each fails, the first 8 names without are looked up, and the first 16 servers that are
-- found so are tried. This message is the first that does not fail, if there is one.
pub data Hears (ask : Ask) (step : Step) (message : Option (List ℕ)) : Type 0 where
  by_glue : AreTried ask step.station (take 16 step.targets.glue) step.tries message → (m : List ℕ) → message ≡ Some m → step.hosts ≡ [] → step.later ≡ []
      → Hears ask step message
  by_names : AreTried ask step.station (take 16 step.targets.glue) step.tries None → map (λ host. host.name) step.hosts ≡ take 8 step.targets.names
      → AreTried ask step.station (take 16 (flat_map servers_of step.hosts)) step.later message → Hears ask step message

-- what is done in a step: of each try asking and telling
abbrev pub try_deeds : Ask → Station → Try → List Deed
try_deeds ask station try = asked try.server (question_at ask station) try.came ∷ told try.server try.came (judge ask.name station try.came) ∷ []

abbrev pub host_deed : Host → Deed
host_deed host = looked_up host.name host.addresses

abbrev pub step_deeds : Ask → Step → List Deed
step_deeds ask step = flat_map (try_deeds ask step.station) step.tries ++ (map host_deed step.hosts ++ flat_map (try_deeds ask step.station) step.later)
