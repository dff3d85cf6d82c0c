-- What asking the servers of a step does.
use Rattle.std.specs.Prelude.{◌≡◌, ℕ, false, if◌then◌else◌, List, ◌++◌, map, flat_map, Option, Some, None}
use Rattle.dns_lookup_words.specs.declared.manner.Ask.{Ask}
use Rattle.dns_names.specs.Name.{Labels}
use Rattle.dns_lookup_walk.specs.Deeds.{Deed, after_deeds}
use Rattle.dns_lookup_walk.specs.Steps.{AreTried, Hears, Host, Step, Try, host_deed, servers_of, step_deeds, try_deeds}
use Rattle.dns_lookup_walk.specs.Verdicts.{fails, judge}
use Rattle.dns_lookup_walk.specs.declared.station.Station.{Station}
use Rattle.dns_lookup_walk.specs.declared.server.NameServer.{NameServer}
use Rattle.dns_lookup_walk.specs.declared.targets.Targets.{Targets}
use Rattle.dns_lookup_walk.specs.declared.trying.UsefulAnswer.{UsefulAnswer}
use Rattle.dns_lookup_walk.specs.declared.verdict.Verdict.{Verdict}

-- the message that was heard, if one was
abbrev pub message_of : Option UsefulAnswer → Option (List ℕ)
message_of None = None
message_of (Some heard) = Some heard.message

-- its verdict is what it means, and does not fail
abbrev pub IsJudged : (name : Labels) → Station → Option UsefulAnswer → Type 0
IsJudged name station None = Unit {0}
IsJudged name station (Some heard) = (heard.verdict ≡ judge name station (Some heard.message)) × (fails heard.verdict ≡ false)

-- what came of a server is heard with what it means, if it does not fail
abbrev pub heard_of : Option (List ℕ) → Verdict → Option UsefulAnswer
heard_of None verdict = None
heard_of (Some message) verdict = if fails verdict then None else Some (record { message = message; verdict = verdict })

-- A server was asked, and nothing else was done.
pub record DidAsk {W : Type 0} (deeds : W → Option (List Deed)) (ask : Ask) (station : Station) (server : NameServer) (heard : Option UsefulAnswer) (old new : W) : Type 0 where
  pub came : Option (List ℕ)
  pub is_heard : heard ≡ heard_of came (judge ask.name station came)
  pub done : deeds new ≡ after_deeds (try_deeds ask station (record { server = server; came = came })) (deeds old)

-- Servers were asked until one did not fail, and nothing else was done.
pub record DidTry {W : Type 0} (deeds : W → Option (List Deed)) (ask : Ask) (station : Station) (servers : List NameServer) (heard : Option UsefulAnswer) (old new : W) : Type 0 where
  pub tries : List Try
  pub are_tried : AreTried ask station servers tries (message_of heard)
  pub is_judged : IsJudged ask.name station heard
  pub done : deeds new ≡ after_deeds (flat_map (try_deeds ask station) tries) (deeds old)

-- Names were looked up, and these servers were found.
pub record DidLookUp {W : Type 0} (deeds : W → Option (List Deed)) (names : List Labels) (before after : List NameServer) (old new : W) : Type 0 where
  pub hosts : List Host
  pub are_named : map (λ host. host.name) hosts ≡ names
  pub found : after ≡ before ++ flat_map servers_of hosts
  pub done : deeds new ≡ after_deeds (map host_deed hosts) (deeds old)

-- A step was made, and nothing else was done.
pub record DidStep {W : Type 0} (deeds : W → Option (List Deed)) (ask : Ask) (station : Station) (targets : Targets) (heard : Option UsefulAnswer) (old new : W) : Type 0 where
  pub step : Step
  pub at_station : step.station ≡ station
  pub has_targets : step.targets ≡ targets
  pub hears : Hears ask step (message_of heard)
  pub is_judged : IsJudged ask.name station heard
  pub done : deeds new ≡ after_deeds (step_deeds ask step) (deeds old)
