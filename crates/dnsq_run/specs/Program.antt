-- What the program writes for an input.
use Rattle.std.specs.List.{flat_map}
use Rattle.std.specs.Prelude.{◌≡◌, ◌⊎◌, ◌<◌, ◌≤◌, ℕ, Bool, List, [], ◌∷◌, ◌++◌, length, Option, Some, None, IfSome, Ok, false, codes}
use Rattle.dns_values.specs.Sink.{with_octets}
use Rattle.client_request.specs.Words.{listed}
use Rattle.client_request.specs.declared.event.Event.{Event}
use Rattle.client_request.specs.declared.event.Row.{Row}
use Rattle.client_steps.specs.Headline.{conf_with, settings_of}
use Rattle.client_steps.specs.Whole.{plain_trace_with}
use Rattle.client_cache.specs.Plain.{room_of}
use Rattle.client_replay.specs.Replayed.{IsReplayWith}
use Rattle.client_request.specs.Composed.{composed}
use Rattle.right_trace.specs.Hit.{AllHit}
use Rattle.right_trace.specs.Right.{Right}
use Rattle.right_trace.specs.StaleServed.{AllServeStale}
use Rattle.right_trace.specs.Timely.{Timely}
use Rattle.right_trace.specs.Trace.{Transports}
use Rattle.right_settings.specs.Given.{AreGiven}
use Rattle.dns_script.specs.ScriptReading.{IsScript, RefusesLine}
use Rattle.dns_script.specs.TraceText.{first_line, have_stale, row_text, trace_text_of}
use Rattle.dns_script.specs.declared.script.Script.{Script}
use Rattle.resolv_conf.specs.Final.{finalized}
use Rattle.resolv_conf.specs.Parse.{ParseAnswers}
use Rattle.resolv_conf.specs.Show.{conf_text}
use Rattle.resolv_conf.specs.declared.conf.ResolvConf.{ResolvConf}
use Rattle.command_parts.specs.Conf.{IsRefusedFor, RefusesConfLine, no_conf}
use Rattle.command_parts.specs.Ends.{IsBegun, IsSaid}
use Rattle.dnsq_run.specs.declared.query_words.Query.{Query}
use Rattle.dnsq_run.specs.declared.usage.Command.{Command}
use Rattle.dnsq_run.specs.declared.usage.Command.TheVariants.{Replay, Conf}

-- the events of the first lane
abbrev pub first_lane : List (List Event) → List Event
first_lane [] = []
first_lane (events ∷ lanes) = events

-- the rows of a script: the plain trace of its events with its settings, with its words and 0 past their end; none where a number would pass 64 bits
abbrev pub rows_of : Script → Option (List Row)
rows_of script = plain_trace_with script.transports script.redundant script.cache script.conf (listed script.words) (first_lane script.lanes)

-- these rows are what a replay of the script makes
abbrev pub IsPlayed : Script → List Row → Type 0
IsPlayed script rows = IsReplayWith script.transports script.redundant script.cache script.conf (listed script.words) (first_lane script.lanes) rows

-- These octets are the text of some rows without its last line, begun before it was known whether a reply is stale, and whether one is.
pub record IsTextOf (text : List ℕ) (stale : Bool) (rows : List Row) : Type 0 where
  pub octets : text ≡ first_line false ++ flat_map row_text rows
  pub told : stale ≡ have_stale rows

-- The settings of transports of a script are those of the configuration.
abbrev pub AreSet : Script → Transports → Type 0
AreSet script t = AreGiven (conf_with t script.conf) script.transports

-- These octets are the text of the plain trace of a script, which is right and timely, gives what is kept, and serves what has expired, by its settings of transports.
pub record IsTold (script : Script) (out : List ℕ) : Type 0 where
  pub rows : List Row
  pub plain : rows_of script ≡ Some rows
  pub right : (t : Transports) → AreSet script t → Right (conf_with t script.conf) (settings_of script.redundant script.cache) rows
  pub timely : (t : Transports) → AreSet script t → Timely (conf_with t script.conf) rows
  pub hits : (t : Transports) → AreSet script t → AllHit (conf_with t script.conf) (settings_of script.redundant script.cache) composed (room_of script.cache) [] rows
  pub stale : (t : Transports) → AreSet script t → AllServeStale (conf_with t script.conf) (settings_of script.redundant script.cache) (room_of script.cache) [] rows
  pub says : out ≡ trace_text_of rows

-- The text is a script, not too long, and these octets are the text of its plain trace.
pub record IsReplayed (text out : List ℕ) : Type 0 where
  pub fits : length text ≤ 16777216
  pub script : Script
  pub is_script : IsScript false text script
  pub told : IsTold script out

-- The text is a configuration, and these octets are the printing of what it says, finalized.
pub record IsConfigured (text out : List ℕ) : Type 0 where
  pub conf : ResolvConf
  pub parses : ParseAnswers text no_conf (Ok tt) conf
  pub says : out ≡ conf_text (finalized conf)

-- what a command makes of its input
abbrev pub IsOutput : Command → (text out : List ℕ) → Type 0
IsOutput Replay text out = IsReplayed text out
IsOutput Conf text out = IsConfigured text out

-- the text is a script, or a configuration
abbrev pub IsInput : Command → (text : List ℕ) → Type 0
IsInput Replay text = (script : Script) × IsScript false text script
IsInput Conf text = (conf : ResolvConf) × ParseAnswers text no_conf (Ok tt) conf

-- The text is an input of the command, and not too long.
pub record IsTaken (command : Command) (text : List ℕ) : Type 0 where
  pub reads : IsInput command text
  pub fits : length text ≤ 16777216

abbrev pub RefusesLineOf : Command → (text : List ℕ) → ℕ → Type 0
RefusesLineOf Replay text n = RefusesLine false text n
RefusesLineOf Conf text n = RefusesConfLine text n

-- The text is not taken, and this line says why.
abbrev pub IsRefused : Command → (text line : List ℕ) → Type 0
IsRefused command text line = IsRefusedFor (RefusesLineOf command text) text line

-- The text is a script, not too long, in whose replay a number would pass 64 bits.
pub record StopsForNumbers (command : Command) (text : List ℕ) : Type 0 where
  pub replays : command ≡ Replay
  pub fits : length text ≤ 16777216
  pub script : Script
  pub is_script : IsScript false text script
  pub stops : rows_of script ≡ None

-- The output of the text is written whole.
pub record IsDelivered (command : Command) (text : List ℕ) (before after : Option (List ℕ)) : Type 0 where
  pub out : List ℕ
  pub output : IsOutput command text out
  pub written : after ≡ with_octets out before

-- This line says why the text is refused, and it is written whole, or the first of it, and then the sink's count of faults rose.
pub record RefusalIsSaid (command : Command) (text : List ℕ) (before after : Option (List ℕ)) (faults faults_after : ℕ) : Type 0 where
  pub line : List ℕ
  pub refusal : IsRefused command text line
  pub said : IsSaid line before after faults faults_after

abbrev pub usage_line : List ℕ
usage_line = codes "usage: dnsq replay|conf|gen N|many|query NAME TYPE [--port P]\n"

abbrev pub numbers_line : List ℕ
numbers_line = codes "numbers used\n"

-- what is written for a text: its output, or the line that tells why there is none
pub data IsSayable (command : Command) (text out : List ℕ) : Type 0 where
  is_output : IsOutput command text out → IsSayable command text out
  is_refusal : IsRefused command text out → IsSayable command text out
  stops : StopsForNumbers command text → out ≡ numbers_line → IsSayable command text out

-- The output of the text is written, or the first of it.
pub record IsCut (command : Command) (text : List ℕ) (before after : Option (List ℕ)) : Type 0 where
  pub out : List ℕ
  pub output : IsOutput command text out
  pub begun : IsBegun out before after

-- What is written for the text is written, or the first of it.
pub record IsLeft (command : Command) (text : List ℕ) (before after : Option (List ℕ)) : Type 0 where
  pub out : List ℕ
  pub sayable : IsSayable command text out
  pub begun : IsBegun out before after

-- What memory runs out of: of the words' line, where they are no command, no query and no count, or of what is due for the text, nothing or
-- the first is written. Of a query and of a count that is said elsewhere.
abbrev pub RanOut : Option Command → Option Query → (count : Option ℕ) → (told before after : Option (List ℕ)) → Type 0
RanOut None None None told before after = (after ≡ before) ⊎ IsBegun usage_line before after
RanOut None None (Some n) told before after = Unit {0}
RanOut None (Some query) count told before after = Unit {0}
RanOut (Some command) query count told before after = (after ≡ before) ⊎ IfSome told (λ text. IsLeft command text before after)

-- a fact of the command and of the octets that the source tells
abbrev pub IfInput : Option Command → Option (List ℕ) → (Command → List ℕ → Type 0) → Type 0
IfInput asked told P = IfSome asked (λ command. IfSome told (P command))

-- the statuses at which a line tells why nothing else is written
abbrev pub EndsByLine : ℕ → Type 0
EndsByLine n = (n ≡ 1) ⊎ ((n ≡ 2) ⊎ ((n ≡ 5) ⊎ (n ≡ 7)))

-- a status is at most 7
abbrev pub IsStatus : ℕ → Type 0
IsStatus n = n < 8
