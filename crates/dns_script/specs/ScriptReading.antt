-- The lines of a script.
use Rattle.std.specs.Prelude.{◌≡◌, ◌<◌, ℕ, ◌+◌, List, [], ◌∷◌, ◌++◌, length, slice_index, Option, Some, None, Result, Ok, Err, Bool, true, false, ◌||◌, ◌==◌, if◌then◌else◌, codes}
use Rattle.std.specs.Str.Lines.{lines}
use Rattle.std.specs.Option.{option_to_list}
use Rattle.std.specs.Str.{IsUtf8}
use Rattle.client_request.specs.declared.event.Event.{Event}
use Rattle.resolv_conf.specs.declared.conf.ResolvConf.{ResolvConf}
use Rattle.resolv_conf.specs.Conf.{default_options}
use Rattle.resolv_conf.specs.Line.{LineGives, takes}
use Rattle.dns_script.specs.declared.names.ScriptName.{ScriptName}
use Rattle.dns_script.specs.declared.names.ScriptName.TheVariants as script
use Rattle.dns_script.specs.declared.script.Script.{Script}
use Rattle.dns_script.specs.declared.script.ScriptFault.{ScriptFault}
use Rattle.dns_script.specs.declared.script.ScriptFault.TheVariants as scripts
use Rattle.dns_script.specs.declared.script_lines.ScriptReader.{ScriptReader}
use Rattle.dns_script.specs.Grammar.{event_at, whole}
use Rattle.dns_script.specs.Names.{script_names}
use Rattle.dns_script.specs.declared.settings.Settings.{Settings}
use Rattle.dns_script.specs.Reading.{◌>>=◌, cut, named, numbers_of, words_of}
use Rattle.dns_script.specs.Settings.{sets}
use Rattle.dns_script.specs.Told.{tells_well}
use Rattle.client_settings.specs.Client.{default_transports}
use Rattle.client_settings.specs.Settings.{default_redundant, default_cache}

-- what stands behind `conf `, before any event: a line of a configuration
pub record TakesConf (text : List ℕ) (s t : ScriptReader) : Type 0 where
  pub early : s.begun ≡ false
  pub conf : ResolvConf
  pub taken : LineGives text s.conf (takes conf)
  pub after : t ≡ record s { conf = conf }

-- the setting and its value behind `set `, before any event
pub record TakesSet (text : List ℕ) (s t : ScriptReader) : Type 0 where
  pub early : s.begun ≡ false
  pub settings : Settings
  pub set : sets (words_of text) s.settings ≡ Some settings
  pub after : t ≡ record s { settings = settings }

-- the numbers behind `words `, before any event
pub record TakesWords (text : List ℕ) (s t : ScriptReader) : Type 0 where
  pub early : s.begun ≡ false
  pub numbers : List ℕ
  pub read : numbers_of (words_of text) ≡ Some numbers
  pub after : t ≡ record s { words = s.words ++ numbers }

-- the event that a text says
abbrev pub event_of : List ℕ → Option Event
event_of text = event_at (words_of text) >>= whole

-- the moment and the event behind `at `, in a lane; it has no fault but those of a socket
pub record TakesEvent (text : List ℕ) (s t : ScriptReader) : Type 0 where
  pub event : Event
  pub read : event_of text ≡ Some event
  pub told : tells_well event.what ≡ true
  pub events : List Event
  pub lane : s.lane ≡ Some events
  pub after : t ≡ record s { lane = Some (events ++ event ∷ []); begun = true }

-- the next lane, of 64 at most
pub record TakesLane (s t : ScriptReader) : Type 0 where
  pub many : s.many ≡ true
  pub few : length s.lanes + length (option_to_list s.lane) < 64
  pub after : t ≡ record s { lanes = s.lanes ++ option_to_list s.lane; lane = Some []; begun = true }

-- a name and what stands behind it
abbrev pub TakesNamed : Option ScriptName → List ℕ → ScriptReader → ScriptReader → Type 0
TakesNamed None text s t = ⊥
TakesNamed (Some script.Conf) text s t = TakesConf text s t
TakesNamed (Some script.Set) text s t = TakesSet text s t
TakesNamed (Some script.Words) text s t = TakesWords text s t
TakesNamed (Some script.At) text s t = TakesEvent text s t

-- a line that is one word, or a name, a blank and a text
abbrev pub TakesParts : List ℕ → Option (List ℕ × List ℕ) → ScriptReader → ScriptReader → Type 0
TakesParts line None s t = (line ≡ codes "lane") × TakesLane s t
TakesParts line (Some parts) s t = TakesNamed (named script_names parts.0) parts.1 s t

-- an empty line, or one that begins with `#`
abbrev pub is_skipped : List ℕ → Bool
is_skipped line = length line == 0 || slice_index line 0 == 35

abbrev pub TakesSkipped : Bool → List ℕ → ScriptReader → ScriptReader → Type 0
TakesSkipped true line s t = t ≡ s
TakesSkipped false line s t = TakesParts line (cut 32 line) s t

-- A line makes t of what was read before it.
pub record TakesLine (line : List ℕ) (s t : ScriptReader) : Type 0 where
  pub utf8 : IsUtf8 line
  pub taken : TakesSkipped (is_skipped line) line s t

-- Lines make t of s, one after another.
abbrev pub TakesLines : List (List ℕ) → ScriptReader → ScriptReader → Type 0
TakesLines [] s t = t ≡ s
TakesLines (line ∷ more) s t = (next : ScriptReader) × TakesLine line s next × TakesLines more next t

-- before the first line: one lane is open, but where there may be many
abbrev pub begun_with : Bool → ScriptReader
begun_with many = record {
  many = many;
  begun = false;
  conf = record { servers = []; options = default_options };
  settings = record { redundant = default_redundant; cache = default_cache; transports = default_transports };
  words = [];
  lanes = [];
  lane = (if many then None else Some []);
}

-- The text is a script that says this. Its lines are those between its line feeds, each without one carriage return before it.
pub record IsScript (many : Bool) (text : List ℕ) (script : Script) : Type 0 where
  pub reader : ScriptReader
  pub lines_taken : TakesLines (lines text) (begun_with many) reader
  pub lane : List Event
  pub last_lane : reader.lane ≡ Some lane
  pub says : script ≡ record { conf = reader.conf; redundant = (reader.settings).redundant; cache = (reader.settings).cache; transports = (reader.settings).transports; words = reader.words; lanes = reader.lanes ++ lane ∷ [] }

-- Line n of the text is refused, counted from 1: the lines before it are taken, and it is not; or there is no lane at the end.
pub data RefusesLine (many : Bool) (text : List ℕ) (n : ℕ) : Type 0 where
  refuses_line : (before : List (List ℕ)) (line : List ℕ) (more : List (List ℕ)) (reader : ScriptReader)
      → lines text ≡ before ++ line ∷ more → n ≡ length before + 1
      → TakesLines before (begun_with many) reader → ((next : ScriptReader) → ¬ (TakesLine line reader next))
      → RefusesLine many text n
  misses_lane : (reader : ScriptReader) → n ≡ length (lines text) + 1
      → TakesLines (lines text) (begun_with many) reader → reader.lane ≡ None
      → RefusesLine many text n

-- A script, or the line that is refused, unless memory ran out.
abbrev pub ReadsScript : Bool → List ℕ → Result Script ScriptFault → Type 0
ReadsScript many text (Ok script) = IsScript many text script
ReadsScript many text (Err (scripts.Line n)) = RefusesLine many text n
ReadsScript many text (Err scripts.NoMemory) = Unit {0}
