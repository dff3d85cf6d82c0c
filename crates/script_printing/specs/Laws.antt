-- What is printed of a script is read back.
use Rattle.std.specs.Prelude.{◌≡◌, ◌≢◌, ◌≤◌, ℕ, false, List, [], ◌∷◌, ◌++◌, length, take}
use Rattle.std.specs.List.{AllByRecursion}
use Rattle.client_request.specs.declared.event.Event.{Event}
use Rattle.client_settings.specs.Settings.{CacheSettings, RedundantSettings}
use Rattle.client_settings.specs.declared.settings.Transports.{Transports}
use Rattle.dns_script.specs.Lines.{event_line}
use Rattle.dns_script.specs.ScriptReading.{IsScript}
use Rattle.dns_script.specs.declared.script.Script.{Script}
use Rattle.resolv_conf.specs.declared.conf.ResolvConf.{ResolvConf}
use Rattle.script_printing.specs.CanBeTold.{CanBeTold, IsInRange}
use Rattle.script_printing.specs.Texts.{head_text, script_of, script_text_of}

-- no line ends among these octets
abbrev pub HasNoLine : List ℕ → Type 0
HasNoLine octets = AllByRecursion (λ octet. octet ≢ 10) octets

-- These are first octets of the text of a script: up to their last whole line the text with the first of its events, which is read as that.
pub record IsCut (conf : ResolvConf) (redundant : RedundantSettings) (cache : CacheSettings) (transports : Transports) (words : List ℕ) (events : List Event) (octets : List ℕ) : Type 0 where
  pub first : List Event
  pub later : List Event
  pub events_are : events ≡ first ++ later
  pub rest : List ℕ
  pub octets_are : octets ≡ script_text_of (script_of conf redundant cache transports words first) ++ rest
  pub no_line : HasNoLine rest
  pub is_script : IsScript false (script_text_of (script_of conf redundant cache transports words first)) (script_of conf redundant cache transports words first)

-- The text of a script that can be told is read as it, and one more event is one more line. Cut anywhere behind what stands before the first event, it is read up to its last
-- whole line.
pub record PrintingLaws : Type 0 where
  pub scripts_are_read_back : (script : Script) → CanBeTold script → IsInRange script → IsScript false (script_text_of script) script
  pub one_more_line : (conf : ResolvConf) (redundant : RedundantSettings) (cache : CacheSettings) (transports : Transports) (words : List ℕ) (events : List Event) (event : Event)
      → script_text_of (script_of conf redundant cache transports words (events ++ event ∷ [])) ≡ script_text_of (script_of conf redundant cache transports words events) ++ event_line event
  pub cut_anywhere : (conf : ResolvConf) (redundant : RedundantSettings) (cache : CacheSettings) (transports : Transports) (words : List ℕ) (events : List Event) (n : ℕ) → CanBeTold (script_of conf redundant cache transports words events)
      → IsInRange (script_of conf redundant cache transports words events) → length (head_text conf redundant cache transports words) ≤ n
      → IsCut conf redundant cache transports words events (take n (script_text_of (script_of conf redundant cache transports words events)))
