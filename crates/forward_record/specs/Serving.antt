-- What the program does where it is recorded, and how it ends.
use Rattle.std.specs.Prelude.{◌≡◌, ◌≢◌, ◌⊎◌, ℕ, false, List, [], Option, None, Some, IfSome}
use Rattle.command_parts.specs.Ends.{IsSaid}
use Rattle.client_steps.specs.Whole.{started_with}
use Rattle.dns_record.specs.Recording as recording
use Rattle.dns_record.specs.Recording.{HasEnded, IsRefused, drawn, opening, rest_behind}
use Rattle.dns_record.specs.declared.ended.Refused.{Refused}
use Rattle.forward_conf.specs.Itself.{asks_itself}
use Rattle.forward_conf.specs.Reading.{IsConfAsked}
use Rattle.forward_conf.specs.Sentences.{status_of}
use Rattle.forward_conf.specs.Settings.{cache_of, choice_of, transports_of}
use Rattle.forward_conf.specs.declared.cause.Cause.{Cause}
use Rattle.forward_run.specs.Ends.{IfAsked}
use Rattle.forward_run.specs.Front.{after_deeds}
use Rattle.forward_run.specs.Serving.{begun_deeds}
use Rattle.forward_run.specs.Turns.{World}
use Rattle.forward_words.specs.declared.options.Options.{Options}
use Rattle.forward_words.specs.declared.words.Asked.{Asked}
use Rattle.front_steps.specs.Steps.{beginning}
use Rattle.resolv_conf.specs.declared.conf.ResolvConf.{ResolvConf}
use Rattle.forward_record.specs.Sentences.{unrecorded_line, unrecorded_sentence}
use Rattle.forward_record.specs.Turns.{Recorded, Turned, within}
use Rattle.forward_record.specs.declared.serving.Served.{Served}
use Rattle.forward_record.specs.declared.serving.Unserved.{Unserved}
use Rattle.forward_record.specs.declared.serving.Unserved.TheVariants.{Ends, NotRecorded}

-- the words that are drawn ahead and stand in the record, and those behind them
unfoldable pub words_ahead : (ℕ → ℕ) → List ℕ
words_ahead words = drawn 65536 words

unfoldable pub words_behind : (ℕ → ℕ) → ℕ → ℕ
words_behind words = rest_behind 65536 words

-- with what the record of a configuration begins, as the options say, where these are the words and this is what the sink held
abbrev pub opening_of : Options → ResolvConf → (words : List ℕ) → (before : Option (List ℕ)) → recording.Opening
opening_of options conf words before = opening conf (choice_of options.policy) (cache_of options) (transports_of options conf) words before

-- A forwarder that took nothing in, over a new client of a configuration, whose record begins.
pub record IsBegun {K : Type 0} (held : K → Option (List ℕ)) (options : Options) (conf : ResolvConf) (words : List ℕ) (before : Option (List ℕ)) (f : Recorded K) : Type 0 where
  pub new : f ≡ beginning f.within
  pub client : f.within.client ≡ started_with (transports_of options conf) (choice_of options.policy) (cache_of options) conf
  pub begun : recording.Recorded (opening_of options conf words before) [] (held f.within.sink) f.within.recorder f.within.client

-- Why a configuration is not recorded, where these were the sink's faults before.
abbrev pub IsNotRecorded : Options → ResolvConf → (words : List ℕ) → (faults : ℕ) → Refused → Type 0
IsNotRecorded options conf words faults why = (after : ℕ) × IsRefused why conf (choice_of options.policy) (cache_of options) (transports_of options conf) words faults after

-- nothing is served and this holds of the cause, if it is one without a record
abbrev pub IfEnds : Unserved → (Cause → Type 0) → Type 0
IfEnds (Ends cause) P = P cause
IfEnds (NotRecorded why) P = Unit {0}

-- or this of why nothing can be recorded, if it is that
abbrev pub IfNotRecorded : Unserved → (Refused → Type 0) → Type 0
IfNotRecorded (Ends cause) P = Unit {0}
IfNotRecorded (NotRecorded why) P = P why

-- or this holds unless memory ran out
abbrev pub IfSpeaks : Unserved → Type 0 → Type 0
IfSpeaks (Ends cause) P = status_of cause ≢ 6 → P
IfSpeaks (NotRecorded why) P = P

-- The configuration was served and recorded, in which no server is the forwarder itself: it was listened, once, the servers were learned, and so many turns were made, which
-- put out so many answers. Of the words those that came first stand in the record. The sink has the record of the first of the rows of the client within.
pub record IsServed {K : Type 0} (held : K → Option (List ℕ)) (options : Options) (asked : Asked) (conf : ResolvConf) (answered : ℕ) (before : Option (List ℕ)) (last : Recorded K) (old new : World) : Type 0 where
  pub first : Recorded K
  pub is_begun : IsBegun held options conf (words_ahead old.words) before first
  pub turned :
      Turned held asked.turns answered
      (within first (record old { words = words_behind old.words; deeds = after_deeds (begun_deeds asked.port conf) old.deeds }))
      (within last new)
  pub asks_others : asks_itself options.listened asked.port conf ≡ false
  pub has : HasEnded (opening_of options conf (words_ahead old.words) before) turned.trace (held last.within.sink)

-- The text is a configuration that was served and recorded as the options say.
pub record IsServedOf {K : Type 0} (held : K → Option (List ℕ)) (options : Options) (asked : Asked) (text : List ℕ) (answered : ℕ) (before : Option (List ℕ)) (last : Recorded K) (old new : World) : Type 0 where
  pub conf : ResolvConf
  pub left : ℕ → ℕ
  pub conf_asked : IsConfAsked options text old.words conf left
  pub served : IsServed held options asked conf answered before last (record old { words = left }) new

-- the same where the source tells its text
abbrev pub IsRun : {K : Type 0} (held : K → Option (List ℕ)) (options : Options) (asked : Asked) (told : Option (List ℕ)) (answered : ℕ) (before : Option (List ℕ)) (last : Recorded K) (old new : World) → Type 0
IsRun held options asked told answered before last old new = IfSome told (λ text. IsServedOf held options asked text answered before last old new)

-- of the forwarder that is left; there is one
abbrev pub IsLeft : {K : Type 0} → Option (Recorded K) → (Recorded K → Type 0) → Type 0
IsLeft None P = ⊥
IsLeft (Some f) P = P f

-- by the words that asked for it
abbrev pub IsServedTo : {K : Type 0} → (K → Option (List ℕ)) → Options → Option Asked → (told : Option (List ℕ)) → (file : K) → Served K → (old new : World) → Type 0
IsServedTo held options asked told file served old new =
    IfAsked asked told (λ a text. IsLeft served.forwarder (λ last. IsServedOf held options a text served.answered (held file) last old new))

-- the statuses at which it was served
abbrev pub HasServed : {K : Type 0} → Served K → Type 0
HasServed served = (served.status.0 ≡ 0) ⊎ (served.status.0 ≡ 4)

-- The text is a configuration that can't be recorded.
pub record IsRefusedOf (options : Options) (text : List ℕ) (words : ℕ → ℕ) (faults : ℕ) (why : Refused) : Type 0 where
  pub conf : ResolvConf
  pub left : ℕ → ℕ
  pub conf_asked : IsConfAsked options text words conf left
  pub is_why : IsNotRecorded options conf (words_ahead left) faults why

abbrev pub IsNotRecordedIf : (options : Options) (told : Option (List ℕ)) (words : ℕ → ℕ) (faults : ℕ) → Refused → Type 0
IsNotRecordedIf options told words faults why = IfSome told (λ text. IsRefusedOf options text words faults why)

-- And a line says why, and a sentence.
pub record IsRefusalSaid (Said Told : List ℕ → Type 0) (options : Options) (text : List ℕ) (words : ℕ → ℕ) (faults : ℕ) : Type 0 where
  pub why : Refused
  pub refused : IsRefusedOf options text words faults why
  pub said : Said (unrecorded_line why)
  pub told : Told (unrecorded_sentence why)

abbrev pub IsRefusedTo : Options → Option Asked → (told : Option (List ℕ)) → (faults : ℕ) → (words : ℕ → ℕ) → (Said Told : List ℕ → Type 0) → Type 0
IsRefusedTo options asked told faults words Said Told = IfAsked asked told (λ a text. IsRefusalSaid Said Told options text words faults)

-- a line is written whole, or the first of it, and then the sink's count of faults rose
abbrev pub is_said : {O : Type 0} → (O → Option (List ℕ)) → (O → ℕ) → (old new : O) → (line : List ℕ) → Type 0
is_said held faults old new line = IsSaid line (held old) (held new) (faults old) (faults new)
