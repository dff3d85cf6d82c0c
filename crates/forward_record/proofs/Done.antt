-- A configuration that was served and recorded.
use Rattle.std.proofs.Common.{◌≡◌, ℕ, false, List, [], Option, None, Some, String, Global, refl, ◌∙◌, ap, sym, subst}
use Rattle.std.specs.Prelude.{IfOk, IfSome, Result, Ok, Err}
use Rattle.client_settings.specs.declared.settings.Settings.{Settings}
use Rattle.client_steps.specs.Whole.{Whole, started_with}
use Rattle.dns_record.specs.Laws.{RecordLaw}
use Rattle.dns_record.specs.Recording as recording
use Rattle.dns_record.specs.Recording.{IsRefused, Recording, opening}
use Rattle.dns_record.specs.declared.ended.Refused.{Refused}
use Rattle.front_steps.specs.Steps.{beginning}
use Rattle.forward_run.specs.Front.{after_deeds}
use Rattle.forward_conf.specs.Itself.{asks_itself}
use Rattle.forward_conf.specs.Reading.{IsConfAsked}
use Rattle.forward_conf.specs.Settings.{settings_of}
use Rattle.forward_run.specs.Ends.{IfAsked}
use Rattle.forward_run.specs.Serving.{begun_deeds}
use Rattle.forward_run.specs.Turns.{World}
use Rattle.forward_run.specs.declared.front.FrontDeed.{FrontDeed}
use Rattle.forward_run.proofs.Written.{asked_with, told_with}
use Rattle.forward_words.specs.Words.{asked_in, command_of}
use Rattle.forward_words.specs.declared.options.Options.{Options}
use Rattle.forward_words.specs.declared.words.Asked.{Asked}
use Rattle.resolv_conf.specs.declared.conf.ResolvConf.{ResolvConf}
use Rattle.forward_record.specs.Core.{RecordedClient}
use Rattle.forward_record.specs.Sentences.{unrecorded_line, unrecorded_sentence}
use Rattle.forward_record.specs.Serving.{IsBegun, IsNotRecorded, IsNotRecordedIf, IsRefusalSaid, IsServed, IsRun, IsServedOf, opening_of, words_ahead, words_behind}
use Rattle.forward_record.specs.Turns.{Recorded, Turned, scene, within}
use Rattle.forward_record.specs.declared.serving.Unserved.{Unserved}

-- the client with these settings, and with what its record begins
abbrev first_with : ResolvConf → Settings → Whole
first_with conf s = started_with s.transports s.redundant s.cache conf

abbrev opening_with : ResolvConf → (words : List ℕ) → (before : Option (List ℕ)) → Settings → recording.Opening
opening_with conf words before s = opening conf s.redundant s.cache s.transports words before

-- a forwarder over a new client, whose record begins
pub begun : {K : Type 0} (held : K → Option (List ℕ)) (options : Options) (conf : ResolvConf) (words : List ℕ) (before : Option (List ℕ)) (settings : Settings) (client : Whole) (r : Recording) (sink : K)
    (core : RecordedClient K) (f : Recorded K)
    → settings ≡ settings_of options conf → client ≡ first_with conf settings → recording.Recorded (opening_with conf words before settings) [] (held sink) r (first_with conf settings)
    → core ≡ record { client = client; recorder = r; sink = sink } → f ≡ beginning core → IsBegun held options conf words before f
begun {K = K} held options conf words before settings client r sink core f is made begins core_is f_is =
    let said = settings_of options conf in
    let a : client ≡ first_with conf said = made ∙ ap (first_with conf) is in
    let b : recording.Recorded (opening_with conf words before said) [] (held sink) r (first_with conf said) =
    subst (λ (s : Settings). recording.Recorded (opening_with conf words before s) [] (held sink) r (first_with conf s)) is begins in
    let whole : f ≡ beginning (record { client = client; recorder = r; sink = sink }) = f_is ∙ ap beginning core_is in
    subst (λ (g : Recorded K). IsBegun held options conf words before g) (sym whole) (record {
      new = refl;
      client = a;
      begun = subst (λ (c : Whole). recording.Recorded (opening_with conf words before said) [] (held sink) r c) (sym a) b;
    })

-- or it is refused
pub not_begun : (options : Options) (conf : ResolvConf) (words : List ℕ) (settings : Settings) (faults after : ℕ) (why : Refused)
    → settings ≡ settings_of options conf → IsRefused why conf settings.redundant settings.cache settings.transports words faults after → IsNotRecorded options conf words faults why
not_begun options conf words settings faults after why is h = (after, subst (λ (s : Settings). IsRefused why conf s.redundant s.cache s.transports words faults after) is h)

-- and turns are made
pub served : {K : Type 0} (held : K → Option (List ℕ)) (options : Options) (asked : Asked) (conf : ResolvConf) (answered : ℕ) (before : Option (List ℕ)) (first last : Recorded K) (old new : World) (words : ℕ → ℕ) (deeds : Option (List FrontDeed)) (polls : ℕ)
    → IsBegun held options conf (words_ahead old.words) before first → words ≡ words_behind old.words → deeds ≡ after_deeds (begun_deeds asked.port conf) old.deeds → polls ≡ old.polls
    → asks_itself options.listened asked.port conf ≡ false → RecordLaw
    → Turned held asked.turns answered (scene first words deeds polls old.moments) (within last new)
    → IsServed held options asked conf answered before last old new
served held options asked conf answered before first last old new words deeds polls begins words_are told same others law turned =
    let starts = after_deeds (begun_deeds asked.port conf) old.deeds in
    let t : Turned held asked.turns answered (scene first (words_behind old.words) starts old.polls old.moments) (within last new) =
    subst (λ (ws : ℕ → ℕ). Turned held asked.turns answered (scene first ws starts old.polls old.moments) (within last new)) words_are
    (subst (λ (ds : Option (List FrontDeed)). Turned held asked.turns answered (scene first words ds old.polls old.moments) (within last new)) told
    (subst (λ (n : ℕ). Turned held asked.turns answered (scene first words deeds n old.moments) (within last new)) same turned)) in
    let o = opening_of options conf (words_ahead old.words) before in
    record {
      first = first;
      is_begun = begins;
      turned = t;
      asks_others = others;
      has = law o t.trace (held last.within.sink) last.within.recorder.words last.within.recorder.size last.within.recorder.ended last.within.client (t.keeps o [] begins.begun);
    }

-- where the source tells its text
served_if : {K : Type 0} (held : K → Option (List ℕ)) (options : Options) (asked : Asked) (told : Option (List ℕ)) (conf : ResolvConf) (left : ℕ → ℕ) (answered : ℕ) (before : Option (List ℕ)) (last : Recorded K) (old new : World)
    → IfSome told (λ text. IsConfAsked options text old.words conf left) → IsServed held options asked conf answered before last (record old { words = left }) new
    → IsRun held options asked told answered before last old new
served_if held options asked None conf left answered before last old new read serves = tt
served_if held options asked (Some text) conf left answered before last old new read serves = record { conf = conf; left = left; conf_asked = read; served = serves }

pub serves_if : {K : Type 0} (held : K → Option (List ℕ)) (options : Options) (asked : Asked) (told : Option (List ℕ)) (conf : ResolvConf) (left : ℕ → ℕ) (before : Option (List ℕ)) (old new : World) (r : Result (ℕ × Recorded K) Unserved)
    → IfSome told (λ text. IsConfAsked options text old.words conf left) → IfOk r (λ served. IsServed held options asked conf served.0 before served.1 (record old { words = left }) new)
    → IfOk r (λ served. IsRun held options asked told served.0 before served.1 old new)
serves_if held options asked told conf left before old new (Ok served) read h = served_if held options asked told conf left served.0 before served.1 old new read h
serves_if held options asked told conf left before old new (Err e) read h = h

pub refused_if : (options : Options) (told : Option (List ℕ)) (conf : ResolvConf) (words left : ℕ → ℕ) (faults : ℕ) (why : Refused)
    → IfSome told (λ text. IsConfAsked options text words conf left) → IsNotRecorded options conf (words_ahead left) faults why → IsNotRecordedIf options told words faults why
refused_if options None conf words left faults why read refused = tt
refused_if options (Some text) conf words left faults why read refused = record { conf = conf; left = left; conf_asked = read; is_why = refused }

-- by the words that asked for it
pub served_to : {K : Type 0} (held : K → Option (List ℕ)) (options : Options) (said : List (String Global)) (asked : Asked) (told : Option (List ℕ)) (answered : ℕ) (before : Option (List ℕ)) (last : Recorded K) (old new : World)
    → Ok asked ≡ command_of said → IsRun held options asked told answered before last old new
    → IfAsked (asked_in said) told (λ a text. IsServedOf held options a text answered before last old new)
served_to held options said asked told answered before last old new is serves =
    asked_with said asked told (λ a text. IsServedOf held options a text answered before last old new) is serves

pub refusal_said : (Said Told : List ℕ → Type 0) (options : Options) (said : List (String Global)) (asked : Asked) (told : Option (List ℕ)) (words : ℕ → ℕ) (faults : ℕ) (why : Refused)
    → Ok asked ≡ command_of said → IsNotRecordedIf options told words faults why → Said (unrecorded_line why) → Told (unrecorded_sentence why)
    → IfAsked (asked_in said) told (λ a text. IsRefusalSaid Said Told options text words faults)
refusal_said Said Told options said asked told words faults why is refused line sentence =
    asked_with said asked told (λ a text. IsRefusalSaid Said Told options text words faults) is
    (told_with told _ (λ text. IsRefusalSaid Said Told options text words faults) (λ text h. record { why = why; refused = h; said = line; told = sentence }) refused)
