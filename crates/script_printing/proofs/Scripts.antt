-- The text of a script that can be told is read as it.
use Rattle.std.proofs.Common.{◌≡◌, ◌==◌, ℕ, true, false, List, [], ◌∷◌, ◌++◌, length, map, refl, sym, ap, ◌∙◌, subst, arith, append_assoc, append-nil}
use Rattle.std.specs.List.{AllByRecursion, flat_map}
use Rattle.std.specs.Str.Lines.{lines}
use Rattle.std.proofs.lemmas.Bool.{eqb-true}
use Rattle.std.proofs.lemmas.Grind.{flat_map-append}
use Rattle.client_request.specs.declared.event.Event.{Event}
use Rattle.client_settings.specs.Client.{default_transports}
use Rattle.client_settings.specs.Settings.{CacheSettings, RedundantSettings, default_cache, default_redundant}
use Rattle.client_settings.specs.declared.settings.Transports.{Transports}
use Rattle.resolv_conf.specs.Conf.{default_options}
use Rattle.resolv_conf.specs.declared.conf.ResolvConf.{ResolvConf}
use Rattle.dns_script.specs.Lines.{event_line}
use Rattle.dns_script.specs.ScriptReading.{IsScript, TakesLines}
use Rattle.dns_script.specs.declared.script.Script.{Script}
use Rattle.script_printing.specs.CanBeTold.{CanBeTold, IsEvent, IsInRange}
use Rattle.script_printing.specs.Texts.{conf_lines, ended, first_lane, head_lines, head_text, kept_lines, script_of, script_text_of, setting_lines, transport_lines, word_lines}
use Rattle.script_printing.proofs.Confs.{conf_taken}
use Rattle.script_printing.proofs.EventLines.{event_plain, event_text, events_taken, reader_behind}
use Rattle.script_printing.proofs.Heads.{head_is_plain}
use Rattle.script_printing.proofs.Lines.{reader_at, takes_more}
use Rattle.script_printing.proofs.Plain.{IsPlain, lines_of_text}
use Rattle.script_printing.proofs.SettingLines.{settings_taken, words_taken}
use Rattle.script_printing.proofs.TransportLines.{transports_taken}

pub one_more_line : (conf : ResolvConf) (redundant : RedundantSettings) (cache : CacheSettings) (transports : Transports) (words : List ℕ) (events : List Event) (event : Event)
    → script_text_of (script_of conf redundant cache transports words (events ++ event ∷ [])) ≡ script_text_of (script_of conf redundant cache transports words events) ++ event_line event
one_more_line conf redundant cache transports words events event =
    ap (λ t. head_text conf redundant cache transports words ++ t) (flat_map-append event_line events (event ∷ []) ∙ ap (λ t. flat_map event_line events ++ t) (append-nil (event_line event)))
    ∙ sym (append_assoc (head_text conf redundant cache transports words) (flat_map event_line events) (event_line event))

event_lines : (events : List Event) → flat_map ended (map event_text events) ≡ flat_map event_line events
event_lines [] = refl
event_lines (event ∷ events) = ap (λ t. event_line event ++ t) (event_lines events)

events_plain : (events : List Event) → AllByRecursion IsEvent events → AllByRecursion IsPlain (map event_text events)
events_plain [] h = tt
events_plain (event ∷ events) h = (event_plain event h.0, events_plain events h.1)

all_append : (P : List ℕ → Type 0) (xs ys : List (List ℕ)) → AllByRecursion P xs → AllByRecursion P ys → AllByRecursion P (xs ++ ys)
all_append P [] ys h k = k
all_append P (x ∷ xs) ys h k = (h.0, all_append P xs ys h.1 k)

one_lane : (lanes : List (List Event)) → (length lanes == 1) ≡ true → lanes ≡ first_lane lanes ∷ []
one_lane [] e = absurd cc
one_lane (lane ∷ []) e = refl
one_lane (lane ∷ other ∷ more) e = absurd (omega (arith, eqb-true (length (lane ∷ other ∷ more)) 1 e))

pub scripts_are_read_back : (script : Script) → CanBeTold script → IsInRange script → IsScript false (script_text_of script) script
scripts_are_read_back script told range =
    let conf : ResolvConf = script.conf in
    let r : RedundantSettings = script.redundant in
    let c : CacheSettings = script.cache in
    let t : Transports = script.transports in
    let ws : List ℕ = script.words in
    let events : List Event = first_lane script.lanes in
    let first : ResolvConf = record { servers = []; options = default_options } in
    let s0 = reader_at first (record { redundant = default_redundant; cache = default_cache; transports = default_transports }) [] in
    let s1 = reader_at conf (record { redundant = default_redundant; cache = default_cache; transports = default_transports }) [] in
    let s2 = reader_at conf (record { redundant = r; cache = c; transports = default_transports }) [] in
    let s3 = reader_at conf (record { redundant = r; cache = c; transports = t }) [] in
    let s4 = reader_at conf (record { redundant = r; cache = c; transports = t }) ws in
    let head : List (List ℕ) = head_lines conf r c t ws in
    let behind = events_taken conf (record { redundant = r; cache = c; transports = t }) ws false events [] range.events told.events in
    let s5 = reader_behind conf (record { redundant = r; cache = c; transports = t }) ws behind.0 events in
    let one : TakesLines (conf_lines conf) s0 s1 = conf_taken conf (record { redundant = default_redundant; cache = default_cache; transports = default_transports }) [] told.servers told.options range.addresses range.timeout in
    let two : TakesLines (kept_lines r c) s1 s2 = settings_taken conf r c [] told.settings in
    let three : TakesLines (transport_lines t) s2 s3 = transports_taken conf [] r c t told.transports range.sizes in
    let four : TakesLines (word_lines ws) s3 s4 = words_taken conf (record { redundant = r; cache = c; transports = t }) ws range.words in
    let set : TakesLines (setting_lines r c t) s1 s3 = takes_more (kept_lines r c) (transport_lines t) s1 s2 s3 two three in
    let before : TakesLines head s0 s4 = takes_more (conf_lines conf) (setting_lines r c t ++ word_lines ws) s0 s1 s4 one (takes_more (setting_lines r c t) (word_lines ws) s1 s3 s4 set four) in
    let all : TakesLines (head ++ map event_text events) s0 s5 = takes_more head (map event_text events) s0 s4 s5 before behind.1 in
    let text : flat_map ended (head ++ map event_text events) ≡ script_text_of script =
    flat_map-append ended head (map event_text events) ∙ ap (λ x. head_text conf r c t ws ++ x) (event_lines events) in
    let plain : AllByRecursion IsPlain (head ++ map event_text events) = all_append IsPlain head (map event_text events) (head_is_plain script told range) (events_plain events range.events) in
    record {
      reader = s5;
      lines_taken = subst (λ ls. TakesLines ls s0 s5) (sym (ap lines (sym text) ∙ lines_of_text (head ++ map event_text events) plain)) all;
      lane = events;
      last_lane = refl;
      says = λ i. record script { lanes = one_lane script.lanes told.lane i };
    }

-- the same of a text that is that of a script
pub printed_is_read : (text : List ℕ) (script : Script) → CanBeTold script → IsInRange script → text ≡ script_text_of script → IsScript false text script
printed_is_read text script told range e = subst (λ t. IsScript false t script) (sym e) (scripts_are_read_back script told range)
