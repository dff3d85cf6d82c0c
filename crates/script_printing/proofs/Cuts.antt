-- A text that is cut anywhere.
use Rattle.std.proofs.Common.{◌≡◌, ◌≤◌, ◌+◌, ◌-◌, ℕ, suc, zero, true, List, [], ◌∷◌, ◌++◌, length, take, refl, sym, ap, ◌∙◌, subst, inl, inr, arith, append_assoc, length-append}
use Rattle.std.specs.List.{AllByRecursion, flat_map}
use Rattle.std.proofs.Math.Seq.{take-append-add, take-nil}
use Rattle.std.proofs.lemmas.Bool.{and_parts, cases_lt}
use Rattle.std.proofs.lemmas.List.{take-append-le}
use Rattle.std.proofs.lemmas.List.Folds.{list_all-append}
use Rattle.client_request.specs.declared.event.Event.{Event}
use Rattle.client_settings.specs.Settings.{CacheSettings, RedundantSettings}
use Rattle.client_settings.specs.declared.settings.Transports.{Transports}
use Rattle.dns_script.specs.Lines.{event_line}
use Rattle.dns_script.specs.Told.{tells_well}
use Rattle.resolv_conf.specs.declared.conf.ResolvConf.{ResolvConf}
use Rattle.script_printing.specs.CanBeTold.{CanBeTold, IsEvent, IsInRange, are_told_events}
use Rattle.script_printing.specs.Laws.{HasNoLine, IsCut}
use Rattle.script_printing.specs.Texts.{ended, head_text, script_of, script_text_of}
use Rattle.script_printing.proofs.EventLines.{event_plain, event_text}
use Rattle.script_printing.proofs.Plain.{IsPlain}
use Rattle.script_printing.proofs.Scripts.{scripts_are_read_back}

plain_no_line : (octets : List ℕ) → IsPlain octets → HasNoLine octets
plain_no_line [] h = tt
plain_no_line (octet ∷ octets) h = (λ e. omega (arith, h.0.0, e), plain_no_line octets h.1)

taken_no_line : (n : ℕ) (octets : List ℕ) → HasNoLine octets → HasNoLine (take n octets)
taken_no_line zero octets h = tt
taken_no_line (suc n) [] h = tt
taken_no_line (suc n) (octet ∷ octets) h = (h.0, taken_no_line n octets h.1)

-- Of lines the first octets: some first of the lines, and no whole line behind them.
pub record CutLines {A : Type 0} (line : A → List ℕ) (xs : List A) (octets : List ℕ) : Type 0 where
  pub first : List A
  pub later : List A
  pub all : xs ≡ first ++ later
  pub rest : List ℕ
  pub octets_are : octets ≡ flat_map line first ++ rest
  pub no_line : HasNoLine rest

pub cut_lines : {A : Type 0} (text : A → List ℕ) (xs : List A) (n : ℕ) → AllByRecursion (λ x. IsPlain (text x)) xs
    → CutLines (λ x. ended (text x)) xs (take n (flat_map (λ x. ended (text x)) xs))
cut_lines {A = A} text [] n h = record { first = []; later = []; all = refl; rest = []; octets_are = take-nil n; no_line = tt }
cut_lines {A = A} text (x ∷ xs) n h = elim (cases_lt n (length (text x) + 1)) [
  | inl within ↦
      record {
        first = [];
        later = x ∷ xs;
        all = refl;
        rest = take n (text x);
        octets_are =
            ap (λ (t : List ℕ). take n t) (append_assoc (text x) (10 ∷ []) (flat_map (λ y. ended (text y)) xs))
            ∙ take-append-le n (text x) (10 ∷ flat_map (λ y. ended (text y)) xs) (omega arith);
        no_line = taken_no_line n (text x) (plain_no_line (text x) h.0);
      }
  | inr behind ↦
      let line : List ℕ = ended (text x) in
      let long : length line ≡ length (text x) + 1 = length-append (text x) (10 ∷ []) in
      let many : n ≡ length line + (n - length line) = omega arith in
      let more : CutLines (λ y. ended (text y)) xs (take (n - length line) (flat_map (λ y. ended (text y)) xs)) = cut_lines text xs (n - length line) h.1 in
      record {
        first = x ∷ more.first;
        later = more.later;
        all = ap (λ (ys : List A). x ∷ ys) more.all;
        rest = more.rest;
        octets_are =
            ap (λ (k : ℕ). take k (line ++ flat_map (λ y. ended (text y)) xs)) many
            ∙ take-append-add line (flat_map (λ y. ended (text y)) xs) (n - length line)
            ∙ ap (λ (t : List ℕ). line ++ t) more.octets_are
            ∙ sym (append_assoc line (flat_map (λ y. ended (text y)) more.first) more.rest);
        no_line = more.no_line;
      }
]

-- what holds of all events holds of the first
told_first : (first later : List Event) → are_told_events (first ++ later) ≡ true → are_told_events first ≡ true
told_first first later h = (and_parts (are_told_events first) (are_told_events later) (sym (list_all-append (λ event. tells_well event.what) first later) ∙ h)).0

pub range_first : (first later : List Event) → AllByRecursion IsEvent (first ++ later) → AllByRecursion IsEvent first
range_first [] later h = tt
range_first (event ∷ first) later h = (h.0, range_first first later h.1)

pub first_told : (conf : ResolvConf) (redundant : RedundantSettings) (cache : CacheSettings) (transports : Transports) (words : List ℕ) (events first later : List Event) → events ≡ first ++ later
    → CanBeTold (script_of conf redundant cache transports words events) → CanBeTold (script_of conf redundant cache transports words first)
first_told conf redundant cache transports words events first later all h = record {
  servers = h.servers;
  options = h.options;
  settings = h.settings;
  transports = h.transports;
  lane = refl;
  events = told_first first later (subst (λ (es : List Event). are_told_events es ≡ true) all h.events);
}

pub first_in_range : (conf : ResolvConf) (redundant : RedundantSettings) (cache : CacheSettings) (transports : Transports) (words : List ℕ) (events first later : List Event) → events ≡ first ++ later
    → IsInRange (script_of conf redundant cache transports words events) → IsInRange (script_of conf redundant cache transports words first)
first_in_range conf redundant cache transports words events first later all h = record {
  addresses = h.addresses;
  timeout = h.timeout;
  sizes = h.sizes;
  words = h.words;
  events = range_first first later (subst (AllByRecursion IsEvent) all h.events);
}

pub events_plain : (events : List Event) → AllByRecursion IsEvent events → AllByRecursion (λ event. IsPlain (event_text event)) events
events_plain [] h = tt
events_plain (event ∷ events) h = (event_plain event h.0, events_plain events h.1)

-- octets behind what stands before the first event
pub behind_head : (head lines : List ℕ) (n : ℕ) → length head ≤ n → take n (head ++ lines) ≡ head ++ take (n - length head) lines
behind_head head lines n h =
    let many : n ≡ length head + (n - length head) = omega arith in
    ap (λ (k : ℕ). take k (head ++ lines)) many ∙ take-append-add head lines (n - length head)

pub cut_anywhere : (conf : ResolvConf) (redundant : RedundantSettings) (cache : CacheSettings) (transports : Transports) (words : List ℕ) (events : List Event) (n : ℕ) → CanBeTold (script_of conf redundant cache transports words events)
    → IsInRange (script_of conf redundant cache transports words events) → length (head_text conf redundant cache transports words) ≤ n
    → IsCut conf redundant cache transports words events (take n (script_text_of (script_of conf redundant cache transports words events)))
cut_anywhere conf redundant cache transports words events n told range behind =
    let head : List ℕ = head_text conf redundant cache transports words in
    let c : CutLines event_line events (take (n - length head) (flat_map event_line events)) = cut_lines event_text events (n - length head) (events_plain events range.events) in
    record {
      first = c.first;
      later = c.later;
      events_are = c.all;
      rest = c.rest;
      octets_are =
          behind_head head (flat_map event_line events) n behind
          ∙ ap (λ (t : List ℕ). head ++ t) c.octets_are
          ∙ sym (append_assoc head (flat_map event_line c.first) c.rest);
      no_line = c.no_line;
      is_script = scripts_are_read_back (script_of conf redundant cache transports words c.first) (first_told conf redundant cache transports words events c.first c.later c.all told) (first_in_range conf redundant cache transports words events c.first c.later c.all range);
    }
