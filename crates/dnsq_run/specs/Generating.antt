-- What the words `gen N` ask for, and what comes of it.
use Rattle.std.specs.Prelude.{◌≡◌, ◌⊎◌, ℕ, ◌==◌, if◌then◌else◌, List, [], ◌∷◌, Option, None, Some, option_and_then, codes, String}
use Rattle.std.specs.String.{string_bytes}
use Rattle.std.specs.declared.alloc.Global.{Global}
use Rattle.dns_values.specs.Sink.{with_octets}
use Rattle.client_request.specs.Composed.{composed}
use Rattle.client_request.specs.declared.event.Row.{Row}
use Rattle.client_cache.specs.Plain.{room_of}
use Rattle.client_settings.specs.Settings.{default_cache, default_redundant}
use Rattle.client_steps.specs.Headline.{conf_of, settings_of}
use Rattle.right_trace.specs.Hit.{AllHit}
use Rattle.right_trace.specs.Right.{Right}
use Rattle.right_trace.specs.StaleServed.{AllServeStale}
use Rattle.right_trace.specs.Timely.{Timely}
use Rattle.dns_script.specs.Generated.{generated, generated_conf}
use Rattle.dns_script.specs.Reading.{number_of}
use Rattle.dns_script.specs.Summary.{summary_text_of}
use Rattle.command_parts.specs.Ends.{IsBegun}
use Rattle.dnsq_run.specs.Program.{numbers_line, rows_of}
use Rattle.dnsq_run.specs.Words.{is_word}

-- a count is not 0
abbrev pub if_count : ℕ → Option ℕ
if_count n = if n == 0 then None else Some n

-- the count that a word names: a number from 1 to 1000, without sign or leading zeros
abbrev pub count_in : List ℕ → Option ℕ
count_in word = option_and_then if_count (number_of 1000 word)

-- the count of the words: `gen` and a count
abbrev pub count_of : List (String Global) → Option ℕ
count_of [] = None
count_of (word ∷ []) = None
count_of (word ∷ count ∷ []) = if is_word (codes "gen") word then count_in (string_bytes count) else None
count_of (word ∷ count ∷ next ∷ words) = None

-- These octets are the summary of the plain trace of the generated script, which is right and timely, gives what is kept, and serves what has expired.
pub record IsSummary (n : ℕ) (out : List ℕ) : Type 0 where
  pub rows : List Row
  pub plain : rows_of (generated n) ≡ Some rows
  pub right : Right (conf_of generated_conf) (settings_of default_redundant default_cache) rows
  pub timely : Timely (conf_of generated_conf) rows
  pub hits : AllHit (conf_of generated_conf) (settings_of default_redundant default_cache) composed (room_of default_cache) [] rows
  pub stale : AllServeStale (conf_of generated_conf) (settings_of default_redundant default_cache) (room_of default_cache) [] rows
  pub says : out ≡ summary_text_of rows

-- what is due for a count: the summary, or the line that tells why there is none
pub data IsDueFor (n : ℕ) (out : List ℕ) : Type 0 where
  is_summary : IsSummary n out → IsDueFor n out
  stops : rows_of (generated n) ≡ None → out ≡ numbers_line → IsDueFor n out

-- What `gen N` ends with, by its status: what the sink holds.
pub record SummarizesSo (n status : ℕ) (held after : Option (List ℕ)) : Type 0 where
  pub statuses : (status ≡ 0) ⊎ ((status ≡ 4) ⊎ ((status ≡ 6) ⊎ (status ≡ 7)))
  pub done : status ≡ 0 → (out : List ℕ) × IsSummary n out × (after ≡ with_octets out held)
  pub cut : status ≡ 4 → (out : List ℕ) × IsSummary n out × IsBegun out held after
  pub memory : status ≡ 6 → (after ≡ held) ⊎ ((out : List ℕ) × IsDueFor n out × IsBegun out held after)
  pub numbers : status ≡ 7 → rows_of (generated n) ≡ None
