-- What the program writes for a script with lanes.
use Rattle.std.specs.Prelude.{◌≡◌, ◌≢◌, ◌⊎◌, ◌<◌, ◌≤◌, ℕ, Bool, true, false, List, [], ◌∷◌, ◌++◌, length, Option, Some, None, IfSome, codes, String}
use Rattle.std.specs.Fmt.{decimal}
use Rattle.std.specs.declared.alloc.Global.{Global}
use Rattle.dns_values.specs.Sink.{with_octets}
use Rattle.dns_script.specs.ScriptReading.{IsScript, RefusesLine}
use Rattle.dns_script.specs.declared.script.Script.{Script}
use Rattle.command_parts.specs.Ends.{IsBegun, IsSaid}
use Rattle.dnsq_run.specs.Program.{numbers_line}
use Rattle.dnsq_run.specs.Words.{is_word}
use Rattle.dnsq_many.specs.Lanes.{IsTextOf, MayStop}

-- the words are `many` alone
abbrev pub is_many : List (String Global) → Bool
is_many [] = false
is_many (word ∷ []) = is_word (codes "many") word
is_many (word ∷ next ∷ words) = false

-- The text is a script with lanes, and not too long.
pub record IsTaken (text : List ℕ) : Type 0 where
  pub script : Script
  pub is_script : IsScript true text script
  pub fits : length text ≤ 16777216

-- The text is a script with lanes, not too long, and these octets are the text of what a client that the lanes share made of it.
pub record IsMade (text out : List ℕ) : Type 0 where
  pub taken : IsTaken text
  pub made : IsTextOf taken.script out

-- The text is not taken, and this line says why.
pub data IsRefused (text line : List ℕ) : Type 0 where
  is_too_long : 16777216 < length text → line ≡ codes "input too long\n" → IsRefused text line
  has_bad_line : (n : ℕ) → length text ≤ 16777216 → RefusesLine true text n → line ≡ codes "line " ++ decimal n ++ codes " refused\n" → IsRefused text line

-- The text is a script with lanes, not too long, some order of whose events stops for a number.
pub record Stops (text : List ℕ) : Type 0 where
  pub taken : IsTaken text
  pub stops : MayStop taken.script

-- what is due for a text: what is made of it, or the line that tells why there is none
pub data IsDue (text out : List ℕ) : Type 0 where
  is_made : IsMade text out → IsDue text out
  is_refusal : IsRefused text out → IsDue text out
  stops : Stops text → out ≡ numbers_line → IsDue text out

-- What `many` ends with, by its status: what is left to read, what the sink holds, and its count of faults.
pub record EndsSo (status : ℕ) (told left held after : Option (List ℕ)) (faults more : ℕ) : Type 0 where
  pub asks_nothing : (status ≢ 2) × (status ≢ 5)
  pub done : status ≡ 0 → IfSome told (λ text. ((out : List ℕ) × IsMade text out × (after ≡ with_octets out held)) × (left ≡ Some []))
  pub refused : status ≡ 1 → IfSome told (λ text. (line : List ℕ) × IsRefused text line × IsSaid line held after faults more)
  pub complete : IfSome told (λ text. IsTaken text → status ≢ 1)
  pub cut : status ≡ 4 → IfSome told (λ text. (out : List ℕ) × IsMade text out × IsBegun out held after)
  pub memory : status ≡ 6 → (after ≡ held) ⊎ IfSome told (λ text. (out : List ℕ) × IsDue text out × IsBegun out held after)
  pub numbers : status ≡ 7 → IfSome told (λ text. Stops text)
