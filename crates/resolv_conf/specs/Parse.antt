-- What a text makes of a configuration.
use Rattle.std.specs.Prelude.{◌≡◌, ◌⊎◌, ◌<◌, ◌≤◌, ◌+◌, ℕ, List, [], ◌∷◌, length, Result, Ok, Err}
use Rattle.std.specs.Str.{IsUtf8}
use Rattle.dns_values.specs.Source.{most_text}
use Rattle.resolv_conf.specs.declared.conf.ResolvConf.{ResolvConf}
use Rattle.resolv_conf.specs.declared.error.Error.{Error}
use Rattle.resolv_conf.specs.declared.error.Error.TheVariants.{ParseError, Io, TooLong, NoMemory}
use Rattle.resolv_conf.specs.declared.error.IoFault.TheVariants.{Read, NotUtf8}
use Rattle.resolv_conf.specs.Line.{LineGives, takes, refuses}
use Rattle.resolv_conf.specs.Words.{lines_of}

-- What one line, of this number, answers, and the configuration then.
abbrev pub LineAnswers : ℕ → List ℕ → ResolvConf → Result (Unit {0}) Error → ResolvConf → Type 0
LineAnswers n line conf (Ok u) new = IsUtf8 line × LineGives line conf (takes new)
LineAnswers n line conf (Err (ParseError m)) new = (m ≡ n) × IsUtf8 line × LineGives line conf (refuses new)
LineAnswers n line conf (Err (Io Read)) new = ⊥
LineAnswers n line conf (Err (Io (NotUtf8 m))) new = (m ≡ n) × ¬ (IsUtf8 line) × (new ≡ conf)
LineAnswers n line conf (Err TooLong) new = ⊥
LineAnswers n line conf (Err NoMemory) new = new ≡ conf

-- From the line of this number on the lines are taken in order, and the first bad one ends it.
-- Where memory is wanting, the lines before stand.
pub data LinesAnswer : ℕ → List (List ℕ) → ResolvConf → Result (Unit {0}) Error → ResolvConf → Type 0 where
  no_line : (n : ℕ) (conf : ResolvConf) → LinesAnswer n [] conf (Ok tt) conf
  bad_line : (n : ℕ) (line : List ℕ) (lines : List (List ℕ)) (conf new : ResolvConf) (e : Error)
      → LineAnswers n line conf (Err e) new → LinesAnswer n (line ∷ lines) conf (Err e) new
  good_line : (n : ℕ) (line : List ℕ) (lines : List (List ℕ)) (conf mid new : ResolvConf) (answer : Result (Unit {0}) Error)
      → LineAnswers n line conf (Ok tt) mid → LinesAnswer (n + 1) lines mid answer new → LinesAnswer n (line ∷ lines) conf answer new

-- What reading a text answers. It is read before a line is taken, so a text that is too long or
-- isn't read to its end changes nothing.
abbrev pub ParseAnswers : List ℕ → ResolvConf → Result (Unit {0}) Error → ResolvConf → Type 0
ParseAnswers text conf (Err TooLong) new = (most_text < length text) × (new ≡ conf)
ParseAnswers text conf (Err (Io Read)) new = new ≡ conf
ParseAnswers text conf (Err NoMemory) new = (new ≡ conf) ⊎ LinesAnswer 1 (lines_of text) conf (Err NoMemory) new
ParseAnswers text conf answer new = (length text ≤ most_text) × LinesAnswer 1 (lines_of text) conf answer new
