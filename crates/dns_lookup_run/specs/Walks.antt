-- Which of the names are asked for, where suffixes are searched, and what of their answers is written.
use Rattle.std.specs.Prelude.{◌≡◌, ◌==◌, ◌&&◌, not, Bool, true, false, List, [], ◌∷◌, ◌++◌, length, Option, None, Some, Result, Ok, Err}
use Rattle.client_request.specs.declared.error.Error.{Error}
use Rattle.dns_base.specs.Header.{rcode_of}
use Rattle.dns_lookup_pages.specs.declared.short.Lacking.{Lacking}
use Rattle.dns_lookup_run.specs.Asking.{Answer, lack_in, or_lack}
use Rattle.dns_lookup_run.specs.declared.asking.Outcome.{Outcome}
use Rattle.dns_lookup_run.specs.declared.search.Try.{Try}
use Rattle.dns_lookup_words.specs.declared.manner.Ask.{Ask}

-- it says that there is no such name (RFC 2308 2.1)
abbrev pub is_no_name : Answer → Bool
is_no_name (Some (Ok message)) = rcode_of message == 3
is_no_name (Some (Err error)) = false
is_no_name None = false

-- An answer is passed by where there is no such name, and another one is to be tried for it.
abbrev pub passes_by : Try → (later : List Try) → Answer → Bool
passes_by one later answer = (one.more && not (length later == 0)) && is_no_name answer

-- the same of an outcome
abbrev pub passes_of : Try → (later : List Try) → Result Outcome Error → Bool
passes_of one later (Ok outcome) = passes_by one later outcome.answer
passes_of one later (Err error) = false

-- what is left behind those that are tried for the same name
abbrev pub behind_tries : (more : Bool) → List Try → List Try
behind_tries false later = later
behind_tries true [] = []
behind_tries true (one ∷ later) = behind_tries one.more later

-- Of all that may be asked these were asked in order and answered so; of the answers that were not passed by the first without data, where data
-- alone was to be written, lacks this; and these are left.
pub data Walks (all : List Try) : List Ask → List Answer → Option Lacking → List Try → Type 0 where
  walk_begins : Walks all [] [] None all
  walk_passes : (asks : List Ask) (answers : List Answer) (lack : Option Lacking) (one : Try) (later : List Try) (answer : Answer)
      → Walks all asks answers lack (one ∷ later) → passes_by one later answer ≡ true
      → Walks all (asks ++ one.ask ∷ []) (answers ++ answer ∷ []) lack later
  walk_tells : (asks : List Ask) (answers : List Answer) (lack : Option Lacking) (one : Try) (later : List Try) (answer : Answer)
      → Walks all asks answers lack (one ∷ later) → passes_by one later answer ≡ false
      → Walks all (asks ++ one.ask ∷ []) (answers ++ answer ∷ []) (or_lack lack (lack_in one.ask answer)) (behind_tries one.more later)
