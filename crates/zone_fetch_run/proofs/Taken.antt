-- Words that are taken, one after another.
use Rattle.std.proofs.Common.{◌≡◌, ◌+◌, ℕ, List, [], ◌∷◌, length, refl, sym, subst, arith, Result, Ok, Err, String, Global}
use Rattle.std.specs.String.{string_bytes}
use Rattle.zone_fetch_run.specs.declared.command.Command.{Command}
use Rattle.zone_fetch_run.specs.declared.command.Said.{Said}
use Rattle.zone_fetch_run.specs.declared.wrong.Fault.{Fault}
use Rattle.zone_fetch_run.specs.declared.wrong.Fault.TheVariants as faults
use Rattle.zone_fetch_run.specs.declared.wrong.Refusal.{Refusal}
use Rattle.zone_fetch_run.specs.declared.wrong.Refusal.TheVariants.{Word}
use Rattle.zone_fetch_run.specs.declared.wrong.WordFault.{WordFault}
use Rattle.zone_fetch_run.specs.declared.wrong.WordFault.TheVariants as word_faults
use Rattle.zone_fetch_run.specs.Words.{AllAnswer, Answers, IsCommand, IsJudged, IsSaidBy, WordGives, WordsGive, bad_word, command_in, fault_at, good_word, no_word, nothing_said, said_whole, wrong_word}

abbrev pub Words : Type 0
Words = List (String Global)

-- the first of the words that are left is not taken
stops : (n : ℕ) (word : String Global) (behind : Words) (said new : Said) (fault : WordFault) (Gives : Result Said Refusal → Type 0)
    → ((answer : Result Said Refusal) → WordsGive n (word ∷ behind) said answer → Gives answer)
    → Answers (WordGives (string_bytes word) said) (Err fault) new → AllAnswer Gives (Err (fault_at n fault)) new
stops n word behind said new (word_faults.Wrong wrong) Gives follows h = follows (Err (Word n wrong)) (bad_word n word behind said wrong h)
stops n word behind said new word_faults.NoMemory Gives follows h = tt

pub stops_at : (n : ℕ) (left : Words) (word : String Global) (behind : Words) (text : List ℕ) (said new : Said) (fault : WordFault) (told : Fault)
    (Gives : Result Said Refusal → Type 0) → left ≡ word ∷ behind → text ≡ string_bytes word → told ≡ fault_at n fault
    → ((answer : Result Said Refusal) → WordsGive n left said answer → Gives answer)
    → Answers (WordGives text said) (Err fault) new → AllAnswer Gives (Err told) new
stops_at n left word behind text said new fault told Gives is reads tells follows h =
    let P : Words → Type 0 = λ ws. (answer : Result Said Refusal) → WordsGive n ws said answer → Gives answer in
    let Q : List ℕ → Type 0 = λ t. Answers (WordGives t said) (Err fault) new in
    let R : Fault → Type 0 = λ f. AllAnswer Gives (Err f) new in
    subst R (sym tells) (stops n word behind said new fault Gives (subst P is follows) (subst Q reads h))

-- or it is taken, and then those behind it
pub goes_on : (n : ℕ) (left : Words) (word : String Global) (behind : Words) (text : List ℕ) (said mid : Said) (answer : Result Said Refusal)
    → left ≡ word ∷ behind → text ≡ string_bytes word → WordGives text said (Ok mid) → WordsGive (n + 1) behind mid answer → WordsGive n left said answer
goes_on n left word behind text said mid answer is reads h rest =
    let P : Words → Type 0 = λ ws. WordsGive n ws said answer in
    let Q : List ℕ → Type 0 = λ t. WordGives t said (Ok mid) in
    subst P (sym is) (good_word n word behind said mid answer (subst Q reads h) rest)

pub ends : (n : ℕ) (left : Words) (said : Said) → length left ≡ 0 → WordsGive n left said (Ok said)
ends n [] said none = no_word n said
ends n (word ∷ left) said none = absurd (omega arith)

-- ---- what is said is a command, or no whole one

abbrev whole : Said → Result Said Refusal
whole said = Ok said

abbrev commanding : Command → Result Command Refusal
commanding command = Ok command

abbrev refusing : Refusal → Result Command Refusal
refusing refusal = Err refusal

pub is_command : (words : Words) (said : Said) (command : Command) → WordsGive 0 words nothing_said (whole said) → commanding command ≡ command_in said → IsCommand words (commanding command)
is_command words said command h is = said_whole said h is

pub is_refused : (words : Words) (said : Said) (refusal : Refusal) → WordsGive 0 words nothing_said (whole said) → refusing refusal ≡ command_in said → IsCommand words (refusing refusal)
is_refused words said refusal h is = said_whole said h is

-- or a word is wrong
pub not_said : (words : Words) (fault : Fault) → IsSaidBy words (Err fault) → IsJudged words (Err fault)
not_said words (faults.Refused refusal) h = wrong_word refusal h refl
not_said words faults.NoMemory h = tt
