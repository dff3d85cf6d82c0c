-- The words behind the options: `PORT`, or `PORT TURNS`.
use Rattle.std.specs.Prelude.{ℕ, ◌==◌, Bool, false, if◌then◌else◌, List, [], ◌∷◌, Option, None, Some, Result, Ok, Err, option_and_then, option_map, String}
use Rattle.std.specs.Result.{result_ok}
use Rattle.std.specs.String.{string_bytes}
use Rattle.std.specs.declared.alloc.Global.{Global}
use Rattle.command_parts.specs.Numbers.{number_in}
use Rattle.forward_words.specs.declared.words.Asked.{Asked}
use Rattle.forward_words.specs.declared.wrong.Unasked.{Unasked}
use Rattle.forward_words.specs.declared.wrong.Unasked.TheVariants as wrongs

abbrev pub port_of : List ℕ → Option ℕ
port_of word = number_in 1 65535 word

abbrev pub turns_of : List ℕ → Option ℕ
turns_of word = number_in 1 18446744073709551615 word

abbrev pub begins_option : List ℕ → Bool
begins_option [] = false
begins_option (c ∷ word) = c == 45

-- what is wrong with a word that is no port
abbrev pub no_port : List ℕ → Unasked
no_port word = if begins_option word then wrongs.Option else wrongs.Port

abbrev pub asked_at : (turns : Option ℕ) → (port : ℕ) → Option Asked
asked_at turns port = option_map (λ n. record { port = port; turns = n }) turns

-- what the words ask for: at which port it is listened, and how many turns are made
abbrev pub asked_by : List (String Global) → Option Asked
asked_by [] = None
asked_by (port ∷ []) = None
asked_by (port ∷ turns ∷ []) = option_and_then (asked_at (turns_of (string_bytes turns))) (port_of (string_bytes port))
asked_by (port ∷ turns ∷ more ∷ words) = None

-- a number of turns, unless there are more words
abbrev pub turns_alone : List (String Global) → Option ℕ → Result ℕ Unasked
turns_alone more None = Err wrongs.Turns
turns_alone [] (Some n) = Ok n
turns_alone (word ∷ more) (Some n) = Err wrongs.More

-- how many turns are made, where these words stand behind the port
abbrev pub turns_in : List (String Global) → Result ℕ Unasked
turns_in [] = Ok 18446744073709551615
turns_in (turns ∷ more) = turns_alone more (turns_of (string_bytes turns))

abbrev pub with_turns : (port : ℕ) → Result ℕ Unasked → Result Asked Unasked
with_turns port (Ok n) = Ok (record { port = port; turns = n })
with_turns port (Err why) = Err why

abbrev pub command_at : (word : List ℕ) → (rest : List (String Global)) → (port : Option ℕ) → Result Asked Unasked
command_at word rest None = Err (no_port word)
command_at word rest (Some port) = with_turns port (turns_in rest)

-- What the words ask a program for: PORT alone is as good as no end. Or what is wrong with the first word that is wrong.
abbrev pub command_of : List (String Global) → Result Asked Unasked
command_of [] = Err wrongs.NoPort
command_of (port ∷ rest) = command_at (string_bytes port) rest (port_of (string_bytes port))

-- the same, if it is anything
abbrev pub asked_in : List (String Global) → Option Asked
asked_in words = result_ok (command_of words)
