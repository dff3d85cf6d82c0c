-- The words of the command line.
use Rattle.std.specs.Prelude.{ℕ, ◌==◌, Bool, if◌then◌else◌, List, [], ◌∷◌, Option, Some, None, codes, String}
use Rattle.std.specs.Cmp.Lexicographic.{pointwise}
use Rattle.std.specs.String.{string_bytes}
use Rattle.std.specs.declared.alloc.Global.{Global}
use Rattle.dnsq_run.specs.declared.usage.Command.{Command}
use Rattle.dnsq_run.specs.declared.usage.Command.TheVariants.{Replay, Conf}

-- a word is this text
abbrev pub is_word : List ℕ → String Global → Bool
is_word text word = pointwise ◌==◌ (string_bytes word) text

-- the command of the words
abbrev pub command_of : List (String Global) → Option Command
command_of [] = None
command_of (word ∷ []) = if is_word (codes "replay") word then Some Replay else if is_word (codes "conf") word then Some Conf else None
command_of (word ∷ next ∷ words) = None
