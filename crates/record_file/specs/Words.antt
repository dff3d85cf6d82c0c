-- The words that name the file of a record.
use Rattle.std.specs.Prelude.{ℕ, if◌then◌else◌, List, [], ◌∷◌, Option, None, Some, String, codes}
use Rattle.std.specs.Str.{bytes_eq}
use Rattle.std.specs.String.{string_bytes}
use Rattle.std.specs.declared.alloc.Global.{Global}

-- the file that they name
unfoldable pub file_said : List (String Global) → Option (List ℕ)
file_said (option ∷ file ∷ behind) = if bytes_eq (string_bytes option) (codes "--record") then Some (string_bytes file) else None
file_said (word ∷ []) = None
file_said [] = None

-- the words behind that
unfoldable pub words_behind : List (String Global) → List (String Global)
words_behind (option ∷ file ∷ behind) = if bytes_eq (string_bytes option) (codes "--record") then behind else option ∷ file ∷ behind
words_behind (word ∷ []) = word ∷ []
words_behind [] = []
