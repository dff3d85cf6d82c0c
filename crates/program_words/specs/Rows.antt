-- Rows of options: the name of one, how much of it a word must have, and what it says.
use Rattle.std.specs.Prelude.{ℕ, Bool, ◌&&◌, if◌then◌else◌, List, [], ◌∷◌, map, length, take, nat_le, Option, None, Some}
use Rattle.std.specs.Borrow.{Bor}
use Rattle.std.specs.Str.{bytes_eq, str_eq_ignore_ascii_case}
use Rattle.program_words.specs.declared.row.Letters.{Letters}
use Rattle.program_words.specs.declared.row.Letters.TheVariants.{First, Whole}

-- A name, how much of it must stand there, and what it says.
abbrev pub Row : Type 0 → Type 0
Row S = List ℕ × Letters × S

-- the rows of the code as those of the specification
abbrev pub told : {S : Type 0} → List (Bor (List ℕ) × Letters × S) → List (Row S)
told rows = map (λ row. (row.0.now, row.1, row.2)) rows

-- whether a text is a name cut short, in any case, and has letters enough
abbrev pub is_short_for : ℕ → (name text : List ℕ) → Bool
is_short_for least name text =
    nat_le least (length text) && (nat_le (length text) (length name) && str_eq_ignore_ascii_case (take (length text) name) text)

-- whether a text stands for a name
abbrev pub is_for : Letters → (name text : List ℕ) → Bool
is_for Whole name text = bytes_eq name text
is_for (First least) name text = is_short_for least name text

-- what the first row says for whose name a text stands
abbrev pub said_in : {S : Type 0} → List (Row S) → List ℕ → Option S
said_in [] text = None
said_in (row ∷ rows) text = if is_for row.1 row.0 text then Some row.2 else said_in rows text
