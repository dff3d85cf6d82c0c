-- The lines of a text, and the words of a line.
use Rattle.std.specs.Prelude.{◌==◌, ℕ, List, [], ◌∷◌, Bool, true, false, map, not, if◌then◌else◌}
use Rattle.std.specs.List.{filter, onto_first, slice_split}
use Rattle.std.specs.Char.{is_whitespace}
use Rattle.std.specs.Str.{chars, encode_utf8_all}

abbrev pub Words : Type 0
Words = List (List ℕ)

abbrev pub is_empty : List ℕ → Bool
is_empty [] = true
is_empty (c ∷ cs) = false

-- what stands between white space, of which Unicode says what it is
unfoldable pub words_of : List ℕ → Words
words_of line = map encode_utf8_all (filter (λ word. not (is_empty word)) (slice_split is_whitespace (chars line)))

-- Each line ends in a line feed, which the last one may lack.
abbrev pub lines_of : List ℕ → List (List ℕ)
lines_of [] = []
lines_of (c ∷ text) = if c == 10 then [] ∷ lines_of text else onto_first c (lines_of text)
