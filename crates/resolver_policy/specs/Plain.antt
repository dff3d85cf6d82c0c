-- The octets of a line that are read.
use Rattle.std.specs.Prelude.{◌==◌, ◌||◌, ◌&&◌, ℕ, List, [], ◌∷◌, Bool, true, if◌then◌else◌}

-- a space, a tab, or the carriage return of a file that another system wrote
abbrev pub is_blank : ℕ → Bool
is_blank c = c == 32 || (c == 9 || c == 13)

-- a semicolon or a number sign
abbrev pub is_sign : ℕ → Bool
is_sign c = c == 59 || c == 35

-- a line up to its comment: a sign begins one where a blank, or nothing, stands before it
abbrev pub before_comment : (is_behind_blank : Bool) → List ℕ → List ℕ
before_comment is_behind_blank [] = []
before_comment is_behind_blank (c ∷ line) = if is_behind_blank && is_sign c then [] else c ∷ before_comment (is_blank c) line

abbrev pub uncommented : List ℕ → List ℕ
uncommented line = before_comment true line
